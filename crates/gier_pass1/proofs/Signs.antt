-- The signs by the first byte: the longest sign with which some bytes begin is one that this byte begins.
use Rattle.std.proofs.Common.{◌≡◌, ◌∙◌, ℕ, Bool, true, false, if◌then◌else◌, List, ◌∷◌, length, Option, None, Some, eqb, refl, sym, subst, arith}
use Rattle.std.specs.Prelude.{◌&&◌, ◌-◌}
use Rattle.std.proofs.lemmas.Bool.Decides.{nat_tests}
use Rattle.gier_symbol.specs.declared.tag.Tag.{Tag}
use Rattle.gier_symbol.specs.declared.tag.Tag.TheVariants.{Plus, Minus, Times, Power, Equal, Comma, Semicolon, LeftParenthesis, RightParenthesis, LeftBracket, RightBracket}
use Rattle.gier_symbol.specs.Bytes.{sign_before}
use Rattle.gier_symbol.specs.Tags.{name_of}
use Rattle.gier_pass1.specs.Bytes.{sign_of}

true_and : (a b : ℕ) → eqb a b ≡ true → eqb b a ≡ true
true_and a b h = grind (arith, nat_tests)

pub false_and : (a b : ℕ) → eqb a b ≡ false → eqb b a ≡ false
false_and a b h = grind (arith, nat_tests)

flip_by : (a b : ℕ) (test : Bool) → eqb a b ≡ test → eqb a b ≡ eqb b a
flip_by a b true h = h ∙ sym (true_and a b h)
flip_by a b false h = h ∙ sym (false_and a b h)

pub flip : (a b : ℕ) → eqb a b ≡ eqb b a
flip a b = flip_by a b (eqb a b) refl

one_by : (test : Bool) (tag : Tag) (x y : Option Tag) → x ≡ y → (if test && true then Some tag else x) ≡ (if test then Some tag else y)
one_by true tag x y h = refl
one_by false tag x y h = h

one : (sign byte : ℕ) (tag : Tag) (x y : Option Tag) → x ≡ y
    → (if eqb sign byte && true then Some tag else x) ≡ (if eqb byte sign then Some tag else y)
one sign byte tag x y h = rw (flip sign byte) (one_by (eqb byte sign) tag x y h)

-- a sign of one byte, where the byte begins no double one
pub sign_alone : (byte : ℕ) (rest : List ℕ) → eqb byte 60 ≡ false → eqb byte 62 ≡ false → eqb byte 58 ≡ false
    → sign_before (byte ∷ rest) ≡ sign_of byte
sign_alone byte rest less greater colon =
    rw (false_and byte 60 less, false_and byte 62 greater, false_and byte 58 colon)
    (one 43 byte Plus _ _ (one 45 byte Minus _ _ (one 42 byte Times _ _
    (one 94 byte Power _ _ (one 61 byte Equal _ _ (one 44 byte Comma _ _
    (one 59 byte Semicolon _ _ (one 40 byte LeftParenthesis _ _
    (one 41 byte RightParenthesis _ _ (one 91 byte LeftBracket _ _ (one 93 byte RightBracket _ _ refl)))))))))))

abbrev pub Single : Option Tag → Type 0
Single None = Unit {0}
Single (Some tag) = length (name_of tag) - 1 ≡ 0

pub single : (o : Option Tag) (tag : Tag) → Single o → o ≡ Some tag → length (name_of tag) - 1 ≡ 0
single o tag h is = subst (λ (t : Option Tag). Single t) is h

either : (test : Bool) (x y : Option Tag) → Single x → Single y → Single (if test then x else y)
either true x y h k = h
either false x y h k = k

-- the name of such a sign has one byte
pub sign_single : (byte : ℕ) → Single (sign_of byte)
sign_single byte =
    either (eqb byte 43) _ _ refl (either (eqb byte 45) _ _ refl
    (either (eqb byte 42) _ _ refl (either (eqb byte 94) _ _ refl
    (either (eqb byte 61) _ _ refl (either (eqb byte 44) _ _ refl
    (either (eqb byte 59) _ _ refl (either (eqb byte 40) _ _ refl
    (either (eqb byte 41) _ _ refl (either (eqb byte 91) _ _ refl (either (eqb byte 93) _ _ refl tt))))))))))
