-- What a procedure makes of the bytes that it read, it makes of all data that begin with them.
use Rattle.std.proofs.Common.{◌≡◌, ℕ, ℤ, pos, Bool, true, false, if◌then◌else◌, ◌==◌, List, [], ◌∷◌, ◌++◌, Result, Ok, Err, refl, ap, ◌∙◌, append-nil}
use Rattle.gier_word.specs.Operations.{is_in_range}
use Rattle.gier_word.specs.Standard.{Reading, integer_read, sign_read, first_digit_read, digits_read, character_read, behind_byte, at_byte, is_digit, is_skipped, with_digit}
use Rattle.gier_word.specs.declared.alarm.Alarm.{Alarm}
use Rattle.gier_word.specs.declared.alarm.Alarm.TheVariants.{Data}
use Rattle.gier_library.specs.Data.{Makes}

-- a reading that didn't ask for more than these bytes is the same with more behind them
abbrev pub IsSettled : (List ℕ → Reading) → List ℕ → List ℕ → Type 0
IsSettled reads bytes rest = (reads bytes).meets_end ≡ false → reads (bytes ++ rest) ≡ reads bytes

one_of : (first : Bool) (x x' y y' : Reading) → (x.meets_end ≡ false → x' ≡ x) → (y.meets_end ≡ false → y' ≡ y) → (if first then behind_byte x else y).meets_end ≡ false → (if first then behind_byte x' else y') ≡ (if first then behind_byte x else y)
one_of true x x' y y' same_x same_y h = ap behind_byte (same_x h)
one_of false x x' y y' same_x same_y h = same_y h

digits_settled : (negative : Bool) (n : ℤ) (bytes rest : List ℕ) → IsSettled (digits_read negative n) bytes rest
digits_settled negative n [] rest h = absurd (cc)
digits_settled negative n (byte ∷ bytes) rest h =
    let more : ℤ = with_digit negative n byte in
    on (is_digit byte) (is_in_range more) (digits_read negative more bytes) (digits_read negative more (bytes ++ rest)) (digits_settled negative more bytes rest) h
  where
    on : (digit fits : Bool) (x x' : Reading) → (x.meets_end ≡ false → x' ≡ x) → (if digit then (if fits then behind_byte x else at_byte (Err Data)) else at_byte (Ok n)).meets_end ≡ false → (if digit then (if fits then behind_byte x' else at_byte (Err Data)) else at_byte (Ok n)) ≡ (if digit then (if fits then behind_byte x else at_byte (Err Data)) else at_byte (Ok n))
    on true fits x x' same k = one_of fits x x' (at_byte (Err Data)) (at_byte (Err Data)) same (λ e. refl) k
    on false fits x x' same k = refl

first_digit_settled : (negative : Bool) (bytes rest : List ℕ) → IsSettled (first_digit_read negative) bytes rest
first_digit_settled negative [] rest h = absurd (cc)
first_digit_settled negative (byte ∷ bytes) rest h =
    let n : ℤ = with_digit negative (pos 0) byte in
    one_of (is_digit byte) (digits_read negative n bytes) (digits_read negative n (bytes ++ rest)) (at_byte (Err Data)) (at_byte (Err Data)) (digits_settled negative n bytes rest) (λ e. refl) h

sign_settled : (byte : ℕ) (bytes rest : List ℕ) → IsSettled (sign_read byte) bytes rest
sign_settled byte bytes rest h =
    one_of (byte == 45) (first_digit_read true bytes) (first_digit_read true (bytes ++ rest))
    (if byte == 43 then behind_byte (first_digit_read false bytes) else first_digit_read false (byte ∷ bytes))
    (if byte == 43 then behind_byte (first_digit_read false (bytes ++ rest)) else first_digit_read false (byte ∷ (bytes ++ rest)))
    (first_digit_settled true bytes rest)
    (one_of (byte == 43) (first_digit_read false bytes) (first_digit_read false (bytes ++ rest)) (first_digit_read false (byte ∷ bytes)) (first_digit_read false (byte ∷ (bytes ++ rest))) (first_digit_settled false bytes rest) (first_digit_settled false (byte ∷ bytes) rest))
    h

pub integer_settled : (bytes rest : List ℕ) → IsSettled integer_read bytes rest
integer_settled [] rest h = absurd (cc)
integer_settled (byte ∷ bytes) rest h =
    one_of (is_skipped byte) (integer_read bytes) (integer_read (bytes ++ rest)) (sign_read byte bytes) (sign_read byte (bytes ++ rest)) (integer_settled bytes rest) (sign_settled byte bytes rest) h

pub character_settled : (bytes rest : List ℕ) → IsSettled character_read bytes rest
character_settled [] rest h = absurd (cc)
character_settled (byte ∷ bytes) rest h = refl

-- where the data have ended nothing stands behind these bytes, and elsewhere anything may
pub makes_on_all : (reads : List ℕ → Reading) (bytes rest : List ℕ) (outcome : Result ℤ Alarm) (ended : Bool) → IsSettled reads bytes rest → Makes (reads bytes) bytes outcome ended → (ended ≡ true → rest ≡ []) → Makes (reads (bytes ++ rest)) bytes outcome ended
makes_on_all reads bytes rest outcome ended settled makes none = rw (same (reads bytes).meets_end refl) makes where
  same : (meets : Bool) → (reads bytes).meets_end ≡ meets → reads (bytes ++ rest) ≡ reads bytes
  same true e = ap (λ (l : List ℕ). reads (bytes ++ l)) (none (makes.meets e)) ∙ ap reads (append-nil bytes)
  same false e = settled e
