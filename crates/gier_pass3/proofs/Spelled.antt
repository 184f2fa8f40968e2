-- The trees that are built of symbols are spelled as those symbols.
use Rattle.std.proofs.Common.{◌≡◌, ◌∙◌, ℕ, zero, suc, Bool, true, false, List, [], ◌∷◌, ◌++◌, refl, sym, ap, subst}
use Rattle.std.specs.Prelude.{◌==◌, ◌&&◌, Option, None, Some}
use Rattle.std.specs.List.{find}
use Rattle.std.proofs.lemmas.Bool.{false≢true}
use Rattle.std.proofs.lemmas.Option.{none-some}
use Rattle.gier_symbol.specs.declared.symbol.Symbol.{Symbol}
use Rattle.gier_symbol.specs.declared.tag.Tag.TheVariants.{Identifier, Number, StringByte}
use Rattle.gier_symbol.specs.Tags.{number_of}
use Rattle.gier_tree.specs.Trees.{Program, MkProgram}
use Rattle.gier_tree.specs.Spell.{spell_program}
use Rattle.gier_tree.specs.Signs.{Sign, SName, SNumber, SByte, SComma, sign_tag, plain_signs, has_tag, plain_by, sign_by, sign_of}
use Rattle.gier_tree.specs.Wanted.{Item, Want, MayNot, WantFurther, WantProgram, TreeOf, Trees}
use Rattle.gier_tree.specs.Taking.{Act, Refuse, Pass, Push, act, want_by, same_sign}
use Rattle.gier_tree.specs.Structure.{split, with_tree, gather, build_act, build_at, build, first_tree, program_spelled}
use Rattle.gier_pass3.proofs.Bare.{both}
use Rattle.gier_pass3.proofs.EntryWords.{some_same, find_holds, same_number}
use Rattle.gier_pass3.proofs.Spelling.{spell_item, spell_all}
use Rattle.gier_pass3.proofs.SpelledRows.{SpelledBy, value_of, symbol_of, is_strange, is_wanted, row_spelled}

-- a symbol that isn't strange is that of its sign
same_symbol : (s : Symbol) (t v : ℕ) → s.tag ≡ t → s.value ≡ v → s ≡ record { tag = t; value = v; line = s.line }
same_symbol s t v e h = ap (λ n. let x : Symbol = record { tag = n; value = s.value; line = s.line } in x) e ∙ ap (λ n. let x : Symbol = record { tag = t; value = n; line = s.line } in x) h

no_value_by : (g : Sign) → (number_of (sign_tag g) == number_of Identifier) ≡ false → (number_of (sign_tag g) == number_of Number) ≡ false → (number_of (sign_tag g) == number_of StringByte) ≡ false → value_of g ≡ 0
no_value_by (SName x) a b c = absurd (false≢true (sym a))
no_value_by (SNumber v) a b c = absurd (false≢true (sym b))
no_value_by (SByte v) a b c = absurd (false≢true (sym c))
no_value_by _ a b c = refl

plain_symbol : (found : Option Sign) (none : Bool) (s : Symbol) → (s.tag == number_of Identifier) ≡ false → (s.tag == number_of Number) ≡ false → (s.tag == number_of StringByte) ≡ false → find (has_tag s.tag) plain_signs ≡ found → (s.value == 0) ≡ none → is_strange (plain_by found none) ≡ false → s ≡ symbol_of (plain_by found none) s.line
plain_symbol None none s a b c is z h = absurd (false≢true (sym h))
plain_symbol (Some g) false s a b c is z h = absurd (false≢true (sym h))
plain_symbol (Some g) true s a b c is z h =
    let tag : s.tag ≡ number_of (sign_tag g) = same_number s.tag (number_of (sign_tag g)) (find_holds (has_tag s.tag) g plain_signs is) in
    let none = no_value_by g (subst (λ n. (n == number_of Identifier) ≡ false) tag a) (subst (λ n. (n == number_of Number) ≡ false) tag b) (subst (λ n. (n == number_of StringByte) ≡ false) tag c) in
    same_symbol s (number_of (sign_tag g)) (value_of g) tag (same_number s.value 0 z ∙ sym none)

symbol_by : (name number byte : Bool) (s : Symbol) → (s.tag == number_of Identifier) ≡ name → (s.tag == number_of Number) ≡ number → (s.tag == number_of StringByte) ≡ byte → is_strange (sign_by name number byte s.tag s.value) ≡ false → s ≡ symbol_of (sign_by name number byte s.tag s.value) s.line
symbol_by true number byte s a b c h = same_symbol s 3 s.value (same_number s.tag 3 a) refl
symbol_by false true byte s a b c h = same_symbol s 4 s.value (same_number s.tag 4 b) refl
symbol_by false false true s a b c h = same_symbol s 6 s.value (same_number s.tag 6 c) refl
symbol_by false false false s a b c h = plain_symbol (find (has_tag s.tag) plain_signs) (s.value == 0) s a b c refl refl h

symbol_taken : (s : Symbol) → is_strange (sign_of s) ≡ false → s ≡ symbol_of (sign_of s) s.line
symbol_taken s h = symbol_by (s.tag == number_of Identifier) (s.tag == number_of Number) (s.tag == number_of StringByte) s refl refl refl h

-- the items that are pushed want no sign alone but those that a program has
abbrev all_wanted : List Item → Bool
all_wanted [] = true
all_wanted (i ∷ st) = is_wanted i && all_wanted st

abbrev pushes_wanted : {T : Type 0} → Act T → Bool
pushes_wanted Refuse = true
pushes_wanted (Pass t) = true
pushes_wanted (Push is f) = all_wanted is

want_wanted : (same : Bool) (l : ℕ) → pushes_wanted (want_by same l) ≡ true
want_wanted true l = refl
want_wanted false l = refl

row_wanted : (g : Sign) (i : Item) (l : ℕ) → pushes_wanted (act i g l) ≡ true
row_wanted g (Want h) l = want_wanted (same_sign h g) l
row_wanted SComma (WantFurther zero) l = refl
row_wanted SComma (WantFurther (suc n)) l = refl
row_wanted SComma _ l = refl
row_wanted _ MayNot l = refl
row_wanted _ _ l = refl

wanted_append : (is st : List Item) → all_wanted is ≡ true → all_wanted st ≡ true → all_wanted (is ++ st) ≡ true
wanted_append [] st p q = q
wanted_append (i ∷ is) st p q = let b = both (is_wanted i) (all_wanted is) p in subst (λ x. (x && all_wanted (is ++ st)) ≡ true) (sym b.0) (wanted_append is st b.1 q)

split_spelled : (is st : List Item) (us : Trees (is ++ st)) (k : List Symbol) → spell_all (is ++ st) us k ≡ spell_all is (split is st us).0 (spell_all st (split is st us).1 k)
split_spelled [] st us k = refl
split_spelled (i ∷ is) st us k = ap (spell_item i us.0) (split_spelled is st us.1 k)

-- one symbol
passed_spelled : (i : Item) (st : List Item) (t : TreeOf i) (below : Option (Trees st)) (ts : Trees (i ∷ st)) (whole : List Symbol) → ((k : List Symbol) → spell_item i t k ≡ k) → ((us : Trees st) → below ≡ Some us → spell_all st us [] ≡ whole) → with_tree t below ≡ Some ts → spell_all (i ∷ st) ts [] ≡ whole
passed_spelled i st t None ts whole row go h = absurd (none-some ts h)
passed_spelled i st t (Some us) ts whole row go h = ap (λ (x : Trees (i ∷ st)). spell_all (i ∷ st) x []) (sym (some_same (t, us) ts h)) ∙ row (spell_all st us []) ∙ go us refl

pushed_spelled : (i : Item) (is st : List Item) (f : Trees is → TreeOf i) (o : Option (Trees (is ++ st))) (ts : Trees (i ∷ st)) (s : Symbol) (w : List Symbol) → ((us : Trees is) (k : List Symbol) → spell_item i (f us) k ≡ s ∷ spell_all is us k) → ((us : Trees (is ++ st)) → o ≡ Some us → spell_all (is ++ st) us [] ≡ w) → gather is st f o ≡ Some ts → spell_all (i ∷ st) ts [] ≡ s ∷ w
pushed_spelled i is st f None ts s w row go h = absurd (none-some ts h)
pushed_spelled i is st f (Some us) ts s w row go h =
    let r = split is st us in
    ap (λ (x : Trees (i ∷ st)). spell_all (i ∷ st) x []) (sym (some_same (f r.0, r.1) ts h)) ∙ row r.0 (spell_all st r.1 []) ∙ ap (λ l. s ∷ l) (sym (split_spelled is st us []) ∙ go us refl)

act_spelled : (i : Item) (a : Act (TreeOf i)) (st : List Item) (s : Symbol) (w : List Symbol) (below : Option (Trees st)) (ts : Trees (i ∷ st)) → SpelledBy i (sign_of s) s.line a → pushes_wanted a ≡ true → all_wanted st ≡ true → ((next : List Item) (us : Trees next) → all_wanted next ≡ true → build w next ≡ Some us → spell_all next us [] ≡ w) → ((us : Trees st) → below ≡ Some us → spell_all st us [] ≡ s ∷ w) → build_act a st (build w) below ≡ Some ts → spell_all (i ∷ st) ts [] ≡ s ∷ w
act_spelled i Refuse st s w below ts row p q go rest h = absurd (none-some ts h)
act_spelled i (Pass t) st s w below ts row p q go rest h = passed_spelled i st t below ts (s ∷ w) row rest h
act_spelled i (Push is f) st s w below ts row p q go rest h =
    let is_it = symbol_taken s row.0 in
    pushed_spelled i is st f (build w (is ++ st)) ts s w (λ us k. row.1 us k ∙ ap (λ x. x ∷ spell_all is us k) (sym is_it)) (λ us e. go (is ++ st) us (wanted_append is st p q) e) h

at_spelled : (s : Symbol) (w : List Symbol) (st : List Item) (ts : Trees st) → all_wanted st ≡ true → ((next : List Item) (us : Trees next) → all_wanted next ≡ true → build w next ≡ Some us → spell_all next us [] ≡ w) → build_at (sign_of s) s.line (build w) st ≡ Some ts → spell_all st ts [] ≡ s ∷ w
at_spelled s w [] ts q go h = absurd (none-some ts h)
at_spelled s w (i ∷ st) ts q go h =
    let b = both (is_wanted i) (all_wanted st) q in
    act_spelled i (act i (sign_of s) s.line) st s w (build_at (sign_of s) s.line (build w) st) ts (row_spelled i (sign_of s) s.line b.0) (row_wanted (sign_of s) i s.line) b.1 go (λ us e. at_spelled s w st us b.1 go e) h

pub build_spelled : (w : List Symbol) (st : List Item) (ts : Trees st) → all_wanted st ≡ true → build w st ≡ Some ts → spell_all st ts [] ≡ w
build_spelled [] [] ts q h = refl
build_spelled [] (i ∷ st) ts q h = absurd (none-some ts h)
build_spelled (s ∷ w) st ts q h = at_spelled s w st ts q (λ next us e b. build_spelled w next us e b) h

-- a program
whole_spelled : (o : Option (Trees (WantProgram ∷ []))) (w : List Symbol) (p : Program) → build w (WantProgram ∷ []) ≡ o → first_tree o ≡ Some p → spell_program p ≡ w
whole_spelled None w p e h = absurd (none-some p h)
whole_spelled (Some (MkProgram ls g l, u)) w p e h = ap spell_program (sym (some_same (MkProgram ls g l) p h)) ∙ build_spelled w (WantProgram ∷ []) (MkProgram ls g l, u) refl e

pub written_spelled : (w : List Symbol) (p : Program) → program_spelled w ≡ Some p → spell_program p ≡ w
written_spelled w p h = whole_spelled (build w (WantProgram ∷ [])) w p refl h
