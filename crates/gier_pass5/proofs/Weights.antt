-- What symbols weigh, and which texts they stand in.
use Rattle.std.proofs.Common.{◌≡◌, ◌≤◌, ◌+◌, ◌++◌, ◌∷◌, ℕ, List, [], Bool, true, false, arith, length, refl}
use Rattle.std.specs.Prelude.{All, IsTrue, IfSome, Option, Some, None, if◌then◌else◌}
use Rattle.std.proofs.lemmas.Bool.Decides.{nat_tests}
use Rattle.std.proofs.lemmas.List.Elements.{All-nil, All-cons, All-tail}
use Rattle.gier_symbol.specs.declared.symbol.Symbol.{Symbol}
use Rattle.gier_symbol.specs.declared.tag.Tag.TheVariants.{Description, Entry, Used, Identifier}
use Rattle.gier_symbol.specs.Symbols.{IsSymbol}
use Rattle.gier_symbol.specs.Texts.{is_tag_of, stands_in}
use Rattle.gier_text.specs.Potential.{potential, potential_of, is_numbered}
use Rattle.gier_pass5.specs.Letters.{IsWritable}
use Rattle.gier_pass5.specs.Invariant.{IsEntry, IsHeldNumbered, potential_held}
use Rattle.gier_pass5.specs.Steps.{entry_and_description}

pub weight_append : (text : ℕ) (xs ys : List Symbol) → potential text (xs ++ ys) ≡ potential text xs + potential text ys
weight_append text [] ys = omega arith
weight_append text (x ∷ xs) ys = omega (arith, weight_append text xs ys)

one_at_least : (test : Bool) → 1 ≤ (if test then 2 else 1)
one_at_least true = omega arith
one_at_least false = omega arith

pub each_weighs : (xs : List Symbol) → length xs ≤ potential 5 xs
each_weighs [] = omega arith
each_weighs (x ∷ xs) = omega (arith, each_weighs xs, one_at_least (is_tag_of Used x.tag))

entry_letter : (n : ℕ) → is_tag_of Entry n ≡ true → stands_in 5 n ≡ true
entry_letter n h = grind (arith, nat_tests)

entry_weight : (n : ℕ) → is_tag_of Entry n ≡ true → potential_of 5 n ≡ 1
entry_weight n h = let e : is_tag_of Used n ≡ false = grind (arith, nat_tests) in rw e refl

description_letter : (n : ℕ) → is_tag_of Description n ≡ true → stands_in 5 n ≡ true
description_letter n h = grind (arith, nat_tests)

description_weight : (n : ℕ) → is_tag_of Description n ≡ true → potential_of 5 n ≡ 1
description_weight n h = let e : is_tag_of Used n ≡ false = grind (arith, nat_tests) in rw e refl

description_weighed : (n : ℕ) → is_tag_of Description n ≡ true → potential_of 4 n ≡ 1
description_weighed n h = let e : is_tag_of Identifier n ≡ false = grind (arith, nat_tests) in rw e refl

-- a description, and an entry that was held before it, are letters of text 5
pub described_letters : (entry : Option Symbol) (s : Symbol) → IfSome entry IsEntry → IsSymbol s → is_tag_of Description s.tag ≡ true → All IsWritable (entry_and_description entry s)
described_letters None s h symbol is = All-cons IsWritable s [] (record { symbol = symbol; letter = description_letter s.tag is }) (All-nil IsWritable)
described_letters (Some entry) s h symbol is = All-cons IsWritable entry (s ∷ []) (record { symbol = h.symbol; letter = entry_letter entry.tag h.tag }) (All-cons IsWritable s [] (record { symbol = symbol; letter = description_letter s.tag is }) (All-nil IsWritable))

-- together they weigh what was taken
pub described_weight : (entry : Option Symbol) (s : Symbol) → IfSome entry IsEntry → is_tag_of Description s.tag ≡ true → potential 5 (entry_and_description entry s) ≤ potential_held entry + potential_of 4 s.tag
described_weight None s h is = omega (arith, description_weight s.tag is, description_weighed s.tag is)
described_weight (Some entry) s h is = omega (arith, description_weight s.tag is, description_weighed s.tag is, entry_weight entry.tag h.tag)

pub described_numbered : (bytes : ℕ) (entry : Option Symbol) (s : Symbol) → IsTrue (is_numbered 4 bytes s) → IsHeldNumbered bytes entry → All (λ x. IsTrue (is_numbered 5 bytes x)) (entry_and_description entry s)
described_numbered bytes None s numbered h = All-cons (λ x. IsTrue (is_numbered 5 bytes x)) s [] numbered (All-nil (λ x. IsTrue (is_numbered 5 bytes x)))
described_numbered bytes (Some entry) s numbered h = All-cons (λ x. IsTrue (is_numbered 5 bytes x)) entry (s ∷ []) h (All-cons (λ x. IsTrue (is_numbered 5 bytes x)) s [] numbered (All-nil (λ x. IsTrue (is_numbered 5 bytes x))))

pub all_left : (P : Symbol → Type 0) (xs ys : List Symbol) → All P (xs ++ ys) → All P xs
all_left P [] ys h = All-nil P
all_left P (x ∷ xs) ys h = All-cons P x xs (h 0 x (omega arith)) (all_left P xs ys (All-tail P x (xs ++ ys) h))

pub all_last : (P : Symbol → Type 0) (xs : List Symbol) (s : Symbol) → All P (xs ++ s ∷ []) → P s
all_last P [] s h = h 0 s (omega arith)
all_last P (x ∷ xs) s h = all_last P xs s (All-tail P x (xs ++ s ∷ []) h)
