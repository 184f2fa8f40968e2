-- What the entries of a stack may still write, when one is put on it or taken away.
use Rattle.std.proofs.Common.{◌<◌, ◌≡◌, ℕ, zero, suc, ◌+◌, ◌*◌, ◌-◌, ◌≤◌, ◌%◌, List, [], ◌∷◌, length, drop, get_or, refl, ap, ◌∙◌, arith, rules, add-one}
use Rattle.std.proofs.lemmas.List.{get_or_append_left, places}
use Rattle.std.proofs.Math.Seq.{get_or-append_right}
use Rattle.std.specs.Prelude.{Option, None, Some, IfSome}
use Rattle.gier_grammar.specs.declared.stack_entry.StackEntry.{StackEntry}
use Rattle.gier_text.specs.Lists.{TableList, word_at, with_entry, cut_to}
use Rattle.gier_grammar.specs.declared.grammar_symbol.GrammarSymbol.{GrammarSymbol}
use Rattle.gier_grammar.specs.GrammarSymbols.{credit_at, credit_of, credits}
use Rattle.gier_pass3.specs.Lists.{credit_until, credit_in}

until_same : (a b : TableList) (n : ℕ) → ((k : ℕ) → k < n → word_at a k 0 ≡ word_at b k 0) → credit_until a n ≡ credit_until b n
until_same a b zero same = refl
until_same a b (suc n) same = rw (until_same a b n (λ k lt. same k (omega arith)), same n (omega arith)) refl

kept_word : (list : TableList) (word k : ℕ) → list.width ≡ 1 → length list.words ≡ list.count → k < list.count → word_at (with_entry list (word ∷ [])) k 0 ≡ word_at list k 0
kept_word list word k wide long lt = get_or_append_left list.words (word ∷ []) 0 (list.width * k + 0) (rw wide (omega arith))

put_word : (list : TableList) (word : ℕ) → list.width ≡ 1 → length list.words ≡ list.count → word_at (with_entry list (word ∷ [])) list.count 0 ≡ word
put_word list word wide long =
    let place : (list.width * list.count + 0) - length list.words ≡ 0 = rw (wide, long) (omega arith) in
    get_or-append_right list.words (word ∷ []) (list.width * list.count + 0) 0 (rw wide (omega arith)) ∙ ap (λ (p : ℕ). get_or (word ∷ []) p 0) place

pub credit_pushed : (list : TableList) (word : ℕ) → list.width ≡ 1 → length list.words ≡ list.count → credit_in (with_entry list (word ∷ [])) ≡ credit_in list + credit_at (word % 256)
credit_pushed list word wide long =
    rw (add-one, until_same (with_entry list (word ∷ [])) list list.count (λ k lt. kept_word list word k wide long lt), put_word list word wide long) refl

cut_word : (list : TableList) (n k : ℕ) → list.width ≡ 1 → k < n → word_at (cut_to list n) k 0 ≡ word_at list k 0
cut_word list n k wide lt = rw wide (search (rules, places))

pub credit_cut : (list : TableList) (n : ℕ) → list.width ≡ 1 → list.count ≡ n + 1 → credit_in (cut_to list n) + credit_at (word_at list n 0 % 256) ≡ credit_in list
credit_cut list n wide count = rw (until_same (cut_to list n) list n (λ k lt. cut_word list n k wide lt), count, add-one) refl

credits_drop : (items : List GrammarSymbol) (at : ℕ) (d : GrammarSymbol) → at < length items → credits (drop at items) ≡ credit_of (get_or items at d) + credits (drop (suc at) items)
credits_drop [] at d lt = absurd (omega arith)
credits_drop (i ∷ items) zero d lt = refl
credits_drop (i ∷ items) (suc at) d lt = credits_drop items at d (omega arith)

pub credits_back : (items : List GrammarSymbol) (at : ℕ) (d : GrammarSymbol) → 0 < at → at ≤ length items → credits (drop (at - 1) items) ≡ credit_of (get_or items (at - 1) d) + credits (drop at items)
credits_back items zero d some le = absurd (omega arith)
credits_back items (suc at) d some le = let e : suc at - 1 ≡ at = omega arith in rw e (credits_drop items at d (omega arith))

pub paid_from : (result : Option StackEntry) (new old at : ℕ) → new + at ≡ old → IfSome result (λ wanted. credit_of wanted.symbol ≡ at) → IfSome result (λ wanted. new + credit_of wanted.symbol ≤ old)
paid_from None new old at e h = h
paid_from (Some wanted) new old at e h = omega (arith, e, h)
