-- The words of grammar symbols on the stack, and what is wanted when one is put there or taken away.
use Rattle.std.proofs.Common.{◌≡◌, ◌<◌, ◌+◌, ◌/◌, ◌%◌, ◌∙◌, ℕ, zero, suc, Bool, true, false, List, [], ◌∷◌, ◌++◌, length, take, get_or, refl, sym, ap, arith}
use Rattle.std.specs.Prelude.{Option, None, Some, cond, ◌==◌, nat_lt}
use Rattle.std.specs.List.{find}
use Rattle.std.proofs.lemmas.Option.{none-some}
use Rattle.std.proofs.lemmas.Bool.Decides.{nat_tests}
use Rattle.gier_tree.specs.Wanted.{Item as GrammarItem}
use Rattle.gier_grammar.specs.declared.grammar_symbol.GrammarSymbol.{GrammarSymbol}
use Rattle.gier_grammar.specs.declared.stack_entry.StackEntry.{StackEntry}
use Rattle.gier_grammar.specs.declared.grammar_symbol.GrammarSymbol.TheVariants.{OpenProgram, MorePairs}
use Rattle.gier_grammar.specs.GrammarSymbols.{number_of}
use Rattle.gier_text.specs.TablesModel.{TablesModel}
use Rattle.gier_pass3.specs.Lists.{stack_in}
use Rattle.gier_pass3.specs.Grammar.{Pops, wanted_above, IsAbove, item_at, all_items, word_of, read_by, read_word, read_words, IsItem, AreItems}
use Rattle.gier_grammar.specs.StackEntries.{beside}

pub some_same : {A : Type 0} (x y : A) → Some x ≡ Some y → x ≡ y
some_same x y h = cc

find_by : {X : Type 0} (p : X → Bool) (x y : X) (xs : List X) (b : Bool) → p y ≡ b → cond b (Some y) (find p xs) ≡ Some x → (find p xs ≡ Some x → p x ≡ true) → p x ≡ true
find_by p x y xs true e h later = rw (sym (some_same y x h)) e
find_by p x y xs false e h later = later h

pub find_holds : {X : Type 0} (p : X → Bool) (x : X) (xs : List X) → find p xs ≡ Some x → p x ≡ true
find_holds p x [] h = absurd (none-some x h)
find_holds p x (y ∷ xs) h = find_by p x y xs (p y) refl h (find_holds p x xs)

pub item_found : (i : GrammarSymbol) → item_at (number_of i) ≡ Some i
unfolding item_at
item_found OpenProgram = refl
item_found _ = refl

pub same_number : (a b : ℕ) → (a == b) ≡ true → a ≡ b
same_number a b h = grind (arith, nat_tests)

pub item_number : (n : ℕ) (i : GrammarSymbol) → item_at n ≡ Some i → number_of i ≡ n
unfolding item_at
item_number n i h = same_number (number_of i) n (find_holds (λ item. number_of item == n) i all_items h)

pub number_same : (a b : GrammarSymbol) → number_of a ≡ number_of b → a ≡ b
number_same a b e = some_same a b (sym (item_found a) ∙ ap item_at e ∙ item_found b)

-- a word tells its grammar symbol, and what stands beside it
small_test : (i : GrammarSymbol) → nat_lt (number_of i) 256 ≡ true
small_test OpenProgram = refl
small_test _ = refl

below : (n m : ℕ) → nat_lt n m ≡ true → n < m
below n m h = grind (arith, nat_tests)

small : (i : GrammarSymbol) → number_of i < 256
small i = below (number_of i) 256 (small_test i)

word_item : (i : GrammarSymbol) (left : ℕ) → word_of i left % 256 ≡ number_of i
word_item i left = omega (arith, small i)

pub word_left : (i : GrammarSymbol) (left : ℕ) → word_of i left / 256 ≡ beside i left
word_left i left = omega (arith, small i)

pub at_word : (i : GrammarSymbol) (left : ℕ) → item_at (word_of i left % 256) ≡ Some i
at_word i left = rw (word_item i left) (item_found i)

beside_above : (i : GrammarSymbol) (left : ℕ) (st : List GrammarItem) → wanted_above i (beside i left) st ≡ wanted_above i left st
beside_above MorePairs left st = refl
beside_above _ left st = refl

pub read_item : (i : GrammarSymbol) (left : ℕ) (st : List GrammarItem) → read_word (word_of i left) st ≡ wanted_above i left st
read_item i left st = rw (at_word i left, word_left i left) (beside_above i left st)

pub is_item : (i : GrammarSymbol) (left : ℕ) (st : List GrammarItem) → IsAbove i st → IsItem (item_at (word_of i left % 256)) st
is_item i left st h = rw (at_word i left) h

-- one word more
pub read_more : (ws : List ℕ) (w : ℕ) (st : List GrammarItem) → read_words (ws ++ w ∷ []) st ≡ read_word w (read_words ws st)
read_more [] w st = refl
read_more (v ∷ ws) w st = read_more ws w (read_word v st)

pub items_more : (ws : List ℕ) (w : ℕ) (st : List GrammarItem) → AreItems ws st → IsItem (item_at (w % 256)) (read_words ws st) → AreItems (ws ++ w ∷ []) st
items_more [] w st all one = (one, tt)
items_more (v ∷ ws) w st all one = (all.0, items_more ws w (read_word v st) all.1 one)

pub items_less : (ws : List ℕ) (w : ℕ) (st : List GrammarItem) → AreItems (ws ++ w ∷ []) st → AreItems ws st × IsItem (item_at (w % 256)) (read_words ws st)
items_less [] w st all = (tt, all.0)
items_less (v ∷ ws) w st all = let rest = items_less ws w (read_word v st) all.1 in ((all.0, rest.0), rest.1)

pub with_last : (ws : List ℕ) (n d : ℕ) → length ws ≡ n + 1 → take n ws ++ get_or ws n d ∷ [] ≡ ws
with_last [] n d e = absurd (omega (arith, e))
with_last (w ∷ []) zero d e = refl
with_last (w ∷ v ∷ ws) zero d e = absurd (omega (arith, e))
with_last (w ∷ ws) (suc n) d e = ap (λ l. w ∷ l) (with_last ws n d (omega (arith, e)))

-- the word that stands last on a stack is taken away
popped_by : (t : TablesModel) (ws : List ℕ) (w : ℕ) (found : Option GrammarSymbol) (result : Option StackEntry) → item_at (w % 256) ≡ found → ((item : GrammarSymbol) → item_at (w % 256) ≡ Some item → result ≡ Some (record { symbol = item; left = w / 256 })) → (stack_in t).words ≡ ws → AreItems ws [] → IsItem found (read_words ws []) → Pops (read_by found (w / 256) (read_words ws [])) result t
popped_by t ws w None result e same is items one = absurd one
popped_by t ws w (Some item) result e same is items one = rw (same item e, is) (refl, one, items)

pub popped : (t : TablesModel) (ws words : List ℕ) (w : ℕ) (result : Option StackEntry) → words ≡ ws ++ w ∷ [] → ((item : GrammarSymbol) → item_at (w % 256) ≡ Some item → result ≡ Some (record { symbol = item; left = w / 256 })) → (stack_in t).words ≡ ws → AreItems words [] → Pops (read_words words []) result t
popped t ws words w result whole same is items =
    let less = items_less ws w [] (rw (sym whole) items) in
    rw (whole, read_more ws w []) (popped_by t ws w (item_at (w % 256)) result refl same is less.0 less.1)

-- the word of a grammar symbol is put on the stack
pub read_pushed : (old new : List ℕ) (w : ℕ) (i : GrammarSymbol) (left : ℕ) → new ≡ old ++ w ∷ [] → w ≡ word_of i left → read_words new [] ≡ wanted_above i left (read_words old [])
read_pushed old new w i left is e = ap (λ l. read_words l []) is ∙ read_more old w [] ∙ ap (λ v. read_word v (read_words old [])) e ∙ read_item i left (read_words old [])

pub items_pushed : (old new : List ℕ) (w : ℕ) (i : GrammarSymbol) (left : ℕ) → new ≡ old ++ w ∷ [] → w ≡ word_of i left → AreItems old [] → IsAbove i (read_words old []) → AreItems new []
items_pushed old new w i left is e all one = rw is (items_more old w [] all (rw e (is_item i left (read_words old []) one)))
