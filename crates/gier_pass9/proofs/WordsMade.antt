-- The words that are made from symbol to symbol.
use Rattle.std.proofs.Common.{◌≡◌, ◌≤◌, ◌++◌, ◌∷◌, ◌+◌, ◌∙◌, ℕ, Bool, true, false, List, [], Option, Some, Result, Ok, Err, length}
use Rattle.std.proofs.Common.{refl, sym, ap, append_assoc}
use Rattle.std.specs.Prelude.{◌==◌, ◌&&◌, ◌%◌, ◌^◌, IfOk, OnOk, nat_lt, if◌then◌else◌}
use Rattle.std.proofs.lemmas.List.{append-nil}
use Rattle.gier_symbol.specs.declared.symbol.Symbol.{Symbol}
use Rattle.gier_symbol.specs.declared.tag.Tag.TheVariants.{LabelPlace}
use Rattle.gier_symbol.specs.Texts.{is_tag_of}
use Rattle.gier_text.specs.declared.pass.PassStop.{PassStop}
use Rattle.gier_text.specs.View.{View, IsLeft}
use Rattle.gier_tree.specs.Complete.{place_of}
use Rattle.gier_pass9.specs.Words.{room_of}
use Rattle.gier_pass9.specs.PassOutput.{words_for, words_in, AreLetters}
use Rattle.gier_pass9.specs.ObjectOfText.{Marks, no_marks, with_mark, word_by, words_with, marks_behind, words_from, object_words, HoldsWords, Makes}

-- marks that are the same for each label make the same words
word_same : (m n : Marks) → ((label : ℕ) → m label ≡ n label) → (s : Symbol) → word_by m s ≡ word_by n s
word_same m n same s = rw (same (s.value % 2 ^ 24), same s.value) refl

pub words_same : (m n : Marks) → ((label : ℕ) → m label ≡ n label) → (s : Symbol) → words_with m s ≡ words_with n s
words_same m n same s = ap (λ (w : ℕ). if is_tag_of LabelPlace s.tag then [] else w ∷ []) (word_same m n same s)

same_if : (b : Bool) (room v place : ℕ) (m n : Marks) → ((label : ℕ) → m label ≡ n label) → (label : ℕ)
    → (if b then with_mark room v place m else m) label ≡ (if b then with_mark room v place n else n) label
same_if true room v place m n same label =
    ap (λ (x : Option ℕ). if label == v && nat_lt (place_of v) room then Some place else x) (same label)
same_if false room v place m n same label = same label

pub marks_same : (room place : ℕ) (s : Symbol) (m n : Marks) → ((label : ℕ) → m label ≡ n label) → (label : ℕ)
    → marks_behind room place s m label ≡ marks_behind room place s n label
marks_same room place s m n same label = same_if (is_tag_of LabelPlace s.tag) room s.value place m n same label

-- one more symbol
pub made_more : (room : ℕ) (read : List Symbol) (s : Symbol) (words : List ℕ) (marks : Marks) (count next : ℕ)
    → ((rest : List Symbol) → words_from room no_marks 0 (read ++ rest) ≡ words ++ words_from room marks count rest)
    → next ≡ count + words_for s
    → (rest : List Symbol) → words_from room no_marks 0 ((read ++ s ∷ []) ++ rest)
    ≡ (words ++ words_with marks s) ++ words_from room (marks_behind room count s marks) next rest
made_more room read s words marks count next made is rest =
    ap (λ (l : List Symbol). words_from room no_marks 0 l) (append_assoc read (s ∷ []) rest)
    ∙ made (s ∷ rest)
    ∙ sym (append_assoc words (words_with marks s) (words_from room (marks_behind room count s marks) (count + words_for s) rest))
    ∙ ap (λ (n : ℕ). (words ++ words_with marks s) ++ words_from room (marks_behind room count s marks) n rest) (sym is)

all_made : (room : ℕ) (read : List Symbol) (words : List ℕ) (marks : Marks) (count : ℕ)
    → ((rest : List Symbol) → words_from room no_marks 0 (read ++ rest) ≡ words ++ words_from room marks count rest)
    → words_from room no_marks 0 read ≡ words
all_made room read words marks count made =
    ap (λ (l : List Symbol). words_from room no_marks 0 l) (sym (append-nil read)) ∙ made [] ∙ append-nil words

-- all symbols were read
pub makes_end : (text : View) (limit first room : ℕ) (read : List Symbol) (words : List ℕ) (marks : Marks) (count : ℕ)
    (tracks : Option (List (List ℕ))) (r : Result ℕ PassStop) → IsLeft text read → room ≡ room_of limit
    → ((rest : List Symbol) → words_from room no_marks 0 (read ++ rest) ≡ words ++ words_from room marks count rest)
    → length words ≡ count → IfOk r (λ n. (n ≡ count) × (1 ≤ n)) → OnOk r (HoldsWords tracks first words)
    → IfOk r (λ n. Makes text limit first tracks n)
makes_end text limit first room read words marks count tracks (Ok n) left is made all number holds =
    let same : object_words limit read ≡ words =
    ap (λ (k : ℕ). words_from k no_marks 0 read) (sym is) ∙ all_made room read words marks count made in
    record { list = read; left = left; count = ap length same ∙ all ∙ sym number.0; holds = rw same holds }
makes_end text limit first room read words marks count tracks (Err stop) left is made all number holds = tt

pub on_ok : {T E : Type 0} (r : Result T E) (P : Type 0) → P → OnOk r P
on_ok (Ok x) P h = h
on_ok (Err e) P h = tt

pub read_end : (text : View) (read : List Symbol) (count : ℕ) (r : Result ℕ PassStop) → IsLeft text read → AreLetters read
    → count ≡ words_in read → IfOk r (λ n. (n ≡ count) × (1 ≤ n))
    → IfOk r (λ n. (list : List Symbol) × IsLeft text list × AreLetters list × (words_in list ≡ n))
read_end text read count (Ok n) left letters is number = (read, left, letters, sym is ∙ sym number.0)
read_end text read count (Err stop) left letters is number = tt
