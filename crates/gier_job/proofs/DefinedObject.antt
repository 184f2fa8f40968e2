-- The words of an object are those that its text 7 defines.
use Rattle.std.proofs.Common.{◌≡◌, ◌≤◌, ◌<◌, ◌+◌, ◌*◌, ◌/◌, ◌%◌, ◌∙◌, ◌++◌, ◌∷◌, ℕ, zero, suc, Bool, false, List, [], Option, None, Some, length, take, reverse, slice_index}
use Rattle.std.proofs.Common.{get_or, refl, sym, ap, subst, arith}
use Rattle.std.proofs.lemmas.List.{take_more, take_all}
use Rattle.gier_symbol.specs.declared.symbol.Symbol.{Symbol}
use Rattle.gier_order.specs.declared.object.Object.{Object}
use Rattle.gier_limits.specs.Areas.{longest, first_of}
use Rattle.gier_text.specs.SymbolsOnTracks.{text_on}
use Rattle.gier_text.proofs.Tabulation.{get_or-tabulated}
use Rattle.gier_pass9.specs.ObjectOfText.{object_words, HoldsWords}
use Rattle.gier_back.specs.Compiled.{IsMade}
use Rattle.gier_exec.specs.Rows.{track_of, word_in, first_of as first_words, code_in}
use Rattle.gier_front.specs.Passes.{IsToldAs}
use Rattle.gier_job.specs.RunAnswer.{IsDefined}
use Rattle.gier_job.proofs.RunAnswers.{track_is}

-- a list that is told
pub told_list : (P : List Symbol → Type 0) (held : Option (List Symbol)) → IsToldAs P held → (list : List Symbol) × (held ≡ Some list) × P list
told_list P None told = absurd told
told_list P (Some list) told = (list, refl, told)

taken_words : (f : ℕ → ℕ) (words : List ℕ) (n : ℕ) → n ≤ length words → ((a : ℕ) → a < n → f a ≡ get_or words a 0)
    → first_words f n ≡ take n words
taken_words f words zero few same = refl
taken_words f words (suc n) few same =
    let more : suc n ≡ n + 1 = omega arith in
    ap (λ (l : List ℕ). l ++ f n ∷ []) (taken_words f words n (omega (arith, few)) (λ a lt. same a (omega (arith, lt))))
    ∙ ap (λ (w : ℕ). take n words ++ w ∷ []) (same n (omega arith)) ∙ sym (take_more words n 0 (omega (arith, few)))
    ∙ ap (λ (k : ℕ). take k words) (sym more)

-- the word at an address of an object that holds these
word_held : (tracks : List (List ℕ)) (object : Object) (words : List ℕ) (a : ℕ) → HoldsWords (Some tracks) object.first_track words
    → a < length words → word_in tracks object a ≡ get_or words a 0
word_held tracks object words a holds lt =
    let within : a / 40 < (length words + 39) / 40 = omega (arith, lt) in
    let place : 40 * (a / 40) + a % 40 ≡ a = omega arith in
    ap (λ (track : List ℕ). slice_index track (a % 40)) (track_is tracks (track_of object a) ∙ holds (a / 40) within)
    ∙ get_or-tabulated (λ (k : ℕ). get_or words (40 * (a / 40) + k) 0) 40 (a % 40) 0 (omega arith)
    ∙ ap (λ (k : ℕ). get_or words k 0) place

words_held : (tracks : List (List ℕ)) (object : Object) (words : List ℕ) → length words ≡ object.words
    → HoldsWords (Some tracks) object.first_track words → code_in tracks object ≡ words
words_held tracks object words all holds =
    taken_words (word_in tracks object) words object.words (omega (arith, all)) (λ a lt. word_held tracks object words a holds (omega (arith, all, lt)))
    ∙ take_all object.words words (omega (arith, all))

pub is_defined : (made_on : Option (List (List ℕ))) (tracks now : List (List ℕ)) (bytes : ℕ) (mortem : Bool) (object : Object)
    → IsMade made_on bytes object → made_on ≡ Some tracks → code_in now object ≡ code_in tracks object
    → (mortem ≡ false → made_on ≡ Some now) → IsDefined bytes now mortem object
is_defined made_on tracks now bytes mortem object made told same stays =
    let words = object_words longest (reverse made.list) in
    let holds : HoldsWords (Some tracks) object.first_track words =
    subst (λ (t : Option (List (List ℕ))). HoldsWords t object.first_track words) told made.holds in
    record {
      seven = made.seven.list;
      held = λ off.
          subst (λ (t : Option (List (List ℕ))). text_on t (first_of 7) (slice_index object.lengths 6) ≡ Some made.seven.list) (stays off)
          made.seven.held;
      short = made.seven.short;
      defined = λ complete text. same ∙ words_held tracks object words made.count holds ∙ made.defined complete text;
    }
