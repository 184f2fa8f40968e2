-- What the pass keeps from symbol to symbol.
use Rattle.std.proofs.Common.{◌≡◌, ◌≤◌, ◌⊎◌, ◌++◌, ◌∷◌, ◌+◌, ◌/◌, ◌%◌, ◌∙◌, ℕ, suc, Bool, true, false, List, [], Option, None, Some, Result, Ok, Err, length, refl, sym, ap, subst, arith, inl, inr, append_assoc}
use Rattle.std.specs.Prelude.{◌*◌, IsTrue, IfOk, OnOk, OnErr, nat_eq, if◌then◌else◌}
use Rattle.std.proofs.lemmas.Bool.{cases_eq}
use Rattle.std.proofs.lemmas.Bool.Decides.{nat_tests}
use Rattle.std.proofs.lemmas.List.{append-nil}
use Rattle.gier_drum.specs.declared.drum.Entry.{Entry}
use Rattle.gier_symbol.specs.declared.symbol.Symbol.{Symbol}
use Rattle.gier_symbol.specs.Texts.{stands_in, is_tag_of}
use Rattle.gier_symbol.specs.declared.tag.Tag.TheVariants.{LabelPlace}
use Rattle.gier_word.specs.declared.refusal.Odd.{Odd}
use Rattle.gier_text.specs.declared.pass.PassStop.{PassStop}
use Rattle.gier_text.specs.declared.pass.PassStop.TheVariants.{Drum, Memory, Full, Spoilt}
use Rattle.gier_text.specs.Drive.{SpoiltAs, place_of}
use Rattle.gier_text.specs.TablesModel.{TablesModel}
use Rattle.gier_text.specs.Log.{Logged, LogsAll, writes_of}
use Rattle.gier_text.specs.Passes.{SpoiltIf}
use Rattle.gier_text.specs.View.{View, ReadsAll, Apart, IsPlacedAs, KeepsTracks}
use Rattle.gier_text.proofs.DriveLoop.{mixed_more, element_has}
use Rattle.gier_text.proofs.Logs.{logs_none}
use Rattle.gier_labels.specs.Labels.{HasLabels}
use Rattle.gier_pass9.specs.declared.object.Object.{Object}
use Rattle.gier_pass9.specs.Object.{tracks_of, full_track, last_track}
use Rattle.gier_pass9.specs.ObjectOfText.{Marks, no_marks, marks_of, words_from, HasWords}
use Rattle.gier_pass9.specs.PassOutput.{words_for, words_in, word_log, AreLetters, IsObjectText, IsWrong, IsWrongSymbol, Fills}

pub record Filling {T S : Type 0} (view : T → S → View) (first end : T → ℕ) (text_room room : S → ℕ) (tracks : S → Option (List (List ℕ))) (journal : S → Option (List Entry)) (faults : S → ℕ) (text_old : T) (store_old : S) (text : T) (store : S) (object_first most : ℕ) (object : Object) (labels : ℕ) (t_old t : TablesModel) (number : ℕ) : Type 0 where
  pub read : List Symbol
  pub reads : ReadsAll (view text_old store_old) read (view text store)
  pub letters : AreLetters read
  pub counted : object.count ≡ words_in read
  pub number_is : number ≡ place_of (length read)
  pub reading : (view text store).rewound ≡ true
  pub text_place : IsPlacedAs first end text_old text
  pub placed : end text ≤ text_room store
  pub object_first_is : object.first ≡ object_first
  pub object_most_is : object.most ≡ most
  pub are_apart : Apart (first text) (end text) object.first (object.first + tracks_of object.most)
  pub in_room : object.first + tracks_of object.most ≤ room store
  pub same_room : room store ≡ room store_old
  pub same_tracks : KeepsTracks object_first (object_first + tracks_of most) (tracks store_old) (tracks store)
  pub later : faults store_old ≤ faults store
  pub labelled : HasLabels labels t
  pub same_limit : t.limit ≡ t_old.limit
  pub same_faults : t.faults ≡ t_old.faults
  pub marks : Marks
  pub words : List ℕ
  pub known : (label : ℕ) → marks_of t label ≡ marks label
  pub made : (rest : List Symbol) → words_from labels no_marks 0 (read ++ rest) ≡ words ++ words_from labels marks object.count rest
  pub has : HasWords object (tracks store) words
  pub filled : Fills (view text_old store_old) (view text store) object_first (object.count / 40) (journal store_old) (journal store)

logs_more : (before mid after : Option (List Entry)) (es fs : List Entry) → LogsAll before es mid → LogsAll mid fs after → LogsAll before (es ++ fs) after
logs_more None mid after es fs h k = subst (λ m. LogsAll m fs after) h k
logs_more (Some old) mid after es fs h k = subst (λ m. LogsAll m fs after) h k ∙ ap Some (append_assoc old es fs)

pub fills_none : (v : View) (first : ℕ) (journal : Option (List Entry)) → Fills v v first 0 journal journal
fills_none v first journal = record { reads = []; entries = []; reading = sym (append-nil v.log); mixed = (refl, refl); journal = logs_none journal }

-- a read of the text, and then writes of the object
pub fills_more : (text mid new : View) (first n m : ℕ) (ws : List Entry) (before between read after : Option (List Entry)) → Fills text mid first n before between → Logged mid new between read → LogsAll read ws after → writes_of first m ≡ writes_of first n ++ ws → Fills text new first m before after
fills_more text mid new first n m ws before between read after h r w is = record {
  reads = h.reads ++ r.entries;
  entries = h.entries ++ (r.entries ++ ws);
  reading = r.log ∙ ap (λ (l : List Entry). l ++ r.entries) h.reading ∙ append_assoc text.log h.reads r.entries;
  mixed = rw is (mixed_more h.reads (writes_of first n) h.entries r.entries ws h.mixed);
  journal = logs_more before between after h.entries (r.entries ++ ws) h.journal (logs_more between read after r.entries ws r.journal w);
}

logs_kept : (before after : Option (List Entry)) → after ≡ before → LogsAll before [] after
logs_kept before after is = rw is (logs_none before)

-- a read of the text alone
pub fills_read : (text mid new : View) (first n : ℕ) (before between read after : Option (List Entry)) → Fills text mid first n before between → Logged mid new between read → after ≡ read → Fills text new first n before after
fills_read text mid new first n before between read after h r is = fills_more text mid new first n n [] before between read after h r (logs_kept read after is) (sym (append-nil (writes_of first n)))

wrote_one : (first count : ℕ) → writes_of first ((count + 1) / 40) ≡ writes_of first (count / 40) ++ full_track first count
wrote_one first count = elim (cases_eq (count % 40) 39) [
  | inl e ↦ let next : (count + 1) / 40 ≡ suc (count / 40) = omega arith in rw (next, e) refl
  | inr ne ↦ let same : (count + 1) / 40 ≡ count / 40 = omega arith in let test : nat_eq (count % 40) 39 ≡ false = grind (arith, nat_tests) in rw (same, test) (sym (append-nil (writes_of first (count / 40))))
]

wrote_by : (b : Bool) (first count : ℕ) → writes_of first ((count + (if b then 0 else 1)) / 40) ≡ writes_of first (count / 40) ++ (if b then [] else full_track first count)
wrote_by true first count = let same : (count + 0) / 40 ≡ count / 40 = omega arith in rw same (sym (append-nil (writes_of first (count / 40))))
wrote_by false first count = wrote_one first count

-- the tracks that are written for a symbol
pub wrote_word : (s : Symbol) (first count : ℕ) → writes_of first ((count + words_for s) / 40) ≡ writes_of first (count / 40) ++ word_log s first count
wrote_word s first count = wrote_by (is_tag_of LabelPlace s.tag) first count

-- the track that isn't full at the end
pub wrote_last : (first count : ℕ) → writes_of first (tracks_of count) ≡ writes_of first (count / 40) ++ last_track first count
wrote_last first count = elim (cases_eq (count % 40) 0) [
  | inl e ↦ let same : (count + 39) / 40 ≡ count / 40 = omega arith in rw (same, e) (sym (append-nil (writes_of first (count / 40))))
  | inr ne ↦ let next : (count + 39) / 40 ≡ suc (count / 40) = omega arith in let test : nat_eq (count % 40) 0 ≡ false = grind (arith, nat_tests) in rw (next, test) refl
]

pub words_both : (xs ys : List Symbol) → words_in (xs ++ ys) ≡ words_in xs + words_in ys
words_both [] ys = omega arith
words_both (x ∷ xs) ys = omega (arith, words_both xs ys)

pub words_more : (read : List Symbol) (s : Symbol) → words_in (read ++ s ∷ []) ≡ words_in read + words_for s
words_more read s = omega (arith, words_both read (s ∷ []))

pub one_letter : (s : Symbol) → IsTrue (stands_in 8 s.tag) → AreLetters (s ∷ [])
one_letter s letter = λ k d below. let first : k ≡ 0 = omega arith in rw first letter

-- a text of an object has no wrong symbol
right_symbol : (most : ℕ) (list : List Symbol) (odd : Odd) → IsObjectText most list → IsWrongSymbol most list odd → ⊥
right_symbol most list odd h w = elim w.wrong [
  | inl strange ↦ let letter : IsTrue (stands_in 8 w.symbol.tag) = element_has (λ (s : Symbol). IsTrue (stands_in 8 s.tag)) list w.before w.rest w.symbol w.list_is h.letters in absurd (cc)
  | inr many ↦
      let all : words_in list ≡ words_in (w.before ++ w.symbol ∷ []) + words_in w.rest = rw w.list_is (words_both (w.before ++ w.symbol ∷ []) w.rest) in
      omega (arith, all, words_more w.before w.symbol, many.0, many.1, h.few)
]

pub right_text : (most : ℕ) (list : List Symbol) (odd : Odd) → IsObjectText most list → IsWrong most list odd → ⊥
right_text most list odd h (inl w) = right_symbol most list odd h w
right_text most list odd h (inr w) = omega (arith, h.some, w.none)

-- the symbol that comes next is wrong
pub wrong_next : (most : ℕ) (all read : List Symbol) (s : Symbol) (rest : List Symbol) (odd : Odd) (number count object_most : ℕ) → all ≡ (read ++ s ∷ []) ++ rest → AreLetters read → number ≡ place_of (length read) → count ≡ words_in read → object_most ≡ most
    → (odd.place ≡ number) × (odd.word ≡ s.tag * 16777216 + s.line) × ((stands_in 8 s.tag ≡ false) ⊎ ((words_for s ≡ 1) × (count ≡ object_most))) → IsWrongSymbol most all odd
wrong_next most all read s rest odd number count object_most is letters number_is counted most_is h = record {
  before = read;
  symbol = s;
  rest = rest;
  list_is = is;
  good = letters;
  place = h.0 ∙ number_is;
  word = h.1;
  wrong = elim h.2 [ inl strange ↦ inl strange | inr many ↦ inr (many.0, omega (arith, counted, many.1, most_is)) ];
}

pub stop_as : (stop : PassStop) (P Q : Odd → Type 0) → ((odd : Odd) → P odd → Q odd) → SpoiltAs {T = ℕ} (Err stop) P → SpoiltAs {T = ℕ} (Err stop) Q
stop_as Drum P Q f h = tt
stop_as Memory P Q f h = tt
stop_as Full P Q f h = tt
stop_as (Spoilt odd) P Q f h = f odd h

pub stop_never : (stop : PassStop) (P : Odd → Type 0) → ((odd : Odd) → P odd → ⊥) → SpoiltAs {T = ℕ} (Err stop) P → SpoiltIf {T = ℕ} (Err stop) ⊥
stop_never Drum P f h = tt
stop_never Memory P f h = tt
stop_never Full P f h = tt
stop_never (Spoilt odd) P f h = f odd h

-- the last track is written, or its write is refused
pub fills_end : (text mid new : View) (first count most : ℕ) (before between read after : Option (List Entry)) (r : Result ℕ PassStop) → Fills text mid first (count / 40) before between → Logged mid new between read → count ≤ most → OnOk r (LogsAll read (last_track first count) after) → OnErr r (after ≡ read)
    → (tracks : ℕ) × (tracks ≤ tracks_of most) × Fills text new first tracks before after
fills_end text mid new first count most before between read after (Ok n) h l le logged unlogged = (tracks_of count, omega arith, fills_more text mid new first (count / 40) (tracks_of count) (last_track first count) before between read after h l logged (wrote_last first count))
fills_end text mid new first count most before between read after (Err stop) h l le logged unlogged = (count / 40, omega arith, fills_read text mid new first (count / 40) before between read after h l unlogged)

pub fills_whole : (text mid new : View) (first count : ℕ) (before between read after : Option (List Entry)) (r : Result ℕ PassStop) → Fills text mid first (count / 40) before between → Logged mid new between read → IfOk r (λ n. (n ≡ count) × (1 ≤ n)) → OnOk r (LogsAll read (last_track first count) after) → IfOk r (λ n. Fills text new first (tracks_of n) before after)
fills_whole text mid new first count before between read after (Ok n) h l words logged = rw words.0 (fills_more text mid new first (count / 40) (tracks_of count) (last_track first count) before between read after h l logged (wrote_last first count))
fills_whole text mid new first count before between read after (Err stop) h l words logged = tt
