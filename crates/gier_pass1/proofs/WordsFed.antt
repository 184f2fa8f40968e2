-- The answer of the reader of words, and what the end of the word gives by it.
use Rattle.std.proofs.Common.{◌≡◌, ◌+◌, ◌++◌, ◌∙◌, ℕ, Bool, true, false, if◌then◌else◌, List, [], ◌∷◌, length, drop, Option, None, Some, eqb, nat_lt, slice_get, refl, sym, ap, subst, arith, append_assoc, length-append}
use Rattle.std.specs.Prelude.{◌||◌}
use Rattle.std.specs.List.{list_all}
use Rattle.std.proofs.lemmas.Bool.Decides.{nat_tests}
use Rattle.gier_symbol.specs.declared.word.Spelling.{Spelling}
use Rattle.gier_symbol.specs.declared.word.Spelling.TheVariants.{Plain, Quoted}
use Rattle.gier_symbol.specs.Words.{WordRead, word_of, word_ended, word_named, is_name_letter, is_next_letter}
use Rattle.gier_symbol.proofs.WordRules.{word_of-letters}
use Rattle.gier_strop.specs.declared.reader.Fed.{Fed}
use Rattle.gier_strop.specs.Reading.{answer_of, answer_to, answer_with, answer_before}
use Rattle.gier_pass1.specs.declared.state.Mode.{Mode}
use Rattle.gier_pass1.specs.declared.state.Mode.TheVariants.{InWord, InSkippedWord}
use Rattle.gier_pass1.specs.declared.state.State.{State}
use Rattle.gier_pass1.specs.declared.state.Step.{Step}
use Rattle.gier_pass1.specs.Puts.{letters_in}
use Rattle.gier_pass1.specs.Scan.{word_step}
use Rattle.gier_pass1.proofs.InLine.{InLine, letters_in_line, in_line_push}
use Rattle.gier_pass1.proofs.RestOfProgram.{to_come, to_come_in, faults_found, Begins, begins_same}
use Rattle.gier_pass1.proofs.WordEnds.{by_number, word_ends, skipped_word_ends}

-- the bytes behind what ended: all, or all but the first where that belongs to it
abbrev pub left_by : Bool → List ℕ → List ℕ
left_by taken rest = drop (if taken then 1 else 0) rest

abbrev pub answer_by : Bool → Option ℕ → Fed
answer_by taken tag = if taken then answer_with tag else answer_before tag

-- the word with these letters, which goes no further than the first of these bytes
pub record IsAnswered (spelling : Spelling) (letters rest : List ℕ) : Type 0 where
  pub word : List ℕ
  pub tag : Option ℕ
  pub taken : Bool
  pub cut : letters ++ rest ≡ word ++ left_by taken rest
  pub reads : word_of spelling (word ++ left_by taken rest) ≡ record { tag = tag; taken = length word }
  pub answer : answer_to spelling letters (slice_get rest 0) ≡ answer_by taken tag
  pub line : InLine word
  pub ends : taken ≡ true → (byte : ℕ) → slice_get rest 0 ≡ Some byte → eqb byte 10 ≡ false

not_less : (n : ℕ) → nat_lt n n ≡ false
not_less n = grind (arith, nat_tests)

one_less : (n : ℕ) → nat_lt n (n + 1) ≡ true
one_less n = grind (arith, nat_tests)

no_line : (byte : ℕ) → eqb byte 39 ≡ true → eqb byte 10 ≡ false
no_line byte h = grind (arith, nat_tests)

nothing_left : (rest : List ℕ) → drop 0 rest ≡ rest
nothing_left rest = refl

before_next : (spelling : Spelling) (letters rest : List ℕ) (tag : Option ℕ) → list_all (is_name_letter spelling) letters ≡ true
    → is_next_letter spelling (slice_get rest 0) ≡ false
    → word_ended spelling letters (slice_get rest 0) ≡ record { tag = tag; taken = length letters } → IsAnswered spelling letters rest
before_next spelling letters rest tag all next is = record {
  word = letters;
  tag = tag;
  taken = false;
  cut = refl;
  reads = word_of-letters spelling letters rest all next ∙ is;
  answer = rw next (ap (λ (r : WordRead). answer_of (length letters) r) is ∙ rw (not_less (length letters)) refl);
  line = letters_in_line spelling letters all;
  ends = λ is. absurd (cc);
}

with_quote : (letters : List ℕ) (byte : ℕ) (rest : List ℕ) → list_all (is_name_letter Quoted) letters ≡ true
    → is_name_letter Quoted byte ≡ false → eqb byte 39 ≡ true → IsAnswered Quoted letters (byte ∷ rest)
with_quote letters byte rest all next quote =
    let ended : word_ended Quoted letters (Some byte) ≡ record { tag = word_named Quoted letters; taken = length letters + 1 } = rw quote
    refl in
    record {
      word = letters ++ byte ∷ [];
      tag = word_named Quoted letters;
      taken = true;
      cut = sym (append_assoc letters (byte ∷ []) rest);
      reads = ap (λ (l : List ℕ). word_of Quoted l) (append_assoc letters (byte ∷ []) rest)
          ∙ word_of-letters Quoted letters (byte ∷ rest) all next ∙ ended
          ∙ ap (λ (n : ℕ). record { tag = word_named Quoted letters; taken = n }) (sym (length-append letters (byte ∷ [])));
      answer = rw next (ap (λ (r : WordRead). answer_of (length letters) r) ended ∙ rw (one_less (length letters)) refl);
      line = in_line_push letters byte (letters_in_line Quoted letters all) (no_line byte quote);
      ends = λ is other same. let e : byte ≡ other = cc in subst (λ (b : ℕ). eqb b 10 ≡ false) e (no_line byte quote);
    }

quoted_by : (quote : Bool) (letters : List ℕ) (byte : ℕ) (rest : List ℕ) → eqb byte 39 ≡ quote
    → list_all (is_name_letter Quoted) letters ≡ true → is_name_letter Quoted byte ≡ false → IsAnswered Quoted letters (byte ∷ rest)
quoted_by true letters byte rest is all next = with_quote letters byte rest all next is
quoted_by false letters byte rest is all next = before_next Quoted letters (byte ∷ rest) None all next (rw is refl)

-- the answer where no letter follows
pub answered : (spelling : Spelling) (letters rest : List ℕ) → list_all (is_name_letter spelling) letters ≡ true
    → is_next_letter spelling (slice_get rest 0) ≡ false → IsAnswered spelling letters rest
answered Plain letters rest all next = before_next Plain letters rest (word_named Plain letters) all next refl
answered Quoted letters [] all next = before_next Quoted letters [] None all next refl
answered Quoted letters (byte ∷ rest) all next = quoted_by (eqb byte 39) letters byte rest refl all next

-- a word is read, skipped or not
abbrev pub word_mode : (skipped : Bool) → Mode
word_mode skipped = if skipped then InSkippedWord else InWord

pub fed_by : (skipped taken : Bool) (tag : Option ℕ) (s : State)
    → word_step (record s { mode = word_mode skipped }) (answer_by taken tag) ≡ by_number (word_mode skipped) tag
    (record s { mode = word_mode skipped }) taken
fed_by true true None s = refl
fed_by true true (Some number) s = refl
fed_by true false None s = refl
fed_by true false (Some number) s = refl
fed_by false true None s = refl
fed_by false true (Some number) s = refl
fed_by false false None s = refl
fed_by false false (Some number) s = refl

chosen : (test taken : Bool) (a b : Step) → a.taken ≡ taken → b.taken ≡ taken → (if test then a else b).taken ≡ taken
chosen true taken a b h k = h
chosen false taken a b h k = k

pub taken_so : (skipped taken : Bool) (tag : Option ℕ) (s : State) → (by_number (word_mode skipped) tag s taken).taken ≡ taken
taken_so true taken None s = refl
taken_so true taken (Some number) s = chosen (eqb number 37 || eqb number 40) taken _ _ refl refl
taken_so false taken None s = refl
taken_so false taken (Some number) s = chosen (eqb number 56) taken _ _ (chosen s.may_comment taken _ _ refl refl) refl

ends_by : (skipped taken : Bool) (tag : Option ℕ) (s : State) (word rest : List ℕ)
    → word_of s.spelling (word ++ rest) ≡ record { tag = tag; taken = length word } → InLine word → s.began.line ≡ s.here.line
    → Begins (to_come_in (word_mode skipped) s word rest) (letters_in (by_number (word_mode skipped) tag s taken).found)
    (faults_found (by_number (word_mode skipped) tag s taken).found) (to_come (by_number (word_mode skipped) tag s taken).state [] rest)
ends_by true taken tag s word rest is line began = skipped_word_ends tag s word rest taken is line began
ends_by false taken tag s word rest is line began = word_ends tag s word rest taken is line began

whole_by : (skipped : Bool) (s : State) (letters rest word left : List ℕ) → letters ++ rest ≡ word ++ left
    → to_come_in (word_mode skipped) s letters rest ≡ to_come_in (word_mode skipped) s word left
whole_by true s letters rest word left is = rw is refl
whole_by false s letters rest word left is = rw is refl

-- what ends gives the front of what is to come, and the rest is to come behind it
abbrev pub Ended : Step → State → (letters rest : List ℕ) → Type 0
Ended step s letters rest = Begins (to_come s letters rest) (letters_in step.found) (faults_found step.found)
    (to_come step.state [] (left_by step.taken rest))

-- a word that was begun, where no letter follows
pub word_ended_so : (skipped : Bool) (s : State) (letters rest : List ℕ) → list_all (is_name_letter s.spelling) letters ≡ true
    → is_next_letter s.spelling (slice_get rest 0) ≡ false → s.began.line ≡ s.here.line
    → Ended (word_step (record s { mode = word_mode skipped }) (answer_to s.spelling letters (slice_get rest 0)))
    (record s { mode = word_mode skipped }) letters rest
word_ended_so skipped s letters rest all next line =
    let state : State = record s { mode = word_mode skipped } in
    let r = answered s.spelling letters rest all next in
    let is = ap (λ (f : Fed). word_step state f) r.answer ∙ fed_by skipped r.taken r.tag s in
    let step = by_number (word_mode skipped) r.tag state r.taken in
    let ends = ends_by skipped r.taken r.tag state r.word (left_by r.taken rest) r.reads r.line line in
    subst (λ (t : Step). Ended t state letters rest) (sym is)
    (begins_same (to_come_in (word_mode skipped) state letters rest) (to_come_in (word_mode skipped) state r.word (left_by r.taken rest))
    (to_come step.state [] (left_by step.taken rest)) (letters_in step.found) (faults_found step.found)
    (whole_by skipped state letters rest r.word (left_by r.taken rest) r.cut)
    (subst (λ (b : Bool). Begins (to_come_in (word_mode skipped) state r.word (left_by r.taken rest)) (letters_in step.found)
    (faults_found step.found) (to_come step.state [] (left_by b rest))) (sym (taken_so skipped r.taken r.tag state)) ends))
