-- The end of a word gives what the rules give for the whole word.
use Rattle.std.proofs.Common.{◌≡◌, ◌+◌, ◌++◌, ◌∙◌, ℕ, suc, Bool, true, false, List, [], ◌∷◌, length, Option, None, Some, eqb, refl, ap, arith}
use Rattle.std.proofs.lemmas.Bool.Decides.{nat_tests}
use Rattle.gier_symbol.specs.declared.word.Spelling.{Spelling}
use Rattle.gier_symbol.specs.declared.word.Spelling.TheVariants.{Plain, Quoted}
use Rattle.gier_symbol.specs.Listing.{WrongWord, Listing, listings_joined}
use Rattle.gier_symbol.specs.Reading.{read, takes_word, takes_comment}
use Rattle.gier_symbol.specs.Spans.{comment_length, skipped_length, ends_skipping, also_ends, skipped_word as skipped_as}
use Rattle.gier_symbol.specs.Words.{WordRead, word_of, word_byte}
use Rattle.gier_text.specs.declared.fault.FaultKind.TheVariants.{Word as WordFault}
use Rattle.gier_pass1.specs.declared.state.Mode.{Mode}
use Rattle.gier_pass1.specs.declared.state.Mode.TheVariants.{InWord, InSkippedWord}
use Rattle.gier_pass1.specs.declared.state.State.{State}
use Rattle.gier_pass1.specs.declared.state.Step.{Step}
use Rattle.gier_pass1.specs.Puts.{letters_in}
use Rattle.gier_pass1.specs.Scan.{word_found_in, word_wrong_in, plain_word, comment_word, skipped_word}
use Rattle.gier_pass1.proofs.InLine.{InLine, read_over, read_all_of, skipped_over, dropped, word_line}
use Rattle.gier_pass1.proofs.RestOfProgram.{to_come, to_come_in, faults_found, Begins, begins_joined, begins_same, begins_as}

-- the step at the end of a word, by its number
abbrev pub by_number : Mode → Option ℕ → State → Bool → Step
by_number mode None s taken = word_wrong_in mode s taken
by_number mode (Some number) s taken = word_found_in mode s number taken

-- what a word gives that was read like this, and what is read behind it
abbrev pub by_word : WordRead → Spelling → Bool → List ℕ → ℕ → Listing
by_word found spelling fresh bytes line =
    let t = takes_word found.tag found.taken spelling fresh bytes line in
    listings_joined t.gives (read spelling bytes t.more t.fresh line)

-- how many bytes are skipped where they begin with such a word
abbrev pub skipped_by : WordRead → Spelling → List ℕ → ℕ
skipped_by found spelling bytes = skipped_as (ends_skipping found.tag) (also_ends found.tag) found.taken (skipped_length spelling bytes)

word_front : (spelling : Spelling) (bytes : List ℕ) (fresh : Bool) (line : ℕ)
    → read spelling (word_byte spelling ∷ bytes) 0 fresh line ≡ by_word (word_of spelling bytes) spelling fresh bytes line
word_front Plain bytes fresh line = refl
word_front Quoted bytes fresh line = refl

-- a wrong word
wrong_by : (s : State) (word rest : List ℕ) → InLine word → s.began.line ≡ s.here.line
    → Begins (listings_joined (record { symbols = []; faults = record { kind = WrongWord; line = s.here.line } ∷ [] })
    (read s.spelling (word ++ rest) (length word) false s.here.line)) [] (record { kind = WordFault; line = s.began.line } ∷ [])
    (read s.spelling rest 0 false s.here.line)
wrong_by s word rest line began = rw began (begins_joined _ _
    (record { symbols = []; faults = record { kind = WrongWord; line = s.here.line } ∷ [] })
    (ap (λ (l : Listing). listings_joined (record { symbols = []; faults = record { kind = WrongWord; line = s.here.line } ∷ [] }) l)
    (read_all_of s.spelling word rest false s.here.line line)))

comment_by : (fresh : Bool) (s : State) (word rest : List ℕ) (taken : Bool) → InLine word → s.began.line ≡ s.here.line
    → Begins (listings_joined (takes_comment fresh (length word) (word ++ rest) s.here.line).gives
    (read s.spelling (word ++ rest) (takes_comment fresh (length word) (word ++ rest) s.here.line).more
    (takes_comment fresh (length word) (word ++ rest) s.here.line).fresh s.here.line))
    (letters_in (comment_word (record s { may_comment = fresh }) taken).found)
    (faults_found (comment_word (record s { may_comment = fresh }) taken).found)
    (to_come (comment_word (record s { may_comment = fresh }) taken).state [] rest)
comment_by true s word rest taken line began =
    begins_as _ _ (ap (λ (r : List ℕ). read s.spelling (word ++ rest) (length word + comment_length r) true s.here.line)
    (dropped word rest) ∙ read_over s.spelling word rest (comment_length rest) true s.here.line line)
comment_by false s word rest taken line began = wrong_by s word rest line began

same_number : (a b : ℕ) → eqb a b ≡ true → a ≡ b
same_number a b h = grind (arith, nat_tests)

end_by : (s : State) (word rest : List ℕ) (taken : Bool) → InLine word → s.began.line ≡ s.here.line
    → Begins (by_word (record { tag = Some 37; taken = length word }) s.spelling s.may_comment (word ++ rest) s.here.line)
    (letters_in (plain_word s 37 taken).found) (faults_found (plain_word s 37 taken).found)
    (to_come (plain_word s 37 taken).state [] rest)
end_by s word rest taken line began =
    rw began (begins_joined _ _ (record { symbols = record { tag = 37; value = 0; line = s.here.line } ∷ []; faults = [] })
    (ap (λ (l : Listing). listings_joined (record { symbols = record { tag = 37; value = 0; line = s.here.line } ∷ []; faults = [] }) l)
    (ap (λ (r : List ℕ). read s.spelling (word ++ rest) (length word + skipped_length s.spelling r 0) false s.here.line)
    (dropped word rest) ∙ read_over s.spelling word rest (skipped_length s.spelling rest 0) false s.here.line line)))

known_by : (comment end : Bool) (s : State) (word rest : List ℕ) (number : ℕ) (taken : Bool) → eqb number 56 ≡ comment
    → eqb number 37 ≡ end → InLine word → s.began.line ≡ s.here.line
    → Begins (by_word (record { tag = Some number; taken = length word }) s.spelling s.may_comment (word ++ rest) s.here.line)
    (letters_in (plain_word s number taken).found) (faults_found (plain_word s number taken).found)
    (to_come (plain_word s number taken).state [] rest)
known_by true end s word rest number taken c e line began = rw c (comment_by s.may_comment s word rest taken line began)
known_by false true s word rest number taken c e line began = rw (same_number number 37 e) (end_by s word rest taken line began)
known_by false false s word rest number taken c e line began =
    rw (c, e, began) (begins_joined _ _ (record { symbols = record { tag = number; value = 0; line = s.here.line } ∷ []; faults = [] })
    (ap (λ (l : Listing). listings_joined (record { symbols = record { tag = number; value = 0; line = s.here.line } ∷ []; faults = [] }) l)
    (read_all_of s.spelling word rest (eqb number 36) s.here.line line)))

plain_ends : (tag : Option ℕ) (s : State) (word rest : List ℕ) (taken : Bool) → InLine word → s.began.line ≡ s.here.line
    → Begins (by_word (record { tag = tag; taken = length word }) s.spelling s.may_comment (word ++ rest) s.here.line)
    (letters_in (by_number InWord tag s taken).found) (faults_found (by_number InWord tag s taken).found)
    (to_come (by_number InWord tag s taken).state [] rest)
plain_ends None s word rest taken line began = wrong_by s word rest line began
plain_ends (Some number) s word rest taken line began = known_by (eqb number 56) (eqb number 37) s word rest number taken refl refl line
    began

-- the end of a word that isn't skipped
pub word_ends : (tag : Option ℕ) (s : State) (word rest : List ℕ) (taken : Bool)
    → word_of s.spelling (word ++ rest) ≡ record { tag = tag; taken = length word } → InLine word → s.began.line ≡ s.here.line
    → Begins (read s.spelling (word_byte s.spelling ∷ word ++ rest) 0 s.may_comment s.here.line)
    (letters_in (by_number InWord tag s taken).found) (faults_found (by_number InWord tag s taken).found)
    (to_come (by_number InWord tag s taken).state [] rest)
word_ends tag s word rest taken is line began =
    begins_same _ _ _ _ _ (word_front s.spelling (word ++ rest) s.may_comment s.here.line ∙ ap
    (λ (r : WordRead). by_word r s.spelling s.may_comment (word ++ rest) s.here.line) is) (plain_ends tag s word rest taken line began)

skipped_front : (spelling : Spelling) (bytes : List ℕ) → skipped_length spelling (word_byte spelling ∷ bytes) 0 ≡ skipped_by
    (word_of spelling bytes) spelling bytes
skipped_front Plain bytes = refl
skipped_front Quoted bytes = refl

read_behind : (spelling : Spelling) (bytes : List ℕ) (n : ℕ) (fresh : Bool) (line : ℕ)
    → read spelling (word_byte spelling ∷ bytes) (suc n) fresh line ≡ read spelling bytes n fresh line
read_behind spelling bytes n fresh line = ap (λ (l : ℕ). read spelling bytes n fresh l) (word_line spelling line)

passed_over : (s : State) (word rest : List ℕ) → InLine word
    → read s.spelling (word_byte s.spelling ∷ word ++ rest) (suc (skipped_length s.spelling (word ++ rest) (length word))) s.may_comment
    s.here.line ≡ read s.spelling rest (skipped_length s.spelling rest 0) s.may_comment s.here.line
passed_over s word rest line =
    read_behind s.spelling (word ++ rest) (skipped_length s.spelling (word ++ rest) (length word)) s.may_comment s.here.line
    ∙ ap (λ (n : ℕ). read s.spelling (word ++ rest) n s.may_comment s.here.line) (skipped_over s.spelling word rest)
    ∙ read_over s.spelling word rest (skipped_length s.spelling rest 0) s.may_comment s.here.line line

skipped_known : (end also : Bool) (s : State) (word rest : List ℕ) (number : ℕ) (taken : Bool) → eqb number 37 ≡ end
    → eqb number 40 ≡ also → word_of s.spelling (word ++ rest) ≡ record { tag = Some number; taken = length word } → InLine word
    → s.began.line ≡ s.here.line
    → Begins (read s.spelling (word_byte s.spelling ∷ word ++ rest)
    (skipped_as end also (length word) (skipped_length s.spelling (word ++ rest))) s.may_comment s.here.line)
    (letters_in (skipped_word s number taken).found) (faults_found (skipped_word s number taken).found)
    (to_come (skipped_word s number taken).state [] rest)
skipped_known true also s word rest number taken e a is line began =
    let n = same_number number 37 e in
    rw n (word_ends (Some 37) s word rest taken (is ∙ ap (λ (k : ℕ). record { tag = Some k; taken = length word }) n) line began)
skipped_known false true s word rest number taken e a is line began =
    let n = same_number number 40 a in
    rw n (word_ends (Some 40) s word rest taken (is ∙ ap (λ (k : ℕ). record { tag = Some k; taken = length word }) n) line began)
skipped_known false false s word rest number taken e a is line began = rw (e, a) (begins_as _ _ (passed_over s word rest line))

skipped_ends : (tag : Option ℕ) (s : State) (word rest : List ℕ) (taken : Bool)
    → word_of s.spelling (word ++ rest) ≡ record { tag = tag; taken = length word } → InLine word → s.began.line ≡ s.here.line
    → Begins (read s.spelling (word_byte s.spelling ∷ word ++ rest)
    (skipped_by (record { tag = tag; taken = length word }) s.spelling (word ++ rest)) s.may_comment s.here.line)
    (letters_in (by_number InSkippedWord tag s taken).found) (faults_found (by_number InSkippedWord tag s taken).found)
    (to_come (by_number InSkippedWord tag s taken).state [] rest)
skipped_ends None s word rest taken is line began = begins_as _ _ (passed_over s word rest line)
skipped_ends (Some number) s word rest taken is line began = skipped_known (eqb number 37) (eqb number 40) s word rest number taken refl
    refl is line began

-- the end of a word that is skipped
pub skipped_word_ends : (tag : Option ℕ) (s : State) (word rest : List ℕ) (taken : Bool)
    → word_of s.spelling (word ++ rest) ≡ record { tag = tag; taken = length word } → InLine word → s.began.line ≡ s.here.line
    → Begins (to_come_in InSkippedWord s word rest) (letters_in (by_number InSkippedWord tag s taken).found)
    (faults_found (by_number InSkippedWord tag s taken).found) (to_come (by_number InSkippedWord tag s taken).state [] rest)
skipped_word_ends tag s word rest taken is line began =
    begins_same _ _ _ _ _ (ap (λ (n : ℕ). read s.spelling (word_byte s.spelling ∷ word ++ rest) n s.may_comment s.here.line)
    (skipped_front s.spelling (word ++ rest) ∙ ap (λ (r : WordRead). skipped_by r s.spelling (word ++ rest)) is))
    (skipped_ends tag s word rest taken is line began)
