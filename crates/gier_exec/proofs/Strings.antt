-- A string, word by word: each word's bytes are printed before the next one is read.
use Rattle.std.specs.Prelude.{◌≡◌, ◌+◌, ◌-◌, ◌*◌, ◌/◌, ◌<◌, ◌≤◌, ◌++◌, ℕ, suc, Bool, true, false, nat_lt, min, List, [], ◌∷◌, length, take, Option, None, Some, Result, Ok, Err}
use Rattle.std.proofs.Common.{arith, refl, ap, sym, subst, ◌∙◌}
use Rattle.std.proofs.lemmas.Bool.Decides.{nat_tests}
use Rattle.std.proofs.lemmas.List.{append_assoc}
use Rattle.gier_word.specs.declared.alarm.Alarm.{Alarm}
use Rattle.gier_io.specs.Device.{Puts}
use Rattle.gier_order.specs.Flat.Row.{Regs, Row, odd, reads, behind_ref, behind_bytes}
use Rattle.gier_order.specs.Flat.Rows.{on, piece, bytes_of, prints_words, prints_string}
use Rattle.gier_exec.specs.declared.stop.Stop.TheVariants.{Ended, Alarm as Alarmed, Steps, Odd}
use Rattle.gier_exec.specs.declared.stop.Miss.{Miss}
use Rattle.gier_exec.specs.declared.stop.Miss.TheVariants.{Drum, Stop as Stopped}
use Rattle.gier_exec.specs.declared.stop.Quit.{Quit}
use Rattle.gier_exec.specs.declared.stop.Quit.TheVariants.{Miss as Missed, Read, Write}
use Rattle.gier_exec.specs.References.{RefinesFetch}
use Rattle.gier_exec.specs.Turning.{printing_row}
use Rattle.gier_exec.specs.Standards.{Sends, after_both, Starts, PrintsOn}
use Rattle.gier_exec.proofs.Procedures.{part}

pub puts_both : (old mid new : Option (List ℕ)) (first second : List ℕ) → Puts old first mid → Puts mid second new → Puts old (first ++ second) new
puts_both None mid new first second a b = let more : Puts None second new = subst (λ (h : Option (List ℕ)). Puts h second new) a b in more
puts_both (Some held) mid new first second a b =
    let more : Puts (Some (held ++ first)) second new = subst (λ (h : Option (List ℕ)). Puts h second new) a b in
    more ∙ ap Some (append_assoc held first second)

-- Rows one behind the other

both_rows : (read put read1 put1 : List ℕ) (row : Row) → after_both read put (after_both read1 put1 row) ≡ after_both (read ++ read1) (put ++ put1) row
both_rows read put read1 put1 row =
    ap (λ xs. printing_row xs (put ++ (put1 ++ row.printed)) row.step) (sym (append_assoc read read1 row.refs))
    ∙ ap (λ xs. printing_row ((read ++ read1) ++ row.refs) xs row.step) (sym (append_assoc put put1 row.printed))

starts_behind : (whole mid : Row) (read put read1 put1 : List ℕ) → whole ≡ after_both read put mid → Starts mid read1 put1 → Starts whole (read ++ read1) (put ++ put1)
starts_behind whole mid read put read1 put1 e h = (
  (h.0.0, ap (λ (r : Row). r.refs) e ∙ ap (λ xs. read ++ xs) h.0.1 ∙ sym (append_assoc read read1 h.0.0)),
  (h.1.0, ap (λ (r : Row). r.printed) e ∙ ap (λ xs. put ++ xs) h.1.1 ∙ sym (append_assoc put put1 h.1.0)),
)

-- what would have come next doesn't matter where an order stops
stops_behind : (whole mid go other : Row) (read put read1 put1 : List ℕ) (quit : Quit) → whole ≡ after_both read put mid → PrintsOn mid other read1 put1 (Err quit) → PrintsOn whole go (read ++ read1) (put ++ put1) (Err quit)
stops_behind whole mid go other read put read1 put1 (Missed (Stopped (Alarmed alarm))) e h = absurd h
stops_behind whole mid go other read put read1 put1 (Missed (Stopped Ended)) e h = absurd h
stops_behind whole mid go other read put read1 put1 (Missed (Stopped Steps)) e h = absurd h
stops_behind whole mid go other read put read1 put1 (Missed (Stopped Odd)) e h = e ∙ ap (λ r. after_both read put r) h
stops_behind whole mid go other read put read1 put1 (Missed Drum) e h = starts_behind whole mid read put read1 put1 e h
stops_behind whole mid go other read put read1 put1 Read e h = absurd h
stops_behind whole mid go other read put read1 put1 Write e h = starts_behind whole mid read put read1 put1 e h

prints_behind : (whole mid go : Row) (read put read1 put1 : List ℕ) (result : Result (Unit {0}) Quit) → whole ≡ after_both read put mid → PrintsOn mid go read1 put1 result → PrintsOn whole go (read ++ read1) (put ++ put1) result
prints_behind whole mid go read put read1 put1 (Ok done) e h = e ∙ ap (λ r. after_both read put r) h ∙ both_rows read put read1 put1 go
prints_behind whole mid go read put read1 put1 (Err quit) e h = stops_behind whole mid go go read put read1 put1 quit e h

-- no word was read
pub missed_prints : (row go : Row) (next : ℕ → Row) (a : ℕ) (miss : Miss) → RefinesFetch row next a (Err miss) → PrintsOn row go [] [] (Err (Missed miss))
missed_prints row go next a Drum h = ((row.refs, refl), (row.printed, refl))
missed_prints row go next a (Stopped Ended) h = absurd h
missed_prints row go next a (Stopped (Alarmed alarm)) h = absurd h
missed_prints row go next a (Stopped Steps) h = absurd h
missed_prints row go next a (Stopped Odd) h = h

-- One word

-- the row of a word of a string of which so many bytes are left
abbrev pub word_row : (code : List ℕ) (a left : ℕ) → Row → Row
word_row code a left go = reads code a (λ word. behind_bytes (take (min left piece) (bytes_of word)) go)

abbrev text : List ℕ → Result (List ℕ) Alarm
text xs = Ok xs

same_bytes : (xs ys : List ℕ) → text xs ≡ text ys → xs ≡ ys
same_bytes xs ys e = cc

pub word_prints : {K : Type 0} (holds : K → Option (List ℕ)) (code : List ℕ) (a left word : ℕ) (bytes : List ℕ) (old : K) (result : Result (Unit {0}) Quit) (new : K)
    → ((next : ℕ → Row) → reads code a next ≡ behind_ref a (next word)) → bytes ≡ take (min left piece) (bytes_of word) → Sends holds (Ok bytes) old result new
    → (put : List ℕ) × Puts (holds old) put (holds new) × ((go : Row) → PrintsOn (word_row code a left go) go (a ∷ []) put result)
word_prints holds code a left word bytes old (Ok done) new read is h =
    (h.0, h.2, λ go. read _ ∙ ap (λ xs. behind_ref a (behind_bytes xs go)) (sym is ∙ same_bytes bytes h.0 h.1))
word_prints holds code a left word bytes old (Err (Missed (Stopped (Alarmed alarm)))) new read is h = absurd (cc (h.0))
word_prints holds code a left word bytes old (Err (Missed (Stopped Ended))) new read is h = absurd h
word_prints holds code a left word bytes old (Err (Missed (Stopped Steps))) new read is h = absurd h
word_prints holds code a left word bytes old (Err (Missed (Stopped Odd))) new read is h = absurd h
word_prints holds code a left word bytes old (Err (Missed Drum)) new read is h = absurd h
word_prints holds code a left word bytes old (Err Read) new read is h = absurd h
word_prints holds code a left word bytes old (Err Write) new read is h =
    let some = part (holds old) (holds new) h.0 h.2 in (
      some.0,
      some.1,
      λ go.
          let row : word_row code a left go ≡ behind_ref a (behind_bytes h.0 go) = read _ ∙ ap (λ xs. behind_ref a (behind_bytes xs go)) (sym is ∙ same_bytes bytes h.0 h.1) in (
            (go.refs, ap (λ (r : Row). r.refs) row),
            (some.2.0 ++ go.printed, ap (λ (r : Row). r.printed) row ∙ ap (λ xs. xs ++ go.printed) some.2.1 ∙ append_assoc some.0 some.2.0 go.printed),
          ),
    )

-- Some words

-- the words before this one of a string of so many words and bytes were read, and their bytes printed
abbrev pub Printed : (code : List ℕ) (words a bytes at : ℕ) (read put : List ℕ) → Type 0
Printed code words a bytes at read put =
    (size : ℕ) (m : Regs) (k : ℕ) → at + k ≡ words → prints_words code size m words a bytes ≡ after_both read put (prints_words code size m k (a + at) (bytes - at * 5))

pub printed_none : (code : List ℕ) (words a bytes : ℕ) → Printed code words a bytes 0 [] []
printed_none code words a bytes size m k e =
    let all : words ≡ k = omega (arith, e) in
    let here : a ≡ a + 0 = omega arith in
    let left : bytes ≡ bytes - 0 * 5 = omega arith in
    ap (λ n. prints_words code size m n a bytes) all ∙ ap (λ p. prints_words code size m k p bytes) here ∙ ap (λ b. prints_words code size m k (a + 0) b) left

pub printed_more : (code : List ℕ) (words a bytes at : ℕ) (read put read1 put1 : List ℕ) → Printed code words a bytes at read put
    → ((go : Row) → PrintsOn (word_row code (a + at) (bytes - at * 5) go) go read1 put1 (Ok tt)) → Printed code words a bytes (at + 1) (read ++ read1) (put ++ put1)
printed_more code words a bytes at read put read1 put1 so_far one size m k e =
    let still : at + suc k ≡ words = omega (arith, e) in
    let next : a + at + 1 ≡ a + (at + 1) = omega arith in
    let left : bytes - at * 5 - 5 ≡ bytes - (at + 1) * 5 = omega arith in
    so_far size m (suc k) still
    ∙ ap (λ r. after_both read put r) (one (prints_words code size m k (a + at + 1) (bytes - at * 5 - 5)))
    ∙ both_rows read put read1 put1 _
    ∙ ap (λ p. after_both (read ++ read1) (put ++ put1) (prints_words code size m k p (bytes - at * 5 - 5))) next
    ∙ ap (λ b. after_both (read ++ read1) (put ++ put1) (prints_words code size m k (a + (at + 1)) b)) left

pub printed_stops : (code : List ℕ) (words a bytes at : ℕ) (read put read1 put1 : List ℕ) (quit : Quit) → Printed code words a bytes at read put → at < words
    → ((go : Row) → PrintsOn (word_row code (a + at) (bytes - at * 5) go) go read1 put1 (Err quit))
    → (size : ℕ) (m : Regs) → PrintsOn (prints_words code size m words a bytes) (on code size m m) (read ++ read1) (put ++ put1) (Err quit)
printed_stops code words a bytes at read put read1 put1 quit so_far lt one size m =
    let k = words - at - 1 in
    let still : at + suc k ≡ words = omega (arith, lt) in
    let next = prints_words code size m k (a + at + 1) (bytes - at * 5 - 5) in
    stops_behind (prints_words code size m words a bytes) (word_row code (a + at) (bytes - at * 5) next) (on code size m m) next read put read1 put1 quit (so_far size m (suc k) still) (one next)

pub printed_all : (code : List ℕ) (words a bytes at : ℕ) (read put : List ℕ) → Printed code words a bytes at read put → at ≡ words
    → (size : ℕ) (m : Regs) → PrintsOn (prints_words code size m words a bytes) (on code size m m) read put (Ok tt)
printed_all code words a bytes at read put so_far e size m = so_far size m 0 (omega (arith, e))

-- The whole string

abbrev words_or : Bool → Row → Row
words_or fits row = elim fits as (λ _. Row) [ true ↦ row | false ↦ odd ]

-- what follows the number of a string's bytes
abbrev pub string_next : (code : List ℕ) (size : ℕ) (m : Regs) (a : ℕ) → ℕ → Row
string_next code size m a bytes = words_or (nat_lt (a + (bytes + 4) / 5) (length code)) (prints_words code size m ((bytes + 4) / 5) (a + 1) bytes)

fits_in : (a n : ℕ) → a < n → nat_lt a n ≡ true
fits_in a n lt = grind (arith, nat_tests, lt)

fits_not : (a n : ℕ) → n ≤ a → nat_lt a n ≡ false
fits_not a n le = grind (arith, nat_tests, le)

pub string_prints : (code : List ℕ) (size : ℕ) (m : Regs) (a bytes : ℕ) (read put : List ℕ) (result : Result (Unit {0}) Quit) → ((next : ℕ → Row) → reads code a next ≡ behind_ref a (next bytes)) → a + (bytes + 4) / 5 < length code
    → PrintsOn (prints_words code size m ((bytes + 4) / 5) (a + 1) bytes) (on code size m m) read put result → PrintsOn (prints_string code size m a) (on code size m m) (a ∷ read) put result
string_prints code size m a bytes read put result is lt h =
    let words = prints_words code size m ((bytes + 4) / 5) (a + 1) bytes in
    prints_behind (prints_string code size m a) words (on code size m m) (a ∷ []) [] read put result
    (is _ ∙ ap (λ fits. behind_ref a (words_or fits words)) (fits_in (a + (bytes + 4) / 5) (length code) lt)) h

pub string_odd : (code : List ℕ) (size : ℕ) (m : Regs) (a bytes : ℕ) → ((next : ℕ → Row) → reads code a next ≡ behind_ref a (next bytes)) → length code ≤ a + (bytes + 4) / 5
    → PrintsOn (prints_string code size m a) (on code size m m) (a ∷ []) [] (Err (Missed (Stopped Odd)))
string_odd code size m a bytes is past =
    is _ ∙ ap (λ fits. behind_ref a (words_or fits (prints_words code size m ((bytes + 4) / 5) (a + 1) bytes))) (fits_not (a + (bytes + 4) / 5) (length code) past)
