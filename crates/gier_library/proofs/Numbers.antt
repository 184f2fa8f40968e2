-- Reading an integer: what was read so far, and what its end makes of it.
use Rattle.std.proofs.Common.{◌≡◌, ◌<◌, ◌≤◌, ◌+◌, ℕ, ℤ, suc, true, false, List, [], ◌∷◌, ◌++◌, length, Result, Ok, Err, arith, refl, ap, sym, ◌∙◌, append_assoc, append-nil, length-append}
use Rattle.gier_word.specs.Standard.{Reading, integer_read, behind_byte, at_byte, at_end}
use Rattle.gier_word.specs.declared.alarm.Alarm.{Alarm}
use Rattle.gier_word.specs.declared.refusal.Failed.{Failed}
use Rattle.gier_library.specs.Data.{limit, Stand, Takes, Reads}
use Rattle.gier_library.specs.Places.{read_from, read_after, outcome_at_end}
use Rattle.gier_library.specs.declared.number.Place.{Place}
use Rattle.gier_library.specs.declared.number.Place.TheVariants.{Blank, Signed, Digits}
use Rattle.gier_library.specs.declared.number.Step.TheVariants.{Goes, Stops}
use Rattle.gier_library.proofs.ReadsInOrder.{takes_nothing, takes_more}

-- so many bytes are taken before all this
abbrev pub behind : ℕ → Reading → Reading
behind n rest = record { outcome = rest.outcome; taken = n + rest.taken; meets_end = rest.meets_end }

-- these bytes were read, and the procedure goes on from this place
pub record IsReading (old : Stand) (place : Place) (now : Stand) : Type 0 where
  pub done : List ℕ
  pub takes : Takes old done now
  pub goes_on : (rest : List ℕ) → integer_read (done ++ rest) ≡ behind (length done) (read_from place rest)

behind_same : (n m : ℕ) (r : Reading) → m ≡ n + r.taken → record { outcome = r.outcome; taken = m; meets_end = r.meets_end } ≡ behind n r
behind_same n m r e = ap (λ (k : ℕ). record { outcome = r.outcome; taken = k; meets_end = r.meets_end }) e

pub reading_begins : (s : Stand) → s.given ≤ limit → (s.ended ≡ false → s.given < limit) → IsReading s Blank s
reading_begins s limited below = record {
  done = [];
  takes = takes_nothing s limited below;
  goes_on = λ rest. behind_same 0 (integer_read rest).taken (integer_read rest) (omega arith);
}

behind_more : (done : List ℕ) (byte : ℕ) (r : Reading) → behind (length done) (behind_byte r) ≡ behind (length (done ++ byte ∷ [])) r
behind_more done byte r =
    let e : length (done ++ byte ∷ []) ≡ length done + 1 = length-append done (byte ∷ []) in
    behind_same (length (done ++ byte ∷ [])) (length done + suc r.taken) r (omega (arith, e))

-- a byte comes behind which the procedure goes on
pub reading_goes : (old now new : Stand) (place next : Place) (byte : ℕ) → IsReading old place now → Takes now (byte ∷ []) new → ((rest : List ℕ) → read_from place (byte ∷ rest) ≡ read_after (Goes next) rest) → IsReading old next new
reading_goes old now new place next byte so_far takes goes = record {
  done = so_far.done ++ byte ∷ [];
  takes = takes_more old now new so_far.done (byte ∷ []) so_far.takes takes;
  goes_on = λ rest.
      ap integer_read (append_assoc so_far.done (byte ∷ []) rest)
      ∙ so_far.goes_on (byte ∷ rest)
      ∙ ap (behind (length so_far.done)) (goes rest)
      ∙ behind_more so_far.done byte (read_from next rest);
}

-- a byte comes that ends the reading
pub reading_stops : (old now new : Stand) (place : Place) (byte : ℕ) (outcome : Result ℤ Alarm) → IsReading old place now → Takes now (byte ∷ []) new → ((rest : List ℕ) → read_from place (byte ∷ rest) ≡ read_after (Stops outcome) rest) → Reads integer_read old (Ok outcome) new
reading_stops old now new place byte outcome so_far takes stops =
    let bytes : List ℕ = so_far.done ++ byte ∷ [] in
    let is : integer_read bytes ≡ behind (length so_far.done) (at_byte outcome) = so_far.goes_on (byte ∷ []) ∙ ap (behind (length so_far.done)) (stops []) in
    let count : length so_far.done + 1 ≡ length bytes = sym (length-append so_far.done (byte ∷ [])) in (
      bytes,
      takes_more old now new so_far.done (byte ∷ []) so_far.takes takes,
      record {
        answer = ap (λ (r : Reading). r.outcome) is;
        whole = ap (λ (r : Reading). r.taken) is ∙ count;
        meets = λ h. let no : false ≡ true = sym (ap (λ (r : Reading). r.meets_end) is) ∙ h in absurd (cc);
      },
    )

at_end_is : (place : Place) → read_from place [] ≡ at_end (outcome_at_end place)
at_end_is Blank = refl
at_end_is (Signed negative) = refl
at_end_is (Digits negative n) = refl

-- the data end
pub reading_ends : (old now new : Stand) (place : Place) → IsReading old place now → Takes now [] new → new.ended ≡ true → Reads integer_read old (Ok (outcome_at_end place)) new
reading_ends old now new place so_far takes ended =
    let bytes : List ℕ = so_far.done ++ [] in
    let is : integer_read bytes ≡ behind (length so_far.done) (at_end (outcome_at_end place)) = so_far.goes_on [] ∙ ap (behind (length so_far.done)) (at_end_is place) in
    let count : length so_far.done + 0 ≡ length bytes = sym (length-append so_far.done []) in (
      bytes,
      takes_more old now new so_far.done [] so_far.takes takes,
      record {
        answer = ap (λ (r : Reading). r.outcome) is;
        whole = ap (λ (r : Reading). r.taken) is ∙ count;
        meets = λ h. ended;
      },
    )

-- the source fails
pub reading_fails : (old now new : Stand) (place : Place) (failed : Failed) → IsReading old place now → Takes now [] new → Reads integer_read old (Err failed) new
reading_fails old now new place failed so_far takes =
    let bytes : List ℕ = so_far.done ++ [] in
    let same : bytes ≡ so_far.done = append-nil so_far.done in (
      bytes,
      takes_more old now new so_far.done [] so_far.takes takes,
      λ rest.
          let is : integer_read (bytes ++ rest) ≡ behind (length so_far.done) (read_from place rest) = ap (λ (l : List ℕ). integer_read (l ++ rest)) same ∙ so_far.goes_on rest in
          let count : (integer_read (bytes ++ rest)).taken ≡ length so_far.done + (read_from place rest).taken = ap (λ (r : Reading). r.taken) is in
          let shown : length bytes ≡ length so_far.done = ap length same in
          omega (arith, count, shown),
    )

-- what holds while an integer is read
pub record Holds {S : Type 0} (faults : S → ℕ) (first now : S) (old : Stand) (place : Place) (new : Stand) : Type 0 where
  pub reading : IsReading old place new
  pub rests : old.ended ≡ true → (place ≡ Blank) × (now ≡ first)
  pub later : faults first ≤ faults now
