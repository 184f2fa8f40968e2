-- Slots that are moved or replaced still have words of their own.
use Rattle.std.proofs.Common.{◌≡◌, ◌≢◌, ◌≤◌, ◌<◌, ◌+◌, ◌==◌, ◌^◌, ℕ, zero, suc, List, [], ◌∷◌, ◌++◌, length, take, get_or, set, not, cond, refl, ap, sym, subst, ◌∙◌, arith}
use Rattle.std.specs.List.{All, position, position_or_len}
use Rattle.std.proofs.lemmas.List.{get_or-set_same, get_or-set_other, get_or_append_left, take-map, length-append, length-map, length-set, length-take}
use Rattle.std.proofs.lemmas.List.Elements.{All-set, All-append}
use Rattle.gier_places.specs.declared.slots.Slot.{Slot}
use Rattle.gier_places.specs.HeldTracks.{HeldTrack, held_at, held_in, behind, moved_first}
use Rattle.gier_places.specs.SlotInvariant.{ats, IsAbsent, AreApart, AreBelow, IsPlaced}
use Rattle.gier_places.proofs.MoveToFront.{map-moved, length-moved, moved_last}

-- numbers that are apart, moved

absent-behind : (at x : ℕ) (xs : List ℕ) → x ≢ at → IsAbsent at xs → IsAbsent at (behind x xs)
absent-behind at x [] other rest = (other, tt)
absent-behind at x (first ∷ others) other rest = (rest.0, (other, rest.1))

absent-moved : (at : ℕ) (xs : List ℕ) (place : ℕ) → IsAbsent at xs → IsAbsent at (moved_first xs place)
absent-moved at [] place absent = tt
absent-moved at (x ∷ xs) zero absent = absent
absent-moved at (x ∷ xs) (suc place) absent = absent-behind at x (moved_first xs place) absent.0 (absent-moved at xs place absent.1)

apart-behind : (x : ℕ) (xs : List ℕ) → IsAbsent x xs → AreApart xs → AreApart (behind x xs)
apart-behind x [] absent apart = (tt, tt)
apart-behind x (first ∷ others) absent apart = ((λ same. absent.0 (sym same), apart.0), (absent.1, apart.1))

apart-moved : (xs : List ℕ) (place : ℕ) → AreApart xs → AreApart (moved_first xs place)
apart-moved [] place apart = tt
apart-moved (x ∷ xs) zero apart = apart
apart-moved (x ∷ xs) (suc place) apart = apart-behind x (moved_first xs place) (absent-moved x xs place apart.0) (apart-moved xs place apart.1)

below-behind : (limit x : ℕ) (xs : List ℕ) → x < limit → AreBelow limit xs → AreBelow limit (behind x xs)
below-behind limit x [] lt rest = (lt, tt)
below-behind limit x (first ∷ others) lt rest = (rest.0, (lt, rest.1))

below-moved : (limit : ℕ) (xs : List ℕ) (place : ℕ) → AreBelow limit xs → AreBelow limit (moved_first xs place)
below-moved limit [] place below = tt
below-moved limit (x ∷ xs) zero below = below
below-moved limit (x ∷ xs) (suc place) below = below-behind limit x (moved_first xs place) below.0 (below-moved limit xs place below.1)

pub placed-moved : (slots : List Slot) (words : List (List ℕ)) (place : ℕ) → IsPlaced slots words → IsPlaced (moved_first slots place) words
placed-moved slots words place placed = record {
  apart = rw (map-moved (λ (slot : Slot). slot.at) slots place) (apart-moved (ats slots) place placed.apart);
  below = rw (map-moved (λ (slot : Slot). slot.at) slots place) (below-moved (length words) (ats slots) place placed.below);
  as_many = rw (length-moved slots place) placed.as_many;
  small = placed.small;
}

-- the beginning of such a list, and its last number

absent-take : (n at : ℕ) (xs : List ℕ) → IsAbsent at xs → IsAbsent at (take n xs)
absent-take zero at xs absent = tt
absent-take (suc n) at [] absent = tt
absent-take (suc n) at (x ∷ xs) absent = (absent.0, absent-take n at xs absent.1)

apart-take : (n : ℕ) (xs : List ℕ) → AreApart xs → AreApart (take n xs)
apart-take zero xs apart = tt
apart-take (suc n) [] apart = tt
apart-take (suc n) (x ∷ xs) apart = (absent-take n x xs apart.0, apart-take n xs apart.1)

below-take : (limit n : ℕ) (xs : List ℕ) → AreBelow limit xs → AreBelow limit (take n xs)
below-take limit zero xs below = tt
below-take limit (suc n) [] below = tt
below-take limit (suc n) (x ∷ xs) below = (below.0, below-take limit n xs below.1)

other_than : (at : ℕ) (xs : List ℕ) (k : ℕ) → k < length xs → IsAbsent at xs → at ≢ get_or xs k 0
other_than at [] k lt absent = absurd (omega arith)
other_than at (x ∷ xs) zero lt absent = λ same. absent.0 (sym same)
other_than at (x ∷ xs) (suc k) lt absent = other_than at xs k (omega arith) absent.1

last_absent : (last : ℕ) (xs : List ℕ) → suc last ≡ length xs → AreApart xs → IsAbsent (get_or xs last 0) (take last xs)
last_absent last [] is apart = absurd (omega arith)
last_absent zero (x ∷ xs) is apart = tt
last_absent (suc last) (x ∷ xs) is apart = (other_than x xs last (omega arith) apart.0, last_absent last xs (omega arith) apart.1)

pub below_at : (limit : ℕ) (xs : List ℕ) (k : ℕ) → k < length xs → AreBelow limit xs → get_or xs k 0 < limit
below_at limit [] k lt below = absurd (omega arith)
below_at limit (x ∷ xs) zero lt below = below.0
below_at limit (x ∷ xs) (suc k) lt below = below_at limit xs k (omega arith) below.1

-- a number that is new

below_more : (limit more : ℕ) (xs : List ℕ) → limit ≤ more → AreBelow limit xs → AreBelow more xs
below_more limit more [] le below = tt
below_more limit more (x ∷ xs) le below = (omega (arith, below.0), below_more limit more xs le below.1)

new_absent : (limit : ℕ) (xs : List ℕ) → AreBelow limit xs → IsAbsent limit xs
new_absent limit [] below = tt
new_absent limit (x ∷ xs) below = (λ same. omega (arith, below.0, same), new_absent limit xs below.1)

-- words that no slot has are not seen

unseen : (slots : List Slot) (words : List (List ℕ)) (at : ℕ) (new : List ℕ) → IsAbsent at (ats slots) → held_in (set words at new) slots ≡ held_in words slots
unseen [] words at new absent = refl
unseen (slot ∷ slots) words at new absent =
    rw (get_or-set_other words at slot.at new [] absent.0, unseen slots words at new absent.1) refl

unseen_more : (slots : List Slot) (words : List (List ℕ)) (new : List ℕ) → AreBelow (length words) (ats slots) → held_in (words ++ new ∷ []) slots ≡ held_in words slots
unseen_more [] words new below = refl
unseen_more (slot ∷ slots) words new below =
    rw (get_or_append_left words (new ∷ []) [] slot.at below.0, unseen_more slots words new below.1) refl

-- a slot in place of the last one

abbrev pub none : Slot
none = record { track = 0; at = 0 }

at_in : (slots : List Slot) (k : ℕ) → k < length slots → get_or (ats slots) k 0 ≡ (get_or slots k none).at
at_in [] k lt = absurd (omega arith)
at_in (slot ∷ slots) zero lt = refl
at_in (slot ∷ slots) (suc k) lt = at_in slots k (omega arith)

pub has_words : (slots : List Slot) (words : List (List ℕ)) (k : ℕ) → k < length slots → IsPlaced slots words → (get_or slots k none).at < length words
has_words slots words k lt placed =
    let within : k < length (ats slots) = omega (arith, lt, length-map slots (λ (slot : Slot). slot.at)) in
    rw (← at_in slots k lt) (below_at (length words) (ats slots) k within placed.below)

pub record Replaced (slots : List Slot) (words : List (List ℕ)) (last at track : ℕ) (new : List ℕ) (moved : List Slot) : Type 0 where
  pub placed : IsPlaced moved (set words at new)
  pub held : held_in (set words at new) moved ≡ take (suc last) (record { track = track; words = new } ∷ held_in words slots)

pub replaced : (slots : List Slot) (words : List (List ℕ)) (last at track : ℕ) (new : List ℕ) (moved : List Slot) → suc last ≡ length slots → at ≡ (get_or slots last none).at → moved ≡ moved_first (set slots last (record { track = track; at = at })) last → IsPlaced slots words → All (λ word. word < 2 ^ 40) new → Replaced slots words last at track new moved
replaced slots words last at track new moved is same moves placed small =
    let lt : last < length slots = omega arith in
    let here : at ≡ get_or (ats slots) last 0 = same ∙ sym (at_in slots last lt) in
    let long : suc last ≡ length (ats slots) = is ∙ sym (length-map slots (λ (slot : Slot). slot.at)) in
    let ats_take : take last (ats slots) ≡ ats (take last slots) = take-map (λ (slot : Slot). slot.at) last slots in
    let absent : IsAbsent at (ats (take last slots)) = rw (← ats_take, here) (last_absent last (ats slots) long placed.apart) in
    let within : at < length words = rw same (has_words slots words last lt placed) in
    rw (moves, moved_last slots last (record { track = track; at = at }) is) (record {
      placed = record {
        apart = (absent, rw (← ats_take) (apart-take last (ats slots) placed.apart));
        below = subst (λ (n : ℕ). AreBelow n (at ∷ ats (take last slots))) (sym (length-set words at new)) (within, rw (← ats_take) (below-take (length words) last (ats slots) placed.below));
        as_many = omega (arith, length-set words at new, placed.as_many, length-take last slots);
        small = All-set (λ (track : List ℕ). All (λ word. word < 2 ^ 40) track) words at new small placed.small;
      };
      held = rw (get_or-set_same words at new [] within, unseen (take last slots) words at new absent)
          (ap (λ (held : List HeldTrack). record { track = track; words = new } ∷ held) (sym (take-map (held_at words) last slots)));
    })

-- a slot more

pub record Added (slots : List Slot) (words : List (List ℕ)) (at track : ℕ) (new : List ℕ) : Type 0 where
  pub placed : IsPlaced (record { track = track; at = at } ∷ slots) (words ++ new ∷ [])
  pub held : held_in (words ++ new ∷ []) (record { track = track; at = at } ∷ slots) ≡ record { track = track; words = new } ∷ held_in words slots

all_one : (new : List ℕ) → All (λ word. word < 2 ^ 40) new → All (λ (track : List ℕ). All (λ word. word < 2 ^ 40) track) (new ∷ [])
all_one new small zero d lt = small
all_one new small (suc k) d lt = absurd (omega arith)

last_of : (words : List (List ℕ)) (new : List ℕ) → get_or (words ++ new ∷ []) (length words) [] ≡ new
last_of [] new = refl
last_of (w ∷ words) new = last_of words new

pub added : (slots : List Slot) (words : List (List ℕ)) (at track : ℕ) (new : List ℕ) → at ≡ length words → IsPlaced slots words → All (λ word. word < 2 ^ 40) new → Added slots words at track new
added slots words at track new is placed small =
    let more : length (words ++ new ∷ []) ≡ suc (length words) = length-append words (new ∷ []) ∙ omega arith in
    rw is (record {
      placed = record {
        apart = (new_absent (length words) (ats slots) placed.below, placed.apart);
        below = subst (λ (n : ℕ). AreBelow n (length words ∷ ats slots)) (sym more) (omega arith, below_more (length words) (suc (length words)) (ats slots) (omega arith) placed.below);
        as_many = omega (arith, more, placed.as_many);
        small = All-append (λ (track : List ℕ). All (λ word. word < 2 ^ 40) track) words (new ∷ []) placed.small (all_one new small);
      };
      held = rw (last_of words new, unseen_more slots words new placed.below) refl;
    })

-- a track is found among the slots where it is found among what they hold

position_or_len-held : (words : List (List ℕ)) (slots : List Slot) (track : ℕ) → position_or_len (λ (slot : Slot). slot.track == track) slots ≡ position_or_len (λ (h : HeldTrack). h.track == track) (held_in words slots)
position_or_len-held words [] track = refl
position_or_len-held words (slot ∷ slots) track = ap (λ (n : ℕ). cond (not (slot.track == track)) (1 + n) 0) (position_or_len-held words slots track)

pub position-held : (words : List (List ℕ)) (slots : List Slot) (track : ℕ) → position (λ (slot : Slot). slot.track == track) slots ≡ position (λ (h : HeldTrack). h.track == track) (held_in words slots)
position-held words slots track =
    rw (position_or_len-held words slots track, ← length-map slots (held_at words)) refl
