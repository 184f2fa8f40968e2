-- Tracks that are kept in slots, on plain lists.
use Rattle.std.proofs.Common.{◌<◌, ◌≡◌, ℕ, zero, suc, ◌-◌, ◌≤◌, ◌^◌, List, [], ◌∷◌, ◌++◌, length, get_or, set, replicate, refl, arith, length-append, lit<}
use Rattle.std.specs.List.{All}
use Rattle.std.proofs.lemmas.List.{length-map, length-set, get_or-replicate, length-replicate, get_or-map}
use Rattle.std.proofs.lemmas.List.Elements.{All-set, All-append}
use Rattle.gier_drum.specs.Drum.{zero_track, IsTrack}
use Rattle.gier_drum.specs.Memory.{AreTracks}
use Rattle.gier_drum.specs.Pages.{page_at, pages, IsStored}
use Rattle.gier_drum.proofs.Pages.{IsIndex-new, IsIndex-same, IsIndex-grown}

pub zero_words : (k d : ℕ) → k < 40 → get_or zero_track k d < 2 ^ 40
zero_words k d lt = rw (get_or-replicate 40 k 0 d lt) (lit< tt)

pub IsTrack-zero : IsTrack zero_track
IsTrack-zero = record { long = refl; small = zero_words }

track_at : (slots : List (List ℕ)) (n : ℕ) → All IsTrack slots → n ≤ length slots → IsTrack (page_at zero_track slots n)
track_at slots zero ok le = IsTrack-zero
track_at slots (suc n) ok le = ok n zero_track (omega arith)

-- each track has 40 words below 2^40
pub AreTracks-pages : (index : List ℕ) (slots : List (List ℕ)) (capacity : ℕ) → IsStored index slots capacity → AreTracks (pages zero_track index slots)
AreTracks-pages index slots capacity ok = record {
  few = omega (arith, ok.few, length-map index (page_at zero_track slots));
  shaped = λ t d below.
      let lt : t < length index = omega (arith, length-map index (page_at zero_track slots)) in
      rw (get_or-map (page_at zero_track slots) index t 0 d lt) (track_at slots (get_or index t 0) ok.shaped (ok.indexed.within t lt));
}

one : (x : List ℕ) → IsTrack x → All IsTrack (x ∷ [])
one x ok zero d below = ok
one x ok (suc k) d below = absurd (omega arith)

pub IsStored-new : (index : List ℕ) (slots : List (List ℕ)) (t capacity new_capacity : ℕ) (x : List ℕ) → IsStored index slots capacity → t < length index → get_or index t 0 ≡ 0 → IsTrack x → new_capacity ≡ capacity → IsStored (set index t (suc (length slots))) (slots ++ x ∷ []) new_capacity
IsStored-new index slots t capacity new_capacity x ok lt is track same = record {
  indexed = IsIndex-new index slots t x ok.indexed lt is;
  few = omega (arith, ok.few, length-set index t (suc (length slots)));
  reserved = omega (arith, ok.reserved, length-set index t (suc (length slots)));
  shaped = All-append IsTrack slots (x ∷ []) ok.shaped (one x track);
}

pub IsStored-same : (index : List ℕ) (slots : List (List ℕ)) (s capacity : ℕ) (x : List ℕ) → IsStored index slots capacity → IsTrack x → IsStored index (set slots s x) capacity
IsStored-same index slots s capacity x ok track = record {
  indexed = IsIndex-same index slots s x ok.indexed;
  few = ok.few;
  reserved = ok.reserved;
  shaped = All-set IsTrack slots s x track ok.shaped;
}

pub IsStored-grown : (index : List ℕ) (slots : List (List ℕ)) (capacity new_capacity wanted : ℕ) → IsStored index slots capacity → wanted < 2 ^ 32 → length index ≤ wanted → wanted ≤ new_capacity → IsStored (index ++ replicate (wanted - length index) 0) slots new_capacity
IsStored-grown index slots capacity new_capacity wanted ok few le reserved =
    let long_index : length (index ++ replicate (wanted - length index) 0) ≡ wanted = omega (arith, length-append index (replicate (wanted - length index) 0), length-replicate {A = ℕ} (wanted - length index) 0) in
    record {
      indexed = IsIndex-grown index slots (wanted - length index) ok.indexed;
      few = omega arith;
      reserved = omega arith;
      shaped = ok.shaped;
    }
