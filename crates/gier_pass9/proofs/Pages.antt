-- Words on pages, and how the object's tracks get them.
use Rattle.std.proofs.Common.{◌≡◌, ◌≢◌, ◌≤◌, ◌<◌, ◌++◌, ◌∷◌, ◌+◌, ◌*◌, ◌-◌, ◌/◌, ◌%◌, ◌∙◌, ℕ, suc, List, [], Option, None, Some}
use Rattle.std.proofs.Common.{length, refl, sym, ap, subst, arith, inl, inr, get_or, set}
use Rattle.std.proofs.lemmas.Bool.{cases_eq, cases_lt}
use Rattle.std.proofs.lemmas.List.{ext_get_or, get_or-set_same, get_or-set_other, get_or_append_left, get_or-append_right, get_or_past}
use Rattle.std.proofs.lemmas.List.{length-append, length-set}
use Rattle.gier_drum.specs.Drum.{SetsTrack}
use Rattle.gier_text.specs.View.{Apart, KeepsTracks, SameTracks}
use Rattle.gier_text.proofs.Tabulation.{length-tabulated, get_or-tabulated}
use Rattle.gier_pass9.specs.ObjectOfText.{page, HoldsPages}

page_at : (words : List ℕ) (t k : ℕ) → k < 40 → get_or (page words t) k 0 ≡ get_or words (40 * t + k) 0
page_at words t k lt = get_or-tabulated (λ (j : ℕ). get_or words (40 * t + j) 0) 40 k 0 lt

page_long : (words : List ℕ) (t : ℕ) → length (page words t) ≡ 40
page_long words t = length-tabulated (λ (j : ℕ). get_or words (40 * t + j) 0) 40

-- a track of forty words is the page whose words it has
is_page : (track words : List ℕ) (t : ℕ) → length track ≡ 40 → ((k : ℕ) → k < 40 → get_or track k 0 ≡ get_or words (40 * t + k) 0)
    → track ≡ page words t
is_page track words t long same =
    let each : (k : ℕ) → k < length track → get_or track k 0 ≡ get_or (page words t) k 0 = λ k lt.
    let below : k < 40 = omega (arith, lt, long) in same k below ∙ sym (page_at words t k below) in
    ext_get_or 0 track (page words t) (long ∙ sym (page_long words t)) each

pub blank_page : (track words : List ℕ) (t : ℕ) → length track ≡ 40 → ((k : ℕ) → get_or track k 0 ≡ 0) → length words ≤ 40 * t
    → track ≡ page words t
blank_page track words t long zero few = is_page track words t long (λ k lt. zero k ∙ sym (get_or_past words (40 * t + k) 0 (omega arith)))

-- more words change no page that is full
page_kept : (words more : List ℕ) (t : ℕ) → 40 * t + 40 ≤ length words → page words t ≡ page (words ++ more) t
page_kept words more t full =
    is_page (page words t) (words ++ more) t (page_long words t)
    (λ k lt. page_at words t k lt ∙ sym (get_or_append_left words more 0 (40 * t + k) (omega arith)))

get_last : (words : List ℕ) (word count i : ℕ) → length words ≡ count → i ≡ count → get_or (words ++ word ∷ []) i 0 ≡ word
get_last words word count i all is =
    let first : i - count ≡ 0 = omega arith in
    get_or-append_right words (word ∷ []) count i 0 all (omega arith) ∙ ap (λ (j : ℕ). get_or (word ∷ []) j 0) first

get_other : (words : List ℕ) (word count i : ℕ) → length words ≡ count → i ≢ count → get_or words i 0 ≡ get_or (words ++ word ∷ []) i 0
get_other words word count i all ne = elim (cases_lt i count) [
  | inl lt ↦ sym (get_or_append_left words (word ∷ []) 0 i (omega arith))
  | inr le ↦ get_or_past words i 0 (omega arith)
      ∙ sym (get_or_past (words ++ word ∷ []) i 0 (omega (arith, le, ne, all, length-append words (word ∷ []))))
]

-- the next word goes to its place on the last page
pub page_set : (track words : List ℕ) (count word : ℕ) → length words ≡ count → track ≡ page words (count / 40)
    → set track (count % 40) word ≡ page (words ++ word ∷ []) (count / 40)
page_set track words count word all is =
    let t = count / 40 in
    let long : length track ≡ 40 = ap length is ∙ page_long words t in
    let wide = length-set track (count % 40) word ∙ long in
    is_page (set track (count % 40) word) (words ++ word ∷ []) t wide (λ k lt. elim (cases_eq k (count % 40)) [
      | inl e ↦
          let here = get_or-set_same track (count % 40) word 0 (omega (arith, long)) in
          rw e (here ∙ sym (get_last words word count (40 * t + count % 40) all (omega arith)))
      | inr ne ↦
          let kept = get_or-set_other track (count % 40) k word 0 ne ∙ ap (λ (l : List ℕ). get_or l k 0) is in
          kept ∙ page_at words t k lt ∙ get_other words word count (40 * t + k) all (omega (arith, ne, lt))
    ])

pub holds_none : (tracks : Option (List (List ℕ))) (first : ℕ) (words : List ℕ) → HoldsPages tracks first 0 words
holds_none None first words = tt
holds_none (Some tracks) first words = λ t lt. absurd (omega (arith, lt))

-- one more word changes no full track
pub holds_more : (tracks : Option (List (List ℕ))) (first count : ℕ) (words more : List ℕ) → HoldsPages tracks first (count / 40) words
    → length words ≡ count → HoldsPages tracks first (count / 40) (words ++ more)
holds_more None first count words more h all = tt
holds_more (Some tracks) first count words more h all = λ t lt. h t lt ∙ page_kept words more t (omega (arith, lt, all))

-- one more track has its page
pub holds_set : (tracks new : Option (List (List ℕ))) (first count : ℕ) (words track : List ℕ) → HoldsPages tracks first count words
    → SetsTrack tracks (first + count) track new
    → ((all : List (List ℕ)) → tracks ≡ Some all → first + count < length all) → track ≡ page words count
    → HoldsPages new first (suc count) words
holds_set None new first count words track h sets room is =
    subst (λ (n : Option (List (List ℕ))). HoldsPages n first (suc count) words) (sym sets) tt
holds_set (Some tracks) new first count words track h sets room is =
    subst (λ (n : Option (List (List ℕ))). HoldsPages n first (suc count) words) (sym sets) (λ t lt. elim (cases_eq t count) [
      | inl e ↦ rw e (get_or-set_same tracks (first + count) track [] (room tracks refl) ∙ is)
      | inr ne ↦ get_or-set_other tracks (first + count) (first + t) track []
          (λ (same : first + t ≡ first + count). ne (omega (arith, same))) ∙ h t (omega (arith, lt, ne))
    ])

-- a run of tracks that keeps apart from those that change
pub apart_same : (a b c d : ℕ) (old new : Option (List (List ℕ))) → KeepsTracks c d old new → Apart a b c d → SameTracks a b old new
apart_same a b c d old new h apart = record {
  told = h.told;
  own = λ t ge lt. h.others t (elim apart [ inl le ↦ inl (omega arith) | inr le ↦ inr (omega arith) ]);
}
