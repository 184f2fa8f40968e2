-- A list that is kept in chunks, on plain lists.
use Rattle.std.proofs.Common.{◌<◌, ◌≡◌, ◌≢◌, ℕ, suc, ◌-◌, ◌/◌, ◌%◌, ◌≤◌, ◌^◌, List, [], ◌∷◌, ◌++◌, length, get_or, set, replicate, refl, ap, sym, ◌∙◌, arith, length-append, inl, inr, ◌⊎◌}
use Rattle.std.specs.List.{range_with_len}
use Rattle.std.proofs.lemmas.Bool.{cases_eq}
use Rattle.std.proofs.lemmas.List.{length-map, get_or-replicate, ext_get_or, length-set, get_or-set_same, get_or-set_other, get_or_append_left, length-replicate, get_or_past, get_or-append_right, get_or_at}
use Rattle.std.proofs.lemmas.List.FromFn.{length-range_with_len, get_or-map-range_with_len}
use Rattle.std.proofs.lemmas.List.Elements.{All-set}
use Rattle.gier_drum.specs.Pages.{page_at, IsIndex, entry_at, entries, AreChunks}
use Rattle.gier_drum.proofs.Pages.{get_or-grown, in_index, within_anywhere, IsIndex-new, IsIndex-grown, IsIndex-same, page_at-append, page_at-new, page_at-other, page_at-same}

pub length-entries : (count : ℕ) (directory : List ℕ) (chunks : List (List ℕ)) → length (entries count directory chunks) ≡ count
length-entries count directory chunks = length-map (range_with_len 0 count) (entry_at directory chunks) ∙ length-range_with_len 0 count

pub get_or-entries : (count : ℕ) (directory : List ℕ) (chunks : List (List ℕ)) (place : ℕ) → place < count → get_or (entries count directory chunks) place 0 ≡ entry_at directory chunks place
get_or-entries count directory chunks place lt = get_or-map-range_with_len (entry_at directory chunks) 0 count place place 0 lt (omega arith)

-- two lists in chunks agree where their entries do
pub entries-eq : (count : ℕ) (directory : List ℕ) (chunks : List (List ℕ)) (list : List ℕ) → length list ≡ count → ((place : ℕ) → place < count → entry_at directory chunks place ≡ get_or list place 0) → entries count directory chunks ≡ list
entries-eq count directory chunks list long same =
    ext_get_or 0 _ _ (length-entries count directory chunks ∙ sym long) (λ place below.
    let lt : place < count = omega (arith, length-entries count directory chunks) in
    get_or-entries count directory chunks place lt ∙ same place lt)

-- a longer directory
pub entry_at-grown : (directory : List ℕ) (chunks : List (List ℕ)) (n place : ℕ) → entry_at (directory ++ replicate n 0) chunks place ≡ entry_at directory chunks place
entry_at-grown directory chunks n place = ap (λ d. get_or (page_at [] chunks d) (place % 256) 0) (get_or-grown directory n (place / 256))

-- more entries, all 0
pub entries-grown : (old wanted : ℕ) (directory new_directory : List ℕ) (chunks new_chunks : List (List ℕ)) → old ≤ wanted → ((place : ℕ) → entry_at new_directory new_chunks place ≡ entry_at directory chunks place) → ((place : ℕ) → old ≤ place → entry_at directory chunks place ≡ 0) → entries wanted new_directory new_chunks ≡ entries old directory chunks ++ replicate (wanted - old) 0
entries-grown old wanted directory new_directory chunks new_chunks le same rest =
    entries-eq wanted new_directory new_chunks (entries old directory chunks ++ replicate (wanted - old) 0)
    (omega (arith, length-append (entries old directory chunks) (replicate (wanted - old) 0), length-entries old directory chunks, length-replicate {A = ℕ} (wanted - old) 0))
    (λ place lt. same place ∙ grown_at place lt (old_or_new place))
  where
    old_or_new : (place : ℕ) → (place < old) ⊎ (old ≤ place)
    old_or_new place = grind arith

    grown_at : (place : ℕ) → place < wanted → (place < old) ⊎ (old ≤ place) → entry_at directory chunks place ≡ get_or (entries old directory chunks ++ replicate (wanted - old) 0) place 0
    grown_at place lt (inl lower) =
        let within : place < length (entries old directory chunks) = omega (arith, length-entries old directory chunks) in
        sym (get_or_append_left (entries old directory chunks) (replicate (wanted - old) 0) 0 place within ∙ get_or-entries old directory chunks place lower)
    grown_at place lt (inr upper) =
        rest place upper ∙ sym (get_or-append_right (entries old directory chunks) (replicate (wanted - old) 0) old place 0 (length-entries old directory chunks) upper
        ∙ get_or-replicate (wanted - old) (place - old) 0 0 (omega arith))

-- a new chunk of zeros
pub entry_at-new : (directory : List ℕ) (chunks : List (List ℕ)) (at : ℕ) (blank : List ℕ) → IsIndex directory chunks → at < length directory → get_or directory at 0 ≡ 0 → ((k : ℕ) → get_or blank k 0 ≡ 0) → (place : ℕ) → entry_at (set directory at (suc (length chunks))) (chunks ++ blank ∷ []) place ≡ entry_at directory chunks place
entry_at-new directory chunks at blank ok lt is zeros place = elim (cases_eq (place / 256) at) [
  | inl e ↦ rw (e, get_or-set_same directory at (suc (length chunks)) 0 lt, page_at-new [] chunks blank, is) (zeros (place % 256) ∙ sym (get_or_past [] (place % 256) 0 (omega arith)))
  | inr ne ↦ rw (get_or-set_other directory at (place / 256) (suc (length chunks)) 0 ne) (ap (λ page. get_or page (place % 256) 0) (page_at-append [] chunks blank (get_or directory (place / 256) 0) (within_anywhere directory chunks ok (place / 256))))
]

pub AreChunks-new : (directory : List ℕ) (chunks : List (List ℕ)) (at capacity new_capacity : ℕ) (blank : List ℕ) → AreChunks directory chunks capacity → at < length directory → get_or directory at 0 ≡ 0 → length blank ≡ 256 → new_capacity ≡ capacity → AreChunks (set directory at (suc (length chunks))) (chunks ++ blank ∷ []) new_capacity
AreChunks-new directory chunks at capacity new_capacity blank ok lt is long same = record {
  indexed = IsIndex-new directory chunks at blank ok.indexed lt is;
  few = omega (arith, ok.few, length-set directory at (suc (length chunks)));
  reserved = omega (arith, ok.reserved, length-set directory at (suc (length chunks)));
  long = long_new;
}
  where
    long_new : (k : ℕ) (d : List ℕ) → k < length (chunks ++ blank ∷ []) → length (get_or (chunks ++ blank ∷ []) k d) ≡ 256
    long_new k d lt = elim (cases_eq k (length chunks)) [
      | inl e ↦ rw (e, get_or_at chunks blank [] d (length chunks) refl) long
      | inr ne ↦ let below : k < length chunks = omega (arith, length-append chunks (blank ∷ [])) in rw (get_or_append_left chunks (blank ∷ []) d k below) (ok.long k d below)
    ]

pub AreChunks-grown : (directory : List ℕ) (chunks : List (List ℕ)) (capacity new_capacity wanted : ℕ) → AreChunks directory chunks capacity → wanted < 2 ^ 32 → length directory ≤ wanted → wanted ≤ new_capacity → AreChunks (directory ++ replicate (wanted - length directory) 0) chunks new_capacity
AreChunks-grown directory chunks capacity new_capacity wanted ok few le reserved =
    let long_directory : length (directory ++ replicate (wanted - length directory) 0) ≡ wanted = omega (arith, length-append directory (replicate (wanted - length directory) 0), length-replicate {A = ℕ} (wanted - length directory) 0) in
    record {
      indexed = IsIndex-grown directory chunks (wanted - length directory) ok.indexed;
      few = omega arith;
      reserved = omega arith;
      long = ok.long;
    }

-- a number in a chunk

pub entry_at-put_same : (directory : List ℕ) (chunks : List (List ℕ)) (capacity chunk place number : ℕ) → AreChunks directory chunks capacity → chunk < length chunks → get_or directory (place / 256) 0 ≡ suc chunk → entry_at directory (set chunks chunk (set (get_or chunks chunk []) (place % 256) number)) place ≡ number
entry_at-put_same directory chunks capacity chunk place number ok lt is =
    let within : place % 256 < length (get_or chunks chunk []) = omega (arith, ok.long chunk [] lt) in
    rw (is, page_at-same [] chunks (set (get_or chunks chunk []) (place % 256) number) chunk lt) (get_or-set_same (get_or chunks chunk []) (place % 256) number 0 within)

pub entry_at-put_other : (directory : List ℕ) (chunks : List (List ℕ)) (capacity chunk place number other : ℕ) → AreChunks directory chunks capacity → chunk < length chunks → get_or directory (place / 256) 0 ≡ suc chunk → place / 256 < length directory → other ≢ place → entry_at directory (set chunks chunk (set (get_or chunks chunk []) (place % 256) number)) other ≡ entry_at directory chunks other
entry_at-put_other directory chunks capacity chunk place number other ok lt is in_directory ne = elim (cases_eq (other / 256) (place / 256)) [
  | inl e ↦
      let apart : other % 256 ≢ place % 256 = λ same. ne (omega (arith, e, same)) in
      rw (e, is, page_at-same [] chunks (set (get_or chunks chunk []) (place % 256) number) chunk lt) (get_or-set_other (get_or chunks chunk []) (place % 256) (other % 256) number 0 apart)
  | inr far ↦
      ap (λ page. get_or page (other % 256) 0) (page_at-other [] chunks (set (get_or chunks chunk []) (place % 256) number) chunk (get_or directory (other / 256) 0)
      (λ same. far (ok.indexed.apart (other / 256) (place / 256) (in_index directory (other / 256) (omega (arith, same))) in_directory (same ∙ sym is) (omega (arith, same)))))
]

pub AreChunks-put : (directory : List ℕ) (chunks : List (List ℕ)) (capacity new_capacity chunk at number : ℕ) → AreChunks directory chunks capacity → chunk < length chunks → new_capacity ≡ capacity → AreChunks directory (set chunks chunk (set (get_or chunks chunk []) at number)) new_capacity
AreChunks-put directory chunks capacity new_capacity chunk at number ok lt same = record {
  indexed = IsIndex-same directory chunks chunk (set (get_or chunks chunk []) at number) ok.indexed;
  few = ok.few;
  reserved = omega (arith, ok.reserved);
  long = All-set (λ page. length page ≡ 256) chunks chunk (set (get_or chunks chunk []) at number) (length-set (get_or chunks chunk []) at number ∙ ok.long chunk [] lt) ok.long;
}

pub entries-put : (count : ℕ) (directory : List ℕ) (chunks : List (List ℕ)) (capacity chunk place number : ℕ) → AreChunks directory chunks capacity → chunk < length chunks → get_or directory (place / 256) 0 ≡ suc chunk → place / 256 < length directory → place < count → entries count directory (set chunks chunk (set (get_or chunks chunk []) (place % 256) number)) ≡ set (entries count directory chunks) place number
entries-put count directory chunks capacity chunk place number ok lt is in_directory within =
    entries-eq count directory (set chunks chunk (set (get_or chunks chunk []) (place % 256) number)) (set (entries count directory chunks) place number)
    (length-set (entries count directory chunks) place number ∙ length-entries count directory chunks)
    (λ other below. put_at other below)
  where
    there : place < length (entries count directory chunks)
    there = omega (arith, length-entries count directory chunks)

    put_at : (other : ℕ) → other < count → entry_at directory (set chunks chunk (set (get_or chunks chunk []) (place % 256) number)) other ≡ get_or (set (entries count directory chunks) place number) other 0
    put_at other below = elim (cases_eq other place) [
      | inl e ↦ rw (e, get_or-set_same (entries count directory chunks) place number 0 there) (entry_at-put_same directory chunks capacity chunk place number ok lt is)
      | inr ne ↦ rw (get_or-set_other (entries count directory chunks) place other number 0 ne) (entry_at-put_other directory chunks capacity chunk place number other ok lt is in_directory ne ∙ sym (get_or-entries count directory chunks other below))
    ]
