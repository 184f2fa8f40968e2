-- Writing symbols to the tracks of a text, and what a write does to texts that are apart.
use Rattle.std.proofs.Common.{◌<◌, ◌≡◌, ◌⊎◌, ℕ, zero, suc, ◌+◌, ◌*◌, ◌/◌, ◌%◌, ◌-◌, ◌≤◌, List, [], ◌∷◌, length, get_or, set, refl, ap, sym, ◌∙◌, arith, inl, inr, Option, None, Some, length-set, Bool, true, false, cond}
use Rattle.std.specs.Prelude.{nat_lt, ◌&&◌}
use Rattle.std.proofs.lemmas.Bool.{cases_eq}
use Rattle.std.proofs.lemmas.Bool.Decides.{nat_tests}
use Rattle.std.proofs.lemmas.List.{get_or-set_same, get_or-set_other, take_all}
use Rattle.gier_drum.specs.Drum.{SetsTrack}
use Rattle.gier_drum.specs.declared.drum.Entry.{Entry}
use Rattle.gier_symbol.specs.declared.symbol.Symbol.{Symbol}
use Rattle.gier_symbol.specs.Symbols.{IsSymbol, symbol_of_code}
use Rattle.gier_symbol.specs.Texts.{is_tag}
use Rattle.gier_text.specs.declared.text.Way.{Way}
use Rattle.gier_text.specs.declared.text.Way.TheVariants.{Forward, Backward}
use Rattle.gier_text.specs.Remaining.{left_of}
use Rattle.gier_text.specs.SymbolsOnTracks.{all_symbols, all_some, symbol_in, symbol_at, tabulated, symbols_of, left_in, tracks_for, buffered_only}
use Rattle.gier_text.specs.View.{View, KeepsTracks, Appends, OrdersLeft}
use Rattle.gier_text.proofs.Tabulation.{length-tabulated, listed_more}
use Rattle.gier_text.specs.Own.{listed_same}
use Rattle.gier_text.proofs.SymbolCells.{ordered_cells, appends_cell, orders_cells}
use Rattle.gier_text.proofs.Reading.{at_same, words_loaded, words_other}

-- another text's symbols stay where a track that is not its own is written
kept_track : (tracks new : List (List ℕ)) (first loaded : ℕ) (buffer : List ℕ) (t : ℕ) (words : List ℕ) (i : ℕ) → new ≡ set tracks t words → (first + i / 20 ≡ t → ⊥) → symbol_at tracks first loaded buffer i ≡ symbol_at new first loaded buffer i
kept_track tracks new first loaded buffer t words i is ne = at_same tracks new first loaded loaded buffer buffer i (elim (cases_eq (i / 20 + 1) loaded) [
  | inl e ↦ words_loaded tracks first loaded buffer (i / 20) e ∙ sym (words_loaded new first loaded buffer (i / 20) e)
  | inr ne2 ↦ words_other tracks first loaded buffer (i / 20) ne2 ∙ (rw is (sym (get_or-set_other tracks t (first + i / 20) words [] ne))) ∙ sym (words_other new first loaded buffer (i / 20) ne2)
])

kept_list : (tracks new : List (List ℕ)) (first loaded : ℕ) (buffer : List ℕ) (count capacity t : ℕ) (words : List ℕ) → new ≡ set tracks t words → count ≤ capacity → (t < first) ⊎ (first + tracks_for capacity ≤ t) → tabulated (symbol_at new first loaded buffer) count ≡ tabulated (symbol_at tracks first loaded buffer) count
kept_list tracks new first loaded buffer count capacity t words is le (inl before) = listed_same _ _ count (λ i below. sym (kept_track tracks new first loaded buffer t words i is (λ e. absurd (omega arith))))
kept_list tracks new first loaded buffer count capacity t words is le (inr after) = listed_same _ _ count (λ i below. sym (kept_track tracks new first loaded buffer t words i is (λ e. absurd (omega arith))))

pub symbols_kept : (tracks new : Option (List (List ℕ))) (first loaded : ℕ) (buffer : List ℕ) (count capacity t : ℕ) (words : List ℕ) → SetsTrack tracks t words new → count ≤ capacity → (t < first) ⊎ (first + tracks_for capacity ≤ t) → symbols_of new first loaded buffer count ≡ symbols_of tracks first loaded buffer count
unfolding symbols_of
symbols_kept None new first loaded buffer count capacity t words is le out = rw is refl
symbols_kept (Some tracks) new first loaded buffer count capacity t words is le out = rw is (ap Some (kept_list tracks (set tracks t words) first loaded buffer count capacity t words refl le out))

pub left_kept : (tracks new : Option (List (List ℕ))) (first loaded : ℕ) (buffer : List ℕ) (count capacity : ℕ) (way : Way) (unread t : ℕ) (words : List ℕ) → SetsTrack tracks t words new → count ≤ capacity → (t < first) ⊎ (first + tracks_for capacity ≤ t) → left_in new first loaded buffer count way unread ≡ left_in tracks first loaded buffer count way unread
unfolding left_in
left_kept None new first loaded buffer count capacity way unread t words is le out = rw is refl
left_kept (Some tracks) new first loaded buffer count capacity way unread t words is le out = rw is (ap (λ (l : List (Option Symbol)). Some (left_of way unread l)) (kept_list tracks (set tracks t words) first loaded buffer count capacity t words refl le out))

-- the buffer goes to the drum
flushed : (all : List (List ℕ)) (first t mark : ℕ) (buffer words : List ℕ) (i : ℕ) → first + t < length all → (i / 20 + 1 ≡ mark → ⊥) → symbol_at all first (t + 1) buffer i ≡ symbol_at (set all (first + t) buffer) first mark words i
flushed all first t mark buffer words i within elsewhere = at_same all (set all (first + t) buffer) first (t + 1) mark buffer words i (elim (cases_eq (i / 20) t) [
  | inl e ↦ rw e (words_loaded all first (t + 1) buffer t refl ∙ sym (words_other (set all (first + t) buffer) first mark words t (λ m. elsewhere (omega arith)) ∙ get_or-set_same all (first + t) buffer [] within))
  | inr ne ↦ words_other all first (t + 1) buffer (i / 20) (λ m. ne (omega arith)) ∙ sym (words_other (set all (first + t) buffer) first mark words (i / 20) elsewhere ∙ get_or-set_other all (first + t) (first + i / 20) buffer [] (λ m. ne (omega arith)))
])

-- two more words in the buffer
abbrev symbol_made : ℕ → ℕ → ℕ → Symbol
symbol_made tag value line = record { tag = tag; value = value; line = line }

abbrev decoded_by : ℕ → ℕ → ℕ → Option Symbol
decoded_by tag line value = cond (is_tag tag && nat_lt value 1099511627776) (Some (symbol_made tag value line)) None

coded : List ℕ → ℕ → Symbol → List ℕ
coded buffer place s = set (set buffer place (s.tag * 16777216 + s.line)) (place + 1) s.value

coded_before : (buffer : List ℕ) (place : ℕ) (s : Symbol) (q : ℕ) → q + 1 < place → symbol_in (coded buffer place s) q ≡ symbol_in buffer q
unfolding coded symbol_in
coded_before buffer place s q below =
    let first_word : get_or (set (set buffer place (s.tag * 16777216 + s.line)) (place + 1) s.value) q 0 ≡ get_or buffer q 0 =
    get_or-set_other (set buffer place (s.tag * 16777216 + s.line)) (place + 1) q s.value 0 (λ e. omega arith) ∙ get_or-set_other buffer place q (s.tag * 16777216 + s.line) 0 (λ e. omega arith) in
    let second_word : get_or (set (set buffer place (s.tag * 16777216 + s.line)) (place + 1) s.value) (q + 1) 0 ≡ get_or buffer (q + 1) 0 =
    get_or-set_other (set buffer place (s.tag * 16777216 + s.line)) (place + 1) (q + 1) s.value 0 (λ e. omega arith) ∙ get_or-set_other buffer place (q + 1) (s.tag * 16777216 + s.line) 0 (λ e. omega arith) in
    ap (λ (h : ℕ). symbol_of_code h (get_or (set (set buffer place (s.tag * 16777216 + s.line)) (place + 1) s.value) (q + 1) 0)) first_word
    ∙ ap (λ (v : ℕ). symbol_of_code (get_or buffer q 0) v) second_word

decoded_parts : (tag line value : ℕ) → is_tag tag ≡ true → line < 16777216 → nat_lt value 1099511627776 ≡ true → symbol_of_code (tag * 16777216 + line) value ≡ Some (record { tag = tag; value = value; line = line })
decoded_parts tag line value known low small =
    let t : (tag * 16777216 + line) / 16777216 ≡ tag = omega arith in
    let l : (tag * 16777216 + line) % 16777216 ≡ line = omega arith in
    ap (λ (n : ℕ). decoded_by n ((tag * 16777216 + line) % 16777216) value) t
    ∙ ap (λ (n : ℕ). decoded_by tag n value) l
    ∙ ap (λ (b : Bool). cond (b && nat_lt value 1099511627776) (Some (symbol_made tag value line)) None) known
    ∙ ap (λ (b : Bool). cond (true && b) (Some (symbol_made tag value line)) None) small

is_below : (n m : ℕ) → n < m → nat_lt n m ≡ true
is_below n m lt = grind (arith, nat_tests)

pub decoded_code : (s : Symbol) → IsSymbol s → symbol_of_code (s.tag * 16777216 + s.line) s.value ≡ Some s
decoded_code s small =
    let fits : nat_lt s.value 1099511627776 ≡ true = is_below s.value 1099511627776 small.value in
    decoded_parts s.tag s.line s.value small.tag small.line fits

coded_here : (buffer : List ℕ) (place : ℕ) (s : Symbol) → IsSymbol s → place + 1 < length buffer → symbol_in (coded buffer place s) place ≡ Some s
unfolding coded symbol_in
coded_here buffer place s small within =
    let first_word : get_or (set (set buffer place (s.tag * 16777216 + s.line)) (place + 1) s.value) place 0 ≡ s.tag * 16777216 + s.line =
    get_or-set_other (set buffer place (s.tag * 16777216 + s.line)) (place + 1) place s.value 0 (λ e. omega arith) ∙ get_or-set_same buffer place (s.tag * 16777216 + s.line) 0 (omega arith) in
    let second_word : get_or (set (set buffer place (s.tag * 16777216 + s.line)) (place + 1) s.value) (place + 1) 0 ≡ s.value =
    get_or-set_same (set buffer place (s.tag * 16777216 + s.line)) (place + 1) s.value 0 (omega (arith, length-set buffer place (s.tag * 16777216 + s.line))) in
    ap (λ (h : ℕ). symbol_of_code h (get_or (set (set buffer place (s.tag * 16777216 + s.line)) (place + 1) s.value) (place + 1) 0)) first_word
    ∙ ap (λ (v : ℕ). symbol_of_code (s.tag * 16777216 + s.line) v) second_word
    ∙ decoded_code s small

buffered : (all : List (List ℕ)) (first count : ℕ) (buffer : List ℕ) (s : Symbol) (i : ℕ) → i < count → symbol_at all first (count / 20 + 1) buffer i ≡ symbol_at all first (count / 20 + 1) (coded buffer (2 * (count % 20)) s) i
buffered all first count buffer s i below = elim (cases_eq (i / 20) (count / 20)) [
  | inl e ↦ rw (words_loaded all first (count / 20 + 1) buffer (i / 20) (omega arith), words_loaded all first (count / 20 + 1) (coded buffer (2 * (count % 20)) s) (i / 20) (omega arith)) (sym (coded_before buffer (2 * (count % 20)) s (2 * (i % 20)) (omega arith)))
  | inr ne ↦ at_same all all first (count / 20 + 1) (count / 20 + 1) buffer (coded buffer (2 * (count % 20)) s) i (words_other all first (count / 20 + 1) buffer (i / 20) (λ m. ne (omega arith)) ∙ sym (words_other all first (count / 20 + 1) (coded buffer (2 * (count % 20)) s) (i / 20) (λ m. ne (omega arith))))
]

buffered_here : (all : List (List ℕ)) (first count : ℕ) (buffer : List ℕ) (s : Symbol) → IsSymbol s → length buffer ≡ 40 → symbol_at all first (count / 20 + 1) (coded buffer (2 * (count % 20)) s) count ≡ Some s
buffered_here all first count buffer s small long =
    rw (words_loaded all first (count / 20 + 1) (coded buffer (2 * (count % 20)) s) (count / 20) refl) (coded_here buffer (2 * (count % 20)) s small (omega arith))

pub symbols_pushed : (tracks : Option (List (List ℕ))) (first loaded count : ℕ) (buffer : List ℕ) (s : Symbol) → loaded ≡ count / 20 + 1 → IsSymbol s → length buffer ≡ 40 → Appends (all_symbols (symbols_of tracks first loaded buffer count)) (s ∷ []) (all_symbols (symbols_of tracks first loaded (set (set buffer (2 * (count % 20)) (s.tag * 16777216 + s.line)) (2 * (count % 20) + 1) s.value) (count + 1)))
unfolding symbols_of coded
symbols_pushed None first loaded count buffer s is small long = tt
symbols_pushed (Some all) first loaded count buffer s is small long =
    rw is (rw (listed_more (λ (i : ℕ). symbol_at all first (count / 20 + 1) buffer i) (λ (i : ℕ). symbol_at all first (count / 20 + 1) (coded buffer (2 * (count % 20)) s) i) count (Some s) (buffered all first count buffer s) (buffered_here all first count buffer s small long))
    (appends_cell (tabulated (symbol_at all first (count / 20 + 1) buffer) count) s))

pub symbols_pushed_over : (tracks new : Option (List (List ℕ))) (first loaded count : ℕ) (buffer words : List ℕ) (s : Symbol) → loaded ≡ count / 20 + 1 → IsSymbol s → length buffer ≡ 40 → count % 20 ≡ 19
    → ((all : List (List ℕ)) → tracks ≡ Some all → first + count / 20 < length all)
    → SetsTrack tracks (first + count / 20) (set (set buffer (2 * (count % 20)) (s.tag * 16777216 + s.line)) (2 * (count % 20) + 1) s.value) new
    → Appends (all_symbols (symbols_of tracks first loaded buffer count)) (s ∷ []) (all_symbols (symbols_of new first (loaded + 1) words (count + 1)))
unfolding symbols_of coded
symbols_pushed_over None new first loaded count buffer words s is small long full within sets = tt
symbols_pushed_over (Some all) new first loaded count buffer words s is small long full within sets =
    let out : (i : ℕ) → i < count + 1 → symbol_at all first (count / 20 + 1) (coded buffer (2 * (count % 20)) s) i ≡ symbol_at (set all (first + count / 20) (coded buffer (2 * (count % 20)) s)) first (count / 20 + 1 + 1) words i =
    λ i below. flushed all first (count / 20) (count / 20 + 1 + 1) (coded buffer (2 * (count % 20)) s) words i (within all refl) (λ e. omega arith) in
    rw (is, sets) (rw (listed_more (λ (i : ℕ). symbol_at all first (count / 20 + 1) buffer i) (λ (i : ℕ). symbol_at (set all (first + count / 20) (coded buffer (2 * (count % 20)) s)) first (count / 20 + 1 + 1) words i) count (Some s)
    (λ i below. buffered all first count buffer s i below ∙ out i (omega arith))
    (sym (out count (omega arith)) ∙ buffered_here all first count buffer s small long))
    (appends_cell (tabulated (symbol_at all first (count / 20 + 1) buffer) count) s))

rewound_list : (f g : ℕ → Option Symbol) (way : Way) (count : ℕ) → ((i : ℕ) → i < count → f i ≡ g i) → left_of way count (tabulated g count) ≡ ordered_cells way (tabulated f count)
rewound_list f g Forward count same = let none : count - count ≡ 0 = omega arith in rw (length-tabulated g count, none, listed_same f g count same) refl
rewound_list f g Backward count same = rw (take_all count (tabulated g count) (omega (arith, length-tabulated g count)), listed_same f g count same) refl

orders_list : (way : Way) (xs ys : List (Option Symbol)) → ys ≡ ordered_cells way xs → OrdersLeft (all_some xs) way (all_some ys)
orders_list way xs ys is = rw is (orders_cells way xs)

pub symbols_rewound : (tracks new : Option (List (List ℕ))) (first loaded count : ℕ) (buffer words : List ℕ) (way : Way) → loaded ≡ count / 20 + 1
    → ((all : List (List ℕ)) → tracks ≡ Some all → 0 < count % 20 → first + count / 20 < length all)
    → (0 < count % 20 → SetsTrack tracks (first + count / 20) buffer new) → (count % 20 ≡ 0 → new ≡ tracks)
    → OrdersLeft (all_symbols (symbols_of tracks first loaded buffer count)) way (all_symbols (left_in new first 0 words count way count))
unfolding symbols_of left_in
symbols_rewound None new first loaded count buffer words way is within begun full = tt
symbols_rewound (Some all) new first loaded count buffer words way is within begun full = elim (cases_eq (count % 20) 0) [
  | inl e ↦ rw (is, full e) (orders_list way _ _ (rewound_list (λ (i : ℕ). symbol_at all first (count / 20 + 1) buffer i) (λ (i : ℕ). symbol_at all first 0 words i) way count (λ i below. at_same all all first (count / 20 + 1) 0 buffer words i
      (words_other all first (count / 20 + 1) buffer (i / 20) (λ m. omega arith) ∙ sym (words_other all first 0 words (i / 20) (λ m. omega arith))))))
  | inr ne ↦ rw (is, begun (omega arith)) (orders_list way _ _ (rewound_list (λ (i : ℕ). symbol_at all first (count / 20 + 1) buffer i) (λ (i : ℕ). symbol_at (set all (first + count / 20) buffer) first 0 words i) way count (λ i below. flushed all first (count / 20) 0 buffer words i (within all refl (omega arith)) (λ m. omega arith))))
]

-- a track of one text is none of a text that is apart
pub elsewhere : (first capacity count other other_capacity : ℕ) → count < capacity → (first + tracks_for capacity ≤ other) ⊎ (other + tracks_for other_capacity ≤ first) → (first + count / 20 < other) ⊎ (other + tracks_for other_capacity ≤ first + count / 20)
elsewhere first capacity count other other_capacity lt (inl before) = inl (omega arith)
elsewhere first capacity count other other_capacity lt (inr after) = inr (omega arith)

pub symbols_held : (tracks new : Option (List (List ℕ))) (first loaded count : ℕ) (buffer words : List ℕ) → loaded ≡ count / 20 + 1
    → ((all : List (List ℕ)) → tracks ≡ Some all → 0 < count % 20 → first + count / 20 < length all)
    → (0 < count % 20 → SetsTrack tracks (first + count / 20) buffer new) → (count % 20 ≡ 0 → new ≡ tracks)
    → symbols_of new first 0 words count ≡ symbols_of tracks first loaded buffer count
unfolding symbols_of
symbols_held None new first loaded count buffer words is within begun full = elim (cases_eq (count % 20) 0) [ inl e ↦ rw (full e) refl | inr ne ↦ rw (begun (omega arith)) refl ]
symbols_held (Some all) new first loaded count buffer words is within begun full = elim (cases_eq (count % 20) 0) [
  | inl e ↦ rw (is, full e) (ap Some (sym (listed_same (λ (i : ℕ). symbol_at all first (count / 20 + 1) buffer i) (λ (i : ℕ). symbol_at all first 0 words i) count (λ i below. at_same all all first (count / 20 + 1) 0 buffer words i
      (words_other all first (count / 20 + 1) buffer (i / 20) (λ m. omega arith) ∙ sym (words_other all first 0 words (i / 20) (λ m. omega arith)))))))
  | inr ne ↦ rw (is, begun (omega arith)) (ap Some (sym (listed_same (λ (i : ℕ). symbol_at all first (count / 20 + 1) buffer i) (λ (i : ℕ). symbol_at (set all (first + count / 20) buffer) first 0 words i) count (λ i below. flushed all first (count / 20) 0 buffer words i (within all refl (omega arith)) (λ m. omega arith)))))
]

-- what another text has, where a track was written or none was
pub symbols_kept_by : (tracks new : Option (List (List ℕ))) (first loaded : ℕ) (buffer : List ℕ) (count capacity rest t : ℕ) (words : List ℕ) → (0 < rest → SetsTrack tracks t words new) → (rest ≡ 0 → new ≡ tracks) → count ≤ capacity → (0 < rest → (t < first) ⊎ (first + tracks_for capacity ≤ t)) → symbols_of new first loaded buffer count ≡ symbols_of tracks first loaded buffer count
symbols_kept_by tracks new first loaded buffer count capacity zero t words begun full le out = rw (full refl) refl
symbols_kept_by tracks new first loaded buffer count capacity (suc rest) t words begun full le out = symbols_kept tracks new first loaded buffer count capacity t words (begun (omega arith)) le (out (omega arith))

pub left_kept_by : (tracks new : Option (List (List ℕ))) (first loaded : ℕ) (buffer : List ℕ) (count capacity : ℕ) (way : Way) (unread rest t : ℕ) (words : List ℕ) → (0 < rest → SetsTrack tracks t words new) → (rest ≡ 0 → new ≡ tracks) → count ≤ capacity → (0 < rest → (t < first) ⊎ (first + tracks_for capacity ≤ t)) → left_in new first loaded buffer count way unread ≡ left_in tracks first loaded buffer count way unread
left_kept_by tracks new first loaded buffer count capacity way unread zero t words begun full le out = rw (full refl) refl
left_kept_by tracks new first loaded buffer count capacity way unread (suc rest) t words begun full le out = left_kept tracks new first loaded buffer count capacity way unread t words (begun (omega arith)) le (out (omega arith))

pub elsewhere_last : (first capacity count other other_capacity : ℕ) → count ≤ capacity → (first + tracks_for capacity ≤ other) ⊎ (other + tracks_for other_capacity ≤ first) → 0 < count % 20 → (first + count / 20 < other) ⊎ (other + tracks_for other_capacity ≤ first + count / 20)
elsewhere_last first capacity count other other_capacity le (inl before) some = inl (omega arith)
elsewhere_last first capacity count other other_capacity le (inr after) some = inr (omega arith)

-- what is held stays, where a text is rewound
pub held_after : (fresh : Bool) (tracks new : Option (List (List ℕ))) (first loaded count : ℕ) (buffer : List ℕ)
    → (fresh ≡ true → loaded ≡ count / 20 + 1) → (fresh ≡ false → loaded ≡ 0)
    → ((all : List (List ℕ)) → tracks ≡ Some all → 0 < count % 20 → first + count / 20 < length all)
    → (0 < buffered_only fresh count → SetsTrack tracks (first + count / 20) buffer new) → (buffered_only fresh count ≡ 0 → new ≡ tracks)
    → symbols_of new first 0 buffer count ≡ symbols_of tracks first loaded buffer count
held_after true tracks new first loaded count buffer here found within begun full = symbols_held tracks new first loaded count buffer buffer (here refl) within begun full
held_after false tracks new first loaded count buffer here found within begun full = rw (full refl, found refl) refl

left_found : (tracks : Option (List (List ℕ))) (first count : ℕ) (buffer : List ℕ) (way : Way) → OrdersLeft (all_symbols (symbols_of tracks first 0 buffer count)) way (all_symbols (left_in tracks first 0 buffer count way count))
unfolding symbols_of left_in
left_found None first count buffer way = tt
left_found (Some all) first count buffer way = orders_list way (tabulated (symbol_at all first 0 buffer) count) (left_of way count (tabulated (symbol_at all first 0 buffer) count)) (rewound_list (λ (i : ℕ). symbol_at all first 0 buffer i) (λ (i : ℕ). symbol_at all first 0 buffer i) way count (λ i below. refl))

-- what is left is what was held, in the order of reading
pub left_after : (fresh : Bool) (tracks new : Option (List (List ℕ))) (first loaded count : ℕ) (buffer : List ℕ) (way : Way)
    → (fresh ≡ true → loaded ≡ count / 20 + 1) → (fresh ≡ false → loaded ≡ 0)
    → ((all : List (List ℕ)) → tracks ≡ Some all → 0 < count % 20 → first + count / 20 < length all)
    → (0 < buffered_only fresh count → SetsTrack tracks (first + count / 20) buffer new) → (buffered_only fresh count ≡ 0 → new ≡ tracks)
    → OrdersLeft (all_symbols (symbols_of tracks first loaded buffer count)) way (all_symbols (left_in new first 0 buffer count way count))
left_after true tracks new first loaded count buffer way here found within begun full = symbols_rewound tracks new first loaded count buffer buffer way (here refl) within begun full
left_after false tracks new first loaded count buffer way here found within begun full = rw (full refl, found refl) (left_found tracks first count buffer way)

-- the text is written here, since one that was found is full
pub fresh_if : (fresh : Bool) (loaded count capacity : ℕ) → (fresh ≡ false → (loaded ≡ 0) × (count ≡ capacity)) → (count ≡ capacity → ⊥) → fresh ≡ true
fresh_if true loaded count capacity found other = refl
fresh_if false loaded count capacity found other = absurd (other (found refl).1)

-- a track of one text is none of a text that is apart
pub elsewhere_unwritten : (fresh : Bool) (first capacity count other other_capacity : ℕ) → count ≤ capacity → (first + tracks_for capacity ≤ other) ⊎ (other + tracks_for other_capacity ≤ first) → 0 < buffered_only fresh count → (first + count / 20 < other) ⊎ (other + tracks_for other_capacity ≤ first + count / 20)
elsewhere_unwritten true first capacity count other other_capacity le out some = elsewhere_last first capacity count other other_capacity le out some
elsewhere_unwritten false first capacity count other other_capacity le out some = absurd (omega arith)

-- a track that is set is among the text's own
pub sets_kept : (old new : Option (List (List ℕ))) (first end t : ℕ) (words : List ℕ) → SetsTrack old t words new → first ≤ t → t < end → KeepsTracks first end old new
sets_kept None new first end t words is from below = rw is (record { told = refl; others = λ k out. refl })
sets_kept (Some tracks) new first end t words is from below = rw is (record { told = refl; others = λ k out. get_or-set_other tracks t k words [] (λ e. elim out [ inl lt ↦ omega arith | inr le ↦ omega arith ]) })

same_kept : (old new : Option (List (List ℕ))) (first end : ℕ) → new ≡ old → KeepsTracks first end old new
same_kept old new first end is = rw is (record { told = refl; others = λ k out. refl })

pub flush_kept : (rest : ℕ) (old new : Option (List (List ℕ))) (first end t : ℕ) (words : List ℕ) → (0 < rest → SetsTrack old t words new) → (rest ≡ 0 → new ≡ old) → first ≤ t → (0 < rest → t < end) → KeepsTracks first end old new
flush_kept zero old new first end t words begun full from below = same_kept old new first end (full refl)
flush_kept (suc rest) old new first end t words begun full from below = sets_kept old new first end t words (begun (omega arith)) from (below (omega arith))

pub unwritten_below : (fresh : Bool) (first count capacity : ℕ) → count ≤ capacity → 0 < buffered_only fresh count → first + count / 20 < first + tracks_for capacity
unwritten_below true first count capacity le some = omega arith
unwritten_below false first count capacity le some = absurd (omega arith)

pub same_view : (held held2 left left2 : Option (List Symbol)) (count unread : ℕ) (capacity : Option ℕ) (rewound : Bool) (way : Way) (log : List Entry) → held ≡ held2 → left ≡ left2
    → (let a : View = record { held = held; count = count; capacity = capacity; rewound = rewound; way = way; left = left; unread = unread; log = log } in let b : View = record { held = held2; count = count; capacity = capacity; rewound = rewound; way = way; left = left2; unread = unread; log = log } in a ≡ b)
same_view held held2 left left2 count unread capacity rewound way log h l = rw (h, l) refl
