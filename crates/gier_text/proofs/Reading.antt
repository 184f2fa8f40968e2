-- Reading symbols from the tracks of a text.
use Rattle.std.proofs.Common.{◌<◌, ◌≡◌, ◌⊎◌, ℕ, ◌+◌, ◌*◌, ◌/◌, ◌%◌, ◌-◌, ◌≤◌, List, [], ◌∷◌, length, get_or, refl, ap, sym, ◌∙◌, arith, inl, inr, Option, None, Some, subst}
use Rattle.std.proofs.lemmas.Bool.{cases_eq}
use Rattle.std.proofs.lemmas.Bool.Decides.{nat_tests}
use Rattle.gier_symbol.specs.declared.symbol.Symbol.{Symbol}
use Rattle.gier_text.specs.declared.text.Way.{Way}
use Rattle.gier_text.specs.declared.text.Way.TheVariants.{Forward, Backward}
use Rattle.gier_text.specs.Remaining.{left_of}
use Rattle.gier_text.specs.SymbolsOnTracks.{IsNext, all_symbols, all_some, symbol_in, track_words, symbol_at, tabulated, left_in}
use Rattle.gier_text.specs.View.{LeftFrom, IsLeftIn}
use Rattle.gier_text.proofs.Tabulation.{length-tabulated, drop_past, step_forward, step_backward}
use Rattle.gier_text.proofs.SymbolCells.{reads_cell}

abbrev pub IsForward : Way → Type 0
IsForward Forward = Unit {0}
IsForward Backward = ⊥

abbrev pub IsBackward : Way → Type 0
IsBackward Forward = ⊥
IsBackward Backward = Unit {0}

-- the words of a track of a text
pub words_loaded : (all : List (List ℕ)) (first loaded : ℕ) (buffer : List ℕ) (t : ℕ) → t + 1 ≡ loaded → track_words all first loaded buffer t ≡ buffer
words_loaded all first loaded buffer t is = grind (arith, nat_tests)

pub words_other : (all : List (List ℕ)) (first loaded : ℕ) (buffer : List ℕ) (t : ℕ) → (t + 1 ≡ loaded → ⊥) → track_words all first loaded buffer t ≡ get_or all (first + t) []
words_other all first loaded buffer t ne = grind (arith, nat_tests)

-- two readings of one symbol
pub at_same : (all new : List (List ℕ)) (first loaded mark : ℕ) (buffer words : List ℕ) (i : ℕ) → track_words all first loaded buffer (i / 20) ≡ track_words new first mark words (i / 20) → symbol_at all first loaded buffer i ≡ symbol_at new first mark words i
at_same all new first loaded mark buffer words i same = ap (λ (w : List ℕ). symbol_in w (2 * (i % 20))) same

-- what is left of one list, after one more is read
pub left_step : {A : Type 0} (f g : ℕ → A) (way : Way) (count unread at : ℕ) → IsNext way count unread at → unread ≤ count → 0 < unread → (IsForward way → (i : ℕ) → at ≤ i → i < count → f i ≡ g i) → (IsBackward way → (i : ℕ) → i ≤ at → f i ≡ g i) → left_of way unread (tabulated f count) ≡ g at ∷ left_of way (unread - 1) (tabulated g count)
left_step f g Forward count unread at is le some ahead behind =
    let here : count - unread ≡ at = omega arith in
    let next : count - (unread - 1) ≡ at + 1 = omega arith in
    rw (length-tabulated f count, length-tabulated g count, here, next) (step_forward f g count at (omega arith) (ahead tt))
left_step f g Backward count unread at is le some ahead behind =
    let here : unread ≡ at + 1 = omega arith in
    let next : unread - 1 ≡ at = omega arith in
    rw (next, here) (step_backward f g count at (omega arith) (behind tt))

pub is_forward : (way : Way) → IsForward way → way ≡ Forward
is_forward Forward h = refl
is_forward Backward h = absurd h

pub is_backward : (way : Way) → IsBackward way → way ≡ Backward
is_backward Forward h = absurd h
is_backward Backward h = refl

pub next_forward : (way : Way) (count unread at : ℕ) → IsForward way → IsNext way count unread at → at + unread ≡ count
next_forward Forward count unread at h is = is
next_forward Backward count unread at h is = absurd h

pub next_backward : (way : Way) (count unread at : ℕ) → IsBackward way → IsNext way count unread at → at + 1 ≡ unread
next_backward Forward count unread at h is = absurd h
next_backward Backward count unread at h is = is

same_reading : (all : List (List ℕ)) (first loaded : ℕ) (buffer words : List ℕ) (at i : ℕ) → words ≡ track_words all first loaded buffer (at / 20) → ((i / 20 ≡ at / 20 → ⊥) → i / 20 + 1 ≡ loaded → ⊥) → symbol_at all first loaded buffer i ≡ symbol_at all first (at / 20 + 1) words i
same_reading all first loaded buffer words at i read elsewhere =
    at_same all all first loaded (at / 20 + 1) buffer words i (elim (cases_eq (i / 20) (at / 20)) [
      | inl e ↦ rw e (sym read ∙ sym (words_loaded all first (at / 20 + 1) words (at / 20) refl))
      | inr ne ↦ words_other all first loaded buffer (i / 20) (elsewhere ne) ∙ sym (words_other all first (at / 20 + 1) words (i / 20) (λ e. ne (omega arith)))
    ])

-- the next cell and the rest, where a track was loaded
cells_read : (all : List (List ℕ)) (first loaded : ℕ) (buffer words : List ℕ) (count : ℕ) (way : Way) (unread at : ℕ) → IsNext way count unread at → unread ≤ count → 0 < unread
    → (IsForward way → 20 * loaded + unread ≤ count + 20) → (IsBackward way → 0 < loaded → unread ≤ 20 * loaded)
    → words ≡ track_words all first loaded buffer (at / 20)
    → left_of way unread (tabulated (symbol_at all first loaded buffer) count) ≡ symbol_in words (2 * (at % 20)) ∷ left_of way (unread - 1) (tabulated (symbol_at all first (at / 20 + 1) words) count)
cells_read all first loaded buffer words count way unread at is le some ahead behind read =
    let f = λ (i : ℕ). symbol_at all first loaded buffer i in
    let g = λ (i : ℕ). symbol_at all first (at / 20 + 1) words i in
    let here : symbol_in words (2 * (at % 20)) ≡ symbol_at all first (at / 20 + 1) words at =
    ap (λ (w : List ℕ). symbol_in w (2 * (at % 20))) (sym (words_loaded all first (at / 20 + 1) words (at / 20) refl)) in
    rw here (left_step f g way count unread at is le some
    (λ forward i from below. let next : at + unread ≡ count = next_forward way count unread at forward is in let bound : 20 * loaded + unread ≤ count + 20 = ahead forward in
    same_reading all first loaded buffer words at i read (λ ne e. absurd (omega arith)))
    (λ backward i upto. let next : at + 1 ≡ unread = next_backward way count unread at backward is in
    same_reading all first loaded buffer words at i read (λ ne e. let bound : unread ≤ 20 * loaded = behind backward (omega arith) in absurd (omega arith))))

-- a read from a track that is loaded
pub left_read : (tracks : Option (List (List ℕ))) (first loaded : ℕ) (buffer words : List ℕ) (count : ℕ) (way : Way) (unread at : ℕ) (s : Symbol) → IsNext way count unread at → unread ≤ count → 0 < unread
    → (IsForward way → 20 * loaded + unread ≤ count + 20) → (IsBackward way → 0 < loaded → unread ≤ 20 * loaded)
    → ((all : List (List ℕ)) → tracks ≡ Some all → words ≡ track_words all first loaded buffer (at / 20))
    → symbol_in words (2 * (at % 20)) ≡ Some s
    → LeftFrom (all_symbols (left_in tracks first loaded buffer count way unread)) (s ∷ []) (all_symbols (left_in tracks first (at / 20 + 1) words count way (unread - 1)))
unfolding left_in
left_read None first loaded buffer words count way unread at s is le some ahead behind read cell = tt
left_read (Some all) first loaded buffer words count way unread at s is le some ahead behind read cell =
    let rest = left_of way (unread - 1) (tabulated (symbol_at all first (at / 20 + 1) words) count) in
    rw (cells_read all first loaded buffer words count way unread at is le some ahead behind (read all refl), cell) (reads_cell rest s)

-- a read of words that are no code, which comes only where what is left isn't told
pub left_spoilt : (tracks : Option (List (List ℕ))) (first loaded : ℕ) (buffer words : List ℕ) (count : ℕ) (way : Way) (unread at : ℕ) → IsNext way count unread at → unread ≤ count → 0 < unread
    → (IsForward way → 20 * loaded + unread ≤ count + 20) → (IsBackward way → 0 < loaded → unread ≤ 20 * loaded)
    → ((all : List (List ℕ)) → tracks ≡ Some all → words ≡ track_words all first loaded buffer (at / 20))
    → symbol_in words (2 * (at % 20)) ≡ None
    → all_symbols (left_in tracks first loaded buffer count way unread) ≡ None
unfolding left_in
left_spoilt None first loaded buffer words count way unread at is le some ahead behind read cell = refl
left_spoilt (Some all) first loaded buffer words count way unread at is le some ahead behind read cell =
    rw (cells_read all first loaded buffer words count way unread at is le some ahead behind (read all refl), cell) refl

left_of_none : {A : Type 0} (way : Way) (l : List A) → left_of way 0 l ≡ []
left_of_none Forward l = drop_past l (length l - 0) (omega arith)
left_of_none Backward l = refl

none_left : (o : Option (List Symbol)) → o ≡ Some [] → LeftFrom o [] o × IsLeftIn o []
none_left o is = subst (λ (p : Option (List Symbol)). LeftFrom p [] p × IsLeftIn p []) (sym is) (([], refl, refl), refl)

-- nothing is left where nothing is unread
pub left_none : (tracks : Option (List (List ℕ))) (first loaded : ℕ) (buffer : List ℕ) (count : ℕ) (way : Way) → LeftFrom (all_symbols (left_in tracks first loaded buffer count way 0)) [] (all_symbols (left_in tracks first loaded buffer count way 0)) × IsLeftIn (all_symbols (left_in tracks first loaded buffer count way 0)) []
unfolding left_in
left_none None first loaded buffer count way = (tt, tt)
left_none (Some all) first loaded buffer count way = none_left (all_some (left_of way 0 (tabulated (symbol_at all first loaded buffer) count))) (ap (λ (l : List (Option Symbol)). all_some l) (left_of_none way (tabulated (symbol_at all first loaded buffer) count)))

pub forward_bound : (count unread loaded : ℕ) → unread ≤ count → loaded ≡ (count - unread + 19) / 20 → 20 * loaded + unread ≤ count + 20
forward_bound count unread loaded le is = omega arith

pub backward_bound : (count unread loaded : ℕ) → unread ≤ count → (unread < count → loaded ≡ unread / 20 + 1) → (unread ≡ count → loaded ≡ 0) → 0 < loaded → unread ≤ 20 * loaded
backward_bound count unread loaded le begun unbegun some = elim (cases_eq unread count) [
  | inl e ↦ let none : loaded ≡ 0 = unbegun e in absurd (omega arith)
  | inr ne ↦ let is : loaded ≡ unread / 20 + 1 = begun (omega arith) in omega arith
]

pub forward_loaded : (count unread loaded at : ℕ) → at + unread ≡ count → loaded ≡ (count - unread + 19) / 20 → (at / 20 + 1 ≡ loaded → ⊥) → loaded ≡ at / 20
forward_loaded count unread loaded at next is other = let gap : count - unread ≡ at = omega arith in let at_is : loaded ≡ (at + 19) / 20 = rw gap at is in omega arith

pub backward_loaded : (count unread loaded at : ℕ) → at + 1 ≡ unread → unread ≤ count → (unread < count → loaded ≡ unread / 20 + 1) → (unread ≡ count → loaded ≡ 0) → (at / 20 + 1 ≡ loaded → ⊥) → ((loaded ≡ 0) × (at / 20 + 1 ≡ (count + 19) / 20)) ⊎ ((loaded ≡ at / 20 + 2) × (loaded ≤ (count + 19) / 20))
backward_loaded count unread loaded at next le begun unbegun other = elim (cases_eq unread count) [
  | inl e ↦ inl (unbegun e, omega arith)
  | inr ne ↦ let is : loaded ≡ unread / 20 + 1 = begun (omega arith) in inr (omega arith, omega arith)
]
