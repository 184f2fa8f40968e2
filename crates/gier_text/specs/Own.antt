-- Laws: what a text on a drum holds depends on the text and its own tracks alone.
use Rattle.std.specs.Prelude.{◌≡◌, ◌<◌, ◌≤◌, ◌+◌, ◌/◌, ◌==◌, [], Bool, true, false, ℕ, zero, suc, List, Option, None, Some}
use Rattle.std.specs.Prelude.{slice_index_or}
use Rattle.std.proofs.Common.{ap, arith, refl}
use Rattle.std.proofs.lemmas.Bool.Decides.{nat_tests}
use Rattle.gier_drum.specs.declared.drum.Entry.{Entry}
use Rattle.gier_symbol.specs.declared.symbol.Symbol.{Symbol}
use Rattle.gier_text.specs.declared.text.Way.{Way}
use Rattle.gier_text.specs.Remaining.{left_of}
use Rattle.gier_text.specs.SymbolsOnTracks.{tabulated, symbol_at, symbols_of, left_in, all_symbols, text_on, tracks_for}
use Rattle.gier_text.specs.View.{View, SameTracks}

pub listed_same : {A : Type 0} (f g : ℕ → A) (n : ℕ) → ((i : ℕ) → i < n → f i ≡ g i) → tabulated f n ≡ tabulated g n
listed_same f g zero same = refl
listed_same f g (suc n) same = rw (listed_same f g n (λ i lt. same i (omega arith)), same n (omega arith)) refl

own_symbol : (old new : List (List ℕ)) (first loaded : ℕ) (buffer : List ℕ) (i : ℕ)
    → slice_index_or new (first + i / 20) [] ≡ slice_index_or old (first + i / 20) []
    → symbol_at new first loaded buffer i ≡ symbol_at old first loaded buffer i
own_symbol old new first loaded buffer i same = rw same refl

own_list : (old new : List (List ℕ)) (first loaded : ℕ) (buffer : List ℕ) (count capacity : ℕ) → count ≤ capacity
    → SameTracks first (first + tracks_for capacity) (Some old) (Some new)
    → tabulated (symbol_at new first loaded buffer) count ≡ tabulated (symbol_at old first loaded buffer) count
own_list old new first loaded buffer count capacity le same = listed_same _ _ count
    (λ i below. own_symbol old new first loaded buffer i (same.own (first + i / 20) (omega arith) (omega arith)))

own_symbols : (old new : Option (List (List ℕ))) (first loaded : ℕ) (buffer : List ℕ) (count capacity : ℕ) → count ≤ capacity
    → SameTracks first (first + tracks_for capacity) old new
    → symbols_of new first loaded buffer count ≡ symbols_of old first loaded buffer count
unfolding symbols_of
own_symbols None None first loaded buffer count capacity le same = refl
own_symbols None (Some new) first loaded buffer count capacity le same = let none : true ≡ false = same.told in absurd cc
own_symbols (Some old) None first loaded buffer count capacity le same = let none : false ≡ true = same.told in absurd cc
own_symbols (Some old) (Some new) first loaded buffer count capacity le same = ap Some
    (own_list old new first loaded buffer count capacity le same)

own_left : (old new : Option (List (List ℕ))) (first loaded : ℕ) (buffer : List ℕ) (count capacity : ℕ) (way : Way) (unread : ℕ)
    → count ≤ capacity → SameTracks first (first + tracks_for capacity) old new
    → left_in new first loaded buffer count way unread ≡ left_in old first loaded buffer count way unread
unfolding left_in
own_left None None first loaded buffer count capacity way unread le same = refl
own_left None (Some new) first loaded buffer count capacity way unread le same = let none : true ≡ false = same.told in absurd cc
own_left (Some old) None first loaded buffer count capacity way unread le same = let none : false ≡ true = same.told in absurd cc
own_left (Some old) (Some new) first loaded buffer count capacity way unread le same = ap
    (λ (l : List (Option Symbol)). Some (left_of way unread l)) (own_list old new first loaded buffer count capacity le same)

-- a text on a drum over these tracks
abbrev seen : Option (List (List ℕ)) → ℕ → ℕ → List ℕ → ℕ → ℕ → Bool → Way → ℕ → List Entry → View
seen tracks first loaded buffer count capacity rewound way unread log = record {
  held = all_symbols (symbols_of tracks first loaded buffer count);
  count = count;
  capacity = Some capacity;
  rewound = rewound;
  way = way;
  left = all_symbols (left_in tracks first loaded buffer count way unread);
  unread = unread;
  log = log;
}

pub own_view : (old new : Option (List (List ℕ))) (first loaded : ℕ) (buffer : List ℕ) (count capacity : ℕ) (rewound : Bool)
    (way : Way) (unread : ℕ) (log : List Entry) → count ≤ capacity → SameTracks first (first + tracks_for capacity) old new
    → seen new first loaded buffer count capacity rewound way unread log
    ≡ seen old first loaded buffer count capacity rewound way unread log
own_view old new first loaded buffer count capacity rewound way unread log le same = rw (
  own_symbols old new first loaded buffer count capacity le same,
  own_left old new first loaded buffer count capacity way unread le same,
) refl

-- a text of which nothing stands in the buffer has the symbols that are on its tracks
unloaded : (tracks : List (List ℕ)) (first : ℕ) (buffer : List ℕ) (i : ℕ)
    → symbol_at tracks first 0 buffer i ≡ symbol_at tracks first 0 [] i
unloaded tracks first buffer i =
    let other : (i / 20 + 1 == 0) ≡ false = grind (arith, nat_tests) in
    rw other refl

pub found_on : (tracks : Option (List (List ℕ))) (first loaded : ℕ) (buffer : List ℕ) (count : ℕ) → loaded ≡ 0
    → all_symbols (symbols_of tracks first loaded buffer count) ≡ text_on tracks first count
unfolding symbols_of
found_on None first loaded buffer count none = refl
found_on (Some tracks) first loaded buffer count none =
    rw none (ap (λ l. all_symbols (Some l)) (listed_same _ _ count (λ i below. unloaded tracks first buffer i)))
