-- Symbols in the words of tracks, two words each and twenty on a track.
use Rattle.std.specs.Prelude.{◌≡◌, Bool, ℕ, zero, suc, ◌+◌, ◌*◌, ◌/◌, ◌%◌, ◌==◌, List, [], ◌∷◌, ◌++◌, slice_index}
use Rattle.std.specs.Prelude.{slice_index_or, Option, None, Some, if◌then◌else◌}
use Rattle.std.specs.Option.{option_map}
use Rattle.gier_symbol.specs.declared.symbol.Symbol.{Symbol}
use Rattle.gier_symbol.specs.Symbols.{symbol_of_code}
use Rattle.gier_text.specs.declared.text.Way.{Way}
use Rattle.gier_text.specs.declared.text.Way.TheVariants.{Forward, Backward}
use Rattle.gier_text.specs.Remaining.{left_of}

-- the symbol whose code stands at a place of a track, where there is one
unfoldable pub symbol_in : List ℕ → ℕ → Option Symbol
symbol_in words place = symbol_of_code (slice_index words place) (slice_index words (place + 1))

-- the words of a text's track: those in the buffer where it stands for this track, and else those on the drum
abbrev pub track_words : List (List ℕ) → ℕ → ℕ → List ℕ → ℕ → List ℕ
track_words tracks first loaded buffer t = if t + 1 == loaded then buffer else slice_index_or tracks (first + t) []

abbrev pub symbol_at : List (List ℕ) → ℕ → ℕ → List ℕ → ℕ → Option Symbol
symbol_at tracks first loaded buffer i = symbol_in (track_words tracks first loaded buffer (i / 20)) (2 * (i % 20))

-- the values at the numbers below this one
abbrev pub tabulated : {A : Type 0} → (ℕ → A) → ℕ → List A
tabulated f zero = []
tabulated f (suc n) = tabulated f n ++ f n ∷ []

-- all of them, where each is there
abbrev pub all_some : {A : Type 0} → List (Option A) → Option (List A)
all_some [] = Some []
all_some (None ∷ xs) = None
all_some (Some x ∷ xs) = option_map (λ l. x ∷ l) (all_some xs)

-- the symbols, where the words are told and each is there
abbrev pub all_symbols : Option (List (Option Symbol)) → Option (List Symbol)
all_symbols None = None
all_symbols (Some xs) = all_some xs

unfoldable pub symbols_of : Option (List (List ℕ)) → ℕ → ℕ → List ℕ → ℕ → Option (List (Option Symbol))
symbols_of None first loaded buffer count = None
symbols_of (Some tracks) first loaded buffer count = Some (tabulated (symbol_at tracks first loaded buffer) count)

-- the symbols on the tracks from this one on, where the tracks are told and hold the code of so many
abbrev pub text_on : Option (List (List ℕ)) → (first count : ℕ) → Option (List Symbol)
text_on tracks first count = all_symbols (symbols_of tracks first 0 [] count)

unfoldable pub left_in : Option (List (List ℕ)) → ℕ → ℕ → List ℕ → ℕ → Way → ℕ → Option (List (Option Symbol))
left_in None first loaded buffer count way unread = None
left_in (Some tracks) first loaded buffer count way unread = Some
    (left_of way unread (tabulated (symbol_at tracks first loaded buffer) count))

-- how many tracks a text of so many symbols fills
abbrev pub tracks_for : ℕ → ℕ
tracks_for count = (count + 19) / 20

-- the number of the symbol that is read next
abbrev pub IsNext : Way → ℕ → ℕ → ℕ → Type 0
IsNext Forward count unread at = at + unread ≡ count
IsNext Backward count unread at = at + 1 ≡ unread

-- how many symbols stand in the buffer alone, where the text is written here
abbrev pub buffered_only : Bool → ℕ → ℕ
buffered_only fresh count = if fresh then count % 20 else 0
