-- Which words of the command line have the form of a path.
use Rattle.std.specs.Prelude.{◌==◌, ◌&&◌, ◌||◌, ℕ, Bool, not, List}
use Rattle.std.specs.List.{list_any}

-- whether the byte stands among these
abbrev pub has : ℕ → List ℕ → Bool
has byte bytes = list_any (λ b. b == byte) bytes

abbrev pub equals_sign : ℕ
equals_sign = 61

abbrev pub slash : ℕ
slash = 47

abbrev pub full_stop : ℕ
full_stop = 46

-- a word with a sign `=` sets something and is no path
abbrev pub is_path_of : List ℕ → Bool
is_path_of word = not (has equals_sign word) && (has slash word || has full_stop word)
