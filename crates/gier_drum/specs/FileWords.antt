-- How the 40 words of a track stand in 320 bytes: 8 bytes a word, least significant first.
use Rattle.std.specs.Prelude.{◌≡◌, ◌<◌, ◌≤◌, ◌^◌, ◌*◌, ◌+◌, ℕ, List, [], ◌∷◌, Result, Ok, Err, get_or, ⊤}
use Rattle.std.specs.Int.{w64, from_le_bytes}

-- the bytes of the word at this place
abbrev pub eight_bytes : List ℕ → (place : ℕ) → List ℕ
eight_bytes bytes place =
    let at = place * 8 in
    get_or bytes at 0 ∷ get_or bytes (at + 1) 0 ∷ get_or bytes (at + 2) 0 ∷ get_or bytes (at + 3) 0
    ∷ get_or bytes (at + 4) 0 ∷ get_or bytes (at + 5) 0 ∷ get_or bytes (at + 6) 0 ∷ get_or bytes (at + 7) 0 ∷ []

-- the number that they are
abbrev pub word_in : List ℕ → (place : ℕ) → ℕ
word_in bytes place = from_le_bytes w64 (eight_bytes bytes place)

-- the words that were taken from the bytes, or a refusal because one of them has more than 40 bits
abbrev pub Decodes : {E : Type 0} → List ℕ → Result ⊤ E → List ℕ → Type 0
Decodes bytes (Ok done) words = (place : ℕ) → place < 40 → get_or words place 0 ≡ word_in bytes place
Decodes bytes (Err refused) words = (place : ℕ) × ((place < 40) × (2 ^ 40 ≤ word_in bytes place))
