-- What a call of a source or a sink does to the bytes that it tells. What isn't told stays untold.
use Rattle.std.specs.Prelude.{◌≡◌, ◌++◌, ℕ, List, drop, take, slice_get, Option, None, Some}

-- the first byte is given and gone, and None comes where no byte is left
abbrev pub Gives : Option (List ℕ) → Option ℕ → Option (List ℕ) → Type 0
Gives None byte new = new ≡ None
Gives (Some left) byte new = (byte ≡ slice_get left 0) × (new ≡ Some (drop 1 left))

-- all the bytes are appended
abbrev pub Puts : Option (List ℕ) → List ℕ → Option (List ℕ) → Type 0
Puts None bytes new = new ≡ None
Puts (Some held) bytes new = new ≡ Some (held ++ bytes)

-- a prefix of the bytes is appended
abbrev pub PutsPart : Option (List ℕ) → List ℕ → Option (List ℕ) → Type 0
PutsPart None bytes new = new ≡ None
PutsPart (Some held) bytes new = (n : ℕ) × (new ≡ Some (held ++ take n bytes))
