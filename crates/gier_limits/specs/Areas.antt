-- How the drum is divided for programs of at most so many bytes.
use Rattle.std.specs.Prelude.{◌+◌, ◌*◌, ◌/◌, ◌%◌, ◌==◌, ℕ, if◌then◌else◌}

-- the most bytes of a program text
abbrev pub longest : ℕ
longest = 524288

-- the most symbols of a text
abbrev pub capacity_of : ℕ → ℕ
capacity_of limit = 24 * limit + 64

-- the tracks of an area, with twenty symbols each
abbrev pub area_tracks : ℕ → ℕ
area_tracks limit = (capacity_of limit + 19) / 20

-- the tracks of the object, with forty words each
abbrev pub object_tracks : ℕ → ℕ
object_tracks limit = (16 * limit + 64 + 39) / 40

-- two areas and the object
abbrev pub all_tracks : ℕ → ℕ
all_tracks limit = 2 * area_tracks limit + object_tracks limit

-- text k lies in the area k mod 2
abbrev pub first_of : ℕ → ℕ
first_of text = if text % 2 == 1 then area_tracks longest else 0

-- the most words of an object
abbrev pub words_of : ℕ → ℕ
words_of bytes = 16 * bytes + 64

-- the object lies behind both areas
abbrev pub object_first : ℕ
object_first = 2 * area_tracks longest
