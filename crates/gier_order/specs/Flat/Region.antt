-- The stack of a flat run: a word for each place, as a function, and the walk along the activations that enclose one
-- another in the text. It knows nothing of how the machine keeps its stack.
use Rattle.std.specs.Prelude.{◌+◌, ◌-◌, ◌*◌, ◌/◌, ◌%◌, ◌==◌, ◌&&◌, ℕ, zero, suc, Bool, true, false, nat_lt, nat_le, Option, None}
use Rattle.std.specs.Prelude.{Some}

-- an activation's level stands above its enclosing base by this
abbrev pub level_unit : ℕ
level_unit = 16777216

-- one word written
abbrev pub put : (ℕ → ℕ) → (place word : ℕ) → ℕ → ℕ
put words place word q = elim (q == place) as (λ _. ℕ) [ true ↦ word | false ↦ words q ]

-- whether a place is one of n from a place on
abbrev pub is_within : (at n q : ℕ) → Bool
is_within at n q = nat_le at q && nat_lt q (at + n)

-- n words from a place on made 0
abbrev pub cleared_words : (ℕ → ℕ) → (at n : ℕ) → ℕ → ℕ
cleared_words words at n q = elim (is_within at n q) as (λ _. ℕ) [ true ↦ 0 | false ↦ words q ]

-- n words from a place on made those that `source` has from another place on
abbrev pub with_copy : (ℕ → ℕ) → (at : ℕ) → (source : ℕ → ℕ) → (from n : ℕ) → ℕ → ℕ
with_copy words at source from n q = elim (is_within at n q) as (λ _. ℕ) [ true ↦ source (from + (q - at)) | false ↦ words q ]

-- two words side by side
abbrev pub with_pair : (ℕ → ℕ) → (at first second : ℕ) → ℕ → ℕ
with_pair words at first second = put (put words at first) (at + 1) second

-- the header of an activation: the base before it, its level and the base that encloses it, and the place after it
abbrev pub with_header : (ℕ → ℕ) → (at old level outer end : ℕ) → ℕ → ℕ
with_header words at old level outer end = put (with_pair words at old (level * level_unit + outer)) (at + 2) end

-- a new activation at a place: its words are 0, and it has a header
abbrev pub with_activation : (ℕ → ℕ) → (at old level outer room : ℕ) → ℕ → ℕ
with_activation words at old level outer room = with_header (cleared_words words at room) at old level outer (at + room)

abbrev pub level_in : ℕ → ℕ
level_in word = word / level_unit

abbrev pub outer_in : ℕ → ℕ
outer_in word = word % level_unit

-- The first activation of a level from a base on along the enclosing ones. An enclosing base that isn't below its own
-- base counts as none. Bases fall, so one more look than the base's number is enough.
abbrev pub seek : (looks size : ℕ) → (ℕ → ℕ) → (level base : ℕ) → Option ℕ
seek zero size words level base = None
seek (suc looks) size words level base =
    elim (nat_lt (base + 1) size) as (λ _. Option ℕ) [
      | false ↦ None
      | true ↦ elim (level_in (words (base + 1)) == level) as (λ _. Option ℕ) [
        | true ↦ Some base
        | false ↦ elim (nat_lt (outer_in (words (base + 1))) base) as (λ _. Option ℕ) [
          | true ↦ seek looks size words level (outer_in (words (base + 1)))
          | false ↦ None
        ]
      ]
    ]
