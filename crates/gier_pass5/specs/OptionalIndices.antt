-- How a word tells of an entry: it is the entry's number increased by 1, or 0 where there is none.
use Rattle.std.specs.Prelude.{◌+◌, ◌-◌, ◌&&◌, ℕ, nat_lt, nat_le, if◌then◌else◌, Option, None, Some}

abbrev pub link_at : Option ℕ → ℕ
link_at None = 0
link_at (Some at) = at + 1

abbrev pub linked_at : ℕ → ℕ → Option ℕ
linked_at word below = if nat_lt 0 word && nat_le word below then Some (word - 1) else None
