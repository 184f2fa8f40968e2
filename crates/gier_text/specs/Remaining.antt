-- What is left of a list that is read forward or backward, with so many unread.
use Rattle.std.specs.Prelude.{ℕ, ◌-◌, List, length, take, drop, reverse}
use Rattle.gier_text.specs.declared.text.Way.{Way}
use Rattle.gier_text.specs.declared.text.Way.TheVariants.{Forward, Backward}

abbrev pub left_of : {A : Type 0} → Way → ℕ → List A → List A
left_of Forward unread xs = drop (length xs - unread) xs
left_of Backward unread xs = reverse (take unread xs)
