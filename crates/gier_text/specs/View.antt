-- What a text is over a store, and what the calls of a text do.
use Rattle.std.specs.Prelude.{◌≡◌, ◌≤◌, ◌<◌, ◌⊎◌, ℕ, ◌+◌, Bool, true, false, List, [], ◌∷◌, ◌++◌, length, reverse, Option, None}
use Rattle.std.specs.Prelude.{Some, slice_index_or, is_some}
use Rattle.gier_drum.specs.declared.drum.Entry.{Entry}
use Rattle.gier_symbol.specs.declared.symbol.Symbol.{Symbol}
use Rattle.gier_text.specs.declared.text.Way.{Way}
use Rattle.gier_text.specs.declared.text.Way.TheVariants.{Forward, Backward}

pub record View : Type 0 where
  -- the symbols that were written, where they are told
  pub held : Option (List Symbol)
  -- how many were written
  pub count : ℕ
  -- how many may be written, where there is a limit
  pub capacity : Option ℕ
  pub rewound : Bool
  -- the way in which it is read, once it was rewound
  pub way : Way
  -- the symbols that are still to be read, in the order of reading, where they are told
  pub left : Option (List Symbol)
  -- how many they are
  pub unread : ℕ
  -- the entries that its calls have added to the journal of its store
  pub log : List Entry

-- it holds its capacity
abbrev pub IsFull : View → Type 0
IsFull text = text.capacity ≡ Some text.count

-- nothing was written, and it wasn't rewound
pub record IsEmpty (text : View) : Type 0 where
  pub count : text.count ≡ 0
  pub writing : text.rewound ≡ false

-- nothing of it was read, in this way
pub record IsUnread (text : View) (direction : Way) : Type 0 where
  pub rewound : text.rewound ≡ true
  pub way : text.way ≡ direction
  pub unread : text.unread ≡ text.count

abbrev pub Appends : Option (List Symbol) → List Symbol → Option (List Symbol) → Type 0
Appends None ws new = Unit {0}
Appends (Some held) ws new = new ≡ Some (held ++ ws)

-- these symbols are appended, and nothing else changes
pub record WritesAll (old : View) (ws : List Symbol) (new : View) : Type 0 where
  pub held : Appends old.held ws new.held
  pub count : new.count ≡ old.count + length ws
  pub capacity : new.capacity ≡ old.capacity
  pub rewound : new.rewound ≡ old.rewound

abbrev pub Writes : View → Symbol → View → Type 0
Writes old s new = WritesAll old (s ∷ []) new

abbrev pub in_way : Way → List Symbol → List Symbol
in_way Forward xs = xs
in_way Backward xs = reverse xs

abbrev pub OrdersLeft : Option (List Symbol) → Way → Option (List Symbol) → Type 0
OrdersLeft None way left = Unit {0}
OrdersLeft (Some held) way left = left ≡ Some (in_way way held)

-- it is read from now on, in this way
pub record Rewinds (old : View) (direction : Way) (new : View) : Type 0 where
  pub held : new.held ≡ old.held
  pub count : new.count ≡ old.count
  pub capacity : new.capacity ≡ old.capacity
  pub rewound : new.rewound ≡ true
  pub way : new.way ≡ direction
  pub left : OrdersLeft old.held direction new.left
  pub unread : new.unread ≡ old.count

-- what is left begins with these, and then this is left
abbrev pub LeftFrom : Option (List Symbol) → List Symbol → Option (List Symbol) → Type 0
LeftFrom None read new = Unit {0}
LeftFrom (Some left) read new = (rest : List Symbol) × (left ≡ read ++ rest) × (new ≡ Some rest)

-- these symbols are read, and nothing else changes
pub record ReadsAll (old : View) (read : List Symbol) (new : View) : Type 0 where
  pub left : LeftFrom old.left read new.left
  pub unread : new.unread + length read ≡ old.unread
  pub count : new.count ≡ old.count
  pub rewound : new.rewound ≡ old.rewound
  pub way : new.way ≡ old.way

-- the symbol that a read gives, or none
abbrev pub as_list : Option Symbol → List Symbol
as_list None = []
as_list (Some s) = s ∷ []

-- the symbols that were left, all of them
abbrev pub IsLeftIn : Option (List Symbol) → List Symbol → Type 0
IsLeftIn None read = Unit {0}
IsLeftIn (Some left) read = left ≡ read

abbrev pub IsLeft : View → List Symbol → Type 0
IsLeft old read = IsLeftIn old.left read × (length read ≡ old.unread)

-- a read gives none exactly where nothing is left
abbrev pub EndsAt : Option Symbol → View → Type 0
EndsAt None view = IsLeft view []
EndsAt (Some s) view = 0 < view.unread

pub record Reads (old : View) (s : Option Symbol) (new : View) : Type 0 where
  pub read : ReadsAll old (as_list s) new
  pub ends : EndsAt s old

-- two texts have no track in common, each being a run of tracks from one up to another
abbrev pub Apart : ℕ → ℕ → ℕ → ℕ → Type 0
Apart first end other_first other_end = (end ≤ other_first) ⊎ (other_end ≤ first)

-- a call on a text keeps what each text apart from it is
abbrev pub KeepsOthers : {T S : Type 0} → (T → S → View) → (T → ℕ) → (T → ℕ) → T → S → S → Type 0
KeepsOthers {T} {S} view first end text old new = (other : T) → Apart (first text) (end text) (first other) (end other)
    → view other new ≡ view other old

-- a call keeps what each text is
abbrev pub KeepsAll : {T S : Type 0} → (T → S → View) → S → S → Type 0
KeepsAll {T} {S} view old new = (other : T) → view other new ≡ view other old

-- the text keeps its tracks
pub record IsPlacedAs {T : Type 0} (first end : T → ℕ) (old new : T) : Type 0 where
  pub begins : first new ≡ first old
  pub ends : end new ≡ end old

-- the words of a track, where they are told
abbrev pub track_in : Option (List (List ℕ)) → ℕ → List ℕ
track_in None t = []
track_in (Some tracks) t = slice_index_or tracks t []

-- no track changes but those from one up to another
pub record KeepsTracks (first end : ℕ) (old new : Option (List (List ℕ))) : Type 0 where
  pub told : is_some new ≡ is_some old
  pub others : (t : ℕ) → (t < first) ⊎ (end ≤ t) → track_in new t ≡ track_in old t

-- the tracks from one up to another are the same ones, or both are untold
pub record SameTracks (first end : ℕ) (old new : Option (List (List ℕ))) : Type 0 where
  pub told : is_some new ≡ is_some old
  pub own : (t : ℕ) → first ≤ t → t < end → track_in new t ≡ track_in old t
