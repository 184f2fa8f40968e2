-- What the pass knows, and where what it writes goes. How it changes with a symbol isn't told here.
use Rattle.std.specs.Prelude.{◌++◌, ◌==◌, ℕ, List, [], ◌∷◌, Option, if◌then◌else◌}
use Rattle.gier_symbol.specs.declared.symbol.Symbol.{Symbol}
use Rattle.gier_symbol.specs.declared.tag.Tag.TheVariants.{Description}
use Rattle.gier_symbol.specs.ByTag.{sym}
use Rattle.gier_symbol.specs.Tags.{number_of}
use Rattle.gier_tree.specs.declared.kind.Kind.{Kind}
use Rattle.gier_text4.specs.Kinds.{Specified}

-- Whether the declaration is an own one. Where that isn't known, what stands behind waits, before whatever it will stand before;
-- of an own one the number of the next own quantity is known, and the line of its type once that was read.
pub data Owning : Type 0 where
  NotOwn : Owning
  MayBeOwn : (part : List Symbol → List Symbol) → Owning
  IsOwn : (number type_line : ℕ) → Owning

-- How much of the block around the program is still to be written; of all of it the line of its end is known.
pub data Frame : Type 0 where
  NoFrame : Frame
  WholeFrame : (line : ℕ) → Frame
  FrameBegin : Frame

-- Where the next symbol stands. In declarations of variables and arrays those entries wait of which the type wasn't read, of the
-- scope and of own quantities; a heading has what it says of its formals, and the procedure's identifier.
pub data Place : Type 0 where
  Statements : Place
  InType : (held held_owns : List Symbol) → Place
  InSegment : (bounds : ℕ) → (held held_owns : List Symbol) → Place
  BetweenSegments : (held held_owns : List Symbol) → Place
  InSwitch : Place
  InHeading : Specified → List Specified → (values : List ℕ) → (procedure : Option ℕ) → Place

-- What was written, and the own declarations, in the order of the text; the entries of each open scope, the innermost first, and
-- those of own quantities, all without lines; and the kinds of the formals of the heading that is being read.
pub data State : Type 0 where
  MkState : (out owns : List Symbol) → (scopes : List (List Symbol)) → (own_entries : List Symbol) → (formals : List Kind)
      → Owning → Place → Frame → State

abbrev pub start : State
start = MkState [] [] [] [] [] NotOwn Statements NoFrame

-- puts symbols before those of the declaration, or of the text
abbrev pub put : (List Symbol → List Symbol) → State → State
put g (MkState o d sc w f NotOwn at fr) = MkState (g o) d sc w f NotOwn at fr
put g (MkState o d sc w f (MayBeOwn part) at fr) = MkState o d sc w f (MayBeOwn (λ k. g (part k))) at fr
put g (MkState o d sc w f (IsOwn n t) at fr) = MkState o (g d) sc w f (IsOwn n t) at fr

-- the same, but never among own declarations
abbrev pub put_out : (List Symbol → List Symbol) → State → State
put_out g (MkState o d sc w f (MayBeOwn part) at fr) = MkState o d sc w f (MayBeOwn (λ k. g (part k))) at fr
put_out g (MkState o d sc w f own at fr) = MkState (g o) d sc w f own at fr

abbrev pub in_place : Place → State → State
in_place at (MkState o d sc w f own _ fr) = MkState o d sc w f own at fr

abbrev pub place_of : State → Place
place_of (MkState o d sc w f own at fr) = at

-- changes the entries of the innermost scope
abbrev pub on_scope : (List Symbol → List Symbol) → List (List Symbol) → List (List Symbol)
on_scope g [] = []
on_scope g (e ∷ es) = g e ∷ es

abbrev pub note : (List Symbol → List Symbol) → State → State
note g (MkState o d sc w f own at fr) = MkState o d (on_scope g sc) w f own at fr

-- entries with their line
abbrev pub lined : (line : ℕ) → List Symbol → List Symbol → List Symbol
lined line [] rest = rest
lined line (s ∷ w) rest = record { tag = s.tag; value = s.value; line = line } ∷ lined line w rest

-- entries with their kind
abbrev pub with_kind : (kind : ℕ) → Symbol → Symbol
with_kind kind s = if s.tag == number_of Description then sym Description kind 0 else s

abbrev pub typed : (kind : ℕ) → List Symbol → List Symbol → List Symbol
typed kind [] rest = rest
typed kind (s ∷ w) rest = with_kind kind s ∷ typed kind w rest

-- The place is left: entries that wait stay without a kind. Of no text 3 do any wait then.
abbrev pub settled : State → State
settled (MkState o d sc w f own (InType h i) fr) = MkState o d (on_scope (λ e. h ++ e) sc) (i ++ w) f own Statements fr
settled (MkState o d sc w f own (InSegment b h i) fr) = MkState o d (on_scope (λ e. h ++ e) sc) (i ++ w) f own Statements fr
settled (MkState o d sc w f own (BetweenSegments h i) fr) = MkState o d (on_scope (λ e. h ++ e) sc) (i ++ w) f own Statements fr
settled (MkState o d sc w f own at fr) = MkState o d sc w f own Statements fr
