-- Pass 4 as a pure function: it folds text 3 from its end, and what it has written then is text 4.
use Rattle.std.specs.Prelude.{◌++◌, ◌==◌, ◌/◌, ℕ, suc, zero, List, [], ◌∷◌, None, Some, if◌then◌else◌}
use Rattle.gier_symbol.specs.declared.symbol.Symbol.{Symbol}
use Rattle.gier_symbol.specs.declared.tag.Tag.{Tag}
use Rattle.gier_symbol.specs.declared.tag.Tag.TheVariants.{TextEnd, Semicolon, Begin, End, Integer, Boolean, Array, Switch}
use Rattle.gier_symbol.specs.declared.tag.Tag.TheVariants.{Procedure, String, Label, Own, Declaring, Formal, ValueListed}
use Rattle.gier_symbol.specs.declared.tag.Tag.TheVariants.{Specified as SpecifiedTag, OpenMark, ShutMark, OwnNumber, OwnEntry}
use Rattle.gier_symbol.specs.declared.tag.Tag.TheVariants.{Entry, Description, Count}
use Rattle.gier_symbol.specs.ByTag.{sym, word}
use Rattle.gier_symbol.specs.Tags.{number_of}
use Rattle.gier_tree.specs.declared.construct.Construct.TheVariants.{Program as CProgram, Block as CBlock, TypeDeclaration}
use Rattle.gier_tree.specs.declared.construct.Construct.TheVariants.{ArraySegment, SwitchDeclaration, ProcedureDeclaration}
use Rattle.gier_tree.specs.declared.construct.Construct.TheVariants.{ProcedureBody, ControlledStatement, Bound}
use Rattle.gier_tree.specs.declared.kind.Kind.{Kind}
use Rattle.gier_tree.specs.declared.kind.Kind.TheVariants.{Undeclared, Label as LabelKind, Switch as SwitchKind}
use Rattle.gier_tree.specs.Constructs.{construct_number}
use Rattle.gier_tree.specs.Described.{variable_kind, array_kind}
use Rattle.gier_tree.specs.Hoist.{fresh}
use Rattle.gier_tree.specs.Kinds.{kind_number}
use Rattle.gier_tree.specs.Texts.{kinds_listed}
use Rattle.gier_tree.specs.Trees.{ValueType, IntegerType, BooleanType}
use Rattle.gier_text4.specs.Kinds.{Specified, MkSpecified, typed_specification, worded_specification, declared_kind, formal_in}
use Rattle.gier_text4.specs.State.{Owning, NotOwn, MayBeOwn, IsOwn, Frame, NoFrame, WholeFrame, FrameBegin, Place, Statements}
use Rattle.gier_text4.specs.State.{InType, InSegment, BetweenSegments, InSwitch, InHeading, State, MkState, start, put, put_out}
use Rattle.gier_text4.specs.State.{in_place, place_of, on_scope, note, lined, typed, settled}

-- entries, before their kind is known
abbrev pub untyped : (x : ℕ) → (behind : List Symbol) → List Symbol
untyped x behind = sym Entry x 0 ∷ sym Description 0 0 ∷ behind

abbrev pub counted : (x bounds : ℕ) → (behind : List Symbol) → List Symbol
counted x bounds behind = untyped x (sym Count (bounds / 2) 0 ∷ behind)

-- an entry whose kind is known, and that of an own quantity in its scope
abbrev pub entry_of : (x : ℕ) → Kind → List Symbol → List Symbol
entry_of x kind behind = sym Entry x 0 ∷ sym Description (kind_number kind) 0 ∷ behind

abbrev pub own_entry_of : (x number : ℕ) → List Symbol → List Symbol
own_entry_of x number behind = sym Entry x 0 ∷ sym OwnEntry number 0 ∷ behind

-- an identifier in a declaring place
abbrev pub declare : Symbol → State → State
declare s (MkState o d sc w f NotOwn (InType h i) fr) = MkState (s ∷ o) d sc w f NotOwn (InType (untyped s.value h) i) fr
declare s (MkState o d sc w f (MayBeOwn part) (InType h i) fr) =
    MkState (s ∷ part o) d sc w f NotOwn (InType (untyped s.value h) i) fr
declare s (MkState o d sc w f (IsOwn n t) (InType h i) fr) =
    MkState o (sym Declaring n s.line ∷ d) sc w f (IsOwn n t) (InType (own_entry_of s.value n h) (untyped n i)) fr
declare s (MkState o d sc w f NotOwn (InSegment b h i) fr) =
    MkState (s ∷ o) d sc w f NotOwn (InSegment b (counted s.value b h) i) fr
declare s (MkState o d sc w f (MayBeOwn part) (InSegment b h i) fr) =
    MkState (s ∷ part o) d sc w f NotOwn (InSegment b (counted s.value b h) i) fr
declare s (MkState o d sc w f (IsOwn n t) (InSegment b h i) fr) =
    MkState o (sym Declaring n s.line ∷ d) sc w f (IsOwn n t) (InSegment b (own_entry_of s.value n h) (counted n b i)) fr
declare s (MkState o d sc w f own Statements fr) =
    put_out (λ k. s ∷ k) (note (entry_of s.value LabelKind) (MkState o d sc w f own Statements fr))
declare s (MkState o d sc w f own InSwitch fr) =
    put_out (λ k. s ∷ k) (note (entry_of s.value SwitchKind) (MkState o d sc w f own InSwitch fr))
declare s (MkState o d sc w f own (InHeading spec specs values x) fr) =
    put_out (λ k. s ∷ k) (MkState o d sc w f own (InHeading spec specs values (Some s.value)) fr)
declare s (MkState o d sc w f own (BetweenSegments h i) fr) =
    put_out (λ k. s ∷ k) (MkState o d sc w f own (BetweenSegments h i) fr)

-- The number of an own quantity, which stands behind its declaring place: the declaration leaves its place, and gets a `;`.
abbrev pub own_number : Symbol → State → State
own_number s (MkState o d sc w f NotOwn at fr) = MkState o d sc w f NotOwn at fr
own_number s (MkState o d sc w f (MayBeOwn part) at fr) =
    MkState o (part (word Semicolon s.line ∷ d)) sc w f (IsOwn (fresh s.value) 0) at fr
own_number s (MkState o d sc w f (IsOwn n t) at fr) = MkState o d sc w f (IsOwn (fresh s.value) t) at fr

-- `_own` is left out; with it an own declaration of arrays ends
abbrev pub own_word : Symbol → State → State
own_word s (MkState o d sc w f (IsOwn n t) (InType h i) fr) = MkState o d sc w f (IsOwn n t) (InType h i) fr
own_word s (MkState o d sc w f (IsOwn n t) at fr) = MkState o d sc w f NotOwn at fr
own_word s (MkState o d sc w f own at fr) = put_out (λ k. s ∷ k) (MkState o d sc w f own at fr)

-- a formal in the list of formals
abbrev pub formal : Symbol → State → State
formal s (MkState o d sc w f own (InHeading spec specs values x) fr) =
    let kind = formal_in (spec ∷ specs) values s.value in
    put_out (λ k. s ∷ k) (note (entry_of s.value kind) (MkState o d sc w (kind ∷ f) own (InHeading spec specs values x) fr))
formal s c = put (λ k. s ∷ k) c

-- what other symbols say within a heading
abbrev pub named : (x : ℕ) → Specified → Specified
named x (MkSpecified names kind) = MkSpecified (x ∷ names) kind

abbrev pub worded : (Kind → Kind) → Specified → Specified
worded f (MkSpecified names kind) = MkSpecified names (f kind)

abbrev pub specify : (x : ℕ) → Place → Place
specify x (InHeading spec specs values y) = InHeading (named x spec) specs values y
specify x at = at

abbrev pub list_by_value : (x : ℕ) → Place → Place
list_by_value x (InHeading spec specs values y) = InHeading spec specs (x ∷ values) y
list_by_value x at = at

abbrev pub say : (Kind → Kind) → Place → Place
say f (InHeading spec specs values y) = InHeading (worded f spec) specs values y
say f at = at

abbrev pub next_specification : Place → Place
next_specification (InHeading spec specs values y) = InHeading (MkSpecified [] Undeclared) (spec ∷ specs) values y
next_specification at = at

abbrev pub changes : (Place → Place) → Symbol → State → State
changes g s (MkState o d sc w f own at fr) = put (λ k. s ∷ k) (MkState o d sc w f own (g at) fr)

-- a type: entries that wait get their kind
abbrev pub type_line : (line : ℕ) → Owning → Owning
type_line line (IsOwn n t) = IsOwn n line
type_line line own = own

abbrev pub typing : ValueType → (line : ℕ) → State → State
typing t line (MkState o d sc w f own (InType h i) fr) =
    MkState o d (on_scope (typed (kind_number (variable_kind t)) h) sc) (typed (kind_number (variable_kind t)) i w) f
    (type_line line own) (InType [] []) fr
typing t line (MkState o d sc w f own (BetweenSegments h i) fr) =
    MkState o d (on_scope (typed (kind_number (array_kind t)) h) sc) (typed (kind_number (array_kind t)) i w) f
    (type_line line own) Statements fr
typing t line (MkState o d sc w f own at fr) = MkState o d sc w f own (say (typed_specification t) at) fr

-- a declaration may be an own one where there is a block around the program
abbrev pub own_begins : State → State
own_begins (MkState o d sc w f NotOwn at FrameBegin) = MkState o d sc w f (MayBeOwn (λ k. k)) at FrameBegin
own_begins c = c

-- the mark before a declaration of variables; before an own one it has the line of the type
abbrev pub end_type : Symbol → State → State
end_type s (MkState o d sc w f NotOwn at fr) = MkState (s ∷ o) d sc w f NotOwn at fr
end_type s (MkState o d sc w f (MayBeOwn part) at fr) = MkState (s ∷ part o) d sc w f NotOwn at fr
end_type s (MkState o d sc w f (IsOwn n t) at fr) =
    MkState o (record { tag = s.tag; value = s.value; line = t } ∷ d) sc w f NotOwn at fr

-- segments of arrays; entries of one declaration wait together
abbrev pub begin_segment : State → State
begin_segment (MkState o d sc w f own (BetweenSegments h i) fr) = MkState o d sc w f own (InSegment 0 h i) fr
begin_segment c = in_place (InSegment 0 [] []) (settled c)

abbrev pub end_segment : Place → Place
end_segment (InSegment b h i) = BetweenSegments h i
end_segment at = at

abbrev pub next_bound : Place → Place
next_bound (InSegment b h i) = InSegment (suc b) h i
next_bound at = at

-- a scope begins at its end, and ends before its entries
abbrev pub begin_scope : State → State
begin_scope (MkState o d sc w f own at fr) = MkState o d ([] ∷ sc) w f own at fr

abbrev pub end_scope : Symbol → State → State
end_scope s (MkState o d [] w f own at fr) = put_out (λ k. s ∷ k) (MkState o d [] w f own at fr)
end_scope s (MkState o d (e ∷ es) w f own at fr) = put_out (λ k. s ∷ lined s.line e k) (MkState o d es w f own at fr)

-- the heading of a procedure begins, at its end; with it the procedure is declared in the scope around
abbrev pub begin_heading : State → State
begin_heading c = in_place (InHeading (MkSpecified [] Undeclared) [] [] None) c

abbrev pub end_heading : Place → State → State
end_heading (InHeading (MkSpecified names kind) specs values (Some x)) (MkState o d sc w f own at fr) =
    MkState o d (on_scope (λ e. entry_of x (declared_kind kind) (kinds_listed f 0 e)) sc) w [] own at fr
end_heading _ (MkState o d sc w f own at fr) = MkState o d (on_scope (kinds_listed f 0) sc) w [] own at fr

-- the end of the text tells whether there are own quantities
abbrev pub frame_by : (owns line : ℕ) → Frame
frame_by zero line = NoFrame
frame_by (suc n) line = WholeFrame line

abbrev pub text_end : Symbol → State → State
text_end s (MkState o d sc w f own at fr) =
    put_out (λ k. sym TextEnd 0 s.line ∷ k) (MkState o d sc w f own at (frame_by s.value s.line))

-- the marks of the program, with the block around it
abbrev pub end_program : Symbol → State → State
end_program s (MkState o d sc w f own at (WholeFrame line)) =
    put_out (λ k. word End line ∷ sym ShutMark (construct_number CBlock) line ∷ sym ShutMark s.value line ∷ k)
    (MkState o d sc w f own at FrameBegin)
end_program s c = put_out (λ k. s ∷ k) c

abbrev pub innermost : List (List Symbol) → List Symbol
innermost [] = []
innermost (e ∷ es) = e

abbrev pub outer : List (List Symbol) → List (List Symbol)
outer [] = []
outer (e ∷ es) = es

abbrev pub waiting : Owning → List Symbol → List Symbol
waiting (MayBeOwn part) k = part k
waiting own k = k

abbrev pub begin_program : Symbol → State → State
begin_program s (MkState o d sc w f own at FrameBegin) =
    MkState (s ∷ sym OpenMark (construct_number CBlock) s.line ∷ lined s.line w (lined s.line (innermost sc)
    (word Begin s.line ∷ (d ++ waiting own o)))) [] (outer sc) [] f NotOwn at NoFrame
begin_program s (MkState o d sc w f own at fr) =
    MkState (s ∷ lined s.line (innermost sc) (waiting own o)) d (outer sc) w f NotOwn at NoFrame

-- what the symbols do, by their tags, and marks by their constructs
pub data Does : Type 0 where
  Ends : Does
  Declares : Does
  NamesFormal : Does
  Numbers : Does
  Specifies : Does
  ListsByValue : Does
  Types : ValueType → Does
  Says : Tag → Does
  OwnsIt : Does
  Separates : Does
  Opens : Does
  Shuts : Does
  IsCopied : Does

abbrev pub does_word : (tag : ℕ) → Does
does_word n = if n == number_of Array then Says Array else if n == number_of Switch then Says Switch
    else if n == number_of Procedure then Says Procedure else if n == number_of String then Says String
    else if n == number_of Label then Says Label else IsCopied

abbrev pub does : (tag : ℕ) → Does
does n = if n == number_of TextEnd then Ends else if n == number_of Declaring then Declares
    else if n == number_of Formal then NamesFormal else if n == number_of OwnNumber then Numbers
    else if n == number_of SpecifiedTag then Specifies else if n == number_of ValueListed then ListsByValue
    else if n == number_of Integer then Types IntegerType else if n == number_of Boolean then Types BooleanType
    else if n == number_of Own then OwnsIt else if n == number_of Semicolon then Separates
    else if n == number_of OpenMark then Opens else if n == number_of ShutMark then Shuts else does_word n

pub data Marks : Type 0 where
  MarksProgram : Marks
  MarksScope : Marks
  MarksProcedure : Marks
  MarksBody : Marks
  MarksType : Marks
  MarksSegment : Marks
  MarksSwitch : Marks
  MarksBound : Marks
  MarksOther : Marks

abbrev pub marks : (construct : ℕ) → Marks
marks n = if n == construct_number CProgram then MarksProgram else if n == construct_number CBlock then MarksScope
    else if n == construct_number ControlledStatement then MarksScope
    else if n == construct_number ProcedureDeclaration then MarksProcedure
    else if n == construct_number ProcedureBody then MarksBody
    else if n == construct_number TypeDeclaration then MarksType else if n == construct_number ArraySegment then MarksSegment
    else if n == construct_number SwitchDeclaration then MarksSwitch else if n == construct_number Bound then MarksBound
    else MarksOther

abbrev pub opened : Marks → Symbol → State → State
opened MarksProgram s c = begin_program s (settled c)
opened MarksScope s c = end_scope s (settled c)
opened MarksProcedure s c = end_heading (place_of c) (end_scope s (settled c))
opened MarksBody s c = put (λ k. s ∷ k) (begin_heading (settled c))
opened MarksType s c = end_type s (settled c)
opened MarksSegment s c = changes end_segment s c
opened MarksSwitch s c = put (λ k. s ∷ k) (settled c)
opened _ s c = put (λ k. s ∷ k) c

abbrev pub shut : Marks → Symbol → State → State
shut MarksProgram s c = end_program s (begin_scope (settled c))
shut MarksScope s c = put (λ k. s ∷ k) (begin_scope (settled c))
shut MarksProcedure s c = put (λ k. s ∷ k) (begin_scope (settled c))
shut MarksType s c = put (λ k. s ∷ k) (own_begins (in_place (InType [] []) (settled c)))
shut MarksSegment s c = put (λ k. s ∷ k) (own_begins (begin_segment c))
shut MarksSwitch s c = put (λ k. s ∷ k) (in_place InSwitch (settled c))
shut MarksBound s c = changes next_bound s c
shut _ s c = put (λ k. s ∷ k) c

abbrev pub act : Does → Symbol → State → State
act Ends s c = text_end s c
act Declares s c = declare s c
act NamesFormal s c = formal s c
act Numbers s c = own_number s c
act Specifies s c = changes (specify s.value) s c
act ListsByValue s c = changes (list_by_value s.value) s c
act (Types t) s c = put (λ k. s ∷ k) (typing t s.line c)
act (Says tag) s c = changes (say (worded_specification tag)) s c
act OwnsIt s c = own_word s c
act Separates s c = changes next_specification s c
act Opens s c = opened (marks s.value) s c
act Shuts s c = shut (marks s.value) s c
act IsCopied s c = put (λ k. s ∷ k) c

abbrev pub step : Symbol → State → State
step s c = act (does s.tag) s c

abbrev pub fold : List Symbol → State
fold [] = start
fold (s ∷ w) = step s (fold w)

abbrev pub written : State → List Symbol
written (MkState o d sc w f own at fr) = o

abbrev pub pass4_text : List Symbol → List Symbol
pass4_text text3 = written (fold text3)
