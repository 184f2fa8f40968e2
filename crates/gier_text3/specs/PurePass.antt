-- Pass 3 as a pure function: what is written of the symbols that come, by what is wanted and by what was looked ahead.
use Rattle.std.specs.Prelude.{◌==◌, ◌++◌, ℕ, suc, Bool, true, false, List, [], ◌∷◌, Option, None, Some, if◌then◌else◌}
use Rattle.gier_symbol.specs.declared.symbol.Symbol.{Symbol}
use Rattle.gier_symbol.specs.declared.tag.Tag.{Tag}
use Rattle.gier_symbol.specs.declared.tag.Tag.TheVariants.{Identifier, TextEnd, OwnNumber}
use Rattle.gier_symbol.specs.ByTag.{sym}
use Rattle.gier_symbol.specs.Tags.{number_of as tag_number}
use Rattle.gier_tree.specs.Signs.{sign_of, sign_tag}
use Rattle.gier_grammar.specs.declared.grammar_symbol.GrammarSymbol.{GrammarSymbol}
use Rattle.gier_grammar.specs.declared.grammar_symbol.GrammarSymbol.TheVariants.{Program as GProgram, TextEnd as GTextEnd}
use Rattle.gier_grammar.specs.declared.grammar_symbol.GrammarSymbol.TheVariants.{OpenProgram, ShutProgram, Statement as GStatement}
use Rattle.gier_grammar.specs.declared.grammar_symbol.GrammarSymbol.TheVariants.{AfterName as GAfterName, Branch as GBranch}
use Rattle.gier_grammar.specs.declared.grammar_symbol.GrammarSymbol.TheVariants.{AfterBranchName as GAfterBranchName}
use Rattle.gier_grammar.specs.declared.grammar_symbol.Mark.{Mark}
use Rattle.gier_grammar.specs.declared.grammar_symbol.Mark.TheVariants.{Open as MOpen, Shut as MShut}
use Rattle.gier_grammar.specs.declared.production.Action.{Action}
use Rattle.gier_grammar.specs.declared.production.Action.TheVariants.{Open, WriteLookahead, Write, WriteAs, WriteOwn, WriteEnd}
use Rattle.gier_grammar.specs.declared.production.Action.TheVariants.{Lookahead, LookaheadName, LookaheadLabel}
use Rattle.gier_grammar.specs.declared.production.Role.{Role}
use Rattle.gier_grammar.specs.declared.production.Role.TheVariants.{Declaring as LDeclaring, LabelColon as LLabelColon}
use Rattle.gier_grammar.specs.declared.production.Production.{Production}
use Rattle.gier_grammar.specs.declared.stack_entry.StackEntry.{StackEntry}
use Rattle.gier_grammar.specs.declared.parse_table.ParseAction.{ParseAction}
use Rattle.gier_grammar.specs.declared.parse_table.ParseAction.TheVariants.{Error, Epsilon, Expand}
use Rattle.gier_grammar.specs.GrammarSymbols.{mark_of}
use Rattle.gier_text3.specs.Marks.{mark_symbol, line_by, opened_by}
use Rattle.gier_grammar.specs.Productions.{actions_of, right_side_of, left_after, tag_of}
use Rattle.gier_grammar.specs.ParseTable.{parse_action}
use Rattle.gier_grammar.specs.StackEntries.{above}

-- the lookahead, an identifier behind it that may be a label, the line of the last symbol, and how many own quantities were
-- declared
pub record WriterState : Type 0 where
  pub lookahead : List Symbol
  pub name : Option Symbol
  pub last : ℕ
  pub owns : ℕ

-- what is written then
abbrev pub Continuation : Type 0
Continuation = WriterState → List Symbol

-- a symbol in a role
abbrev pub name_number : Symbol → ℕ
name_number s = if s.tag == tag_number Identifier then s.value else 0

abbrev pub as_role : Role → Symbol → Symbol
as_role role s = sym (tag_of role) (name_number s) s.line

-- the identifier that may be a label, if there is one
abbrev pub name_symbols : Option Symbol → List Symbol
name_symbols None = []
name_symbols (Some name) = name ∷ []

-- the lookahead is written
abbrev pub write_lookahead : WriterState → Continuation → List Symbol
write_lookahead c next =
    c.lookahead ++ (name_symbols c.name ++ next (record { lookahead = []; name = None; last = c.last; owns = c.owns }))

-- the line of the first symbol of the lookahead, or another where there is none
abbrev pub first_line : List Symbol → Option Symbol → (other : ℕ) → ℕ
first_line [] None other = other
first_line [] (Some x) other = x.line
first_line (s ∷ lookahead) name other = s.line

abbrev pub add_label : Option Symbol → Symbol → WriterState → Continuation → List Symbol
add_label None s c next = next c
add_label (Some x) s c next = next (record {
  lookahead = (c.lookahead ++ as_role LDeclaring x ∷ []) ++ as_role LLabelColon s ∷ [];
  name = None;
  last = c.last;
  owns = c.owns;
})

abbrev pub with_owns : WriterState → (owns : ℕ) → WriterState
with_owns c owns = record { lookahead = c.lookahead; name = c.name; last = c.last; owns = owns }

abbrev pub action_on : Action → Symbol → WriterState → Continuation → List Symbol
action_on (Open construct) s c next = mark_symbol (MOpen construct) (first_line c.lookahead c.name s.line) ∷ next c
action_on WriteLookahead s c next = write_lookahead c next
action_on Write s c next = s ∷ next c
action_on (WriteAs role) s c next = as_role role s ∷ next c
action_on WriteOwn s c next = sym OwnNumber c.owns s.line ∷ next (with_owns c (suc c.owns))
action_on WriteEnd s c next = sym TextEnd c.owns s.line ∷ next c
action_on Lookahead s c next = next (record { lookahead = c.lookahead ++ s ∷ []; name = c.name; last = c.last; owns = c.owns })
action_on LookaheadName s c next = next (record { lookahead = c.lookahead; name = Some s; last = c.last; owns = c.owns })
action_on LookaheadLabel s c next = add_label c.name s c next

abbrev pub actions_on : List Action → Symbol → WriterState → Continuation → List Symbol
actions_on [] s c next = next c
actions_on (action ∷ actions) s c next = action_on action s c (λ d. actions_on actions s d next)

-- what is nothing here writes its mark, or the lookahead; the next is told whether a construct was opened here
abbrev pub epsilon_by : Option Mark → GrammarSymbol → (here : ℕ) → (opened : Bool) → WriterState → (Bool → Continuation)
    → List Symbol
epsilon_by (Some mark) item here opened c next =
    mark_symbol mark (line_by mark here c.last opened) ∷ next (opened_by (Some mark) opened) c
epsilon_by None GStatement here opened c next = write_lookahead c (next opened)
epsilon_by None GAfterName here opened c next = write_lookahead c (next opened)
epsilon_by None GBranch here opened c next = write_lookahead c (next opened)
epsilon_by None GAfterBranchName here opened c next = write_lookahead c (next opened)
epsilon_by None item here opened c next = next opened c

abbrev pub epsilon_on : GrammarSymbol → (here : ℕ) → (opened : Bool) → WriterState → (Bool → Continuation) → List Symbol
epsilon_on item here opened c next = epsilon_by (mark_of item) item here opened c next

abbrev pub at_line : WriterState → (line : ℕ) → WriterState
at_line c line = record { lookahead = c.lookahead; name = c.name; last = line; owns = c.owns }

abbrev pub StackContinuation : Type 0
StackContinuation = List StackEntry → Continuation

-- a production takes the symbol
abbrev pub expand_on : Production → (left : ℕ) → Symbol → StackContinuation → List StackEntry → WriterState → List Symbol
expand_on production left s next st c =
    let wanted = above (right_side_of production) (left_after production left) st in
    actions_on (actions_of production) s c (λ d. next wanted (at_line d s.line))

abbrev pub parse_action_on : ParseAction → StackEntry → Symbol → StackContinuation → List StackEntry
    → (below : Bool → Continuation) → (opened : Bool) → WriterState → List Symbol
parse_action_on Error wanted s next st below opened c = []
parse_action_on Epsilon wanted s next st below opened c = epsilon_on wanted.symbol s.line opened c below
parse_action_on (Expand production) wanted s next st below opened c = expand_on production wanted.left s next st c

-- a symbol is met by what is wanted
abbrev pub meet : Tag → Symbol → StackContinuation → List StackEntry → (opened : Bool) → WriterState → List Symbol
meet kind s next [] opened c = []
meet kind s next (wanted ∷ st) opened c =
    parse_action_on (parse_action wanted.symbol kind wanted.left) wanted s next st (meet kind s next st) opened c

-- what is written of all symbols that come, where the constructs that were opened before the first are told
abbrev pub pass3_from : (opened : Bool) → List Symbol → List StackEntry → WriterState → List Symbol
pass3_from opened [] st c = []
pass3_from opened (s ∷ w) st c = meet (sign_tag (sign_of s)) s (pass3_from false w) st opened c

abbrev pub pass3 : List Symbol → List StackEntry → WriterState → List Symbol
pass3 w st c = pass3_from false w st c

-- the first state, and all that is written of symbols
abbrev pub first_stack : List StackEntry
first_stack = above (OpenProgram ∷ GProgram ∷ ShutProgram ∷ GTextEnd ∷ []) 0 []

abbrev pub first_state : WriterState
first_state = record { lookahead = []; name = None; last = 0; owns = 0 }

abbrev pub pass3_text : List Symbol → List Symbol
pass3_text symbols = pass3 symbols first_stack first_state
