-- How fields and tables stand to the pass as a pure function: the stack and state that they hold, and what each step of the code
-- writes of what the function writes.
use Rattle.std.specs.Prelude.{◌≡◌, ◌/◌, ◌%◌, ◌++◌, ℕ, Bool, true, false, List, [], ◌∷◌, Option, None, Some}
use Rattle.gier_symbol.specs.declared.symbol.Symbol.{Symbol}
use Rattle.gier_symbol.specs.declared.tag.Tag.{Tag}
use Rattle.gier_text.specs.TablesModel.{TablesModel}
use Rattle.gier_grammar.specs.declared.grammar_symbol.GrammarSymbol.{GrammarSymbol}
use Rattle.gier_grammar.specs.declared.grammar_symbol.Mark.{Mark}
use Rattle.gier_grammar.specs.declared.production.Production.{Production}
use Rattle.gier_grammar.specs.declared.stack_entry.StackEntry.{StackEntry}
use Rattle.gier_text3.specs.Marks.{mark_symbol, line_by, opened_by}
use Rattle.gier_text3.specs.PurePass.{WriterState, Continuation, StackContinuation, epsilon_on, expand_on, meet, pass3, pass3_text}
use Rattle.gier_pass3.specs.declared.pass.Pass3.{Pass3}
use Rattle.gier_pass3.specs.Grammar.{item_at}
use Rattle.gier_pass3.specs.Lists.{stack_in, lookahead_by, ready_by}

-- what stands on the stack; the last word is the next entry
abbrev pub entry_by : Option GrammarSymbol → (left : ℕ) → List StackEntry → List StackEntry
entry_by None left below = below
entry_by (Some item) left below = record { symbol = item; left = left } ∷ below

abbrev pub entries_by : List ℕ → (below : List StackEntry) → List StackEntry
entries_by [] below = below
entries_by (word ∷ words) below = entries_by words (entry_by (item_at (word % 256)) (word / 256) below)

abbrev pub entries_in : TablesModel → List StackEntry
entries_in t = entries_by (stack_in t).words []

abbrev pub writer_state_in : Pass3 → TablesModel → WriterState
writer_state_in pass t = record { lookahead = lookahead_by t; name = pass.name; last = pass.last; owns = pass.owns }

-- nothing is written any more where the fault was found
abbrev pub writes_behind : (stopped : Bool) → List Symbol → List StackEntry → WriterState → List Symbol
writes_behind true more st c = []
writes_behind false more st c = pass3 more st c

-- so much was written of what was read, and the rest is written of what comes
abbrev pub WritesPrefix : Pass3 → TablesModel → (read written : List Symbol) → Type 0
WritesPrefix pass t read written =
    (more : List Symbol) → pass3_text (read ++ more)
    ≡ written ++ writes_behind pass.stopped more (entries_in t) (writer_state_in pass t)

-- what this writes is made ready, and the rest is written of the new state
abbrev pub RefinesWriting : (WriterState → Continuation → List Symbol) → Pass3 → TablesModel → Pass3 → TablesModel → Type 0
RefinesWriting writing pass t new u =
    (next : Continuation) → ready_by t ++ writing (writer_state_in pass t) next ≡ ready_by u ++ next (writer_state_in new u)

-- the same where it is told whether a construct was opened at this symbol
abbrev pub RefinesTelling : (WriterState → (Bool → Continuation) → List Symbol) → (result : Bool)
    → Pass3 → TablesModel → Pass3 → TablesModel → Type 0
RefinesTelling writing result pass t new u =
    (next : Bool → Continuation) → ready_by t ++ writing (writer_state_in pass t) next
    ≡ ready_by u ++ next result (writer_state_in new u)

abbrev pub RefinesEpsilon : GrammarSymbol → (here : ℕ) → (opened : Bool) → (result : Bool)
    → Pass3 → TablesModel → Pass3 → TablesModel → Type 0
RefinesEpsilon item here opened result = RefinesTelling (epsilon_on item here opened) result

abbrev pub RefinesMark : Mark → (here : ℕ) → (opened : Bool) → (result : Bool)
    → Pass3 → TablesModel → Pass3 → TablesModel → Type 0
RefinesMark mark here opened result =
    RefinesTelling (λ c next. mark_symbol mark (line_by mark here c.last opened) ∷ next (opened_by (Some mark) opened) c) result

-- a production took the symbol
abbrev pub RefinesExpand : Production → (left : ℕ) → Symbol → Pass3 → TablesModel → Pass3 → TablesModel → Type 0
RefinesExpand production left s pass t new u =
    (next : StackContinuation) → ready_by t ++ expand_on production left s next (entries_in t) (writer_state_in pass t)
    ≡ ready_by u ++ next (entries_in u) (writer_state_in new u)

abbrev pub unless : Bool → List Symbol → List Symbol
unless true rest = []
unless false rest = rest

-- a symbol was met: nothing more is written where it was refused
abbrev pub RefinesMeet : Tag → Symbol → Pass3 → TablesModel → Pass3 → TablesModel → Type 0
RefinesMeet kind s pass t new u =
    (next : StackContinuation) → ready_by t ++ meet kind s next (entries_in t) false (writer_state_in pass t)
    ≡ ready_by u ++ unless new.stopped (next (entries_in u) (writer_state_in new u))

-- the next entry was taken away, or there was none
abbrev pub PopsStackEntry : (before : List StackEntry) → Option StackEntry → TablesModel → Type 0
PopsStackEntry before None t = before ≡ []
PopsStackEntry before (Some next) t = before ≡ next ∷ entries_in t
