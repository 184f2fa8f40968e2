-- The three lists of the pass: what is wanted next, what is looked ahead, and what is ready to be written.
use Rattle.std.specs.Prelude.{◌≡◌, ◌+◌, ◌%◌, ◌++◌, ℕ, zero, suc, List, [], length}
use Rattle.gier_symbol.specs.declared.symbol.Symbol.{Symbol}
use Rattle.gier_text.specs.TablesModel.{TablesModel}
use Rattle.gier_text.specs.Lists.{TableList, list_at, word_at}
use Rattle.gier_text.specs.Outbox.{outbox_symbols}
use Rattle.gier_grammar.specs.GrammarSymbols.{credit_at}

abbrev pub stack_in : TablesModel → TableList
stack_in t = list_at t.lists 0

abbrev pub lookahead_in : TablesModel → TableList
lookahead_in t = list_at t.lists 1

abbrev pub ready_in : TablesModel → TableList
ready_in t = list_at t.lists 2

-- what the first symbols of a stack may cost beyond the symbols that they take
abbrev pub credit_until : TableList → ℕ → ℕ
credit_until list zero = 0
credit_until list (suc at) = credit_until list at + credit_at (word_at list at 0 % 256)

abbrev pub credit_in : TableList → ℕ
credit_in list = credit_until list list.count

-- how many symbols are wanted, and what they may still write
abbrev pub depth : TablesModel → ℕ
depth t = (stack_in t).count

abbrev pub credit : TablesModel → ℕ
credit t = credit_in (stack_in t)

abbrev pub lookahead_by : TablesModel → List Symbol
lookahead_by t = outbox_symbols (lookahead_in t)

abbrev pub ready_by : TablesModel → List Symbol
ready_by t = outbox_symbols (ready_in t)

-- there are these three lists, and each entry of the last two is a symbol
pub record ListsInvariant (t : TablesModel) : Type 0 where
  pub lists : length t.lists ≡ 3
  pub stack : (stack_in t).width ≡ 1
  pub lookahead : (lookahead_in t).width ≡ 2
  pub ready : (ready_in t).width ≡ 2
  pub all_lookahead : (lookahead_in t).count ≡ length (lookahead_by t)
  pub all_ready : (ready_in t).count ≡ length (ready_by t)

-- the lists stay, with their room, and nothing but entries changes
pub record PreservesLists (old new : TablesModel) : Type 0 where
  pub lists : ListsInvariant new
  pub stack_room : (stack_in new).capacity ≡ (stack_in old).capacity
  pub lookahead_room : (lookahead_in new).capacity ≡ (lookahead_in old).capacity
  pub ready_room : (ready_in new).capacity ≡ (ready_in old).capacity
  pub limit : new.limit ≡ old.limit
  pub faults : new.faults ≡ old.faults

-- both queues of symbols stay
pub record PreservesQueues (old new : TablesModel) : Type 0 where
  pub lists : PreservesLists old new
  pub lookahead : lookahead_in new ≡ lookahead_in old
  pub ready : ready_in new ≡ ready_in old

-- symbols were made ready behind those that are
pub record AddsReady (symbols : List Symbol) (old new : TablesModel) : Type 0 where
  pub lists : PreservesLists old new
  pub stack : stack_in new ≡ stack_in old
  pub lookahead : lookahead_in new ≡ lookahead_in old
  pub ready : ready_by new ≡ ready_by old ++ symbols

-- symbols were put behind the lookahead
pub record AddsLookahead (symbols : List Symbol) (old new : TablesModel) : Type 0 where
  pub lists : PreservesLists old new
  pub stack : stack_in new ≡ stack_in old
  pub lookahead : lookahead_by new ≡ lookahead_by old ++ symbols
  pub ready : ready_in new ≡ ready_in old

-- the lookahead was emptied, and these symbols are ready
pub record EmptiesLookahead (symbols : List Symbol) (old new : TablesModel) : Type 0 where
  pub lists : PreservesLists old new
  pub stack : stack_in new ≡ stack_in old
  pub lookahead : lookahead_by new ≡ []
  pub ready : ready_by new ≡ symbols
