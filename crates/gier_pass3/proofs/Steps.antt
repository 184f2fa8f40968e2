-- What stands on the stack when a grammar symbol is put there or taken away, and what a symbol that is met writes.
use Rattle.std.proofs.Common.{◌≡◌, ◌<◌, ◌+◌, ◌/◌, ◌%◌, ◌∙◌, ℕ, zero, suc, Bool, true, false, List, [], ◌∷◌, ◌++◌, drop, get_or, length, refl, sym, ap, arith, add-one, length-append}
use Rattle.std.specs.Prelude.{Option, None, Some}
use Rattle.std.proofs.lemmas.Bool.{false≢true}
use Rattle.gier_symbol.specs.declared.symbol.Symbol.{Symbol}
use Rattle.gier_symbol.specs.declared.tag.Tag.{Tag}
use Rattle.gier_text.specs.TablesModel.{TablesModel}
use Rattle.gier_text.specs.Lists.{TableList}
use Rattle.gier_text.specs.Outbox.{outbox_symbols, outbox_symbols_until, symbol_at, if_any}
use Rattle.gier_grammar.specs.declared.grammar_symbol.GrammarSymbol.{GrammarSymbol}
use Rattle.gier_pass3.specs.declared.pass.Pass3.{Pass3}
use Rattle.gier_grammar.specs.declared.production.Action.{Action}
use Rattle.gier_grammar.specs.declared.production.Production.{Production}
use Rattle.gier_grammar.specs.declared.stack_entry.StackEntry.{StackEntry}
use Rattle.gier_grammar.specs.declared.parse_table.ParseAction.{ParseAction}
use Rattle.gier_grammar.specs.declared.parse_table.ParseAction.TheVariants.{Error, Epsilon, Expand}
use Rattle.gier_pass3.specs.Grammar.{item_at, word_of, read_words, IsItem, AreItems}
use Rattle.gier_pass3.specs.Lists.{stack_in, lookahead_in, ready_in, lookahead_by, ready_by}
use Rattle.gier_grammar.specs.ParseTable.{parse_action}
use Rattle.gier_text3.specs.PurePass.{WriterState, Continuation, StackContinuation, action_on, actions_on, expand_on, epsilon_on, parse_action_on, meet, first_line, with_owns}
use Rattle.gier_grammar.specs.StackEntries.{entry}
use Rattle.gier_pass3.specs.Refinement.{entry_by, entries_by, entries_in, writer_state_in, PopsStackEntry, unless, RefinesWriting, RefinesMeet, RefinesEpsilon, RefinesExpand}
use Rattle.gier_pass3.proofs.EntryWords.{at_word, word_left, items_less}

-- one word more
entries_more : (ws : List ℕ) (w : ℕ) (st : List StackEntry) → entries_by (ws ++ w ∷ []) st ≡ entry_by (item_at (w % 256)) (w / 256) (entries_by ws st)
entries_more [] w st = refl
entries_more (v ∷ ws) w st = entries_more ws w (entry_by (item_at (v % 256)) (v / 256) st)

entry_word : (i : GrammarSymbol) (left : ℕ) (st : List StackEntry) → entry_by (item_at (word_of i left % 256)) (word_of i left / 256) st ≡ entry i left ∷ st
entry_word i left st = rw (at_word i left, word_left i left) refl

pub entries_pushed : (old new : List ℕ) (w : ℕ) (i : GrammarSymbol) (left : ℕ) → new ≡ old ++ w ∷ [] → w ≡ word_of i left → entries_by new [] ≡ entry i left ∷ entries_by old []
entries_pushed old new w i left is e = ap (λ l. entries_by l []) is ∙ entries_more old w [] ∙ ap (λ v. entry_by (item_at (v % 256)) (v / 256) (entries_by old [])) e ∙ entry_word i left (entries_by old [])

entry_popped_by : (t : TablesModel) (ws : List ℕ) (w : ℕ) (found : Option GrammarSymbol) (result : Option StackEntry) → item_at (w % 256) ≡ found → ((item : GrammarSymbol) → item_at (w % 256) ≡ Some item → result ≡ Some (record { symbol = item; left = w / 256 })) → (stack_in t).words ≡ ws → IsItem found (read_words ws []) → PopsStackEntry (entry_by found (w / 256) (entries_by ws [])) result t
entry_popped_by t ws w None result e same is one = absurd one
entry_popped_by t ws w (Some item) result e same is one = rw (same item e, is) refl

pub entry_popped : (t : TablesModel) (ws words : List ℕ) (w : ℕ) (result : Option StackEntry) → words ≡ ws ++ w ∷ [] → ((item : GrammarSymbol) → item_at (w % 256) ≡ Some item → result ≡ Some (record { symbol = item; left = w / 256 })) → (stack_in t).words ≡ ws → AreItems words [] → PopsStackEntry (entries_by words []) result t
entry_popped t ws words w result whole same is items =
    let less = items_less ws w [] (rw (sym whole) items) in
    rw (whole, entries_more ws w []) (entry_popped_by t ws w (item_at (w % 256)) result refl same is less.1)

-- the first symbol that is looked ahead
first_in : (list : TableList) (n : ℕ) (s : Symbol) (name : Option Symbol) (other : ℕ) → symbol_at list 0 ≡ Some s → first_line (outbox_symbols_until list (suc n)) name other ≡ s.line
first_in list zero s name other e = rw e refl
first_in list (suc n) s name other e = first_more (outbox_symbols_until list (suc n)) (if_any (symbol_at list (suc n))) name other s (first_in list n s name other e) (some_first list n s e)
  where
    some_first : (list : TableList) (n : ℕ) (s : Symbol) → symbol_at list 0 ≡ Some s → 0 < length (outbox_symbols_until list (suc n))
    some_first list zero s e = rw e (omega arith)
    some_first list (suc n) s e = omega (arith, some_first list n s e, length-append (outbox_symbols_until list (suc n)) (if_any (symbol_at list (suc n))))

    first_more : (xs ys : List Symbol) (name : Option Symbol) (other : ℕ) (s : Symbol) → first_line xs name other ≡ s.line → 0 < length xs → first_line (xs ++ ys) name other ≡ s.line
    first_more [] ys name other s e lt = absurd (omega (arith, lt))
    first_more (x ∷ xs) ys name other s e lt = e

pub first_line_is : (list : TableList) (n : ℕ) (s : Symbol) (name : Option Symbol) (other : ℕ) → 0 < n → symbol_at list 0 ≡ Some s → s.line ≡ first_line (outbox_symbols_until list n) name other
first_line_is list zero s name other lt e = absurd (omega (arith, lt))
first_line_is list (suc n) s name other lt e = sym (first_in list n s name other e)

pub fewer_lookahead : (list : TableList) (n : ℕ) → 0 < n → symbol_at list 0 ≡ None → length (outbox_symbols_until list n) < n
fewer_lookahead list zero lt e = absurd (omega (arith, lt))
fewer_lookahead list (suc zero) lt e = rw e (omega arith)
fewer_lookahead list (suc (suc n)) lt e = omega (arith, fewer_lookahead list (suc n) (omega arith) e, length-append (outbox_symbols_until list (suc n)) (if_any (symbol_at list (suc n))), at_most_one (symbol_at list (suc n)))
  where
    at_most_one : (o : Option Symbol) → length (if_any o) < 2
    at_most_one None = omega arith
    at_most_one (Some s) = omega arith

-- one action more
actions_drop : (actions : List Action) (at : ℕ) (d : Action) (s : Symbol) (c : WriterState) (next : Continuation) → at < length actions → actions_on (drop at actions) s c next ≡ action_on (get_or actions at d) s c (λ e. actions_on (drop (suc at) actions) s e next)
actions_drop [] at d s c next lt = absurd (omega arith)
actions_drop (action ∷ actions) zero d s c next lt = refl
actions_drop (action ∷ actions) (suc at) d s c next lt = actions_drop actions at d s c next (omega arith)

pub actions_next : (actions : List Action) (at : ℕ) (d : Action) (s : Symbol) (c : WriterState) (next : Continuation) → at < length actions → actions_on (drop at actions) s c next ≡ action_on (get_or actions at d) s c (λ e. actions_on (drop (at + 1) actions) s e next)
actions_next actions at d s c next lt = rw add-one (actions_drop actions at d s c next lt)

-- a symbol is met by one grammar symbol
moved : (kind : Tag) (s : Symbol) (next : StackContinuation) (self : Pass3) (u v : TablesModel) (wanted : StackEntry) (d : ParseAction) (op : Bool) → entries_in u ≡ wanted ∷ entries_in v → lookahead_in v ≡ lookahead_in u → ready_in v ≡ ready_in u → parse_action wanted.symbol kind wanted.left ≡ d → ready_by u ++ meet kind s next (entries_in u) op (writer_state_in self u) ≡ ready_by v ++ parse_action_on d wanted s next (entries_in v) (meet kind s next (entries_in v)) op (writer_state_in self v)
moved kind s next self u v wanted d op entries lookahead ready is =
    ap (λ st. ready_by u ++ meet kind s next st op (writer_state_in self u)) entries
    ∙ ap (λ x. ready_by u ++ parse_action_on x wanted s next (entries_in v) (meet kind s next (entries_in v)) op (writer_state_in self u)) is
    ∙ ap (λ (l : TableList). outbox_symbols l ++ parse_action_on d wanted s next (entries_in v) (meet kind s next (entries_in v)) op (writer_state_in self u)) (sym ready)
    ∙ ap (λ (l : TableList). ready_by v ++ parse_action_on d wanted s next (entries_in v) (meet kind s next (entries_in v)) op (let c : WriterState = record { lookahead = outbox_symbols l; name = self.name; last = self.last; owns = self.owns } in c)) (sym lookahead)

pub met_passed : (kind : Tag) (s : Symbol) (next : StackContinuation) (self new : Pass3) (u v w : TablesModel) (wanted : StackEntry) (op result : Bool) → entries_in u ≡ wanted ∷ entries_in v → lookahead_in v ≡ lookahead_in u → ready_in v ≡ ready_in u → parse_action wanted.symbol kind wanted.left ≡ Epsilon → RefinesEpsilon wanted.symbol s.line op result self v new w → stack_in w ≡ stack_in v → ready_by u ++ meet kind s next (entries_in u) op (writer_state_in self u) ≡ ready_by w ++ meet kind s next (entries_in w) result (writer_state_in new w)
met_passed kind s next self new u v w wanted op result entries lookahead ready is wrote stack =
    moved kind s next self u v wanted Epsilon op entries lookahead ready is
    ∙ wrote (meet kind s next (entries_in v))
    ∙ ap (λ (l : TableList). ready_by w ++ meet kind s next (entries_by l.words []) result (writer_state_in new w)) (sym stack)

going : (b : Bool) (x : List Symbol) → b ≡ false → x ≡ unless b x
going true x e = absurd (false≢true (sym e))
going false x e = refl

pub met_taken : (kind : Tag) (s : Symbol) (next : StackContinuation) (self new : Pass3) (u v w : TablesModel) (wanted : StackEntry) (production : Production) (op : Bool) → entries_in u ≡ wanted ∷ entries_in v → lookahead_in v ≡ lookahead_in u → ready_in v ≡ ready_in u → parse_action wanted.symbol kind wanted.left ≡ Expand production → RefinesExpand production wanted.left s self v new w → new.stopped ≡ false → ready_by u ++ meet kind s next (entries_in u) op (writer_state_in self u) ≡ ready_by w ++ unless new.stopped (next (entries_in w) (writer_state_in new w))
met_taken kind s next self new u v w wanted production op entries lookahead ready is wrote goes =
    moved kind s next self u v wanted (Expand production) op entries lookahead ready is
    ∙ wrote next
    ∙ ap (λ x. ready_by w ++ x) (going new.stopped (next (entries_in w) (writer_state_in new w)) goes)

stopping : (b : Bool) (x : List Symbol) → b ≡ true → [] ≡ unless b x
stopping true x e = refl
stopping false x e = absurd (false≢true e)

pub met_refused : (kind : Tag) (s : Symbol) (next : StackContinuation) (self new : Pass3) (u v w : TablesModel) (wanted : StackEntry) (op : Bool) → entries_in u ≡ wanted ∷ entries_in v → lookahead_in v ≡ lookahead_in u → ready_in v ≡ ready_in u → parse_action wanted.symbol kind wanted.left ≡ Error → ready_by w ≡ ready_by v → new.stopped ≡ true → ready_by u ++ meet kind s next (entries_in u) op (writer_state_in self u) ≡ ready_by w ++ unless new.stopped (next (entries_in w) (writer_state_in new w))
met_refused kind s next self new u v w wanted op entries lookahead ready is same stops =
    moved kind s next self u v wanted Error op entries lookahead ready is
    ∙ ap (λ x. x ++ []) (sym same)
    ∙ ap (λ x. ready_by w ++ x) (stopping new.stopped (next (entries_in w) (writer_state_in new w)) stops)

pub met_nothing : (kind : Tag) (s : Symbol) (next : StackContinuation) (self new : Pass3) (u v w : TablesModel) (op : Bool) → entries_in u ≡ [] → ready_in v ≡ ready_in u → ready_by w ≡ ready_by v → new.stopped ≡ true → ready_by u ++ meet kind s next (entries_in u) op (writer_state_in self u) ≡ ready_by w ++ unless new.stopped (next (entries_in w) (writer_state_in new w))
met_nothing kind s next self new u v w op entries ready same stops =
    ap (λ st. ready_by u ++ meet kind s next st op (writer_state_in self u)) entries
    ∙ ap (λ (l : TableList). outbox_symbols l ++ []) (sym ready)
    ∙ ap (λ x. x ++ []) (sym same)
    ∙ ap (λ x. ready_by w ++ x) (stopping new.stopped (next (entries_in w) (writer_state_in new w)) stops)

-- an own quantity's number is written, and the next one is one more
pub wrote_own : (next : Continuation) (pass new : Pass3) (t u : TablesModel) (s written : Symbol) (o : ℕ) → s ≡ written → o ≡ suc pass.owns → RefinesWriting (λ c then. s ∷ then c) pass t new u → ready_by t ++ written ∷ next (with_owns (writer_state_in pass t) (suc pass.owns)) ≡ ready_by u ++ next (with_owns (writer_state_in new u) o)
wrote_own next pass new t u s written o e f wrote =
    ap (λ x. ready_by t ++ x ∷ next (with_owns (writer_state_in pass t) (suc pass.owns))) (sym e)
    ∙ wrote (λ d. next (with_owns d (suc pass.owns)))
    ∙ ap (λ a. ready_by u ++ next (with_owns (writer_state_in new u) a)) (sym f)
