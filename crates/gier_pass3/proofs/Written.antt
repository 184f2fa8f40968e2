-- How what was written stays the beginning of what the pass writes of all that comes, and what it is at the end.
use Rattle.std.proofs.Common.{◌≡◌, ◌∙◌, Bool, true, false, List, [], ◌∷◌, ◌++◌, refl, sym, ap}
use Rattle.std.proofs.lemmas.Bool.{false≢true}
use Rattle.std.proofs.lemmas.List.{append_assoc, append-nil}
use Rattle.gier_symbol.specs.declared.symbol.Symbol.{Symbol}
use Rattle.gier_text.specs.TablesModel.{TablesModel}
use Rattle.gier_text.specs.Lists.{TableList}
use Rattle.gier_text.specs.Outbox.{outbox_symbols}
use Rattle.gier_tree.specs.Signs.{sign_of, sign_tag}
use Rattle.gier_tree.specs.Spell.{spell_program}
use Rattle.gier_tree.specs.Structure.{IsWritten}
use Rattle.gier_tree.specs.TextsOf.{text3}
use Rattle.gier_tree.specs.Trees.{Program}
use Rattle.gier_pass3.specs.declared.pass.Pass3.{Pass3}
use Rattle.gier_grammar.specs.declared.stack_entry.StackEntry.{StackEntry}
use Rattle.gier_pass3.specs.Found.{FaultInvariant}
use Rattle.gier_pass3.specs.Grammar.{StackInvariant}
use Rattle.gier_pass3.specs.Lists.{stack_in, lookahead_in, ready_by}
use Rattle.gier_text3.specs.PurePass.{WriterState, pass3, meet, pass3_text}
use Rattle.gier_pass3.specs.Refinement.{WritesPrefix, RefinesMeet, entries_by, entries_in, writer_state_in, writes_behind, unless}
use Rattle.gier_text3.proofs.Programs.{program_text}

pub items_of : (stopped : Bool) (t : TablesModel) (read : List Symbol) → FaultInvariant stopped t read → stopped ≡ false → StackInvariant t
items_of true t read h e = absurd (false≢true (sym e))
items_of false t read h e = h.items

unless_on : (b : Bool) (more : List Symbol) (st : List StackEntry) (c : WriterState) → unless b (pass3 more st c) ≡ writes_behind b more st c
unless_on true more st c = refl
unless_on false more st c = refl

-- the tables when what was ready was written
same_rest : (b : Bool) (more : List Symbol) (new : Pass3) (u v : TablesModel) → stack_in v ≡ stack_in u → lookahead_in v ≡ lookahead_in u → writes_behind b more (entries_in u) (writer_state_in new u) ≡ writes_behind b more (entries_in v) (writer_state_in new v)
same_rest b more new u v stack lookahead =
    ap (λ (l : TableList). writes_behind b more (entries_by l.words []) (writer_state_in new u)) (sym stack)
    ∙ ap (λ (l : TableList). writes_behind b more (entries_in v) (let c : WriterState = record { lookahead = outbox_symbols l; name = new.name; last = new.last; owns = new.owns } in c)) (sym lookahead)

writes_by : (stopped : Bool) (pass new : Pass3) (t u v : TablesModel) (read written : List Symbol) (s : Symbol) → pass.stopped ≡ stopped → ready_by t ≡ [] → (pass.stopped ≡ true → ready_by u ≡ ready_by t) → (pass.stopped ≡ true → new.stopped ≡ true) → (pass.stopped ≡ false → StackInvariant t → RefinesMeet (sign_tag (sign_of s)) s pass t new u) → (pass.stopped ≡ false → StackInvariant t) → stack_in v ≡ stack_in u → lookahead_in v ≡ lookahead_in u → WritesPrefix pass t read written → WritesPrefix new v (read ++ s ∷ []) (written ++ ready_by u)
writes_by true pass new t u v read written s is none silent stays wrote items stack lookahead h = λ more.
    ap pass3_text (append_assoc read (s ∷ []) more) ∙ h (s ∷ more)
    ∙ ap (λ b. written ++ writes_behind b (s ∷ more) (entries_in t) (writer_state_in pass t)) is
    ∙ ap (λ l. written ++ l) (sym (silent is ∙ none))
    ∙ sym (append-nil (written ++ ready_by u))
    ∙ ap (λ b. (written ++ ready_by u) ++ writes_behind b more (entries_in v) (writer_state_in new v)) (sym (stays is))
writes_by false pass new t u v read written s is none silent stays wrote items stack lookahead h = λ more.
    ap pass3_text (append_assoc read (s ∷ []) more) ∙ h (s ∷ more)
    ∙ ap (λ b. written ++ writes_behind b (s ∷ more) (entries_in t) (writer_state_in pass t)) is
    ∙ ap (λ l. written ++ (l ++ meet (sign_tag (sign_of s)) s (pass3 more) (entries_in t) false (writer_state_in pass t))) (sym none)
    ∙ ap (λ l. written ++ l) (wrote is (items is) (pass3 more))
    ∙ sym (append_assoc written (ready_by u) _)
    ∙ ap (λ l. (written ++ ready_by u) ++ l) (unless_on new.stopped more (entries_in u) (writer_state_in new u) ∙ same_rest new.stopped more new u v stack lookahead)

pub writes_more : (pass new : Pass3) (t u v : TablesModel) (read written : List Symbol) (s : Symbol) → ready_by t ≡ [] → (pass.stopped ≡ true → ready_by u ≡ ready_by t) → (pass.stopped ≡ true → new.stopped ≡ true) → (pass.stopped ≡ false → StackInvariant t → RefinesMeet (sign_tag (sign_of s)) s pass t new u) → (pass.stopped ≡ false → StackInvariant t) → stack_in v ≡ stack_in u → lookahead_in v ≡ lookahead_in u → WritesPrefix pass t read written → WritesPrefix new v (read ++ s ∷ []) (written ++ ready_by u)
writes_more pass new t u v read written s none silent stays wrote items stack lookahead h = writes_by pass.stopped pass new t u v read written s refl none silent stays wrote items stack lookahead h

nothing_more : (b : Bool) (st : List StackEntry) (c : WriterState) → writes_behind b [] st c ≡ []
nothing_more true st c = refl
nothing_more false st c = refl

-- at the end of a program's spelling its text 3 was written
pub whole_text : (pass : Pass3) (t : TablesModel) (read written : List Symbol) (program : Program) → ready_by t ≡ [] → WritesPrefix pass t read written → IsWritten program read → written ++ ready_by t ≡ text3 program
whole_text pass t read written program none h spelled =
    ap (λ l. written ++ l) (none ∙ sym (nothing_more pass.stopped (entries_in t) (writer_state_in pass t)))
    ∙ sym (h [])
    ∙ ap pass3_text (append-nil read ∙ sym spelled)
    ∙ program_text program
