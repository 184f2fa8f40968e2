-- How the pass follows the grammar: while grammar symbols are nothing before a symbol, when it takes or refuses one, and over all that it reads.
use Rattle.std.proofs.Common.{◌≡◌, ◌∙◌, ℕ, Bool, true, false, List, [], ◌∷◌, ◌++◌, length, refl, sym, ap, subst}
use Rattle.std.specs.Prelude.{None, Some}
use Rattle.std.proofs.lemmas.Bool.{false≢true}
use Rattle.std.proofs.lemmas.List.{append_assoc, append-nil}
use Rattle.gier_symbol.specs.declared.symbol.Symbol.{Symbol}
use Rattle.gier_symbol.specs.declared.tag.Tag.{Tag}
use Rattle.gier_text.specs.declared.fault.Fault.{Fault}
use Rattle.gier_text.specs.TablesModel.{TablesModel}
use Rattle.gier_tree.specs.Signs.{Sign, sign_of, sign_tag}
use Rattle.gier_tree.specs.Wanted.{WantProgram}
use Rattle.gier_tree.specs.Structure.{step, step_sign, fault_on, first_refused, structure_fault}
use Rattle.gier_grammar.specs.declared.production.Production.{Production}
use Rattle.gier_grammar.specs.declared.stack_entry.StackEntry.{StackEntry}
use Rattle.gier_grammar.specs.declared.parse_table.ParseAction.{ParseAction}
use Rattle.gier_grammar.specs.declared.parse_table.ParseAction.TheVariants.{Error, Epsilon, Expand}
use Rattle.gier_grammar.specs.Productions.{right_side_of, left_after}
use Rattle.gier_grammar.specs.ParseTable.{parse_action}
use Rattle.gier_pass3.specs.Lists.{stack_in}
use Rattle.gier_pass3.specs.Grammar.{wanted_above, all_above, AreAbove, read_words, wanted_in, StackInvariant, Pops}
use Rattle.gier_pass3.specs.Found.{faults_of, IsRefused, AreFound, GoesOn, FaultInvariant, Passes, Takes, Follows}
use Rattle.gier_pass3.proofs.Rows.{IsRow, row, row_taken, row_above, same_wants}

-- no word is on the stack
pub none_wanted : (t : TablesModel) → (stack_in t).words ≡ [] → wanted_in t ≡ []
none_wanted t e = ap (λ l. read_words l []) e

pub no_items : (t : TablesModel) → (stack_in t).words ≡ [] → StackInvariant t
no_items t e = rw e tt

-- before a symbol
pub none_passed : (kind : Tag) (t : TablesModel) → StackInvariant t → Passes kind t t
none_passed kind t h = record { items = h; same = λ sign line e. refl }

-- the row of a grammar symbol that was popped, for the sign of a symbol of this kind
row_of : (kind : Tag) (u v : TablesModel) (next : StackEntry) (d : ParseAction) (sign : Sign) (line : ℕ) → Pops (wanted_in u) (Some next) v → parse_action next.symbol kind next.left ≡ d → sign_tag sign ≡ kind → IsRow d sign line next.left (wanted_in u) (wanted_in v)
row_of kind u v next d sign line pops is e =
    let at : IsRow (parse_action next.symbol (sign_tag sign) next.left) sign line next.left (wanted_above next.symbol next.left (wanted_in v)) (wanted_in v) = row sign next.symbol line next.left (wanted_in v) pops.1 in
    let here = subst (λ k. IsRow (parse_action next.symbol k next.left) sign line next.left (wanted_above next.symbol next.left (wanted_in v)) (wanted_in v)) e at in
    let so = subst (λ x. IsRow x sign line next.left (wanted_above next.symbol next.left (wanted_in v)) (wanted_in v)) is here in
    subst (λ w. IsRow d sign line next.left w (wanted_in v)) (sym pops.0) so

pub one_passed : (kind : Tag) (t u v w : TablesModel) (next : StackEntry) → Passes kind t u → Pops (wanted_in u) (Some next) v → parse_action next.symbol kind next.left ≡ Epsilon → stack_in w ≡ stack_in v → Passes kind t w
one_passed kind t u v w next before pops is stack = record {
  items = rw stack pops.2;
  same = λ sign line e. before.same sign line e ∙ row_of kind u v next Epsilon sign line pops is e ∙ ap (λ l. step_sign sign line (read_words l.words [])) (sym stack);
}

pub one_refused : (kind : Tag) (t u v : TablesModel) (next : StackEntry) (s : Symbol) → Passes kind t u → Pops (wanted_in u) (Some next) v → parse_action next.symbol kind next.left ≡ Error → sign_tag (sign_of s) ≡ kind → step s (wanted_in t) ≡ None
one_refused kind t u v next s before pops is e = before.same (sign_of s) s.line e ∙ row_of kind u v next Error (sign_of s) s.line pops is e

pub all_refused : (kind : Tag) (t u v : TablesModel) (s : Symbol) → Passes kind t u → Pops (wanted_in u) None v → sign_tag (sign_of s) ≡ kind → step s (wanted_in t) ≡ None
all_refused kind t u v s before pops e = before.same (sign_of s) s.line e ∙ ap (step_sign (sign_of s) s.line) pops

pub one_taken : (kind : Tag) (t u v w : TablesModel) (next : StackEntry) (production : Production) (s : Symbol) → Passes kind t u → Pops (wanted_in u) (Some next) v → parse_action next.symbol kind next.left ≡ Expand production → wanted_in w ≡ all_above (right_side_of production) (left_after production next.left) (wanted_in v) → (StackInvariant v → AreAbove (right_side_of production) (left_after production next.left) (wanted_in v) → StackInvariant w) → sign_tag (sign_of s) ≡ kind → Takes s t w
one_taken kind t u v w next production s before pops is right_side items e =
    let at = row_of kind u v next (Expand production) (sign_of s) s.line pops is e in
    let took = before.same (sign_of s) s.line e ∙ row_taken production (sign_of s) s.line next.left (wanted_in u) (wanted_in v) at in
    record {
      items = items pops.2 (row_above production (sign_of s) s.line next.left (wanted_in u) (wanted_in v) at);
      same = λ more. ap (λ o. fault_on o s.line (first_refused more)) took ∙ same_wants production next.left (wanted_in v) more ∙ ap (first_refused more) (sym right_side);
    }

-- over all that was read
pub found_first : (t : TablesModel) → t.faults ≡ [] → StackInvariant t → wanted_in t ≡ WantProgram ∷ [] → FaultInvariant false t []
found_first t none items right_side = record { none = none; items = items; same = λ more. ap (first_refused more) (sym right_side) }

no_fault : (t : TablesModel) (read : List Symbol) → GoesOn t read → structure_fault read ≡ None
no_fault t read h = ap structure_fault (sym (append-nil read)) ∙ h.same []

refused_more : (read : List Symbol) (line : ℕ) (old new : List Fault) (s : Symbol) → new ≡ old → IsRefused read line old → IsRefused (read ++ s ∷ []) line new
refused_more read line old new s e h = record {
  before = h.before;
  wrong = h.wrong;
  behind = h.behind ++ s ∷ [];
  whole = ap (λ l. l ++ s ∷ []) h.whole ∙ append_assoc h.before (h.wrong ∷ h.behind) (s ∷ []);
  begins = h.begins;
  refused = h.refused;
  told = e ∙ h.told;
}

joined : (read more : List Symbol) (s : Symbol) → structure_fault ((read ++ s ∷ []) ++ more) ≡ structure_fault (read ++ s ∷ more)
joined read more s = ap structure_fault (append_assoc read (s ∷ []) more)

pub found_more : (stopped new : Bool) (t u : TablesModel) (read : List Symbol) (s : Symbol) → FaultInvariant stopped t read → (stopped ≡ true → (new ≡ true) × (u.faults ≡ t.faults)) → (stopped ≡ false → u.faults ≡ faults_of new (length read) s.line) → (stopped ≡ false → StackInvariant t → Follows new s t u) → FaultInvariant new u (read ++ s ∷ [])
found_more true false t u read s h stays told follows = absurd (false≢true (stays refl).0)
found_more true true t u read s h stays told follows = record {
  line = h.line;
  refused = refused_more read h.line t.faults u.faults s (stays refl).1 h.refused;
  same = λ more. joined read more s ∙ h.same (s ∷ more);
}
found_more false true t u read s h stays told follows =
    let none = follows refl h.items in
    record {
      line = s.line;
      refused = record {
        before = read;
        wrong = s;
        behind = [];
        whole = refl;
        begins = no_fault t read h;
        refused = h.same (s ∷ []) ∙ ap (λ o. fault_on o s.line (first_refused [])) none;
        told = told refl;
      };
      same = λ more. joined read more s ∙ h.same (s ∷ more) ∙ ap (λ o. fault_on o s.line (first_refused more)) none;
    }
found_more false false t u read s h stays told follows =
    let takes = follows refl h.items in
    record {
      none = told refl;
      items = takes.items;
      same = λ more. joined read more s ∙ h.same (s ∷ more) ∙ takes.same more;
    }

pub found_kept : (stopped : Bool) (t u : TablesModel) (read : List Symbol) → stack_in u ≡ stack_in t → u.faults ≡ t.faults → FaultInvariant stopped t read → FaultInvariant stopped u read
found_kept true t u read stack faults h = record { line = h.line; refused = rw faults h.refused; same = h.same }
found_kept false t u read stack faults h = record {
  none = faults ∙ h.none;
  items = rw stack h.items;
  same = λ more. h.same more ∙ ap (λ l. first_refused more (read_words l.words [])) (sym stack);
}

pub found_whole : (stopped : Bool) (t : TablesModel) (read : List Symbol) → FaultInvariant stopped t read → AreFound (structure_fault read) read t.faults
found_whole true t read h = let e : structure_fault read ≡ Some h.line = ap structure_fault (sym (append-nil read)) ∙ h.same [] in rw e h.refused
found_whole false t read h = rw (no_fault t read h) h.none
