-- The items that are wanted behind several symbols: none where one of them is refused. A program is read where nothing is left.
use Rattle.std.proofs.Common.{◌≡◌, ◌∙◌, ℕ, Bool, true, false, List, [], ◌∷◌, ◌++◌, refl, sym, ap}
use Rattle.std.specs.Prelude.{Option, None, Some}
use Rattle.std.proofs.lemmas.Bool.{false≢true}
use Rattle.std.proofs.lemmas.Option.{none-some}
use Rattle.gier_symbol.specs.declared.symbol.Symbol.{Symbol}
use Rattle.gier_tree.specs.Signs.{Sign, sign_of}
use Rattle.gier_tree.specs.Trees.{Program}
use Rattle.gier_tree.specs.Spell.{spell_program}
use Rattle.gier_tree.specs.Wanted.{Item, WantProgram, Trees}
use Rattle.gier_tree.specs.Taking.{Act, Refuse, Pass, Push, act}
use Rattle.gier_tree.specs.Structure.{next_of, step, step_sign, fault_on, first_refused, with_tree, gather, build_act, build_at, build_end, build, first_tree, program_spelled}
use Rattle.gier_tree.proofs.ProgramsRead.{program_built}
use Rattle.gier_pass3.proofs.EntryWords.{some_same}

abbrev pub then_run : Option (List Item) → (List Item → Option (List Item)) → Option (List Item)
then_run None go_on = None
then_run (Some st) go_on = go_on st

abbrev pub run : List Symbol → List Item → Option (List Item)
run [] st = Some st
run (s ∷ w) st = then_run (step s st) (run w)

abbrev pub is_there : {T : Type 0} → Option T → Bool
is_there None = false
is_there (Some x) = true

abbrev pub is_empty : Option (List Item) → Bool
is_empty None = false
is_empty (Some []) = true
is_empty (Some (i ∷ st)) = false

-- there are trees where what is wanted can be read
abbrev there_by : ((st : List Item) → Option (Trees st)) → Option (List Item) → Bool
there_by next None = false
there_by next (Some st) = is_there (next st)

with_there : {T R : Type 0} (t : T) (o : Option R) → is_there (with_tree t o) ≡ is_there o
with_there t None = refl
with_there t (Some r) = refl

gather_there : {T : Type 0} (is st : List Item) (f : Trees is → T) (o : Option (Trees (is ++ st))) → is_there (gather is st f o) ≡ is_there o
gather_there is st f None = refl
gather_there is st f (Some ts) = refl

act_there : {T : Type 0} (a : Act T) (st : List Item) (next : (st : List Item) → Option (Trees st)) (below : Option (Trees st)) (o : Option (List Item)) → is_there below ≡ there_by next o → is_there (build_act a st next below) ≡ there_by next (next_of a st o)
act_there Refuse st next below o h = refl
act_there (Pass t) st next below o h = with_there t below ∙ h
act_there (Push is f) st next below o h = gather_there is st f (next (is ++ st))

at_there : (g : Sign) (l : ℕ) (next : (st : List Item) → Option (Trees st)) (st : List Item) → is_there (build_at g l next st) ≡ there_by next (step_sign g l st)
at_there g l next [] = refl
at_there g l next (i ∷ st) = act_there (act i g l) st next (build_at g l next st) (step_sign g l st) (at_there g l next st)

then_there : (w : List Symbol) (o : Option (List Item)) → ((st : List Item) → is_there (build w st) ≡ is_empty (run w st)) → there_by (build w) o ≡ is_empty (then_run o (run w))
then_there w None h = refl
then_there w (Some st) h = h st

end_there : (st : List Item) → is_there (build_end st) ≡ is_empty (Some st)
end_there [] = refl
end_there (i ∷ st) = refl

pub run_there : (w : List Symbol) (st : List Item) → is_there (build w st) ≡ is_empty (run w st)
run_there [] st = end_there st
run_there (s ∷ w) st = at_there (sign_of s) s.line (build w) st ∙ then_there w (step s st) (run_there w)

-- one list of symbols behind another
then_append : (o : Option (List Item)) (p w : List Symbol) → ((st : List Item) → run (p ++ w) st ≡ then_run (run p st) (run w)) → then_run o (run (p ++ w)) ≡ then_run (then_run o (run p)) (run w)
then_append None p w h = refl
then_append (Some st) p w h = h st

pub run_append : (p w : List Symbol) (st : List Item) → run (p ++ w) st ≡ then_run (run p st) (run w)
run_append [] w st = refl
run_append (s ∷ p) w st = then_append (step s st) p w (run_append p w)

-- nothing is refused where something is wanted at the end
none_on : (o : Option (List Item)) (l : ℕ) (w : List Symbol) (end : List Item) → ((st : List Item) → run w st ≡ Some end → first_refused w st ≡ None) → then_run o (run w) ≡ Some end → fault_on o l (first_refused w) ≡ None
none_on None l w end go h = absurd (none-some end h)
none_on (Some st) l w end go h = go st h

pub none_by : (w : List Symbol) (st end : List Item) → run w st ≡ Some end → first_refused w st ≡ None
none_by [] st end h = refl
none_by (s ∷ w) st end h = none_on (step s st) s.line w end (λ next e. none_by w next end e) h

some_on : (o : Option (List Item)) (l : ℕ) (w : List Symbol) → ((st : List Item) → first_refused w st ≡ None → (end : List Item) × (run w st ≡ Some end)) → fault_on o l (first_refused w) ≡ None → (end : List Item) × (then_run o (run w) ≡ Some end)
some_on None l w go h = absurd (none-some l (sym h))
some_on (Some st) l w go h = go st h

pub some_by : (w : List Symbol) (st : List Item) → first_refused w st ≡ None → (end : List Item) × (run w st ≡ Some end)
some_by [] st h = (st, refl)
some_by (s ∷ w) st h = some_on (step s st) s.line w (λ next e. some_by w next e) h

-- where a symbol is refused, something is wanted behind those before it, and the symbol isn't taken there
pub record Refusal (w : List Symbol) (st : List Item) (line : ℕ) : Type 0 where
  pub before : List Symbol
  pub wrong : Symbol
  pub behind : List Symbol
  pub end : List Item
  pub whole : w ≡ before ++ wrong ∷ behind
  pub runs : run before st ≡ Some end
  pub none : step wrong end ≡ None
  pub stands : line ≡ wrong.line

refusal_on : (o : Option (List Item)) (s : Symbol) (w : List Symbol) (st : List Item) (line : ℕ) → step s st ≡ o → ((next : List Item) → first_refused w next ≡ Some line → Refusal w next line) → fault_on o s.line (first_refused w) ≡ Some line → Refusal (s ∷ w) st line
refusal_on None s w st line e go h = record { before = []; wrong = s; behind = w; end = st; whole = refl; runs = refl; none = e; stands = some_same line s.line (sym h) }
refusal_on (Some next) s w st line e go h =
    let r = go next h in
    record {
      before = s ∷ r.before;
      wrong = r.wrong;
      behind = r.behind;
      end = r.end;
      whole = ap (λ l. s ∷ l) r.whole;
      runs = ap (λ o. then_run o (run r.before)) e ∙ r.runs;
      none = r.none;
      stands = r.stands;
    }

pub refusal : (w : List Symbol) (st : List Item) (line : ℕ) → first_refused w st ≡ Some line → Refusal w st line
refusal [] st line h = absurd (none-some line h)
refusal (s ∷ w) st line h = refusal_on (step s st) s w st line refl (λ next e. refusal w next line e) h

refused_on : (o : Option (List Item)) (l : ℕ) (p more : List Symbol) (line : ℕ) (end : List Item) → ((st : List Item) → run p st ≡ Some end → first_refused more st ≡ Some line) → then_run o (run p) ≡ Some end → fault_on o l (first_refused more) ≡ Some line
refused_on None l p more line end go h = absurd (none-some end h)
refused_on (Some st) l p more line end go h = go st h

pub refused_at : (before behind : List Symbol) (wrong : Symbol) (st end : List Item) → run before st ≡ Some end → step wrong end ≡ None → first_refused (before ++ wrong ∷ behind) st ≡ Some wrong.line
refused_at [] behind wrong st end h none = let e : st ≡ end = some_same st end h in ap (λ x. fault_on (step wrong x) wrong.line (first_refused behind)) e ∙ ap (λ o. fault_on o wrong.line (first_refused behind)) none
refused_at (s ∷ before) behind wrong st end h none = refused_on (step s st) s.line before (before ++ wrong ∷ behind) wrong.line end (λ next e. refused_at before behind wrong next end e none) h

-- a program is written where nothing is wanted at the end
empty_by : (o : Option (List Item)) → is_empty o ≡ true → o ≡ Some []
empty_by None h = absurd (false≢true h)
empty_by (Some []) h = refl
empty_by (Some (i ∷ st)) h = absurd (false≢true h)

tree_by : (o : Option (Trees (WantProgram ∷ []))) → is_there o ≡ true → (p : Program) × (first_tree o ≡ Some p)
tree_by None h = absurd (false≢true h)
tree_by (Some ts) h = (ts.0, refl)

pub program_of : (w : List Symbol) → run w (WantProgram ∷ []) ≡ Some [] → (p : Program) × (program_spelled w ≡ Some p)
program_of w h = tree_by (build w (WantProgram ∷ [])) (run_there w (WantProgram ∷ []) ∙ ap is_empty h)

pub run_program : (p : Program) → run (spell_program p) (WantProgram ∷ []) ≡ Some []
run_program p = empty_by (run (spell_program p) (WantProgram ∷ [])) (sym (run_there (spell_program p) (WantProgram ∷ [])) ∙ ap is_there (program_built p))

-- what begins a list that can be read leaves something wanted
begun_on : (o : Option (List Item)) (w : List Symbol) (end : List Item) → then_run o (run w) ≡ Some end → (next : List Item) × (o ≡ Some next)
begun_on None w end h = absurd (none-some end h)
begun_on (Some next) w end h = (next, refl)

pub begun : (p w : List Symbol) (st end : List Item) → run (p ++ w) st ≡ Some end → (next : List Item) × (run p st ≡ Some next)
begun p w st end h = begun_on (run p st) w end (sym (run_append p w st) ∙ h)
