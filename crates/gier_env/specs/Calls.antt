-- Calls (Report 4.7.3 and 3.2), as where they copy; actuals by name keep the environment of the call.
use Rattle.std.specs.Prelude.{ℕ, ℤ, List, [], ◌∷◌, Option, Some, None}
use Rattle.gier_agree.specs.declared.kind.Kind.{Kind}
use Rattle.gier_agree.specs.declared.kind.Kind.TheVariants as kind
use Rattle.gier_agree.specs.Kinds.{wanted_by}
use Rattle.gier_word.specs.declared.alarm.Alarm.TheVariants.{Parameters}
use Rattle.gier_tree.specs.declared.kind.Kind.{Kind as Standard}
use Rattle.gier_tree.specs.declared.kind.Kind.TheVariants.{OutText}
use Rattle.gier_meaning.specs.Tree.{AsExpression, AsLabel, Name, Expr, Alone, Quoted, Exprs, NoExprs, MoreExprs, Formal, Statement}
use Rattle.gier_meaning.specs.Live.{InProcedure}
use Rattle.gier_meaning.specs.State.{Entity, Kept, State}
use Rattle.gier_meaning.specs.Outcome.{Outcome, Gives, Alarmed, then_do, stops, senseless, either}
use Rattle.gier_meaning.specs.Accounts.{enter}
use Rattle.gier_meaning.specs.Standard.{standard_alone, standard_of, prints_text}
use Rattle.gier_meaning.specs.What.{kinds}
use Rattle.gier_meaning.specs.Room.{procedure_room}
use Rattle.gier_meaning.specs.Passing.{is_by_value, agree, actual_kinds, meant}
use Rattle.gier_meaning.specs.Bodies.{Body, ProcedureBody, SwitchList}
use Rattle.gier_meaning.specs.Calls.{standard_formals}
use Rattle.gier_env.specs.Env.{Env, Outermost, Denoted, AProcedure, AFormalProcedure, AText, AStandard, AnActual, denotation}
use Rattle.gier_env.specs.Computation.{Computation}
use Rattle.gier_env.specs.Closures.{Closure, what_of}
use Rattle.gier_env.specs.Tasks.{Passed, AValue, AMeaning, Next}
use Rattle.gier_env.specs.Names.{value_of}

-- an identifier that means nothing can be no actual; no tree without faults has one there
abbrev pub alone_handed : Kind → Name → (line : ℕ) → Option Denoted → Denoted
alone_handed kind name line None = AnActual AsExpression kind (Alone name line) Outermost
alone_handed kind name line (Some meaning) = meaning

-- an actual that is handed over as it is: an array, a switch, a string
abbrev pub as_it_is : Env → Kind → Expr → Denoted
as_it_is env kind (Alone name line) = alone_handed kind name line (denotation env name)
as_it_is env kind (Quoted bytes line) = AText bytes
as_it_is env kind e = AnActual AsExpression kind e env

-- a procedure that is handed over is called through a formal from then on
abbrev pub through_formal : Denoted → Denoted
through_formal (AProcedure n) = AFormalProcedure n
through_formal meaning = meaning

-- what a formal of a kind means then
abbrev pub passed_meaning : State Closure → Env → Kind → Expr → Denoted
passed_meaning s env kind.Integer e = AnActual (meant (what_of env s) e) kind.Integer e env
passed_meaning s env kind.Boolean e = AnActual (meant (what_of env s) e) kind.Boolean e env
passed_meaning s env kind.Label e = AnActual AsLabel kind.Label e env
passed_meaning s env kind.Procedure e = through_formal (as_it_is env kind.Procedure e)
passed_meaning s env kind.IntegerProcedure e = through_formal (as_it_is env kind.IntegerProcedure e)
passed_meaning s env kind.BooleanProcedure e = through_formal (as_it_is env kind.BooleanProcedure e)
passed_meaning s env formal e = as_it_is env formal e

-- at the call of a formal procedure a formal by value is first taken as one by name
abbrev pub passed_meanings : State Closure → Env → List Kind → Exprs → List Denoted
passed_meanings s env [] es = []
passed_meanings s env (formal ∷ formals) NoExprs = []
passed_meanings s env (formal ∷ formals) (MoreExprs e es) =
    passed_meaning s env (wanted_by formal) e ∷ passed_meanings s env formals es

abbrev pub standard_passed : Standard → List Passed → (line : ℕ) → Computation ℤ
standard_passed standard (AValue value ∷ []) line live s = standard_of standard value line live s
standard_passed OutText (AMeaning (AText bytes) ∷ []) line live s = prints_text bytes s
standard_passed _ _ line live s = senseless line live s

abbrev pub standard_call : Standard → Exprs → (List Kind → State Closure → Outcome Closure (List Passed)) → (line : ℕ)
    → Computation ℤ
standard_call standard NoExprs handed line live s = standard_alone standard line live s
standard_call standard (MoreExprs e es) handed line live s =
    then_do (handed (standard_formals standard) s) (λ passed s1. standard_passed standard passed line live s1)

module _ (limit : ℕ) where
  -- a procedure is activated; what encloses it is where it is declared
  abbrev pub activation : Next → (own : ℕ) → Kind → List Formal → Statement → Env → List Passed → (line : ℕ) → Computation ℤ
  activation next own kind formals body home passed line live s =
      enter limit (InProcedure line) (procedure_room (what_of home s) kind formals body) line live s
      (λ live1 s1. next.procedure own kind formals body home passed live1 s1)

  -- what is meant comes to this for a formal: its value, or itself
  abbrev pub evaluated_one : Next → Kind → Denoted → (line : ℕ) → Computation Passed
  evaluated_one next formal meaning line live s =
      either (is_by_value formal) s
      (λ s1. then_do (value_of limit next (Some meaning) line live s1) (λ value s2. Gives (AValue value) s2))
      (λ s1. Gives (AMeaning meaning) s1)

  abbrev pub evaluated : Next → List Kind → List Denoted → (line : ℕ) → Computation (List Passed)
  evaluated next [] meanings line live s = Gives [] s
  evaluated next (formal ∷ formals) [] line live s = Gives [] s
  evaluated next (formal ∷ formals) (meaning ∷ meanings) line live s =
      then_do (evaluated_one next formal meaning line live s) (λ passed s1.
      then_do (evaluated next formals meanings line live s1) (λ rest s2. Gives (passed ∷ rest) s2))

  abbrev pub formal_body_call : Next → Body → (home : Env) → Exprs → (here : Env) → (line : ℕ) → Computation ℤ
  formal_body_call next (ProcedureBody own kind formals body) home actuals here line live s =
      either (agree (kinds formals) (actual_kinds (what_of here s) actuals)) s
      (λ s1. then_do (evaluated next (kinds formals) (passed_meanings s1 here (kinds formals) actuals) line live s1)
      (λ passed s2. activation next own kind formals body home passed line live s2))
      (λ s1. stops (Alarmed Parameters) line live s1)
  formal_body_call next (SwitchList elements) home actuals here line live s = senseless line live s

  abbrev pub formal_call : Next → Entity Closure → Exprs → (here : Env) → (line : ℕ) → Computation ℤ
  formal_call next (Kept closure) actuals here line live s =
      formal_body_call next closure.body closure.home actuals here line live s
  formal_call next _ actuals here line live s = senseless line live s

  abbrev pub declared_body_call : Next → Body → (home : Env) → (List Kind → State Closure → Outcome Closure (List Passed))
      → (line : ℕ) → Computation ℤ
  declared_body_call next (ProcedureBody own kind formals body) home handed line live s =
      then_do (handed (kinds formals) s) (λ passed s1. activation next own kind formals body home passed line live s1)
  declared_body_call next (SwitchList elements) home handed line live s = senseless line live s

  -- `handed` hands the actuals over to formals of these kinds
  abbrev pub declared_call : Next → Entity Closure → (List Kind → State Closure → Outcome Closure (List Passed)) → (line : ℕ)
      → Computation ℤ
  declared_call next (Kept closure) handed line live s = declared_body_call next closure.body closure.home handed line live s
  declared_call next _ handed line live s = senseless line live s

  abbrev pub call : Next → Option Denoted → Exprs → (here : Env) → (List Kind → State Closure → Outcome Closure (List Passed))
      → (line : ℕ) → Computation ℤ
  call next (Some (AProcedure n)) actuals here handed line live s = declared_call next (s.store n) handed line live s
  call next (Some (AFormalProcedure n)) actuals here handed line live s = formal_call next (s.store n) actuals here line live s
  call next (Some (AStandard standard)) actuals here handed line live s = standard_call standard actuals handed line live s
  call next _ actuals here handed line live s = senseless line live s
