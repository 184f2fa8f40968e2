-- Calls (Report 4.7.3 and 3.2). A declared procedure's actuals are handed over from left to right. At the call of a formal
-- procedure it is tested first whether the actuals agree with the formals; then all of integer, Boolean or label kind become
-- actuals by name, and those of formals by value are evaluated from left to right.
use Rattle.std.specs.Prelude.{ℕ, ℤ, List, [], ◌∷◌}
use Rattle.gier_agree.specs.declared.kind.Kind.{Kind}
use Rattle.gier_agree.specs.declared.kind.Kind.TheVariants as kind
use Rattle.gier_agree.specs.Kinds.{wanted_by}
use Rattle.gier_word.specs.declared.alarm.Alarm.TheVariants.{Parameters}
use Rattle.gier_tree.specs.declared.kind.Kind.{Kind as Standard}
use Rattle.gier_tree.specs.declared.kind.Kind.TheVariants.{OutText}
use Rattle.gier_meaning.specs.Tree.{Identifier, AsExpression, AsLabel, Name, AProcedure, AFormalProcedure, AText, AStandard}
use Rattle.gier_meaning.specs.Tree.{AnActual, Expr, Alone, Quoted, Exprs, NoExprs, MoreExprs, Formal, Statement}
use Rattle.gier_meaning.specs.Live.{InProcedure}
use Rattle.gier_meaning.specs.State.{Entity, Kept, State}
use Rattle.gier_meaning.specs.Outcome.{Outcome, Gives, Alarmed, then_do, stops, senseless, either}
use Rattle.gier_meaning.specs.Accounts.{enter}
use Rattle.gier_meaning.specs.Standard.{standard_alone, standard_of, prints_text}
use Rattle.gier_meaning.specs.What.{What, kinds}
use Rattle.gier_meaning.specs.Room.{procedure_room}
use Rattle.gier_meaning.specs.Passing.{is_by_value, agree, actual_kinds, meant}
use Rattle.gier_meaning.specs.Computation.{Computation}
use Rattle.gier_meaning.specs.Bodies.{Body, ProcedureBody}
use Rattle.gier_meaning.specs.Tasks.{Passed, AValue, AName, Next}
use Rattle.gier_meaning.specs.Names.{what_of, value_of}

-- an identifier that nothing replaced can be no actual; no tree without faults has one there
abbrev pub alone_handed : Kind → Name → (line : ℕ) → Name
alone_handed kind (Identifier x) line = AnActual AsExpression kind (Alone (Identifier x) line)
alone_handed kind name line = name

-- an actual that is handed over as it is: an array, a switch, a string
abbrev pub as_it_is : Kind → Expr → Name
as_it_is kind (Alone name line) = alone_handed kind name line
as_it_is kind (Quoted bytes line) = AText bytes
as_it_is kind e = AnActual AsExpression kind e

-- a procedure that is handed over is called through a formal from then on
abbrev pub through_formal : Name → Name
through_formal (AProcedure n) = AFormalProcedure n
through_formal name = name

-- the name that replaces a formal of a kind
abbrev pub passed_name : (Name → What) → Kind → Expr → Name
passed_name what kind.Integer e = AnActual (meant what e) kind.Integer e
passed_name what kind.Boolean e = AnActual (meant what e) kind.Boolean e
passed_name what kind.Label e = AnActual AsLabel kind.Label e
passed_name what kind.Procedure e = through_formal (as_it_is kind.Procedure e)
passed_name what kind.IntegerProcedure e = through_formal (as_it_is kind.IntegerProcedure e)
passed_name what kind.BooleanProcedure e = through_formal (as_it_is kind.BooleanProcedure e)
passed_name what formal e = as_it_is formal e

-- at the call of a formal procedure a formal by value is first taken as one by name
abbrev pub passed_names : (Name → What) → List Kind → Exprs → List Name
passed_names what [] es = []
passed_names what (formal ∷ formals) NoExprs = []
passed_names what (formal ∷ formals) (MoreExprs e es) = passed_name what (wanted_by formal) e ∷ passed_names what formals es

-- the formals of the standard procedures that have one
abbrev pub standard_formals : Standard → List Kind
standard_formals OutText = kind.String ∷ []
standard_formals _ = kind.IntegerByValue ∷ []

abbrev pub standard_passed : Standard → List Passed → (line : ℕ) → Computation ℤ
standard_passed standard (AValue value ∷ []) line live s = standard_of standard value line live s
standard_passed OutText (AName (AText bytes) ∷ []) line live s = prints_text bytes s
standard_passed _ _ line live s = senseless line live s

abbrev pub standard_call : Standard → Exprs → (List Kind → State Body → Outcome Body (List Passed)) → (line : ℕ) → Computation ℤ
standard_call standard NoExprs handed line live s = standard_alone standard line live s
standard_call standard (MoreExprs e es) handed line live s =
    then_do (handed (standard_formals standard) s) (λ passed s1. standard_passed standard passed line live s1)

module _ (limit : ℕ) where
  -- a procedure is activated
  abbrev pub activation : Next → (own : ℕ) → Kind → List Formal → Statement → List Passed → (line : ℕ) → Computation ℤ
  activation next own kind formals body passed line live s =
      enter limit (InProcedure line) (procedure_room (what_of s) kind formals body) line live s
      (λ live1 s1. next.procedure own kind formals body passed live1 s1)

  -- what a name comes to for a formal: its value, or itself
  abbrev pub evaluated_one : Next → Kind → Name → (line : ℕ) → Computation Passed
  evaluated_one next formal name line live s =
      either (is_by_value formal) s
      (λ s1. then_do (value_of limit next name line live s1) (λ value s2. Gives (AValue value) s2))
      (λ s1. Gives (AName name) s1)

  abbrev pub evaluated : Next → List Kind → List Name → (line : ℕ) → Computation (List Passed)
  evaluated next [] names line live s = Gives [] s
  evaluated next (formal ∷ formals) [] line live s = Gives [] s
  evaluated next (formal ∷ formals) (name ∷ names) line live s =
      then_do (evaluated_one next formal name line live s) (λ passed s1.
      then_do (evaluated next formals names line live s1) (λ rest s2. Gives (passed ∷ rest) s2))

  abbrev pub formal_call : Next → Entity Body → Exprs → (line : ℕ) → Computation ℤ
  formal_call next (Kept (ProcedureBody own kind formals body)) actuals line live s =
      either (agree (kinds formals) (actual_kinds (what_of s) actuals)) s
      (λ s1. then_do (evaluated next (kinds formals) (passed_names (what_of s1) (kinds formals) actuals) line live s1)
      (λ passed s2. activation next own kind formals body passed line live s2))
      (λ s1. stops (Alarmed Parameters) line live s1)
  formal_call next _ actuals line live s = senseless line live s

  -- `handed` hands the actuals over to formals of these kinds
  abbrev pub declared_call : Next → Entity Body → (List Kind → State Body → Outcome Body (List Passed)) → (line : ℕ) → Computation ℤ
  declared_call next (Kept (ProcedureBody own kind formals body)) handed line live s =
      then_do (handed (kinds formals) s) (λ passed s1. activation next own kind formals body passed line live s1)
  declared_call next _ handed line live s = senseless line live s

  abbrev pub call : Next → Name → Exprs → (List Kind → State Body → Outcome Body (List Passed)) → (line : ℕ) → Computation ℤ
  call next (AProcedure n) actuals handed line live s = declared_call next (s.store n) handed line live s
  call next (AFormalProcedure n) actuals handed line live s = formal_call next (s.store n) actuals line live s
  call next (AStandard standard) actuals handed line live s = standard_call standard actuals handed line live s
  call next _ actuals handed line live s = senseless line live s
