-- Expressions in an environment (Report 3): their values, addresses of variables, and what designational expressions give.
use Rattle.std.specs.Prelude.{Option, Some, ℕ, ℤ, pos, List, [], ◌∷◌}
use Rattle.gier_agree.specs.declared.kind.Kind.{Kind}
use Rattle.gier_meaning.specs.Tree.{Expr, Number, Logical, Alone, Subscripted, Called, Bracketed, Prefixed, Joined, IfExpr}
use Rattle.gier_meaning.specs.Tree.{Quoted, Exprs, NoExprs, MoreExprs}
use Rattle.gier_meaning.specs.Lines.{line_of}
use Rattle.gier_meaning.specs.Live.{Live}
use Rattle.gier_meaning.specs.State.{State}
use Rattle.gier_meaning.specs.Address.{Address, value_at}
use Rattle.gier_meaning.specs.Outcome.{Outcome, Gives, then_do, senseless, either}
use Rattle.gier_meaning.specs.Operators.{truth, is_true, apply_operator, apply_prefix}
use Rattle.gier_meaning.specs.Standard.{value_or_alarm}
use Rattle.gier_meaning.specs.Passing.{is_by_value}
use Rattle.gier_meaning.specs.Destinations.{Destination}
use Rattle.gier_env.specs.Env.{Env, Denoted, AProcedure, AFormalProcedure, AStandard, denotation, left_meaning}
use Rattle.gier_env.specs.Computation.{Computation}
use Rattle.gier_env.specs.Closures.{Closure}
use Rattle.gier_env.specs.Tasks.{Passed, AValue, AMeaning, Next}
use Rattle.gier_env.specs.Names.{value_of, address_of, destination_of, element_of, designator}
use Rattle.gier_env.specs.Calls.{passed_meaning, call}

-- no actuals are handed over to no formals
abbrev pub none_handed : (line : ℕ) → Live → List Kind → State Closure → Outcome Closure (List Passed)
none_handed line live [] s = Gives [] s
none_handed line live (formal ∷ formals) s = senseless line live s

module _ (limit : ℕ) where
  -- an identifier alone: a variable, a formal, or a call without actuals
  abbrev pub alone : Next → Option Denoted → Env → (line : ℕ) → Computation ℤ
  alone next (Some (AProcedure n)) env line live s =
      call limit next (Some (AProcedure n)) NoExprs env (none_handed line live) line live s
  alone next (Some (AFormalProcedure n)) env line live s =
      call limit next (Some (AFormalProcedure n)) NoExprs env (none_handed line live) line live s
  alone next (Some (AStandard standard)) env line live s =
      call limit next (Some (AStandard standard)) NoExprs env (none_handed line live) line live s
  alone next meaning env line live s = value_of limit next meaning line live s

  abbrev mutual
    pub value : Next → Expr → Env → Computation ℤ
    value next (Number n line) env live s = Gives (pos n) s
    value next (Logical b line) env live s = Gives (truth b) s
    value next (Alone name line) env live s = alone next (denotation env name) env line live s
    value next (Subscripted name line es) env live s =
        then_do (values next es env live s) (λ subscripts s1.
        then_do (element_of (denotation env name) subscripts line live s1) (λ address s2. Gives (value_at address s2) s2))
    value next (Called name line es) env live s =
        call limit next (denotation env name) es env (λ formals s1. handed next formals es env line live s1) line live s
    value next (Bracketed line e) env live s = value next e env live s
    value next (Prefixed op line e) env live s =
        then_do (value next e env live s) (λ a s1. value_or_alarm (apply_prefix op a) line live s1)
    value next (Joined e op line f) env live s =
        then_do (value next e env live s) (λ a s1.
        then_do (value next f env live s1) (λ b s2. value_or_alarm (apply_operator op a b) line live s2))
    value next (IfExpr line test e f) env live s =
        then_do (value next test env live s) (λ a s1.
        either (is_true a) s1 (λ s2. value next e env live s2) (λ s2. value next f env live s2))
    value next (Quoted bytes line) env live s = senseless line live s

    pub values : Next → Exprs → Env → Computation (List ℤ)
    values next NoExprs env live s = Gives [] s
    values next (MoreExprs e es) env live s =
        then_do (value next e env live s) (λ a s1.
        then_do (values next es env live s1) (λ rest s2. Gives (a ∷ rest) s2))

    -- actuals to formals of these kinds: those of formals by value are evaluated (Report 4.7.3.1)
    pub handed : Next → List Kind → Exprs → Env → (line : ℕ) → Computation (List Passed)
    handed next [] NoExprs env line live s = Gives [] s
    handed next (formal ∷ formals) NoExprs env line live s = senseless line live s
    handed next [] (MoreExprs e es) env line live s = senseless line live s
    handed next (formal ∷ formals) (MoreExprs e es) env line live s =
        then_do
        (either (is_by_value formal) s
        (λ s1. then_do (value next e env live s1) (λ a s2. Gives (AValue a) s2))
        (λ s1. Gives (AMeaning (passed_meaning s1 env formal e)) s1))
        (λ passed s1. then_do (handed next formals es env line live s1) (λ rest s2. Gives (passed ∷ rest) s2))

  -- of a variable, a subscripted variable or a formal by name (Report 4.2.3.1)
  abbrev pub address : Next → Expr → Env → Computation Address
  address next (Alone name line) env live s = address_of limit next (denotation env name) line live s
  address next (Subscripted name line es) env live s =
      then_do (values next es env live s) (λ subscripts s1. element_of (denotation env name) subscripts line live s1)
  address next e env live s = senseless (line_of e) live s

  -- a left part may also be a function's own identifier (Report 5.4.4)
  abbrev pub left_address : Next → Expr → Env → Computation Address
  left_address next (Alone name line) env live s = address_of limit next (left_meaning env name) line live s
  left_address next e env live s = address next e env live s

  abbrev pub addresses : Next → Exprs → Env → Computation (List Address)
  addresses next NoExprs env live s = Gives [] s
  addresses next (MoreExprs e es) env live s =
      then_do (left_address next e env live s) (λ a s1.
      then_do (addresses next es env live s1) (λ rest s2. Gives (a ∷ rest) s2))

  -- of a label, a label formal, a switch designator, or a conditional or bracketed expression of these (Report 3.5)
  abbrev pub destination : Next → Expr → Env → Computation Destination
  destination next (Alone name line) env live s = destination_of limit next (denotation env name) line live s
  destination next (Subscripted name line es) env live s =
      then_do (values next es env live s) (λ subscripts s1. designator limit next (denotation env name) subscripts line live s1)
  destination next (Bracketed line e) env live s = destination next e env live s
  destination next (IfExpr line test e f) env live s =
      then_do (value next test env live s) (λ a s1.
      either (is_true a) s1 (λ s2. destination next e env live s2) (λ s2. destination next f env live s2))
  destination next e env live s = senseless (line_of e) live s
