-- Expressions (Report 3): their values, addresses of variables, and what designational expressions give. Operands, subscripts
-- and actuals are taken strictly from left to right.
use Rattle.std.specs.Prelude.{ℕ, ℤ, pos, List, [], ◌∷◌}
use Rattle.gier_agree.specs.declared.kind.Kind.{Kind}
use Rattle.gier_meaning.specs.Tree.{Name, AProcedure, AFormalProcedure, AStandard, Expr, Number, Logical, Alone, Subscripted}
use Rattle.gier_meaning.specs.Tree.{Called, Bracketed, Prefixed, Joined, IfExpr, Quoted, Exprs, NoExprs, MoreExprs}
use Rattle.gier_meaning.specs.Lines.{line_of}
use Rattle.gier_meaning.specs.Live.{Live}
use Rattle.gier_meaning.specs.State.{State}
use Rattle.gier_meaning.specs.Address.{Address, value_at}
use Rattle.gier_meaning.specs.Outcome.{Outcome, Gives, then_do, senseless, either}
use Rattle.gier_meaning.specs.Operators.{truth, is_true, apply_operator, apply_prefix}
use Rattle.gier_meaning.specs.Standard.{value_or_alarm}
use Rattle.gier_meaning.specs.Passing.{is_by_value}
use Rattle.gier_meaning.specs.Computation.{Computation}
use Rattle.gier_meaning.specs.Bodies.{Body}
use Rattle.gier_meaning.specs.Destinations.{Destination}
use Rattle.gier_meaning.specs.Tasks.{Passed, AValue, AName, Next}
use Rattle.gier_meaning.specs.Names.{what_of, value_of, address_of, destination_of, element_of, designator}
use Rattle.gier_meaning.specs.Calls.{passed_name, call}

-- no actuals are handed over to no formals
abbrev pub none_handed : (line : ℕ) → Live → List Kind → State Body → Outcome Body (List Passed)
none_handed line live [] s = Gives [] s
none_handed line live (formal ∷ formals) s = senseless line live s

module _ (limit : ℕ) where
  -- an identifier alone: a variable, a formal, or a call without actuals
  abbrev pub alone : Next → Name → (line : ℕ) → Computation ℤ
  alone next (AProcedure n) line live s = call limit next (AProcedure n) NoExprs (none_handed line live) line live s
  alone next (AFormalProcedure n) line live s = call limit next (AFormalProcedure n) NoExprs (none_handed line live) line live s
  alone next (AStandard standard) line live s = call limit next (AStandard standard) NoExprs (none_handed line live) line live s
  alone next name line live s = value_of limit next name line live s

  abbrev mutual
    pub value : Next → Expr → Computation ℤ
    value next (Number n line) live s = Gives (pos n) s
    value next (Logical b line) live s = Gives (truth b) s
    value next (Alone name line) live s = alone next name line live s
    value next (Subscripted name line es) live s =
        then_do (values next es live s) (λ subscripts s1.
        then_do (element_of name subscripts line live s1) (λ address s2. Gives (value_at address s2) s2))
    value next (Called name line es) live s =
        call limit next name es (λ formals s1. handed next formals es line live s1) line live s
    value next (Bracketed line e) live s = value next e live s
    value next (Prefixed op line e) live s = then_do (value next e live s) (λ a s1. value_or_alarm (apply_prefix op a) line live s1)
    value next (Joined e op line f) live s =
        then_do (value next e live s) (λ a s1.
        then_do (value next f live s1) (λ b s2. value_or_alarm (apply_operator op a b) line live s2))
    value next (IfExpr line test e f) live s =
        then_do (value next test live s) (λ a s1.
        either (is_true a) s1 (λ s2. value next e live s2) (λ s2. value next f live s2))
    value next (Quoted bytes line) live s = senseless line live s

    pub values : Next → Exprs → Computation (List ℤ)
    values next NoExprs live s = Gives [] s
    values next (MoreExprs e es) live s =
        then_do (value next e live s) (λ a s1.
        then_do (values next es live s1) (λ rest s2. Gives (a ∷ rest) s2))

    -- actuals to formals of these kinds: those of formals by value are evaluated (Report 4.7.3.1)
    pub handed : Next → List Kind → Exprs → (line : ℕ) → Computation (List Passed)
    handed next [] NoExprs line live s = Gives [] s
    handed next (formal ∷ formals) NoExprs line live s = senseless line live s
    handed next [] (MoreExprs e es) line live s = senseless line live s
    handed next (formal ∷ formals) (MoreExprs e es) line live s =
        then_do
        (either (is_by_value formal) s
        (λ s1. then_do (value next e live s1) (λ a s2. Gives (AValue a) s2))
        (λ s1. Gives (AName (passed_name (what_of s1) formal e)) s1))
        (λ passed s1. then_do (handed next formals es line live s1) (λ rest s2. Gives (passed ∷ rest) s2))

  -- of a variable, a subscripted variable or a formal by name (Report 4.2.3.1)
  abbrev pub address : Next → Expr → Computation Address
  address next (Alone name line) live s = address_of limit next name line live s
  address next (Subscripted name line es) live s =
      then_do (values next es live s) (λ subscripts s1. element_of name subscripts line live s1)
  address next e live s = senseless (line_of e) live s

  abbrev pub addresses : Next → Exprs → Computation (List Address)
  addresses next NoExprs live s = Gives [] s
  addresses next (MoreExprs e es) live s =
      then_do (address next e live s) (λ a s1.
      then_do (addresses next es live s1) (λ rest s2. Gives (a ∷ rest) s2))

  -- of a label, a label formal, a switch designator, or a conditional or bracketed expression of these (Report 3.5)
  abbrev pub destination : Next → Expr → Computation Destination
  destination next (Alone name line) live s = destination_of limit next name line live s
  destination next (Subscripted name line es) live s =
      then_do (values next es live s) (λ subscripts s1. designator limit next name subscripts line live s1)
  destination next (Bracketed line e) live s = destination next e live s
  destination next (IfExpr line test e f) live s =
      then_do (value next test live s) (λ a s1.
      either (is_true a) s1 (λ s2. destination next e live s2) (λ s2. destination next f live s2))
  destination next e live s = senseless (line_of e) live s
