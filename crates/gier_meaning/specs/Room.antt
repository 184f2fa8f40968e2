-- The words that activations take, and the working places that expressions and statements need. What a name is, is asked of
-- `what`.
use Rattle.std.specs.Prelude.{ℕ, suc, ◌+◌, ◌*◌, max, List, [], ◌∷◌, length}
use Rattle.gier_agree.specs.declared.kind.Kind.{Kind}
use Rattle.gier_agree.specs.declared.kind.Kind.TheVariants as kind
use Rattle.gier_meaning.specs.Tree.{Name, Expr, Number, Logical, Alone, Subscripted, Called, Bracketed, Prefixed, Joined, IfExpr}
use Rattle.gier_meaning.specs.Tree.{Quoted, Exprs, NoExprs, MoreExprs, Element, Once, StepUntil, While, Formal, Statement}
use Rattle.gier_meaning.specs.Tree.{Labelled, Dummy, Compound, Block, Assign, GoTo, CallOf, If, IfElse, For, Statements}
use Rattle.gier_meaning.specs.Tree.{NoStatements, MoreStatements, Declarations, NoDeclarations, Variables, Arrays, Switch}
use Rattle.gier_meaning.specs.Tree.{Procedure}
use Rattle.gier_meaning.specs.What.{What, IsSwitch, IsProcedure, IsFormalProcedure, in_block, in_procedure, in_controlled}

abbrev pub count : Exprs → ℕ
count NoExprs = 0
count (MoreExprs e es) = suc (count es)

-- of an element with its number of subscripts, the greatest need of a subscript behind those before it, and that of the first one,
-- which of a switch is the only one
abbrev pub element_need : What → (subscripts behind first : ℕ) → ℕ
element_need IsSwitch subscripts behind first = first
element_need _ subscripts behind first = max (1 + subscripts) behind

-- of a formal by value, what its actual needs behind i words
abbrev pub passed_need : Kind → (i need : ℕ) → ℕ
passed_need kind.IntegerByValue i need = i + need
passed_need kind.BooleanByValue i need = i + need
passed_need _ i need = 0

-- the formals of a declared procedure
abbrev pub formals_of : What → List Kind
formals_of (IsProcedure kind formals) = formals
formals_of _ = []

-- of a call with so many actuals, what those of its formals by value need, and the greatest need of an actual
abbrev pub call_need : What → (actuals passed greatest : ℕ) → ℕ
call_need (IsProcedure kind formals) actuals passed greatest = max (2 * actuals) passed
call_need (IsFormalProcedure kind) actuals passed greatest = 2 * actuals
call_need _ actuals passed greatest = greatest

-- a function has one word for its value
abbrev pub value_words : Kind → ℕ
value_words kind.IntegerProcedure = 1
value_words kind.BooleanProcedure = 1
value_words _ = 0

-- the words of a block's variables and of the descriptions of its arrays
abbrev pub declared_words : Declarations → ℕ
declared_words NoDeclarations = 0
declared_words (Variables kind names ds) = length names + declared_words ds
declared_words (Arrays kind line names bounds ds) = length names * (2 + count bounds) + declared_words ds
declared_words (Switch line name elements ds) = declared_words ds
declared_words (Procedure line kind own name formals body ds) = declared_words ds

module _ (what : Name → What) where
  abbrev mutual
    pub need : Expr → ℕ
    need (Number value line) = 0
    need (Logical value line) = 0
    need (Alone name line) = 0
    need (Subscripted name line es) = element_need (what name) (count es) (need_behind 1 es) (first_need es)
    need (Called name line es) = call_need (what name) (count es) (passed_needs 0 (formals_of (what name)) es) (greatest_need es)
    need (Bracketed line e) = need e
    need (Prefixed op line e) = need e
    need (Joined a op line b) = max (need a) (1 + need b)
    need (IfExpr line test a b) = max (need test) (max (need a) (need b))
    need (Quoted bytes line) = 0

    -- the greatest of i + need of the first, i + 1 + need of the second, and so on
    pub need_behind : ℕ → Exprs → ℕ
    need_behind i NoExprs = 0
    need_behind i (MoreExprs e es) = max (i + need e) (need_behind (suc i) es)

    pub first_need : Exprs → ℕ
    first_need NoExprs = 0
    first_need (MoreExprs e es) = need e

    pub greatest_need : Exprs → ℕ
    greatest_need NoExprs = 0
    greatest_need (MoreExprs e es) = max (need e) (greatest_need es)

    -- the same as need_behind, of the actuals of formals by value, each behind two words for every actual before it
    pub passed_needs : ℕ → List Kind → Exprs → ℕ
    passed_needs i formals NoExprs = 0
    passed_needs i [] (MoreExprs e es) = 0
    passed_needs i (formal ∷ formals) (MoreExprs e es) = max (passed_need formal i (need e)) (passed_needs (suc (suc i)) formals es)

  abbrev pub turn_need : Element → ℕ
  turn_need (Once e) = 1 + need e
  turn_need (StepUntil a b c) = max (1 + need a) (max (1 + need c) (2 + need b))
  turn_need (While e test) = max (1 + need e) (need test)

  abbrev pub turns_need : List Element → ℕ
  turns_need [] = 0
  turns_need (element ∷ elements) = max (turn_need element) (turns_need elements)

  abbrev pub bounds_need : Declarations → ℕ
  bounds_need NoDeclarations = 0
  bounds_need (Variables kind names ds) = bounds_need ds
  bounds_need (Arrays kind line names bounds ds) = max (max (count bounds) (need_behind 0 bounds)) (bounds_need ds)
  bounds_need (Switch line name elements ds) = bounds_need ds
  bounds_need (Procedure line kind own name formals body ds) = bounds_need ds

-- what a statement needs of the activation in which it stands
abbrev mutual
  pub statement_need : (Name → What) → Statement → ℕ
  statement_need what (Labelled name s) = statement_need what s
  statement_need what Dummy = 0
  statement_need what (Compound ss) = statements_need what ss
  statement_need what (Block line ds ss) = 0
  statement_need what (Assign lefts e) = max (count lefts + need what e) (need_behind what 0 lefts)
  statement_need what (GoTo line e) = need what e
  statement_need what (CallOf e) = need what e
  statement_need what (If test s) = max (need what test) (statement_need what s)
  statement_need what (IfElse test s other) = max (need what test) (max (statement_need what s) (statement_need what other))
  statement_need what (For line variable place elements s) =
      1 + max (statement_need (in_controlled s what) s) (turns_need what elements)

  pub statements_need : (Name → What) → Statements → ℕ
  statements_need what NoStatements = 0
  statements_need what (MoreStatements s ss) = max (statement_need what s) (statements_need what ss)

abbrev pub evaluation_room : (Name → What) → Expr → ℕ
evaluation_room what e = 5 + need what e

abbrev pub program_room : (Name → What) → Statement → ℕ
program_room what s = 3 + statement_need what s

-- a block's own declarations and a procedure's own formals say what their identifiers are
abbrev pub block_room : (Name → What) → Declarations → Statements → ℕ
block_room what ds ss =
    3 + declared_words ds + max (bounds_need (in_block ds ss what) ds) (statements_need (in_block ds ss what) ss)

abbrev pub procedure_room : (Name → What) → Kind → List Formal → Statement → ℕ
procedure_room what kind formals body =
    5 + 2 * length formals + value_words kind + statement_need (in_procedure formals body what) body
