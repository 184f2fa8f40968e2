-- What the store keeps of a procedure and of a switch, and what it says that a name is.
use Rattle.std.specs.Prelude.{ℕ, List}
use Rattle.gier_agree.specs.declared.kind.Kind.{Kind}
use Rattle.gier_meaning.specs.Tree.{Meant, AsExpression, AsVariable, AsLabel, AsFormal, Name, Identifier, AnEntity, AProcedure}
use Rattle.gier_meaning.specs.Tree.{AFormalProcedure, AText, AStandard, AnActual, Exprs, Formal, Statement}
use Rattle.gier_meaning.specs.State.{Entity, Nothing, ACell, AnArray, ALabel, Kept}
use Rattle.gier_meaning.specs.What.{What, Unknown, IsVariable, IsByName, IsArray, IsLabel, IsSwitch, IsString, IsProcedure}
use Rattle.gier_meaning.specs.What.{IsFormalProcedure, IsStandard, kinds}

pub data Body : Type 0 where
  -- its own identifier, which its left parts have; its kind, its formals, its statement
  ProcedureBody : (own : ℕ) → Kind → List Formal → Statement → Body
  SwitchList : Exprs → Body

abbrev pub body_what : Body → What
body_what (ProcedureBody own kind formals body) = IsProcedure kind (kinds formals)
body_what (SwitchList elements) = IsSwitch

abbrev pub entity_what : {K : Type 0} → (K → What) → Entity K → What
entity_what kept_what Nothing = Unknown
entity_what kept_what (ACell kind value) = IsVariable kind
entity_what kept_what (AnArray kind bounds elements) = IsArray kind
entity_what kept_what ALabel = IsLabel
entity_what kept_what (Kept k) = kept_what k

-- of the same procedure, where a formal stands for it
abbrev pub as_formal : What → What
as_formal (IsProcedure kind formals) = IsFormalProcedure kind
as_formal what = what

-- of a formal by name
abbrev pub by_name_what : Meant → Kind → What
by_name_what AsExpression kind = IsByName kind
by_name_what AsVariable kind = IsByName kind
by_name_what AsLabel kind = IsLabel
by_name_what AsFormal kind = IsByName kind

abbrev pub what_in : {K : Type 0} → (K → What) → (ℕ → Entity K) → Name → What
what_in kept_what store (Identifier x) = Unknown
what_in kept_what store (AnEntity n) = entity_what kept_what (store n)
what_in kept_what store (AProcedure n) = entity_what kept_what (store n)
what_in kept_what store (AFormalProcedure n) = as_formal (entity_what kept_what (store n))
what_in kept_what store (AText bytes) = IsString
what_in kept_what store (AStandard standard) = IsStandard standard
what_in kept_what store (AnActual meant kind e) = by_name_what meant kind
