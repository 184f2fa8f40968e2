-- What pass 6 keeps of entries, by the number of an identifier and by that of a label, switch or procedure.
use Rattle.std.specs.Prelude.{◌==◌, ◌++◌, ℕ, zero, suc, Bool, false, List, [], ◌∷◌, Option, None, Some, if◌then◌else◌}
use Rattle.gier_tree.specs.declared.kind.Kind.{Kind}
use Rattle.gier_tree.specs.declared.kind.Kind.TheVariants.{Label, Switch, Procedure, IntegerProcedure, BooleanProcedure}
use Rattle.gier_tree.specs.Described.{Described, description}
use Rattle.gier_text6.specs.PassState.{Use, Numbered, World}

abbrev pub numbered : List Kind → (is_open : Bool) → Numbered
numbered formals is_open = record { formals = formals; is_open = is_open }

-- one more, where the kind is numbered
abbrev pub one_more : Kind → List Numbered → List Numbered
one_more Label ns = ns ++ numbered [] false ∷ []
one_more Switch ns = ns ++ numbered [] false ∷ []
one_more Procedure ns = ns ++ numbered [] false ∷ []
one_more IntegerProcedure ns = ns ++ numbered [] false ∷ []
one_more BooleanProcedure ns = ns ++ numbered [] false ∷ []
one_more kind ns = ns

-- a formal of the one that was entered last
abbrev pub more_formals : Kind → List Numbered → List Numbered
more_formals kind [] = []
more_formals kind (n ∷ []) = numbered (n.formals ++ kind ∷ []) n.is_open ∷ []
more_formals kind (n ∷ m ∷ ns) = n ∷ more_formals kind (m ∷ ns)

abbrev pub with_kind : (x : ℕ) → Kind → (ℕ → Kind) → ℕ → Kind
with_kind x kind kinds y = if y == x then kind else kinds y

abbrev pub with_entry : World → Option ℕ → World
with_entry W entry = record { kinds = W.kinds; numbered = W.numbered; entry = entry; formals = W.formals }

abbrev pub with_numbered : World → List Numbered → World
with_numbered W ns = record { kinds = W.kinds; numbered = ns; entry = W.entry; formals = W.formals }

abbrev pub with_formals : World → (formals : ℕ) → World
with_formals W n = record { kinds = W.kinds; numbered = W.numbered; entry = W.entry; formals = n }

-- a description of an entry, or of a formal of the procedure that was entered
abbrev pub described_as : Kind → Option ℕ → World → World
described_as kind (Some x) W =
    record { kinds = with_kind x kind W.kinds; numbered = one_more kind W.numbered; entry = None; formals = W.formals }
described_as kind None W =
    record { kinds = W.kinds; numbered = more_formals kind W.numbered; entry = None; formals = W.formals }

-- the declaration with this number is open or isn't
abbrev pub opened : (number : ℕ) → Bool → List Numbered → List Numbered
opened number is_open [] = []
opened zero is_open (n ∷ ns) = numbered n.formals is_open ∷ ns
opened (suc number) is_open (n ∷ ns) = n ∷ opened number is_open ns

abbrev pub opened_by : Option ℕ → Bool → World → World
opened_by None is_open W = W
opened_by (Some number) is_open W = with_numbered W (opened number is_open W.numbered)

abbrev pub formals_at : (number : ℕ) → List Numbered → List Kind
formals_at number [] = []
formals_at zero (n ∷ ns) = n.formals
formals_at (suc number) (n ∷ ns) = formals_at number ns

abbrev pub open_at : (number : ℕ) → List Numbered → Bool
open_at number [] = false
open_at zero (n ∷ ns) = n.is_open
open_at (suc number) (n ∷ ns) = open_at number ns

-- a place tells the formals of a procedure alone: that of a variable may be the same number
abbrev pub formals_if : Kind → List Kind → List Kind
formals_if Procedure formals = formals
formals_if IntegerProcedure formals = formals
formals_if BooleanProcedure formals = formals
formals_if kind formals = []

abbrev pub use_described : World → Use → Described
use_described W u = description u.kind u.count (formals_if u.kind (formals_at u.number W.numbered))
