-- What identifiers are where only variables and labels are declared: these, or standard procedures by their own numbers. So a type
-- that a use allows tells which of them it is.
use Rattle.std.proofs.Common.{◌≡◌, ◌≢◌, ◌⊎◌, inl, inr, ℕ, Bool, true, false, List, [], ◌∷◌, refl, sym, ap, ◌∙◌, ◌+◌, subst, arith}
use Rattle.std.specs.Prelude.{◌==◌, ◌++◌, if◌then◌else◌, map, ⊤}
use Rattle.std.specs.List.{AllByRecursion}
use Rattle.std.proofs.lemmas.Bool.{eq-eqb, eqb-true}
use Rattle.gier_tree.specs.declared.kind.Kind.{Kind}
use Rattle.gier_tree.specs.declared.kind.Kind.TheVariants.{Undeclared, IntegerVariable, BooleanVariable}
use Rattle.gier_tree.specs.declared.kind.Kind.TheVariants.{IntegerArray, BooleanArray, Label, Switch, Procedure}
use Rattle.gier_tree.specs.declared.kind.Kind.TheVariants.{IntegerProcedure, BooleanProcedure, IntegerValue}
use Rattle.gier_tree.specs.declared.kind.Kind.TheVariants.{BooleanValue, IntegerFormal, BooleanFormal, IntegerArrayFormal}
use Rattle.gier_tree.specs.declared.kind.Kind.TheVariants.{BooleanArrayFormal, LabelFormal, SwitchFormal}
use Rattle.gier_tree.specs.declared.kind.Kind.TheVariants.{StringFormal, ProcedureFormal, IntegerProcedureFormal}
use Rattle.gier_tree.specs.declared.kind.Kind.TheVariants.{BooleanProcedureFormal, OutInteger, OutText}
use Rattle.gier_tree.specs.declared.kind.Kind.TheVariants.{OutCr, OutChar, InInteger, InChar, Abs, Sign}
use Rattle.gier_tree.specs.Declaring.{list_of}
use Rattle.gier_tree.specs.Described.{Scopes, bind, plain, variable_kind}
use Rattle.gier_tree.specs.Entries.{Entry, entry, label_entries, declaration_entries, declarations_entries, kind_words, kind_numbers}
use Rattle.gier_tree.specs.Places.{Placed, Places, place_all, address_or_number, standard_places}
use Rattle.gier_tree.specs.Trees.{Name, LabelPlace, ValueType, IntegerType, BooleanType, Declaration, DeclareType, DeclareOwn}
use Rattle.gier_tree.specs.Trees.{DeclareArrays, DeclareOwnArrays, DeclareSwitch, DeclareProcedure, Declarations}
use Rattle.gier_tree.specs.Trees.{NoDeclarations, MoreDeclarations}
use Rattle.gier_scope.specs.Scopes.{declares}
use Rattle.gier_kinds.specs.Actuals.{Wanted, TheseFormals, wanted_by, formals_by}
use Rattle.gier_kinds.specs.AllowedUses.{alone_type, called_type, left_type, is_statement, is_called_statement}
use Rattle.gier_kinds.specs.Types.{ExprType, OfInteger, OfBoolean, OfLabel, is_known}
use Rattle.gier_fair.specs.InScope.{AreDistinct, identifiers}
use Rattle.gier_fair.proofs.Apart.{neither}
use Rattle.gier_fair.proofs.Lists.{each_both, each_right}
use Rattle.gier_flat.specs.Fair.{IsCell, IsTaken, IsFunction, PrintsNumber, FairLabels}
use Rattle.gier_flat.specs.FairScope.{IsSimple, AreSimple}
use Rattle.gier_flat.specs.Part.{outinteger, outcr, outchar, inchar}

abbrev pub IsKnownAs : (x : ℕ) → Kind → Type 0
IsKnownAs x Undeclared = ⊤
IsKnownAs x IntegerVariable = ⊤
IsKnownAs x BooleanVariable = ⊤
IsKnownAs x Label = ⊤
IsKnownAs x OutInteger = x ≡ 0
IsKnownAs x OutText = x ≡ 1
IsKnownAs x OutCr = x ≡ 2
IsKnownAs x OutChar = x ≡ 3
IsKnownAs x InInteger = x ≡ 4
IsKnownAs x InChar = x ≡ 5
IsKnownAs x Abs = x ≡ 6
IsKnownAs x Sign = x ≡ 7
IsKnownAs x kind = ⊥

abbrev pub AreKnown : Places → Type 0
AreKnown p = (x : ℕ) → IsKnownAs x (p x).what.kind

abbrev pub IsValueType : ExprType → Type 0
IsValueType OfInteger = ⊤
IsValueType OfBoolean = ⊤
IsValueType t = ⊥

-- ---- what the type of a use tells

pub taken : (x : ℕ) (kind : Kind) (n : ℕ) → IsKnownAs x kind → x ≢ inchar → IsValueType (alone_type kind n) → IsTaken kind
taken x Undeclared n k h v = absurd v
taken x IntegerVariable n k h v = tt
taken x BooleanVariable n k h v = tt
taken x IntegerArray n k h v = absurd k
taken x BooleanArray n k h v = absurd k
taken x Label n k h v = absurd v
taken x Switch n k h v = absurd k
taken x Procedure n k h v = absurd k
taken x IntegerProcedure n k h v = absurd k
taken x BooleanProcedure n k h v = absurd k
taken x IntegerValue n k h v = absurd k
taken x BooleanValue n k h v = absurd k
taken x IntegerFormal n k h v = absurd k
taken x BooleanFormal n k h v = absurd k
taken x IntegerArrayFormal n k h v = absurd k
taken x BooleanArrayFormal n k h v = absurd k
taken x LabelFormal n k h v = absurd k
taken x SwitchFormal n k h v = absurd k
taken x StringFormal n k h v = absurd k
taken x ProcedureFormal n k h v = absurd k
taken x IntegerProcedureFormal n k h v = absurd k
taken x BooleanProcedureFormal n k h v = absurd k
taken x OutInteger n k h v = absurd v
taken x OutText n k h v = absurd v
taken x OutCr n k h v = absurd v
taken x OutChar n k h v = absurd v
taken x InInteger n k h v = tt
taken x InChar n k h v = absurd (h k)
taken x Abs n k h v = absurd v
taken x Sign n k h v = absurd v

pub target : (x : ℕ) (kind : Kind) (n : ℕ) → IsKnownAs x kind → alone_type kind n ≡ OfLabel → kind ≡ Label
target x Undeclared n k e = cc
target x IntegerVariable n k e = cc
target x BooleanVariable n k e = cc
target x IntegerArray n k e = absurd k
target x BooleanArray n k e = absurd k
target x Label n k e = refl
target x Switch n k e = absurd k
target x Procedure n k e = absurd k
target x IntegerProcedure n k e = absurd k
target x BooleanProcedure n k e = absurd k
target x IntegerValue n k e = absurd k
target x BooleanValue n k e = absurd k
target x IntegerFormal n k e = absurd k
target x BooleanFormal n k e = absurd k
target x IntegerArrayFormal n k e = absurd k
target x BooleanArrayFormal n k e = absurd k
target x LabelFormal n k e = absurd k
target x SwitchFormal n k e = absurd k
target x StringFormal n k e = absurd k
target x ProcedureFormal n k e = absurd k
target x IntegerProcedureFormal n k e = absurd k
target x BooleanProcedureFormal n k e = absurd k
target x OutInteger n k e = cc
target x OutText n k e = cc
target x OutCr n k e = cc
target x OutChar n k e = cc
target x InInteger n k e = cc
target x InChar n k e = cc
target x Abs n k e = cc
target x Sign n k e = cc

pub function : (x : ℕ) (kind : Kind) (n : ℕ) → IsKnownAs x kind → IsValueType (called_type kind n) → IsFunction kind
function x Undeclared n k v = absurd v
function x IntegerVariable n k v = absurd v
function x BooleanVariable n k v = absurd v
function x IntegerArray n k v = absurd k
function x BooleanArray n k v = absurd k
function x Label n k v = absurd v
function x Switch n k v = absurd k
function x Procedure n k v = absurd k
function x IntegerProcedure n k v = absurd k
function x BooleanProcedure n k v = absurd k
function x IntegerValue n k v = absurd k
function x BooleanValue n k v = absurd k
function x IntegerFormal n k v = absurd k
function x BooleanFormal n k v = absurd k
function x IntegerArrayFormal n k v = absurd k
function x BooleanArrayFormal n k v = absurd k
function x LabelFormal n k v = absurd k
function x SwitchFormal n k v = absurd k
function x StringFormal n k v = absurd k
function x ProcedureFormal n k v = absurd k
function x IntegerProcedureFormal n k v = absurd k
function x BooleanProcedureFormal n k v = absurd k
function x OutInteger n k v = absurd v
function x OutText n k v = absurd v
function x OutCr n k v = absurd v
function x OutChar n k v = absurd v
function x InInteger n k v = absurd v
function x InChar n k v = absurd v
function x Abs n k v = tt
function x Sign n k v = tt

pub no_target : (x : ℕ) (kind : Kind) (n : ℕ) → IsKnownAs x kind → called_type kind n ≡ OfLabel → ⊥
no_target x Undeclared n k e = cc
no_target x IntegerVariable n k e = cc
no_target x BooleanVariable n k e = cc
no_target x IntegerArray n k e = absurd k
no_target x BooleanArray n k e = absurd k
no_target x Label n k e = cc
no_target x Switch n k e = absurd k
no_target x Procedure n k e = absurd k
no_target x IntegerProcedure n k e = absurd k
no_target x BooleanProcedure n k e = absurd k
no_target x IntegerValue n k e = absurd k
no_target x BooleanValue n k e = absurd k
no_target x IntegerFormal n k e = absurd k
no_target x BooleanFormal n k e = absurd k
no_target x IntegerArrayFormal n k e = absurd k
no_target x BooleanArrayFormal n k e = absurd k
no_target x LabelFormal n k e = absurd k
no_target x SwitchFormal n k e = absurd k
no_target x StringFormal n k e = absurd k
no_target x ProcedureFormal n k e = absurd k
no_target x IntegerProcedureFormal n k e = absurd k
no_target x BooleanProcedureFormal n k e = absurd k
no_target x OutInteger n k e = cc
no_target x OutText n k e = cc
no_target x OutCr n k e = cc
no_target x OutChar n k e = cc
no_target x InInteger n k e = cc
no_target x InChar n k e = cc
no_target x Abs n k e = cc
no_target x Sign n k e = cc

pub cell : (x : ℕ) (kind : Kind) (within : Bool) → IsKnownAs x kind → is_known (left_type kind within) ≡ true → IsCell kind
cell x Undeclared within k e = cc
cell x IntegerVariable within k e = tt
cell x BooleanVariable within k e = tt
cell x IntegerArray within k e = absurd k
cell x BooleanArray within k e = absurd k
cell x Label within k e = cc
cell x Switch within k e = absurd k
cell x Procedure within k e = absurd k
cell x IntegerProcedure within k e = absurd k
cell x BooleanProcedure within k e = absurd k
cell x IntegerValue within k e = absurd k
cell x BooleanValue within k e = absurd k
cell x IntegerFormal within k e = absurd k
cell x BooleanFormal within k e = absurd k
cell x IntegerArrayFormal within k e = absurd k
cell x BooleanArrayFormal within k e = absurd k
cell x LabelFormal within k e = absurd k
cell x SwitchFormal within k e = absurd k
cell x StringFormal within k e = absurd k
cell x ProcedureFormal within k e = absurd k
cell x IntegerProcedureFormal within k e = absurd k
cell x BooleanProcedureFormal within k e = absurd k
cell x OutInteger within k e = cc
cell x OutText within k e = cc
cell x OutCr within k e = cc
cell x OutChar within k e = cc
cell x InInteger within k e = cc
cell x InChar within k e = cc
cell x Abs within k e = cc
cell x Sign within k e = cc

pub cell_type : (x : ℕ) (kind : Kind) (within : Bool) → IsKnownAs x kind → is_known (left_type kind within) ≡ true → IsValueType (left_type kind within)
cell_type x Undeclared within k e = cc
cell_type x IntegerVariable within k e = tt
cell_type x BooleanVariable within k e = tt
cell_type x IntegerArray within k e = absurd k
cell_type x BooleanArray within k e = absurd k
cell_type x Label within k e = cc
cell_type x Switch within k e = absurd k
cell_type x Procedure within k e = absurd k
cell_type x IntegerProcedure within k e = absurd k
cell_type x BooleanProcedure within k e = absurd k
cell_type x IntegerValue within k e = absurd k
cell_type x BooleanValue within k e = absurd k
cell_type x IntegerFormal within k e = absurd k
cell_type x BooleanFormal within k e = absurd k
cell_type x IntegerArrayFormal within k e = absurd k
cell_type x BooleanArrayFormal within k e = absurd k
cell_type x LabelFormal within k e = absurd k
cell_type x SwitchFormal within k e = absurd k
cell_type x StringFormal within k e = absurd k
cell_type x ProcedureFormal within k e = absurd k
cell_type x IntegerProcedureFormal within k e = absurd k
cell_type x BooleanProcedureFormal within k e = absurd k
cell_type x OutInteger within k e = cc
cell_type x OutText within k e = cc
cell_type x OutCr within k e = cc
cell_type x OutChar within k e = cc
cell_type x InInteger within k e = cc
cell_type x InChar within k e = cc
cell_type x Abs within k e = cc
cell_type x Sign within k e = cc

pub line_end : (x : ℕ) (kind : Kind) (n : ℕ) → IsKnownAs x kind → x ≡ outcr → is_statement kind n ≡ true → kind ≡ OutCr
line_end x Undeclared n k h e = cc
line_end x IntegerVariable n k h e = cc
line_end x BooleanVariable n k h e = cc
line_end x IntegerArray n k h e = absurd k
line_end x BooleanArray n k h e = absurd k
line_end x Label n k h e = cc
line_end x Switch n k h e = absurd k
line_end x Procedure n k h e = absurd k
line_end x IntegerProcedure n k h e = absurd k
line_end x BooleanProcedure n k h e = absurd k
line_end x IntegerValue n k h e = absurd k
line_end x BooleanValue n k h e = absurd k
line_end x IntegerFormal n k h e = absurd k
line_end x BooleanFormal n k h e = absurd k
line_end x IntegerArrayFormal n k h e = absurd k
line_end x BooleanArrayFormal n k h e = absurd k
line_end x LabelFormal n k h e = absurd k
line_end x SwitchFormal n k h e = absurd k
line_end x StringFormal n k h e = absurd k
line_end x ProcedureFormal n k h e = absurd k
line_end x IntegerProcedureFormal n k h e = absurd k
line_end x BooleanProcedureFormal n k h e = absurd k
line_end x OutInteger n k h e = cc
line_end x OutText n k h e = cc
line_end x OutCr n k h e = refl
line_end x OutChar n k h e = cc
line_end x InInteger n k h e = absurd (omega (arith, k, h))
line_end x InChar n k h e = absurd (omega (arith, k, h))
line_end x Abs n k h e = cc
line_end x Sign n k h e = cc

apart : (x : ℕ) → (x ≡ outinteger) ⊎ (x ≡ outchar) → (x ≢ 1) × (x ≢ 6) × (x ≢ 7)
apart x (inl e) = ((λ f. absurd (omega (arith, e, f))), (λ f. absurd (omega (arith, e, f))), (λ f. absurd (omega (arith, e, f))))
apart x (inr e) = ((λ f. absurd (omega (arith, e, f))), (λ f. absurd (omega (arith, e, f))), (λ f. absurd (omega (arith, e, f))))

pub prints : (x : ℕ) (kind : Kind) (n : ℕ) → IsKnownAs x kind → (x ≡ outinteger) ⊎ (x ≡ outchar) → is_called_statement kind n ≡ true → PrintsNumber kind
prints x Undeclared n k h e = cc
prints x IntegerVariable n k h e = cc
prints x BooleanVariable n k h e = cc
prints x IntegerArray n k h e = absurd k
prints x BooleanArray n k h e = absurd k
prints x Label n k h e = cc
prints x Switch n k h e = absurd k
prints x Procedure n k h e = absurd k
prints x IntegerProcedure n k h e = absurd k
prints x BooleanProcedure n k h e = absurd k
prints x IntegerValue n k h e = absurd k
prints x BooleanValue n k h e = absurd k
prints x IntegerFormal n k h e = absurd k
prints x BooleanFormal n k h e = absurd k
prints x IntegerArrayFormal n k h e = absurd k
prints x BooleanArrayFormal n k h e = absurd k
prints x LabelFormal n k h e = absurd k
prints x SwitchFormal n k h e = absurd k
prints x StringFormal n k h e = absurd k
prints x ProcedureFormal n k h e = absurd k
prints x IntegerProcedureFormal n k h e = absurd k
prints x BooleanProcedureFormal n k h e = absurd k
prints x OutInteger n k h e = tt
prints x OutText n k h e = absurd ((apart x h).0 k)
prints x OutCr n k h e = cc
prints x OutChar n k h e = tt
prints x InInteger n k h e = cc
prints x InChar n k h e = cc
prints x Abs n k h e = absurd ((apart x h).1 k)
prints x Sign n k h e = absurd ((apart x h).2 k)

abbrev pub an_integer : Wanted
an_integer = TheseFormals (IntegerValue ∷ [])

pub function_takes : (kind : Kind) (formals : List Kind) → IsFunction kind → wanted_by true (formals_by kind formals) ≡ an_integer
function_takes Undeclared formals f = absurd f
function_takes IntegerVariable formals f = absurd f
function_takes BooleanVariable formals f = absurd f
function_takes IntegerArray formals f = absurd f
function_takes BooleanArray formals f = absurd f
function_takes Label formals f = absurd f
function_takes Switch formals f = absurd f
function_takes Procedure formals f = absurd f
function_takes IntegerProcedure formals f = absurd f
function_takes BooleanProcedure formals f = absurd f
function_takes IntegerValue formals f = absurd f
function_takes BooleanValue formals f = absurd f
function_takes IntegerFormal formals f = absurd f
function_takes BooleanFormal formals f = absurd f
function_takes IntegerArrayFormal formals f = absurd f
function_takes BooleanArrayFormal formals f = absurd f
function_takes LabelFormal formals f = absurd f
function_takes SwitchFormal formals f = absurd f
function_takes StringFormal formals f = absurd f
function_takes ProcedureFormal formals f = absurd f
function_takes IntegerProcedureFormal formals f = absurd f
function_takes BooleanProcedureFormal formals f = absurd f
function_takes OutInteger formals f = absurd f
function_takes OutText formals f = absurd f
function_takes OutCr formals f = absurd f
function_takes OutChar formals f = absurd f
function_takes InInteger formals f = absurd f
function_takes InChar formals f = absurd f
function_takes Abs formals f = refl
function_takes Sign formals f = refl

pub printing_takes : (kind : Kind) (formals : List Kind) → PrintsNumber kind → wanted_by true (formals_by kind formals) ≡ an_integer
printing_takes Undeclared formals f = absurd f
printing_takes IntegerVariable formals f = absurd f
printing_takes BooleanVariable formals f = absurd f
printing_takes IntegerArray formals f = absurd f
printing_takes BooleanArray formals f = absurd f
printing_takes Label formals f = absurd f
printing_takes Switch formals f = absurd f
printing_takes Procedure formals f = absurd f
printing_takes IntegerProcedure formals f = absurd f
printing_takes BooleanProcedure formals f = absurd f
printing_takes IntegerValue formals f = absurd f
printing_takes BooleanValue formals f = absurd f
printing_takes IntegerFormal formals f = absurd f
printing_takes BooleanFormal formals f = absurd f
printing_takes IntegerArrayFormal formals f = absurd f
printing_takes BooleanArrayFormal formals f = absurd f
printing_takes LabelFormal formals f = absurd f
printing_takes SwitchFormal formals f = absurd f
printing_takes StringFormal formals f = absurd f
printing_takes ProcedureFormal formals f = absurd f
printing_takes IntegerProcedureFormal formals f = absurd f
printing_takes BooleanProcedureFormal formals f = absurd f
printing_takes OutInteger formals f = refl
printing_takes OutText formals f = absurd f
printing_takes OutCr formals f = absurd f
printing_takes OutChar formals f = refl
printing_takes InInteger formals f = absurd f
printing_takes InChar formals f = absurd f
printing_takes Abs formals f = absurd f
printing_takes Sign formals f = absurd f

-- ---- in which places identifiers are known so

-- what may be declared under any identifier
abbrev IsOrdinary : Entry → Type 0
IsOrdinary e = (x : ℕ) → IsKnownAs x e.what.kind

bound : (kind : Kind) (n : ℕ) (rest : Scopes) → IsKnownAs n kind → ((x : ℕ) → IsKnownAs x (rest x).kind) → (x : ℕ) → IsKnownAs x (bind n (plain kind) rest x).kind
bound kind n rest h k x = by (x == n) refl
  where
    by : (t : Bool) → (x == n) ≡ t → IsKnownAs x (if t then plain kind else rest x).kind
    by true e = subst (λ y. IsKnownAs y kind) (sym (eqb-true x n e)) h
    by false e = k x

pub standard_known : AreKnown standard_places
standard_known =
    bound OutInteger 0 _ refl (bound OutText 1 _ refl (bound OutCr 2 _ refl (bound OutChar 3 _ refl
    (bound InInteger 4 _ refl (bound InChar 5 _ refl (bound Abs 6 _ refl (bound Sign 7 (λ x. plain Undeclared) refl (λ x. tt))))))))

pub known_inside : (level address number : ℕ) (es : List Entry) (p : Places) → AllByRecursion IsOrdinary es → AreKnown p → AreKnown (place_all level address number es p)
known_inside level address number [] p h k x = k x
known_inside level address number (e ∷ es) p h k x =
    by (x == e.name.number) (place_all level (address + kind_words e.what.kind e.what.count) (number + kind_numbers e.what.kind) es p x)
    (known_inside level (address + kind_words e.what.kind e.what.count) (number + kind_numbers e.what.kind) es p h.1 k x)
  where
    by : (t : Bool) (rest : Placed) → IsKnownAs x rest.what.kind → IsKnownAs x (if t then record { what = e.what; level = level; address = address_or_number e.what.kind address number } else rest).what.kind
    by true rest r = h.0 x
    by false rest r = r

pub labels_ordinary : (ls : List LabelPlace) → AllByRecursion IsOrdinary (label_entries ls)
labels_ordinary [] = tt
labels_ordinary (l ∷ ls) = ((λ x. tt), labels_ordinary ls)

named_ordinary : (t : ValueType) (ns : List Name) → AllByRecursion IsOrdinary (map (entry (plain (variable_kind t))) ns)
named_ordinary t [] = tt
named_ordinary IntegerType (n ∷ ns) = ((λ x. tt), named_ordinary IntegerType ns)
named_ordinary BooleanType (n ∷ ns) = ((λ x. tt), named_ordinary BooleanType ns)

pub one_ordinary : (d : Declaration) → IsSimple d → AllByRecursion IsOrdinary (declaration_entries d)
one_ordinary (DeclareType t ns) f = named_ordinary t.type (list_of ns)
one_ordinary (DeclareOwn l t ns) f = tt
one_ordinary (DeclareArrays t l s ss) f = absurd f
one_ordinary (DeclareOwnArrays k t l s ss) f = tt
one_ordinary (DeclareSwitch l x m e es) f = absurd f
one_ordinary (DeclareProcedure h s) f = absurd f

pub all_ordinary : (ds : Declarations) → AreSimple ds → AllByRecursion IsOrdinary (declarations_entries ds)
all_ordinary NoDeclarations f = tt
all_ordinary (MoreDeclarations d l ds) f = each_both IsOrdinary (declaration_entries d) (declarations_entries ds) (one_ordinary d f.0) (all_ordinary ds f.1)

pub block_known : (level address number : ℕ) (d : Declaration) (ds : Declarations) (ls : List LabelPlace) (p : Places) → IsSimple d → AreSimple ds → AreKnown p
    → AreKnown (place_all level address number (declaration_entries d ++ declarations_entries ds ++ label_entries ls) p)
block_known level address number d ds ls p f fs k =
    known_inside level address number (declaration_entries d ++ declarations_entries ds ++ label_entries ls) p
    (each_both IsOrdinary (declaration_entries d ++ declarations_entries ds) (label_entries ls)
    (each_both IsOrdinary (declaration_entries d) (declarations_entries ds) (one_ordinary d f) (all_ordinary ds fs)) (labels_ordinary ls)) k

-- ---- the labels of a scope are labels in it

abbrev Stands : Places → Entry → Type 0
Stands q e = (q e.name.number).what.kind ≡ e.what.kind

skipped : (x : ℕ) (here : Placed) (q : Places) (es : List Entry) → declares (identifiers es) x ≡ false → AllByRecursion (Stands q) es → AllByRecursion (Stands (λ y. if y == x then here else q y)) es
skipped x here q [] e h = tt
skipped x here q (e1 ∷ es) e h =
    let r = neither (e1.name.number == x) (declares (identifiers es) x) e in
    (ap (λ t. (if t then here else q e1.name.number).what.kind) r.0 ∙ h.0, skipped x here q es r.1 h.1)

stand : (level address number : ℕ) (es : List Entry) (p : Places) → AreDistinct (identifiers es) → AllByRecursion (Stands (place_all level address number es p)) es
stand level address number [] p h = tt
stand level address number (e ∷ es) p h =
    let here : Placed = record { what = e.what; level = level; address = address_or_number e.what.kind address number } in
    let rest : Places = place_all level (address + kind_words e.what.kind e.what.count) (number + kind_numbers e.what.kind) es p in (
      ap (λ t. (if t then here else rest e.name.number).what.kind) (eq-eqb e.name.number e.name.number refl),
      skipped e.name.number here rest es h.0 (stand level (address + kind_words e.what.kind e.what.count) (number + kind_numbers e.what.kind) es p h.1),
    )

are_labels : (q : Places) (ls : List LabelPlace) → AllByRecursion (Stands q) (label_entries ls) → FairLabels q ls
are_labels q [] h = tt
are_labels q (l ∷ ls) h = (h.0, are_labels q ls h.1)

pub labels_stand : (level address number : ℕ) (es : List Entry) (ls : List LabelPlace) (p : Places) → AreDistinct (identifiers (es ++ label_entries ls))
    → FairLabels (place_all level address number (es ++ label_entries ls) p) ls
labels_stand level address number es ls p h =
    let q : Places = place_all level address number (es ++ label_entries ls) p in
    are_labels q ls (each_right (Stands q) es (label_entries ls) (stand level address number (es ++ label_entries ls) p h))
