-- Fair expressions: those of one type, with the identifiers of each place of a kind that is allowed there (Report 3, 4.7). Places
-- tell what each identifier is. How numbers are bounded isn't told here.
use Rattle.std.specs.Prelude.{◌≡◌, ◌≢◌, ◌≤◌, ℕ, suc, true, false, Option, None, Some, ⊤}
use Rattle.gier_tree.specs.declared.kind.Kind.{Kind}
use Rattle.gier_tree.specs.declared.kind.Kind.TheVariants.{Undeclared}
use Rattle.gier_tree.specs.Described.{Described}
use Rattle.gier_tree.specs.Need.{count_exprs, count_actuals}
use Rattle.gier_tree.specs.Places.{Places}
use Rattle.gier_tree.specs.Trees.{Name, Expr, OneSimple, IfExpr, Simple, OneImplication, Equivalent, Implication, OneDisjunction}
use Rattle.gier_tree.specs.Trees.{Implies, Disjunction, OneConjunction, Either, Conjunction, OneNegation, Both, Negation}
use Rattle.gier_tree.specs.Trees.{OneRelation, Negated, Relation, OneArithmetic, Compared, Arithmetic, OneTerm, Signed, Summed}
use Rattle.gier_tree.specs.Trees.{Term, OneFactor, Multiplied, Factor, OnePrimary, Raised, Primary, Numeral, Logical, Bracketed}
use Rattle.gier_tree.specs.Trees.{OneCall, OneElement, Call, Alone, WithActuals, Element, Subscripted, Actual, OneExpr, AString}
use Rattle.gier_tree.specs.Trees.{Actuals, NoActuals, MoreActuals, Exprs, NoExprs, MoreExprs}
use Rattle.gier_tree.specs.Written.{name_alone}
use Rattle.gier_kinds.specs.Actuals.{Wanted, wanted_by, wanted_behind, known_formals, is_other_count, name_fits_in, type_fits_in}
use Rattle.gier_kinds.specs.Actuals.{string_fits_in}
use Rattle.gier_kinds.specs.AllowedUses.{alone_type, called_type, element_type}
use Rattle.gier_kinds.specs.ExprFaults.{most_subscripts, most_actuals, is_other_number}
use Rattle.gier_kinds.specs.Types.{ExprType, OfInteger, OfBoolean, is_known}

-- a use allows the identifier, and has this type
abbrev pub Gives : (allowed wanted : ExprType) → Type 0
Gives allowed wanted = (allowed ≡ wanted) × (is_known wanted ≡ true)

-- so many subscripts as the array was declared with, or one for a switch
abbrev pub FairCount : Described → (subscripts : ℕ) → Type 0
FairCount d n = (is_other_number d.kind d.count n ≡ false) × (n ≤ most_subscripts)

-- what the first actual of a call is to fit
abbrev pub first_wanted : Described → Wanted
first_wanted d = wanted_by true (known_formals d)

-- so many actuals as there are formals, where these are known
abbrev pub FairActualCount : Described → (actuals : ℕ) → Type 0
FairActualCount d n = (is_other_count (known_formals d) n ≡ false) × (n ≤ most_actuals)

-- a declared identifier alone as an actual
abbrev pub FairName : Wanted → Described → Type 0
FairName wanted d = (name_fits_in wanted d ≡ true) × (d.kind ≢ Undeclared)

-- an actual: an identifier alone, or an expression of some type
abbrev pub FairPassed : Places → Wanted → Option Name → (ExprType → Type 0) → Type 0
FairPassed p wanted (Some x) fair = FairName wanted (p x.number).what
FairPassed p wanted None fair = (t : ExprType) × fair t × (is_known t ≡ true) × (type_fits_in wanted t ≡ true)

module _ (p : Places) where
  abbrev mutual
    pub FairExpr : ExprType → Expr → Type 0
    FairExpr t (OneSimple s) = FairSimple t s
    FairExpr t (IfExpr l c m s n e) = FairExpr OfBoolean c × FairSimple t s × FairExpr t e

    pub FairSimple : ExprType → Simple → Type 0
    FairSimple t (OneImplication i) = FairImplication t i
    FairSimple t (Equivalent s l i) = (t ≡ OfBoolean) × FairSimple OfBoolean s × FairImplication OfBoolean i

    pub FairImplication : ExprType → Implication → Type 0
    FairImplication t (OneDisjunction d) = FairDisjunction t d
    FairImplication t (Implies i l d) = (t ≡ OfBoolean) × FairImplication OfBoolean i × FairDisjunction OfBoolean d

    pub FairDisjunction : ExprType → Disjunction → Type 0
    FairDisjunction t (OneConjunction c) = FairConjunction t c
    FairDisjunction t (Either d l c) = (t ≡ OfBoolean) × FairDisjunction OfBoolean d × FairConjunction OfBoolean c

    pub FairConjunction : ExprType → Conjunction → Type 0
    FairConjunction t (OneNegation n) = FairNegation t n
    FairConjunction t (Both c l n) = (t ≡ OfBoolean) × FairConjunction OfBoolean c × FairNegation OfBoolean n

    pub FairNegation : ExprType → Negation → Type 0
    FairNegation t (OneRelation r) = FairRelation t r
    FairNegation t (Negated l r) = (t ≡ OfBoolean) × FairRelation OfBoolean r

    pub FairRelation : ExprType → Relation → Type 0
    FairRelation t (OneArithmetic a) = FairArithmetic t a
    FairRelation t (Compared a o l b) = (t ≡ OfBoolean) × FairArithmetic OfInteger a × FairArithmetic OfInteger b

    pub FairArithmetic : ExprType → Arithmetic → Type 0
    FairArithmetic t (OneTerm u) = FairTerm t u
    FairArithmetic t (Signed o l u) = (t ≡ OfInteger) × FairTerm OfInteger u
    FairArithmetic t (Summed a o l u) = (t ≡ OfInteger) × FairArithmetic OfInteger a × FairTerm OfInteger u

    pub FairTerm : ExprType → Term → Type 0
    FairTerm t (OneFactor f) = FairFactor t f
    FairTerm t (Multiplied u o l f) = (t ≡ OfInteger) × FairTerm OfInteger u × FairFactor OfInteger f

    pub FairFactor : ExprType → Factor → Type 0
    FairFactor t (OnePrimary q) = FairPrimary t q
    FairFactor t (Raised f l q) = (t ≡ OfInteger) × FairFactor OfInteger f × FairPrimary OfInteger q

    pub FairPrimary : ExprType → Primary → Type 0
    FairPrimary t (Numeral n l) = t ≡ OfInteger
    FairPrimary t (Logical b l) = t ≡ OfBoolean
    FairPrimary t (Bracketed l e m) = FairExpr t e
    FairPrimary t (OneCall c) = FairCall t c
    FairPrimary t (OneElement e) = FairElement element_type t e

    pub FairCall : ExprType → Call → Type 0
    FairCall t (Alone x) = Gives (alone_type (p x.number).what.kind (p x.number).what.count) t
    FairCall t (WithActuals x l a more m) =
        let d = (p x.number).what in
        Gives (called_type d.kind d.count) t × FairActualCount d (suc (count_actuals more))
        × FairActual (first_wanted d) a × FairActuals (wanted_behind (first_wanted d)) more

    pub FairActual : Wanted → Actual → Type 0
    FairActual wanted (OneExpr e) = FairPassed p wanted (name_alone e) (λ t. FairExpr t e)
    FairActual wanted (AString l bs m) = string_fits_in wanted ≡ true

    pub FairActuals : Wanted → Actuals → Type 0
    FairActuals wanted NoActuals = ⊤
    FairActuals wanted (MoreActuals l a more) = FairActual wanted a × FairActuals (wanted_behind wanted) more

    -- the type tells which identifiers may have subscripts
    pub FairElement : (Kind → ExprType) → ExprType → Element → Type 0
    FairElement allowed t (Subscripted x l e es m) =
        let d = (p x.number).what in
        Gives (allowed d.kind) t × FairCount d (suc (count_exprs es)) × FairExpr OfInteger e × FairExprs OfInteger es

    pub FairExprs : ExprType → Exprs → Type 0
    FairExprs t NoExprs = ⊤
    FairExprs t (MoreExprs l e es) = FairExpr t e × FairExprs t es
