-- What may stand behind a part of an expression, and with what a part begins; items that may be nothing are passed there.
use Rattle.std.proofs.Common.{◌≡◌, ℕ, suc, List, [], ◌∷◌, Option, Some, Bool, true, false, refl, sym as back, ap, ◌∙◌, subst, arith}
use Rattle.std.proofs.lemmas.Bool.Decides.{nat_tests}
use Rattle.std.specs.Prelude.{nat_lt}
use Rattle.gier_symbol.specs.declared.symbol.Symbol.{Symbol}
use Rattle.gier_symbol.specs.declared.tag.Tag.TheVariants.{Power, And, Or, Impl, Equiv, RightParenthesis, RightBracket}
use Rattle.gier_symbol.specs.ByTag.{word}
use Rattle.gier_tree.specs.Trees.{Adding, Add, Subtract, Multiplying, Multiply, Divide, Comparing, LessThan, AtMost, EqualTo, AtLeast, MoreThan, Unequal, Expr, OneSimple, IfExpr, Simple, OneImplication, Equivalent, Implication, OneDisjunction, Implies, Disjunction, OneConjunction, Either, Conjunction, OneNegation, Both, Negation, OneRelation, Negated, Relation, OneArithmetic, Compared, Arithmetic, OneTerm, Signed, Summed, Term, OneFactor, Multiplied, Factor, OnePrimary, Raised, Primary, Numeral, Logical, Bracketed, OneCall, OneElement, Alone, WithActuals, Subscripted, Actuals, NoActuals, MoreActuals, Exprs, NoExprs, MoreExprs}
use Rattle.gier_tree.specs.Spell.{adding_tag, multiplying_tag, comparing_tag, spell_expr, spell_simple, spell_implication, spell_disjunction, spell_conjunction, spell_negation, spell_relation, spell_arithmetic, spell_term, spell_factor, spell_primary, spell_actuals, spell_exprs}
use Rattle.gier_tree.specs.Signs.{Sign, SName, SNumber, SAdding, SMultiplying, SPower, SComparing, SNot, SAnd, SOr, SImpl, SEquiv, SLogical, SBecomes, SLeftParenthesis, SLeftBracket, SIf, sign_of}
use Rattle.gier_tree.specs.Wanted.{NoNot, NoSign, NoRelation, NoPart, Item, MayNot, MaySign, MayPower, MayTimes, MaySum, MayRelation, MayAnd, MayOr, MayImpl, MayEquiv, MayPart, Trees}
use Rattle.gier_tree.specs.Structure.{with_tree, build_at, build}

-- how tightly a sign binds what stands before it
abbrev pub binds : Sign → ℕ
binds SBecomes = 9
binds SLeftParenthesis = 9
binds SLeftBracket = 9
binds SPower = 8
binds (SMultiplying o) = 7
binds (SAdding o) = 6
binds (SComparing o) = 5
binds SAnd = 4
binds SOr = 3
binds SImpl = 2
binds SEquiv = 1
binds _ = 0

-- the next symbol binds less than this
abbrev pub Ends : ℕ → List Symbol → Type 0
Ends n [] = ⊥
Ends n (s ∷ k) = nat_lt (binds (sign_of s)) n ≡ true

-- what begins a primary, an arithmetic expression, a simple one, any one
abbrev pub begins : Sign → ℕ
begins (SName x) = 0
begins (SNumber v) = 0
begins (SLogical b) = 0
begins SLeftParenthesis = 0
begins (SAdding o) = 1
begins SNot = 2
begins SIf = 3
begins _ = 4

-- the next symbol begins one of these
abbrev pub Starts : ℕ → List Symbol → Type 0
Starts n [] = ⊥
Starts n (s ∷ k) = nat_lt (begins (sign_of s)) n ≡ true

abbrev IsYes : Bool → Type 0
IsYes true = Unit {0}
IsYes false = ⊥

pub false_true : false ≡ true → ⊥
false_true e = subst IsYes (back e) tt

up_one : (a n : ℕ) → nat_lt a n ≡ true → nat_lt a (suc n) ≡ true
up_one a n h = grind (arith, nat_tests)

pub up : (n : ℕ) (k : List Symbol) → Ends n k → Ends (suc n) k
up n [] h = absurd h
up n (s ∷ k) h = up_one (binds (sign_of s)) n h

pub start_up : (n : ℕ) (k : List Symbol) → Starts n k → Starts (suc n) k
start_up n [] h = absurd h
start_up n (s ∷ k) h = up_one (begins (sign_of s)) n h

-- items that may be nothing are passed where what follows binds less
no_power : (g : Sign) (l : ℕ) (next : (st : List Item) → Option (Trees st)) (st : List Item) → nat_lt (binds g) 8 ≡ true → build_at g l next (MayPower ∷ st) ≡ with_tree [] (build_at g l next st)
no_power SPower l next st h = absurd (false_true h)
no_power _ l next st h = refl

pub pass_power : (k : List Symbol) (st : List Item) (r : Trees st) → Ends 8 k → build k st ≡ Some r → build k (MayPower ∷ st) ≡ Some ([], r)
pass_power [] st r h b = absurd h
pass_power (s ∷ k) st r h b = no_power (sign_of s) s.line (build k) st h ∙ ap (with_tree []) b

no_times : (g : Sign) (l : ℕ) (next : (st : List Item) → Option (Trees st)) (st : List Item) → nat_lt (binds g) 7 ≡ true → build_at g l next (MayTimes ∷ st) ≡ with_tree [] (build_at g l next st)
no_times (SMultiplying o) l next st h = absurd (false_true h)
no_times _ l next st h = refl

pub pass_times : (k : List Symbol) (st : List Item) (r : Trees st) → Ends 7 k → build k st ≡ Some r → build k (MayTimes ∷ st) ≡ Some ([], r)
pass_times [] st r h b = absurd h
pass_times (s ∷ k) st r h b = no_times (sign_of s) s.line (build k) st h ∙ ap (with_tree []) b

no_sum : (g : Sign) (l : ℕ) (next : (st : List Item) → Option (Trees st)) (st : List Item) → nat_lt (binds g) 6 ≡ true → build_at g l next (MaySum ∷ st) ≡ with_tree [] (build_at g l next st)
no_sum (SAdding o) l next st h = absurd (false_true h)
no_sum _ l next st h = refl

pub pass_sum : (k : List Symbol) (st : List Item) (r : Trees st) → Ends 6 k → build k st ≡ Some r → build k (MaySum ∷ st) ≡ Some ([], r)
pass_sum [] st r h b = absurd h
pass_sum (s ∷ k) st r h b = no_sum (sign_of s) s.line (build k) st h ∙ ap (with_tree []) b

no_relation : (g : Sign) (l : ℕ) (next : (st : List Item) → Option (Trees st)) (st : List Item) → nat_lt (binds g) 5 ≡ true → build_at g l next (MayRelation ∷ st) ≡ with_tree NoRelation (build_at g l next st)
no_relation (SComparing o) l next st h = absurd (false_true h)
no_relation _ l next st h = refl

pub pass_relation : (k : List Symbol) (st : List Item) (r : Trees st) → Ends 5 k → build k st ≡ Some r → build k (MayRelation ∷ st) ≡ Some (NoRelation, r)
pass_relation [] st r h b = absurd h
pass_relation (s ∷ k) st r h b = no_relation (sign_of s) s.line (build k) st h ∙ ap (with_tree NoRelation) b

no_and : (g : Sign) (l : ℕ) (next : (st : List Item) → Option (Trees st)) (st : List Item) → nat_lt (binds g) 4 ≡ true → build_at g l next (MayAnd ∷ st) ≡ with_tree [] (build_at g l next st)
no_and SAnd l next st h = absurd (false_true h)
no_and _ l next st h = refl

pub pass_and : (k : List Symbol) (st : List Item) (r : Trees st) → Ends 4 k → build k st ≡ Some r → build k (MayAnd ∷ st) ≡ Some ([], r)
pass_and [] st r h b = absurd h
pass_and (s ∷ k) st r h b = no_and (sign_of s) s.line (build k) st h ∙ ap (with_tree []) b

no_or : (g : Sign) (l : ℕ) (next : (st : List Item) → Option (Trees st)) (st : List Item) → nat_lt (binds g) 3 ≡ true → build_at g l next (MayOr ∷ st) ≡ with_tree [] (build_at g l next st)
no_or SOr l next st h = absurd (false_true h)
no_or _ l next st h = refl

pub pass_or : (k : List Symbol) (st : List Item) (r : Trees st) → Ends 3 k → build k st ≡ Some r → build k (MayOr ∷ st) ≡ Some ([], r)
pass_or [] st r h b = absurd h
pass_or (s ∷ k) st r h b = no_or (sign_of s) s.line (build k) st h ∙ ap (with_tree []) b

no_impl : (g : Sign) (l : ℕ) (next : (st : List Item) → Option (Trees st)) (st : List Item) → nat_lt (binds g) 2 ≡ true → build_at g l next (MayImpl ∷ st) ≡ with_tree [] (build_at g l next st)
no_impl SImpl l next st h = absurd (false_true h)
no_impl _ l next st h = refl

pub pass_impl : (k : List Symbol) (st : List Item) (r : Trees st) → Ends 2 k → build k st ≡ Some r → build k (MayImpl ∷ st) ≡ Some ([], r)
pass_impl [] st r h b = absurd h
pass_impl (s ∷ k) st r h b = no_impl (sign_of s) s.line (build k) st h ∙ ap (with_tree []) b

no_equiv : (g : Sign) (l : ℕ) (next : (st : List Item) → Option (Trees st)) (st : List Item) → nat_lt (binds g) 1 ≡ true → build_at g l next (MayEquiv ∷ st) ≡ with_tree [] (build_at g l next st)
no_equiv SEquiv l next st h = absurd (false_true h)
no_equiv _ l next st h = refl

pub pass_equiv : (k : List Symbol) (st : List Item) (r : Trees st) → Ends 1 k → build k st ≡ Some r → build k (MayEquiv ∷ st) ≡ Some ([], r)
pass_equiv [] st r h b = absurd h
pass_equiv (s ∷ k) st r h b = no_equiv (sign_of s) s.line (build k) st h ∙ ap (with_tree []) b

no_part : (g : Sign) (l : ℕ) (next : (st : List Item) → Option (Trees st)) (st : List Item) → nat_lt (binds g) 9 ≡ true → build_at g l next (MayPart ∷ st) ≡ with_tree NoPart (build_at g l next st)
no_part SLeftBracket l next st h = absurd (false_true h)
no_part SLeftParenthesis l next st h = absurd (false_true h)
no_part _ l next st h = refl

pub pass_part : (k : List Symbol) (st : List Item) (r : Trees st) → Ends 9 k → build k st ≡ Some r → build k (MayPart ∷ st) ≡ Some (NoPart, r)
pass_part [] st r h b = absurd h
pass_part (s ∷ k) st r h b = no_part (sign_of s) s.line (build k) st h ∙ ap (with_tree NoPart) b

-- `_not` and signs that aren't there
no_not : (g : Sign) (l : ℕ) (next : (st : List Item) → Option (Trees st)) (st : List Item) → nat_lt (begins g) 2 ≡ true → build_at g l next (MayNot ∷ st) ≡ with_tree NoNot (build_at g l next st)
no_not SNot l next st h = absurd (false_true h)
no_not _ l next st h = refl

pub skip_not : (w : List Symbol) (st : List Item) → Starts 2 w → build w (MayNot ∷ st) ≡ with_tree NoNot (build w st)
skip_not [] st h = absurd h
skip_not (s ∷ w) st h = no_not (sign_of s) s.line (build w) st h

no_sign : (g : Sign) (l : ℕ) (next : (st : List Item) → Option (Trees st)) (st : List Item) → nat_lt (begins g) 1 ≡ true → build_at g l next (MaySign ∷ st) ≡ with_tree NoSign (build_at g l next st)
no_sign (SAdding o) l next st h = absurd (false_true h)
no_sign _ l next st h = refl

pub skip_sign : (w : List Symbol) (st : List Item) → Starts 1 w → build w (MaySign ∷ st) ≡ with_tree NoSign (build w st)
skip_sign [] st h = absurd h
skip_sign (s ∷ w) st h = no_sign (sign_of s) s.line (build w) st h

-- with what parts of expressions begin
primary_starts : (p : Primary) (k : List Symbol) → Starts 1 (spell_primary p k)
primary_starts (Numeral n l) k = refl
primary_starts (Logical true l) k = refl
primary_starts (Logical false l) k = refl
primary_starts (Bracketed l e m) k = refl
primary_starts (OneCall (Alone x)) k = refl
primary_starts (OneCall (WithActuals x l a more m)) k = refl
primary_starts (OneElement (Subscripted x l e es m)) k = refl

factor_starts : (f : Factor) (k : List Symbol) → Starts 1 (spell_factor f k)
factor_starts (OnePrimary p) k = primary_starts p k
factor_starts (Raised f l p) k = factor_starts f (word Power l ∷ spell_primary p k)

pub term_starts : (t : Term) (k : List Symbol) → Starts 1 (spell_term t k)
term_starts (OneFactor f) k = factor_starts f k
term_starts (Multiplied t o l f) k = term_starts t (word (multiplying_tag o) l ∷ spell_factor f k)

arithmetic_starts : (a : Arithmetic) (k : List Symbol) → Starts 2 (spell_arithmetic a k)
arithmetic_starts (OneTerm t) k = start_up 1 (spell_term t k) (term_starts t k)
arithmetic_starts (Signed Add l t) k = refl
arithmetic_starts (Signed Subtract l t) k = refl
arithmetic_starts (Summed a o l t) k = arithmetic_starts a (word (adding_tag o) l ∷ spell_term t k)

pub relation_starts : (x : Relation) (k : List Symbol) → Starts 2 (spell_relation x k)
relation_starts (OneArithmetic a) k = arithmetic_starts a k
relation_starts (Compared a o l b) k = arithmetic_starts a (word (comparing_tag o) l ∷ spell_arithmetic b k)

negation_starts : (n : Negation) (k : List Symbol) → Starts 3 (spell_negation n k)
negation_starts (OneRelation x) k = start_up 2 (spell_relation x k) (relation_starts x k)
negation_starts (Negated l x) k = refl

conjunction_starts : (c : Conjunction) (k : List Symbol) → Starts 3 (spell_conjunction c k)
conjunction_starts (OneNegation n) k = negation_starts n k
conjunction_starts (Both c l n) k = conjunction_starts c (word And l ∷ spell_negation n k)

disjunction_starts : (d : Disjunction) (k : List Symbol) → Starts 3 (spell_disjunction d k)
disjunction_starts (OneConjunction c) k = conjunction_starts c k
disjunction_starts (Either d l c) k = disjunction_starts d (word Or l ∷ spell_conjunction c k)

implication_starts : (i : Implication) (k : List Symbol) → Starts 3 (spell_implication i k)
implication_starts (OneDisjunction d) k = disjunction_starts d k
implication_starts (Implies i l d) k = implication_starts i (word Impl l ∷ spell_disjunction d k)

pub simple_starts : (s : Simple) (k : List Symbol) → Starts 3 (spell_simple s k)
simple_starts (OneImplication i) k = implication_starts i k
simple_starts (Equivalent s l i) k = simple_starts s (word Equiv l ∷ spell_implication i k)

pub expr_starts : (e : Expr) (k : List Symbol) → Starts 4 (spell_expr e k)
expr_starts (OneSimple s) k = start_up 3 (spell_simple s k) (simple_starts s k)
expr_starts (IfExpr l c m s n e) k = refl

-- what stands behind the expressions of lists
pub actuals_end : (more : Actuals) (m : ℕ) (k : List Symbol) → Ends 1 (spell_actuals more (word RightParenthesis m ∷ k))
actuals_end NoActuals m k = refl
actuals_end (MoreActuals l a more) m k = refl

pub exprs_end : (es : Exprs) (m : ℕ) (k : List Symbol) → Ends 1 (spell_exprs es (word RightBracket m ∷ k))
exprs_end NoExprs m k = refl
exprs_end (MoreExprs l e es) m k = refl

-- operators end what stands before them
pub multiplying_ends : (o : Multiplying) (l : ℕ) (k : List Symbol) → Ends 8 (word (multiplying_tag o) l ∷ k)
multiplying_ends Multiply l k = refl
multiplying_ends Divide l k = refl

pub adding_ends : (o : Adding) (l : ℕ) (k : List Symbol) → Ends 7 (word (adding_tag o) l ∷ k)
adding_ends Add l k = refl
adding_ends Subtract l k = refl

pub comparing_ends : (o : Comparing) (l : ℕ) (k : List Symbol) → Ends 6 (word (comparing_tag o) l ∷ k)
comparing_ends LessThan l k = refl
comparing_ends AtMost l k = refl
comparing_ends EqualTo l k = refl
comparing_ends AtLeast l k = refl
comparing_ends MoreThan l k = refl
comparing_ends Unequal l k = refl
