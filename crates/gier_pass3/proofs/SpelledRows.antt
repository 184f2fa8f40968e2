-- Each row of the grammar's table: what is made of the trees of the items that are pushed is spelled as the symbol and those trees.
use Rattle.std.proofs.Common.{◌≡◌, ◌∙◌, ℕ, zero, suc, Bool, true, false, List, ◌∷◌, refl, sym, ap, subst}
use Rattle.std.specs.Prelude.{◌==◌, ◌||◌, not}
use Rattle.std.proofs.lemmas.Bool.{false≢true}
use Rattle.gier_symbol.specs.declared.symbol.Symbol.{Symbol}
use Rattle.gier_symbol.specs.declared.tag.Tag.TheVariants.{TextEnd, Comma, Becomes, And, Or, Impl, Equiv, For}
use Rattle.gier_symbol.specs.Tags.{number_of}
use Rattle.gier_symbol.specs.ByTag.{sym as symbol, word}
use Rattle.gier_tree.specs.Trees.{Numeral, Logical, Bracketed}
use Rattle.gier_tree.specs.Spell.{ident, adding_tag, multiplying_tag, comparing_tag}
use Rattle.gier_tree.specs.Signs.{Sign, SAdding, SAnd, SArray, SBecomes, SBegin, SByte, SColon, SComma, SComparing, SDo, SElse, SEnd, SEquiv, SFor, SGoto, SIf, SImpl, SLabel, SLeftBracket, SLeftParenthesis, SLogical, SMultiplying, SName, SNot, SNumber, SOr, SOwn, SPower, SProcedure, SRightBracket, SRightParenthesis, SSemicolon, SStep, SStrange, SString, SStringBegin, SStringEnd, SSwitch, STextEnd, SThen, SType, SUntil, SValue, SWhile, sign_tag}
use Rattle.gier_tree.specs.Wanted.{NoNot, ANot, NoSign, ASign, Item, Want, WantName, WantNumber, WantExpr, WantSimple, MayNot, MaySign, WantPrimary, MayPower, MayTimes, MaySum, MayRelation, MayAnd, MayOr, MayImpl, MayEquiv, MayPart, WantSubscripts, WantActual, WantActuals, WantBytes, WantRight, WantAfterRight, WantAfterElement, MayNames, MayExprs, WantType, WantAfterType, WantAfterOwnType, WantSegment, WantPairs, MaySegments, WantConstant, WantFixed, WantFurther, MayFixed, MayFormals, MayValues, MaySpecifications, MayWord, MayDeclarations, WantStatement, WantAfterName, WantBranch, WantAfterBranchName, MayElse, MayStep, WantTurns, WantStatements, WantProgram, TreeOf, Trees, tail_items}
use Rattle.gier_tree.specs.Taking.{Act, Refuse, Pass, Push, act, name_at, type_at, label_at, primary_of, want_by, same_sign}
use Rattle.gier_pass3.proofs.EntryWords.{same_number}
use Rattle.gier_pass3.proofs.Joined.{factor_spelled, term_spelled, arithmetic_spelled, negation_spelled, conjunction_spelled, disjunction_spelled, implication_spelled, simple_of_spelled}
use Rattle.gier_pass3.proofs.Spelling.{spell_item, spell_all, spell_may_else, primary_spelled, right_spelled, statement_spelled, branch_spelled, conditional_spelled, group_spelled, turns_spelled, typed_spelled, own_spelled, specifier_spelled, program_spelled}

-- the value of a sign, and the symbol that it stands for
abbrev pub value_of : Sign → ℕ
value_of (SName number) = number
value_of (SNumber value) = value
value_of (SByte byte) = byte
value_of _ = 0

abbrev pub symbol_of : Sign → (line : ℕ) → Symbol
symbol_of g l = symbol (sign_tag g) (value_of g) l

abbrev pub is_strange : Sign → Bool
is_strange SStrange = true
is_strange _ = false

-- the signs that are wanted alone
abbrev pub is_wanted : Item → Bool
is_wanted (Want SColon) = true
is_wanted (Want SSemicolon) = true
is_wanted (Want SBecomes) = true
is_wanted (Want SRightParenthesis) = true
is_wanted (Want SLeftBracket) = true
is_wanted (Want SThen) = true
is_wanted (Want SElse) = true
is_wanted (Want SUntil) = true
is_wanted (Want STextEnd) = true
is_wanted (Want g) = false
is_wanted _ = true

abbrev pub SpelledBy : (i : Item) → Sign → (line : ℕ) → Act (TreeOf i) → Type 0
SpelledBy i g l Refuse = Unit {0}
SpelledBy i g l (Pass t) = (k : List Symbol) → spell_item i t k ≡ k
SpelledBy i g l (Push is f) = (is_strange g ≡ false) × ((ts : Trees is) (k : List Symbol) → spell_item i (f ts) k ≡ symbol_of g l ∷ spell_all is ts k)

-- a sign that is wanted alone has no value, and a tag that no sign with a value has
abbrev is_alone : ℕ → Bool
is_alone n = not (n == 1 || n == 3 || n == 4 || n == 6)

alone : (h : Sign) → is_wanted (Want h) ≡ true → is_alone (number_of (sign_tag h)) ≡ true
alone SColon w = refl
alone SSemicolon w = refl
alone SBecomes w = refl
alone SRightParenthesis w = refl
alone SLeftBracket w = refl
alone SThen w = refl
alone SElse w = refl
alone SUntil w = refl
alone STextEnd w = refl
alone _ w = absurd (false≢true w)

no_value : (g : Sign) → is_alone (number_of (sign_tag g)) ≡ true → value_of g ≡ 0
no_value (SName x) h = absurd (false≢true h)
no_value (SNumber v) h = absurd (false≢true h)
no_value (SByte b) h = absurd (false≢true h)
no_value _ h = refl

not_strange : (g : Sign) → is_alone (number_of (sign_tag g)) ≡ true → is_strange g ≡ false
not_strange SStrange h = absurd (false≢true h)
not_strange _ h = refl

want_spelled : (same : Bool) (h g : Sign) (l : ℕ) → same_sign h g ≡ same → is_wanted (Want h) ≡ true → SpelledBy (Want h) g l (want_by same l)
want_spelled false h g l e w = tt
want_spelled true h g l e w =
    let tag = same_number (number_of (sign_tag h)) (number_of (sign_tag g)) e in
    let here = subst (λ n. is_alone n ≡ true) tag (alone h w) in
    let made : symbol_of g l ≡ word (sign_tag h) l = ap (λ v. symbol (sign_tag g) v l) (no_value g here) ∙ ap (λ n. let s : Symbol = record { tag = n; value = 0; line = l } in s) (sym tag) in
    (not_strange g here, λ ts k. ap (λ s. s ∷ k) (sym made))

pub row_spelled : (i : Item) (g : Sign) (l : ℕ) → is_wanted i ≡ true → SpelledBy i g l (act i g l)
row_spelled (Want h) g l w = want_spelled (same_sign h g) h g l refl w
row_spelled WantName (SName x) l w = (refl, λ ts k. refl)
row_spelled WantName _ l w = tt
row_spelled WantNumber (SNumber v) l w = (refl, λ ts k. refl)
row_spelled WantNumber _ l w = tt
row_spelled WantExpr SNot l w = (refl, λ ts k. simple_of_spelled (ANot l) ts.0 ts.1.0 ts.1.1 k)
row_spelled WantExpr (SAdding o) l w = (refl, λ ts k. simple_of_spelled NoNot (ASign o l) ts.0 ts.1 k)
row_spelled WantExpr (SNumber v) l w = (refl, λ ts k. simple_of_spelled NoNot NoSign (Numeral v l) ts k)
row_spelled WantExpr (SLogical b) l w = (refl, λ ts k. simple_of_spelled NoNot NoSign (Logical b l) ts k)
row_spelled WantExpr (SName x) l w = (refl, λ ts k. simple_of_spelled NoNot NoSign (primary_of (name_at x l) ts.0) ts.1 k ∙ primary_spelled (name_at x l) ts.0 (spell_all tail_items ts.1 k))
row_spelled WantExpr SLeftParenthesis l w = (refl, λ ts k. simple_of_spelled NoNot NoSign (Bracketed l ts.0 ts.1.0) ts.1.1 k)
row_spelled WantExpr SIf l w = (refl, λ ts k. refl)
row_spelled WantExpr _ l w = tt
row_spelled WantSimple SNot l w = (refl, λ ts k. simple_of_spelled (ANot l) ts.0 ts.1.0 ts.1.1 k)
row_spelled WantSimple (SAdding o) l w = (refl, λ ts k. simple_of_spelled NoNot (ASign o l) ts.0 ts.1 k)
row_spelled WantSimple (SNumber v) l w = (refl, λ ts k. simple_of_spelled NoNot NoSign (Numeral v l) ts k)
row_spelled WantSimple (SLogical b) l w = (refl, λ ts k. simple_of_spelled NoNot NoSign (Logical b l) ts k)
row_spelled WantSimple (SName x) l w = (refl, λ ts k. simple_of_spelled NoNot NoSign (primary_of (name_at x l) ts.0) ts.1 k ∙ primary_spelled (name_at x l) ts.0 (spell_all tail_items ts.1 k))
row_spelled WantSimple SLeftParenthesis l w = (refl, λ ts k. simple_of_spelled NoNot NoSign (Bracketed l ts.0 ts.1.0) ts.1.1 k)
row_spelled WantSimple _ l w = tt
row_spelled MayNot SNot l w = (refl, λ ts k. refl)
row_spelled MayNot _ l w = λ k. refl
row_spelled MaySign (SAdding o) l w = (refl, λ ts k. refl)
row_spelled MaySign _ l w = λ k. refl
row_spelled WantPrimary (SNumber v) l w = (refl, λ ts k. refl)
row_spelled WantPrimary (SLogical b) l w = (refl, λ ts k. refl)
row_spelled WantPrimary (SName x) l w = (refl, λ ts k. primary_spelled (name_at x l) ts.0 k)
row_spelled WantPrimary SLeftParenthesis l w = (refl, λ ts k. refl)
row_spelled WantPrimary _ l w = tt
row_spelled MayPower SPower l w = (refl, λ ts k. refl)
row_spelled MayPower _ l w = λ k. refl
row_spelled MayTimes (SMultiplying o) l w = (refl, λ ts k. ap (λ (s : List Symbol). word (multiplying_tag o) l ∷ s) (factor_spelled ts _))
row_spelled MayTimes _ l w = λ k. refl
row_spelled MaySum (SAdding o) l w = (refl, λ ts k. ap (λ (s : List Symbol). word (adding_tag o) l ∷ s) (term_spelled ts _))
row_spelled MaySum _ l w = λ k. refl
row_spelled MayRelation (SComparing o) l w = (refl, λ ts k. ap (λ (s : List Symbol). word (comparing_tag o) l ∷ s) (arithmetic_spelled ts _))
row_spelled MayRelation _ l w = λ k. refl
row_spelled MayAnd SAnd l w = (refl, λ ts k. ap (λ (s : List Symbol). word And l ∷ s) (negation_spelled ts _))
row_spelled MayAnd _ l w = λ k. refl
row_spelled MayOr SOr l w = (refl, λ ts k. ap (λ (s : List Symbol). word Or l ∷ s) (conjunction_spelled ts _))
row_spelled MayOr _ l w = λ k. refl
row_spelled MayImpl SImpl l w = (refl, λ ts k. ap (λ (s : List Symbol). word Impl l ∷ s) (disjunction_spelled ts _))
row_spelled MayImpl _ l w = λ k. refl
row_spelled MayEquiv SEquiv l w = (refl, λ ts k. ap (λ (s : List Symbol). word Equiv l ∷ s) (implication_spelled ts _))
row_spelled MayEquiv _ l w = λ k. refl
row_spelled MayPart SLeftBracket l w = (refl, λ ts k. refl)
row_spelled MayPart SLeftParenthesis l w = (refl, λ ts k. refl)
row_spelled MayPart _ l w = λ k. refl
row_spelled WantSubscripts SComma l w = (refl, λ ts k. refl)
row_spelled WantSubscripts SRightBracket l w = (refl, λ ts k. refl)
row_spelled WantSubscripts _ l w = tt
row_spelled WantActual SStringBegin l w = (refl, λ ts k. refl)
row_spelled WantActual SNot l w = (refl, λ ts k. simple_of_spelled (ANot l) ts.0 ts.1.0 ts.1.1 k)
row_spelled WantActual (SAdding o) l w = (refl, λ ts k. simple_of_spelled NoNot (ASign o l) ts.0 ts.1 k)
row_spelled WantActual (SNumber v) l w = (refl, λ ts k. simple_of_spelled NoNot NoSign (Numeral v l) ts k)
row_spelled WantActual (SLogical b) l w = (refl, λ ts k. simple_of_spelled NoNot NoSign (Logical b l) ts k)
row_spelled WantActual (SName x) l w = (refl, λ ts k. simple_of_spelled NoNot NoSign (primary_of (name_at x l) ts.0) ts.1 k ∙ primary_spelled (name_at x l) ts.0 (spell_all tail_items ts.1 k))
row_spelled WantActual SLeftParenthesis l w = (refl, λ ts k. simple_of_spelled NoNot NoSign (Bracketed l ts.0 ts.1.0) ts.1.1 k)
row_spelled WantActual SIf l w = (refl, λ ts k. refl)
row_spelled WantActual _ l w = tt
row_spelled WantActuals SComma l w = (refl, λ ts k. refl)
row_spelled WantActuals SRightParenthesis l w = (refl, λ ts k. refl)
row_spelled WantActuals _ l w = tt
row_spelled WantBytes (SByte b) l w = (refl, λ ts k. refl)
row_spelled WantBytes SStringEnd l w = (refl, λ ts k. refl)
row_spelled WantBytes _ l w = tt
row_spelled WantRight (SName x) l w = (refl, λ ts k. right_spelled (name_at x l) ts.0 k)
row_spelled WantRight SNot l w = (refl, λ ts k. simple_of_spelled (ANot l) ts.0 ts.1.0 ts.1.1 k)
row_spelled WantRight (SAdding o) l w = (refl, λ ts k. simple_of_spelled NoNot (ASign o l) ts.0 ts.1 k)
row_spelled WantRight (SNumber v) l w = (refl, λ ts k. simple_of_spelled NoNot NoSign (Numeral v l) ts k)
row_spelled WantRight (SLogical b) l w = (refl, λ ts k. simple_of_spelled NoNot NoSign (Logical b l) ts k)
row_spelled WantRight SLeftParenthesis l w = (refl, λ ts k. simple_of_spelled NoNot NoSign (Bracketed l ts.0 ts.1.0) ts.1.1 k)
row_spelled WantRight SIf l w = (refl, λ ts k. refl)
row_spelled WantRight _ l w = tt
row_spelled WantAfterRight SBecomes l w = (refl, λ ts k. refl)
row_spelled WantAfterRight SLeftBracket l w = (refl, λ ts k. refl)
row_spelled WantAfterRight SLeftParenthesis l w = (refl, λ ts k. refl)
row_spelled WantAfterRight SPower l w = (refl, λ ts k. refl)
row_spelled WantAfterRight (SMultiplying o) l w = (refl, λ ts k. ap (λ (s : List Symbol). word (multiplying_tag o) l ∷ s) (factor_spelled ts _))
row_spelled WantAfterRight (SAdding o) l w = (refl, λ ts k. ap (λ (s : List Symbol). word (adding_tag o) l ∷ s) (term_spelled ts _))
row_spelled WantAfterRight (SComparing o) l w = (refl, λ ts k. ap (λ (s : List Symbol). word (comparing_tag o) l ∷ s) (arithmetic_spelled ts _))
row_spelled WantAfterRight SAnd l w = (refl, λ ts k. ap (λ (s : List Symbol). word And l ∷ s) (negation_spelled ts _))
row_spelled WantAfterRight SOr l w = (refl, λ ts k. ap (λ (s : List Symbol). word Or l ∷ s) (conjunction_spelled ts _))
row_spelled WantAfterRight SImpl l w = (refl, λ ts k. ap (λ (s : List Symbol). word Impl l ∷ s) (disjunction_spelled ts _))
row_spelled WantAfterRight SEquiv l w = (refl, λ ts k. ap (λ (s : List Symbol). word Equiv l ∷ s) (implication_spelled ts _))
row_spelled WantAfterRight _ l w = λ k. refl
row_spelled WantAfterElement SBecomes l w = (refl, λ ts k. refl)
row_spelled WantAfterElement SPower l w = (refl, λ ts k. refl)
row_spelled WantAfterElement (SMultiplying o) l w = (refl, λ ts k. ap (λ (s : List Symbol). word (multiplying_tag o) l ∷ s) (factor_spelled ts _))
row_spelled WantAfterElement (SAdding o) l w = (refl, λ ts k. ap (λ (s : List Symbol). word (adding_tag o) l ∷ s) (term_spelled ts _))
row_spelled WantAfterElement (SComparing o) l w = (refl, λ ts k. ap (λ (s : List Symbol). word (comparing_tag o) l ∷ s) (arithmetic_spelled ts _))
row_spelled WantAfterElement SAnd l w = (refl, λ ts k. ap (λ (s : List Symbol). word And l ∷ s) (negation_spelled ts _))
row_spelled WantAfterElement SOr l w = (refl, λ ts k. ap (λ (s : List Symbol). word Or l ∷ s) (conjunction_spelled ts _))
row_spelled WantAfterElement SImpl l w = (refl, λ ts k. ap (λ (s : List Symbol). word Impl l ∷ s) (disjunction_spelled ts _))
row_spelled WantAfterElement SEquiv l w = (refl, λ ts k. ap (λ (s : List Symbol). word Equiv l ∷ s) (implication_spelled ts _))
row_spelled WantAfterElement _ l w = λ k. refl
row_spelled MayNames SComma l w = (refl, λ ts k. refl)
row_spelled MayNames _ l w = λ k. refl
row_spelled MayExprs SComma l w = (refl, λ ts k. refl)
row_spelled MayExprs _ l w = λ k. refl
row_spelled WantType (SType t) l w = (refl, λ ts k. refl)
row_spelled WantType _ l w = tt
row_spelled WantAfterType (SName x) l w = (refl, λ ts k. refl)
row_spelled WantAfterType SArray l w = (refl, λ ts k. refl)
row_spelled WantAfterType SProcedure l w = (refl, λ ts k. refl)
row_spelled WantAfterType _ l w = tt
row_spelled WantAfterOwnType (SName x) l w = (refl, λ ts k. refl)
row_spelled WantAfterOwnType SArray l w = (refl, λ ts k. refl)
row_spelled WantAfterOwnType _ l w = tt
row_spelled WantSegment (SName x) l w = (refl, λ ts k. refl)
row_spelled WantSegment _ l w = tt
row_spelled WantPairs SComma l w = (refl, λ ts k. refl)
row_spelled WantPairs SRightBracket l w = (refl, λ ts k. refl)
row_spelled WantPairs _ l w = tt
row_spelled MaySegments SComma l w = (refl, λ ts k. refl)
row_spelled MaySegments _ l w = λ k. refl
row_spelled WantConstant (SNumber v) l w = (refl, λ ts k. refl)
row_spelled WantConstant (SAdding o) l w = (refl, λ ts k. refl)
row_spelled WantConstant _ l w = tt
row_spelled WantFixed (SName x) l w = (refl, λ ts k. refl)
row_spelled WantFixed _ l w = tt
row_spelled (WantFurther zero) SComma l w = tt
row_spelled (WantFurther (suc n)) SComma l w = (refl, λ ts k. refl)
row_spelled (WantFurther zero) SRightBracket l w = (refl, λ ts k. refl)
row_spelled (WantFurther (suc n)) SRightBracket l w = (refl, λ ts k. refl)
row_spelled (WantFurther zero) _ l w = tt
row_spelled (WantFurther (suc n)) _ l w = tt
row_spelled MayFixed SComma l w = (refl, λ ts k. refl)
row_spelled MayFixed _ l w = λ k. refl
row_spelled MayFormals SLeftParenthesis l w = (refl, λ ts k. refl)
row_spelled MayFormals _ l w = λ k. refl
row_spelled MayValues SValue l w = (refl, λ ts k. refl)
row_spelled MayValues _ l w = λ k. refl
row_spelled MaySpecifications (SType t) l w = (refl, λ ts k. specifier_spelled (type_at t l) ts.0 _)
row_spelled MaySpecifications SLabel l w = (refl, λ ts k. refl)
row_spelled MaySpecifications SSwitch l w = (refl, λ ts k. refl)
row_spelled MaySpecifications SString l w = (refl, λ ts k. refl)
row_spelled MaySpecifications SProcedure l w = (refl, λ ts k. refl)
row_spelled MaySpecifications _ l w = λ k. refl
row_spelled MayWord SArray l w = (refl, λ ts k. refl)
row_spelled MayWord SProcedure l w = (refl, λ ts k. refl)
row_spelled MayWord _ l w = λ k. refl
row_spelled MayDeclarations (SType t) l w = (refl, λ ts k. typed_spelled (type_at t l) ts.0 _)
row_spelled MayDeclarations SOwn l w = (refl, λ ts k. own_spelled l ts.0 ts.1.0 _)
row_spelled MayDeclarations SSwitch l w = (refl, λ ts k. refl)
row_spelled MayDeclarations SProcedure l w = (refl, λ ts k. refl)
row_spelled MayDeclarations _ l w = λ k. refl
row_spelled WantStatement (SName x) l w = (refl, λ ts k. statement_spelled (name_at x l) ts.0 k)
row_spelled WantStatement SBegin l w = (refl, λ ts k. group_spelled l ts.0 ts.1.0 ts.1.1.0 k)
row_spelled WantStatement SGoto l w = (refl, λ ts k. refl)
row_spelled WantStatement SIf l w = (refl, λ ts k. conditional_spelled l ts.0 ts.1.0 ts.1.1.0 k)
row_spelled WantStatement SFor l w = (refl, λ ts k. ap (λ (s : List Symbol). word For l ∷ ident ts.0 ∷ word Becomes ts.1.0 ∷ s) (turns_spelled ts.1.1.0 ts.1.1.1.0 _))
row_spelled WantStatement _ l w = λ k. refl
row_spelled WantAfterName SColon l w = (refl, λ ts k. refl)
row_spelled WantAfterName SBecomes l w = (refl, λ ts k. refl)
row_spelled WantAfterName SLeftBracket l w = (refl, λ ts k. refl)
row_spelled WantAfterName SLeftParenthesis l w = (refl, λ ts k. refl)
row_spelled WantAfterName _ l w = λ k. refl
row_spelled WantBranch (SName x) l w = (refl, λ ts k. branch_spelled (name_at x l) ts.0 k)
row_spelled WantBranch SBegin l w = (refl, λ ts k. group_spelled l ts.0 ts.1.0 ts.1.1.0 (spell_may_else ts.1.1.1.0 k))
row_spelled WantBranch SGoto l w = (refl, λ ts k. refl)
row_spelled WantBranch SFor l w = (refl, λ ts k. ap (λ (s : List Symbol). word For l ∷ ident ts.0 ∷ word Becomes ts.1.0 ∷ s) (turns_spelled ts.1.1.0 ts.1.1.1.0 _))
row_spelled WantBranch SElse l w = (refl, λ ts k. refl)
row_spelled WantBranch SIf l w = tt
row_spelled WantBranch _ l w = λ k. refl
row_spelled WantAfterBranchName SColon l w = (refl, λ ts k. refl)
row_spelled WantAfterBranchName SBecomes l w = (refl, λ ts k. refl)
row_spelled WantAfterBranchName SLeftBracket l w = (refl, λ ts k. refl)
row_spelled WantAfterBranchName SLeftParenthesis l w = (refl, λ ts k. refl)
row_spelled WantAfterBranchName SElse l w = (refl, λ ts k. refl)
row_spelled WantAfterBranchName _ l w = λ k. refl
row_spelled MayElse SElse l w = (refl, λ ts k. refl)
row_spelled MayElse _ l w = λ k. refl
row_spelled MayStep SStep l w = (refl, λ ts k. refl)
row_spelled MayStep SWhile l w = (refl, λ ts k. refl)
row_spelled MayStep _ l w = λ k. refl
row_spelled WantTurns SComma l w = (refl, λ ts k. ap (λ (s : List Symbol). word Comma l ∷ s) (turns_spelled ts.0 ts.1.0 _))
row_spelled WantTurns SDo l w = (refl, λ ts k. refl)
row_spelled WantTurns _ l w = tt
row_spelled WantStatements SSemicolon l w = (refl, λ ts k. refl)
row_spelled WantStatements SEnd l w = (refl, λ ts k. refl)
row_spelled WantStatements _ l w = tt
row_spelled WantProgram (SName x) l w = (refl, λ ts k. program_spelled (label_at (name_at x l) ts.0) ts.1.0 k)
row_spelled WantProgram SBegin l w = (refl, λ ts k. group_spelled l ts.0 ts.1.0 ts.1.1.0 (word TextEnd ts.1.1.1.0 ∷ k))
row_spelled WantProgram _ l w = tt
