-- What completes a program that is begun: for each item that is wanted, symbols that it takes and that nothing above it takes.
use Rattle.std.proofs.Common.{◌≡◌, ◌∙◌, ℕ, Bool, true, false, List, [], ◌∷◌, ◌++◌, refl, ap}
use Rattle.std.specs.Prelude.{◌&&◌}
use Rattle.std.proofs.lemmas.Bool.{false≢true}
use Rattle.gier_symbol.specs.declared.symbol.Symbol.{Symbol}
use Rattle.gier_symbol.specs.declared.tag.Tag.TheVariants.{Identifier, Number, StringEnd, TextEnd, Colon, Semicolon, Becomes, LeftParenthesis, RightParenthesis, LeftBracket, RightBracket, Begin, End, Then, Else, Until, Do, Integer}
use Rattle.gier_symbol.specs.ByTag.{sym as symbol, word}
use Rattle.gier_tree.specs.Signs.{Sign, STextEnd, SAdding, SMultiplying, SPower, SComparing, SNot, SAnd, SOr, SImpl, SEquiv, SComma, SColon, SSemicolon, SBecomes, SRightParenthesis, SLeftBracket, SThen, SElse, SStep, SUntil, SWhile, SType, SArray, SSwitch, SProcedure, SString, SLabel, SValue, SOwn, sign_of}
use Rattle.gier_tree.specs.Wanted.{Item, Want, WantName, WantNumber, WantExpr, WantSimple, MayNot, MaySign, WantPrimary, MayPower, MayTimes, MaySum, MayRelation, MayAnd, MayOr, MayImpl, MayEquiv, MayPart, WantSubscripts, WantActual, WantActuals, WantBytes, WantRight, WantAfterRight, WantAfterElement, MayNames, MayExprs, WantType, WantAfterType, WantAfterOwnType, WantSegment, WantPairs, MaySegments, WantConstant, WantFixed, WantFurther, MayFixed, MayFormals, MayValues, MaySpecifications, MayWord, MayDeclarations, WantStatement, WantAfterName, WantBranch, WantAfterBranchName, MayElse, MayStep, WantTurns, WantStatements, WantProgram, tail_items}
use Rattle.gier_tree.specs.Structure.{step_sign}
use Rattle.gier_pass3.proofs.Runs.{run, then_run}

-- signs that items which may be nothing don't take, but for those below
abbrev pub is_safe : Sign → Bool
is_safe SNot = false
is_safe (SAdding o) = false
is_safe (SMultiplying o) = false
is_safe SPower = false
is_safe (SComparing o) = false
is_safe SAnd = false
is_safe SOr = false
is_safe SImpl = false
is_safe SEquiv = false
is_safe SComma = false
is_safe SStep = false
is_safe SWhile = false
is_safe (SType t) = false
is_safe SArray = false
is_safe SSwitch = false
is_safe SProcedure = false
is_safe SString = false
is_safe SLabel = false
is_safe SValue = false
is_safe SOwn = false
is_safe _ = true

-- items that stand below others; the sign of an item is one of nine
abbrev pub is_plain : Item → Bool
is_plain (Want SColon) = true
is_plain (Want SSemicolon) = true
is_plain (Want SBecomes) = true
is_plain (Want SRightParenthesis) = true
is_plain (Want SLeftBracket) = true
is_plain (Want SThen) = true
is_plain (Want SElse) = true
is_plain (Want SUntil) = true
is_plain (Want g) = false
is_plain WantType = false
is_plain WantProgram = false
is_plain _ = true

-- symbols that complete an item, before more
abbrev group : List Symbol → List Symbol
group k = word Begin 0 ∷ word End 0 ∷ k

abbrev pub fill_of : Item → List Symbol → List Symbol
fill_of (Want SColon) k = word Colon 0 ∷ k
fill_of (Want SSemicolon) k = word Semicolon 0 ∷ k
fill_of (Want SBecomes) k = word Becomes 0 ∷ k
fill_of (Want SRightParenthesis) k = word RightParenthesis 0 ∷ k
fill_of (Want SLeftBracket) k = word LeftBracket 0 ∷ k
fill_of (Want SThen) k = word Then 0 ∷ k
fill_of (Want SElse) k = word Else 0 ∷ k
fill_of (Want SUntil) k = word Until 0 ∷ k
fill_of (Want STextEnd) k = word TextEnd 0 ∷ k
fill_of WantName k = symbol Identifier 0 0 ∷ k
fill_of WantNumber k = symbol Number 0 0 ∷ k
fill_of WantExpr k = symbol Number 0 0 ∷ k
fill_of WantSimple k = symbol Number 0 0 ∷ k
fill_of WantPrimary k = symbol Number 0 0 ∷ k
fill_of MayPart k = word LeftParenthesis 0 ∷ symbol Number 0 0 ∷ word RightParenthesis 0 ∷ k
fill_of WantSubscripts k = word RightBracket 0 ∷ k
fill_of WantActual k = symbol Number 0 0 ∷ k
fill_of WantActuals k = word RightParenthesis 0 ∷ k
fill_of WantBytes k = word StringEnd 0 ∷ k
fill_of WantRight k = symbol Number 0 0 ∷ k
fill_of WantAfterRight k = word LeftParenthesis 0 ∷ symbol Number 0 0 ∷ word RightParenthesis 0 ∷ k
fill_of WantAfterElement k = word Becomes 0 ∷ symbol Number 0 0 ∷ k
fill_of WantType k = word Integer 0 ∷ k
fill_of WantAfterType k = symbol Identifier 0 0 ∷ k
fill_of WantAfterOwnType k = symbol Identifier 0 0 ∷ k
fill_of WantSegment k = symbol Identifier 0 0 ∷ word LeftBracket 0 ∷ symbol Number 0 0 ∷ word Colon 0 ∷ symbol Number 0 0 ∷ word RightBracket 0 ∷ k
fill_of WantPairs k = word RightBracket 0 ∷ k
fill_of WantConstant k = symbol Number 0 0 ∷ k
fill_of WantFixed k = symbol Identifier 0 0 ∷ word LeftBracket 0 ∷ symbol Number 0 0 ∷ word Colon 0 ∷ symbol Number 0 0 ∷ word RightBracket 0 ∷ k
fill_of (WantFurther n) k = word RightBracket 0 ∷ k
fill_of MayFormals k = word LeftParenthesis 0 ∷ symbol Identifier 0 0 ∷ word RightParenthesis 0 ∷ k
fill_of WantStatement k = group k
fill_of WantAfterName k = word Colon 0 ∷ group k
fill_of WantBranch k = word Else 0 ∷ group k
fill_of WantAfterBranchName k = word Else 0 ∷ group k
fill_of MayElse k = word Else 0 ∷ group k
fill_of WantTurns k = word Do 0 ∷ k
fill_of WantStatements k = word End 0 ∷ k
fill_of WantProgram k = word Begin 0 ∷ word End 0 ∷ word TextEnd 0 ∷ k
fill_of _ k = k

abbrev pub fill : List Item → List Symbol
fill [] = []
fill (i ∷ st) = fill_of i (fill st)

-- at the bottom stands a program or the end of the text, and above it plain items
abbrev pub is_deep : List Item → Bool
is_deep [] = false
is_deep (Want STextEnd ∷ []) = true
is_deep (WantProgram ∷ []) = true
is_deep (i ∷ st) = is_plain i && is_deep st

-- on top may stand a type
abbrev pub is_good : List Item → Bool
is_good (WantType ∷ st) = is_deep st
is_good st = is_deep st

abbrev pub IsSafe : List Symbol → Type 0
IsSafe [] = ⊥
IsSafe (s ∷ k) = is_safe (sign_of s) ≡ true

-- an item that may be nothing is nothing before a safe sign
abbrev passes : Item → Bool
passes MayNot = true
passes MaySign = true
passes MayPower = true
passes MayTimes = true
passes MaySum = true
passes MayRelation = true
passes MayAnd = true
passes MayOr = true
passes MayImpl = true
passes MayEquiv = true
passes MayNames = true
passes MayExprs = true
passes MaySegments = true
passes MayFixed = true
passes MayValues = true
passes MaySpecifications = true
passes MayWord = true
passes MayDeclarations = true
passes MayStep = true
passes _ = false

passed_sign : (g : Sign) (i : Item) (l : ℕ) (st : List Item) → is_safe g ≡ true → passes i ≡ true → step_sign g l (i ∷ st) ≡ step_sign g l st
passed_sign SNot i l st h p = absurd (false≢true h)
passed_sign (SAdding o) i l st h p = absurd (false≢true h)
passed_sign (SMultiplying o) i l st h p = absurd (false≢true h)
passed_sign SPower i l st h p = absurd (false≢true h)
passed_sign (SComparing o) i l st h p = absurd (false≢true h)
passed_sign SAnd i l st h p = absurd (false≢true h)
passed_sign SOr i l st h p = absurd (false≢true h)
passed_sign SImpl i l st h p = absurd (false≢true h)
passed_sign SEquiv i l st h p = absurd (false≢true h)
passed_sign SComma i l st h p = absurd (false≢true h)
passed_sign SStep i l st h p = absurd (false≢true h)
passed_sign SWhile i l st h p = absurd (false≢true h)
passed_sign (SType t) i l st h p = absurd (false≢true h)
passed_sign SArray i l st h p = absurd (false≢true h)
passed_sign SSwitch i l st h p = absurd (false≢true h)
passed_sign SProcedure i l st h p = absurd (false≢true h)
passed_sign SString i l st h p = absurd (false≢true h)
passed_sign SLabel i l st h p = absurd (false≢true h)
passed_sign SValue i l st h p = absurd (false≢true h)
passed_sign SOwn i l st h p = absurd (false≢true h)
passed_sign _ MayNot l st h p = refl
passed_sign _ MaySign l st h p = refl
passed_sign _ MayPower l st h p = refl
passed_sign _ MayTimes l st h p = refl
passed_sign _ MaySum l st h p = refl
passed_sign _ MayRelation l st h p = refl
passed_sign _ MayAnd l st h p = refl
passed_sign _ MayOr l st h p = refl
passed_sign _ MayImpl l st h p = refl
passed_sign _ MayEquiv l st h p = refl
passed_sign _ MayNames l st h p = refl
passed_sign _ MayExprs l st h p = refl
passed_sign _ MaySegments l st h p = refl
passed_sign _ MayFixed l st h p = refl
passed_sign _ MayValues l st h p = refl
passed_sign _ MaySpecifications l st h p = refl
passed_sign _ MayWord l st h p = refl
passed_sign _ MayDeclarations l st h p = refl
passed_sign _ MayStep l st h p = refl
passed_sign _ _ l st h p = absurd (false≢true p)

passed : (k : List Symbol) (i : Item) (st : List Item) → IsSafe k → passes i ≡ true → run k (i ∷ st) ≡ run k st
passed [] i st h p = absurd h
passed (s ∷ k) i st h p = ap (λ o. then_run o (run k)) (passed_sign (sign_of s) i s.line st h p)

-- nothing stands behind a first operand
tails_passed : (k : List Symbol) (st : List Item) → IsSafe k → run k (tail_items ++ st) ≡ run k st
tails_passed k st h =
    passed k MayPower (MayTimes ∷ MaySum ∷ MayRelation ∷ MayAnd ∷ MayOr ∷ MayImpl ∷ MayEquiv ∷ st) h refl
    ∙ passed k MayTimes (MaySum ∷ MayRelation ∷ MayAnd ∷ MayOr ∷ MayImpl ∷ MayEquiv ∷ st) h refl
    ∙ passed k MaySum (MayRelation ∷ MayAnd ∷ MayOr ∷ MayImpl ∷ MayEquiv ∷ st) h refl
    ∙ passed k MayRelation (MayAnd ∷ MayOr ∷ MayImpl ∷ MayEquiv ∷ st) h refl
    ∙ passed k MayAnd (MayOr ∷ MayImpl ∷ MayEquiv ∷ st) h refl
    ∙ passed k MayOr (MayImpl ∷ MayEquiv ∷ st) h refl
    ∙ passed k MayImpl (MayEquiv ∷ st) h refl
    ∙ passed k MayEquiv st h refl

-- what completes an item before more leaves the items below it
pub filled : (i : Item) (k : List Symbol) (st : List Item) → is_plain i ≡ true → IsSafe k → run (fill_of i k) (i ∷ st) ≡ run k st
filled (Want SColon) k st p h = refl
filled (Want SSemicolon) k st p h = refl
filled (Want SBecomes) k st p h = refl
filled (Want SRightParenthesis) k st p h = refl
filled (Want SLeftBracket) k st p h = refl
filled (Want SThen) k st p h = refl
filled (Want SElse) k st p h = refl
filled (Want SUntil) k st p h = refl
filled (Want g) k st p h = absurd (false≢true p)
filled WantType k st p h = absurd (false≢true p)
filled WantProgram k st p h = absurd (false≢true p)
filled WantExpr k st p h = tails_passed k st h
filled WantSimple k st p h = tails_passed k st h
filled WantActual k st p h = tails_passed k st h
filled WantRight k st p h = tails_passed k st h
filled WantAfterRight k st p h = tails_passed k st h
filled WantAfterElement k st p h = tails_passed k st h
filled WantAfterType k st p h = passed k MayNames st h refl
filled WantAfterOwnType k st p h = passed k MayNames st h refl
filled MayNot k st p h = passed k MayNot st h refl
filled MaySign k st p h = passed k MaySign st h refl
filled MayPower k st p h = passed k MayPower st h refl
filled MayTimes k st p h = passed k MayTimes st h refl
filled MaySum k st p h = passed k MaySum st h refl
filled MayRelation k st p h = passed k MayRelation st h refl
filled MayAnd k st p h = passed k MayAnd st h refl
filled MayOr k st p h = passed k MayOr st h refl
filled MayImpl k st p h = passed k MayImpl st h refl
filled MayEquiv k st p h = passed k MayEquiv st h refl
filled MayNames k st p h = passed k MayNames st h refl
filled MayExprs k st p h = passed k MayExprs st h refl
filled MaySegments k st p h = passed k MaySegments st h refl
filled MayFixed k st p h = passed k MayFixed st h refl
filled MayValues k st p h = passed k MayValues st h refl
filled MaySpecifications k st p h = passed k MaySpecifications st h refl
filled MayWord k st p h = passed k MayWord st h refl
filled MayDeclarations k st p h = passed k MayDeclarations st h refl
filled MayStep k st p h = passed k MayStep st h refl
filled _ k st p h = refl

pub safe_fill : (i : Item) (k : List Symbol) → is_plain i ≡ true → IsSafe k → IsSafe (fill_of i k)
safe_fill (Want SColon) k p h = refl
safe_fill (Want SSemicolon) k p h = refl
safe_fill (Want SBecomes) k p h = refl
safe_fill (Want SRightParenthesis) k p h = refl
safe_fill (Want SLeftBracket) k p h = refl
safe_fill (Want SThen) k p h = refl
safe_fill (Want SElse) k p h = refl
safe_fill (Want SUntil) k p h = refl
safe_fill (Want g) k p h = absurd (false≢true p)
safe_fill WantType k p h = absurd (false≢true p)
safe_fill WantProgram k p h = absurd (false≢true p)
safe_fill MayNot k p h = h
safe_fill MaySign k p h = h
safe_fill MayPower k p h = h
safe_fill MayTimes k p h = h
safe_fill MaySum k p h = h
safe_fill MayRelation k p h = h
safe_fill MayAnd k p h = h
safe_fill MayOr k p h = h
safe_fill MayImpl k p h = h
safe_fill MayEquiv k p h = h
safe_fill MayNames k p h = h
safe_fill MayExprs k p h = h
safe_fill MaySegments k p h = h
safe_fill MayFixed k p h = h
safe_fill MayValues k p h = h
safe_fill MaySpecifications k p h = h
safe_fill MayWord k p h = h
safe_fill MayDeclarations k p h = h
safe_fill MayStep k p h = h
safe_fill _ k p h = refl
