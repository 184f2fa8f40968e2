-- Each row of the table does what the grammar does with the same symbol.
use Rattle.std.proofs.Common.{◌≡◌, ◌-◌, ℕ, zero, suc, Bool, true, false, List, [], ◌∷◌, ◌++◌, refl, sym, ap, arith}
use Rattle.std.specs.Prelude.{None, Some, nat_lt, if◌then◌else◌}
use Rattle.std.proofs.lemmas.Bool.Decides.{nat_tests}
use Rattle.std.proofs.lemmas.Bool.{false≢true}
use Rattle.gier_symbol.specs.declared.symbol.Symbol.{Symbol}
use Rattle.gier_tree.specs.Trees.{Add, Subtract, Multiply, Divide, LessThan, AtMost, EqualTo, AtLeast, MoreThan, Unequal, IntegerType, BooleanType, most_further}
use Rattle.gier_tree.specs.Signs.{Sign, SName, SNumber, SAdding, SMultiplying, SComparing, SLogical, SType, SComma, SColon, SBegin, STextEnd, sign_of, sign_tag}
use Rattle.gier_tree.specs.Wanted.{Item as GrammarItem, Want, WantName, WantNumber, MaySign, WantSegment, MaySegments, WantConstant, WantFixed, MayFixed, WantFurther}
use Rattle.gier_tree.specs.Taking.{segment_items, fixed_items}
use Rattle.gier_tree.specs.Structure.{fault_on, first_refused, step_sign}
use Rattle.gier_grammar.specs.declared.grammar_symbol.GrammarSymbol.{GrammarSymbol}
use Rattle.gier_grammar.specs.declared.grammar_symbol.GrammarSymbol.TheVariants.{Program as GProgram, MorePairs as GMorePairs}
use Rattle.gier_grammar.specs.declared.production.Production.{Production}
use Rattle.gier_grammar.specs.declared.production.Production.TheVariants.{ProgramLabel, Array, Segment, OwnArray, FixedSegment, FirstPair, NextPair, FixedUpper}
use Rattle.gier_grammar.specs.declared.parse_table.ParseAction.{ParseAction}
use Rattle.gier_grammar.specs.declared.parse_table.ParseAction.TheVariants.{Error, Epsilon, Expand}
use Rattle.gier_grammar.specs.Productions.{right_side_of, left_after}
use Rattle.gier_grammar.specs.ParseTable.{parse_action}
use Rattle.gier_pass3.specs.Grammar.{wanted_above, all_above, IsAbove, AreAbove}

-- what the grammar wants where a production took a symbol: it has one item for a segment or a constant, and the pass has its parts
abbrev pub grammar_wants : Production → (left : ℕ) → (below : List GrammarItem) → List GrammarItem
grammar_wants Array left below = WantSegment ∷ MaySegments ∷ below
grammar_wants Segment left below = WantSegment ∷ MaySegments ∷ below
grammar_wants OwnArray left below = WantFixed ∷ MayFixed ∷ below
grammar_wants FixedSegment left below = WantFixed ∷ MayFixed ∷ below
grammar_wants FirstPair left below = WantConstant ∷ Want SColon ∷ WantConstant ∷ WantFurther most_further ∷ below
grammar_wants NextPair left below = WantConstant ∷ Want SColon ∷ WantConstant ∷ WantFurther (left - 1) ∷ below
grammar_wants FixedUpper left below = WantConstant ∷ below
grammar_wants production left below = all_above (right_side_of production) (left_after production left) below

-- what the grammar does with a sign where this is wanted, by what the table does; a label of the program has the end of the text below it
abbrev pub IsRow : ParseAction → Sign → (line left : ℕ) → (whole below : List GrammarItem) → Type 0
IsRow Error s l left whole below = step_sign s l whole ≡ None
IsRow Epsilon s l left whole below = step_sign s l whole ≡ step_sign s l below
IsRow (Expand ProgramLabel) s l left whole below = (step_sign s l whole ≡ Some (grammar_wants ProgramLabel left below)) × (below ≡ Want STextEnd ∷ [])
IsRow (Expand production) s l left whole below = step_sign s l whole ≡ Some (grammar_wants production left below)

some_left : (left : ℕ) → nat_lt 0 (suc left) ≡ true
some_left left = grind (arith, nat_tests)

pair_row : (some : Bool) (l left : ℕ) (below : List GrammarItem) → some ≡ true → IsRow (if some then Expand NextPair else Error) SComma l (suc left) (WantFurther (suc left) ∷ below) below
pair_row true l left below e = let less : suc left - 1 ≡ left = omega arith in rw less refl
pair_row false l left below e = absurd (false≢true e)

pub row : (s : Sign) (i : GrammarSymbol) (l left : ℕ) (below : List GrammarItem) → IsAbove i below → IsRow (parse_action i (sign_tag s) left) s l left (wanted_above i left below) below
row SBegin GProgram l left below e = rw e refl
row (SName x) GProgram l left below e = (refl, e)
row SComma GMorePairs l zero below e = refl
row SComma GMorePairs l (suc left) below e = pair_row (nat_lt 0 (suc left)) l left below (some_left left)
row (SAdding Add) GProgram l left below e = refl
row (SAdding Add) _ l left below e = refl
row (SAdding Subtract) GProgram l left below e = refl
row (SAdding Subtract) _ l left below e = refl
row (SMultiplying Multiply) GProgram l left below e = refl
row (SMultiplying Multiply) _ l left below e = refl
row (SMultiplying Divide) GProgram l left below e = refl
row (SMultiplying Divide) _ l left below e = refl
row (SComparing LessThan) GProgram l left below e = refl
row (SComparing LessThan) _ l left below e = refl
row (SComparing AtMost) GProgram l left below e = refl
row (SComparing AtMost) _ l left below e = refl
row (SComparing EqualTo) GProgram l left below e = refl
row (SComparing EqualTo) _ l left below e = refl
row (SComparing AtLeast) GProgram l left below e = refl
row (SComparing AtLeast) _ l left below e = refl
row (SComparing MoreThan) GProgram l left below e = refl
row (SComparing MoreThan) _ l left below e = refl
row (SComparing Unequal) GProgram l left below e = refl
row (SComparing Unequal) _ l left below e = refl
row (SLogical true) GProgram l left below e = refl
row (SLogical true) _ l left below e = refl
row (SLogical false) GProgram l left below e = refl
row (SLogical false) _ l left below e = refl
row (SType IntegerType) GProgram l left below e = refl
row (SType IntegerType) _ l left below e = refl
row (SType BooleanType) GProgram l left below e = refl
row (SType BooleanType) _ l left below e = refl
row _ GProgram l left below e = refl
row _ _ l left below e = refl

-- nothing is refused in the one place that isn't in the other
abbrev pub SameRefused : (a b : List GrammarItem) → Type 0
SameRefused a b = (w : List Symbol) → first_refused w a ≡ first_refused w b

same_by_step : (a b : List GrammarItem) → ((s : Sign) (l : ℕ) → step_sign s l a ≡ step_sign s l b) → SameRefused a b
same_by_step a b h [] = refl
same_by_step a b h (s ∷ w) = ap (λ o. fault_on o s.line (first_refused w)) (h (sign_of s) s.line)

segment_parts : (s : Sign) (l : ℕ) (st : List GrammarItem) → step_sign s l (WantSegment ∷ st) ≡ step_sign s l (WantName ∷ segment_items ++ st)
segment_parts (SName x) l st = refl
segment_parts _ l st = refl

fixed_parts : (s : Sign) (l : ℕ) (st : List GrammarItem) → step_sign s l (WantFixed ∷ st) ≡ step_sign s l (WantName ∷ fixed_items ++ st)
fixed_parts (SName x) l st = refl
fixed_parts _ l st = refl

constant_parts : (s : Sign) (l : ℕ) (st : List GrammarItem) → step_sign s l (WantConstant ∷ st) ≡ step_sign s l (MaySign ∷ WantNumber ∷ st)
constant_parts (SNumber v) l st = refl
constant_parts (SAdding o) l st = refl
constant_parts _ l st = refl

pub same_wants : (production : Production) (left : ℕ) (below : List GrammarItem) → SameRefused (grammar_wants production left below) (all_above (right_side_of production) (left_after production left) below)
same_wants Array left below = same_by_step _ _ (λ s l. segment_parts s l (MaySegments ∷ below))
same_wants Segment left below = same_by_step _ _ (λ s l. segment_parts s l (MaySegments ∷ below))
same_wants OwnArray left below = same_by_step _ _ (λ s l. fixed_parts s l (MayFixed ∷ below))
same_wants FixedSegment left below = same_by_step _ _ (λ s l. fixed_parts s l (MayFixed ∷ below))
same_wants FirstPair left below = same_by_step _ _ (λ s l. constant_parts s l (Want SColon ∷ WantConstant ∷ WantFurther most_further ∷ below))
same_wants NextPair left below = same_by_step _ _ (λ s l. constant_parts s l (Want SColon ∷ WantConstant ∷ WantFurther (left - 1) ∷ below))
same_wants FixedUpper left below = same_by_step _ _ (λ s l. constant_parts s l below)
same_wants _ left below = λ w. refl

-- what a production did
pub row_taken : (production : Production) (s : Sign) (l left : ℕ) (whole below : List GrammarItem) → IsRow (Expand production) s l left whole below → step_sign s l whole ≡ Some (grammar_wants production left below)
row_taken ProgramLabel s l left whole below h = h.0
row_taken _ s l left whole below h = h

abbrev has_program : List GrammarSymbol → Bool
has_program [] = false
has_program (GProgram ∷ items) = true
has_program (item ∷ items) = has_program items

no_program : (items : List GrammarSymbol) (left : ℕ) (below : List GrammarItem) → has_program items ≡ false → AreAbove items left below
no_program [] left below h = tt
no_program (GProgram ∷ items) left below h = absurd (false≢true (sym h))
no_program (_ ∷ items) left below h = (tt, no_program items left below h)

pub row_above : (production : Production) (s : Sign) (l left : ℕ) (whole below : List GrammarItem) → IsRow (Expand production) s l left whole below → AreAbove (right_side_of production) (left_after production left) below
row_above ProgramLabel s l left whole below h = (tt, (h.1, tt))
row_above production s l left whole below h = no_program (right_side_of production) (left_after production left) below refl
