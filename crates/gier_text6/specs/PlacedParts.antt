-- The faults of types of the parts of declarations and statements that hold expressions, with their positions in text 5: targets,
-- bounds, elements of for lists. A fault of a part falls on the symbol before it, which has this position and line.
use Rattle.std.specs.Prelude.{◌++◌, ℕ, suc, not, List, [], ◌∷◌}
use Rattle.gier_tree.specs.Places.{Places}
use Rattle.gier_tree.specs.Trees.{NextName, Names, MkNames, Segment, MkSegment, Expr, Exprs, NoExprs, MoreExprs, BoundPair}
use Rattle.gier_tree.specs.Trees.{MkPair, NextPair, Turns, OneValue, StepUntil, WhileTrue, NextTurns}
use Rattle.gier_kinds.specs.ExprFaults.{most_subscripts, too_long}
use Rattle.gier_kinds.specs.ExprTypes.{type_expr}
use Rattle.gier_kinds.specs.Faults.{TypeFault, WrongBound, WrongElement, WrongCondition, WrongTarget, falls}
use Rattle.gier_kinds.specs.Types.{ExprType, OfInteger, OfBoolean, OfLabel, agree}
use Rattle.gier_text.specs.declared.fault.Fault.{Fault}
use Rattle.gier_fair.specs.Described.{described}
use Rattle.gier_text6.specs.PlacedExpressions.{placed_expr}
use Rattle.gier_text6.specs.PlacedFaults.{on_place}
use Rattle.gier_text6.specs.Positions.{after_expr}

-- an expression that has to be of a type, at this position
abbrev pub wanted_kinds : Places → ExprType → TypeFault → Expr → List TypeFault
wanted_kinds p t kind e = falls (not (agree t (type_expr (described p) e))) kind

abbrev pub placed_wanted : Places → List TypeFault → Expr → (position line start : ℕ) → List Fault
placed_wanted p kinds e q l n = on_place q l kinds ++ placed_expr p e n

-- between its marks, behind the symbol at this position
abbrev pub within_mark : ℕ → ℕ
within_mark q = suc (suc q)

abbrev pub after_marked : Places → Expr → ℕ → ℕ
after_marked p e q = suc (after_expr p e (within_mark q))

-- targets: of a go to, whose word has the position, and the elements of a switch
abbrev pub after_jump : Places → Expr → ℕ → ℕ
after_jump p e n = suc (after_expr p e (suc (suc n)))

abbrev pub placed_jump : Places → (line : ℕ) → Expr → ℕ → List Fault
placed_jump p l e n = placed_wanted p (wanted_kinds p OfLabel WrongTarget e) e (suc n) l (suc (suc n))

abbrev pub placed_target : Places → Expr → (position line : ℕ) → List Fault
placed_target p e q l = placed_wanted p (wanted_kinds p OfLabel WrongTarget e) e q l (within_mark q)

abbrev pub after_targets : Places → Exprs → ℕ → ℕ
after_targets p NoExprs n = n
after_targets p (MoreExprs l e es) n = after_targets p es (after_marked p e n)

abbrev pub placed_targets : Places → Exprs → ℕ → List Fault
placed_targets p NoExprs n = []
placed_targets p (MoreExprs l e es) n = placed_target p e n l ++ placed_targets p es (after_marked p e n)

-- bounds; behind so many pairs a list is too long
abbrev pub placed_bound : Places → List TypeFault → Expr → (position line : ℕ) → List Fault
placed_bound p kinds e q l = placed_wanted p (kinds ++ wanted_kinds p OfInteger WrongBound e) e q l (within_mark q)

abbrev pub after_pair : Places → BoundPair → ℕ → ℕ
after_pair p (MkPair a l b) q = after_marked p b (after_marked p a q)

abbrev pub placed_pair : Places → List TypeFault → BoundPair → (position line : ℕ) → List Fault
placed_pair p kinds (MkPair a l b) q i = placed_bound p kinds a q i ++ placed_bound p [] b (after_marked p a q) l

abbrev pub after_pairs : Places → List NextPair → ℕ → ℕ
after_pairs p [] n = n
after_pairs p (next ∷ ps) n = after_pairs p ps (after_pair p next.pair n)

abbrev pub placed_pairs : Places → (before : ℕ) → List NextPair → ℕ → List Fault
placed_pairs p before [] n = []
placed_pairs p before (next ∷ ps) n =
    placed_pair p (too_long most_subscripts before) next.pair n next.comma
    ++ placed_pairs p (suc before) ps (after_pair p next.pair n)

-- identifiers, and a segment of an array declaration from its mark on
abbrev pub after_next_names : List NextName → ℕ → ℕ
after_next_names [] n = n
after_next_names (x ∷ xs) n = after_next_names xs (suc (suc n))

abbrev pub after_names : Names → ℕ → ℕ
after_names (MkNames x xs) n = after_next_names xs (suc n)

abbrev pub after_segment : Places → Segment → ℕ → ℕ
after_segment p (MkSegment ns l b bs m) n = suc (suc (after_pairs p bs (after_pair p b (after_names ns (suc n)))))

abbrev pub placed_segment : Places → Segment → ℕ → List Fault
placed_segment p (MkSegment ns l b bs m) n =
    let q = after_names ns (suc n) in
    placed_pair p [] b q l ++ placed_pairs p 1 bs (after_pair p b q)

-- an element of a for list, behind the symbol at this position
abbrev pub after_turns : Places → Turns → ℕ → ℕ
after_turns p (OneValue e) q = after_marked p e q
after_turns p (StepUntil a l b m c) q =
    suc (after_expr p c (suc (after_expr p b (suc (after_expr p a (within_mark q))))))
after_turns p (WhileTrue e l c) q = suc (after_expr p c (suc (after_expr p e (within_mark q))))

abbrev pub placed_turn : Places → Expr → (position line start : ℕ) → List Fault
placed_turn p e q l n = placed_wanted p (wanted_kinds p OfInteger WrongElement e) e q l n

abbrev pub placed_turns : Places → Turns → (position line : ℕ) → List Fault
placed_turns p (OneValue e) q i = placed_turn p e q i (within_mark q)
placed_turns p (StepUntil a l b m c) q i =
    let n1 = after_expr p a (within_mark q) in
    let n2 = after_expr p b (suc n1) in
    placed_turn p a q i (within_mark q) ++ placed_turn p b n1 l (suc n1) ++ placed_turn p c n2 m (suc n2)
placed_turns p (WhileTrue e l c) q i =
    let n1 = after_expr p e (within_mark q) in
    placed_turn p e q i (within_mark q) ++ placed_wanted p (wanted_kinds p OfBoolean WrongCondition c) c n1 l (suc n1)

abbrev pub after_next_turns : Places → List NextTurns → ℕ → ℕ
after_next_turns p [] n = n
after_next_turns p (next ∷ us) n = after_next_turns p us (after_turns p next.turns n)

abbrev pub placed_next_turns : Places → List NextTurns → ℕ → List Fault
placed_next_turns p [] n = []
placed_next_turns p (next ∷ us) n =
    placed_turns p next.turns n next.comma ++ placed_next_turns p us (after_turns p next.turns n)
