-- A program that is begun can be completed: what the grammar wants is always of a form that symbols fill.
use Rattle.std.proofs.Common.{◌≡◌, ◌∙◌, ℕ, zero, suc, Bool, true, false, List, [], ◌∷◌, ◌++◌, refl, sym, ap, subst}
use Rattle.std.specs.Prelude.{Option, None, Some, ◌&&◌}
use Rattle.std.proofs.lemmas.Bool.{false≢true}
use Rattle.std.proofs.lemmas.Option.{none-some}
use Rattle.gier_symbol.specs.declared.symbol.Symbol.{Symbol}
use Rattle.gier_tree.specs.Trees.{Program}
use Rattle.gier_tree.specs.Signs.{Sign, SName, STextEnd, SBegin, SComma, SType, SColon, SSemicolon, SBecomes, SRightParenthesis, SLeftBracket, SThen, SElse, SUntil, sign_of}
use Rattle.gier_tree.specs.Wanted.{Item, Want, MayNot, WantType, WantFurther, WantProgram}
use Rattle.gier_tree.specs.Taking.{Act, Refuse, Pass, Push, act, want_by, same_sign}
use Rattle.gier_tree.specs.Structure.{next_of, step, step_sign, program_spelled}
use Rattle.gier_pass3.proofs.Bare.{both}
use Rattle.gier_pass3.proofs.EntryWords.{some_same}
use Rattle.gier_pass3.proofs.Runs.{run, then_run, run_append, program_of}
use Rattle.gier_pass3.proofs.Filling.{is_plain, fill, is_deep, is_good, IsSafe, filled, safe_fill}

completed : (st : List Item) → is_deep st ≡ true → IsSafe (fill st) × (run (fill st) st ≡ Some [])
completed [] d = absurd (false≢true d)
completed (Want STextEnd ∷ []) d = (refl, refl)
completed (WantProgram ∷ []) d = (refl, refl)
completed (i ∷ st) d =
    let b = both (is_plain i) (is_deep st) d in
    let r = completed st b.1 in
    (safe_fill i (fill st) b.0 r.0, filled i (fill st) st b.0 r.0 ∙ r.1)

completed_top : (st : List Item) → is_good st ≡ true → run (fill st) st ≡ Some []
completed_top (WantType ∷ st) g = (completed st g).1
completed_top st g = (completed st g).1

-- nothing is wanted, or what can be completed
abbrev pub is_fine : List Item → Bool
is_fine [] = true
is_fine (i ∷ st) = is_good (i ∷ st)

pub completed_fine : (st : List Item) → is_fine st ≡ true → (rest : List Symbol) × (run rest st ≡ Some [])
completed_fine [] f = ([], refl)
completed_fine (i ∷ st) f = (fill (i ∷ st), completed_top (i ∷ st) f)

-- the items that are pushed are plain, but for a type on top
abbrev all_plain : List Item → Bool
all_plain [] = true
all_plain (i ∷ is) = is_plain i && all_plain is

abbrev all_well : List Item → Bool
all_well (WantType ∷ is) = all_plain is
all_well is = all_plain is

abbrev pushes_well : {T : Type 0} → Act T → Bool
pushes_well Refuse = true
pushes_well (Pass t) = true
pushes_well (Push is f) = all_well is

want_well : (same : Bool) (l : ℕ) → pushes_well (want_by same l) ≡ true
want_well true l = refl
want_well false l = refl

row_well : (g : Sign) (i : Item) (l : ℕ) → is_plain i ≡ true → pushes_well (act i g l) ≡ true
row_well g (Want h) l p = want_well (same_sign h g) l
row_well g WantProgram l p = absurd (false≢true p)
row_well SComma (WantFurther zero) l p = refl
row_well SComma (WantFurther (suc n)) l p = refl
row_well SComma _ l p = refl
row_well _ MayNot l p = refl
row_well _ _ l p = refl

type_well : (g : Sign) (l : ℕ) → pushes_well (act WantType g l) ≡ true
type_well (SType t) l = refl
type_well _ l = refl

deep_more : (i : Item) (st : List Item) → is_plain i ≡ true → is_deep st ≡ true → is_deep (i ∷ st) ≡ true
deep_more (Want SColon) st p d = d
deep_more (Want SSemicolon) st p d = d
deep_more (Want SBecomes) st p d = d
deep_more (Want SRightParenthesis) st p d = d
deep_more (Want SLeftBracket) st p d = d
deep_more (Want SThen) st p d = d
deep_more (Want SElse) st p d = d
deep_more (Want SUntil) st p d = d
deep_more (Want g) st p d = absurd (false≢true p)
deep_more WantType st p d = absurd (false≢true p)
deep_more WantProgram st p d = absurd (false≢true p)
deep_more _ st p d = d

deep_append : (is st : List Item) → all_plain is ≡ true → is_deep st ≡ true → is_deep (is ++ st) ≡ true
deep_append [] st p d = d
deep_append (i ∷ is) st p d = let b = both (is_plain i) (all_plain is) p in deep_more i (is ++ st) b.0 (deep_append is st b.1 d)

good_of_deep : (st : List Item) → is_deep st ≡ true → is_good st ≡ true
good_of_deep (WantType ∷ st) d = absurd (false≢true d)
good_of_deep st d = d

fine_of_deep : (st : List Item) → is_deep st ≡ true → is_fine st ≡ true
fine_of_deep [] d = refl
fine_of_deep (i ∷ st) d = good_of_deep (i ∷ st) d

push_fine : (is st : List Item) → all_well is ≡ true → is_deep st ≡ true → is_fine (is ++ st) ≡ true
push_fine (WantType ∷ is) st p d = deep_append is st p d
push_fine [] st p d = fine_of_deep st d
push_fine (i ∷ is) st p d = fine_of_deep (i ∷ is ++ st) (deep_append (i ∷ is) st p d)

act_fine : {T : Type 0} (a : Act T) (st : List Item) (o : Option (List Item)) (next : List Item) → pushes_well a ≡ true → is_deep st ≡ true → (o ≡ Some next → is_fine next ≡ true) → next_of a st o ≡ Some next → is_fine next ≡ true
act_fine Refuse st o next p d go h = absurd (none-some next h)
act_fine (Pass t) st o next p d go h = go h
act_fine (Push is f) st o next p d go h = subst (λ x. is_fine x ≡ true) (some_same (is ++ st) next h) (push_fine is st p d)

end_fine : (same : Bool) (l : ℕ) (o : Option (List Item)) (next : List Item) → o ≡ None → next_of (want_by same l) [] o ≡ Some next → is_fine next ≡ true
end_fine true l o next e h = subst (λ x. is_fine x ≡ true) (some_same [] next h) refl
end_fine false l o next e h = absurd (none-some next h)

program_fine : (g : Sign) (l : ℕ) (next : List Item) → step_sign g l (WantProgram ∷ []) ≡ Some next → is_fine next ≡ true
program_fine (SName x) l next h = subst (λ x. is_fine x ≡ true) (some_same _ next h) refl
program_fine SBegin l next h = subst (λ x. is_fine x ≡ true) (some_same _ next h) refl
program_fine _ l next h = absurd (none-some next h)

step_deep : (g : Sign) (l : ℕ) (st next : List Item) → is_deep st ≡ true → step_sign g l st ≡ Some next → is_fine next ≡ true
step_deep g l [] next d h = absurd (false≢true d)
step_deep g l (Want STextEnd ∷ []) next d h = end_fine (same_sign STextEnd g) l None next refl h
step_deep g l (WantProgram ∷ []) next d h = program_fine g l next h
step_deep g l (i ∷ st) next d h =
    let b = both (is_plain i) (is_deep st) d in
    act_fine (act i g l) st (step_sign g l st) next (row_well g i l b.0) b.1 (λ e. step_deep g l st next b.1 e) h

step_good : (g : Sign) (l : ℕ) (st next : List Item) → is_good st ≡ true → step_sign g l st ≡ Some next → is_fine next ≡ true
step_good g l (WantType ∷ st) next d h = act_fine (act WantType g l) st (step_sign g l st) next (type_well g l) d (λ e. step_deep g l st next d e) h
step_good g l st next d h = step_deep g l st next d h

step_fine : (g : Sign) (l : ℕ) (st next : List Item) → is_fine st ≡ true → step_sign g l st ≡ Some next → is_fine next ≡ true
step_fine g l [] next f h = absurd (none-some next h)
step_fine g l (i ∷ st) next f h = step_good g l (i ∷ st) next f h

run_on : (o : Option (List Item)) (w : List Symbol) (end : List Item) → ((next : List Item) → o ≡ Some next → is_fine next ≡ true) → ((next : List Item) → is_fine next ≡ true → run w next ≡ Some end → is_fine end ≡ true) → then_run o (run w) ≡ Some end → is_fine end ≡ true
run_on None w end fine go h = absurd (none-some end h)
run_on (Some next) w end fine go h = go next (fine next refl) h

pub run_fine : (w : List Symbol) (st end : List Item) → is_fine st ≡ true → run w st ≡ Some end → is_fine end ≡ true
run_fine [] st end f h = subst (λ x. is_fine x ≡ true) (some_same st end h) f
run_fine (s ∷ w) st end f h = run_on (step s st) w end (λ next e. step_fine (sign_of s) s.line st next f e) (λ next g e. run_fine w next end g e) h

-- the symbols that have no fault of structure begin a program
pub record Completion (w : List Symbol) : Type 0 where
  pub rest : List Symbol
  pub program : Program
  pub written : program_spelled (w ++ rest) ≡ Some program

pub completion_of : (w : List Symbol) (end : List Item) → run w (WantProgram ∷ []) ≡ Some end → Completion w
completion_of w end runs =
    let rest = completed_fine end (run_fine w (WantProgram ∷ []) end refl runs) in
    let whole = program_of (w ++ rest.0) (run_append w rest.0 (WantProgram ∷ []) ∙ ap (λ o. then_run o (run rest.0)) runs ∙ rest.1) in
    record { rest = rest.0; program = whole.0; written = whole.1 }

-- behind the end of the text nothing is wanted
abbrev leaves : {T : Type 0} → Act T → Bool
leaves Refuse = true
leaves (Pass t) = true
leaves (Push is f) = false

end_left : (i : Item) (l : ℕ) → is_plain i ≡ true → leaves (act i STextEnd l) ≡ true
end_left (Want SColon) l p = refl
end_left (Want SSemicolon) l p = refl
end_left (Want SBecomes) l p = refl
end_left (Want SRightParenthesis) l p = refl
end_left (Want SLeftBracket) l p = refl
end_left (Want SThen) l p = refl
end_left (Want SElse) l p = refl
end_left (Want SUntil) l p = refl
end_left (Want g) l p = absurd (false≢true p)
end_left WantProgram l p = absurd (false≢true p)
end_left _ l p = refl

act_end : {T : Type 0} (a : Act T) (st : List Item) (o : Option (List Item)) (next : List Item) → leaves a ≡ true → (o ≡ Some next → next ≡ []) → next_of a st o ≡ Some next → next ≡ []
act_end Refuse st o next p go h = absurd (none-some next h)
act_end (Pass t) st o next p go h = go h
act_end (Push is f) st o next p go h = absurd (false≢true p)

end_deep : (l : ℕ) (st next : List Item) → is_deep st ≡ true → step_sign STextEnd l st ≡ Some next → next ≡ []
end_deep l [] next d h = absurd (false≢true d)
end_deep l (Want STextEnd ∷ []) next d h = sym (some_same [] next h)
end_deep l (WantProgram ∷ []) next d h = absurd (none-some next h)
end_deep l (i ∷ st) next d h =
    let b = both (is_plain i) (is_deep st) d in
    act_end (act i STextEnd l) st (step_sign STextEnd l st) next (end_left i l b.0) (λ e. end_deep l st next b.1 e) h

end_good : (l : ℕ) (st next : List Item) → is_good st ≡ true → step_sign STextEnd l st ≡ Some next → next ≡ []
end_good l (WantType ∷ st) next d h = absurd (none-some next h)
end_good l st next d h = end_deep l st next d h

end_empty : (l : ℕ) (st next : List Item) → is_fine st ≡ true → step_sign STextEnd l st ≡ Some next → next ≡ []
end_empty l [] next f h = absurd (none-some next h)
end_empty l (i ∷ st) next f h = end_good l (i ∷ st) next f h

last_step : (o : Option (List Item)) (end : List Item) → then_run o (run []) ≡ Some end → o ≡ Some end
last_step None end h = absurd (none-some end h)
last_step (Some st) end h = h

end_on : (o : Option (List Item)) (s : Symbol) (end : List Item) → sign_of s ≡ STextEnd → ((st : List Item) → o ≡ Some st → is_fine st ≡ true) → then_run o (run (s ∷ [])) ≡ Some end → end ≡ []
end_on None s end e fine h = absurd (none-some end h)
end_on (Some st) s end e fine h = end_empty s.line st end (fine st refl) (ap (λ g. step_sign g s.line st) (sym e) ∙ last_step (step s st) end h)

pub run_end : (before : List Symbol) (s : Symbol) (end : List Item) → sign_of s ≡ STextEnd → run (before ++ s ∷ []) (WantProgram ∷ []) ≡ Some end → end ≡ []
run_end before s end e h = end_on (run before (WantProgram ∷ [])) s end e (λ st r. run_fine before (WantProgram ∷ []) st refl r) (sym (run_append before (s ∷ []) (WantProgram ∷ [])) ∙ h)
