-- What stands when a part of the text has been read: its text 4, its own declarations before those behind it, and its entries.
use Rattle.std.proofs.Common.{◌≡◌, ◌∙◌, ◌+◌, ◌++◌, ℕ, List, [], ◌∷◌, length, refl, sym as back, ap, arith, subst}
use Rattle.std.specs.Prelude.{⊤}
use Rattle.gier_symbol.specs.declared.symbol.Symbol.{Symbol}
use Rattle.gier_symbol.specs.declared.tag.Tag.TheVariants.{LabelColon}
use Rattle.gier_symbol.specs.ByTag.{word}
use Rattle.gier_tree.specs.Declaring.{own_names}
use Rattle.gier_tree.specs.Entries.{declaration_entries, label_entries}
use Rattle.gier_tree.specs.Hoist.{without_own}
use Rattle.gier_tree.specs.OwnCount.{count_owns, owns_of_declaration, owns_of_declarations, owns_of_statement}
use Rattle.gier_tree.specs.Texts.{all_entries, declares, text_labels}
use Rattle.gier_tree.specs.Trees.{Name, LabelPlace, Declaration, DeclareOwn, DeclareOwnArrays, Declarations, Statement}
use Rattle.gier_written.proofs.HoistedStatements.{app_declaration, app_declarations, app_statement}
use Rattle.gier_text4.specs.PurePass.{step}
use Rattle.gier_text4.specs.State.{Frame, FrameBegin, put}
use Rattle.gier_text4.proofs.Copying.{fold_written, Copies, copies}
use Rattle.gier_text4.proofs.Calm.{calm}
use Rattle.gier_text4.proofs.DeclaredVariables.{hoisted_variables}
use Rattle.gier_text4.proofs.OwnArrays.{hoisted_arrays}

-- own declarations as the block around the program has them, and their entries; numbered from i
abbrev pub hoisted_one : Declaration → (i : ℕ) → List Symbol → List Symbol
hoisted_one (DeclareOwn l t ns) i r = hoisted_variables t.type t.line ns i r
hoisted_one (DeclareOwnArrays k t l s ss) i r = hoisted_arrays t.type t.line l s ss i r
hoisted_one x i r = r

abbrev pub hoisted_text : List Declaration → (i : ℕ) → List Symbol → List Symbol
hoisted_text [] i r = r
hoisted_text (x ∷ xs) i r = hoisted_one x i (hoisted_text xs (i + length (own_names x)) r)

abbrev pub hoisted_entries : List Declaration → (i : ℕ) → List Symbol → List Symbol
hoisted_entries [] i r = r
hoisted_entries (x ∷ xs) i r = all_entries (declaration_entries (without_own x i)) 0 (hoisted_entries xs (i + length
    (own_names x)) r)

abbrev pub Stands : (os : List Name) → Frame → (d w read written : List Symbol) → (owns : List Declaration) → (i : ℕ)
    → (e : List Symbol) → (es : List (List Symbol)) → Type 0
Stands os fr d w k o r i e es = fold_written os k ≡ calm o (hoisted_text r i d) (e ∷ es) (hoisted_entries r i w) fr

-- where there are own declarations, there is a block around the program
abbrev pub IsFramed : Frame → List Declaration → Type 0
IsFramed fr [] = ⊤
IsFramed fr (x ∷ xs) = fr ≡ FrameBegin

framed_by : (fr : Frame) (r : List Declaration) → fr ≡ FrameBegin → IsFramed fr r
framed_by fr [] e = tt
framed_by fr (x ∷ xs) e = e

framed_rest : (fr : Frame) (a r : List Declaration) → IsFramed fr (a ++ r) → IsFramed fr r
framed_rest fr [] r f = f
framed_rest fr (x ∷ xs) r f = framed_by fr r f

pub behind_declaration_framed : (fr : Frame) (x : Declaration) (r : List Declaration) → IsFramed fr (owns_of_declaration x r)
    → IsFramed fr r
behind_declaration_framed fr x r f = framed_rest fr (owns_of_declaration x []) r (subst (IsFramed fr) (app_declaration x [] r) f)

pub behind_declarations_framed : (fr : Frame) (x : Declarations) (r : List Declaration) → IsFramed fr (owns_of_declarations x r)
    → IsFramed fr r
behind_declarations_framed fr x r f = framed_rest fr (owns_of_declarations x []) r (subst (IsFramed fr) (app_declarations x [] r) f)

pub behind_statement_framed : (fr : Frame) (x : Statement) (r : List Declaration) → IsFramed fr (owns_of_statement x r)
    → IsFramed fr r
behind_statement_framed fr x r f = framed_rest fr (owns_of_statement x []) r (subst (IsFramed fr) (app_statement x [] r) f)

-- counts of own quantities
count_app : (a b : List Declaration) → count_owns (a ++ b) ≡ count_owns a + count_owns b
count_app [] b = omega arith
count_app (x ∷ a) b = omega (arith, count_app a b)

pub count_statement : (s : Statement) (r : List Declaration)
    → count_owns (owns_of_statement s r) ≡ count_owns (owns_of_statement s []) + count_owns r
count_statement s r = ap count_owns (app_statement s [] r) ∙ count_app (owns_of_statement s []) r

pub count_declaration : (s : Declaration) (r : List Declaration)
    → count_owns (owns_of_declaration s r) ≡ count_owns (owns_of_declaration s []) + count_owns r
count_declaration s r = ap count_owns (app_declaration s [] r) ∙ count_app (owns_of_declaration s []) r

pub count_declarations : (s : Declarations) (r : List Declaration)
    → count_owns (owns_of_declarations s r) ≡ count_owns (owns_of_declarations s []) + count_owns r
count_declarations s r = ap count_owns (app_declarations s [] r) ∙ count_app (owns_of_declarations s []) r

-- a part without own declarations, and one that is copied
pub moved : (os : List Name) (fr : Frame) (d w k o : List Symbol) (r : List Declaration) (i j : ℕ) (e : List Symbol)
    (es : List (List Symbol)) → j ≡ i → Stands os fr d w k o r j e es → Stands os fr d w k o r i e es
moved os fr d w k o r i j e es n h = subst (λ z. Stands os fr d w k o r z e es) n h

pub same_at : (os : List Name) (fr : Frame) (d w k o : List Symbol) (r : List Declaration) (i j : ℕ) (e : List Symbol)
    (es : List (List Symbol)) → j ≡ i + 0 → Stands os fr d w k o r j e es → Stands os fr d w k o r i e es
same_at os fr d w k o r i j e es n h = moved os fr d w k o r i j e es (omega (arith, n)) h

pub copied_at : (os : List Name) (g g' : List Symbol → List Symbol) → Copies os g g' → (fr : Frame) (d w k o : List Symbol)
    (r : List Declaration) (i : ℕ) (e : List Symbol) (es : List (List Symbol)) → Stands os fr d w k o r i e es
    → Stands os fr d w (g k) (g' o) r i e es
copied_at os g g' c fr d w k o r i e es h = copies os g g' c k ∙ ap (put g') h

-- labels
pub labels_declared : (os : List Name) (ls : List LabelPlace) (k o d e : List Symbol) (es : List (List Symbol)) (w : List Symbol)
    (fr : Frame) → fold_written os k ≡ calm o d (e ∷ es) w fr
    → fold_written os (text_labels ls k) ≡ calm (text_labels ls o) d (all_entries (label_entries ls) 0 e ∷ es) w fr
labels_declared os [] k o d e es w fr h = h
labels_declared os (l ∷ ls) k o d e es w fr h =
    ap (λ c. step (declares l.name) (step (word LabelColon l.colon) c)) (labels_declared os ls k o d e es w fr h)

labels_app : (a b : List LabelPlace) (r : List Symbol)
    → all_entries (label_entries (a ++ b)) 0 r ≡ all_entries (label_entries a) 0 (all_entries (label_entries b) 0 r)
labels_app [] b r = refl
labels_app (x ∷ a) b r = ap (λ z. all_entries (label_entries (x ∷ [])) 0 z) (labels_app a b r)

pub labelled : (os : List Name) (fr : Frame) (d w k o : List Symbol) (r : List Declaration) (i : ℕ) (ls b : List LabelPlace)
    (e : List Symbol) (es : List (List Symbol)) → Stands os fr d w k o r i (all_entries (label_entries b) 0 e) es
    → Stands os fr d w (text_labels ls k) (text_labels ls o) r i (all_entries (label_entries (ls ++ b)) 0 e) es
labelled os fr d w k o r i ls b e es h =
    labels_declared os ls k o (hoisted_text r i d) (all_entries (label_entries b) 0 e) es (hoisted_entries r i w) fr h
    ∙ ap (λ z. calm (text_labels ls o) (hoisted_text r i d) (z ∷ es) (hoisted_entries r i w) fr) (back (labels_app ls b e))
