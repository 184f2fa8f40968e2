-- Declarations of variables, own ones and others.
use Rattle.std.proofs.Common.{◌≡◌, ◌∙◌, ℕ, List, [], ◌∷◌, refl, ap}
use Rattle.std.specs.Prelude.{map}
use Rattle.gier_symbol.specs.declared.symbol.Symbol.{Symbol}
use Rattle.gier_symbol.specs.declared.tag.Tag.TheVariants.{Declaring, Own, Semicolon}
use Rattle.gier_symbol.specs.ByTag.{word}
use Rattle.gier_tree.specs.declared.construct.Construct.TheVariants.{TypeDeclaration as MType}
use Rattle.gier_tree.specs.Declaring.{list_of}
use Rattle.gier_tree.specs.Entries.{entry}
use Rattle.gier_tree.specs.Hoist.{fresh, fresh_names}
use Rattle.gier_tree.specs.Lines.{last_name}
use Rattle.gier_tree.specs.Spell.{type_tag}
use Rattle.gier_tree.specs.Texts.{all_entries, own_entries, names_as, owns_as}
use Rattle.gier_tree.specs.Trees.{Name, Names, MkNames, ValueType, IntegerType, BooleanType}
use Rattle.gier_tree.specs.Written.{opens, shuts}
use Rattle.gier_text4.specs.PurePass.{step, waiting}
use Rattle.gier_text4.specs.State.{NotOwn, MayBeOwn, IsOwn, Frame, NoFrame, WholeFrame, FrameBegin, InType}
use Rattle.gier_text4.specs.State.{MkState, typed}
use Rattle.gier_text4.proofs.Copying.{fold_written, as_written}
use Rattle.gier_text4.proofs.DeclaredNames.{TypeSpot, described_at, kind_at, held_names, held_own, held_fresh, OwningMay}
use Rattle.gier_text4.proofs.DeclaredNames.{names_read}
use Rattle.gier_text4.proofs.DeclaredNames.{owns_read, names_typed, fresh_typed, own_typed}
use Rattle.gier_text4.proofs.Calm.{calm, begun, begun_out, begun_open, begun_waits}

type_begins : (os : List Name) (fr : Frame) (m : ℕ) (o d e : List Symbol) (es : List (List Symbol)) (w : List Symbol)
    → step (shuts MType m) (calm o d (e ∷ es) w fr)
    ≡ MkState (begun_out fr (shuts MType m) o) d (e ∷ es) w [] (begun fr (shuts MType m)) (InType [] []) fr
type_begins os NoFrame m o d e es w = refl
type_begins os (WholeFrame l) m o d e es w = refl
type_begins os FrameBegin m o d e es w = refl

type_ends : (os : List Name) (t : ValueType) (i l : ℕ) (o d e : List Symbol) (es : List (List
    Symbol)) (w h : List Symbol) (fr : Frame)
    → step (opens MType l) (step (as_written os (word (type_tag t) i)) (MkState o d (e ∷ es) w [] NotOwn (InType h []) fr))
    ≡ calm (opens MType l ∷ word (type_tag t) i ∷ o) d (typed (kind_at TypeSpot t) h e ∷ es) w fr
type_ends os IntegerType i l o d e es w h fr = refl
type_ends os BooleanType i l o d e es w h fr = refl

pub variables_declared : (os : List Name) (t : ValueType) (i : ℕ) (ns : Names) (k o d e : List Symbol) (es : List (List Symbol))
    (w : List Symbol) (fr : Frame) → fold_written os k ≡ calm o d (e ∷ es) w fr
    → fold_written os (opens MType i ∷ word (type_tag t) i ∷ names_as Declaring ns (shuts MType (last_name ns) ∷ k))
    ≡ calm (opens MType i ∷ word (type_tag t) i ∷ names_as Declaring ns (shuts MType (last_name ns) ∷ o)) d
    (all_entries (map (entry (described_at TypeSpot t)) (list_of ns)) 0 e ∷ es) w fr
variables_declared os t i (MkNames x ns) k o d e es w fr h =
    let s = shuts MType (last_name (MkNames x ns)) in
    let k1 : List Symbol = s ∷ k in
    let a : fold_written os k1 ≡ MkState (begun_out fr s o) d (e ∷ es) w [] (begun fr s) (InType [] []) fr =
    ap (step s) h ∙ type_begins os fr (last_name (MkNames x ns)) o d e es w in
    let b = names_read os TypeSpot (begun fr s) (begun_open fr s) ns x k1 (begun_out fr s o) d (e ∷ es) w [] [] [] fr a in
    ap (λ c. step (opens MType i) (step (as_written os (word (type_tag t) i)) c)) b
    ∙ type_ends os t i i (names_as Declaring (MkNames x ns) (waiting (begun fr s) (begun_out fr s o))) d e es w
    (held_names TypeSpot x ns []) fr
    ∙ ap (λ z. calm (opens MType i ∷ word (type_tag t) i ∷ names_as Declaring (MkNames x ns) z) d
    (typed (kind_at TypeSpot t) (held_names TypeSpot x ns []) e ∷ es) w fr) (begun_waits fr s o)
    ∙ ap (λ z. calm (opens MType i ∷ word (type_tag t) i ∷ names_as Declaring (MkNames x ns) (s ∷ o)) d (z ∷ es) w fr)
    (names_typed TypeSpot t ns x [] e)

own_type_begins : (fr : Frame) → fr ≡ FrameBegin → (m : ℕ) (o d e : List Symbol) (es : List (List Symbol)) (w : List Symbol)
    → step (shuts MType m) (calm o d (e ∷ es) w fr)
    ≡ MkState o d (e ∷ es) w [] (MayBeOwn (λ k. shuts MType m ∷ k)) (InType [] []) fr
own_type_begins fr f m o d e es w = rw f refl

own_type_ends : (os : List Name) (t : ValueType) (i j l n : ℕ) (o d e : List Symbol) (es : List (List Symbol)) (w g h : List Symbol)
    (fr : Frame)
    → step (opens MType l) (step (word Own j) (step (as_written os (word (type_tag t) i))
    (MkState o d (e ∷ es) w [] (IsOwn n 0) (InType g h) fr)))
    ≡ calm o (opens MType i ∷ word (type_tag t) i ∷ d) (typed (kind_at TypeSpot t) g e ∷ es) (typed (kind_at TypeSpot t) h w) fr
own_type_ends os IntegerType i j l n o d e es w g h fr = refl
own_type_ends os BooleanType i j l n o d e es w g h fr = refl

-- of an own declaration in the block around the program
abbrev pub hoisted_variables : ValueType → (line : ℕ) → Names → (i : ℕ) → List Symbol → List Symbol
hoisted_variables t l ns i r = opens MType l ∷ word (type_tag t) l ∷ names_as Declaring (fresh_names ns i)
    (shuts MType (last_name ns) ∷ word Semicolon (last_name ns) ∷ r)

pub own_variables_declared : (os : List Name) (j : ℕ) (t : ValueType) (i : ℕ) (ns : Names) (n : ℕ) (k o d e : List Symbol)
    (es : List (List Symbol)) (w : List Symbol) (fr : Frame) → fr ≡ FrameBegin → fold_written os k ≡ calm o d (e ∷ es) w fr
    → fold_written os (opens MType j ∷ word Own j ∷ word (type_tag t) i ∷ owns_as ns n (shuts MType (last_name ns) ∷ k))
    ≡ calm o (hoisted_variables t i ns n d) (own_entries (list_of ns) n 0 e ∷ es)
    (all_entries (map (entry (described_at TypeSpot t)) (list_of (fresh_names ns n))) 0 w) fr
own_variables_declared os j t i (MkNames x ns) n k o d e es w fr f h =
    let s = shuts MType (last_name (MkNames x ns)) in
    let k1 : List Symbol = s ∷ k in
    let part : List Symbol → List Symbol = λ r. s ∷ r in
    let a : fold_written os k1 ≡ MkState o d (e ∷ es) w [] (MayBeOwn part) (InType [] []) fr =
    ap (step s) h ∙ own_type_begins fr f (last_name (MkNames x ns)) o d e es w in
    let b = owns_read os TypeSpot (MayBeOwn part) (OwningMay part) ns x n k1 o d (e ∷ es) w [] [] [] fr a in
    let d1 = names_as Declaring (fresh_names (MkNames x ns) n) (s ∷ word Semicolon (last_name (MkNames x ns)) ∷ d) in
    ap (λ c. step (opens MType j) (step (word Own j) (step (as_written os (word (type_tag t) i)) c))) b
    ∙ own_type_ends os t i j j (fresh n) o d1 e es w (held_own x ns n []) (held_fresh TypeSpot ns n []) fr
    ∙ ap (λ z. calm o (opens MType i ∷ word (type_tag t) i ∷ d1) (z ∷ es)
    (typed (kind_at TypeSpot t) (held_fresh TypeSpot ns n []) w) fr) (own_typed (kind_at TypeSpot t) ns x n [] e)
    ∙ ap (λ z. calm o (opens MType i ∷ word (type_tag t) i ∷ d1) (own_entries (list_of (MkNames x ns)) n 0 e ∷ es) z fr)
    (fresh_typed TypeSpot t ns x n [] w)
