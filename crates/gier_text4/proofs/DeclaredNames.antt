-- The pass reads the identifiers of a declaration of variables or of a segment of arrays, own ones and others, and their type.
use Rattle.std.proofs.Common.{◌≡◌, ◌∙◌, ◌/◌, ℕ, suc, List, [], ◌∷◌, refl, ap}
use Rattle.std.specs.Prelude.{map}
use Rattle.gier_symbol.specs.declared.symbol.Symbol.{Symbol}
use Rattle.gier_symbol.specs.declared.tag.Tag.TheVariants.{Declaring, Semicolon, Comma, OwnNumber}
use Rattle.gier_symbol.specs.ByTag.{sym, word}
use Rattle.gier_tree.specs.declared.kind.Kind.{Kind}
use Rattle.gier_tree.specs.Declaring.{list_of}
use Rattle.gier_tree.specs.Described.{Described, plain, description, variable_kind, array_kind}
use Rattle.gier_tree.specs.Entries.{entry}
use Rattle.gier_tree.specs.Hoist.{fresh, fresh_names}
use Rattle.gier_tree.specs.Kinds.{kind_number}
use Rattle.gier_tree.specs.Lines.{last_name}
use Rattle.gier_tree.specs.Texts.{all_entries, own_entries, names_as, owns_as}
use Rattle.gier_tree.specs.Trees.{Name, NextName, MkNames, ValueType, IntegerType, BooleanType}
use Rattle.gier_text4.specs.PurePass.{step, waiting, untyped, counted, own_entry_of}
use Rattle.gier_text4.specs.State.{Owning, NotOwn, MayBeOwn, IsOwn, Frame, Place, InType, InSegment, MkState, typed}
use Rattle.gier_text4.proofs.Copying.{fold_written}

-- the two places in which identifiers wait for their type
pub data Spot : Type 0 where
  TypeSpot : Spot
  SegmentSpot : (bounds : ℕ) → Spot

abbrev pub at_spot : Spot → (held held_owns : List Symbol) → Place
at_spot TypeSpot h i = InType h i
at_spot (SegmentSpot b) h i = InSegment b h i

abbrev pub held_at : Spot → (x : ℕ) → List Symbol → List Symbol
held_at TypeSpot x h = untyped x h
held_at (SegmentSpot b) x h = counted x b h

abbrev pub described_at : Spot → ValueType → Described
described_at TypeSpot t = plain (variable_kind t)
described_at (SegmentSpot b) t = description (array_kind t) (b / 2) []

abbrev pub kind_at : Spot → ValueType → ℕ
kind_at TypeSpot t = kind_number (variable_kind t)
kind_at (SegmentSpot b) t = kind_number (array_kind t)

-- what waits of identifiers, of own ones, and of the fresh ones
abbrev pub held_names : Spot → Name → List NextName → List Symbol → List Symbol
held_names sp x [] h = held_at sp x.number h
held_names sp x (n ∷ ns) h = held_at sp x.number (held_names sp n.name ns h)

abbrev pub held_own : Name → List NextName → (i : ℕ) → List Symbol → List Symbol
held_own x [] i h = own_entry_of x.number (fresh i) h
held_own x (n ∷ ns) i h = own_entry_of x.number (fresh i) (held_own n.name ns (suc i) h)

abbrev pub held_fresh : Spot → List NextName → (i : ℕ) → List Symbol → List Symbol
held_fresh sp [] i h = held_at sp (fresh i) h
held_fresh sp (n ∷ ns) i h = held_at sp (fresh i) (held_fresh sp ns (suc i) h)

-- a declaration that isn't known to be an own one, and one that may be one or is
pub data IsOpen : Owning → Type 0 where
  OpenNot : IsOpen NotOwn
  OpenMay : (part : List Symbol → List Symbol) → IsOpen (MayBeOwn part)

pub data IsOwning : Owning → Type 0 where
  OwningMay : (part : List Symbol → List Symbol) → IsOwning (MayBeOwn part)
  OwningIs : (number : ℕ) → IsOwning (IsOwn number 0)

abbrev pub with_semicolon : Owning → (line : ℕ) → List Symbol → List Symbol
with_semicolon (MayBeOwn part) line d = part (word Semicolon line ∷ d)
with_semicolon own line d = d

declare_open : (sp : Spot) (own : Owning) → IsOpen own → (x : Name) (o d : List Symbol) (sc : List (List Symbol)) (w : List Symbol)
    (f : List Kind) (h i : List Symbol) (fr : Frame)
    → step (sym Declaring x.number x.line) (MkState o d sc w f own (at_spot sp h i) fr)
    ≡ MkState (sym Declaring x.number x.line ∷ waiting own o) d sc w f NotOwn (at_spot sp (held_at sp x.number h) i) fr
declare_open TypeSpot _ OpenNot x o d sc w f h i fr = refl
declare_open TypeSpot _ (OpenMay part) x o d sc w f h i fr = refl
declare_open (SegmentSpot b) _ OpenNot x o d sc w f h i fr = refl
declare_open (SegmentSpot b) _ (OpenMay part) x o d sc w f h i fr = refl

-- identifiers that are no own ones
pub names_read : (os : List Name) (sp : Spot) (own : Owning) → IsOpen own → (ns : List NextName) (x : Name) (k o d : List Symbol)
    (sc : List (List Symbol)) (w : List Symbol) (f : List Kind) (h i : List Symbol) (fr : Frame)
    → fold_written os k ≡ MkState o d sc w f own (at_spot sp h i) fr
    → fold_written os (names_as Declaring (MkNames x ns) k)
    ≡ MkState (names_as Declaring (MkNames x ns) (waiting own o)) d sc w f NotOwn (at_spot sp (held_names sp x ns h) i) fr
names_read os sp own a [] x k o d sc w f h i fr e =
    ap (step (sym Declaring x.number x.line)) e ∙ declare_open sp own a x o d sc w f h i fr
names_read os sp own a (n ∷ ns) x k o d sc w f h i fr e =
    ap (λ c. step (sym Declaring x.number x.line) (step (word Comma n.comma)
    c)) (names_read os sp own a ns n.name k o d sc w f h i fr e)
    ∙ declare_open sp NotOwn OpenNot x (word Comma n.comma ∷ names_as Declaring (MkNames n.name ns) (waiting own o)) d sc w f
    (held_names sp n.name ns h) i fr

-- own ones
abbrev fresh_name : Name → (i : ℕ) → Symbol
fresh_name x i = sym Declaring (fresh i) x.line

declare_own : (sp : Spot) (own : Owning) → IsOwning own → (x : Name) (n : ℕ) (o d : List Symbol) (sc : List (List Symbol))
    (w : List Symbol) (f : List Kind) (h i : List Symbol) (fr : Frame)
    → step (sym Declaring x.number x.line) (step (sym OwnNumber n x.line) (MkState o d sc w f own (at_spot sp h i) fr))
    ≡ MkState o (fresh_name x n ∷ with_semicolon own x.line d) sc w f (IsOwn (fresh n) 0)
    (at_spot sp (own_entry_of x.number (fresh n) h) (held_at sp (fresh n) i)) fr
declare_own TypeSpot _ (OwningMay part) x n o d sc w f h i fr = refl
declare_own TypeSpot _ (OwningIs m) x n o d sc w f h i fr = refl
declare_own (SegmentSpot b) _ (OwningMay part) x n o d sc w f h i fr = refl
declare_own (SegmentSpot b) _ (OwningIs m) x n o d sc w f h i fr = refl

pub owns_read : (os : List Name) (sp : Spot) (own : Owning) → IsOwning own → (ns : List NextName) (x : Name) (n : ℕ)
    (k o d : List Symbol) (sc : List (List Symbol)) (w : List Symbol) (f : List Kind) (h i : List Symbol) (fr : Frame)
    → fold_written os k ≡ MkState o d sc w f own (at_spot sp h i) fr
    → fold_written os (owns_as (MkNames x ns) n k)
    ≡ MkState o (names_as Declaring (fresh_names (MkNames x ns) n) (with_semicolon own (last_name (MkNames x ns)) d)) sc w f
    (IsOwn (fresh n) 0) (at_spot sp (held_own x ns n h) (held_fresh sp ns n i)) fr
owns_read os sp own a [] x n k o d sc w f h i fr e =
    ap (λ c. step (sym Declaring x.number x.line) (step (sym OwnNumber n x.line) c)) e
    ∙ declare_own sp own a x n o d sc w f h i fr
owns_read os sp own a (m ∷ ns) x n k o d sc w f h i fr e =
    ap (λ c. step (sym Declaring x.number x.line) (step (sym OwnNumber n x.line) (step (word Comma m.comma) c)))
    (owns_read os sp own a ns m.name (suc n) k o d sc w f h i fr e)
    ∙ declare_own sp (IsOwn (fresh (suc n)) 0) (OwningIs (fresh (suc n))) x n o
    (word Comma m.comma ∷ names_as Declaring (fresh_names (MkNames m.name ns) (suc n))
    (with_semicolon own (last_name (MkNames m.name ns)) d)) sc w f (held_own m.name ns (suc n) h) (held_fresh sp ns (suc n) i) fr

-- with their type they are the entries of the declaration
held_typed : (sp : Spot) (t : ValueType) (x : Name) (h r : List Symbol)
    → typed (kind_at sp t) (held_at sp x.number h) r ≡ all_entries (entry (described_at sp t) x ∷ []) 0 (typed (kind_at sp t) h r)
held_typed TypeSpot IntegerType x h r = refl
held_typed TypeSpot BooleanType x h r = refl
held_typed (SegmentSpot b) IntegerType x h r = refl
held_typed (SegmentSpot b) BooleanType x h r = refl

all_more : (sp : Spot) (t : ValueType) (x : Name) (xs : List Name) (r : List Symbol)
    → all_entries (entry (described_at sp t) x ∷ []) 0 (all_entries (map (entry (described_at sp t)) xs) 0 r)
    ≡ all_entries (map (entry (described_at sp t)) (x ∷ xs)) 0 r
all_more TypeSpot IntegerType x xs r = refl
all_more TypeSpot BooleanType x xs r = refl
all_more (SegmentSpot b) IntegerType x xs r = refl
all_more (SegmentSpot b) BooleanType x xs r = refl

pub names_typed : (sp : Spot) (t : ValueType) (ns : List NextName) (x : Name) (h r : List Symbol)
    → typed (kind_at sp t) (held_names sp x ns h) r
    ≡ all_entries (map (entry (described_at sp t)) (list_of (MkNames x ns))) 0 (typed (kind_at sp t) h r)
names_typed sp t [] x h r = held_typed sp t x h r
names_typed sp t (n ∷ ns) x h r =
    held_typed sp t x (held_names sp n.name ns h) r
    ∙ ap (all_entries (entry (described_at sp t) x ∷ []) 0) (names_typed sp t ns n.name h r)
    ∙ all_more sp t x (list_of (MkNames n.name ns)) (typed (kind_at sp t) h r)

pub fresh_typed : (sp : Spot) (t : ValueType) (ns : List NextName) (x : Name) (n : ℕ) (h r : List Symbol)
    → typed (kind_at sp t) (held_fresh sp ns n h) r
    ≡ all_entries (map (entry (described_at sp t)) (list_of (fresh_names (MkNames x ns) n))) 0 (typed (kind_at sp t) h r)
fresh_typed sp t [] x n h r = held_typed sp t (record { number = fresh n; line = x.line }) h r
fresh_typed sp t (m ∷ ns) x n h r =
    held_typed sp t (record { number = fresh n; line = x.line }) (held_fresh sp ns (suc n) h) r
    ∙ ap (all_entries (entry (described_at sp t) (record { number = fresh n; line = x.line }) ∷ []) 0)
    (fresh_typed sp t ns m.name (suc n) h r)
    ∙ all_more sp t (record { number = fresh n; line = x.line }) (list_of (fresh_names (MkNames m.name ns) (suc n)))
    (typed (kind_at sp t) h r)

pub own_typed : (kind : ℕ) (ns : List NextName) (x : Name) (n : ℕ) (h r : List Symbol)
    → typed kind (held_own x ns n h) r ≡ own_entries (list_of (MkNames x ns)) n 0 (typed kind h r)
own_typed kind [] x n h r = refl
own_typed kind (m ∷ ns) x n h r = ap (λ z. own_entry_of x.number (fresh n) z) (own_typed kind ns m.name (suc n) h r)
