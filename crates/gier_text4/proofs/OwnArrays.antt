-- Declarations of own arrays: the block around the program has them.
use Rattle.std.proofs.Common.{◌≡◌, ◌∙◌, ◌+◌, ◌*◌, ◌++◌, ℕ, suc, List, [], ◌∷◌, length, refl, sym as back, ap, arith}
use Rattle.std.specs.Prelude.{map}
use Rattle.gier_symbol.specs.declared.symbol.Symbol.{Symbol}
use Rattle.gier_symbol.specs.declared.tag.Tag.TheVariants.{Declaring, Array, Comma, LeftBracket, RightBracket, Own, Semicolon}
use Rattle.gier_symbol.specs.ByTag.{word}
use Rattle.gier_tree.specs.declared.construct.Construct.TheVariants.{ArraySegment as MSegment}
use Rattle.gier_tree.specs.Declaring.{list_of, names_of_fixed, names_of_fixeds}
use Rattle.gier_tree.specs.Described.{description, array_kind}
use Rattle.gier_tree.specs.Entries.{entry, segment_entries, segments_entries}
use Rattle.gier_tree.specs.Hoist.{fresh, fresh_names, further_pairs, fresh_segment, fresh_segments, count_fixed, last_fixed}
use Rattle.gier_tree.specs.Kinds.{kind_number}
use Rattle.gier_tree.specs.Lines.{first_name, last_name}
use Rattle.gier_tree.specs.Spell.{type_tag}
use Rattle.gier_tree.specs.Texts.{all_entries, own_entries, names_as, text_fixed_pair, text_further_pairs, text_fixed}
use Rattle.gier_tree.specs.Texts.{text_fixeds, fixed_count}
use Rattle.gier_tree.specs.Trees.{Name, MkNames, FurtherPairs, most_further, FixedSegment, MkFixed, NextFixed}
use Rattle.gier_tree.specs.Trees.{ValueType, IntegerType, BooleanType}
use Rattle.gier_tree.specs.Written.{opens, shuts}
use Rattle.gier_text4.specs.PurePass.{step}
use Rattle.gier_text4.specs.State.{Owning, MayBeOwn, IsOwn, Frame, FrameBegin, Place, InSegment}
use Rattle.gier_text4.specs.State.{BetweenSegments, State, MkState, put, typed}
use Rattle.gier_text4.proofs.Copying.{fold_written, as_written, one}
use Rattle.gier_text4.proofs.Bounds.{CopiesBounds, copies_bounds, both_counted, uncounted, so_many, copied_all_fixed, counted_on}
use Rattle.gier_text4.proofs.DeclaredNames.{SegmentSpot, held_own, held_fresh, IsOwning, OwningMay, OwningIs}
use Rattle.gier_text4.proofs.DeclaredNames.{with_semicolon, owns_read, own_typed, fresh_typed}
use Rattle.gier_text4.proofs.DeclaredArrays.{all_app, half_bounds}
use Rattle.gier_text4.proofs.Calm.{calm}

-- of own arrays in the block around the program
abbrev pub hoisted_fixed : FixedSegment → (i : ℕ) → List Symbol → List Symbol
hoisted_fixed (MkFixed ns l q qs m) i r = opens MSegment (first_name ns) ∷ names_as Declaring (fresh_names ns i)
    (word LeftBracket l ∷ text_fixed_pair q (text_further_pairs most_further qs (word RightBracket m ∷ shuts MSegment m ∷ r)))

abbrev pub hoisted_fixeds : List NextFixed → (i : ℕ) → List Symbol → List Symbol
hoisted_fixeds [] i r = r
hoisted_fixeds (s ∷ ss) i r =
    word Comma s.comma ∷ hoisted_fixed s.segment i (hoisted_fixeds ss (i + fixed_count s.segment) r)

abbrev pub hoisted_arrays : ValueType → (line array : ℕ) → FixedSegment → List NextFixed → (i : ℕ) → List Symbol → List Symbol
hoisted_arrays t y l s ss i r = word (type_tag t) y ∷ word Array l
    ∷ hoisted_fixed s i (hoisted_fixeds ss (i + fixed_count s) (word Semicolon (last_fixed s ss) ∷ r))

-- before the segments of a declaration, and between them
pub data OwnBefore : Type 0 where
  NoOwnYet : OwnBefore
  SomeOwn : (number : ℕ) → (held held_owns : List Symbol) → OwnBefore

abbrev pub own_state : OwnBefore → (o d : List Symbol) → (scopes : List (List Symbol)) → (w : List Symbol) → Frame → State
own_state NoOwnYet o d sc w fr = calm o d sc w fr
own_state (SomeOwn n h i) o d sc w fr = MkState o d sc w [] (IsOwn n 0) (BetweenSegments h i) fr

abbrev pub own_held : OwnBefore → List Symbol
own_held NoOwnYet = []
own_held (SomeOwn n h i) = h

abbrev pub fresh_held : OwnBefore → List Symbol
fresh_held NoOwnYet = []
fresh_held (SomeOwn n h i) = i

-- the declaration behind the last of its identifiers that was read
abbrev pub closed : OwnBefore → (line : ℕ) → List Symbol → List Symbol
closed NoOwnYet line d = word Semicolon line ∷ d
closed (SomeOwn n h i) line d = d

abbrev pub fixed_last : FixedSegment → ℕ
fixed_last (MkFixed ns l q qs m) = last_name ns

abbrev pub fixed_bounds : FurtherPairs most_further → ℕ
fixed_bounds qs = 2 + 2 * length (further_pairs most_further qs) + 0

abbrev pub own_after : FixedSegment → (i : ℕ) → OwnBefore → OwnBefore
own_after (MkFixed (MkNames x ns) l q qs m) i b =
    SomeOwn (fresh i) (held_own x ns i (own_held b)) (held_fresh (SegmentSpot (fixed_bounds qs)) ns i (fresh_held b))

abbrev pub own_before : List NextFixed → (i : ℕ) → OwnBefore
own_before [] i = NoOwnYet
own_before (s ∷ ss) i = own_after s.segment i (own_before ss (i + fixed_count s.segment))

abbrev pub owns_written : List NextFixed → (i : ℕ) → List Symbol → List Symbol
owns_written [] i d = d
owns_written (s ∷ ss) i d = word Comma s.comma ∷ hoisted_fixed s.segment i
    (closed (own_before ss (i + fixed_count s.segment)) (fixed_last s.segment) (owns_written ss (i + fixed_count s.segment) d))

-- what a segment begins with
abbrev pub begun_own : OwnBefore → (shut : Symbol) → Owning
begun_own NoOwnYet s = MayBeOwn (λ k. s ∷ k)
begun_own (SomeOwn n h i) s = IsOwn n 0

abbrev pub begun_owns : OwnBefore → (shut : Symbol) → List Symbol → List Symbol
begun_owns NoOwnYet s d = d
begun_owns (SomeOwn n h i) s d = s ∷ d

own_segment_begins : (b : OwnBefore) (fr : Frame) → fr ≡ FrameBegin → (m : ℕ) (o d e : List Symbol) (es : List (List Symbol))
    (w : List Symbol) → step (shuts MSegment m) (own_state b o d (e ∷ es) w fr)
    ≡ MkState o (begun_owns b (shuts MSegment m) d) (e ∷ es) w [] (begun_own b (shuts MSegment m))
    (InSegment 0 (own_held b) (fresh_held b)) fr
own_segment_begins NoOwnYet fr f m o d e es w = rw f refl
own_segment_begins (SomeOwn n h i) fr f m o d e es w = rw f refl

-- brackets before what waits or among the own declarations
abbrev pub further_own : OwnBefore → (shut : Symbol) → (List Symbol → List Symbol) → Owning
further_own NoOwnYet s g = MayBeOwn (λ k. g (s ∷ k))
further_own (SomeOwn n h i) s g = IsOwn n 0

abbrev pub further_owns : OwnBefore → (shut : Symbol) → (List Symbol → List Symbol) → List Symbol → List Symbol
further_owns NoOwnYet s g d = d
further_owns (SomeOwn n h i) s g d = g (s ∷ d)

put_own : (b : OwnBefore) (s : Symbol) (g : List Symbol
    → List Symbol) (o d : List Symbol) (sc : List (List Symbol)) (w : List Symbol)
    (at : Place) (fr : Frame)
    → put g (MkState o (begun_owns b s d) sc w [] (begun_own b s) at fr)
    ≡ MkState o (further_owns b s g d) sc w [] (further_own b s g) at fr
put_own NoOwnYet s g o d sc w at fr = refl
put_own (SomeOwn n h i) s g o d sc w at fr = refl

further_owning : (b : OwnBefore) (s : Symbol) (g : List Symbol → List Symbol) → IsOwning (further_own b s g)
further_owning NoOwnYet s g = OwningMay (λ k. g (s ∷ k))
further_owning (SomeOwn n h i) s g = OwningIs n

further_closed : (b : OwnBefore) (s : Symbol) (g : List Symbol → List Symbol) (line : ℕ) (d : List Symbol)
    → with_semicolon (further_own b s g) line (further_owns b s g d) ≡ g (s ∷ closed b line d)
further_closed NoOwnYet s g line d = refl
further_closed (SomeOwn n h i) s g line d = refl

own_segment_read : (os : List Name) (s : FixedSegment) (n : ℕ) (b : OwnBefore) (k o d e : List Symbol) (es : List (List Symbol))
    (w : List Symbol) (fr : Frame) → fr ≡ FrameBegin → fold_written os k ≡ own_state b o d (e ∷ es) w fr
    → fold_written os (text_fixed s n k)
    ≡ own_state (own_after s n b) o (hoisted_fixed s n (closed b (fixed_last s) d)) (e ∷ es) w fr
own_segment_read os (MkFixed (MkNames x ns) l q qs m) n b k o d e es w fr f h =
    let s = shuts MSegment m in
    let pairs = length (further_pairs most_further qs) in
    let g : List Symbol → List Symbol = λ r. word LeftBracket l ∷ text_fixed_pair q (text_further_pairs most_further qs
    (word RightBracket m ∷ r)) in
    let z : 0 + (2 + 2 * pairs + 0) ≡ 2 + 2 * pairs = omega arith in
    let c : CopiesBounds os (2 + 2 * pairs) g g =
    so_many z (both_counted (uncounted (one os (word LeftBracket l) refl refl))
    (both_counted (copied_all_fixed os most_further q qs) (uncounted (one os (word RightBracket m) refl refl)))) in
    let k1 : List Symbol = s ∷ k in
    let at : Place = InSegment (fixed_bounds qs) (own_held b) (fresh_held b) in
    let h1 : fold_written os k1 ≡ MkState o (begun_owns b s d) (e ∷ es) w [] (begun_own b s)
    (InSegment 0 (own_held b) (fresh_held b)) fr = ap (step s) h ∙ own_segment_begins b fr f m o d e es w in
    let h2 : fold_written os (g k1) ≡ MkState o (further_owns b s g d) (e ∷ es) w [] (further_own b s g) at fr =
    copies_bounds os (2 + 2 * pairs) g g c k1 ∙ ap (λ y. put g (counted_on (2 + 2 * pairs) y)) h1
    ∙ put_own b s g o d (e ∷ es) w at fr in
    let h3 = owns_read os (SegmentSpot (fixed_bounds qs)) (further_own b s g) (further_owning b s g) ns x n (g k1) o
    (further_owns b s g d) (e ∷ es) w [] (own_held b) (fresh_held b) fr h2 in
    let hd = held_own x ns n (own_held b) in
    let fd = held_fresh (SegmentSpot (fixed_bounds qs)) ns n (fresh_held b) in
    ap (step (opens MSegment x.line)) h3
    ∙ ap (λ y. MkState o (opens MSegment x.line ∷ names_as Declaring (fresh_names (MkNames x ns) n) y) (e
    ∷ es) w [] (IsOwn (fresh n) 0)
    (BetweenSegments hd fd) fr) (further_closed b s g (last_name (MkNames x ns)) d)

comma_between : (b : OwnBefore) (s : FixedSegment) (n l : ℕ) (o d : List Symbol) (sc : List (List
    Symbol)) (w : List Symbol) (fr : Frame)
    → step (word Comma l) (own_state (own_after s n b) o d sc w fr) ≡ own_state (own_after s n b) o (word Comma l ∷ d) sc w fr
comma_between b (MkFixed (MkNames x ns) l q qs m) n c o d sc w fr = refl

own_segments_read : (os : List Name) (ss : List NextFixed) (n : ℕ) (k o d e : List Symbol) (es : List (List
    Symbol)) (w : List Symbol)
    (fr : Frame) → fr ≡ FrameBegin → fold_written os k ≡ calm o d (e ∷ es) w fr
    → fold_written os (text_fixeds ss n k) ≡ own_state (own_before ss n) o (owns_written ss n d) (e ∷ es) w fr
own_segments_read os [] n k o d e es w fr f h = h
own_segments_read os (s ∷ ss) n k o d e es w fr f h =
    let n1 = n + fixed_count s.segment in
    let b = own_before ss n1 in
    let d1 = owns_written ss n1 d in
    ap (step (word Comma s.comma)) (own_segment_read os s.segment n b (text_fixeds ss n1 k) o d1 e es w fr f
    (own_segments_read os ss n1 k o d e es w fr f h))
    ∙ comma_between b s.segment n s.comma o (hoisted_fixed s.segment n (closed b (fixed_last s.segment) d1)) (e ∷ es) w fr

-- the `;` stands behind the last segment
all_closed : (s : FixedSegment) (ss : List NextFixed) (n : ℕ) (d : List Symbol)
    → closed (own_before ss n) (fixed_last s) (owns_written ss n d) ≡ hoisted_fixeds ss n (word Semicolon (last_fixed s ss) ∷ d)
all_closed (MkFixed ns l q qs m) [] n d = refl
all_closed (MkFixed ns l q qs m) (s ∷ ss) n d =
    some_closed s.segment n (own_before ss (n + fixed_count s.segment)) (fixed_last (MkFixed ns l q qs m)) _
    ∙ ap (λ z. word Comma s.comma ∷ hoisted_fixed s.segment n z) (all_closed s.segment ss (n + fixed_count s.segment) d)
  where
    some_closed : (s : FixedSegment) (n : ℕ) (b : OwnBefore) (line : ℕ) (r : List Symbol) → closed (own_after s n b) line r ≡ r
    some_closed (MkFixed (MkNames x ns) l q qs m) n b line r = refl

own_array_ends : (os : List Name) (t : ValueType) (s : FixedSegment) (n : ℕ) (b : OwnBefore) (i j l : ℕ) (o d e : List Symbol)
    (es : List (List Symbol)) (w : List Symbol) (fr : Frame)
    → step (word Own j) (step (as_written os (word (type_tag t) i)) (step (word Array l)
    (own_state (own_after s n b) o d (e ∷ es) w fr)))
    ≡ calm o (word (type_tag t) i ∷ word Array l ∷ d) (typed (kind_number (array_kind t)) (own_held (own_after s n b)) e ∷ es)
    (typed (kind_number (array_kind t)) (fresh_held (own_after s n b)) w) fr
own_array_ends os IntegerType (MkFixed (MkNames x ns) a q qs m) n b i j l o d e es w fr = refl
own_array_ends os BooleanType (MkFixed (MkNames x ns) a q qs m) n b i j l o d e es w fr = refl

-- the entries
own_app : (a b : List Name) (i l : ℕ) (r : List Symbol)
    → own_entries (a ++ b) i l r ≡ own_entries a i l (own_entries b (i + length a) l r)
own_app [] b i l r =
    let e : i ≡ i + 0 = omega arith in
    ap (λ z. own_entries b z l r) e
own_app (x ∷ a) b i l r =
    let e : suc i + length a ≡ i + suc (length a) = omega arith in
    ap (λ z. own_entries (x ∷ []) i l z) (own_app a b (suc i) l r ∙ ap (λ z. own_entries a (suc i) l (own_entries b z l r)) e)

fixed_held : (kind : ℕ) (s : FixedSegment) (n : ℕ) (b : OwnBefore) (r : List Symbol)
    → typed kind (own_held (own_after s n b)) r ≡ own_entries (names_of_fixed s) n 0 (typed kind (own_held b) r)
fixed_held kind (MkFixed (MkNames x ns) l q qs m) n b r = own_typed kind ns x n (own_held b) r

length_fixed : (s : FixedSegment) → length (names_of_fixed s) ≡ fixed_count s
length_fixed (MkFixed ns l q qs m) = refl

fixeds_held : (kind : ℕ) (ss : List NextFixed) (n : ℕ) (r : List Symbol)
    → typed kind (own_held (own_before ss n)) r ≡ own_entries (names_of_fixeds ss) n 0 r
fixeds_held kind [] n r = refl
fixeds_held kind (s ∷ ss) n r =
    let n1 = n + fixed_count s.segment in
    fixed_held kind s.segment n (own_before ss n1) r
    ∙ ap (own_entries (names_of_fixed s.segment) n 0) (fixeds_held kind ss n1 r)
    ∙ ap (λ z. own_entries (names_of_fixed s.segment) n 0 (own_entries (names_of_fixeds ss) (n + z) 0 r)) (back (length_fixed
    s.segment))
    ∙ back (own_app (names_of_fixed s.segment) (names_of_fixeds ss) n 0 r)

fresh_fixed : (t : ValueType) (s : FixedSegment) (n : ℕ) (b : OwnBefore) (r : List Symbol)
    → typed (kind_number (array_kind t)) (fresh_held (own_after s n b)) r
    ≡ all_entries (segment_entries t (fresh_segment s n)) 0 (typed (kind_number (array_kind t)) (fresh_held b) r)
fresh_fixed t (MkFixed (MkNames x ns) l q qs m) n b r =
    fresh_typed (SegmentSpot (fixed_bounds qs)) t ns x n (fresh_held b) r
    ∙ ap (λ z. all_entries (map (entry (description (array_kind t) z [])) (list_of (fresh_names (MkNames x ns) n))) 0
    (typed (kind_number (array_kind t)) (fresh_held b) r)) (half_bounds (length (further_pairs most_further qs)))

same_count : (s : FixedSegment) → fixed_count s ≡ count_fixed s
same_count (MkFixed ns l q qs m) = refl

fresh_fixeds : (t : ValueType) (ss : List NextFixed) (n : ℕ) (r : List Symbol)
    → typed (kind_number (array_kind t)) (fresh_held (own_before ss n)) r
    ≡ all_entries (segments_entries t (fresh_segments ss n)) 0 r
fresh_fixeds t [] n r = refl
fresh_fixeds t (s ∷ ss) n r =
    let n1 = n + fixed_count s.segment in
    fresh_fixed t s.segment n (own_before ss n1) r
    ∙ ap (all_entries (segment_entries t (fresh_segment s.segment n)) 0) (fresh_fixeds t ss n1 r)
    ∙ ap (λ z. all_entries (segment_entries t (fresh_segment s.segment n)) 0 (all_entries
    (segments_entries t (fresh_segments ss (n + z))) 0 r))
    (same_count s.segment)
    ∙ back (all_app (segment_entries t (fresh_segment s.segment n)) (segments_entries t
    (fresh_segments ss (n + count_fixed s.segment))) 0 r)

pub own_arrays_declared : (os : List Name) (j : ℕ) (t : ValueType) (i l : ℕ) (s : FixedSegment) (ss : List NextFixed) (n : ℕ)
    (k o d e : List Symbol) (es : List (List Symbol)) (w : List Symbol) (fr : Frame) → fr ≡ FrameBegin
    → fold_written os k ≡ calm o d (e ∷ es) w fr
    → fold_written os (word Own j ∷ word (type_tag t) i ∷ word Array l ∷ text_fixed s n (text_fixeds ss (n + fixed_count s) k))
    ≡ calm o (hoisted_arrays t i l s ss n d) (own_entries (names_of_fixed s ++ names_of_fixeds ss) n 0 e ∷ es)
    (all_entries (segment_entries t (fresh_segment s n) ++ segments_entries t (fresh_segments ss (n + count_fixed s))) 0 w) fr
own_arrays_declared os j t i l s ss n k o d e es w fr f h =
    let n1 = n + fixed_count s in
    let b = own_before ss n1 in
    let d1 = owns_written ss n1 d in
    let d2 = hoisted_fixed s n (closed b (fixed_last s) d1) in
    let kind = kind_number (array_kind t) in
    let h1 = own_segments_read os ss n1 k o d e es w fr f h in
    let h2 = own_segment_read os s n b (text_fixeds ss n1 k) o d1 e es w fr f h1 in
    let a : typed kind (own_held (own_after s n b)) e ≡ own_entries (names_of_fixed s ++ names_of_fixeds ss) n 0 e =
    fixed_held kind s n b e
    ∙ ap (own_entries (names_of_fixed s) n 0) (fixeds_held kind ss n1 e)
    ∙ ap (λ z. own_entries (names_of_fixed s) n 0 (own_entries (names_of_fixeds ss) (n + z) 0 e)) (back (length_fixed s))
    ∙ back (own_app (names_of_fixed s) (names_of_fixeds ss) n 0 e) in
    let c : typed kind (fresh_held (own_after s n b)) w
    ≡ all_entries (segment_entries t (fresh_segment s n) ++ segments_entries t (fresh_segments ss (n + count_fixed s))) 0 w =
    fresh_fixed t s n b w
    ∙ ap (all_entries (segment_entries t (fresh_segment s n)) 0) (fresh_fixeds t ss n1 w)
    ∙ ap (λ z. all_entries (segment_entries t (fresh_segment s n)) 0 (all_entries
    (segments_entries t (fresh_segments ss (n + z))) 0 w))
    (same_count s)
    ∙ back (all_app (segment_entries t (fresh_segment s n)) (segments_entries t (fresh_segments ss (n + count_fixed s))) 0 w) in
    ap (λ y. step (word Own j) (step (as_written os (word (type_tag t) i)) (step (word Array l) y))) h2
    ∙ own_array_ends os t s n b i j l o d2 e es w fr
    ∙ ap (λ z. calm o (word (type_tag t) i ∷ word Array l ∷ hoisted_fixed s n z)
    (typed kind (own_held (own_after s n b)) e ∷ es) (typed kind (fresh_held (own_after s n b)) w) fr) (all_closed s ss n1 d)
    ∙ ap (λ z. calm o (hoisted_arrays t i l s ss n d) (z ∷ es) (typed kind (fresh_held (own_after s n b)) w) fr) a
    ∙ ap (λ z. calm o (hoisted_arrays t i l s ss n d) (own_entries (names_of_fixed s ++ names_of_fixeds ss) n 0 e ∷ es) z fr) c
