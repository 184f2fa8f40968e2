-- Declarations of arrays that are no own ones.
use Rattle.std.proofs.Common.{◌≡◌, ◌∙◌, ◌+◌, ◌*◌, ◌/◌, ◌++◌, ℕ, suc, List, [], ◌∷◌, length, refl, sym as back, ap, arith}
use Rattle.std.specs.Prelude.{map}
use Rattle.gier_symbol.specs.declared.symbol.Symbol.{Symbol}
use Rattle.gier_symbol.specs.declared.tag.Tag.TheVariants.{Declaring, Array, Comma, LeftBracket, RightBracket}
use Rattle.gier_symbol.specs.ByTag.{word}
use Rattle.gier_tree.specs.declared.construct.Construct.TheVariants.{ArraySegment as MSegment}
use Rattle.gier_tree.specs.Declaring.{list_of}
use Rattle.gier_tree.specs.Described.{description, array_kind}
use Rattle.gier_tree.specs.Entries.{Entry, entry, segment_entries, segments_entries}
use Rattle.gier_tree.specs.Kinds.{kind_number}
use Rattle.gier_tree.specs.Places.{Places}
use Rattle.gier_tree.specs.Spell.{type_tag}
use Rattle.gier_tree.specs.Texts.{all_entries, names_as, text_pair, text_pairs, text_segment, text_segments}
use Rattle.gier_tree.specs.Trees.{Name, MkNames, NextPair, Segment, MkSegment, NextSegment, ValueType, IntegerType, BooleanType}
use Rattle.gier_tree.specs.Written.{opens, shuts}
use Rattle.gier_written.specs.Renamed.{collected_text}
use Rattle.gier_text4.specs.PurePass.{step, waiting}
use Rattle.gier_text4.specs.State.{NotOwn, Frame, NoFrame, WholeFrame, FrameBegin, Place, Statements, InSegment, BetweenSegments}
use Rattle.gier_text4.specs.State.{MkState, put, typed}
use Rattle.gier_text4.proofs.Copying.{fold_written, as_written, marked_text, one}
use Rattle.gier_text4.proofs.Bounds.{CopiesBounds, copies_bounds, both_counted, uncounted, so_many, copied_all_pairs, counted_on}
use Rattle.gier_text4.proofs.DeclaredNames.{SegmentSpot, held_names, names_read, names_typed}
use Rattle.gier_text4.proofs.Calm.{calm, begun, begun_out, begun_open, begun_waits, more_own, more_out, more_open, put_open}
use Rattle.gier_text4.proofs.Calm.{more_waits}

-- entries before one list are entries before another
pub all_app : (a b : List Entry) (l : ℕ) (r : List Symbol) → all_entries (a ++ b) l r ≡ all_entries a l (all_entries b l r)
all_app [] b l r = refl
all_app (x ∷ a) b l r = ap (λ z. all_entries (x ∷ []) l z) (all_app a b l r)

-- before the segments of a declaration, and between them
pub data Before : Type 0 where
  NoneYet : Before
  SomeHeld : (held : List Symbol) → Before

abbrev pub at_before : Before → Place
at_before NoneYet = Statements
at_before (SomeHeld h) = BetweenSegments h []

abbrev pub held_before : Before → List Symbol
held_before NoneYet = []
held_before (SomeHeld h) = h

abbrev pub bounds_of : List NextPair → ℕ
bounds_of qs = 2 + 2 * length qs + 0

abbrev pub held_segment : Segment → List Symbol → List Symbol
held_segment (MkSegment (MkNames x ns) l q qs m) h = held_names (SegmentSpot (bounds_of qs)) x ns h

abbrev pub held_segments : List NextSegment → Before
held_segments [] = NoneYet
held_segments (s ∷ ss) = SomeHeld (held_segment s.segment (held_before (held_segments ss)))

segment_begins : (b : Before) (fr : Frame) (m : ℕ) (o d e : List Symbol) (es : List (List Symbol)) (w : List Symbol)
    → step (shuts MSegment m) (MkState o d (e ∷ es) w [] NotOwn (at_before b) fr)
    ≡ MkState (begun_out fr (shuts MSegment m) o) d (e ∷ es) w [] (begun fr (shuts MSegment m)) (InSegment 0 (held_before b) []) fr
segment_begins NoneYet NoFrame m o d e es w = refl
segment_begins NoneYet (WholeFrame l) m o d e es w = refl
segment_begins NoneYet FrameBegin m o d e es w = refl
segment_begins (SomeHeld h) NoFrame m o d e es w = refl
segment_begins (SomeHeld h) (WholeFrame l) m o d e es w = refl
segment_begins (SomeHeld h) FrameBegin m o d e es w = refl

segment_read : (os : List Name) (p q : Places) (s : Segment) (b : Before) (k o d e : List Symbol) (es : List (List Symbol))
    (w : List Symbol) (fr : Frame) → fold_written os k ≡ MkState o d (e ∷ es) w [] NotOwn (at_before b) fr
    → fold_written os (text_segment (marked_text os) p s k)
    ≡ MkState (text_segment (collected_text os) q s o) d (e
    ∷ es) w [] NotOwn (at_before (SomeHeld (held_segment s (held_before b)))) fr
segment_read os p q (MkSegment (MkNames x ns) l a qs m) b k o d e es w fr h =
    let s = shuts MSegment m in
    let own = begun fr s in
    let hd = held_before b in
    let g : List Symbol → List Symbol = λ r. word LeftBracket l ∷ text_pair (marked_text os) p a (text_pairs (marked_text os) p qs
    (word RightBracket m ∷ r)) in
    let g' : List Symbol → List Symbol = λ r. word LeftBracket l
    ∷ text_pair (collected_text os) q a (text_pairs (collected_text os) q qs
    (word RightBracket m ∷ r)) in
    let n : 0 + (2 + 2 * length qs + 0) ≡ 2 + 2 * length qs = omega arith in
    let c : CopiesBounds os (2 + 2 * length qs) g g' =
    so_many n (both_counted (uncounted (one os (word LeftBracket l) refl refl))
    (both_counted (copied_all_pairs os p q a qs) (uncounted (one os (word RightBracket m) refl refl)))) in
    let k1 : List Symbol = s ∷ k in
    let h1 : fold_written os k1 ≡ MkState (begun_out fr s o) d (e ∷ es) w [] own (InSegment 0 hd []) fr =
    ap (step s) h ∙ segment_begins b fr m o d e es w in
    let o2 = more_out own g' (begun_out fr s o) in
    let own2 = more_own own g' in
    let h2 : fold_written os (g k1) ≡ MkState o2 d (e ∷ es) w [] own2 (InSegment (bounds_of qs) hd []) fr =
    copies_bounds os (2 + 2 * length qs) g g' c k1
    ∙ ap (λ z. put g' (counted_on (2 + 2 * length qs) z)) h1
    ∙ put_open own (begun_open fr s) g' (begun_out fr s o) d (e ∷ es) w [] (InSegment (bounds_of qs) hd []) fr in
    let h3 = names_read os (SegmentSpot (bounds_of qs)) own2 (more_open own (begun_open fr s) g') ns x (g k1) o2 d (e
    ∷ es) w [] hd [] fr
    h2 in
    let hd3 = held_names (SegmentSpot (bounds_of qs)) x ns hd in
    let waits : waiting own2 o2 ≡ g' (s ∷ o) =
    more_waits own (begun_open fr s) g' (begun_out fr s o) ∙ ap g' (begun_waits fr s o) in
    ap (step (opens MSegment x.line)) h3
    ∙ ap (λ z. MkState (opens MSegment x.line ∷ names_as Declaring (MkNames x ns) z) d (e
    ∷ es) w [] NotOwn (BetweenSegments hd3 []) fr)
    waits

segments_read : (os : List Name) (p q : Places) (ss : List NextSegment) (k o d e : List Symbol) (es : List (List Symbol))
    (w : List Symbol) (fr : Frame) → fold_written os k ≡ calm o d (e ∷ es) w fr
    → fold_written os (text_segments (marked_text os) p ss k)
    ≡ MkState (text_segments (collected_text os) q ss o) d (e ∷ es) w [] NotOwn (at_before (held_segments ss)) fr
segments_read os p q [] k o d e es w fr h = h
segments_read os p q (s ∷ ss) k o d e es w fr h =
    ap (step (word Comma s.comma)) (segment_read os p q s.segment (held_segments ss) (text_segments (marked_text os) p ss k)
    (text_segments (collected_text os) q ss o) d e es w fr (segments_read os p q ss k o d e es w fr h))

array_ends : (os : List Name) (t : ValueType) (i l : ℕ) (o d e : List Symbol) (es : List (List
    Symbol)) (w h : List Symbol) (fr : Frame)
    → step (as_written os (word (type_tag t) i)) (step (word Array l) (MkState o d (e ∷ es) w [] NotOwn (BetweenSegments h []) fr))
    ≡ calm (word (type_tag t) i ∷ word Array l ∷ o) d (typed (kind_number (array_kind t)) h e ∷ es) w fr
array_ends os IntegerType i l o d e es w h fr = refl
array_ends os BooleanType i l o d e es w h fr = refl

-- the entries
pub half_bounds : (n : ℕ) → (2 + 2 * n + 0) / 2 ≡ suc n
half_bounds n = omega arith

segment_typed : (t : ValueType) (s : Segment) (h r : List Symbol) → typed (kind_number (array_kind t)) (held_segment s h) r
    ≡ all_entries (segment_entries t s) 0 (typed (kind_number (array_kind t)) h r)
segment_typed t (MkSegment (MkNames x ns) l q qs m) h r =
    names_typed (SegmentSpot (bounds_of qs)) t ns x h r
    ∙ ap (λ z. all_entries (map (entry (description (array_kind t) z [])) (list_of (MkNames x ns))) 0
    (typed (kind_number (array_kind t)) h r)) (half_bounds (length qs))

segments_typed : (t : ValueType) (ss : List NextSegment) (r : List Symbol)
    → typed (kind_number (array_kind t)) (held_before (held_segments ss)) r ≡ all_entries (segments_entries t ss) 0 r
segments_typed t [] r = refl
segments_typed t (s ∷ ss) r =
    segment_typed t s.segment (held_before (held_segments ss)) r
    ∙ ap (all_entries (segment_entries t s.segment) 0) (segments_typed t ss r)
    ∙ back (all_app (segment_entries t s.segment) (segments_entries t ss) 0 r)

pub arrays_declared : (os : List Name) (p q : Places) (t : ValueType) (i l : ℕ) (s : Segment) (ss : List NextSegment)
    (k o d e : List Symbol) (es : List (List Symbol)) (w : List Symbol) (fr : Frame) → fold_written os k ≡ calm o d (e ∷ es) w fr
    → fold_written os (word (type_tag t) i ∷ word Array l
    ∷ text_segment (marked_text os) p s (text_segments (marked_text os) p ss k))
    ≡ calm (word (type_tag t) i ∷ word Array l ∷ text_segment (collected_text os) q s (text_segments (collected_text os) q ss o)) d
    (all_entries (segment_entries t s ++ segments_entries t ss) 0 e ∷ es) w fr
arrays_declared os p q t i l s ss k o d e es w fr h =
    let o1 = text_segment (collected_text os) q s (text_segments (collected_text os) q ss o) in
    let h1 = segments_read os p q ss k o d e es w fr h in
    let h2 = segment_read os p q s (held_segments ss) (text_segments (marked_text os) p ss k) (text_segments (collected_text
    os) q ss o)
    d e es w fr h1 in
    ap (λ c. step (as_written os (word (type_tag t) i)) (step (word Array l) c)) h2
    ∙ array_ends os t i l o1 d e es w (held_segment s (held_before (held_segments ss))) fr
    ∙ ap (λ z. calm (word (type_tag t) i ∷ word Array l ∷ o1) d (z ∷ es) w fr)
    (segment_typed t s (held_before (held_segments ss)) e
    ∙ ap (all_entries (segment_entries t s) 0) (segments_typed t ss e)
    ∙ back (all_app (segment_entries t s) (segments_entries t ss) 0 e))
