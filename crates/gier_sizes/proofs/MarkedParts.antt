-- Text 3 of the parts of declarations and statements beside their spelling.
use Rattle.std.proofs.Common.{◌+◌, ℕ, zero, suc, List, [], ◌∷◌}
use Rattle.std.specs.Prelude.{None, Some}
use Rattle.gier_symbol.specs.declared.symbol.Symbol.{Symbol}
use Rattle.gier_symbol.specs.declared.tag.Tag.{Tag}
use Rattle.gier_symbol.specs.declared.tag.Tag.TheVariants.{Declaring, Formal, ValueListed, Specified}
use Rattle.gier_tree.specs.Places.{Places}
use Rattle.gier_tree.specs.Spell.{spell_exprs, spell_next_names, spell_names, spell_pair, spell_next_pairs, spell_segment, spell_next_segments, spell_constant, spell_fixed_pair, spell_further_pairs, spell_fixed, spell_next_fixed, spell_formals, spell_values, spell_specifier, spell_specifications, spell_heading, spell_labels, spell_left, spell_lefts, spell_turns, spell_next_turns}
use Rattle.gier_tree.specs.Texts.{next_names, names_as, next_owns, owns_as, text_pair, text_pairs, text_segment, text_segments, text_constant, text_fixed_pair, text_further_pairs, text_fixed, fixed_count, text_fixeds, text_switch_elements, text_formals, text_values, text_specifications, text_heading, text_labels, text_left, text_lefts, text_turn, text_turns, text_next_turns}
use Rattle.gier_tree.specs.Trees.{Name, Exprs, NoExprs, MoreExprs, NextName, Names, MkNames, BoundPair, MkPair, NextPair, Segment, MkSegment, NextSegment, Constant, Unsigned, WithSign, FixedPair, MkFixedPair, NoFurther, MoreFurther, FurtherPairs, most_further, FixedSegment, MkFixed, NextFixed, Formals, NoFormals, FormalList, ValuePart, NoValues, ValueList, Specifier, ValueSpec, ArraySpec, LabelSpec, SwitchSpec, StringSpec, ProcedureSpec, FunctionSpec, Specification, Heading, MkHeading, LabelPlace, LeftSide, OneName, LeftElement, LeftPart, Turns, OneValue, StepUntil, WhileTrue, NextTurns}
use Rattle.gier_sizes.proofs.Slack.{Fits, pays, pays_before, pays_both, plain, mark, keep}
use Rattle.gier_sizes.proofs.MarkedExpressions.{marked, enclosed, expr, element}

pub more_names : {k : ℕ} {xs ys : List Symbol} (tag : Tag) (ns : List NextName) → Fits k xs ys → Fits k (next_names tag ns xs) (spell_next_names ns ys)
more_names tag [] h = h
more_names tag (n ∷ ns) h = plain (plain (more_names tag ns h))

pub names : {k : ℕ} {xs ys : List Symbol} (tag : Tag) (ns : Names) → Fits k xs ys → Fits k (names_as tag ns xs) (spell_names ns ys)
names tag (MkNames x ns) h = plain (more_names tag ns h)

more_owns : {k : ℕ} {xs ys : List Symbol} (ns : List NextName) (i : ℕ) → Fits k xs ys → Fits k (next_owns ns i xs) (spell_next_names ns ys)
more_owns [] i h = h
more_owns (n ∷ ns) i h = plain (pays_before (keep (more_owns ns (suc i) h)))

pub owns : {k : ℕ} {xs ys : List Symbol} (ns : Names) (i : ℕ) → Fits k xs ys → Fits k (owns_as ns i xs) (spell_names ns ys)
owns (MkNames x ns) i h = pays_before (keep (more_owns ns (suc i) h))

-- bounds and segments
pair : {k : ℕ} {xs ys : List Symbol} (os : List Name) (p : Places) (q : BoundPair) → Fits k xs ys → Fits (suc (suc k)) (text_pair (marked os) p q xs) (spell_pair q ys)
pair os p (MkPair a l b) h = enclosed _ _ os p a (pays (enclosed _ _ os p b h))

pairs : {k : ℕ} {xs ys : List Symbol} (os : List Name) (p : Places) (qs : List NextPair) → Fits k xs ys → Fits k (text_pairs (marked os) p qs xs) (spell_next_pairs qs ys)
pairs os p [] h = h
pairs os p (q ∷ qs) h = pays (pair os p q.pair (pairs os p qs h))

pub segment : {k : ℕ} {xs ys : List Symbol} (os : List Name) (p : Places) (s : Segment) → Fits k xs ys → Fits k (text_segment (marked os) p s xs) (spell_segment s ys)
segment os p (MkSegment (MkNames x ns) l q qs m) h =
    pays_before (more_names Declaring ns (pays (pair os p q (pairs os p qs (plain (mark h))))))

pub segments : {k : ℕ} {xs ys : List Symbol} (os : List Name) (p : Places) (ss : List NextSegment) → Fits k xs ys → Fits k (text_segments (marked os) p ss xs) (spell_next_segments ss ys)
segments os p [] h = h
segments os p (s ∷ ss) h = plain (segment os p s.segment (segments os p ss h))

-- the same of own arrays
constant : {k : ℕ} {xs ys : List Symbol} (c : Constant) → Fits k xs ys → Fits (suc (suc k)) (text_constant c xs) (spell_constant c ys)
constant (Unsigned n l) h = mark (plain (mark h))
constant (WithSign o i n l) h = mark (plain (plain (mark h)))

fixed_pair : {k : ℕ} {xs ys : List Symbol} (q : FixedPair) → Fits k xs ys → Fits (suc (suc k)) (text_fixed_pair q xs) (spell_fixed_pair q ys)
fixed_pair (MkFixedPair a l b) h = constant a (pays (constant b h))

further_pairs : {k : ℕ} {xs ys : List Symbol} (n : ℕ) (qs : FurtherPairs n) → Fits k xs ys → Fits k (text_further_pairs n qs xs) (spell_further_pairs n qs ys)
further_pairs zero qs h = h
further_pairs (suc n) NoFurther h = h
further_pairs (suc n) (MoreFurther l q more) h = pays (fixed_pair q (further_pairs n more h))

pub fixed : {k : ℕ} {xs ys : List Symbol} (s : FixedSegment) (i : ℕ) → Fits k xs ys → Fits k (text_fixed s i xs) (spell_fixed s ys)
fixed (MkFixed (MkNames x ns) l q qs m) i h =
    pays_both (more_owns ns (suc i) (pays (fixed_pair q (further_pairs most_further qs (pays (keep (mark h)))))))

pub fixeds : {k : ℕ} {xs ys : List Symbol} (ss : List NextFixed) (i : ℕ) → Fits k xs ys → Fits k (text_fixeds ss i xs) (spell_next_fixed ss ys)
fixeds [] i h = h
fixeds (s ∷ ss) i h = plain (fixed s.segment i (fixeds ss (i + fixed_count s.segment) h))

-- the elements of a switch
pub elements : {k : ℕ} {xs ys : List Symbol} (os : List Name) (p : Places) (es : Exprs) → Fits k xs ys → Fits k (text_switch_elements (marked os) p es xs) (spell_exprs es ys)
elements os p NoExprs h = h
elements os p (MoreExprs l e es) h = pays (enclosed _ _ os p e (elements os p es h))

-- headings
formals : {k : ℕ} {xs ys : List Symbol} (fs : Formals) → Fits k xs ys → Fits k (text_formals fs xs) (spell_formals fs ys)
formals NoFormals h = h
formals (FormalList l ns m) h = plain (names Formal ns (plain h))

values : {k : ℕ} {xs ys : List Symbol} (vs : ValuePart) → Fits k xs ys → Fits k (text_values vs xs) (spell_values vs ys)
values NoValues h = h
values (ValueList l ns m) h = plain (names ValueListed ns (plain h))

specifier : {k : ℕ} {xs ys : List Symbol} (s : Specifier) → Fits k xs ys → Fits k (spell_specifier s xs) (spell_specifier s ys)
specifier (ValueSpec t) h = plain h
specifier (ArraySpec t l) h = plain (plain h)
specifier (LabelSpec l) h = plain h
specifier (SwitchSpec l) h = plain h
specifier (StringSpec l) h = plain h
specifier (ProcedureSpec l) h = plain h
specifier (FunctionSpec t l) h = plain (plain h)

specifications : {k : ℕ} {xs ys : List Symbol} (ss : List Specification) → Fits k xs ys → Fits k (text_specifications ss xs) (spell_specifications ss ys)
specifications [] h = h
specifications (s ∷ ss) h = specifier s.specifier (names Specified s.names (plain (specifications ss h)))

-- a heading pays for a mark before it and three behind it
pub heading : {k : ℕ} {xs ys : List Symbol} (m : Symbol) (x : Heading) → Fits (suc (suc (suc k))) xs ys → Fits k (m ∷ text_heading x xs) (spell_heading x ys)
heading m (MkHeading None l x fs s vs ss) h = pays_before (plain (formals fs (pays (values vs (specifications ss h)))))
heading m (MkHeading (Some t) l x fs s vs ss) h = pays_before (plain (plain (formals fs (pays (values vs (specifications ss h))))))

-- labels, and a mark before them, for which the symbol behind them pays
pub labels : {k : ℕ} {xs ys : List Symbol} (ls : List LabelPlace) → Fits k xs ys → Fits k (text_labels ls xs) (spell_labels ls ys)
labels [] h = h
labels (l ∷ ls) h = plain (plain (labels ls h))

pub labels_before : {k : ℕ} {xs ys : List Symbol} (m a b : Symbol) (ls : List LabelPlace) → Fits (suc k) xs ys → Fits k (m ∷ text_labels ls (a ∷ xs)) (spell_labels ls (b ∷ ys))
labels_before m a b [] h = pays_before h
labels_before m a b (l ∷ ls) h = pays_before (plain (labels ls (plain h)))

-- left parts
left : {k : ℕ} {xs ys : List Symbol} (os : List Name) (p : Places) (x : LeftSide) → Fits k xs ys → Fits k (text_left (marked os) p x xs) (spell_left x ys)
left os p (OneName x) h = plain h
left os p (LeftElement e) h = element os p e h

pub lefts : {k : ℕ} {xs ys : List Symbol} (os : List Name) (p : Places) (qs : List LeftPart) → Fits k xs ys → Fits k (text_lefts (marked os) p qs xs) (spell_lefts qs ys)
lefts os p [] h = h
lefts os p (q ∷ qs) h = left os p q.left (plain (lefts os p qs h))

-- elements of for lists
turn : {k : ℕ} {xs ys : List Symbol} (os : List Name) (p : Places) (u : Turns) → Fits k xs ys → Fits k (text_turn (marked os) p u xs) (spell_turns u ys)
turn os p (OneValue e) h = expr os p e h
turn os p (StepUntil a l b m c) h = expr os p a (plain (expr os p b (plain (expr os p c h))))
turn os p (WhileTrue e l f) h = expr os p e (plain (expr os p f h))

pub turns : {k : ℕ} {xs ys : List Symbol} (os : List Name) (p : Places) (u : Turns) → Fits k xs ys → Fits (suc (suc k)) (text_turns (marked os) p u xs) (spell_turns u ys)
turns os p u h = mark (turn os p u (mark h))

pub next_turns : {k : ℕ} {xs ys : List Symbol} (os : List Name) (p : Places) (us : List NextTurns) → Fits k xs ys → Fits k (text_next_turns (marked os) p us xs) (spell_next_turns us ys)
next_turns os p [] h = h
next_turns os p (u ∷ us) h = pays (turns os p u.turns (next_turns os p us h))
