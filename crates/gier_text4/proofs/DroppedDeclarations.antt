-- What stands behind the parts of declarations in text 3.
use Rattle.std.proofs.Common.{ℕ, zero, suc, List, [], ◌∷◌}
use Rattle.std.specs.Prelude.{Option, None, Some}
use Rattle.gier_symbol.specs.declared.symbol.Symbol.{Symbol}
use Rattle.gier_symbol.specs.declared.tag.Tag.{Tag}
use Rattle.gier_symbol.specs.declared.tag.Tag.TheVariants.{Number, Comma, Colon, Semicolon, LeftParenthesis, RightParenthesis}
use Rattle.gier_symbol.specs.declared.tag.Tag.TheVariants.{LeftBracket, RightBracket, Array, Switch, Procedure, String, Label}
use Rattle.gier_symbol.specs.declared.tag.Tag.TheVariants.{Value}
use Rattle.gier_symbol.specs.declared.tag.Tag.TheVariants.{Declaring, Formal, ValueListed, Specified}
use Rattle.gier_symbol.specs.ByTag.{sym, word}
use Rattle.gier_tree.specs.declared.construct.Construct.TheVariants.{ArraySegment as MSegment, Bound as MBound}
use Rattle.gier_tree.specs.Lines.{first_expr, last_expr, first_name}
use Rattle.gier_tree.specs.Places.{Places}
use Rattle.gier_tree.specs.Spell.{type_tag, spell_type, spell_option_type, spell_specifier}
use Rattle.gier_tree.specs.Texts.{next_names, names_as, declares, text_bound, text_pair, text_pairs, text_segment, text_segments}
use Rattle.gier_tree.specs.Texts.{text_constant, text_fixed_pair, text_further_pairs, text_formals, text_values}
use Rattle.gier_tree.specs.Texts.{text_specifications}
use Rattle.gier_tree.specs.Texts.{text_heading}
use Rattle.gier_tree.specs.Trees.{Name, Expr, NextName, Names, MkNames, TypeWord, BoundPair, MkPair, NextPair, Segment, MkSegment}
use Rattle.gier_tree.specs.Trees.{NextSegment, Constant, Unsigned, WithSign, FixedPair, MkFixedPair, FurtherPairs, NoFurther}
use Rattle.gier_tree.specs.Trees.{MoreFurther}
use Rattle.gier_tree.specs.Trees.{Formals, NoFormals, FormalList, ValuePart, NoValues, ValueList, Specifier, ValueSpec, ArraySpec}
use Rattle.gier_tree.specs.Trees.{LabelSpec, SwitchSpec, StringSpec, ProcedureSpec, FunctionSpec, Specification, Heading, MkHeading}
use Rattle.gier_tree.specs.Written.{opens, shuts, leading_tag}
use Rattle.gier_text4.proofs.Copying.{marked_text}
use Rattle.gier_text4.proofs.Dropping.{Drops, after, first, none}
use Rattle.gier_text4.proofs.DroppedExpressions.{dropped_expr}

-- identifiers and types
dropped_next : (P : Symbol → Type 0) (tag : Tag) (ns : List NextName) → Drops P (next_names tag ns)
dropped_next P tag [] = none P
dropped_next P tag (n ∷ ns) =
    after (first P (word Comma n.comma)) (after (first P (sym tag n.name.number n.name.line)) (dropped_next P tag ns))

pub dropped_names : (P : Symbol → Type 0) (tag : Tag) (ns : Names) → Drops P (names_as tag ns)
dropped_names P tag (MkNames x ns) = after (first P (sym tag x.number x.line)) (dropped_next P tag ns)

pub dropped_type : (P : Symbol → Type 0) (t : TypeWord) → Drops P (spell_type t)
dropped_type P t = first P (word (type_tag t.type) t.line)

-- segments of arrays
dropped_bound : (P : Symbol → Type 0) (os : List Name) (p : Places) (e : Expr) → Drops P (text_bound (marked_text os) p e)
dropped_bound P os p e =
    after (first P (opens MBound (first_expr e))) (after (dropped_expr P os p e) (first P (shuts MBound (last_expr e))))

dropped_pair : (P : Symbol → Type 0) (os : List Name) (p : Places) (x : BoundPair) → Drops P (text_pair (marked_text os) p x)
dropped_pair P os p (MkPair a l b) = after (dropped_bound P os p a) (after (first P (word Colon l)) (dropped_bound P os p b))

dropped_pairs : (P : Symbol → Type 0) (os : List Name) (p : Places) (xs : List NextPair)
    → Drops P (text_pairs (marked_text os) p xs)
dropped_pairs P os p [] = none P
dropped_pairs P os p (x ∷ xs) = after (first P (word Comma x.comma)) (after (dropped_pair P os p x.pair) (dropped_pairs P os p xs))

pub dropped_segment : (P : Symbol → Type 0) (os : List Name) (p : Places) (s : Segment)
    → Drops P (text_segment (marked_text os) p s)
dropped_segment P os p (MkSegment ns l q qs m) =
    after (first P (opens MSegment (first_name ns))) (after (dropped_names P Declaring ns) (after (first P (word LeftBracket l))
    (after (dropped_pair P os p q) (after (dropped_pairs P os p qs)
    (after (first P (word RightBracket m)) (first P (shuts MSegment m)))))))

pub dropped_segments : (P : Symbol → Type 0) (os : List Name) (p : Places) (ss : List NextSegment)
    → Drops P (text_segments (marked_text os) p ss)
dropped_segments P os p [] = none P
dropped_segments P os p (s ∷ ss) =
    after (first P (word Comma s.comma)) (after (dropped_segment P os p s.segment) (dropped_segments P os p ss))

-- bounds of own arrays
dropped_constant : (P : Symbol → Type 0) (x : Constant) → Drops P (text_constant x)
dropped_constant P (Unsigned n l) = after (first P (opens MBound l)) (after (first P (sym Number n l)) (first P (shuts MBound l)))
dropped_constant P (WithSign o k n l) = after (first P (opens MBound k)) (after (first P (word (leading_tag o) k))
    (after (first P (sym Number n l)) (first P (shuts MBound l))))

pub dropped_fixed : (P : Symbol → Type 0) (x : FixedPair) → Drops P (text_fixed_pair x)
dropped_fixed P (MkFixedPair a l b) = after (dropped_constant P a) (after (first P (word Colon l)) (dropped_constant P b))

pub dropped_further : (P : Symbol → Type 0) (n : ℕ) (x : FurtherPairs n) → Drops P (text_further_pairs n x)
dropped_further P zero x = none P
dropped_further P (suc n) NoFurther = none P
dropped_further P (suc n) (MoreFurther l q more) =
    after (first P (word Comma l)) (after (dropped_fixed P q) (dropped_further P n more))

-- headings
dropped_specifier : (P : Symbol → Type 0) (s : Specifier) → Drops P (spell_specifier s)
dropped_specifier P (ValueSpec t) = dropped_type P t
dropped_specifier P (ArraySpec t l) = after (dropped_type P t) (first P (word Array l))
dropped_specifier P (LabelSpec l) = first P (word Label l)
dropped_specifier P (SwitchSpec l) = first P (word Switch l)
dropped_specifier P (StringSpec l) = first P (word String l)
dropped_specifier P (ProcedureSpec l) = first P (word Procedure l)
dropped_specifier P (FunctionSpec t l) = after (dropped_type P t) (first P (word Procedure l))

dropped_specifications : (P : Symbol → Type 0) (ss : List Specification) → Drops P (text_specifications ss)
dropped_specifications P [] = none P
dropped_specifications P (s ∷ ss) = after (dropped_specifier P s.specifier) (after (dropped_names P Specified s.names)
    (after (first P (word Semicolon s.semicolon)) (dropped_specifications P ss)))

dropped_values : (P : Symbol → Type 0) (vs : ValuePart) → Drops P (text_values vs)
dropped_values P NoValues = none P
dropped_values P (ValueList l ns m) =
    after (first P (word Value l)) (after (dropped_names P ValueListed ns) (first P (word Semicolon m)))

dropped_formals : (P : Symbol → Type 0) (fs : Formals) → Drops P (text_formals fs)
dropped_formals P NoFormals = none P
dropped_formals P (FormalList l ns m) =
    after (first P (word LeftParenthesis l)) (after (dropped_names P Formal ns) (first P (word RightParenthesis m)))

dropped_option : (P : Symbol → Type 0) (t : Option TypeWord) → Drops P (spell_option_type t)
dropped_option P None = none P
dropped_option P (Some t) = dropped_type P t

pub dropped_heading : (P : Symbol → Type 0) (h : Heading) → Drops P (text_heading h)
dropped_heading P (MkHeading t l x fs m vs ss) = after (dropped_option P t) (after (first P (word Procedure l))
    (after (first P (declares x)) (after (dropped_formals P fs) (after (first P (word Semicolon m))
    (after (dropped_values P vs) (dropped_specifications P ss))))))
