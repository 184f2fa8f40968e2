-- The pass reads the heading of a procedure: what it says of its formals, and the entry of the procedure.
use Rattle.std.proofs.Common.{◌≡◌, ◌∙◌, ◌==◌, ◌||◌, ℕ, Bool, true, false, List, [], ◌∷◌, length, refl, sym as back, ap}
use Rattle.std.specs.Prelude.{map, Option, None, Some, if◌then◌else◌}
use Rattle.gier_symbol.specs.declared.symbol.Symbol.{Symbol}
use Rattle.gier_symbol.specs.declared.tag.Tag.TheVariants.{Semicolon, LeftParenthesis, RightParenthesis, Procedure as ProcedureWord}
use Rattle.gier_symbol.specs.declared.tag.Tag.TheVariants.{Array, Switch, String, Label, Value, Formal, ValueListed, Comma}
use Rattle.gier_symbol.specs.declared.tag.Tag.TheVariants.{Specified as SpecifiedTag}
use Rattle.gier_symbol.specs.ByTag.{sym, word}
use Rattle.gier_tree.specs.declared.construct.Construct.TheVariants.{ProcedureDeclaration as MProcedure, ProcedureBody as MBody}
use Rattle.gier_tree.specs.declared.kind.Kind.{Kind}
use Rattle.gier_tree.specs.declared.kind.Kind.TheVariants.{Undeclared, IntegerArrayFormal, ProcedureFormal}
use Rattle.gier_tree.specs.Declaring.{list_of, formal_names, formals_of, name_of_heading}
use Rattle.gier_tree.specs.Described.{plain, specified_kind, is_named, is_by_value, formal_kind, kind_in, formal_kinds}
use Rattle.gier_tree.specs.Described.{procedure_kind, procedure_described}
use Rattle.gier_tree.specs.Entries.{entry}
use Rattle.gier_tree.specs.Spell.{type_tag, spell_option_type, spell_specifier}
use Rattle.gier_tree.specs.Texts.{kinds_listed, behind_entry, all_entries, names_as, declares, text_formals, text_values}
use Rattle.gier_tree.specs.Texts.{text_specifications, text_heading}
use Rattle.gier_tree.specs.Trees.{Name, NextName, Names, MkNames, ValueType, IntegerType, BooleanType, TypeWord, Formals, NoFormals}
use Rattle.gier_tree.specs.Trees.{FormalList, ValuePart, NoValues, ValueList, Specifier, ValueSpec, ArraySpec, LabelSpec}
use Rattle.gier_tree.specs.Trees.{SwitchSpec}
use Rattle.gier_tree.specs.Trees.{StringSpec, ProcedureSpec, FunctionSpec, Specification, Heading, MkHeading}
use Rattle.gier_tree.specs.Written.{opens}
use Rattle.gier_text4.specs.Kinds.{Specified, MkSpecified, typed_specification, declared_kind, is_among, by_value, formal_in}
use Rattle.gier_text4.specs.PurePass.{step, entry_of}
use Rattle.gier_text4.specs.State.{NotOwn, Frame, InHeading, State, MkState, lined}
use Rattle.gier_text4.proofs.Copying.{fold_written, as_written}
use Rattle.gier_text4.proofs.Calm.{calm}
use mathlib.Core.Path.{fun_ext}

-- within a heading
abbrev heads : (out owns : List Symbol) → (scopes : List (List Symbol)) → (own_entries : List Symbol) → (formals : List Kind)
    → Specified → List Specified → (values : List ℕ) → Option ℕ → Frame → State
heads o d sc w f spec specs vs y fr = MkState o d sc w f NotOwn (InHeading spec specs vs y) fr

abbrev numbers : Name → List NextName → List ℕ → List ℕ
numbers x [] behind = x.number ∷ behind
numbers x (n ∷ ns) behind = x.number ∷ numbers n.name ns behind

abbrev numbers_of : Names → List ℕ
numbers_of (MkNames x ns) = numbers x ns []

abbrev none_specified : Specified
none_specified = MkSpecified [] Undeclared

-- specifications
specified_read : (os : List Name) (ns : List NextName) (x : Name) (k o d : List Symbol) (sc : List (List Symbol)) (w : List Symbol)
    (f : List Kind) (behind : List ℕ) (kind : Kind) (specs : List Specified) (vs : List ℕ) (y : Option ℕ) (fr : Frame)
    → fold_written os k ≡ heads o d sc w f (MkSpecified behind kind) specs vs y fr
    → fold_written os (names_as SpecifiedTag (MkNames x ns) k)
    ≡ heads (names_as SpecifiedTag (MkNames x ns) o) d sc w f (MkSpecified (numbers x ns behind) kind) specs vs y fr
specified_read os [] x k o d sc w f behind kind specs vs y fr h = ap (step (sym SpecifiedTag x.number x.line)) h
specified_read os (n ∷ ns) x k o d sc w f behind kind specs vs y fr h =
    ap (λ c. step (sym SpecifiedTag x.number x.line) (step (word Comma n.comma) c))
    (specified_read os ns n.name k o d sc w f behind kind specs vs y fr h)

type_read : (os : List Name) (t : ValueType) (l : ℕ) (k o d : List Symbol) (sc : List (List Symbol)) (w : List Symbol)
    (f : List Kind) (names : List ℕ) (kind : Kind) (specs : List Specified) (vs : List ℕ) (y : Option ℕ) (fr : Frame)
    → fold_written os k ≡ heads o d sc w f (MkSpecified names kind) specs vs y fr
    → fold_written os (word (type_tag t) l ∷ k)
    ≡ heads (word (type_tag t) l ∷ o) d sc w f (MkSpecified names (typed_specification t kind)) specs vs y fr
type_read os IntegerType l k o d sc w f names kind specs vs y fr h =
    ap (λ c. step (as_written os (word (type_tag IntegerType) l)) c) h
type_read os BooleanType l k o d sc w f names kind specs vs y fr h =
    ap (λ c. step (as_written os (word (type_tag BooleanType) l)) c) h

specifier_read : (os : List Name) (s : Specifier) (k o d : List Symbol) (sc : List (List Symbol)) (w : List Symbol) (f : List Kind)
    (names : List ℕ) (specs : List Specified) (vs : List ℕ) (y : Option ℕ) (fr : Frame)
    → fold_written os k ≡ heads o d sc w f (MkSpecified names Undeclared) specs vs y fr
    → fold_written os (spell_specifier s k)
    ≡ heads (spell_specifier s o) d sc w f (MkSpecified names (specified_kind s false)) specs vs y fr
specifier_read os (ValueSpec t) k o d sc w f names specs vs y fr h =
    type_read os t.type t.line k o d sc w f names Undeclared specs vs y fr h
    ∙ ap (λ z. heads (word (type_tag t.type) t.line ∷ o) d sc w f (MkSpecified names z) specs vs y fr) (value_kind_read t.type)
  where
    value_kind_read : (t : ValueType)
        → typed_specification t Undeclared ≡ specified_kind (ValueSpec (record { type = t; line = 0 })) false
    value_kind_read IntegerType = refl
    value_kind_read BooleanType = refl
specifier_read os (ArraySpec t l) k o d sc w f names specs vs y fr h =
    let k1 : List Symbol = word Array l ∷ k in
    let o1 : List Symbol = word Array l ∷ o in
    type_read os t.type t.line k1 o1 d sc w f names IntegerArrayFormal specs vs y fr (ap (step (word Array l)) h)
    ∙ ap (λ z. heads (word (type_tag t.type) t.line ∷ o1) d sc w f (MkSpecified names z) specs vs y fr) (array_kind_read t.type)
  where
    array_kind_read : (t : ValueType)
        → typed_specification t IntegerArrayFormal ≡ specified_kind (ArraySpec (record { type = t; line = 0 }) 0) false
    array_kind_read IntegerType = refl
    array_kind_read BooleanType = refl
specifier_read os (LabelSpec l) k o d sc w f names specs vs y fr h = ap (step (word Label l)) h
specifier_read os (SwitchSpec l) k o d sc w f names specs vs y fr h = ap (step (word Switch l)) h
specifier_read os (StringSpec l) k o d sc w f names specs vs y fr h = ap (step (word String l)) h
specifier_read os (ProcedureSpec l) k o d sc w f names specs vs y fr h = ap (step (word ProcedureWord l)) h
specifier_read os (FunctionSpec t l) k o d sc w f names specs vs y fr h =
    let k1 : List Symbol = word ProcedureWord l ∷ k in
    let o1 : List Symbol = word ProcedureWord l ∷ o in
    type_read os t.type t.line k1 o1 d sc w f names ProcedureFormal specs vs y fr (ap (step (word ProcedureWord l)) h)
    ∙ ap (λ z. heads (word (type_tag t.type) t.line ∷ o1) d sc w f (MkSpecified names z) specs vs y fr) (function_kind_read t.type)
  where
    function_kind_read : (t : ValueType)
        → typed_specification t ProcedureFormal ≡ specified_kind (FunctionSpec (record { type = t; line = 0 }) 0) false
    function_kind_read IntegerType = refl
    function_kind_read BooleanType = refl

abbrev first_spec : List Specification → Specified
first_spec [] = none_specified
first_spec (s ∷ ss) = MkSpecified (numbers_of s.names) (specified_kind s.specifier false)

abbrev more_specs : List Specification → List Specified
more_specs [] = []
more_specs (s ∷ ss) = first_spec ss ∷ more_specs ss

specification_read : (os : List Name) (s : Specifier) (ns : Names) (l : ℕ) (k o d : List Symbol) (sc : List (List Symbol))
    (w : List Symbol) (f : List Kind) (spec : Specified) (specs : List Specified) (fr : Frame)
    → fold_written os k ≡ heads o d sc w f spec specs [] None fr
    → fold_written os (spell_specifier s (names_as SpecifiedTag ns (word Semicolon l ∷ k)))
    ≡ heads (spell_specifier s (names_as SpecifiedTag ns (word Semicolon l ∷ o))) d sc w f
    (MkSpecified (numbers_of ns) (specified_kind s false)) (spec ∷ specs) [] None fr
specification_read os s (MkNames x ns) l k o d sc w f spec specs fr h =
    let k1 : List Symbol = word Semicolon l ∷ k in
    let o1 : List Symbol = word Semicolon l ∷ o in
    specifier_read os s (names_as SpecifiedTag (MkNames x ns) k1) (names_as SpecifiedTag (MkNames x
    ns) o1) d sc w f (numbers x ns [])
    (spec ∷ specs) [] None fr
    (specified_read os ns x k1 o1 d sc w f [] Undeclared (spec ∷ specs) [] None fr (ap (step (word Semicolon l)) h))

specifications_read : (os : List Name) (ss : List Specification) (k o d : List Symbol) (sc : List (List Symbol)) (w : List Symbol)
    (f : List Kind) (fr : Frame) → fold_written os k ≡ heads o d sc w f none_specified [] [] None fr
    → fold_written os (text_specifications ss k)
    ≡ heads (text_specifications ss o) d sc w f (first_spec ss) (more_specs ss) [] None fr
specifications_read os [] k o d sc w f fr h = h
specifications_read os (s ∷ ss) k o d sc w f fr h =
    specification_read os s.specifier s.names s.semicolon (text_specifications ss k) (text_specifications ss o) d sc w f
    (first_spec ss)
    (more_specs ss) fr (specifications_read os ss k o d sc w f fr h)

-- the value list
listed_read : (os : List Name) (ns : List NextName) (x : Name) (k o d : List Symbol) (sc : List (List Symbol)) (w : List Symbol)
    (f : List Kind) (spec : Specified) (specs : List Specified) (vs : List ℕ) (y : Option ℕ) (fr : Frame)
    → fold_written os k ≡ heads o d sc w f spec specs vs y fr
    → fold_written os (names_as ValueListed (MkNames x ns) k)
    ≡ heads (names_as ValueListed (MkNames x ns) o) d sc w f spec specs (numbers x ns vs) y fr
listed_read os [] x k o d sc w f spec specs vs y fr h = ap (step (sym ValueListed x.number x.line)) h
listed_read os (n ∷ ns) x k o d sc w f spec specs vs y fr h =
    ap (λ c. step (sym ValueListed x.number x.line) (step (word Comma n.comma) c))
    (listed_read os ns n.name k o d sc w f spec specs vs y fr h)

abbrev first_behind : ValuePart → List Specification → Specified
first_behind NoValues ss = first_spec ss
first_behind (ValueList l ns m) ss = none_specified

abbrev more_behind : ValuePart → List Specification → List Specified
more_behind NoValues ss = more_specs ss
more_behind (ValueList l ns m) ss = first_spec ss ∷ more_specs ss

abbrev values_of : ValuePart → List ℕ
values_of NoValues = []
values_of (ValueList l ns m) = numbers_of ns

values_read : (os : List Name) (vs : ValuePart) (ss : List Specification) (k o d : List Symbol) (sc : List (List Symbol))
    (w : List Symbol) (f : List Kind) (fr : Frame) → fold_written os k ≡ heads o d sc w f (first_spec ss) (more_specs ss) [] None fr
    → fold_written os (text_values vs k)
    ≡ heads (text_values vs o) d sc w f (first_behind vs ss) (more_behind vs ss) (values_of vs) None fr
values_read os NoValues ss k o d sc w f fr h = h
values_read os (ValueList l (MkNames x ns) m) ss k o d sc w f fr h =
    let k1 : List Symbol = word Semicolon m ∷ k in
    let o1 : List Symbol = word Semicolon m ∷ o in
    ap (step (word Value l)) (listed_read os ns x k1 o1 d sc w f none_specified (first_spec ss ∷ more_specs ss) [] None fr
    (ap (step (word Semicolon m)) h))

-- the kinds that are found are those of the heading
among_named : (x : ℕ) (ns : List NextName) (y : Name) → is_among x (numbers y ns []) ≡ is_named x (MkNames y ns)
among_named x [] y = refl
among_named x (n ∷ ns) y = ap (λ z. (y.number == x) || z) (among_named x ns n.name)

among_names : (x : ℕ) (ns : Names) → is_among x (numbers_of ns) ≡ is_named x ns
among_names x (MkNames y ns) = among_named x ns y

among_values : (x : ℕ) (vs : ValuePart) → is_among x (values_of vs) ≡ is_by_value x vs
among_values x NoValues = refl
among_values x (ValueList l ns m) = among_names x ns

kind_by_value : (s : Specifier) (b : Bool)
    → (if b then by_value (specified_kind s false) else specified_kind s false) ≡ specified_kind s b
kind_by_value s false = refl
kind_by_value (ValueSpec t) true = valued t.type
  where
    valued : (t : ValueType) → by_value (specified_kind (ValueSpec (record { type = t; line = 0 })) false)
        ≡ specified_kind (ValueSpec (record { type = t; line = 0 })) true
    valued IntegerType = refl
    valued BooleanType = refl
kind_by_value (ArraySpec t l) true = arrayed t.type
  where
    arrayed : (t : ValueType) → by_value (specified_kind (ArraySpec (record { type = t; line = 0 }) 0) false)
        ≡ specified_kind (ArraySpec (record { type = t; line = 0 }) 0) true
    arrayed IntegerType = refl
    arrayed BooleanType = refl
kind_by_value (LabelSpec l) true = refl
kind_by_value (SwitchSpec l) true = refl
kind_by_value (StringSpec l) true = refl
kind_by_value (ProcedureSpec l) true = refl
kind_by_value (FunctionSpec t l) true = functional t.type
  where
    functional : (t : ValueType) → by_value (specified_kind (FunctionSpec (record { type = t; line = 0 }) 0) false)
        ≡ specified_kind (FunctionSpec (record { type = t; line = 0 }) 0) true
    functional IntegerType = refl
    functional BooleanType = refl

kind_found : (ss : List Specification) (vs : ValuePart) (x : ℕ)
    → formal_in (first_spec ss ∷ more_specs ss) (values_of vs) x ≡ formal_kind ss vs x
kind_found [] vs x = refl
kind_found (s ∷ ss) vs x =
    ap (λ c. if c then (if is_among x (values_of vs) then by_value (specified_kind s.specifier false) else specified_kind
    s.specifier false)
    else formal_in (first_spec ss ∷ more_specs ss) (values_of vs) x) (among_names x s.names)
    ∙ ap (λ z. if is_named x s.names then z else formal_in (first_spec ss ∷ more_specs ss) (values_of vs) x)
    (ap (λ b. if b then by_value (specified_kind s.specifier false) else specified_kind s.specifier false) (among_values x vs)
    ∙ kind_by_value s.specifier (is_by_value x vs))
    ∙ ap (λ z. if is_named x s.names then specified_kind s.specifier (is_by_value x vs) else z) (kind_found ss vs x)

kind_looked_up : (ss : List Specification) (vs : ValuePart) (x : ℕ)
    → formal_in (none_specified ∷ first_behind vs ss ∷ more_behind vs ss) (values_of vs) x ≡ formal_kind ss vs x
kind_looked_up ss NoValues x = kind_found ss NoValues x
kind_looked_up ss (ValueList l ns m) x = kind_found ss (ValueList l ns m) x

-- formals
abbrev formal_entries : (ℕ → Kind) → Name → List NextName → List Symbol → List Symbol
formal_entries look x [] r = entry_of x.number (look x.number) r
formal_entries look x (n ∷ ns) r = entry_of x.number (look x.number) (formal_entries look n.name ns r)

abbrev kinds_of : (ℕ → Kind) → Name → List NextName → List Kind
kinds_of look x [] = look x.number ∷ []
kinds_of look x (n ∷ ns) = look x.number ∷ kinds_of look n.name ns

names_read : (os : List Name) (ns : List NextName) (x : Name) (k o d e : List Symbol) (es : List (List Symbol)) (w : List Symbol)
    (spec : Specified) (specs : List Specified) (vs : List ℕ) (y : Option ℕ) (fr : Frame)
    → fold_written os k ≡ heads o d (e ∷ es) w [] spec specs vs y fr
    → fold_written os (names_as Formal (MkNames x ns) k)
    ≡ heads (names_as Formal (MkNames x ns) o) d (formal_entries (formal_in (spec ∷ specs) vs) x ns e ∷ es) w
    (kinds_of (formal_in (spec ∷ specs) vs) x ns) spec specs vs y fr
names_read os [] x k o d e es w spec specs vs y fr h = ap (step (sym Formal x.number x.line)) h
names_read os (n ∷ ns) x k o d e es w spec specs vs y fr h =
    ap (λ c. step (sym Formal x.number x.line) (step (word Comma n.comma)
    c)) (names_read os ns n.name k o d e es w spec specs vs y fr h)

abbrev formals_noted : (ℕ → Kind) → Formals → List Symbol → List Symbol
formals_noted look NoFormals e = e
formals_noted look (FormalList l (MkNames x ns) m) e = formal_entries look x ns e

abbrev formals_kinds : (ℕ → Kind) → Formals → List Kind
formals_kinds look NoFormals = []
formals_kinds look (FormalList l (MkNames x ns) m) = kinds_of look x ns

formals_read : (os : List Name) (fs : Formals) (k o d e : List Symbol) (es : List (List Symbol)) (w : List Symbol)
    (spec : Specified) (specs : List Specified) (vs : List ℕ) (y : Option ℕ) (fr : Frame)
    → fold_written os k ≡ heads o d (e ∷ es) w [] spec specs vs y fr
    → fold_written os (text_formals fs k)
    ≡ heads (text_formals fs o) d (formals_noted (formal_in (spec ∷ specs) vs) fs e
    ∷ es) w (formals_kinds (formal_in (spec ∷ specs) vs) fs)
    spec specs vs y fr
formals_read os NoFormals k o d e es w spec specs vs y fr h = h
formals_read os (FormalList l (MkNames x ns) m) k o d e es w spec specs vs y fr h =
    let k1 : List Symbol = word RightParenthesis m ∷ k in
    let o1 : List Symbol = word RightParenthesis m ∷ o in
    ap (step (word LeftParenthesis l)) (names_read os ns x k1 o1 d e es w spec specs vs y fr (ap
    (step (word RightParenthesis m)) h))

-- no kind of a formal has a count behind it
abbrev IsPlain : Kind → Type 0
IsPlain kind = (l : ℕ) (r : List Symbol) → behind_entry kind (plain kind) l r ≡ r

plain_by : (b : Bool) (k m : Kind) → IsPlain k → IsPlain m → IsPlain (if b then k else m)
plain_by true k m a c = a
plain_by false k m a c = c

plain_value : (t : ValueType) (b : Bool) → IsPlain (specified_kind (ValueSpec (record { type = t; line = 0 })) b)
plain_value IntegerType true l r = refl
plain_value IntegerType false l r = refl
plain_value BooleanType true l r = refl
plain_value BooleanType false l r = refl

plain_array : (t : ValueType) (b : Bool) → IsPlain (specified_kind (ArraySpec (record { type = t; line = 0 }) 0) b)
plain_array IntegerType b l r = refl
plain_array BooleanType b l r = refl

plain_function : (t : ValueType) (b : Bool) → IsPlain (specified_kind (FunctionSpec (record { type = t; line = 0 }) 0) b)
plain_function IntegerType b l r = refl
plain_function BooleanType b l r = refl

plain_specified : (s : Specifier) (b : Bool) → IsPlain (specified_kind s b)
plain_specified (ValueSpec t) true = plain_value t.type true
plain_specified (ValueSpec t) false = plain_value t.type false
plain_specified (ArraySpec t l) b = plain_array t.type b
plain_specified (LabelSpec l) b = λ l r. refl
plain_specified (SwitchSpec l) b = λ l r. refl
plain_specified (StringSpec l) b = λ l r. refl
plain_specified (ProcedureSpec l) b = λ l r. refl
plain_specified (FunctionSpec t l) b = plain_function t.type b

plain_formal : (ss : List Specification) (vs : ValuePart) (x : ℕ) → IsPlain (formal_kind ss vs x)
plain_formal [] vs x = λ l r. refl
plain_formal (s ∷ ss) vs x =
    plain_by (is_named x s.names) (specified_kind s.specifier (is_by_value x vs)) (formal_kind ss vs x)
    (plain_specified s.specifier (is_by_value x vs)) (plain_formal ss vs x)

names_entries : (look : ℕ → Kind) → ((x : ℕ) → IsPlain (look x)) → (ns : List NextName) (x : Name) (r : List Symbol)
    → formal_entries look x ns r ≡ all_entries (map (λ y. entry (plain (look y.number)) y) (list_of (MkNames x ns))) 0 r
names_entries look p [] x r = ap (entry_of x.number (look x.number)) (back (p x.number 0 r))
names_entries look p (n ∷ ns) x r =
    ap (entry_of x.number (look x.number)) (names_entries look p ns n.name r ∙ back (p x.number 0 _))

formals_entries : (look : ℕ → Kind) → ((x : ℕ) → IsPlain (look x)) → (fs : Formals) (r : List Symbol)
    → formals_noted look fs r ≡ all_entries (map (λ y. entry (plain (look y.number)) y) (formal_names fs)) 0 r
formals_entries look p NoFormals r = refl
formals_entries look p (FormalList l (MkNames x ns) m) r = names_entries look p ns x r

names_kinds : (look : ℕ → Kind) (ns : List NextName) (x : Name)
    → kinds_of look x ns ≡ map (λ y. look y.number) (list_of (MkNames x ns))
names_kinds look [] x = refl
names_kinds look (n ∷ ns) x = ap (λ z. look x.number ∷ z) (names_kinds look ns n.name)

all_kinds : (look : ℕ → Kind) (fs : Formals) → formals_kinds look fs ≡ map (λ y. look y.number) (formal_names fs)
all_kinds look NoFormals = refl
all_kinds look (FormalList l (MkNames x ns) m) = names_kinds look ns x

-- the words before the identifier of the procedure
abbrev head_kind : Option TypeWord → Kind
head_kind None = ProcedureFormal
head_kind (Some t) = typed_specification t.type ProcedureFormal

head_ends : (t : Option TypeWord) (l0 l : ℕ) (os : List Name) (k o d b e : List Symbol) (es : List (List Symbol)) (w : List Symbol)
    (f : List Kind) (specs : List Specified) (vs : List ℕ) (x : ℕ) (fr : Frame)
    → fold_written os k ≡ heads o d (b ∷ e ∷ es) w f none_specified specs vs (Some x) fr
    → fold_written os (opens MProcedure l0 ∷ spell_option_type t (word ProcedureWord l ∷ k))
    ≡ calm (opens MProcedure l0 ∷ lined l0 b (spell_option_type t (word ProcedureWord l ∷ o))) d
    (entry_of x (declared_kind (head_kind t)) (kinds_listed f 0 e) ∷ es) w fr
head_ends None l0 l os k o d b e es w f specs vs x fr h = ap (λ c. step (opens MProcedure l0) (step (word ProcedureWord l) c)) h
head_ends (Some t) l0 l os k o d b e es w f specs vs x fr h =
    let k1 : List Symbol = word ProcedureWord l ∷ k in
    let o1 : List Symbol = word ProcedureWord l ∷ o in
    ap (step (opens MProcedure l0)) (type_read os t.type t.line k1 o1 d (b ∷ e ∷ es) w f [] ProcedureFormal specs vs (Some x) fr
    (ap (step (word ProcedureWord l)) h))

procedure_typed : (t : ValueType) (x : ℕ) (a : ℕ) (f : List Kind) (y : Name) (e : List Symbol)
    → entry_of y.number (declared_kind (typed_specification t ProcedureFormal)) (kinds_listed f 0 e)
    ≡ all_entries (entry (record { kind = procedure_kind (Some (record { type = t; line = x })); count = a; formals = f }) y
    ∷ []) 0 e
procedure_typed IntegerType x a f y e = refl
procedure_typed BooleanType x a f y e = refl

procedure_noted : (t : Option TypeWord) (a : ℕ) (f : List Kind) (y : Name) (e : List Symbol)
    → entry_of y.number (declared_kind (head_kind t)) (kinds_listed f 0 e)
    ≡ all_entries (entry (record { kind = procedure_kind t; count = a; formals = f }) y ∷ []) 0 e
procedure_noted None a f y e = refl
procedure_noted (Some t) a f y e = procedure_typed t.type t.line a f y e

-- the whole heading
pub heading_read : (os : List Name) (hd : Heading) (l0 lb : ℕ) (k o d b e : List Symbol) (es : List (List Symbol)) (w : List Symbol)
    (fr : Frame) → fold_written os k ≡ calm o d (b ∷ e ∷ es) w fr
    → fold_written os (opens MProcedure l0 ∷ text_heading hd (opens MBody lb ∷ k))
    ≡ calm (opens MProcedure l0 ∷ lined l0 (all_entries (map (λ x. entry (plain (kind_in hd x.number)) x) (formals_of hd)) 0 b)
    (text_heading hd (opens MBody lb ∷ o))) d
    (all_entries (entry (procedure_described hd) (name_of_heading hd) ∷ []) 0 e ∷ es) w fr
heading_read os (MkHeading t l x fs m vs ss) l0 lb k o d b e es w fr h =
    let hd = MkHeading t l x fs m vs ss in
    let k1 : List Symbol = opens MBody lb ∷ k in
    let o1 : List Symbol = opens MBody lb ∷ o in
    let k2 = text_specifications ss k1 in
    let o2 = text_specifications ss o1 in
    let k3 = text_values vs k2 in
    let o3 = text_values vs o2 in
    let k4 : List Symbol = word Semicolon m ∷ k3 in
    let o4 : List Symbol = word Semicolon m ∷ o3 in
    let k5 = text_formals fs k4 in
    let o5 = text_formals fs o4 in
    let k6 : List Symbol = declares x ∷ k5 in
    let o6 : List Symbol = declares x ∷ o5 in
    let specs : List Specified = first_behind vs ss ∷ more_behind vs ss in
    let look : ℕ → Kind = formal_in (none_specified ∷ specs) (values_of vs) in
    let found : look ≡ formal_kind ss vs = fun_ext (λ y. kind_looked_up ss vs y) in
    let h1 : fold_written os k1 ≡ heads o1 d (b ∷ e ∷ es) w [] none_specified [] [] None fr = ap (step (opens MBody lb)) h in
    let h2 = specifications_read os ss k1 o1 d (b ∷ e ∷ es) w [] fr h1 in
    let h3 = values_read os vs ss k2 o2 d (b ∷ e ∷ es) w [] fr h2 in
    let h4 : fold_written os k4 ≡ heads o4 d (b ∷ e ∷ es) w [] none_specified specs (values_of vs) None fr =
    ap (step (word Semicolon m)) h3 in
    let h5 = formals_read os fs k4 o4 d b (e ∷ es) w none_specified specs (values_of vs) None fr h4 in
    let h6 : fold_written os k6 ≡ heads o6 d (formals_noted look fs b ∷ e ∷ es) w (formals_kinds look fs) none_specified specs
    (values_of vs) (Some x.number) fr = ap (step (declares x)) h5 in
    head_ends t l0 l os k6 o6 d (formals_noted look fs b) e es w (formals_kinds look fs) specs (values_of vs) x.number fr h6
    ∙ ap (λ g. calm (opens MProcedure l0 ∷ lined l0 (formals_noted g fs b) (text_heading hd o1)) d
    (entry_of x.number (declared_kind (head_kind t)) (kinds_listed (formals_kinds g fs) 0 e) ∷ es) w fr) found
    ∙ ap (λ z. calm (opens MProcedure l0 ∷ lined l0 z (text_heading hd o1)) d
    (entry_of x.number (declared_kind (head_kind t)) (kinds_listed (formals_kinds (formal_kind ss vs) fs) 0 e) ∷ es) w fr)
    (formals_entries (formal_kind ss vs) (plain_formal ss vs) fs b)
    ∙ ap (λ z. calm (opens MProcedure l0
    ∷ lined l0 (all_entries (map (λ y. entry (plain (kind_in hd y.number)) y) (formals_of hd)) 0 b)
    (text_heading hd o1)) d (entry_of x.number (declared_kind (head_kind t)) (kinds_listed z 0 e) ∷ es) w fr)
    (all_kinds (formal_kind ss vs) fs)
    ∙ ap (λ z. calm (opens MProcedure l0
    ∷ lined l0 (all_entries (map (λ y. entry (plain (kind_in hd y.number)) y) (formals_of hd)) 0 b)
    (text_heading hd o1)) d (z ∷ es) w fr) (procedure_noted t (length (formals_of hd)) (formal_kinds hd) x e)
