-- The variables that a block of this part declares: its entries, what it makes and its code are told by their list.
use Rattle.std.proofs.Common.{◌≡◌, ℕ, suc, ◌+◌, pos, List, [], ◌∷◌, ◌++◌, length, refl, sym, ap, ap₂, ◌∙◌, arith}
use Rattle.std.specs.Prelude.{map}
use Rattle.std.proofs.lemmas.List.{append-nil}
use Rattle.gier_tree.specs.Declaring.{list_of, labels_of_statement, labels_of_statements}
use Rattle.gier_tree.specs.Described as described
use Rattle.gier_tree.specs.Described.{Scopes, variable_kind}
use Rattle.gier_tree.specs.Entries.{Entry, entry, declaration_entries, declarations_entries, label_entries, block_entries}
use Rattle.gier_tree.specs.Need.{need_declaration, need_declarations, need_statements, need_block}
use Rattle.gier_tree.specs.Orders as code
use Rattle.gier_tree.specs.Orders.{Following}
use Rattle.gier_tree.specs.Places.{Places}
use Rattle.gier_tree.specs.Room.{declared_words, all_declared_words, block_words}
use Rattle.gier_tree.specs.Text7.{code_declaration, code_declarations}
use Rattle.gier_tree.specs.Texts.{Where, behind_declaration}
use Rattle.gier_tree.specs.Trees as tree
use Rattle.gier_tree.specs.Trees.{Name, Names, ValueType, LabelPlace}
use Rattle.gier_meaning.specs.Live.{Live}
use Rattle.gier_meaning.specs.Outcome.{Gives}
use Rattle.gier_meaning.specs.Plain as plain
use Rattle.gier_meaning.specs.Scopes.{Quantity, quantities, identifiers_in, declared_names, of_block, labels, all_labels}
use Rattle.gier_meaning.specs.State.{State, ACell}
use Rattle.gier_meaning.specs.Tree as plain_tree
use Rattle.gier_env.specs.Blocks.{all_made, made, arrays}
use Rattle.gier_env.specs.Closures.{Closure}
use Rattle.gier_env.specs.Env.{Env}
use Rattle.gier_env.specs.Tasks.{Next}
use Rattle.gier_twice.proofs.SameScopes.{list_same}
use Rattle.gier_fair.specs.InScope.{identifiers as entry_identifiers}
use Rattle.gier_flat.specs.FairScope.{IsSimple, AreSimple}
use Rattle.gier_flat.proofs.DeclaredEntities.{Variable, numbers_of, put_all}
use Rattle.gier_flat.proofs.Labels.{identifiers, same_statement, same_statements}

-- the variables of declarations, in the order of the text
abbrev pub typed : ValueType → List Name → List Variable
typed t [] = []
typed t (x ∷ xs) = record { type = t; name = x } ∷ typed t xs

abbrev pub variables_of : tree.Declaration → List Variable
variables_of (tree.DeclareType t ns) = typed t.type (list_of ns)
variables_of d = []

abbrev pub all_variables : tree.Declarations → List Variable
all_variables tree.NoDeclarations = []
all_variables (tree.MoreDeclarations d l ds) = variables_of d ++ all_variables ds

-- of a block
abbrev pub variables : tree.Declaration → tree.Declarations → List Variable
variables d ds = variables_of d ++ all_variables ds

abbrev pub block_labels : tree.Statement → tree.Statements → List LabelPlace
block_labels s ss = labels_of_statement s (labels_of_statements ss [])

-- ---- entries

abbrev pub variable_entries : List Variable → List Entry
variable_entries vs = map (λ v. entry (described.plain (variable_kind v.type)) v.name) vs

typed_entries : (t : ValueType) (xs : List Name) → map (entry (described.plain (variable_kind t))) xs ≡ variable_entries (typed t xs)
typed_entries t [] = refl
typed_entries t (x ∷ xs) = ap (λ r. entry (described.plain (variable_kind t)) x ∷ r) (typed_entries t xs)

entries_both : (a b : List Variable) → variable_entries (a ++ b) ≡ variable_entries a ++ variable_entries b
entries_both [] b = refl
entries_both (v ∷ a) b = ap (λ r. entry (described.plain (variable_kind v.type)) v.name ∷ r) (entries_both a b)

one_entries : (d : tree.Declaration) → IsSimple d → declaration_entries d ≡ variable_entries (variables_of d)
one_entries (tree.DeclareType t ns) f = typed_entries t.type (list_of ns)
one_entries (tree.DeclareOwn l t ns) f = refl
one_entries (tree.DeclareOwnArrays k t l s ss) f = refl
one_entries d f = absurd f

all_entries : (ds : tree.Declarations) → AreSimple ds → declarations_entries ds ≡ variable_entries (all_variables ds)
all_entries tree.NoDeclarations f = refl
all_entries (tree.MoreDeclarations d l ds) f =
    ap₂ (λ a b. a ++ b) (one_entries d f.0) (all_entries ds f.1) ∙ sym (entries_both (variables_of d) (all_variables ds))

module _ (d : tree.Declaration) (ds : tree.Declarations) (f : IsSimple d) (fs : AreSimple ds) where
  pub entries_are : (s : tree.Statement) (ss : tree.Statements) → block_entries d ds s ss ≡ variable_entries (variables d ds) ++ label_entries (block_labels s ss)
  entries_are s ss =
      let e : declaration_entries d ++ declarations_entries ds ≡ variable_entries (variables d ds) =
      ap₂ (λ a b. a ++ b) (one_entries d f) (all_entries ds fs) ∙ sym (entries_both (variables_of d) (all_variables ds)) in
      ap (λ r. r ++ label_entries (block_labels s ss)) e

-- their identifiers
pub entries_named : (vs : List Variable) (ls : List LabelPlace) → entry_identifiers (variable_entries vs ++ label_entries ls) ≡ numbers_of vs ++ identifiers ls
entries_named [] [] = refl
entries_named [] (l ∷ ls) = ap (λ r. l.name.number ∷ r) (entries_named [] ls)
entries_named (v ∷ vs) ls = ap (λ r. v.name.number ∷ r) (entries_named vs ls)

-- ---- what the meaning declares and makes

pub quantities_both : (xs ys : List ℕ) → quantities (xs ++ ys) ≡ quantities xs ++ quantities ys
quantities_both [] ys = refl
quantities_both (x ∷ xs) ys = ap (λ r. Quantity x ∷ r) (quantities_both xs ys)

numbers_both : (a b : List Variable) → numbers_of (a ++ b) ≡ numbers_of a ++ numbers_of b
numbers_both [] b = refl
numbers_both (v ∷ a) b = ap (λ r. v.name.number ∷ r) (numbers_both a b)

typed_names : (t : ValueType) (xs : List Name) → identifiers_in (map plain.name_of xs) ≡ numbers_of (typed t xs)
typed_names t [] = refl
typed_names t (x ∷ xs) = ap (λ r. x.number ∷ r) (typed_names t xs)

one_names : (d : tree.Declaration) (rest : plain_tree.Declarations) → IsSimple d → declared_names (plain.declaration d rest) ≡ quantities (numbers_of (variables_of d)) ++ declared_names rest
one_names (tree.DeclareType t ns) rest f = ap (λ xs. quantities xs ++ declared_names rest) (ap (λ xs. identifiers_in (map plain.name_of xs)) (list_same ns) ∙ typed_names t.type (list_of ns))
one_names (tree.DeclareOwn l t ns) rest f = refl
one_names (tree.DeclareOwnArrays k t l s ss) rest f = refl
one_names d rest f = absurd f

joined_names : (a b : List Variable) → quantities (numbers_of a) ++ quantities (numbers_of b) ≡ quantities (numbers_of (a ++ b))
joined_names a b = sym (quantities_both (numbers_of a) (numbers_of b)) ∙ ap quantities (sym (numbers_both a b))

all_names : (ds : tree.Declarations) → AreSimple ds → declared_names (plain.declarations ds) ≡ quantities (numbers_of (all_variables ds))
all_names tree.NoDeclarations f = refl
all_names (tree.MoreDeclarations d l ds) f =
    one_names d (plain.declarations ds) f.0 ∙ ap (λ r. quantities (numbers_of (variables_of d)) ++ r) (all_names ds f.1) ∙ joined_names (variables_of d) (all_variables ds)

typed_made : (env : Env) (t : ValueType) (xs : List Name) (s : State Closure) → all_made env (map plain.name_of xs) (ACell (plain.value_kind t) (pos 0)) s ≡ put_all env (typed t xs) s
typed_made env t [] s = refl
typed_made env t (x ∷ xs) s = typed_made env t xs _

put_both : (env : Env) (a b : List Variable) (s : State Closure) → put_all env (a ++ b) s ≡ put_all env b (put_all env a s)
put_both env [] b s = refl
put_both env (v ∷ a) b s = put_both env a b _

one_made : (env : Env) (d : tree.Declaration) (rest : plain_tree.Declarations) (s : State Closure) → IsSimple d → made env (plain.declaration d rest) s ≡ made env rest (put_all env (variables_of d) s)
one_made env (tree.DeclareType t ns) rest s f =
    ap (λ xs. made env rest (all_made env (map plain.name_of xs) (ACell (plain.value_kind t.type) (pos 0)) s)) (list_same ns)
    ∙ ap (made env rest) (typed_made env t.type (list_of ns) s)
one_made env (tree.DeclareOwn l t ns) rest s f = refl
one_made env (tree.DeclareOwnArrays k t l x xs) rest s f = refl
one_made env d rest s f = absurd f

made_rest : (env : Env) (ds : tree.Declarations) (s : State Closure) → AreSimple ds → made env (plain.declarations ds) s ≡ put_all env (all_variables ds) s
made_rest env tree.NoDeclarations s f = refl
made_rest env (tree.MoreDeclarations d l ds) s f =
    one_made env d (plain.declarations ds) s f.0 ∙ made_rest env ds (put_all env (variables_of d) s) f.1 ∙ sym (put_both env (variables_of d) (all_variables ds) s)

-- no array takes room
module _ (limit : ℕ) (next : Next) (env : Env) (live : Live) (s : State Closure) where
  one_array : (d : tree.Declaration) (rest : plain_tree.Declarations) → IsSimple d → arrays limit next (plain.declaration d rest) env live s ≡ arrays limit next rest env live s
  one_array (tree.DeclareType t ns) rest f = refl
  one_array (tree.DeclareOwn l t ns) rest f = refl
  one_array (tree.DeclareOwnArrays k t l x xs) rest f = refl
  one_array d rest f = absurd f

  no_arrays : (ds : tree.Declarations) → AreSimple ds → arrays limit next (plain.declarations ds) env live s ≡ Gives live s
  no_arrays tree.NoDeclarations f = refl
  no_arrays (tree.MoreDeclarations d l ds) f = one_array d (plain.declarations ds) f.0 ∙ no_arrays ds f.1

-- ---- words and code

typed_count : (t : ValueType) (xs : List Name) → length xs ≡ length (typed t xs)
typed_count t [] = refl
typed_count t (x ∷ xs) = ap suc (typed_count t xs)

length_both : (a b : List Variable) → length (a ++ b) ≡ length a + length b
length_both [] b = omega arith
length_both (v ∷ a) b = let e = length_both a b in omega (arith, e)

one_words : (d : tree.Declaration) → IsSimple d → declared_words d ≡ length (variables_of d)
one_words (tree.DeclareType t ns) f = typed_count t.type (list_of ns)
one_words (tree.DeclareOwn l t ns) f = refl
one_words (tree.DeclareOwnArrays k t l s ss) f = refl
one_words d f = absurd f

all_words : (ds : tree.Declarations) → AreSimple ds → all_declared_words ds ≡ length (all_variables ds)
all_words tree.NoDeclarations f = refl
all_words (tree.MoreDeclarations d l ds) f = ap₂ (λ a b. a + b) (one_words d f.0) (all_words ds f.1) ∙ sym (length_both (variables_of d) (all_variables ds))

one_need : (scopes : Scopes) (d : tree.Declaration) → IsSimple d → need_declaration scopes d ≡ 0
one_need scopes (tree.DeclareType t ns) f = refl
one_need scopes (tree.DeclareOwn l t ns) f = refl
one_need scopes (tree.DeclareOwnArrays k t l s ss) f = refl
one_need scopes d f = absurd f

no_need : (scopes : Scopes) (ds : tree.Declarations) → AreSimple ds → need_declarations scopes ds ≡ 0
no_need scopes tree.NoDeclarations f = refl
no_need scopes (tree.MoreDeclarations d l ds) f = let a = one_need scopes d f.0 in let b = no_need scopes ds f.1 in omega (arith, a, b)

module _ (p : Places) (level w : ℕ) (st : code.State) where
  pub one_code : (at : Where) (d : tree.Declaration) → IsSimple d → (go : Following) → code_declaration p at d level w st go ≡ go st
  one_code at (tree.DeclareType t ns) f go = refl
  one_code at (tree.DeclareOwn l t ns) f go = refl
  one_code at (tree.DeclareOwnArrays k t l s ss) f go = refl
  one_code at d f go = absurd f

  pub all_code : (at : Where) (ds : tree.Declarations) → AreSimple ds → (go : Following) → code_declarations p at ds level w st go ≡ go st
  all_code at tree.NoDeclarations f go = refl
  all_code at (tree.MoreDeclarations d l ds) f go =
      one_code at d f.0 (λ s. code_declarations p (behind_declaration at d) ds level w s go) ∙ all_code (behind_declaration at d) ds f.1 go

-- ---- of a block

module _ (d : tree.Declaration) (ds : tree.Declarations) (f : IsSimple d) (fs : AreSimple ds) where
  abbrev pub plain_declarations : plain_tree.Declarations
  plain_declarations = plain.declaration d (plain.declarations ds)

  pub names_are : declared_names plain_declarations ≡ quantities (numbers_of (variables d ds))
  names_are =
      one_names d (plain.declarations ds) f ∙ ap (λ r. quantities (numbers_of (variables_of d)) ++ r) (all_names ds fs) ∙ joined_names (variables_of d) (all_variables ds)

  pub labels_are : (m : ℕ) (s : tree.Statement) (ss : tree.Statements) → all_labels (plain.statements (tree.MoreStatements m s ss)) ≡ identifiers (block_labels s ss)
  labels_are m s ss =
      sym (same_statement s (labels_of_statements ss []) ∙ ap (λ r. labels (plain.statement s) ++ r) (same_statements ss [] ∙ append-nil (all_labels (plain.statements ss))))

  pub block_is : (m : ℕ) (s : tree.Statement) (ss : tree.Statements) → of_block plain_declarations (plain.statements (tree.MoreStatements m s ss)) ≡ quantities (numbers_of (variables d ds) ++ identifiers (block_labels s ss))
  block_is m s ss = ap₂ (λ a b. a ++ b) names_are (ap quantities (labels_are m s ss)) ∙ sym (quantities_both (numbers_of (variables d ds)) (identifiers (block_labels s ss)))

  pub made_is : (env : Env) (s : State Closure) → made env plain_declarations s ≡ put_all env (variables d ds) s
  made_is env s = one_made env d (plain.declarations ds) s f ∙ made_rest env ds (put_all env (variables_of d) s) fs ∙ sym (put_both env (variables_of d) (all_variables ds) s)

  pub nothing_taken : (limit : ℕ) (next : Next) (env : Env) (live : Live) (s : State Closure) → arrays limit next plain_declarations env live s ≡ Gives live s
  nothing_taken limit next env live s = one_array limit next env live s d (plain.declarations ds) f ∙ no_arrays limit next env live s ds fs

  pub words_are : block_words d ds ≡ 3 + length (variables d ds)
  words_are =
      let a = one_words d f in
      let b = all_words ds fs in
      let c = length_both (variables_of d) (all_variables ds) in
      omega (arith, a, b, c)

  pub need_is : (scopes : Scopes) (m : ℕ) (s : tree.Statement) (ss : tree.Statements) → need_block scopes d ds s ss ≡ need_statements scopes (tree.MoreStatements m s ss)
  need_is scopes m s ss = let a = one_need scopes d f in let b = no_need scopes ds fs in omega (arith, a, b)
