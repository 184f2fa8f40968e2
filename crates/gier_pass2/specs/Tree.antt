-- The names that the nodes stand for, and their numbers.
use Rattle.std.specs.Prelude.{◌==◌, ◌&&◌, Bool, ◌≡◌, ◌≢◌, ◌<◌, ◌*◌, ◌++◌, ◌∷◌, [], ℕ, suc, List, length, Option, None, Some}
use Rattle.gier_symbol.specs.declared.symbol.Symbol.{Symbol}
use Rattle.gier_symbol.specs.Assembly.{byte_of, place_of, known_by, number_by}
use Rattle.gier_text.specs.TablesModel.{TablesModel}
use Rattle.gier_text.specs.Lists.{TableList, list_at, word_at, with_entry, with_word}
use Rattle.gier_pass2.specs.Spelled.{IsSign, IsSame}

abbrev pub nodes_of : TablesModel → TableList
nodes_of t = list_at t.lists 0

-- the letter or digit that a node adds to the name of its parent
abbrev pub sign_at : TableList → ℕ → Symbol
sign_at nodes n = record { tag = word_at nodes n 0; value = word_at nodes n 1; line = 0 }

-- the nodes with one more, the last child of another
abbrev pub child_added : TableList → ℕ → Symbol → TableList
child_added nodes node s = with_word (with_entry nodes (s.tag ∷ s.value ∷ word_at nodes node 3 ∷ 0 ∷ 0 ∷ [])) node 3 nodes.count

abbrev pub is_same : Symbol → Symbol → Bool
is_same a b = a.tag == b.tag && a.value == b.value

-- the parent of each node and the name that it stands for
pub record Tree : Type 0 where
  pub parent : ℕ → ℕ
  pub name : ℕ → List ℕ

-- the last node below a bound that has this parent, or the root where there is none
pub record IsLast (parent : ℕ → ℕ) (node below last : ℕ) : Type 0 where
  pub within : last < below
  pub child : 0 < last → parent last ≡ node
  pub later : (n : ℕ) → last < n → n < below → parent n ≢ node

-- the nodes stand for different names, and those of one parent are linked from the last one down
pub record IsTree (nodes : TableList) (tree : Tree) : Type 0 where
  pub width : nodes.width ≡ 5
  pub filled : length nodes.words ≡ 5 * nodes.count
  pub root : tree.name 0 ≡ []
  pub above : (n : ℕ) → 0 < n → n < nodes.count → tree.parent n < n
  pub sign : (n : ℕ) → 0 < n → n < nodes.count → IsSign (sign_at nodes n)
  pub named : (n : ℕ) → 0 < n → n < nodes.count → tree.name n ≡ tree.name (tree.parent n) ++ byte_of (sign_at nodes n) ∷ []
  pub children : (n : ℕ) → n < nodes.count → IsLast tree.parent n nodes.count (word_at nodes n 3)
  pub elders : (n : ℕ) → 0 < n → n < nodes.count → IsLast tree.parent (tree.parent n) n (word_at nodes n 2)
  pub distinct : (m n : ℕ) → m < nodes.count → n < nodes.count → tree.name m ≡ tree.name n → m ≡ n

-- a child with this sign, or the root where there is none
pub record IsChild (nodes : TableList) (tree : Tree) (node : ℕ) (s : Symbol) (at : ℕ) : Type 0 where
  pub some : 0 < at → (tree.parent at ≡ node) × IsSame (sign_at nodes at) s
  pub none : at ≡ 0 → (n : ℕ) → 0 < n → n < nodes.count → tree.parent n ≡ node → IsSame (sign_at nodes n) s → ⊥

-- a number increased by 1, or 0 where there is none
abbrev pub next_number : Option ℕ → ℕ
next_number None = 0
next_number (Some place) = suc place

-- each name that is known has its number at its node, and has a node
pub record IsNumbered (nodes : TableList) (tree : Tree) (names : List (List ℕ)) : Type 0 where
  pub numbers : (n : ℕ) → n < nodes.count → word_at nodes n 4 ≡ next_number (place_of (tree.name n) names)
  pub unknown : (name : List ℕ) → ((n : ℕ) → n < nodes.count → tree.name n ≢ name) → place_of name names ≡ None

-- these names are known, so many
pub record Knows (t : TablesModel) (tree : Tree) (known : ℕ) (names : List (List ℕ)) : Type 0 where
  pub fits : IsTree (nodes_of t) tree
  pub numbered : IsNumbered (nodes_of t) tree names
  pub count : known ≡ length names

-- the same names are known, and a node stands for this one
pub record Names (t : TablesModel) (known : ℕ) (names : List (List ℕ)) (node : ℕ) (name : List ℕ) : Type 0 where
  pub tree : Tree
  pub knows : Knows t tree known names
  pub named : tree.name node ≡ name

-- the name has this number, which is the next one where it had none
pub record IsNumberOf (t : TablesModel) (tree : Tree) (known : ℕ) (names : List (List ℕ)) (name : List ℕ)
    (number : ℕ) : Type 0 where
  pub knows : Knows t tree known (known_by (place_of name names) name names)
  pub value : number ≡ number_by (place_of name names) names
