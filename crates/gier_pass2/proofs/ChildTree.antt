-- A tree with one more child fits nodes with one more.
use Rattle.std.proofs.Common.{◌≡◌, ◌≢◌, ◌<◌, ◌+◌, ◌∙◌, ℕ, List, [], ◌∷◌, ◌++◌, refl, sym, ap, subst, arith, inl, inr, None}
use Rattle.std.proofs.lemmas.Bool.{cases_eq, cases_lt}
use Rattle.gier_symbol.specs.declared.symbol.Symbol.{Symbol}
use Rattle.gier_symbol.specs.Assembly.{byte_of, place_of}
use Rattle.gier_text.specs.TablesModel.{TablesModel}
use Rattle.gier_text.specs.Lists.{TableList, word_at}
use Rattle.gier_pass2.specs.Spelled.{IsSign}
use Rattle.gier_pass2.specs.Tree.{Tree, IsTree, IsLast, IsChild, IsNumbered, Knows, Names, child_added, nodes_of, sign_at}
use Rattle.gier_pass2.proofs.NodeWords.{HasWords}
use Rattle.gier_pass2.proofs.TreeGrowth.{fresh_name, byte_same, with_child, parent_new, parent_old, name_new, name_old, last_kept, added_words, added_old, added_child, added_new, sign_old, sign_new, is_sign}

has_words : (nodes : TableList) (tree : Tree) → IsTree nodes tree → HasWords nodes
has_words nodes tree h = record { width = h.width; filled = h.filled }

above_more : (nodes : TableList) (tree : Tree) (node : ℕ) (s : Symbol) → IsTree nodes tree → node < nodes.count → (n : ℕ) → 0 < n
    → n < nodes.count + 1 → (with_child tree nodes.count node (byte_of s)).parent n < n
above_more nodes tree node s h nl n some lt = elim (cases_lt n nodes.count) [
  | inl old ↦ rw (parent_old tree nodes.count node (byte_of s) n old) (h.above n some old)
  | inr new ↦ let e : n ≡ nodes.count = omega arith in rw (e, parent_new tree nodes.count node (byte_of s)) nl
]

sign_more : (nodes : TableList) (tree : Tree) (node : ℕ) (s : Symbol) → IsTree nodes tree → node < nodes.count → IsSign s → (n : ℕ)
    → 0 < n → n < nodes.count + 1 → IsSign (sign_at (child_added nodes node s) n)
sign_more nodes tree node s h nl sign n some lt = elim (cases_lt n nodes.count) [
  | inl old ↦ subst IsSign (sym (sign_old nodes node s n (has_words nodes tree h) old)) (h.sign n some old)
  | inr new ↦ let e : n ≡ nodes.count = omega arith in rw e
      (subst IsSign (sym (sign_new nodes node s (has_words nodes tree h) nl)) (is_sign s sign))
]

named_more : (nodes : TableList) (tree : Tree) (node : ℕ) (s : Symbol) → IsTree nodes tree → node < nodes.count → (n : ℕ) → 0 < n
    → n < nodes.count + 1
    → (with_child tree nodes.count node (byte_of s)).name n ≡ (with_child tree nodes.count node (byte_of s)).name
    ((with_child tree nodes.count node (byte_of s)).parent n) ++ byte_of (sign_at (child_added nodes node s) n) ∷ []
named_more nodes tree node s h nl n some lt = elim (cases_lt n nodes.count) [
  | inl old ↦
      let up : tree.parent n < n = h.above n some old in
      let under : tree.parent n < nodes.count = omega arith in
      rw (
        parent_old tree nodes.count node (byte_of s) n old,
        name_old tree nodes.count node
            (byte_of s) n old,
        name_old tree nodes.count node (byte_of s) (tree.parent n) under,
      )
      (h.named n some old ∙ ap (λ (t : Symbol). tree.name (tree.parent n) ++ byte_of t ∷ [])
      (sym (sign_old nodes node s n (has_words nodes tree h) old)))
  | inr new ↦
      let e : n ≡ nodes.count = omega arith in
      rw (
        e,
        parent_new tree nodes.count node (byte_of s),
        name_new tree nodes.count node (byte_of s),
        name_old tree nodes.count node
            (byte_of s) node nl,
      )
      (ap (λ (t : Symbol). tree.name node ++ byte_of t ∷ []) (sym (sign_new nodes node s (has_words nodes tree h) nl)))
]

-- the children of one node, where one more was added below another
children_other : (nodes : TableList) (tree : Tree) (node b k last : ℕ) → k ≢ node → IsLast tree.parent k nodes.count last
    → IsLast (with_child tree nodes.count node b).parent k (nodes.count + 1) last
children_other nodes tree node b k last ne h = record {
  within = omega (arith, h.within);
  child = λ some. parent_old tree nodes.count node b last h.within ∙ h.child some;
  later = λ n lt nl is. elim (cases_lt n nodes.count) [
    | inl old ↦ h.later n lt old (sym (parent_old tree nodes.count node b n old) ∙ is)
    | inr new ↦ let e : n ≡ nodes.count = omega arith in ne
        (sym is ∙ ap (with_child tree nodes.count node b).parent e ∙ parent_new tree nodes.count node b)
  ];
}

children_new : (nodes : TableList) (tree : Tree) (node b : ℕ) → IsTree nodes tree → node < nodes.count
    → IsLast (with_child tree nodes.count node b).parent nodes.count (nodes.count + 1) 0
children_new nodes tree node b h nl = record {
  within = omega arith;
  child = λ some. absurd (omega arith);
  later = λ n lt most is. elim (cases_lt n nodes.count) [
    | inl old ↦ let up : tree.parent n < n = h.above n lt old in let at : tree.parent n ≡ nodes.count = sym
        (parent_old tree nodes.count node b n old) ∙ is in omega arith
    | inr new ↦ let e : n ≡ nodes.count = omega arith in let at : node ≡ nodes.count = sym (parent_new tree nodes.count node b) ∙ ap
        (with_child tree nodes.count node b).parent (sym e) ∙ is in omega arith
  ];
}

children_more : (nodes : TableList) (tree : Tree) (node : ℕ) (s : Symbol) → IsTree nodes tree → node < nodes.count → (n : ℕ)
    → n < nodes.count + 1
    → IsLast (with_child tree nodes.count node (byte_of s)).parent n (nodes.count + 1) (word_at (child_added nodes node s) n 3)
children_more nodes tree node s h nl n lt = elim (cases_eq n node) [
  | inl e ↦ rw (e, added_child nodes node s (has_words nodes tree h) nl) (record {
    within = omega arith;
    child = λ some. parent_new tree nodes.count node (byte_of s);
    later = λ k above below is. omega arith;
  })
  | inr ne ↦ elim (cases_lt n nodes.count) [
    | inl old ↦ rw (added_old nodes node s n 3 (has_words nodes tree h) old (omega arith) (inl ne))
        (children_other nodes tree node (byte_of s) n (word_at nodes n 3) ne (h.children n old))
    | inr new ↦ let e : n ≡ nodes.count = omega arith in rw (e, added_new nodes node s 3 (has_words nodes tree h) nl (omega arith))
        (children_new nodes tree node (byte_of s) h nl)
  ]
]

elders_more : (nodes : TableList) (tree : Tree) (node : ℕ) (s : Symbol) → IsTree nodes tree → node < nodes.count → (n : ℕ) → 0 < n
    → n < nodes.count + 1
    → IsLast (with_child tree nodes.count node (byte_of s)).parent ((with_child tree nodes.count node (byte_of s)).parent n) n
    (word_at (child_added nodes node s) n 2)
elders_more nodes tree node s h nl n some lt = elim (cases_lt n nodes.count) [
  | inl old ↦ rw (
    parent_old tree nodes.count node (byte_of s) n old,
    added_old nodes node s n 2 (has_words nodes tree h) old
        (omega arith) (inr (λ e. omega arith)),
  )
      (last_kept tree.parent (with_child tree nodes.count node (byte_of s)).parent (tree.parent n) n (word_at nodes n 2)
      (λ k below. parent_old tree nodes.count node (byte_of s) k (omega arith)) (h.elders n some old))
  | inr new ↦
      let e : n ≡ nodes.count = omega arith in
      rw (e, parent_new tree nodes.count node (byte_of s), added_new nodes node s 2 (has_words nodes tree h) nl (omega arith))
      (last_kept tree.parent (with_child tree nodes.count node (byte_of s)).parent node nodes.count (word_at nodes node 3)
      (λ k below. parent_old tree nodes.count node (byte_of s) k below) (h.children node nl))
]

distinct_more : (nodes : TableList) (tree : Tree) (node : ℕ) (s : Symbol) → IsTree nodes tree → node < nodes.count → IsSign s
    → IsChild nodes tree node s 0 → (m n : ℕ) → m < nodes.count + 1 → n < nodes.count + 1
    → (with_child tree nodes.count node (byte_of s)).name m ≡ (with_child tree nodes.count node (byte_of s)).name n → m ≡ n
distinct_more nodes tree node s h nl sign none m n ml nlt same = elim (cases_lt m nodes.count) [
  | inl mo ↦ elim (cases_lt n nodes.count) [
    | inl nb ↦ h.distinct m n mo nb (sym (name_old tree nodes.count node (byte_of s) m mo) ∙ same ∙ name_old tree nodes.count node
        (byte_of s) n nb)
    | inr nn ↦ let e : n ≡ nodes.count = omega arith in absurd
        (fresh_name nodes tree node s h nl sign none m mo (sym (name_old tree nodes.count node (byte_of s) m mo) ∙ same ∙ ap
        (with_child tree nodes.count node (byte_of s)).name e ∙ name_new tree nodes.count node (byte_of s)))
  ]
  | inr mn ↦ let e : m ≡ nodes.count = omega arith in elim (cases_lt n nodes.count) [
    | inl nb ↦ absurd (fresh_name nodes tree node s h nl sign none n nb
        (sym (name_old tree nodes.count node (byte_of s) n nb) ∙ sym same ∙ ap (with_child tree nodes.count node (byte_of s)).name e
        ∙ name_new tree nodes.count node (byte_of s)))
    | inr nn ↦ omega arith
  ]
]

tree_more : (nodes : TableList) (tree : Tree) (node : ℕ) (s : Symbol) → IsTree nodes tree → node < nodes.count → IsSign s
    → IsChild nodes tree node s 0 → IsTree (child_added nodes node s) (with_child tree nodes.count node (byte_of s))
tree_more nodes tree node s h nl sign none = record {
  width = (added_words nodes node s (has_words nodes tree h)).width;
  filled = (added_words nodes node s (has_words nodes tree h)).filled;
  root = name_old tree nodes.count node (byte_of s) 0 (omega arith) ∙ h.root;
  above = above_more nodes tree node s h nl;
  sign = sign_more nodes tree node s h nl sign;
  named = named_more nodes tree node s h nl;
  children = children_more nodes tree node s h nl;
  elders = elders_more nodes tree node s h nl;
  distinct = distinct_more nodes tree node s h nl sign none;
}

numbers_more : (nodes : TableList) (tree : Tree) (node : ℕ) (s : Symbol) (names : List (List ℕ)) → IsTree nodes tree → node < nodes.count
    → IsSign s → IsChild nodes tree node s 0 → IsNumbered nodes tree names
    → IsNumbered (child_added nodes node s) (with_child tree nodes.count node (byte_of s)) names
numbers_more nodes tree node s names h nl sign none numbered = record {
  numbers = λ n lt. elim (cases_lt n nodes.count) [
    | inl old ↦ rw (
      added_old nodes node s n 4 (has_words nodes tree h) old (omega arith)
          (inr (λ e. omega arith)),
      name_old tree nodes.count node (byte_of s) n old,
    ) (numbered.numbers n old)
    | inr new ↦
        let e : n ≡ nodes.count = omega arith in
        let unknown : place_of (tree.name node ++ byte_of s ∷ []) names ≡ None = numbered.unknown (tree.name node ++ byte_of s ∷ [])
        (fresh_name nodes tree node s h nl sign none) in
        rw (e, added_new nodes node s 4 (has_words nodes tree h) nl (omega arith), name_new tree nodes.count node (byte_of s), unknown) refl
  ];
  unknown = λ name other. numbered.unknown name (λ n lt is. other n (omega arith) (name_old tree nodes.count node (byte_of s) n lt ∙ is));
}

-- a node for the name with one symbol more: a new one where there was none
pub names_added : (t new : TablesModel) (tree : Tree) (node : ℕ) (s : Symbol) (known : ℕ) (names : List (List ℕ)) → Knows t tree known names
    → node < (nodes_of t).count → IsSign s → IsChild (nodes_of t) tree node s 0 → nodes_of new ≡ child_added (nodes_of t) node s
    → Names new known names (nodes_of t).count (tree.name node ++ byte_of s ∷ [])
names_added t new tree node s known names h nl sign none is = record {
  tree = with_child tree (nodes_of t).count node (byte_of s);
  knows = record {
    fits = rw is (tree_more (nodes_of t) tree node s h.fits nl sign none);
    numbered = rw is (numbers_more (nodes_of t) tree node s names h.fits nl sign none h.numbered);
    count = h.count;
  };
  named = name_new tree (nodes_of t).count node (byte_of s);
}

pub names_found : (t : TablesModel) (tree : Tree) (node at : ℕ) (s : Symbol) (known : ℕ) (names : List (List ℕ)) → Knows t tree known names
    → at < (nodes_of t).count → 0 < at → IsChild (nodes_of t) tree node s at → Names t known names at (tree.name node ++ byte_of s ∷ [])
names_found t tree node at s known names h lt some child = record {
  tree = tree;
  knows = h;
  named = h.fits.named at some lt ∙ (rw ((child.some some).0, byte_same (sign_at (nodes_of t) at) s (child.some some).1) refl);
}
