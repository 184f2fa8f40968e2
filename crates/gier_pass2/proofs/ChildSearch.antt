-- The search among the children of a node, from the last one down.
use Rattle.std.proofs.Common.{◌≡◌, ◌<◌, ◌==◌, ◌∙◌, ℕ, refl, sym, arith, inl, inr, Bool, true, false}
use Rattle.std.specs.Prelude.{◌&&◌}
use Rattle.std.proofs.lemmas.Bool.{cases_eq, cases_lt}
use Rattle.std.proofs.lemmas.Bool.Decides.{nat_tests}
use Rattle.gier_symbol.specs.declared.symbol.Symbol.{Symbol}
use Rattle.gier_text.specs.Lists.{TableList, word_at}
use Rattle.gier_pass2.specs.Spelled.{IsSame}
use Rattle.gier_pass2.specs.Tree.{Tree, IsTree, IsChild, sign_at, is_same}

-- no child later than this one has the sign
pub record IsSearched (nodes : TableList) (tree : Tree) (node : ℕ) (s : Symbol) (at : ℕ) : Type 0 where
  pub child : 0 < at → tree.parent at ≡ node
  pub later : (n : ℕ) → at < n → n < nodes.count → tree.parent n ≡ node → IsSame (sign_at nodes n) s → ⊥

pub search_starts : (nodes : TableList) (tree : Tree) (node : ℕ) (s : Symbol) (at : ℕ) → IsTree nodes tree → node < nodes.count
    → at ≡ word_at nodes node 3 → IsSearched nodes tree node s at
search_starts nodes tree node s at h nl is = rw is (record {
  child = (h.children node nl).child;
  later = λ n lt below of same. (h.children node nl).later n lt below of;
})

pub start_below : (nodes : TableList) (tree : Tree) (node : ℕ) → IsTree nodes tree → node < nodes.count → word_at nodes node 3 < nodes.count
start_below nodes tree node h nl = (h.children node nl).within

pub elder_below : (nodes : TableList) (tree : Tree) (at : ℕ) → IsTree nodes tree → 0 < at → at < nodes.count → word_at nodes at 2 < at
elder_below nodes tree at h some lt = (h.elders at some lt).within

not_same : (a b : Symbol) → is_same a b ≡ false → IsSame a b → ⊥
not_same a b h same = let e : is_same a b ≡ true = rw (same.tag, same.value)
    (let tag : (b.tag == b.tag) ≡ true = grind (arith, nat_tests) in let value : (b.value == b.value) ≡ true = grind
    (arith, nat_tests) in rw (tag, value) refl) in cc

and_both : (a b : Bool) → (a && b) ≡ true → (a ≡ true) × (b ≡ true)
and_both true b h = (refl, h)
and_both false b h = cc

equal : (a b : ℕ) → (a == b) ≡ true → a ≡ b
equal a b h = grind (arith, nat_tests)

are_same : (a b : Symbol) → is_same a b ≡ true → IsSame a b
are_same a b h = let both = and_both (a.tag == b.tag)
    (a.value == b.value) h in record { tag = equal a.tag b.tag both.0; value = equal a.value b.value both.1 }

pub search_goes_on : (nodes : TableList) (tree : Tree) (node : ℕ) (s : Symbol) (at next : ℕ) → IsTree nodes tree → 0 < at
    → at < nodes.count → is_same (sign_at nodes at) s ≡ false → next ≡ word_at nodes at 2 → IsSearched nodes tree node s at
    → IsSearched nodes tree node s next
search_goes_on nodes tree node s at next h some lt other is old = rw is (record {
  child = λ more. (h.elders at some lt).child more ∙ old.child some;
  later = λ n above below of same. elim (cases_lt n at) [
    | inl under ↦ (h.elders at some lt).later n above under (of ∙ sym (old.child some))
    | inr over ↦ elim (cases_eq n at) [
      | inl e ↦ not_same (sign_at nodes at) s other (rw (sym e) same)
      | inr ne ↦ old.later n (omega arith) below of same
    ]
  ];
})

pub search_fails : (nodes : TableList) (tree : Tree) (node : ℕ) (s : Symbol) (at : ℕ) → at ≡ 0 → IsSearched nodes tree node s at
    → IsChild nodes tree node s at
search_fails nodes tree node s at none h = record {
  some = λ more. absurd (omega arith);
  none = λ is n lt below of same. h.later n (omega arith) below of same;
}

pub search_finds : (nodes : TableList) (tree : Tree) (node : ℕ) (s : Symbol) (at : ℕ) → 0 < at → is_same (sign_at nodes at) s ≡ true
    → IsSearched nodes tree node s at → IsChild nodes tree node s at
search_finds nodes tree node s at some same h = record {
  some = λ more. (h.child some, are_same (sign_at nodes at) s same);
  none = λ is. absurd (omega arith);
}
