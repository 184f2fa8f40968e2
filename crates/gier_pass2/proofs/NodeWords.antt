-- The words of nodes, where a node is added or a word is changed.
use Rattle.std.proofs.Common.{◌≡◌, ◌≢◌, ◌<◌, ◌≤◌, ◌⊎◌, ◌+◌, ◌*◌, ◌-◌, ◌∙◌, ℕ, List, [], ◌∷◌, length, get_or, ap, arith, length-append, length-set, inl, inr}
use Rattle.std.proofs.lemmas.List.{get_or-set_same, get_or-set_other, get_or_append_left}
use Rattle.std.proofs.Math.Seq.{get_or-append_right}
use Rattle.gier_text.specs.TablesModel.{TablesModel, with_at}
use Rattle.gier_text.specs.Lists.{TableList, no_list, word_at, with_entry, with_word}
use Rattle.gier_pass2.specs.Tree.{nodes_of}

-- five words each
pub record HasWords (nodes : TableList) : Type 0 where
  pub width : nodes.width ≡ 5
  pub filled : length nodes.words ≡ 5 * nodes.count

pub words_pushed : (nodes : TableList) (a b c d e : ℕ) → HasWords nodes → HasWords (with_entry nodes (a ∷ b ∷ c ∷ d ∷ e ∷ []))
words_pushed nodes a b c d e h = record {
  width = h.width;
  filled = omega
      (arith, h.filled, length-append nodes.words (a ∷ b ∷ c ∷ d ∷ e ∷ []));
}

pub words_set : (nodes : TableList) (at part word : ℕ) → HasWords nodes → HasWords (with_word nodes at part word)
words_set nodes at part word h = record {
  width = h.width;
  filled = omega
      (arith, h.filled, length-set nodes.words (nodes.width * at + part) word);
}

pub word_before : (nodes : TableList) (entry : List ℕ) (n part : ℕ) → HasWords nodes → n < nodes.count → part < 5
    → word_at (with_entry nodes entry) n part ≡ word_at nodes n part
word_before nodes entry n part h lt few = get_or_append_left nodes.words entry 0 (nodes.width * n + part)
    (rw h.width (omega (arith, h.filled)))

pub word_pushed : (nodes : TableList) (entry : List ℕ) (part : ℕ) → HasWords nodes → part < 5
    → word_at (with_entry nodes entry) nodes.count part ≡ get_or entry part 0
word_pushed nodes entry part h few =
    let behind : length nodes.words ≤ nodes.width * nodes.count + part = rw h.width (omega (arith, h.filled)) in
    let place : nodes.width * nodes.count + part - length nodes.words ≡ part = rw h.width (omega (arith, h.filled)) in
    get_or-append_right nodes.words entry (nodes.width * nodes.count + part) 0 behind ∙ ap (λ (p : ℕ). get_or entry p 0) place

pub word_set : (nodes : TableList) (at part word : ℕ) → HasWords nodes → at < nodes.count → part < 5
    → word_at (with_word nodes at part word) at part ≡ word
word_set nodes at part word h lt few = get_or-set_same nodes.words (nodes.width * at + part) word 0 (rw h.width (omega (arith, h.filled)))

pub word_other : (nodes : TableList) (at part word n other : ℕ) → HasWords nodes → part < 5 → other < 5 → (n ≢ at) ⊎ (other ≢ part)
    → word_at (with_word nodes at part word) n other ≡ word_at nodes n other
word_other nodes at part word n other h few small ne =
    get_or-set_other nodes.words (nodes.width * at + part) (nodes.width * n + other) word 0
    (λ e. let same : 5 * n + other ≡ 5 * at + part = rw h.width at e in elim ne [
      | inl node ↦ node (omega arith)
      | inr word ↦ word
          (omega arith)
    ])

-- another list in place of the nodes
pub nodes_set : (t : TablesModel) (nodes : TableList) → length t.lists ≡ 1 → nodes_of (with_at t 0 nodes) ≡ nodes
nodes_set t nodes one = get_or-set_same t.lists 0 nodes no_list (omega (arith, one))
