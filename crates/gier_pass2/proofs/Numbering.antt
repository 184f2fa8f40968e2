-- A node gets the next number, or has one.
use Rattle.std.proofs.Common.{◌≡◌, ◌≢◌, ◌<◌, ◌⊎◌, ◌+◌, ◌-◌, ◌∙◌, ℕ, suc, List, [], ◌∷◌, ◌++◌, length, refl, sym, ap, subst, arith, inl, inr, Option, None, Some, length-append}
use Rattle.std.proofs.lemmas.Bool.{cases_eq}
use Rattle.gier_symbol.specs.Assembly.{byte_of, place_of}
use Rattle.gier_symbol.specs.declared.symbol.Symbol.{Symbol}
use Rattle.gier_text.specs.TablesModel.{TablesModel}
use Rattle.gier_text.specs.Lists.{TableList, word_at, with_word}
use Rattle.gier_pass2.specs.Spelled.{IsSign}
use Rattle.gier_pass2.specs.Tree.{Tree, IsTree, IsNumbered, IsNumberOf, Knows, nodes_of, sign_at, next_number}
use Rattle.gier_pass2.proofs.NodeWords.{HasWords, words_set, word_set, word_other}
use Rattle.gier_pass2.proofs.Numbers.{place_new, place_kept, place_below}

has_words : (nodes : TableList) (tree : Tree) → IsTree nodes tree → HasWords nodes
has_words nodes tree h = record { width = h.width; filled = h.filled }

kept_word : (nodes : TableList) (tree : Tree) (node w n part : ℕ) → IsTree nodes tree → part < 4
    → word_at (with_word nodes node 4 w) n part ≡ word_at nodes n part
kept_word nodes tree node w n part h small = word_other nodes node 4 w n part (has_words nodes tree h) (omega arith) (omega arith)
    (inr (λ e. omega arith))

kept_sign : (nodes : TableList) (tree : Tree) (node w n : ℕ) → IsTree nodes tree → sign_at (with_word nodes node 4 w) n ≡ sign_at nodes n
kept_sign nodes tree node w n h = rw (kept_word nodes tree node w n 0 h (omega arith), kept_word nodes tree node w n 1 h (omega arith)) refl

tree_numbered : (nodes : TableList) (tree : Tree) (node w : ℕ) → IsTree nodes tree → IsTree (with_word nodes node 4 w) tree
tree_numbered nodes tree node w h = record {
  width = h.width;
  filled = (words_set nodes node 4 w (has_words nodes tree h)).filled;
  root = h.root;
  above = h.above;
  sign = λ n some lt. subst IsSign (sym (kept_sign nodes tree node w n h)) (h.sign n some lt);
  named = λ n some lt. h.named n some lt ∙ ap (λ (t : Symbol). tree.name (tree.parent n) ++ byte_of t ∷ [])
      (sym (kept_sign nodes tree node w n h));
  children = λ n lt. rw (kept_word nodes tree node w n 3 h (omega arith)) (h.children n lt);
  elders = λ n some lt. rw (kept_word nodes tree node w n 2 h (omega arith)) (h.elders n some lt);
  distinct = h.distinct;
}

numbers_set : (nodes : TableList) (tree : Tree) (node : ℕ) (names : List (List ℕ)) → IsTree nodes tree → node < nodes.count
    → IsNumbered nodes tree names → place_of (tree.name node) names ≡ None
    → IsNumbered (with_word nodes node 4 (length names + 1)) tree (names ++ tree.name node ∷ [])
numbers_set nodes tree node names h nl numbered none = record {
  numbers = λ n lt. elim (cases_eq n node) [
    | inl e ↦
        let next : length names + 1 ≡ suc (length names) = omega arith in
        rw (
          e,
          word_set nodes node 4 (length names + 1) (has_words nodes tree h) nl (omega arith),
          place_new
              (tree.name node) names none,
        ) next
    | inr ne ↦
        rw (
          word_other nodes node 4 (length names + 1) n 4 (has_words nodes tree h) (omega arith) (omega arith) (inl ne),
          place_kept
              (tree.name n) (tree.name node) names (λ same. ne (h.distinct n node lt nl same)),
        )
        (numbered.numbers n lt)
  ];
  unknown = λ name other. place_kept name (tree.name node) names (λ is. other node nl (sym is)) ∙ numbered.unknown name other;
}

-- a name without a number gets the next one
pub new_number : (t new : TablesModel) (tree : Tree) (node known : ℕ) (names : List (List ℕ)) → Knows t tree known names
    → node < (nodes_of t).count → place_of (tree.name node) names ≡ None → nodes_of new ≡ with_word (nodes_of t) node 4 (known + 1)
    → IsNumberOf new tree (known + 1) names (tree.name node) known
new_number t new tree node known names h nl none is =
    let set : nodes_of new ≡ with_word (nodes_of t) node 4 (length names + 1) = is ∙ ap
    (λ (k : ℕ). with_word (nodes_of t) node 4 (k + 1)) h.count in
    record {
      knows = rw none (record {
        fits = rw set (tree_numbered (nodes_of t) tree node (length names + 1) h.fits);
        numbered = rw set (numbers_set (nodes_of t) tree node names h.fits nl h.numbered none);
        count = omega (arith, h.count, length-append names (tree.name node ∷ []));
      });
      value = rw none h.count;
    }

found_by : (place : Option ℕ) (t : TablesModel) (tree : Tree) (node known : ℕ) (names : List (List ℕ)) → place_of (tree.name node) names ≡ place
    → Knows t tree known names → node < (nodes_of t).count → word_at (nodes_of t) node 4 ≢ 0
    → IsNumberOf t tree known names (tree.name node) (word_at (nodes_of t) node 4 - 1)
found_by None t tree node known names is h nl some =
    let word : word_at (nodes_of t) node 4 ≡ next_number (place_of (tree.name node) names) = h.numbered.numbers node nl in
    let zero_word : word_at (nodes_of t) node 4 ≡ 0 = word ∙ ap next_number is in
    absurd (some zero_word)
found_by (Some place) t tree node known names is h nl some =
    let word : word_at (nodes_of t) node 4 ≡ suc place = h.numbered.numbers node nl ∙ ap next_number is in
    record { knows = rw is h; value = rw is (omega (arith, word)) }

-- a name with a number keeps it
pub old_number : (t : TablesModel) (tree : Tree) (node known : ℕ) (names : List (List ℕ)) → Knows t tree known names → node < (nodes_of t).count
    → word_at (nodes_of t) node 4 ≢ 0 → IsNumberOf t tree known names (tree.name node) (word_at (nodes_of t) node 4 - 1)
old_number t tree node known names h nl some = found_by (place_of (tree.name node) names) t tree node known names refl h nl some

none_by : (place : Option ℕ) (t : TablesModel) (tree : Tree) (node known : ℕ) (names : List (List ℕ)) → place_of (tree.name node) names ≡ place
    → Knows t tree known names → node < (nodes_of t).count → (word_at (nodes_of t) node 4 ≡ 0) ⊎ (known < word_at (nodes_of t) node 4)
    → place ≡ None
none_by None t tree node known names is h nl out = refl
none_by (Some place) t tree node known names is h nl out =
    let word : word_at (nodes_of t) node 4 ≡ suc place = h.numbered.numbers node nl ∙ ap next_number is in
    let below : place < length names = place_below (tree.name node) names place is in
    absurd (elim out [ inl none ↦ omega (arith, none, word) | inr large ↦ omega (arith, large, word, below, h.count) ])

pub no_number : (t : TablesModel) (tree : Tree) (node known : ℕ) (names : List (List ℕ)) → Knows t tree known names → node < (nodes_of t).count
    → (word_at (nodes_of t) node 4 ≡ 0) ⊎ (known < word_at (nodes_of t) node 4) → place_of (tree.name node) names ≡ None
no_number t tree node known names h nl out = none_by (place_of (tree.name node) names) t tree node known names refl h nl out
