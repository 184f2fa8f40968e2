-- A tree with one more node, and one in which a node gets a number.
use Rattle.std.proofs.Common.{◌≡◌, ◌≢◌, ◌<◌, ◌≤◌, ◌⊎◌, ◌+◌, ◌==◌, ◌∙◌, ℕ, List, [], ◌∷◌, ◌++◌, get_or, refl, sym, ap, arith, inl, inr, Bool, true, false}
use Rattle.std.specs.Prelude.{if◌then◌else◌, ◌||◌}
use Rattle.std.proofs.lemmas.Bool.{cases_eq}
use Rattle.std.proofs.lemmas.Bool.Decides.{nat_tests}
use Rattle.gier_symbol.specs.declared.symbol.Symbol.{Symbol}
use Rattle.gier_symbol.specs.declared.tag.Tag.TheVariants.{Letter, Digit}
use Rattle.gier_symbol.specs.Assembly.{is, byte_of}
use Rattle.gier_symbol.specs.Bytes.{is_letter}
use Rattle.gier_text.specs.Lists.{TableList, word_at, with_entry}
use Rattle.gier_pass2.specs.Spelled.{IsSign, IsSame}
use Rattle.gier_pass2.specs.Tree.{Tree, IsTree, IsLast, IsChild, child_added, sign_at}
use Rattle.gier_pass2.proofs.NodeWords.{HasWords, words_pushed, words_set, word_before, word_pushed, word_set, word_other}

-- two signs with one byte are the same
pub letter_byte : (s : Symbol) → is Letter s ≡ true → byte_of s ≡ s.value
letter_byte s h = let other : is Digit s ≡ false = grind (arith, nat_tests) in rw other refl

pub digit_byte : (s : Symbol) → is Digit s ≡ true → byte_of s ≡ 48 + s.value
digit_byte s h = rw h refl

letter_above : (n : ℕ) → is_letter n ≡ true → 65 ≤ n
letter_above n h = grind (arith, nat_tests)

tag_same : (a b : ℕ) → (a == b) ≡ true → a ≡ b
tag_same a b h = grind (arith, nat_tests)

kinds : (letter digit : Bool) → (letter || digit) ≡ true → (letter ≡ true) ⊎ (digit ≡ true)
kinds true digit h = inl refl
kinds false digit h = inr h

pub sign_same : (a b : Symbol) → IsSign a → IsSign b → byte_of a ≡ byte_of b → IsSame a b
sign_same a b h k same = elim (kinds (is Letter a) (is Digit a) h.kind) [
  | inl al ↦ elim (kinds (is Letter b) (is Digit b) k.kind) [
    | inl bl ↦ record { tag = tag_same a.tag 1 al ∙ sym (tag_same b.tag 1 bl); value = sym (letter_byte a al) ∙ same ∙ letter_byte b bl }
    | inr bd ↦ absurd (omega (
      arith,
      same,
      letter_byte a al,
      digit_byte b bd,
      k.spelled.digit bd,
      letter_above a.value
          (h.spelled.letter al),
    ))
  ]
  | inr ad ↦ elim (kinds (is Letter b) (is Digit b) k.kind) [
    | inl bl ↦ absurd (omega (
      arith,
      same,
      digit_byte a ad,
      letter_byte b bl,
      h.spelled.digit ad,
      letter_above b.value
          (k.spelled.letter bl),
    ))
    | inr bd ↦ record {
      tag = tag_same a.tag 2 ad ∙ sym (tag_same b.tag 2 bd);
      value = omega
          (arith, same, digit_byte a ad, digit_byte b bd);
    }
  ]
]

pub byte_same : (a b : Symbol) → IsSame a b → byte_of a ≡ byte_of b
byte_same a b h = rw (h.tag, h.value) refl

cons_same : {A : Type 0} (x y : A) (xs ys : List A) → x ∷ xs ≡ y ∷ ys → (x ≡ y) × (xs ≡ ys)
cons_same x y xs ys h = (cc, cc)

no_snoc : (xs : List ℕ) (a : ℕ) → [] ≡ xs ++ a ∷ [] → ⊥
no_snoc [] a h = cc
no_snoc (x ∷ xs) a h = cc

snoc_same : (xs ys : List ℕ) (a b : ℕ) → xs ++ a ∷ [] ≡ ys ++ b ∷ [] → (xs ≡ ys) × (a ≡ b)
snoc_same [] [] a b h = (refl, (cons_same a b [] [] h).0)
snoc_same [] (y ∷ ys) a b h = absurd (no_snoc ys b (cons_same a y [] (ys ++ b ∷ []) h).1)
snoc_same (x ∷ xs) [] a b h = absurd (no_snoc xs a (sym (cons_same x b (xs ++ a ∷ []) [] h).1))
snoc_same (x ∷ xs) (y ∷ ys) a b h =
    let both = cons_same x y (xs ++ a ∷ []) (ys ++ b ∷ []) h in
    let more = snoc_same xs ys a b both.1 in
    (rw (both.0, more.0) refl, more.1)

-- a child that isn't found has a name of its own
pub fresh_name : (nodes : TableList) (tree : Tree) (node : ℕ) (s : Symbol) → IsTree nodes tree → node < nodes.count → IsSign s
    → IsChild nodes tree node s 0 → (m : ℕ) → m < nodes.count → tree.name m ≢ tree.name node ++ byte_of s ∷ []
fresh_name nodes tree node s h nl sign none m ml same = elim (cases_eq m 0) [
  | inl e ↦ no_snoc (tree.name node) (byte_of s) (sym h.root ∙ ap tree.name (sym e) ∙ same)
  | inr ne ↦
      let some : 0 < m = omega arith in
      let up : tree.parent m < m = h.above m some ml in
      let both = snoc_same (tree.name (tree.parent m)) (tree.name node) (byte_of (sign_at nodes m)) (byte_of s)
      (sym (h.named m some ml) ∙ same) in
      none.none refl m some ml (h.distinct (tree.parent m) node (omega arith) nl both.0)
      (sign_same (sign_at nodes m) s (h.sign m some ml) sign both.1)
]

pub choice_same : {A : Type 0} (n : ℕ) (x y : A) → (if n == n then x else y) ≡ x
choice_same n x y = let e : (n == n) ≡ true = grind (arith, nat_tests) in rw e refl

pub choice_other : {A : Type 0} (k n : ℕ) (x y : A) → k ≢ n → (if k == n then x else y) ≡ y
choice_other k n x y ne = let e : (k == n) ≡ false = grind (arith, nat_tests) in rw e refl

-- the tree with a child of one node
pub with_child : Tree → (count node byte : ℕ) → Tree
with_child tree count node byte = record {
  parent = λ k. if k == count then node else tree.parent k;
  name = λ k. if k == count then tree.name node ++ byte ∷ [] else tree.name k;
}

pub parent_new : (tree : Tree) (count node byte : ℕ) → (with_child tree count node byte).parent count ≡ node
unfolding with_child
parent_new tree count node byte = choice_same count node (tree.parent count)

pub parent_old : (tree : Tree) (count node byte k : ℕ) → k < count → (with_child tree count node byte).parent k ≡ tree.parent k
unfolding with_child
parent_old tree count node byte k lt = choice_other k count node (tree.parent k) (λ e. omega arith)

pub name_new : (tree : Tree) (count node byte : ℕ) → (with_child tree count node byte).name count ≡ tree.name node ++ byte ∷ []
unfolding with_child
name_new tree count node byte = choice_same count (tree.name node ++ byte ∷ []) (tree.name count)

pub name_old : (tree : Tree) (count node byte k : ℕ) → k < count → (with_child tree count node byte).name k ≡ tree.name k
unfolding with_child
name_old tree count node byte k lt = choice_other k count (tree.name node ++ byte ∷ []) (tree.name k) (λ e. omega arith)

pub last_kept : (old new : ℕ → ℕ) (node below last : ℕ) → ((k : ℕ) → k < below → new k ≡ old k) → IsLast old node below last
    → IsLast new node below last
last_kept old new node below last same h = record {
  within = h.within;
  child = λ some. same last h.within ∙ h.child some;
  later = λ n lt nl is. h.later n lt nl (sym (same n nl) ∙ is);
}

pub added_words : (nodes : TableList) (node : ℕ) (s : Symbol) → HasWords nodes → HasWords (child_added nodes node s)
added_words nodes node s h = words_set (with_entry nodes (s.tag ∷ s.value ∷ word_at nodes node 3 ∷ 0 ∷ 0 ∷ [])) node 3 nodes.count
    (words_pushed nodes s.tag s.value (word_at nodes node 3) 0 0 h)

pub added_old : (nodes : TableList) (node : ℕ) (s : Symbol) (k part : ℕ) → HasWords nodes → k < nodes.count → part < 5
    → (k ≢ node) ⊎ (part ≢ 3) → word_at (child_added nodes node s) k part ≡ word_at nodes k part
added_old nodes node s k part h lt few ne =
    let entry = s.tag ∷ s.value ∷ word_at nodes node 3 ∷ 0 ∷ 0 ∷ [] in
    word_other (with_entry nodes entry) node 3 nodes.count k part (words_pushed nodes s.tag s.value (word_at nodes node 3) 0 0 h)
    (omega arith) few ne
    ∙ word_before nodes entry k part h lt few

pub added_child : (nodes : TableList) (node : ℕ) (s : Symbol) → HasWords nodes → node < nodes.count
    → word_at (child_added nodes node s) node 3 ≡ nodes.count
added_child nodes node s h lt =
    word_set (with_entry nodes (s.tag ∷ s.value ∷ word_at nodes node 3 ∷ 0 ∷ 0 ∷ [])) node 3 nodes.count
    (words_pushed nodes s.tag s.value (word_at nodes node 3) 0 0 h) (omega arith) (omega arith)

pub added_new : (nodes : TableList) (node : ℕ) (s : Symbol) (part : ℕ) → HasWords nodes → node < nodes.count → part < 5
    → word_at (child_added nodes node s) nodes.count part ≡ get_or (s.tag ∷ s.value ∷ word_at nodes node 3 ∷ 0 ∷ 0 ∷ []) part 0
added_new nodes node s part h lt few =
    let entry = s.tag ∷ s.value ∷ word_at nodes node 3 ∷ 0 ∷ 0 ∷ [] in
    word_other (with_entry nodes entry) node 3 nodes.count nodes.count part (words_pushed nodes s.tag s.value (word_at nodes node 3) 0 0 h)
    (omega arith) few (inl (λ e. omega arith))
    ∙ word_pushed nodes entry part h few

pub sign_old : (nodes : TableList) (node : ℕ) (s : Symbol) (k : ℕ) → HasWords nodes → k < nodes.count
    → sign_at (child_added nodes node s) k ≡ sign_at nodes k
sign_old nodes node s k h lt = rw (
  added_old nodes node s k 0 h lt (omega arith) (inr (λ e. omega arith)),
  added_old nodes node s k 1 h lt
      (omega arith) (inr (λ e. omega arith)),
) refl

pub sign_new : (nodes : TableList) (node : ℕ) (s : Symbol) → HasWords nodes → node < nodes.count
    → sign_at (child_added nodes node s) nodes.count ≡ record { tag = s.tag; value = s.value; line = 0 }
sign_new nodes node s h lt = rw (added_new nodes node s 0 h lt (omega arith), added_new nodes node s 1 h lt (omega arith)) refl

pub is_sign : (s : Symbol) → IsSign s → IsSign (record { tag = s.tag; value = s.value; line = 0 })
is_sign s h = record { kind = h.kind; spelled = record { letter = h.spelled.letter; digit = h.spelled.digit } }
