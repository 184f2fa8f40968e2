-- The labels of a block have the numbers from its first on, and all its identifiers stand within its level.
use Rattle.std.proofs.Common.{◌≡◌, ℕ, zero, suc, ◌+◌, ◌<◌, ◌≤◌, Bool, true, false, List, [], ◌∷◌, ◌++◌, length, refl, ap, ◌∙◌, subst, arith}
use Rattle.std.specs.Prelude.{◌==◌, ◌||◌, if◌then◌else◌, ⊤}
use Rattle.std.proofs.lemmas.Bool.{eq-eqb, eqb-true}
use Rattle.gier_tree.specs.declared.kind.Kind.TheVariants.{Label}
use Rattle.gier_tree.specs.Described.{plain, variable_kind}
use Rattle.gier_tree.specs.Entries.{label_entries, kind_words, kind_numbers}
use Rattle.gier_tree.specs.Places.{Placed, Places, place_all, address_or_number}
use Rattle.gier_tree.specs.Trees.{ValueType, IntegerType, BooleanType, LabelPlace}
use Rattle.gier_meaning.specs.Outcome.{is_among}
use Rattle.gier_meaning.specs.TurnLabels.{entities_from}
use Rattle.gier_scope.specs.Scopes.{declares}
use Rattle.gier_fair.specs.InScope.{AreDistinct}
use Rattle.gier_fair.proofs.Apart.{neither, outside_both}
use Rattle.gier_flat.proofs.BlockEntries.{variable_entries}
use Rattle.gier_flat.proofs.BlockRuns.{AreWithin}
use Rattle.gier_flat.proofs.DeclaredEntities.{Variable, numbers_of}
use Rattle.gier_flat.proofs.LabelPlaces.{IsPlaced, ArePlaced}
use Rattle.gier_flat.proofs.Labels.{identifiers}
use Rattle.gier_flat.proofs.Setting.{Setting}

-- these labels have the numbers from k on
abbrev pub Numbered : Places → ℕ → List LabelPlace → Type 0
Numbered q k [] = ⊤
Numbered q k (l ∷ ls) = ((q l.name.number).address ≡ k) × Numbered q (suc k) ls

skipped : (x : ℕ) (here : Placed) (q : Places) (k : ℕ) (ls : List LabelPlace) → declares (identifiers ls) x ≡ false → Numbered q k ls → Numbered (λ y. if y == x then here else q y) k ls
skipped x here q k [] e n = tt
skipped x here q k (l ∷ ls) e n =
    let r = neither (l.name.number == x) (declares (identifiers ls) x) e in
    (ap (λ t. (if t then here else q l.name.number).address) r.0 ∙ n.0, skipped x here q (suc k) ls r.1 n.1)

labels_numbered : (ls : List LabelPlace) (level address number k : ℕ) (p : Places) → number ≡ k → AreDistinct (identifiers ls) → Numbered (place_all level address number (label_entries ls) p) k ls
labels_numbered [] level address number k p e h = tt
labels_numbered (l ∷ ls) level address number k p e h = (
  ap (λ t. (if t then record { what = plain Label; level = level; address = number } else place_all level (address + 0) (number + 1) (label_entries ls) p l.name.number).address) (eq-eqb l.name.number l.name.number refl) ∙ e,
  skipped l.name.number (record { what = plain Label; level = level; address = number }) (place_all level (address + 0) (number + 1) (label_entries ls) p) (suc k) ls h.0
      (labels_numbered ls level (address + 0) (number + 1) (suc k) p (omega (arith, e)) h.1),
)

no_number : (t : ValueType) → kind_numbers (variable_kind t) ≡ 0
no_number IntegerType = refl
no_number BooleanType = refl

pub numbered : (vs : List Variable) (ls : List LabelPlace) (level address number k : ℕ) (p : Places) → number ≡ k → AreDistinct (numbers_of vs ++ identifiers ls) → Numbered (place_all level address number (variable_entries vs ++ label_entries ls) p) k ls
numbered [] ls level address number k p e h = labels_numbered ls level address number k p e h
numbered (v ∷ vs) ls level address number k p e h =
    let o = outside_both (numbers_of vs) (identifiers ls) v.name.number h.0 in
    let z = no_number v.type in
    skipped v.name.number (record { what = plain (variable_kind v.type); level = level; address = address_or_number (variable_kind v.type) address number })
    (place_all level (address + kind_words (variable_kind v.type) 0) (number + kind_numbers (variable_kind v.type)) (variable_entries vs ++ label_entries ls) p) k ls o.1
    (numbered vs ls level (address + kind_words (variable_kind v.type) 0) (number + kind_numbers (variable_kind v.type)) k p (omega (arith, e, z)) h.1)

pub good : (setting : Setting) (q : Places) (ls : List LabelPlace) (k i n : ℕ) → Numbered q k ls → ArePlaced setting q ls → i < length (identifiers ls) → n ≡ k + i → IsPlaced setting n
good setting q [] k i n m a lt e = absurd (omega (arith, lt))
good setting q (l ∷ ls) k zero n m a lt e = let f : k ≡ n = omega (arith, e) in subst (λ j. IsPlaced setting j) (m.0 ∙ f) a.0
good setting q (l ∷ ls) k (suc i) n m a lt e = good setting q ls (suc k) i n m.1 a.1 (omega (arith, lt)) (omega (arith, e))

-- ---- levels

one_within : (t : Bool) (here there : Placed) (level : ℕ) → (here.level ≤ level) × (here.what.formals ≡ []) → (there.level ≤ level) × (there.what.formals ≡ []) → ((if t then here else there).level ≤ level) × ((if t then here else there).what.formals ≡ [])
one_within true here there level a b = a
one_within false here there level a b = b

labels_within : (ls : List LabelPlace) (level address number : ℕ) (p : Places) → AreWithin p level → AreWithin (place_all level address number (label_entries ls) p) level
labels_within [] level address number p h x = h x
labels_within (l ∷ ls) level address number p h x =
    one_within (x == l.name.number) _ (place_all level (address + 0) (number + 1) (label_entries ls) p x) level (omega arith, refl) (labels_within ls level (address + 0) (number + 1) p h x)

pub entries_within : (vs : List Variable) (ls : List LabelPlace) (level address number : ℕ) (p : Places) → AreWithin p level → AreWithin (place_all level address number (variable_entries vs ++ label_entries ls) p) level
entries_within [] ls level address number p h x = labels_within ls level address number p h x
entries_within (v ∷ vs) ls level address number p h x =
    one_within (x == v.name.number) _ (place_all level (address + kind_words (variable_kind v.type) 0) (number + kind_numbers (variable_kind v.type)) (variable_entries vs ++ label_entries ls) p x) level (omega arith, refl)
    (entries_within vs ls level (address + kind_words (variable_kind v.type) 0) (number + kind_numbers (variable_kind v.type)) p h x)

-- ---- the entities of labels

pub among_from : (n : ℕ) (xs : List ℕ) (e : ℕ) → is_among e (entities_from n xs) ≡ true → n ≤ e
among_from n [] e is = absurd (subst (λ t. elim t as (λ _. Type 0) [ true ↦ ⊥ | false ↦ Unit {0} ]) is tt)
among_from n (x ∷ xs) e is = by (e == n) refl is (among_from (suc n) xs e)
  where
    by : (t : Bool) → (e == n) ≡ t → (t || is_among e (entities_from (suc n) xs)) ≡ true → (is_among e (entities_from (suc n) xs) ≡ true → suc n ≤ e) → n ≤ e
    by true f g r = let h = eqb-true e n f in omega (arith, h)
    by false f g r = let h = r g in omega (arith, h)
