-- The numbers of a scope's entries: where its identifiers are distinct, each entry is found by its identifier, so that the numbers
-- of all are a row.
use Rattle.std.proofs.Common.{◌≡◌, ℕ, zero, suc, ◌+◌, false, List, [], ◌∷◌, refl, sym, ap, ◌∙◌, arith}
use Rattle.std.specs.Prelude.{◌++◌, ◌==◌, if◌then◌else◌}
use Rattle.std.proofs.lemmas.Bool.{eq-eqb}
use Rattle.gier_tree.specs.declared.kind.Kind.{Kind}
use Rattle.gier_tree.specs.Entries.{Entry, entries_numbers, kind_numbers, kind_words, label_entries}
use Rattle.gier_tree.specs.Places.{Placed, Places, place_all, address_or_number}
use Rattle.gier_tree.specs.Trees.{LabelPlace}
use Rattle.gier_scope.specs.Scopes.{declares}
use Rattle.gier_fair.specs.InScope.{AreDistinct, identifiers}
use Rattle.gier_fair.proofs.Apart.{neither}
use Rattle.gier_complete.proofs.EachKind.{each_kind}
use Rattle.gier_complete.proofs.PlacedLabels.{placed_labels}
use Rattle.gier_placed.proofs.Weights.{row, rows}

-- what weighs only where it is numbered
abbrev pub counted : (numbers weight : ℕ) → ℕ
counted zero weight = 0
counted (suc n) weight = weight

module _ (weight : ℕ → ℕ) where
  -- the entries, with the numbers that their identifiers have in these places
  abbrev pub entries_weight : Places → List Entry → ℕ
  entries_weight p [] = 0
  entries_weight p (e ∷ es) = counted (kind_numbers e.what.kind) (weight (p e.name.number).address) + entries_weight p es

  -- another identifier may be placed before
  skips : (x : ℕ) (at : Placed) (p : Places) (es : List Entry) → declares (identifiers es) x ≡ false
      → entries_weight (λ y. if y == x then at else p y) es ≡ entries_weight p es
  skips x at p [] d = refl
  skips x at p (e ∷ es) d =
      let other = neither (e.name.number == x) (declares (identifiers es) x) d in
      ap (λ b. counted (kind_numbers e.what.kind) (weight (if b then at else p e.name.number).address) + entries_weight (λ y.
      if y == x then at else p y) es) other.0
      ∙ ap (λ n. counted (kind_numbers e.what.kind) (weight (p e.name.number).address) + n) (skips x at p es other.1)

  its_own : (address number : ℕ) (kind : Kind)
      → counted (kind_numbers kind) (weight (address_or_number kind address number)) ≡ row weight number (kind_numbers kind)
  its_own address number kind =
      let one : weight number ≡ weight number + 0 = omega arith in
      each_kind (λ k. counted (kind_numbers k) (weight (address_or_number k address number)) ≡ row weight number (kind_numbers k))
      refl refl refl refl refl one one one one one refl refl refl refl refl refl refl refl refl refl refl refl refl refl refl
      refl refl refl refl refl kind

  -- all entries of a scope
  pub own_numbers : (level address number : ℕ) (es : List Entry) (p : Places) → AreDistinct (identifiers es)
      → entries_weight (place_all level address number es p) es ≡ row weight number (entries_numbers es)
  own_numbers level address number [] p apart = refl
  own_numbers level address number (e ∷ es) p apart =
      let k = e.what.kind in
      let at : Placed = record { what = e.what; level = level; address = address_or_number k address number } in
      let more = place_all level (address + kind_words k e.what.count) (number + kind_numbers k) es p in
      let here : counted (kind_numbers k) (weight (if e.name.number == e.name.number then at else more e.name.number).address)
      ≡ row weight number (kind_numbers k) =
      ap (λ b. counted (kind_numbers k) (weight
      (if b then at else more e.name.number).address)) (eq-eqb e.name.number e.name.number refl) ∙ its_own address number k in
      let rest : entries_weight (λ y. if y == e.name.number then at else more y) es
      ≡ row weight (number + kind_numbers k) (entries_numbers es) =
      skips e.name.number at more es apart.0
      ∙ own_numbers level (address + kind_words k e.what.count) (number + kind_numbers k) es p apart.1 in
      ap (λ n. n + entries_weight (λ y. if y == e.name.number then at else more y) es) here
      ∙ ap (λ n. row weight number (kind_numbers k) + n) rest
      ∙ sym (rows weight number (kind_numbers k) (entries_numbers es))

  grouped : (a b c : ℕ) → a + (b + c) ≡ (a + b) + c
  grouped a b c = omega arith

  pub both_entries : (p : Places) (es more : List Entry)
      → entries_weight p (es ++ more) ≡ entries_weight p es + entries_weight p more
  both_entries p [] more = let e : entries_weight p more ≡ 0 + entries_weight p more = omega arith in e
  both_entries p (e ∷ es) more =
      let x = counted (kind_numbers e.what.kind) (weight (p e.name.number).address) in
      ap (λ n. x + n) (both_entries p es more) ∙ grouped x (entries_weight p es) (entries_weight p more)

  pub both_labels : (p : Places) (ls more : List LabelPlace)
      → placed_labels p (ls ++ more) weight ≡ placed_labels p ls weight + placed_labels p more weight
  both_labels p [] more = let e : placed_labels p more weight ≡ 0 + placed_labels p more weight = omega arith in e
  both_labels p (l ∷ ls) more =
      ap (λ n. weight (p l.name.number).address + n) (both_labels p ls more)
      ∙ grouped (weight (p l.name.number).address) (placed_labels p ls weight) (placed_labels p more weight)

  pub label_entries_weight : (p : Places) (ls : List LabelPlace) → placed_labels p ls weight ≡ entries_weight p (label_entries ls)
  label_entries_weight p [] = refl
  label_entries_weight p (l ∷ ls) = ap (λ n. weight (p l.name.number).address + n) (label_entries_weight p ls)
