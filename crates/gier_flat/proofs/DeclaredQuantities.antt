-- What a new activation declares is found in it, and what is declared further out is found from it.
use Rattle.std.proofs.Common.{◌≡◌, ℕ, suc, ◌+◌, ◌<◌, Bool, true, false, List, [], ◌∷◌, Option, Some, sym, subst}
use Rattle.std.specs.Prelude.{◌==◌, if◌then◌else◌, ⊤}
use Rattle.gier_agree.specs.declared.kind.Kind.{Kind as Fitting}
use Rattle.gier_symbol.specs.declared.symbol.Symbol.{Symbol}
use Rattle.gier_order.specs.Flat.Region.{level_in, outer_in}
use Rattle.gier_tree.specs.declared.kind.Kind.{Kind}
use Rattle.gier_tree.specs.declared.kind.Kind.TheVariants.{IntegerVariable, BooleanVariable, IntegerValue, BooleanValue, Label}
use Rattle.gier_tree.specs.Places.{Placed, Places, place_all, address_or_number}
use Rattle.gier_tree.specs.Entries.{Entry, kind_words, kind_numbers}
use Rattle.gier_meaning.specs.State.{Entity}
use Rattle.gier_meaning.specs.Scopes.{Declared, Quantity, ProcedureName}
use Rattle.gier_env.specs.Env.{NoBindings, Denoted, AnEntity, found_in, with_entities}
use Rattle.gier_env.specs.Closures.{Closure}
use Rattle.gier_flat.proofs.StackRelation.{Known, Walk, Zeros, behind_zeros, Shows, IsVariable, IsLabel}

module _ (text : List Symbol) (K : Known) (words : ℕ → ℕ) (store : ℕ → Entity Closure) where
  -- ---- from a new activation the outer ones are seen through it

  module _ (b b1 b0 z : ℕ) (header : K.word (b + 1)) (outer : outer_in (words (b + 1)) ≡ b1) (behind : b1 < b) (zeros : Zeros K words z b1 b0) where
    through : (h l to : ℕ) → 0 < l → (level_in (words (b + 1)) ≡ l → ⊥) → Walk K words h b0 l to → Walk K words (suc (z + h)) b l to
    through h l to up other w =
        let rest : Walk K words (z + h) b1 l to = behind_zeros K words z h b1 b0 l to up zeros w in
        (header, other, subst (λ u. u < b) (sym outer) behind, subst (λ u. Walk K words (z + h) u l to) (sym outer) rest)

    variable_through : (kind : Fitting) (at : Placed) (d : Option Denoted) → (level_in (words (b + 1)) ≡ at.level → ⊥) → IsVariable text K words store b0 kind at d → IsVariable text K words store b kind at d
    variable_through kind at (Some (AnEntity n)) other v = (v.0, suc (z + v.1), through v.1 at.level v.0 v.6 other v.2, v.3, v.4, v.5, v.6, v.7, v.8)
    variable_through kind at d other v = absurd v

    label_through : (at : Placed) (d : Option Denoted) → (level_in (words (b + 1)) ≡ at.level → ⊥) → IsLabel text K words store b0 at d → IsLabel text K words store b at d
    label_through at (Some (AnEntity n)) other v = (v.0, suc (z + v.1), through v.1 at.level v.0 v.6 other v.2, v.3, v.4, v.5, v.6, v.7, v.8, v.9, v.10)
    label_through at d other v = absurd v

    pub shows_through : (kind : Kind) (at : Placed) (d : Option Denoted) → (level_in (words (b + 1)) ≡ at.level → ⊥) → Shows text K words store b0 kind at d → Shows text K words store b kind at d
    shows_through IntegerVariable at d other v = variable_through _ at d other v
    shows_through BooleanVariable at d other v = variable_through _ at d other v
    shows_through IntegerValue at d other v = variable_through _ at d other v
    shows_through BooleanValue at d other v = variable_through _ at d other v
    shows_through Label at d other v = label_through at d other v
    shows_through kind at d other v = v

  -- ---- entries in step with what is declared

  module _ (b level : ℕ) where
    -- each entry has the next entity, which is shown at the entry's place
    abbrev pub InStep : (address number n : ℕ) → List Entry → List Declared → Type 0
    InStep address number n [] [] = ⊤
    InStep address number n (e ∷ es) (Quantity x ∷ ds) =
        (x ≡ e.name.number) × Shows text K words store b e.what.kind (record { what = e.what; level = level; address = address_or_number e.what.kind address number }) (Some (AnEntity n))
        × InStep (address + kind_words e.what.kind e.what.count) (number + kind_numbers e.what.kind) (suc n) es ds
    InStep address number n es ds = ⊥

    pub declared_shows : (es : List Entry) (ds : List Declared) (address number n : ℕ) (places : Places) (x : ℕ) (outer : Option Denoted) → InStep address number n es ds → Shows text K words store b (places x).what.kind (places x) outer
        → Shows text K words store b (place_all level address number es places x).what.kind (place_all level address number es places x) (found_in (with_entities n ds NoBindings) x outer)
    declared_shows [] [] address number n places x outer s o = o
    declared_shows (e ∷ es) (Quantity y ∷ ds) address number n places x outer s o =
        let rest = declared_shows es ds (address + kind_words e.what.kind e.what.count) (number + kind_numbers e.what.kind) (suc n) places x outer s.2 o in
        subst (λ y. Shows text K words store b (place_all level address number (e ∷ es) places x).what.kind (place_all level address number (e ∷ es) places x) (if x == y then Some (AnEntity n) else found_in (with_entities (suc n) ds NoBindings) x outer)) (sym s.0)
        (by (x == e.name.number) (record { what = e.what; level = level; address = address_or_number e.what.kind address number }) (place_all level (address + kind_words e.what.kind e.what.count) (number + kind_numbers e.what.kind) es places x) (Some (AnEntity n)) (found_in (with_entities (suc n) ds NoBindings) x outer) s.1 rest)
      where
        by : (t : Bool) (p q : Placed) (c d : Option Denoted) → Shows text K words store b p.what.kind p c → Shows text K words store b q.what.kind q d → Shows text K words store b (if t then p else q).what.kind (if t then p else q) (if t then c else d)
        by true p q c d i j = i
        by false p q c d i j = j
    declared_shows [] (d ∷ ds) address number n places x outer s o = absurd s
    declared_shows (e ∷ es) [] address number n places x outer s o = absurd s
    declared_shows (e ∷ es) (ProcedureName y ∷ ds) address number n places x outer s o = absurd s
