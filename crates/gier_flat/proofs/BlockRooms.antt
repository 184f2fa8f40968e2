-- The room of a block is the same by its places and by what the meaning asks its store.
use Rattle.std.proofs.Common.{◌≡◌, ℕ, suc, ◌+◌, pos, List, [], Option, Some, None, refl, sym, ap, ◌∙◌, subst}
use Rattle.std.specs.Prelude.{max}
use Rattle.gier_agree.specs.declared.kind.Kind.{Kind as Fitting}
use Rattle.gier_symbol.specs.declared.symbol.Symbol.{Symbol}
use Rattle.gier_tree.specs.declared.kind.Kind.{Kind}
use Rattle.gier_tree.specs.declared.kind.Kind.TheVariants.{Undeclared, IntegerVariable, BooleanVariable, IntegerValue, BooleanValue, Label, OutInteger, OutText, OutCr, OutChar, InInteger, InChar, Abs, Sign}
use Rattle.gier_tree.specs.Coded.{scopes_of}
use Rattle.gier_tree.specs.Need as tree_need
use Rattle.gier_tree.specs.Need.{need_block}
use Rattle.gier_tree.specs.Places.{Placed, Places, block_places}
use Rattle.gier_tree.specs.Room.{block_words}
use Rattle.gier_tree.specs.Trees as tree
use Rattle.gier_meaning.specs.Live.{Live}
use Rattle.gier_meaning.specs.Plain.{declaration, declarations, statement, statements}
use Rattle.gier_meaning.specs.Room as meaning
use Rattle.gier_meaning.specs.Room.{block_room}
use Rattle.gier_meaning.specs.Bodies.{entity_what}
use Rattle.gier_meaning.specs.State.{Entity, Nothing, ACell, AnArray, ALabel, Kept, State}
use Rattle.gier_meaning.specs.Tree.{Identifier}
use Rattle.gier_meaning.specs.Tree as plain_tree
use Rattle.gier_meaning.specs.What.{What}
use Rattle.gier_env.specs.Closures.{Closure, closure_what, option_what, what_of}
use Rattle.gier_env.specs.Env.{Env, Denoted, AnEntity, AStandard, found}
use Rattle.gier_twice.specs.SameNeeds.{NeedsAlike, AreAlike}
use Rattle.gier_twice.proofs.StatementNeeds.{blocks_equal}
use Rattle.gier_fair.proofs.PlacesTell.{in_block}
use Rattle.gier_flat.proofs.OrderRows.{Machine}
use Rattle.gier_flat.proofs.Setting.{Setting}
use Rattle.gier_flat.proofs.StackRelation.{Known, sort, Shows, IsVariable, IsLabel, RunInvariant}
use Rattle.gier_flat.proofs.BlockRuns.{AreWithin}

-- neither a switch nor a procedure
record OtherKind (kind : Kind) : Type 0 where
  element : (count first all : ℕ) → tree_need.element_need kind count first all ≡ max (1 + count) all
  call : (count by_value greatest : ℕ) → tree_need.call_need kind count by_value greatest ≡ greatest

record OtherWhat (w : What) : Type 0 where
  element : (count behind first : ℕ) → meaning.element_need w count behind first ≡ max (1 + count) behind
  call : (count passed greatest : ℕ) → meaning.call_need w count passed greatest ≡ greatest
  formals : meaning.formals_of w ≡ []

alike : (kind : Kind) (count : ℕ) (formals : List Kind) (w : What) → OtherKind kind → OtherWhat w → formals ≡ [] → NeedsAlike (record { kind = kind; count = count; formals = formals }) w
alike kind count formals w a b e = record {
  element = λ c f n. a.element c f n ∙ sym (b.element c n f);
  call = λ c v g. a.call c v g ∙ sym (b.call c v g);
  formals = rw (e, b.formals) tt;
}

abbrev IsVariableEntity : Entity Closure → Type 0
IsVariableEntity (ACell kind v) = Unit {0}
IsVariableEntity e = ⊥

abbrev IsLabelEntity : Entity Closure → Type 0
IsLabelEntity ALabel = Unit {0}
IsLabelEntity e = ⊥

cell_what : (e : Entity Closure) (kind : Fitting) → sort e ≡ ACell kind (pos 0) → OtherWhat (entity_what closure_what e)
cell_what (ACell k v) kind is = record { element = λ c b f. refl; call = λ c p g. refl; formals = refl }
cell_what Nothing kind is = absurd (subst IsVariableEntity (sym is) tt)
cell_what (AnArray k bounds elements) kind is = absurd (subst IsVariableEntity (sym is) tt)
cell_what ALabel kind is = absurd (subst IsVariableEntity (sym is) tt)
cell_what (Kept k) kind is = absurd (subst IsVariableEntity (sym is) tt)

label_what : (e : Entity Closure) → sort e ≡ ALabel → OtherWhat (entity_what closure_what e)
label_what ALabel is = record { element = λ c b f. refl; call = λ c p g. refl; formals = refl }
label_what Nothing is = absurd (subst IsLabelEntity (sym is) tt)
label_what (AnArray k bounds elements) is = absurd (subst IsLabelEntity (sym is) tt)
label_what (ACell k v) is = absurd (subst IsLabelEntity (sym is) tt)
label_what (Kept k) is = absurd (subst IsLabelEntity (sym is) tt)

module _ (text : List Symbol) (K : Known) (words : ℕ → ℕ) (store : ℕ → Entity Closure) (b : ℕ) where
  variable_what : (kind : Fitting) (at : Placed) (d : Option Denoted) → IsVariable text K words store b kind at d → OtherWhat (option_what store d)
  variable_what kind at (Some (AnEntity n)) v = cell_what (store n) kind v.5
  variable_what kind at d v = absurd v

  label_shown : (at : Placed) (d : Option Denoted) → IsLabel text K words store b at d → OtherWhat (option_what store d)
  label_shown at (Some (AnEntity n)) v = label_what (store n) v.5
  label_shown at d v = absurd v

  standard_what : (kind : Kind) (d : Option Denoted) → d ≡ Some (AStandard kind) → OtherWhat (option_what store d)
  standard_what kind d e = subst (λ d. OtherWhat (option_what store d)) (sym e) (record { element = λ c b f. refl; call = λ c p g. refl; formals = refl })

  unknown_what : (d : Option Denoted) → d ≡ None → OtherWhat (option_what store d)
  unknown_what d e = subst (λ d. OtherWhat (option_what store d)) (sym e) (record { element = λ c b f. refl; call = λ c p g. refl; formals = refl })

  shown_alike : (kind : Kind) (count : ℕ) (formals : List Kind) (at : Placed) (d : Option Denoted) → formals ≡ [] → Shows text K words store b kind at d → NeedsAlike (record { kind = kind; count = count; formals = formals }) (option_what store d)
  shown_alike IntegerVariable count formals at d e v = alike IntegerVariable count formals _ (record { element = λ c f a. refl; call = λ c b g. refl }) (variable_what _ at d v) e
  shown_alike BooleanVariable count formals at d e v = alike BooleanVariable count formals _ (record { element = λ c f a. refl; call = λ c b g. refl }) (variable_what _ at d v) e
  shown_alike IntegerValue count formals at d e v = alike IntegerValue count formals _ (record { element = λ c f a. refl; call = λ c b g. refl }) (variable_what _ at d v) e
  shown_alike BooleanValue count formals at d e v = alike BooleanValue count formals _ (record { element = λ c f a. refl; call = λ c b g. refl }) (variable_what _ at d v) e
  shown_alike Label count formals at d e v = alike Label count formals _ (record { element = λ c f a. refl; call = λ c b g. refl }) (label_shown at d v) e
  shown_alike OutInteger count formals at d e v = alike OutInteger count formals _ (record { element = λ c f a. refl; call = λ c b g. refl }) (standard_what _ d v) e
  shown_alike OutText count formals at d e v = alike OutText count formals _ (record { element = λ c f a. refl; call = λ c b g. refl }) (standard_what _ d v) e
  shown_alike OutCr count formals at d e v = alike OutCr count formals _ (record { element = λ c f a. refl; call = λ c b g. refl }) (standard_what _ d v) e
  shown_alike OutChar count formals at d e v = alike OutChar count formals _ (record { element = λ c f a. refl; call = λ c b g. refl }) (standard_what _ d v) e
  shown_alike InInteger count formals at d e v = alike InInteger count formals _ (record { element = λ c f a. refl; call = λ c b g. refl }) (standard_what _ d v) e
  shown_alike InChar count formals at d e v = alike InChar count formals _ (record { element = λ c f a. refl; call = λ c b g. refl }) (standard_what _ d v) e
  shown_alike Abs count formals at d e v = alike Abs count formals _ (record { element = λ c f a. refl; call = λ c b g. refl }) (standard_what _ d v) e
  shown_alike Sign count formals at d e v = alike Sign count formals _ (record { element = λ c f a. refl; call = λ c b g. refl }) (standard_what _ d v) e
  shown_alike Undeclared count formals at d e v = alike Undeclared count formals _ (record { element = λ c f a. refl; call = λ c b g. refl }) (unknown_what d v) e
  shown_alike kind count formals at d e v = absurd v

module _ (setting : Setting) (K : Known) (w need : ℕ) (env : Env) (p : Places) (m : Machine) (s : State Closure) (lives : Live) (h : RunInvariant setting.text setting.size K w need env p m s lives) where
  pub places_alike : (level : ℕ) → AreWithin p level → AreAlike (scopes_of p) (what_of env s)
  places_alike level low x =
      let se = h.sees in
      shown_alike setting.text K m.regs.words s.store se.0 (p x).what.kind (p x).what.count (p x).what.formals (p x) (found env x) (low x).1 (h.frames env p se.0 se.3 x)

  pub rooms_agree : (level number : ℕ) → AreWithin p level → (d : tree.Declaration) (ds : tree.Declarations) (b : tree.Statement) (bs : tree.Statements)
      → block_words d ds + need_block (scopes_of (block_places (suc level) number d ds b bs p)) d ds b bs
      ≡ block_room (what_of env s) (declaration d (declarations ds)) (plain_tree.MoreStatements (statement b) (statements bs))
  rooms_agree level number low d ds b bs =
      ap (λ scopes. block_words d ds + need_block scopes d ds b bs) (sym (in_block (suc level) number d ds b bs p))
      ∙ blocks_equal (scopes_of p) (what_of env s) (places_alike level low) d ds b bs
