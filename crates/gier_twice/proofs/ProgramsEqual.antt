-- Where a program begins no identifier is a switch or a procedure that it declares, neither by its scopes nor by its store.
use Rattle.std.proofs.Common.{◌≡◌, ◌∙◌, ◌+◌, ℕ, suc, Bool, true, false, List, [], ◌∷◌, refl, sym as back, ap}
use Rattle.std.specs.Prelude.{◌==◌, max, map, Option, None, Some, if◌then◌else◌}
use Rattle.gier_tree.specs.declared.kind.Kind.{Kind}
use Rattle.gier_tree.specs.declared.kind.Kind.TheVariants.{Undeclared, Label, OutInteger, OutText, OutCr, OutChar, InInteger, InChar, Abs, Sign}
use Rattle.gier_tree.specs.Coded.{scopes_of}
use Rattle.gier_tree.specs.Declaring.{labels_of_program}
use Rattle.gier_tree.specs.Described as scope
use Rattle.gier_tree.specs.Described.{Described, Scopes}
use Rattle.gier_tree.specs.Entries.{label_entries}
use Rattle.gier_tree.specs.Need as tree_need
use Rattle.gier_tree.specs.Places.{Places, place_all, standard_places, program_places}
use Rattle.gier_tree.specs.Room.{block_header, room_program}
use Rattle.gier_tree.specs.Trees as tree
use Rattle.gier_tree.specs.Trees.{LabelPlace, Group, Program, MkProgram}
use Rattle.gier_meaning.specs.Plain as plain
use Rattle.gier_meaning.specs.Room as meaning
use Rattle.gier_meaning.specs.Scopes.{quantities, labels}
use Rattle.gier_meaning.specs.Standing.{initial_state}
use Rattle.gier_meaning.specs.State.{Nothing}
use Rattle.gier_meaning.specs.Tree.{Identifier}
use Rattle.gier_meaning.specs.What.{What}
use Rattle.gier_env.specs.Closures.{option_what, what_of}
use Rattle.gier_env.specs.Env.{Denoted, NoBindings, found_in, with_entities}
use Rattle.gier_env.specs.Standing.{standard_bindings}
use Rattle.gier_twice.specs.ProgramRooms.{first_env}
use Rattle.gier_twice.specs.SameNeeds.{NeedsAlike}
use Rattle.gier_twice.proofs.StatementNeeds.{statement_same}

-- neither a switch nor a procedure that a program declares
record IsOther (d : Described) : Type 0 where
  element : (count first all : ℕ) → tree_need.element_need d.kind count first all ≡ max (1 + count) all
  call : (count by_value greatest : ℕ) → tree_need.call_need d.kind count by_value greatest ≡ greatest
  formals : d.formals ≡ []

record IsOtherWhat (w : What) : Type 0 where
  element : (count behind first : ℕ) → meaning.element_need w count behind first ≡ max (1 + count) behind
  call : (count passed greatest : ℕ) → meaning.call_need w count passed greatest ≡ greatest
  formals : meaning.formals_of w ≡ []

others_alike : (d : Described) (w : What) → IsOther d → IsOtherWhat w → NeedsAlike d w
others_alike d w a b = record {
  element = λ c f n. a.element c f n ∙ back (b.element c n f);
  call = λ c v g. a.call c v g ∙ back (b.call c v g);
  formals = rw (a.formals, b.formals) tt;
}

label_other : IsOther (scope.plain Label)
label_other = record { element = λ c f a. refl; call = λ c b g. refl; formals = refl }

-- one of two others is one
chosen : (t : Bool) (d e : Described) → IsOther d → IsOther e → IsOther (if t then d else e)
chosen true d e a b = a
chosen false d e a b = b

labels_other : (ls : List tree.Name) (scopes : Scopes) → ((x : ℕ) → IsOther (scopes x))
    → (x : ℕ) → IsOther (scope.bind_all ls (scope.plain Label) scopes x)
labels_other [] scopes h x = h x
labels_other (l ∷ ls) scopes h x =
    chosen (x == l.number) (scope.plain Label) (scope.bind_all ls (scope.plain Label) scopes x) label_other (labels_other ls scopes h x)

out_integer_other : IsOther (scope.plain OutInteger)
out_integer_other = record { element = λ c f a. refl; call = λ c b g. refl; formals = refl }

out_text_other : IsOther (scope.plain OutText)
out_text_other = record { element = λ c f a. refl; call = λ c b g. refl; formals = refl }

out_cr_other : IsOther (scope.plain OutCr)
out_cr_other = record { element = λ c f a. refl; call = λ c b g. refl; formals = refl }

out_char_other : IsOther (scope.plain OutChar)
out_char_other = record { element = λ c f a. refl; call = λ c b g. refl; formals = refl }

in_integer_other : IsOther (scope.plain InInteger)
in_integer_other = record { element = λ c f a. refl; call = λ c b g. refl; formals = refl }

in_char_other : IsOther (scope.plain InChar)
in_char_other = record { element = λ c f a. refl; call = λ c b g. refl; formals = refl }

abs_other : IsOther (scope.plain Abs)
abs_other = record { element = λ c f a. refl; call = λ c b g. refl; formals = refl }

sign_other : IsOther (scope.plain Sign)
sign_other = record { element = λ c f a. refl; call = λ c b g. refl; formals = refl }

undeclared_other : IsOther (scope.plain Undeclared)
undeclared_other = record { element = λ c f a. refl; call = λ c b g. refl; formals = refl }

standard_other : (x : ℕ) → IsOther (scope.standard_scopes x)
standard_other x = chosen (x == 0) _ _ out_integer_other (chosen (x == 1) _ _ out_text_other (chosen (x == 2) _ _ out_cr_other (chosen (x == 3) _ _ out_char_other (chosen (x == 4) _ _ in_integer_other (chosen (x == 5) _ _ in_char_other (chosen (x == 6) _ _ abs_other (chosen (x == 7) _ _ sign_other undeclared_other)))))))

-- places tell the same scopes
places_other : (es : List LabelPlace) (level address number : ℕ) (p : Places) → ((x : ℕ) → IsOther (p x).what)
    → (x : ℕ) → IsOther (place_all level address number (label_entries es) p x).what
places_other [] level address number p h x = h x
places_other (e ∷ es) level address number p h x = by_test (x == e.name.number) (places_other es level _ _ p h x)
  where
    by_test : (t : Bool) → IsOther (place_all level (address + 0) (number + 1) (label_entries es) p x).what
        → IsOther (if t then record { what = scope.plain Label; level = level; address = number }
        else place_all level (address + 0) (number + 1) (label_entries es) p x).what
    by_test true r = label_other
    by_test false r = r

-- the store holds nothing yet
unknown_other : IsOtherWhat (option_what (λ n. Nothing) None)
unknown_other = record { element = λ c b f. refl; call = λ c p g. refl; formals = refl }

bound_other : (n : ℕ) (xs : List ℕ) (x : ℕ) (o : Option Denoted) → IsOtherWhat (option_what (λ n. Nothing) o)
    → IsOtherWhat (option_what (λ n. Nothing) (found_in (with_entities n (quantities xs) NoBindings) x o))
bound_other n [] x o h = h
bound_other n (y ∷ ys) x o h = by_test (x == y) (bound_other (suc n) ys x o h)
  where
    by_test : (t : Bool) → IsOtherWhat (option_what (λ n. Nothing) (found_in (with_entities (suc n) (quantities ys) NoBindings) x o))
        → IsOtherWhat (option_what (λ n. Nothing) (if t then Some (Denoted.AnEntity n) else found_in (with_entities (suc n) (quantities ys) NoBindings) x o))
    by_test true r = unknown_other
    by_test false r = r

standard_word : (standard : Kind) → IsOtherWhat (option_what (λ n. Nothing) (Some (Denoted.AStandard standard)))
standard_word standard = record { element = λ c b f. refl; call = λ c p g. refl; formals = refl }

chosen_what : (t : Bool) (a b : Option Denoted) → IsOtherWhat (option_what (λ n. Nothing) a) → IsOtherWhat (option_what (λ n. Nothing) b)
    → IsOtherWhat (option_what (λ n. Nothing) (if t then a else b))
chosen_what true a b h g = h
chosen_what false a b h g = g

standard_what : (x : ℕ) → IsOtherWhat (option_what (λ n. Nothing) (found_in standard_bindings x None))
standard_what x = chosen_what (x == 0) _ _ (standard_word OutInteger) (chosen_what (x == 1) _ _ (standard_word OutText) (chosen_what (x == 2) _ _ (standard_word OutCr) (chosen_what (x == 3) _ _ (standard_word OutChar) (chosen_what (x == 4) _ _ (standard_word InInteger) (chosen_what (x == 5) _ _ (standard_word InChar) (chosen_what (x == 6) _ _ (standard_word Abs) (chosen_what (x == 7) _ _ (standard_word Sign) unknown_other)))))))

start_what : (t : Program) (unread : List ℕ) (permitted : ℕ) (x : ℕ)
    → IsOtherWhat (what_of (first_env t) (initial_state unread permitted) (Identifier x))
start_what t unread permitted x = bound_other 0 (labels (plain.plain t).statement) x (found_in standard_bindings x None) (standard_what x)

-- the need of the program's statement, by any scopes without switches and procedures
by_others : (scopes : Scopes) → ((x : ℕ) → IsOther (scopes x)) → (ls : List LabelPlace) (g : Group) (l : ℕ) (unread : List ℕ)
    (permitted : ℕ) → block_header + tree_need.need_group scopes g
    ≡ meaning.program_room (what_of (first_env (MkProgram ls g l)) (initial_state unread permitted)) (plain.plain (MkProgram ls g l)).statement
by_others scopes h ls g l unread permitted =
    let t = MkProgram ls g l in
    let w = what_of (first_env t) (initial_state unread permitted) in
    ap (λ n. 3 + n) (statement_same scopes w (λ x. others_alike (scopes x) (w (Identifier x)) (h x) (start_what t unread permitted x))
    (tree.OneUnconditional (tree.MkUnconditional ls (tree.OneGroup g))))

scopes_other : (t : Program) (x : ℕ) → IsOther (scope.program_scopes t x)
scopes_other t x = labels_other (map (λ l. l.name) (labels_of_program t)) scope.standard_scopes standard_other x

pub programs_equal : (t : Program) (unread : List ℕ) (permitted : ℕ)
    → room_program t ≡ meaning.program_room (what_of (first_env t) (initial_state unread permitted)) (plain.plain t).statement
programs_equal (MkProgram ls g l) unread permitted =
    by_others (scope.program_scopes (MkProgram ls g l)) (scopes_other (MkProgram ls g l)) ls g l unread permitted

pub places_equal : (ls : List LabelPlace) (g : Group) (l : ℕ)
    → block_header + tree_need.need_group (scopes_of (program_places (MkProgram ls g l))) g ≡ room_program (MkProgram ls g l)
places_equal ls g l =
    let t = MkProgram ls g l in
    by_others (scopes_of (program_places t)) (places_other (labels_of_program t) 1 0 0 standard_places standard_other) ls g l [] 0
    ∙ back (programs_equal t [] 0)
