-- What is done to a state with environments is done to the state that belongs to it, and outcomes go together.
use Rattle.std.proofs.Common.{◌≡◌, ℕ, zero, suc, ℤ, Bool, true, false, List, [], ◌∷◌, Option, Some, None, Result, Ok, Err, refl, sym, ap, ◌∙◌}
use Rattle.std.specs.Prelude.{◌==◌, if◌then◌else◌}
use mathlib.Core.Path.{fun_ext}
use Rattle.gier_word.specs.declared.alarm.Alarm.{Alarm}
use Rattle.gier_word.specs.declared.int40.Spoil.{Spoil}
use Rattle.gier_word.specs.Standard.{Reading, character_text, integer_read, character_read}
use Rattle.gier_word.specs.Operations.{modulus_of}
use Rattle.gier_tree.specs.declared.kind.Kind.{Kind as Standard}
use Rattle.gier_tree.specs.declared.kind.Kind.TheVariants.{OutInteger, OutCr, OutChar, InInteger, InChar, Abs, Sign}
use Rattle.gier_meaning.specs.Live.{Live, Shape, live_words}
use Rattle.gier_meaning.specs.Entry.{Entry, NoStep, NoRoom, Enters, entry, live_after_taking}
use Rattle.gier_meaning.specs.State.{Entity, Nothing, ACell, AnArray, ALabel, Kept, State, with_entity}
use Rattle.gier_meaning.specs.Address.{Address, CellAt, ElementAt, value_in, element_in, value_at, cell_with, array_with, receives, receive}
use Rattle.gier_meaning.specs.Arrays.{are_within}
use Rattle.gier_meaning.specs.Outcome.{Outcome, Gives, Goes, Stops, then_do, either, caught, is_among}
use Rattle.gier_meaning.specs.Accounts.{charged_by, charge, enters_by, enter, room_by, take_elements}
use Rattle.gier_meaning.specs.Standard.{value_or_alarm, prints, reads, takes, standard_alone, standard_of}
use Rattle.gier_meaning.specs.Destinations.{Destination, To, Undefined, goes_to}
use Rattle.gier_meaning.specs.Entities.{cell_value, cell_address, label_at, element_address}
use Rattle.gier_meaning.specs.TurnLabels.{labels_made}
use Rattle.gier_meaning.specs.Bodies.{Body}
use Rattle.gier_env.specs.Closures.{Closure}
use Rattle.gier_copy.proofs.Images.{entity_of, state_of, carried, same}

-- ---- stores

choice_of : (t : Bool) (a b : Entity Closure) → entity_of (if t then a else b) ≡ (if t then entity_of a else entity_of b)
choice_of true a b = refl
choice_of false a b = refl

abbrev with_store : State Body → (ℕ → Entity Body) → State Body
with_store s store = record s { store = store }

pub entity_put : (n : ℕ) (e : Entity Closure) (s : State Closure) → state_of (with_entity n e s) ≡ with_entity n (entity_of e) (state_of s)
entity_put n e s = ap (with_store (state_of s)) (fun_ext (λ m. choice_of (m == n) e (s.store m)))

cell_of : (e : Entity Closure) → value_in (entity_of e) ≡ value_in e
cell_of Nothing = refl
cell_of (ACell kind value) = refl
cell_of (AnArray kind bounds elements) = refl
cell_of ALabel = refl
cell_of (Kept k) = refl

element_in_of : (e : Entity Closure) (xs : List ℤ) → element_in (entity_of e) xs ≡ element_in e xs
element_in_of Nothing xs = refl
element_in_of (ACell kind value) xs = refl
element_in_of (AnArray kind bounds elements) xs = refl
element_in_of ALabel xs = refl
element_in_of (Kept k) xs = refl

pub value_found : (a : Address) (s : State Closure) → value_at a (state_of s) ≡ value_at a s
value_found (CellAt n) s = cell_of (s.store n)
value_found (ElementAt n xs) s = element_in_of (s.store n) xs

cell_put : (e : Entity Closure) (v : ℤ) → cell_with (entity_of e) v ≡ entity_of (cell_with e v)
cell_put Nothing v = refl
cell_put (ACell kind value) v = refl
cell_put (AnArray kind bounds elements) v = refl
cell_put ALabel v = refl
cell_put (Kept k) v = refl

array_put : (e : Entity Closure) (xs : List ℤ) (v : ℤ) → array_with (entity_of e) xs v ≡ entity_of (array_with e xs v)
array_put Nothing xs v = refl
array_put (ACell kind value) xs v = refl
array_put (AnArray kind bounds elements) xs v = refl
array_put ALabel xs v = refl
array_put (Kept k) xs v = refl

pub receives_of : (a : Address) (v : ℤ) (s : State Closure) → state_of (receives a v s) ≡ receives a v (state_of s)
receives_of (CellAt n) v s = entity_put n (cell_with (s.store n) v) s
    ∙ ap (λ e. with_entity n e (state_of s)) (sym (cell_put (s.store n) v))
receives_of (ElementAt n xs) v s = entity_put n (array_with (s.store n) xs v) s
    ∙ ap (λ e. with_entity n e (state_of s)) (sym (array_put (s.store n) xs v))

pub receive_of : (as_ : List Address) (v : ℤ) (s : State Closure) → state_of (receive as_ v s) ≡ receive as_ v (state_of s)
receive_of [] v s = refl
receive_of (a ∷ as_) v s = receive_of as_ v (receives a v s) ∙ ap (receive as_ v) (receives_of a v s)

pub labels_of : (ns : List ℕ) (s : State Closure) → state_of (labels_made ns s) ≡ labels_made ns (state_of s)
labels_of [] s = refl
labels_of (n ∷ ns) s = labels_of ns (with_entity n ALabel s) ∙ ap (labels_made ns) (entity_put n ALabel s)

-- ---- outcomes

pub then_same : {A A1 B B1 : Type 0} (f : A → A1) (h : B → B1) (r : Outcome Closure A) (r1 : Outcome Body A1)
    (go : A → State Closure → Outcome Closure B) (go1 : A1 → State Body → Outcome Body B1)
    → r1 ≡ carried f r → ((a : A) (s : State Closure) → go1 (f a) (state_of s) ≡ carried h (go a s))
    → then_do r1 go1 ≡ carried h (then_do r go)
then_same f h r r1 go go1 e each = ap (λ u. then_do u go1) e ∙ by r
  where
    by : (r : Outcome Closure _) → then_do (carried f r) go1 ≡ carried h (then_do r go)
    by (Gives a s) = each a s
    by (Goes label s) = refl
    by (Stops why stop s) = refl

pub either_same : {A B : Type 0} (f : A → B) (t t1 : Bool) (s : State Closure) (a b : State Closure → Outcome Closure A)
    (a1 b1 : State Body → Outcome Body B)
    → t1 ≡ t → ((s : State Closure) → a1 (state_of s) ≡ carried f (a s)) → ((s : State Closure) → b1 (state_of s) ≡ carried f (b s))
    → either t1 (state_of s) a1 b1 ≡ carried f (either t s a b)
either_same f t t1 s a b a1 b1 e p q = ap (λ u. either u (state_of s) a1 b1) e ∙ by t
  where
    by : (t : Bool) → either t (state_of s) a1 b1 ≡ carried f (either t s a b)
    by true = p s
    by false = q s

pub caught_same : {A B : Type 0} (f : A → B) (own : List ℕ) (go : ℕ → State Closure → Outcome Closure A)
    (go1 : ℕ → State Body → Outcome Body B)
    (r : Outcome Closure A) (r1 : Outcome Body B)
    → r1 ≡ carried f r → ((label : ℕ) (s : State Closure) → go1 label (state_of s) ≡ carried f (go label s))
    → caught own go1 r1 ≡ carried f (caught own go r)
caught_same f own go go1 r r1 e each = ap (caught own go1) e ∙ by r
  where
    by : (r : Outcome Closure _) → caught own go1 (carried f r) ≡ carried f (caught own go r)
    by (Gives a s) = refl
    by (Goes label s) =
        either_same f (is_among label own) (is_among label own) s (λ s1. go label s1) (λ s1. Goes label s1) (λ s1. go1 label s1)
        (λ s1. Goes label s1) refl (each label) (λ s1. refl)
    by (Stops why stop s) = refl

charged_same : {A B : Type 0} (f : A → B) (left line : ℕ) (live : Live) (s : State Closure) (go : State Closure → Outcome Closure A)
    (go1 : State Body → Outcome Body B)
    → ((s : State Closure) → go1 (state_of s) ≡ carried f (go s)) → charged_by left line live (state_of s) go1
    ≡ carried f (charged_by left line live s go)
charged_same f zero line live s go go1 each = refl
charged_same f (suc left) line live s go go1 each = each (record s { left = left })

pub charge_same : {A B : Type 0} (f : A → B) (line : ℕ) (live : Live) (s : State Closure) (go : State Closure → Outcome Closure A)
    (go1 : State Body → Outcome Body B)
    → ((s : State Closure) → go1 (state_of s) ≡ carried f (go s)) → charge line live (state_of s) go1 ≡ carried f (charge line live s go)
charge_same f line live s go go1 each = charged_same f s.left line live s go go1 each

enters_same : {A B : Type 0} (f : A → B) (en : Entry) (shape : Shape) (room line : ℕ) (live : Live) (s : State Closure)
    (go : Live → State Closure → Outcome Closure A) (go1 : Live → State Body → Outcome Body B)
    → ((live : Live) (s : State Closure) → go1 live (state_of s) ≡ carried f (go live s))
    → enters_by en shape room line live (state_of s) go1 ≡ carried f (enters_by en shape room line live s go)
enters_same f NoStep shape room line live s go go1 each = refl
enters_same f (NoRoom left) shape room line live s go go1 each = refl
enters_same f (Enters left most) shape room line live s go go1 each = each (record { shape = shape; words = room } ∷ live)
    (record s { left = left; most = most })

pub enter_same : {A B : Type 0} (f : A → B) (limit : ℕ) (shape : Shape) (room room1 line : ℕ) (live : Live) (s : State Closure)
    (go : Live → State Closure → Outcome Closure A) (go1 : Live → State Body → Outcome Body B)
    → room1 ≡ room → ((live : Live) (s : State Closure) → go1 live (state_of s) ≡ carried f (go live s))
    → enter limit shape room1 line live (state_of s) go1 ≡ carried f (enter limit shape room line live s go)
enter_same f limit shape room room1 line live s go go1 e each =
    ap (λ u. enter limit shape u line live (state_of s) go1) e
    ∙ enters_same f (entry limit s.left s.most (live_words live) room) shape room line live s go go1 each

room_by_same : (o : Option ℕ) (n line : ℕ) (live : Live) (s : State Closure) → room_by o n line live (state_of s)
    ≡ carried same (room_by o n line live s)
room_by_same None n line live s = refl
room_by_same (Some most) n line live s = refl

pub take_same : (limit n line : ℕ) (live : Live) (s : State Closure) → take_elements limit n line live (state_of s)
    ≡ carried same (take_elements limit n line live s)
take_same limit n line live s = room_by_same (live_after_taking limit s.most (live_words live) n) n line live s

pub settled_same : (r : Result ℤ Spoil) (line : ℕ) (live : Live) (s : State Closure) → value_or_alarm r line live (state_of s)
    ≡ carried same (value_or_alarm r line live s)
settled_same (Ok v) line live s = refl
settled_same (Err spoil) line live s = refl

prints_same : (r : Result (List ℕ) Alarm) (line : ℕ) (live : Live) (s : State Closure) → prints r line live (state_of s)
    ≡ carried same (prints r line live s)
prints_same (Ok bytes) line live s = refl
prints_same (Err alarm) line live s = refl

reads_same : (r : Result ℤ Alarm) (line : ℕ) (live : Live) (s : State Closure) → reads r line live (state_of s)
    ≡ carried same (reads r line live s)
reads_same (Ok v) line live s = refl
reads_same (Err alarm) line live s = refl

takes_same : (r : Reading) (line : ℕ) (live : Live) (s : State Closure) → takes r line live (state_of s)
    ≡ carried same (takes r line live s)
takes_same r line live s = reads_same r.outcome line live _

pub standard_alone_same : (k : Standard) (line : ℕ) (live : Live) (s : State Closure) → standard_alone k line live (state_of s)
    ≡ carried same (standard_alone k line live s)
standard_alone_same OutCr line live s = refl
standard_alone_same InInteger line live s = takes_same (integer_read s.unread) line live s
standard_alone_same InChar line live s = takes_same (character_read s.unread) line live s
standard_alone_same _ line live s = refl

pub standard_of_same : (k : Standard) (v : ℤ) (line : ℕ) (live : Live) (s : State Closure) → standard_of k v line live (state_of s)
    ≡ carried same (standard_of k v line live s)
standard_of_same OutInteger v line live s = refl
standard_of_same OutChar v line live s = prints_same (character_text v) line live s
standard_of_same Abs v line live s = settled_same (modulus_of v) line live s
standard_of_same Sign v line live s = refl
standard_of_same _ v line live s = refl

pub goes_same : (d : Destination) (line : ℕ) (live : Live) (s : State Closure) → goes_to d line live (state_of s)
    ≡ carried same (goes_to d line live s)
goes_same (To label) line live s = charge_same same line live s (λ s1. Goes label s1) (λ s1. Goes label s1) (λ s1. refl)
goes_same Undefined line live s = refl

-- ---- entities

pub cell_value_same : (e : Entity Closure) (line : ℕ) (live : Live) (s : State Closure) → cell_value (entity_of e) line live (state_of s)
    ≡ carried same (cell_value e line live s)
cell_value_same (ACell kind v) line live s = refl
cell_value_same Nothing line live s = refl
cell_value_same (AnArray kind bounds elements) line live s = refl
cell_value_same ALabel line live s = refl
cell_value_same (Kept k) line live s = refl

pub cell_address_same : (e : Entity Closure) (n line : ℕ) (live : Live) (s : State Closure)
    → cell_address (entity_of e) n line live (state_of s) ≡ carried same (cell_address e n line live s)
cell_address_same (ACell kind v) n line live s = refl
cell_address_same Nothing n line live s = refl
cell_address_same (AnArray kind bounds elements) n line live s = refl
cell_address_same ALabel n line live s = refl
cell_address_same (Kept k) n line live s = refl

pub label_at_same : (e : Entity Closure) (n line : ℕ) (live : Live) (s : State Closure) → label_at (entity_of e) n line live (state_of s)
    ≡ carried same (label_at e n line live s)
label_at_same (ACell kind v) n line live s = refl
label_at_same Nothing n line live s = refl
label_at_same (AnArray kind bounds elements) n line live s = refl
label_at_same ALabel n line live s = refl
label_at_same (Kept k) n line live s = refl

pub element_address_same : (e : Entity Closure) (n : ℕ) (xs : List ℤ) (line : ℕ) (live : Live) (s : State Closure)
    → element_address (entity_of e) n xs line live (state_of s) ≡ carried same (element_address e n xs line live s)
element_address_same (AnArray kind bounds elements) n xs line live s =
    either_same same (are_within xs bounds) (are_within xs bounds) s _ _ _ _ refl (λ s1. refl) (λ s1. refl)
element_address_same (ACell kind v) n xs line live s = refl
element_address_same Nothing n xs line live s = refl
element_address_same ALabel n xs line live s = refl
element_address_same (Kept k) n xs line live s = refl
