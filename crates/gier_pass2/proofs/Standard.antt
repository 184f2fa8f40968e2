-- The standard names, read letter by letter with a space behind each.
use Rattle.std.proofs.Common.{◌≡◌, ◌≢◌, ◌<◌, ◌≤◌, ◌+◌, ◌==◌, ◌∙◌, ℕ, suc, zero, List, [], ◌∷◌, ◌++◌, length, drop, get_or, refl, sym, ap, subst, arith, Bool, true, false}
use Rattle.std.specs.Prelude.{◌||◌, slice_set}
use Rattle.std.specs.List.{list_all}
use Rattle.std.proofs.lemmas.Bool.Decides.{nat_tests}
use Rattle.gier_symbol.specs.declared.symbol.Symbol.{Symbol}
use Rattle.gier_symbol.specs.declared.tag.Tag.TheVariants.{Letter}
use Rattle.gier_symbol.specs.Assembly.{byte_of, place_of, known_by, standard_names}
use Rattle.gier_symbol.specs.Bytes.{is_letter}
use Rattle.gier_symbol.specs.Tags.{number_of}
use Rattle.gier_text.specs.TablesModel.{TablesModel, with_list, with_at}
use Rattle.gier_text.specs.Lists.{TableList, with_entry, list_at}
use Rattle.gier_pass2.specs.Spelled.{IsSign}
use Rattle.gier_pass2.specs.Standard.{standard_bytes, names_in, Spells}
use Rattle.gier_pass2.specs.Tree.{Tree, IsTree, IsNumbered, IsNumberOf, Knows, Names, nodes_of}
use Rattle.gier_pass2.proofs.RunSplitting.{and_both}

-- a letter of a standard name
abbrev pub letter : ℕ → Symbol
letter byte = record { tag = number_of Letter; value = byte; line = 0 }

pub all_standard : names_in standard_bytes [] [] ≡ standard_names
all_standard = refl

pub spells_space : (t new : TablesModel) (known more node byte number : ℕ) (bytes : List ℕ) → byte ≡ 32
    → (h : Spells t known node (byte ∷ bytes)) → ((tree : Tree) → (names : List (List ℕ)) → Knows t tree known names
    → IsNumberOf new tree more names (tree.name node) number) → Spells new more 0 bytes
spells_space t new known more node byte number bytes is h numbers =
    let space : (byte == 32) ≡ true = rw is refl in
    let given = numbers h.here.tree h.names h.here.knows in
    let name = h.here.named in
    record {
      names = known_by (place_of h.word h.names) h.word h.names;
      word = [];
      here = record { tree = h.here.tree; knows = rw name at given.knows; named = h.here.knows.fits.root };
      rest = rw space at h.rest;
    }

letter_sign : (byte : ℕ) → is_letter byte ≡ true → IsSign (record { tag = number_of Letter; value = byte; line = 0 })
letter_sign byte h = record { kind = refl; spelled = record { letter = λ is. h; digit = λ is. cc } }

pub spells_letter : (t new : TablesModel) (known node next byte : ℕ) (bytes : List ℕ) (s : Symbol) → byte ≢ 32 → is_letter byte ≡ true
    → s ≡ record { tag = number_of Letter; value = byte; line = 0 } → (h : Spells t known node (byte ∷ bytes))
    → ((tree : Tree) → (k : ℕ) → (names : List (List ℕ)) → Knows t tree k names → IsSign s
    → Names new k names next (tree.name node ++ byte_of s ∷ [])) → Spells new known next bytes
spells_letter t new known node next byte bytes s other letter is h step =
    let space : (byte == 32) ≡ false = grind (arith, nat_tests) in
    let name = h.here.named in
    let given = step h.here.tree known h.names h.here.knows (rw is (letter_sign byte letter)) in
    record {
      names = h.names;
      word = h.word ++ byte ∷ [];
      here = rw (name, is) at given;
      rest = rw space at h.rest;
    }

-- the byte at a place, and those behind it
drop_suc : (xs : List ℕ) (i : ℕ) → i < length xs → drop i xs ≡ get_or xs i 0 ∷ drop (suc i) xs
drop_suc [] i lt = absurd (omega arith)
drop_suc (x ∷ xs) zero lt = refl
drop_suc (x ∷ xs) (suc i) lt = drop_suc xs i (omega arith)

pub drop_at : (xs : List ℕ) (i : ℕ) → i < length xs → drop i xs ≡ get_or xs i 0 ∷ drop (i + 1) xs
drop_at xs i lt = let next : suc i ≡ i + 1 = omega arith in drop_suc xs i lt ∙ ap (λ (k : ℕ). get_or xs i 0 ∷ drop k xs) next

or_second : (a b : Bool) → (a || b) ≡ true → a ≡ false → b ≡ true
or_second true b h k = cc
or_second false b h k = h

both_at : (xs : List ℕ) (i : ℕ) → list_all (λ byte. byte == 32 || is_letter byte) xs ≡ true → i < length xs
    → (get_or xs i 0 == 32 || is_letter (get_or xs i 0)) ≡ true
both_at [] i h lt = absurd (omega arith)
both_at (x ∷ xs) zero h lt = (and_both (x == 32 || is_letter x) (list_all (λ byte. byte == 32 || is_letter byte) xs) h).0
both_at (x ∷ xs) (suc i) h lt = both_at xs i (and_both (x == 32 || is_letter x) (list_all (λ byte. byte == 32 || is_letter byte) xs) h).1
    (omega arith)

pub standard_letter : (i byte : ℕ) → i < length standard_bytes → byte ≡ get_or standard_bytes i 0 → byte ≢ 32 → is_letter byte ≡ true
standard_letter i byte lt is other =
    let space : (byte == 32) ≡ false = grind (arith, nat_tests) in
    or_second (byte == 32) (is_letter byte) (rw is (both_at standard_bytes i refl lt)) space

pub none_read : Tree
none_read = record { parent = λ n. 0; name = λ n. [] }

tree_alone : (capacity : ℕ) → IsTree (record { width = 5; capacity = capacity; count = 1; words = 0 ∷ 0 ∷ 0 ∷ 0 ∷ 0 ∷ [] }) none_read
unfolding none_read
tree_alone capacity = record {
  width = refl;
  filled = refl;
  root = refl;
  above = λ n some lt. absurd (omega arith);
  sign = λ n some lt. absurd (omega arith);
  named = λ n some lt. absurd (omega arith);
  children = λ n lt. let zero_node : n ≡ 0 = omega arith in rw zero_node
      (record { within = omega arith; child = λ some. absurd (omega arith); later = λ m some below. absurd (omega arith) });
  elders = λ n some lt. absurd (omega arith);
  distinct = λ m n ml nl same. omega arith;
}

numbers_alone : (capacity : ℕ) → IsNumbered (record { width = 5; capacity = capacity; count = 1; words = 0 ∷ 0 ∷ 0 ∷ 0 ∷ 0 ∷ [] })
    none_read []
unfolding none_read
numbers_alone capacity = record {
  numbers = λ n lt. let zero_node : n ≡ 0 = omega arith in rw zero_node refl;
  unknown = λ name other. refl;
}

-- the root alone, where no name is known
pub spells_none : (t : TablesModel) (capacity : ℕ) → nodes_of t ≡ record
    { width = 5; capacity = capacity; count = 1; words = 0 ∷ 0 ∷ 0 ∷ 0 ∷ 0 ∷ [] } → Spells t 0 0 standard_bytes
unfolding none_read
spells_none t capacity is = record {
  names = [];
  word = [];
  here = record {
    tree = none_read;
    knows = record {
      fits = rw is (tree_alone capacity);
      numbered = rw is
          (numbers_alone capacity);
      count = refl;
    };
    named = refl;
  };
  rest = all_standard;
}

standard_at : (t : TablesModel) (known node i byte : ℕ) → i < length standard_bytes → byte ≡ get_or standard_bytes i 0
    → Spells t known node (drop i standard_bytes) → Spells t known node (byte ∷ drop (i + 1) standard_bytes)
standard_at t known node i byte lt is h = subst (λ (l : List ℕ). Spells t known node l)
    (drop_at standard_bytes i lt ∙ ap (λ (b : ℕ). b ∷ drop (i + 1) standard_bytes) (sym is)) h

pub space_at : (t new : TablesModel) (known more node byte number i : ℕ) → byte ≡ 32
    → ((tree : Tree) → (names : List (List ℕ)) → Knows t tree known names → IsNumberOf new tree more names (tree.name node) number)
    → i < length standard_bytes → byte ≡ get_or standard_bytes i 0 → Spells t known node (drop i standard_bytes)
    → Spells new more 0 (drop (i + 1) standard_bytes)
space_at t new known more node byte number i space numbers lt is h = spells_space t new known more node byte number
    (drop (i + 1) standard_bytes) space (standard_at t known node i byte lt is h) numbers

pub letter_at : (t new : TablesModel) (known node next byte i : ℕ) (s : Symbol) → byte ≢ 32
    → s ≡ record { tag = number_of Letter; value = byte; line = 0 }
    → ((tree : Tree) → (k : ℕ) → (names : List (List ℕ)) → Knows t tree k names → IsSign s
    → Names new k names next (tree.name node ++ byte_of s ∷ []))
    → i < length standard_bytes → byte ≡ get_or standard_bytes i 0 → Spells t known node (drop i standard_bytes)
    → Spells new known next (drop (i + 1) standard_bytes)
letter_at t new known node next byte i s other symbol step lt is h =
    spells_letter t new known node next byte (drop (i + 1) standard_bytes) s other (standard_letter i byte lt is other) symbol
    (standard_at t known node i byte lt is h) step

drop_all : (xs : List ℕ) (i : ℕ) → length xs ≤ i → drop i xs ≡ []
drop_all [] zero le = refl
drop_all [] (suc i) le = refl
drop_all (x ∷ xs) zero le = absurd (omega arith)
drop_all (x ∷ xs) (suc i) le = drop_all xs i (omega arith)

-- all are known behind the last byte
pub spells_all : (t : TablesModel) (known node i : ℕ) → length standard_bytes ≤ i → Spells t known node (drop i standard_bytes)
    → Names t known standard_names 0 []
spells_all t known node i le h =
    let none = drop_all standard_bytes i le in
    let same : h.names ≡ standard_names = rw none at h.rest in
    subst (λ (l : List (List ℕ)). Names t known l 0 []) same
    (record { tree = h.here.tree; knows = h.here.knows; named = h.here.knows.fits.root })

one_list : (lists : List TableList) (list : TableList) (entry : List ℕ) → length lists ≡ 0
    → list_at (slice_set (lists ++ list ∷ []) 0 (with_entry (list_at (lists ++ list ∷ []) 0) entry)) 0 ≡ with_entry list entry
one_list [] list entry none = refl
one_list (x ∷ lists) list entry none = absurd (omega arith)

pub planted : (t opened new : TablesModel) (capacity : ℕ) → length t.lists ≡ 0 → opened ≡ with_list t 5 capacity
    → new ≡ with_at opened 0 (with_entry (list_at opened.lists 0) (0 ∷ 0 ∷ 0 ∷ 0 ∷ 0 ∷ [])) → Spells new 0 0 standard_bytes
planted t opened new capacity none first push =
    spells_none new capacity (ap nodes_of push ∙ ap (λ (k : TablesModel). nodes_of
    (with_at k 0 (with_entry (list_at k.lists 0) (0 ∷ 0 ∷ 0 ∷ 0 ∷ 0 ∷ [])))) first
    ∙ one_list t.lists (record { width = 5; capacity = capacity; count = 0; words = [] }) (0 ∷ 0 ∷ 0 ∷ 0 ∷ 0 ∷ []) none)
