-- The run that is read, with one symbol more, and the one that a symbol begins.
use Rattle.std.proofs.Common.{◌≡◌, ◌<◌, ◌≤◌, ◌+◌, ◌*◌, ◌^◌, ◌∙◌, ℕ, List, [], ◌∷◌, ◌++◌, refl, sym, ap, subst, arith, Bool, true, false, min}
use Rattle.std.specs.Prelude.{map, ◌&&◌}
use Rattle.std.specs.List.{list_all}
use Rattle.std.proofs.lemmas.Bool.Decides.{nat_tests}
use Rattle.gier_symbol.specs.declared.symbol.Symbol.{Symbol}
use Rattle.gier_symbol.specs.declared.tag.Tag.TheVariants.{Letter, Digit}
use Rattle.gier_symbol.specs.Assembly.{Lexeme as RunOf, is, is_letter_or_digit, byte_of, decimal}
use Rattle.gier_symbol.specs.Bytes.{is_letter}
use Rattle.gier_text.specs.declared.fault.Fault.{Fault}
use Rattle.gier_text.specs.TablesModel.{TablesModel}
use Rattle.gier_pass2.specs.declared.runs.Lexeme.{Lexeme}
use Rattle.gier_pass2.specs.declared.runs.Lexeme.TheVariants.{Nothing, Name, Number}
use Rattle.gier_pass2.specs.Reading.{IsReading, IsName, HasFaultsOf, HasBegun, begin_of, begun_by, names_of}
use Rattle.gier_pass2.specs.Lexemes.{goes_on}
use Rattle.gier_pass2.specs.Spelled.{IsSpelled, IsSign}
use Rattle.gier_pass2.specs.Tree.{Tree, Knows, Names}
use Rattle.gier_pass2.proofs.TreeGrowth.{letter_byte, digit_byte}

map_more : (xs : List Symbol) (s : Symbol) → map byte_of (xs ++ s ∷ []) ≡ map byte_of xs ++ byte_of s ∷ []
map_more [] s = refl
map_more (x ∷ xs) s = ap (λ (l : List ℕ). byte_of x ∷ l) (map_more xs s)

and_true : (b : Bool) → (b && true) ≡ (true && b)
and_true true = refl
and_true false = refl

and_shift : (a b c : Bool) → (a && (b && c)) ≡ (a && b && c)
and_shift true b c = refl
and_shift false b c = refl

all_more : {A : Type 0} (p : A → Bool) (xs : List A) (s : A) → list_all p (xs ++ s ∷ []) ≡ (list_all p xs && p s)
all_more p [] s = and_true (p s)
all_more p (x ∷ xs) s = rw (all_more p xs s) (and_shift (p x) (list_all p xs) (p s))

decimal_more : (before : ℕ) (xs : List Symbol) (s : Symbol) → decimal before (xs ++ s ∷ []) ≡ decimal before xs * 10 + s.value
decimal_more before [] s = refl
decimal_more before (x ∷ xs) s = decimal_more (before * 10 + x.value) xs s

no_sign : (b : Bool) (P : Type 0) → b ≡ false → b ≡ true → P
no_sign b P h k = cc

-- a letter or digit is a letter where its byte is one
digit_no_letter : (n : ℕ) → n < 10 → is_letter (48 + n) ≡ false
digit_no_letter n lt = grind (arith, nat_tests)

letter_by : (letter digit : Bool) (s : Symbol) → is Letter s ≡ letter → is Digit s ≡ digit → IsSign s → is_letter (byte_of s) ≡ is Letter s
letter_by true digit s h k sign = rw (letter_byte s h, sign.spelled.letter h) (sym h)
letter_by false true s h k sign = rw (digit_byte s k, digit_no_letter s.value (sign.spelled.digit k)) (sym h)
letter_by false false s h k sign = let none : is_letter_or_digit s ≡ false = rw (h, k) refl in no_sign
    (is_letter_or_digit s) _ none sign.kind

pub letter_is : (s : Symbol) → IsSign s → is_letter (byte_of s) ≡ is Letter s
letter_is s h = letter_by (is Letter s) (is Digit s) s refl refl h

-- the faults stand before what comes later, too
later_faults : (faults : List Fault) (done : List RunOf) (old new : Lexeme) (read : ℕ) → begin_of old read ≤ begin_of new (read + 1)
    → HasBegun new (read + 1) → HasFaultsOf faults done old read → HasFaultsOf faults done new (read + 1)
later_faults faults done old new read le begun h = record {
  same = h.same;
  before = λ k d lt. omega (arith, h.before k d lt);
  begun = begun;
}

pub name_on : (tree more : Tree) (node next line : ℕ) (plain : Bool) (pending : List Symbol) (s : Symbol) → IsSign s
    → IsName tree node line plain pending → more.name next ≡ tree.name node ++ byte_of s ∷ []
    → IsName more next line (plain && is Letter s) (pending ++ s ∷ [])
name_on tree more node next line plain pending s sign h named = record {
  first = h.first;
  more = h.more ++ s ∷ [];
  symbols = rw h.symbols refl;
  letter = h.letter;
  signs = all_more is_letter_or_digit h.more s ∙ rw (h.signs, sign.kind) refl;
  name = named ∙ rw h.name (sym (map_more pending s));
  line = h.line;
  plain = ap (list_all is_letter) (map_more pending s) ∙ all_more is_letter (map byte_of pending) (byte_of s) ∙ rw
      (h.plain, letter_is s sign) refl;
}

pub reads_name : (t new : TablesModel) (known node next line read : ℕ) (plain : Bool) (done : List RunOf) (pending : List Symbol) (s : Symbol)
    → new.faults ≡ t.faults → IsSign s
    → ((tree : Tree) → (k : ℕ) → (names : List (List ℕ)) → Knows t tree k names → IsSign s
    → Names new k names next (tree.name node ++ byte_of s ∷ []))
    → IsReading t known (Name node line plain) read done pending
    → IsReading new known (Name next line (plain && is Letter s)) (read + 1) done (pending ++ s ∷ [])
reads_name t new known node next line read plain done pending s same sign step h =
    let given = step h.tree known (names_of done) h.knows sign in
    record {
      tree = given.tree;
      knows = given.knows;
      run = name_on h.tree given.tree node next line plain pending s sign h.run given.named;
      faults = rw same (later_faults t.faults done (Name node line plain) (Name next line (plain && is Letter s)) read
          (omega arith) tt h.faults);
    }

min_more : (total digit : ℕ) → min (10 * min total (2 ^ 39) + digit) (2 ^ 39) ≡ min (total * 10 + digit) (2 ^ 39)
min_more total digit = omega arith

pub reads_number : (t : TablesModel) (known value line position read : ℕ) (done : List RunOf) (pending : List Symbol) (s : Symbol)
    → is Digit s ≡ true
    → IsReading t known (Number value line position) read done pending
    → IsReading t known (Number (min (10 * value + s.value) (2 ^ 39)) line position) (read + 1) done (pending ++ s ∷ [])
reads_number t known value line position read done pending s digit h = record {
  tree = h.tree;
  knows = h.knows;
  run = record {
    first = h.run.first;
    more = h.run.more ++ s ∷ [];
    symbols = rw h.run.symbols refl;
    digit = h.run.digit;
    digits = all_more (is Digit) h.run.more s ∙ rw (h.run.digits, digit) refl;
    value = rw h.run.value (min_more (decimal 0 pending) s.value ∙ ap (λ (n : ℕ). min n (2 ^ 39)) (sym (decimal_more 0 pending s)));
    line = h.run.line;
  };
  faults = later_faults t.faults done (Number value line position) (Number (min (10 * value + s.value) (2 ^ 39)) line position) read
      (omega arith) (omega (arith, h.faults.begun)) h.faults;
}

pub begins_name : (t new : TablesModel) (known node read : ℕ) (done : List RunOf) (s : Symbol) → new.faults ≡ t.faults → is Letter s ≡ true
    → IsSpelled s
    → ((tree : Tree) → (k : ℕ) → (names : List (List ℕ)) → Knows t tree k names → IsSign s → Names new k names node (byte_of s ∷ []))
    → IsReading t known Nothing read done [] → IsReading new known (Name node s.line true) (read + 1) done (begun_by s)
begins_name t new known node read done s same letter spelled step h =
    let kind : is_letter_or_digit s ≡ true = rw letter refl in
    let sign : IsSign s = record { kind = kind; spelled = spelled } in
    let given = step h.tree known (names_of done) h.knows sign in
    rw kind (record {
      tree = given.tree;
      knows = given.knows;
      run = record {
        first = s;
        more = [];
        symbols = refl;
        letter = letter;
        signs = refl;
        name = given.named;
        line = refl;
        plain = rw (letter_is s sign, letter) refl;
      };
      faults = rw same (later_faults t.faults done Nothing (Name node s.line true) read (omega arith) tt h.faults);
    })

pub begins_number : (t : TablesModel) (known read value : ℕ) (done : List RunOf) (s : Symbol) → is Digit s ≡ true
    → value ≡ min (10 * 0 + s.value) (2 ^ 39) → IsReading t known Nothing read done []
    → IsReading t known (Number value s.line read) (read + 1) done (begun_by s)
begins_number t known read value done s digit is h =
    let kind : is_letter_or_digit s ≡ true = grind (arith, nat_tests) in
    let total : value ≡ min (decimal 0 (s ∷ [])) (2 ^ 39) = is ∙ (omega arith) in
    rw kind (record {
      tree = h.tree;
      knows = h.knows;
      run = record { first = s; more = []; symbols = refl; digit = digit; digits = refl; value = total; line = refl };
      faults = later_faults t.faults done Nothing (Number value s.line read) read (omega arith) (omega arith) h.faults;
    })

pub begins_nothing : (t : TablesModel) (known read : ℕ) (done : List RunOf) (s : Symbol) → is Letter s ≡ false → is Digit s ≡ false
    → IsReading t known Nothing read done [] → IsReading t known Nothing (read + 1) done (begun_by s)
begins_nothing t known read done s letter digit h =
    let kind : is_letter_or_digit s ≡ false = rw (letter, digit) refl in
    rw kind (record {
      tree = h.tree;
      knows = h.knows;
      run = refl;
      faults = later_faults t.faults done Nothing Nothing read (omega arith) tt h.faults;
    })

-- the same of a run that is known by its kind
pub grown_name : (t new : TablesModel) (current : Lexeme) (known node next line read : ℕ) (plain now : Bool) (done : List RunOf)
    (pending : List Symbol) (s : Symbol) → current ≡ Name node line plain → goes_on current s ≡ true → now ≡
    (plain && is Letter s) → new.faults ≡ t.faults → IsSpelled s
    → ((tree : Tree) → (k : ℕ) → (names : List (List ℕ)) → Knows t tree k names → IsSign s
    → Names new k names next (tree.name node ++ byte_of s ∷ []))
    → IsReading t known current read done pending → IsReading new known (Name next line now) (read + 1) done (pending ++ s ∷ [])
grown_name t new current known node next line read plain now done pending s is on plain_is same spelled step h =
    let sign : IsSign s = record { kind = rw is at on; spelled = spelled } in
    rw plain_is (reads_name t new known node next line read plain done pending s same sign step
    (subst (λ (r : Lexeme). IsReading t known r read done pending) is h))

pub grown_number : (t : TablesModel) (current : Lexeme) (known value line position read total : ℕ) (done : List RunOf) (pending : List Symbol)
    (s : Symbol) → current ≡ Number value line position → goes_on current s ≡ true → total ≡ min (10 * value + s.value) (2 ^ 39)
    → IsReading t known current read done pending → IsReading t known (Number total line position) (read + 1) done (pending ++ s ∷ [])
grown_number t current known value line position read total done pending s is on total_is h =
    rw total_is (reads_number t known value line position read done pending s (rw is at on)
    (subst (λ (r : Lexeme). IsReading t known r read done pending) is h))
