-- Reading a tape: the bytes read so far have no mark, and stand before those that are left.
use Rattle.std.proofs.Common.{◌≡◌, ◌≢◌, zero-add, ◌<◌, ◌≤◌, ◌+◌, ℕ, suc, false, List, [], ◌∷◌, ◌++◌, length, drop, slice_get, Option, None, Some, Err, All, eqb, arith, refl, ap, sym, ◌∙◌, subst, append_assoc, append-nil, length-append}
use Rattle.std.proofs.lemmas.List.Elements.{All-nil, All-push, All-head, All-tail}
use Rattle.std.proofs.lemmas.Bool.Decides.{nat_tests}
use Rattle.gier_pass1.specs.Program.{longest, program_of, taken_of, GivesByte, GivesEnd, TakesPart, TakesAll, IsCount, IsTooLong, GivesNext, Takes}
use Rattle.gier_pass1.specs.declared.read.ReadStop.{ReadStop}
use Rattle.gier_pass1.specs.declared.read.ReadStop.TheVariants.{TooLong, Read, Pass}

pub record IsAt (tape text rest : List ℕ) : Type 0 where
  pub cut : tape ≡ text ++ rest
  pub plain : All (λ b. b ≢ 35) text

-- where the tape is told: so much of it was read, and so much is left
abbrev pub HasRead : Option (List ℕ) → List ℕ → Option (List ℕ) → Type 0
HasRead None text now = now ≡ None
HasRead (Some tape) text now = (rest : List ℕ) × (now ≡ Some rest) × IsAt tape text rest

pub nothing_read : (old : Option (List ℕ)) → HasRead old [] old
nothing_read None = refl
nothing_read (Some tape) = (tape, refl, record { cut = refl; plain = All-nil _ })

not_mark : (b : ℕ) → b ≢ 35 → eqb b 35 ≡ false
not_mark b ne = grind (arith, nat_tests)

pub program_behind : (text rest : List ℕ) → All (λ b. b ≢ 35) text → program_of (text ++ rest) ≡ text ++ program_of rest
program_behind [] rest plain = refl
program_behind (b ∷ text) rest plain =
    let other : eqb b 35 ≡ false = not_mark b (All-head (λ (c : ℕ). c ≢ 35) b text plain) in
    rw other (ap (λ (l : List ℕ). b ∷ l) (program_behind text rest (All-tail (λ (c : ℕ). c ≢ 35) b text plain)))

drop_behind : (text rest : List ℕ) (n : ℕ) → drop (length text + n) (text ++ rest) ≡ drop n rest
drop_behind [] rest n = ap (λ (k : ℕ). drop k rest) (zero-add n)
drop_behind (b ∷ text) rest n = let e : suc (length text) + n ≡ suc (length text + n) = omega arith in rw e (drop_behind text rest n)

ends_at : (tape text rest : List ℕ) → IsAt tape text rest → program_of rest ≡ [] → length text ≤ longest → (length text ≡ length (program_of tape)) × (Some (drop 1 rest) ≡ Some (drop (taken_of tape) tape))
ends_at tape text rest at none fits =
    let whole : program_of tape ≡ text = ap program_of at.cut ∙ program_behind text rest at.plain ∙ ap (λ (l : List ℕ). text ++ l) none ∙ append-nil text in
    let count : taken_of tape ≡ length text + 1 = omega (arith, ap length whole) in
    (sym (ap length whole), ap Some (sym (ap (λ (n : ℕ). drop n tape) count ∙ ap (drop (length text + 1)) at.cut ∙ drop_behind text rest 1)))

-- the end of the program text comes
pub read_end : (old : Option (List ℕ)) (text : List ℕ) (now new : Option (List ℕ)) → HasRead old text now → GivesEnd now new → length text ≤ longest → IsCount old (length text) × TakesAll old new
read_end None text now new read gives fits = (tt, subst (λ (m : Option (List ℕ)). GivesEnd m new) read gives)
read_end (Some tape) text now new read gives fits =
    let given : GivesEnd (Some read.0) new = subst (λ (m : Option (List ℕ)). GivesEnd m new) read.1 gives in
    let ends = ends_at tape text read.0 read.2 given.0 fits in
    (ends.0, given.1 ∙ ends.1)

longer : (text rest : List ℕ) (b : ℕ) → slice_get rest 0 ≡ Some b → b ≢ 35 → length text < length (text ++ program_of rest)
longer text [] b e ne = absurd (cc)
longer text (c ∷ rest) b e ne =
    let is : c ≡ b = cc in
    let other : eqb c 35 ≡ false = rw is (not_mark b ne) in
    rw other (omega (arith, length-append text (c ∷ program_of rest)))

-- a byte too many comes
pub too_long : (old : Option (List ℕ)) (text : List ℕ) (now new : Option (List ℕ)) (b : ℕ) → HasRead old text now → GivesByte now b new → b ≢ 35 → length text ≡ longest → TakesAll old new × IsTooLong old
too_long None text now new b read gives ne full = (subst (λ (m : Option (List ℕ)). GivesByte m b new) read gives, tt)
too_long (Some tape) text now new b read gives ne full =
    let given : GivesByte (Some read.0) b new = subst (λ (m : Option (List ℕ)). GivesByte m b new) read.1 gives in
    let whole : program_of tape ≡ text ++ program_of read.0 = ap program_of read.2.cut ∙ program_behind text read.0 read.2.plain in
    let more : length text < length (text ++ program_of read.0) = longer text read.0 b given.0 ne in
    let count : taken_of tape ≡ length text + 1 = omega (arith, ap length whole) in
    (given.1 ∙ ap Some (sym (ap (λ (n : ℕ). drop n tape) count ∙ ap (drop (length text + 1)) read.2.cut ∙ drop_behind text read.0 1)), omega (arith, ap length whole))

one_more : (tape text rest : List ℕ) (b : ℕ) → IsAt tape text rest → slice_get rest 0 ≡ Some b → b ≢ 35 → IsAt tape (text ++ b ∷ []) (drop 1 rest)
one_more tape text [] b at e ne = absurd (cc)
one_more tape text (c ∷ rest) b at e ne =
    let is : c ≡ b = cc in
    record {
      cut = at.cut ∙ ap (λ (d : ℕ). text ++ d ∷ rest) is ∙ sym (append_assoc text (b ∷ []) rest);
      plain = All-push (λ (d : ℕ). d ≢ 35) text b at.plain ne;
    }

-- another byte of the text comes
pub read_one : (old : Option (List ℕ)) (text : List ℕ) (now new : Option (List ℕ)) (b : ℕ) → HasRead old text now → GivesByte now b new → b ≢ 35 → HasRead old (text ++ b ∷ []) new
read_one None text now new b read gives ne = subst (λ (m : Option (List ℕ)). GivesByte m b new) read gives
read_one (Some tape) text now new b read gives ne =
    let given : GivesByte (Some read.0) b new = subst (λ (m : Option (List ℕ)). GivesByte m b new) read.1 gives in
    (drop 1 read.0, given.1, one_more tape text read.0 b read.2 given.0 ne)

-- the work stopped before the end of the text
pub read_part : (old : Option (List ℕ)) (text : List ℕ) (now : Option (List ℕ)) → HasRead old text now → length text ≤ longest → TakesPart old now
read_part None text now read fits = read
read_part (Some tape) text now read fits =
    let whole : program_of tape ≡ text ++ program_of read.0 = ap program_of read.2.cut ∙ program_behind text read.0 read.2.plain in
    let left : drop (length text) tape ≡ read.0 = let e : length text + 0 ≡ length text = omega arith in ap (drop (length text)) read.2.cut ∙ ap (λ (n : ℕ). drop n (text ++ read.0)) (sym e) ∙ drop_behind text read.0 0 in
    (length text, omega (arith, ap length whole, length-append text (program_of read.0)), read.1 ∙ ap Some (sym left))

-- all of the text was taken, which is a part of it
pub all_part : (old new : Option (List ℕ)) → TakesAll old new → TakesPart old new
all_part None new taken = taken
all_part (Some tape) new taken = (taken_of tape, omega arith, taken)

-- no next byte was given
pub stopped : (stop : ReadStop) (old : Option (List ℕ)) (text : List ℕ) (now new : Option (List ℕ)) → HasRead old text now → length text ≤ longest → GivesNext now (length text) (Err stop) new → Takes (Err stop) old new
stopped TooLong old text now new read fits given = too_long old text now new given.0.0 read given.0.1 given.0.2 given.1
stopped Read old text now new read fits given = subst (λ (m : Option (List ℕ)). TakesPart old m) (sym given) (read_part old text now read fits)
stopped (Pass stop) old text now new read fits given = absurd given
