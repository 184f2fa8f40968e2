-- Programs with lists that are too long, and with lists that are as long as they may be. The faults are those that an independent
-- model lists.
use Rattle.std.specs.Prelude.{◌≡◌, ◌++◌, ◌+◌, ◌/◌, ◌%◌, ℕ, zero, suc, List, [], ◌∷◌, codes, Some}
use Rattle.gier_kinds.specs.Faults.{ListTooLong, WrongActual}
use Rattle.gier_kinds.specs.UseExamples.{fault, faults_in}

-- one number, and so many more, each on a line
abbrev pub ones : (more : ℕ) → List ℕ
ones zero = codes "1\n"
ones (suc n) = codes "1\n, " ++ ones n

-- identifiers of two letters up to the one of this number, each on a line
abbrev pub name : ℕ → List ℕ
name n = (97 + n / 16) ∷ (97 + n % 16) ∷ []

abbrev pub names : (last : ℕ) → List ℕ
names zero = name 0
names (suc n) = names n ++ codes ",\n" ++ name (suc n)

-- a procedure as an actual of a formal procedure and for a formal
abbrev pub called : List ℕ
called = codes "_procedure q(r); _procedure r; r(p); q(p) _end"

-- a call has up to 255 actuals
abbrev pub most_actuals : List ℕ
most_actuals = codes "_begin _procedure p(q); _procedure q; q(\n" ++ ones 254 ++ codes "); outcr _end"

-- the comma before the next one, and none behind it
abbrev pub more_actuals : List ℕ
more_actuals = codes "_begin _procedure p(q); _procedure q; q(\n" ++ ones 254 ++ codes ", 1, 1, 1); outcr _end"

-- that comes before an actual that doesn't fit; the next one has its own fault
abbrev pub more_wrong_actuals : List ℕ
more_wrong_actuals = codes "_begin _procedure p(q); _procedure q; q(\n" ++ ones 254 ++ codes ", outcr\n, outcr); outcr _end"

-- a procedure has up to 255 formals
abbrev pub most_formals : List ℕ
most_formals = codes "_begin _procedure p(" ++ names 254 ++ codes "); _integer " ++ names 254 ++ codes "; outcr; outcr _end"

-- and one more
abbrev pub more_formals : List ℕ
more_formals = codes "_begin _procedure p(" ++ names 255 ++ codes "); _integer " ++ names 255 ++ codes "; outcr; outcr _end"

-- a procedure with up to 80 formals is an actual
abbrev pub formals_of_actual : List ℕ
formals_of_actual = codes "_begin _procedure p(" ++ names 79 ++ codes "); _integer " ++ names 79 ++ codes "; outcr; " ++ called

-- one with more is none, also at the call of a formal procedure
abbrev pub more_formals_of_actual : List ℕ
more_formals_of_actual = codes "_begin _procedure p(" ++ names 80 ++ codes "); _integer " ++ names 80 ++ codes "; outcr; " ++ called

pub record AreLong : Type 0 where
  pub most_actuals_told : faults_in most_actuals ≡ Some ([])
  pub more_actuals_told : faults_in more_actuals ≡ Some (fault ListTooLong 257 ∷ [])
  pub more_wrong_actuals_told : faults_in more_wrong_actuals ≡ Some (fault ListTooLong 257 ∷ fault WrongActual 258 ∷ [])
  pub most_formals_told : faults_in most_formals ≡ Some ([])
  pub more_formals_told : faults_in more_formals ≡ Some (fault ListTooLong 255 ∷ [])
  pub formals_of_actual_told : faults_in formals_of_actual ≡ Some ([])
  pub more_formals_of_actual_told : faults_in more_formals_of_actual ≡ Some (fault WrongActual 161 ∷ fault WrongActual 161 ∷ [])
