-- How long the texts of the front become. A symbol weighs what it can come to in all later texts up to the sixth, so no pass adds
-- weight, and a text of a program of so many bytes has at most eight times as many symbols and 64 more. The texts behind it have at
-- most 24 times as many and 64 more.
use Rattle.std.specs.Prelude.{◌≤◌, ◌+◌, ◌*◌, ◌^◌, ◌==◌, ◌&&◌, ◌||◌, ℕ, Bool, not, nat_le, nat_lt, if◌then◌else◌, List, [], ◌∷◌}
use Rattle.std.specs.Prelude.{All, IsTrue, length}
use Rattle.gier_symbol.specs.declared.symbol.Symbol.{Symbol}
use Rattle.gier_symbol.specs.declared.tag.Tag.TheVariants.{Identifier, TextEnd, Declaring, Formal, Specified, Entry, Used}
use Rattle.gier_symbol.specs.Texts.{stands_in, is_from, is_tag_of}

-- what one symbol of a text weighs:
-- of text 2 eight, since it has at most three pairs of marks, or is declared;
-- of text 3 a declared identifier has its own symbol, an entry, a description and a count, and where it is own two more;
-- a formal has an entry and two descriptions; the end may become a block around the program;
-- a used identifier becomes a description, a place and a count in text 5, and the end of a call in text 6
abbrev pub potential_of : ℕ → ℕ → ℕ
potential_of text tag =
    if text == 2 then 8
    else (if text == 3 then (if is_tag_of Declaring tag then 6
    else (if is_tag_of TextEnd tag then 5 else (if is_tag_of Identifier tag || is_tag_of Formal tag then 4 else 1)))
    else (if text == 4 then (if is_tag_of Identifier tag then 4 else 1)
    else (if text == 5 then (if is_tag_of Used tag then 2 else 1)
    else 1)))

abbrev pub potential : ℕ → List Symbol → ℕ
potential text [] = 0
potential text (s ∷ list) = potential_of text s.tag + potential text list

-- the value of these is the number of an identifier
abbrev pub is_name : ℕ → Bool
is_name tag = is_tag_of Identifier tag || is_from Declaring Specified tag || is_tag_of Entry tag

-- identifiers of the program and standard ones are numbered from 0; from text 4 on own quantities have numbers from 2^32 on
abbrev pub is_number_in : ℕ → ℕ → ℕ → Bool
is_number_in text bytes n = nat_lt n (bytes + 64) || (nat_le 4 text && nat_le (2 ^ 32) n && nat_lt n (2 ^ 32 + bytes + 1))

abbrev pub is_numbered : ℕ → ℕ → Symbol → Bool
is_numbered text bytes s = not (is_name s.tag) || is_number_in text bytes s.value

-- letters of this text, which together aren't too heavy, with small numbers of identifiers
pub record IsWithinPotential (text bytes : ℕ) (list : List Symbol) : Type 0 where
  pub letters : All (λ s. IsTrue (stands_in text s.tag)) list
  pub numbered : All (λ s. IsTrue (is_numbered text bytes s)) list
  pub light : potential text list ≤ 8 * bytes + 64

-- letters of this text, and no more than a program of so many bytes has
pub record IsShort (text bytes : ℕ) (list : List Symbol) : Type 0 where
  pub letters : All (λ s. IsTrue (stands_in text s.tag)) list
  pub short : length list ≤ 24 * bytes + 64
