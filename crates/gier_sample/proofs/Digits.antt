-- the decimal digits of small numbers
use Rattle.std.proofs.Common.{◌≡◌, ◌+◌, ◌<◌, ◌≤◌, ◌/◌, ◌%◌, ◌++◌, ◌∷◌, [], ℕ, length, ap, ◌∙◌, add_comm, length-append, arith}
use Rattle.std.proofs.lemmas.Fmt.{decimal_step, decimal_digit, length-decimal-le}
use Rattle.std.specs.Fmt.{decimal}

pub decimal_short : (n : ℕ) → n < 10000 → length (decimal n) ≤ 4
decimal_short n small = length-decimal-le 4 n (omega arith) (omega arith) (omega arith)

pub decimal_one : (n : ℕ) → n < 10 → decimal n ≡ (n + 48) ∷ []
decimal_one n small = decimal_digit n small ∙ ap (λ d. d ∷ []) (add_comm 48 n)

pub decimal_more : (n : ℕ) → 10 ≤ n → n < 65536 → decimal n ≡ decimal (n / 10) ++ ((n % 10 + 48) ∷ [])
decimal_more n some small = decimal_step n some (omega arith) ∙ ap (λ d. decimal (n / 10) ++ (d ∷ [])) (add_comm 48 (n % 10))

pub length-decimal_more : (n : ℕ) → 10 ≤ n → n < 65536 → length (decimal n) ≡ length (decimal (n / 10)) + 1
length-decimal_more n some small = ap length (decimal_more n some small) ∙ length-append (decimal (n / 10)) ((n % 10 + 48) ∷ [])
