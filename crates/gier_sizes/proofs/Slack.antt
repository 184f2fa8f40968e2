-- Two lists of symbols side by side: what is marked, and what is written. Each written symbol pays for itself and two marks; what is
-- not spent is slack, for marks before it. One symbol is always left over, for the mark before the whole.
use Rattle.std.proofs.Common.{◌≤◌, ◌+◌, ◌*◌, ℕ, suc, List, ◌∷◌, length, arith}
use Rattle.gier_symbol.specs.declared.symbol.Symbol.{Symbol}
use Rattle.gier_sizes.specs.Text3.{growth_of_text3}

pub record Fits (slack : ℕ) (marked written : List Symbol) : Type 0 where
  pub few : length marked + 1 ≤ growth_of_text3 * length written + slack

-- a symbol that pays for two marks behind it
pub pays : {k : ℕ} {xs ys : List Symbol} {a b : Symbol} → Fits (suc (suc k)) xs ys → Fits k (a ∷ xs) (b ∷ ys)
pays h = record { few = omega (arith, h.few) }

-- one that pays for a mark before it, and one behind it
pub pays_before : {k : ℕ} {xs ys : List Symbol} {m a b : Symbol} → Fits (suc k) xs ys → Fits k (m ∷ a ∷ xs) (b ∷ ys)
pays_before h = record { few = omega (arith, h.few) }

-- one that pays for two symbols before it
pub pays_both : {k : ℕ} {xs ys : List Symbol} {m n a b : Symbol} → Fits k xs ys → Fits k (m ∷ n ∷ a ∷ xs) (b ∷ ys)
pays_both h = record { few = omega (arith, h.few) }

-- one that pays for none
pub plain : {k : ℕ} {xs ys : List Symbol} {a b : Symbol} → Fits k xs ys → Fits k (a ∷ xs) (b ∷ ys)
plain h = record { few = omega (arith, h.few) }

-- a mark that is paid for
pub mark : {k : ℕ} {xs ys : List Symbol} {m : Symbol} → Fits k xs ys → Fits (suc k) (m ∷ xs) ys
mark h = record { few = omega (arith, h.few) }

-- slack that isn't needed
pub keep : {k : ℕ} {xs ys : List Symbol} → Fits k xs ys → Fits (suc k) xs ys
keep h = record { few = omega (arith, h.few) }
