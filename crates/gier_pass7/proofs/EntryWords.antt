-- An entry of the stack has twelve small words.
use Rattle.std.proofs.Common.{◌<◌, ◌^◌, ℕ, zero, suc, arith, List, [], ◌∷◌}
use Rattle.std.specs.Prelude.{All}

abbrev IsSmall : ℕ → Type 0
IsSmall word = word < 2 ^ 40

no_words : All IsSmall []
no_words = λ k d below. absurd (omega arith)

more_small : (x : ℕ) (xs : List ℕ) → IsSmall x → All IsSmall xs → All IsSmall (x ∷ xs)
more_small x xs is small zero d below = is
more_small x xs is small (suc k) d below = small k d (omega arith)

pub twelve_small : (a b c d e f g h i j k l : ℕ) → a < 2 ^ 40 → b < 2 ^ 40 → c < 2 ^ 40 → d < 2 ^ 40 → e < 2 ^ 40 → f < 2 ^ 40 → g < 2 ^ 40 → h < 2 ^ 40 → i < 2 ^ 40 → j < 2 ^ 40 → k < 2 ^ 40 → l < 2 ^ 40 → All (λ word. word < 2 ^ 40) (a ∷ b ∷ c ∷ d ∷ e ∷ f ∷ g ∷ h ∷ i ∷ j ∷ k ∷ l ∷ [])
twelve_small a b c d e f g h i j k l pa pb pc pd pe pf pg ph pi pj pk pl =
    more_small a (b ∷ c ∷ d ∷ e ∷ f ∷ g ∷ h ∷ i ∷ j ∷ k ∷ l ∷ []) pa (more_small b (c ∷ d ∷ e ∷ f ∷ g ∷ h ∷ i ∷ j ∷ k ∷ l ∷ []) pb (more_small c (d ∷ e ∷ f ∷ g ∷ h ∷ i ∷ j ∷ k ∷ l ∷ []) pc (more_small d (e ∷ f ∷ g ∷ h ∷ i ∷ j ∷ k ∷ l ∷ []) pd (more_small e (f ∷ g ∷ h ∷ i ∷ j ∷ k ∷ l ∷ []) pe (more_small f (g ∷ h ∷ i ∷ j ∷ k ∷ l ∷ []) pf (more_small g (h ∷ i ∷ j ∷ k ∷ l ∷ []) pg (more_small h (i ∷ j ∷ k ∷ l ∷ []) ph (more_small i (j ∷ k ∷ l ∷ []) pi (more_small j (k ∷ l ∷ []) pj (more_small k (l ∷ []) pk (more_small l ([]) pl no_words)))))))))))
