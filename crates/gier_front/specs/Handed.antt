-- Why each pass is meant for what the one before it writes. The laws of `PassContract` cite these proofs, and a law may cite
-- specs alone.
use Rattle.std.specs.Prelude.{◌≡◌, ◌≤◌, ◌<◌, ◌+◌, ◌-◌, ◌*◌, ◌++◌, ℕ, List, [], ◌∷◌, length, reverse, All, IsTrue, slice_index_or}
use Rattle.std.proofs.Common.{arith, sym, subst, ◌∙◌, refl, length-append}
use Rattle.std.proofs.lemmas.List.{length-reverse, reverse-append, get_or-reverse}
use Rattle.gier_symbol.specs.declared.symbol.Symbol.{Symbol}
use Rattle.gier_symbol.specs.Texts.{stands_in}
use Rattle.gier_text.specs.TablesModel.{TablesModel}
use Rattle.gier_text.specs.Potential.{is_numbered, potential, potential_of, IsWithinPotential}
use Rattle.gier_pass2.specs.declared.pass.Pass2.{Pass2}
use Rattle.gier_pass2.specs.Letters.{IsWritable}
use Rattle.gier_pass2.specs.Invariant.{IsTextOne, Relates}
use Rattle.gier_pass3.specs.Invariant.{IsTextTwo as IsMeantForThree}
use Rattle.gier_pass5.specs.declared.pass.Pass5.{Pass5}
use Rattle.gier_pass5.specs.Invariant.{Relates as RelatesFive}
use Rattle.gier_front.specs.Passes.{IsTextTwo}

-- what assembling writes over text 1
pub assembled : (pass : Pass2) (t : TablesModel) (list written : List Symbol) → IsTextOne pass.bytes list
    → Relates pass t list written → IsTextTwo pass.bytes written
assembled pass t list written h relates = record {
  letters = λ k d lt. (relates.letters k d lt).letter;
  numbered = λ k d lt. (relates.letters k d lt).numbered;
  few = Prim.omega (arith, h.few, relates.few);
}

pub meant_for : (bytes : ℕ) (list : List Symbol) → IsTextTwo bytes list → IsMeantForThree bytes list
meant_for bytes list h = record { letters = h.letters; numbered = h.numbered; few = h.few }

-- what holds of all symbols holds of them backward
all_back : (P : Symbol → Type 0) (list : List Symbol) → All P list → All P (reverse list)
all_back P list h = λ k d lt.
    let within : k < length list = Prim.omega (arith, lt, length-reverse list) in
    subst P (sym (get_or-reverse list k d within)) (h (length list - 1 - k) d (Prim.omega (arith, within)))

weight_both : (text : ℕ) (xs ys : List Symbol) → potential text (xs ++ ys) ≡ potential text xs + potential text ys
weight_both text [] ys = Prim.omega arith
weight_both text (x ∷ xs) ys = Prim.omega (arith, weight_both text xs ys)

weight_back : (text : ℕ) (list : List Symbol) → potential text (reverse list) ≡ potential text list
weight_back text [] = refl
weight_back text (s ∷ list) =
    let more : reverse (s ∷ list) ≡ reverse list ++ s ∷ [] = reverse-append (s ∷ []) list in
    rw more (Prim.omega (arith, weight_both text (reverse list) (s ∷ []), weight_back text list))

-- a text that isn't too heavy isn't so backward
pub light_back : (text bytes : ℕ) (list : List Symbol) → IsWithinPotential text bytes list
    → IsWithinPotential text bytes (reverse list)
light_back text bytes list h = record {
  letters = all_back (λ s. IsTrue (stands_in text s.tag)) list h.letters;
  numbered = all_back (λ s. IsTrue (is_numbered text bytes s)) list h.numbered;
  light = Prim.omega (arith, h.light, weight_back text list);
}

-- what distributing writes over text 4
pub scoped : (pass : Pass5) (list written : List Symbol) → IsWithinPotential 4 pass.bytes list
    → RelatesFive pass (reverse list) written → IsWithinPotential 5 pass.bytes written
scoped pass list written h relates = record {
  letters = λ k d lt. (relates.letters k d lt).letter;
  numbered = relates.numbered (all_back (λ s. IsTrue (is_numbered 4 pass.bytes s)) list h.numbered);
  light = Prim.omega (arith, h.light, relates.light, weight_back 4 list);
}
