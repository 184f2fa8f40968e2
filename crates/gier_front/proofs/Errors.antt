-- The lines of a list of errors, printed one after the other.
use Rattle.std.proofs.Common.{◌≡◌, ◌≤◌, ◌<◌, ◌+◌, ℕ, zero, suc, List, [], ◌∷◌, ◌++◌, Option, length, take, drop, get_or, refl, ap, sym, ◌∙◌, subst, arith, append_assoc, append-nil}
use Rattle.gier_io.specs.Device.{Puts, PutsPart}
use Rattle.gier_text.specs.declared.fault.Fault.{Fault}
use Rattle.gier_front.specs.Printed.{errors_text, fault_line}
use Rattle.gier_io.proofs.Prints.{puts_more, part_more}

-- the lines so far were printed
pub record HasPrinted (faults : List Fault) (at : ℕ) (old now : Option (List ℕ)) (count_old count_now : ℕ) : Type 0 where
  pub put : Puts old (errors_text (take at faults)) now
  pub later : count_old ≤ count_now

pub take_more : (faults : List Fault) (at : ℕ) (d : Fault) → at < length faults → errors_text (take (suc at) faults) ≡ errors_text (take at faults) ++ fault_line (get_or faults at d)
take_more [] at d lt = absurd (omega arith)
take_more (f ∷ faults) zero d lt = append-nil (fault_line f)
take_more (f ∷ faults) (suc at) d lt = ap (λ (l : List ℕ). fault_line f ++ l) (take_more faults at d (omega arith)) ∙ sym (append_assoc (fault_line f) (errors_text (take at faults)) (fault_line (get_or faults at d)))

split_all : (faults : List Fault) (at : ℕ) (d : Fault) → at < length faults → errors_text faults ≡ errors_text (take at faults) ++ (fault_line (get_or faults at d) ++ errors_text (drop (suc at) faults))
split_all [] at d lt = absurd (omega arith)
split_all (f ∷ faults) zero d lt = refl
split_all (f ∷ faults) (suc at) d lt = ap (λ (l : List ℕ). fault_line f ++ l) (split_all faults at d (omega arith)) ∙ sym (append_assoc (fault_line f) (errors_text (take at faults)) _)

pub part_of_all : (faults : List Fault) (at : ℕ) (d : Fault) (a b c : Option (List ℕ)) → at < length faults → Puts a (errors_text (take at faults)) b → PutsPart b (fault_line (get_or faults at d)) c → PutsPart a (errors_text faults) c
part_of_all faults at d a b c lt put part = rw (split_all faults at d lt) (part_more a b c (errors_text (take at faults)) (fault_line (get_or faults at d)) (errors_text (drop (suc at) faults)) put part)
