-- Passes each of which reads all of its text before it writes: one of the ways in which their entries may be mixed.
use Rattle.std.proofs.Common.{◌++◌, ◌∷◌, ℕ, zero, suc, List, [], inl, inr, refl}
use Rattle.gier_drum.specs.declared.drum.Entry.{Entry}
use Rattle.gier_job.specs.Journal.{Work, AreMixed, AreWorks}

abbrev pub in_turn : List Work → List Entry
in_turn [] = []
in_turn (work ∷ works) = (work.reads ++ work.writes) ++ in_turn works

written : (writes : List Entry) → AreMixed [] writes writes
written [] = (refl, refl)
written (entry ∷ writes) = inr (writes, refl, written writes)

read_first : (reads writes : List Entry) → AreMixed reads writes (reads ++ writes)
read_first [] writes = written writes
read_first (entry ∷ reads) writes = inl (reads, refl, read_first reads writes)

pub works_in_turn : (works : List Work) → AreWorks works (in_turn works)
works_in_turn [] = refl
works_in_turn (work ∷ works) =
    (work.reads ++ work.writes, in_turn works, refl, read_first work.reads work.writes, works_in_turn works)

abbrev pub equal_lengths : (count symbols : ℕ) → List ℕ
equal_lengths zero symbols = []
equal_lengths (suc count) symbols = symbols ∷ equal_lengths count symbols
