-- How the pass goes on standing when what waits is written.
use Rattle.std.proofs.Common.{◌≡◌, ◌+◌, ℕ, arith, length, length-append, List, [], ◌++◌}
use Rattle.std.specs.Prelude.{All}
use Rattle.std.proofs.lemmas.List.Elements.{All-append}
use Rattle.std.proofs.lemmas.List.{append-nil}
use Rattle.gier_symbol.specs.declared.symbol.Symbol.{Symbol}
use Rattle.gier_text.specs.TablesModel.{TablesModel}
use Rattle.gier_text.specs.Potential.{IsShort}
use Rattle.gier_pass7.specs.declared.pass.Pass7.{Pass7}
use Rattle.gier_pass7.specs.StateInvariants.{PreservesTables}
use Rattle.gier_pass7.specs.SendProgress.{IsLetter}
use Rattle.gier_pass7.specs.Invariant.{PassInvariant}

pub stands_more : (pass new : Pass7) (t u v : TablesModel) (read more written list : List Symbol) → PassInvariant pass t read written → PreservesTables pass.work.bytes t new.work.bytes u → PreservesTables new.work.bytes u new.work.bytes v → new.left + length list ≡ pass.left → All IsLetter list → PassInvariant new v (read ++ more) (written ++ list)
stands_more pass new t u v read more written list h goes sent spent letters = record {
  lists = sent.lists;
  spent = rw goes.same (omega (arith, h.spent, spent, length-append written list));
  letters = All-append IsLetter written list h.letters letters;
}

-- nothing is written while something may still change
pub stands_waiting : (pass new : Pass7) (t u : TablesModel) (read more written : List Symbol) → PassInvariant pass t read written → PreservesTables pass.work.bytes t new.work.bytes u → new.left ≡ pass.left → PassInvariant new u (read ++ more) (written ++ [])
stands_waiting pass new t u read more written h goes left = rw (append-nil written) (record {
  lists = goes.lists;
  spent = rw goes.same (omega (arith, left, h.spent));
  letters = h.letters;
})

pub relates_end : (pass : Pass7) (bytes left : ℕ) (t : TablesModel) (read written list : List Symbol) → bytes ≡ pass.work.bytes → PassInvariant pass t read written → left + length list ≡ pass.left → All IsLetter list → IsShort 7 bytes (written ++ list)
relates_end pass bytes left t read written list is h spent letters = record {
  letters = All-append IsLetter written list h.letters letters;
  short = rw is (omega (arith, h.spent, spent, length-append written list));
}
