-- How the pass goes on standing when one more symbol was taken.
use Rattle.std.proofs.Common.{◌≡◌, ◌<◌, ◌≤◌, ◌+◌, ◌*◌, arith, length, length-append, reverse, List, [], ◌∷◌, ◌++◌, Option, None, Some}
use Rattle.std.specs.Prelude.{All, IfSome, IsTrue}
use Rattle.std.proofs.lemmas.List.{reverse-append}
use Rattle.std.proofs.lemmas.List.Elements.{All-append}
use Rattle.gier_symbol.specs.declared.symbol.Symbol.{Symbol}
use Rattle.gier_symbol.specs.Texts.{stands_in}
use Rattle.gier_text.specs.TablesModel.{TablesModel}
use Rattle.gier_text.specs.Outbox.{if_any}
use Rattle.gier_pass8.specs.declared.pass.Pass8.{Pass8}
use Rattle.gier_pass8.specs.Lists.{HasLists, IsWritable}
use Rattle.gier_pass8.specs.Invariant.{PassInvariant, Relates}
use Rattle.gier_pass8.proofs.FromTheEndSteps.{IsTaken, settles_more}
use Rattle.gier_pass8.proofs.Text8.{writes_text8}

-- one symbol at most, a letter of text 8
abbrev is_letter : Symbol → Type 0
is_letter s = IsTrue (stands_in 8 s.tag)

any_letters : (o : Option Symbol) → IfSome o IsWritable → All is_letter (if_any o)
any_letters None h = λ k d below. absurd (omega arith)
any_letters (Some s) h = λ k d below. let first : k ≡ 0 = omega arith in rw first h.letter

any_few : (o : Option Symbol) → length (if_any o) ≤ 1
any_few None = omega arith
any_few (Some s) = omega arith

pub stands_more : (pass new : Pass8) (t u : TablesModel) (read written : List Symbol) (s : Symbol) (o : Option Symbol) → PassInvariant pass t read written
    → pass.taken < 24 * pass.work.bytes + 64 → new.taken ≡ pass.taken + 1 → new.work.bytes ≡ pass.work.bytes
    → HasLists pass.work.bytes u → IfSome o IsWritable → IsTaken (20 * pass.work.bytes + 64) s pass.work.place new.work.place t u o
    → PassInvariant new u (read ++ s ∷ []) (written ++ if_any o)
stands_more pass new t u read written s o h fits taken same lists letter step = record {
  lists = rw same lists;
  taken = omega (arith, taken, h.taken, length-append read (s ∷ []));
  within = rw same (omega (arith, taken, fits));
  spent = omega (arith, taken, h.spent, any_few o, length-append written (if_any o));
  letters = All-append is_letter written (if_any o) h.letters (any_letters o letter);
  settles = rw (same, reverse-append read (s ∷ []))
      (settles_more pass.work.bytes pass.work.place new.work.place s t u (reverse read) written o h.lists.width step h.settles);
}

pub relates : (pass : Pass8) (t : TablesModel) (read written : List Symbol) → PassInvariant pass t read written → Relates pass.work.bytes read written
relates pass t read written h = record {
  short = record { letters = h.letters; short = omega (arith, h.spent, h.within) };
  exact = writes_text8 pass.work.bytes pass.work.place t read written h.settles;
}
