-- How fields and tables stay ready while a symbol is taken.
use Rattle.std.proofs.Common.{◌≡◌, ◌≤◌, ◌<◌, ◌+◌, ◌*◌, ◌∙◌, ◌++◌, ◌∷◌, ℕ, List, [], arith, ap, refl, set, length}
use Rattle.std.specs.Prelude.{IsTrue}
use Rattle.std.proofs.lemmas.List.{append-nil, get_or-set_other, get_or-set_same, length-set}
use Rattle.std.proofs.lemmas.List.Elements.{All-append}
use Rattle.gier_symbol.specs.declared.symbol.Symbol.{Symbol}
use Rattle.gier_text.specs.View.{View}
use Rattle.gier_text.specs.Passes.{HasLess}
use Rattle.gier_text.specs.TablesModel.{TablesModel, with_at}
use Rattle.gier_text.specs.Lists.{TableList, list_at, no_list, cut_to}
use Rattle.gier_text.specs.Outbox.{outbox_symbols, outbox_symbols_until}
use Rattle.gier_pass5.specs.declared.pass.Pass5.{Pass5}
use Rattle.gier_pass5.specs.Faults.{Judges}
use Rattle.gier_pass5.specs.Lists.{Emits, out_of}
use Rattle.gier_pass5.specs.Invariant.{StateInvariant, TakingInvariant, PassInvariant, Relates}
use Rattle.gier_pass5.specs.Letters.{IsWritable}
use Rattle.gier_text.specs.Potential.{potential_of, is_numbered, IsWithinPotential}
use Rattle.gier_pass5.proofs.Weights.{weight_append, each_weighs, all_left, all_last}
use Rattle.gier_pass5.specs.Steps.{Takes, Steps}

pub nothing_waits : (list : TableList) → list.count ≡ 0 → outbox_symbols list ≡ []
nothing_waits list h = ap (outbox_symbols_until list) h

pub emitted_ready : (pass : Pass5) (t u v : TablesModel) (symbols : List Symbol) → TakingInvariant pass t → Judges pass.bytes t u → Emits u symbols v → StateInvariant pass v
emitted_ready pass t u v symbols h j e = record {
  lists = e.lists;
  out_room = e.out_room ∙ ap (λ (l : TableList). l.capacity) j.fits.out ∙ h.ready.out_room;
  entry_room = e.entry_room ∙ j.fits.entry_room ∙ h.ready.entry_room;
  scope_room = e.scope_room ∙ j.fits.scope_room ∙ h.ready.scope_room;
  rows = e.rows ∙ j.fits.rows ∙ h.ready.rows;
  entries = omega (arith, e.entries, j.entries, h.ready.entries);
  scopes = omega (arith, e.scopes, j.scopes, h.ready.scopes);
  within = h.ready.within;
  faults = rw e.faults (j.faults h.ready.faults);
  limit = omega (arith, e.limit, j.fits.limit, h.ready.limit);
  small = omega (arith, e.limit, j.fits.limit, h.ready.small);
  entry = h.ready.entry;
}

pub takes_emitted : (pass : Pass5) (t u v : TablesModel) (symbols : List Symbol) → TakingInvariant pass t → (out_of t).count ≡ 0 → Judges pass.bytes t u → Emits u symbols v → Takes pass t pass v symbols
takes_emitted pass t u v symbols h empty j e = record {
  ready = emitted_ready pass t u v symbols h j e;
  limit = e.limit ∙ j.fits.limit;
  waits = e.waits ∙ ap (λ (xs : List Symbol). xs ++ symbols) (ap outbox_symbols j.fits.out ∙ nothing_waits (out_of t) empty);
  bytes = refl;
  taken = refl;
}

-- when all is written, the list of what waits is empty, and the others are as they were
abbrev pub flushed : TablesModel → TablesModel
flushed u = with_at u 0 (cut_to (out_of u) 0)

behind_first : (lists : List TableList) (list : TableList) (k : ℕ) → list_at (set lists 0 list) (k + 1) ≡ list_at lists (k + 1)
behind_first lists list k = get_or-set_other lists 0 (k + 1) list no_list (λ h. absurd (omega (arith, h)))

first_flushed : (u : TablesModel) → 0 < length u.lists → out_of (flushed u) ≡ cut_to (out_of u) 0
first_flushed u some = get_or-set_same u.lists 0 (cut_to (out_of u) 0) no_list some

pub flushed_ready : (pass : Pass5) (u : TablesModel) → StateInvariant pass u → StateInvariant pass (flushed u)
flushed_ready pass u h =
    let some : 0 < length u.lists = omega (arith, h.lists.lists) in
    let first = first_flushed u some in
    let second = behind_first u.lists (cut_to (out_of u) 0) 0 in
    let third = behind_first u.lists (cut_to (out_of u) 0) 1 in
    let fourth = behind_first u.lists (cut_to (out_of u) 0) 2 in
    let count : TableList → ℕ = λ l. l.count in
    let capacity : TableList → ℕ = λ l. l.capacity in
    let width : TableList → ℕ = λ l. l.width in
    record {
      lists = record {
        lists = length-set u.lists 0 (cut_to (out_of u) 0) ∙ h.lists.lists;
        out_width = ap width first ∙ h.lists.out_width;
        entry_width = ap width second ∙ h.lists.entry_width;
        scope_width = ap width third ∙ h.lists.scope_width;
        row_width = ap width fourth ∙ h.lists.row_width;
        outermost = rw (ap count third) h.lists.outermost;
      };
      out_room = ap capacity first ∙ h.out_room;
      entry_room = ap capacity second ∙ h.entry_room;
      scope_room = ap capacity third ∙ h.scope_room;
      rows = ap count fourth ∙ h.rows;
      entries = omega (arith, ap count second, h.entries);
      scopes = omega (arith, ap count third, h.scopes);
      within = h.within;
      faults = h.faults;
      limit = h.limit;
      small = h.small;
      entry = h.entry;
    }

pub stands_more : (pass new : Pass5) (t u v : TablesModel) (read written : List Symbol) (s : Symbol) → PassInvariant pass t read written → Steps pass t s new u → v ≡ flushed u → PassInvariant new v (read ++ s ∷ []) (written ++ outbox_symbols (out_of u))
stands_more pass new t u v read written s h step is =
    let ws = outbox_symbols (out_of u) in
    let some : 0 < length u.lists = omega (arith, step.ready.lists.lists) in
    let Small : ℕ → Symbol → Type 0 = λ text x. IsTrue (is_numbered text pass.bytes x) in
    rw is (record {
      ready = flushed_ready new u step.ready;
      empty = ap (λ (l : TableList). l.count) (first_flushed u some);
      taken = omega (arith, h.taken, step.taken, weight_append 4 read (s ∷ []));
      light = omega (arith, h.light, step.light, weight_append 4 read (s ∷ []), weight_append 5 written ws);
      letters = All-append IsWritable written ws h.letters step.letters;
      numbered = rw step.bytes (λ all.
          let before = h.numbered (all_left (Small 4) read (s ∷ []) all) in
          let more = step.numbered (all_last (Small 4) read s all) before.1 in
          (All-append (Small 5) written ws before.0 more.0, more.1));
    })

pub relates_end : (pass : Pass5) (t : TablesModel) (read written : List Symbol) → PassInvariant pass t read written → Relates pass read (written ++ [])
relates_end pass t read written h = rw (append-nil written) (record {
  light = omega (arith, h.light);
  letters = h.letters;
  numbered = λ all. (h.numbered all).0;
})

-- a text that isn't too heavy is never refused
pub fits_in : (pass : Pass5) (t : TablesModel) (read written rest : List Symbol) (s : Symbol) → PassInvariant pass t read written → IsWithinPotential 4 pass.bytes (read ++ (s ∷ []) ++ rest) → pass.taken + potential_of 4 s.tag ≤ 8 * pass.bytes + 64
fits_in pass t read written rest s h light =
    omega (arith, h.taken, light.light, weight_append 4 (read ++ s ∷ []) rest, weight_append 4 read (s ∷ []))

-- no more symbols are written than the text weighs
pub few_written : (pass new : Pass5) (t u : TablesModel) (read written : List Symbol) (s : Symbol) (most : ℕ) → PassInvariant pass t read written → Steps pass t s new u → pass.taken + potential_of 4 s.tag ≤ most → length written + length (outbox_symbols (out_of u)) ≤ most
few_written pass new t u read written s most h step fits = omega (arith, h.taken, h.light, step.light, fits, each_weighs written, each_weighs (outbox_symbols (out_of u)))

pub few_whole : (pass : Pass5) (t : TablesModel) (read written : List Symbol) → PassInvariant pass t read written → length written ≤ 8 * pass.bytes + 64
few_whole pass t read written h = omega (arith, h.taken, h.light, h.ready.within, each_weighs written)

pub less_more : (text : View) (m n : ℕ) → m ≤ n → HasLess text m → HasLess text n
less_more text m n le h = (h.0, h.1, omega (arith, h.2, le))
