use Rattle.std.proofs.Common.{◌≡◌, ◌≤◌, ◌+◌, ◌++◌, ◌∷◌, [], ℕ, List, length, length-append, Err, refl, sym, ap, ◌∙◌, subst, arith}
use Rattle.gier_pass1.specs.declared.state.State.{State}
use Rattle.gier_pass1.specs.declared.state.Place.{Place}
use Rattle.gier_text.specs.declared.fault.Fault.{Fault}
use Rattle.gier_pass1.specs.StepCounts.{owed_symbols, owed_faults}
use Rattle.gier_pass1.specs.Program.{GivesNext, IsCount}
use Rattle.gier_pass1.specs.Puts.{letters_in}
use Rattle.gier_pass1.proofs.ScanInvariant.{frame_more, frame_none}
use Rattle.gier_pass1.proofs.WritesJoined.{puts_more, puts_none}
use Rattle.gier_pass1.proofs.Texts.{nothing_read, read_one, read_end, read_part, all_part, stopped}
use Rattle.gier_text.specs.TablesModel.{tables_model}
use Rattle.gier_pass1.proofs.ListingSoFar.{telling_first, telling_more, telling_ends}
use Rattle.gier_pass1.proofs.ListingOfTape.{tells_tape}
use Rattle.gier_pass1.proofs.read.Pass1.read.Goals as goal

pub bytes-init : goal.bytes-init
bytes-init g c =
    let start = c.new-scanner.ensures.state in
    let none = ap (λ (faults : List Fault). length faults) c.requires.no_faults in
    let view = g.T.Text.view in
    record {
      text = [];
      read = nothing_read (g.S.Source.left c.args.tape.now);
      counted = sym (ap (λ (s : State). s.here.at) start);
      scanning = c.new-scanner.ensures.scanning;
      symbols = [];
      telling = telling_first c.new-scanner.result (tables_model c.args.tables.now).faults start c.new-scanner.ensures.letters c.requires.no_faults;
      puts = puts_none (view c.args.out.now c.args.store.now) (g.T.Text.journal c.args.store.now);
      few_symbols = omega (arith, c.requires.empty.count, ap (λ (s : State). owed_symbols s.mode) start);
      few_faults = omega (arith, none, ap (λ (s : State). owed_faults s.mode) start);
      added = record { same_limit = refl; same_used = refl; same_lists = refl; added = omega arith };
      frame = frame_none view g.T.Text.first_track g.T.Text.end_track g.T.Text.room g.T.Text.tracks g.T.Text.faults c.args.out.now
          c.args.store.now;
      writing = c.requires.empty.writing;
      placed = c.requires.placed;
      tape_later = omega arith;
    }

pub returns-in-Err-clause-taken : goal.returns-in-Err-clause-taken
returns-in-Err-clause-taken g c =
    let now = c.bytes.invariant in
    let left = g.S.Source.left in
    stopped c.in-Err.stop (left c.args.tape.now) now.text (left c.bytes.tape) (left c.next_byte.new.tape) now.read
    (omega (arith, now.counted, now.scanning.at)) (subst
    (λ (n : ℕ). GivesNext (left c.bytes.tape) n (Err c.in-Err.stop) (left c.next_byte.new.tape)) (sym now.counted)
    c.in-Err.ensures.given)

pub bytes-preserved : goal.bytes-preserved
bytes-preserved g c =
    let now = c.bytes.invariant in
    let left = g.S.Source.left in
    let view = g.T.Text.view in
    let journal = g.T.Text.journal in
    let given = rw c.in-Ok-Some.field-0-is at c.in-Ok-Some.ensures.given in
    let found = c.take-founds.result in
    let took = c.take-founds.ensures in
    let put = c.put.ensures in
    let few : length c.put.new.tables.faults.items + owed_faults
    c.take-founds.new.self.state.mode ≤ c.take-founds.new.self.state.here.at = omega
    (arith, now.few_faults, put.tables.added, took.faults, took.place) in
    record {
      text = now.text ++ c.in-Ok-Some.byte ∷ [];
      read = read_one (left c.args.tape.now) now.text (left c.bytes.tape) (left c.next_byte.new.tape) c.in-Ok-Some.byte now.read given.0
          given.1;
      counted = omega (arith, length-append now.text (c.in-Ok-Some.byte ∷ []), now.counted, took.place);
      scanning = took.scanning;
      symbols = now.symbols ++ (letters_in found.ended ++ letters_in found.begun);
      telling = telling_more c.bytes.scanner c.take-founds.new.self now.text c.in-Ok-Some.byte now.symbols (tables_model c.bytes.tables).faults
          (tables_model c.put.new.tables).faults found now.telling (took.told now.telling.letters now.telling.reads) c.in-Ok.ensures.added;
      puts = puts_more now.symbols (letters_in found.ended ++ letters_in found.begun) (view c.args.out.now c.args.store.now)
          (view c.bytes.out c.bytes.store) (view c.put.new.out c.put.new.store) (journal c.args.store.now) (journal c.bytes.store)
          (journal c.put.new.store) now.puts c.in-Ok.ensures.puts;
      few_symbols = omega (arith, now.few_symbols, c.in-Ok.ensures.counted, took.symbols, took.place);
      few_faults = few;
      added = record {
        same_limit = put.tables.same_limit ∙ now.added.same_limit;
        same_used = put.tables.same_used ∙ now.added.same_used;
        same_lists = put.tables.same_lists ∙ now.added.same_lists;
        added = omega (arith, few, took.scanning.at);
      };
      frame = frame_more view g.T.Text.first_track g.T.Text.end_track g.T.Text.room g.T.Text.tracks g.T.Text.faults c.args.out.now
          c.args.store.now c.bytes.out c.bytes.store c.put.new.out c.put.new.store now.frame put.frame;
      writing = c.in-Ok.ensures.puts.written.rewound ∙ now.writing;
      placed = omega (arith, now.placed, put.frame.place.ends, put.frame.same_room);
      tape_later = omega (arith, now.tape_later, c.next_byte.ensures.later);
    }

pub returns-in-Err-put-clause-taken : goal.returns-in-Err-put-clause-taken
returns-in-Err-put-clause-taken g c =
    let now = c.bytes.invariant in
    let left = g.S.Source.left in
    let given = rw c.in-Ok-Some.field-0-is at c.in-Ok-Some.ensures.given in
    let read = read_one (left c.args.tape.now) now.text (left c.bytes.tape) (left c.next_byte.new.tape) c.in-Ok-Some.byte now.read given.0
    given.1 in
    read_part (left c.args.tape.now) (now.text ++ c.in-Ok-Some.byte ∷ []) (left c.next_byte.new.tape) read
    (omega (arith, length-append now.text (c.in-Ok-Some.byte ∷ []), now.counted, given.2))

pub returns-in-Ok-put-clause-taken : goal.returns-in-Ok-put-clause-taken
returns-in-Ok-put-clause-taken g c =
    let now = c.bytes.invariant in
    let left = g.S.Source.left in
    let given = rw c.in-Ok-None.field-0-is at c.in-Ok-None.ensures.given in
    let ends = read_end (left c.args.tape.now) now.text (left c.bytes.tape) (left c.next_byte.new.tape) now.read given
    (omega (arith, now.counted, now.scanning.at)) in
    let same : c.end-founds.new.self.state.here.at ≡ c.bytes.scanner.state.here.at = ap (λ (place : Place). place.at)
    c.end-founds.ensures.at in
    (omega (arith, same, now.scanning.at), subst (λ (n : ℕ). IsCount (left c.args.tape.now) n) (now.counted ∙ sym same) ends.0, ends.1)

pub returns-in-Ok-put-clause-symbols : goal.returns-in-Ok-put-clause-symbols
returns-in-Ok-put-clause-symbols g c =
    let now = c.bytes.invariant in
    let view = g.T.Text.view in
    let journal = g.T.Text.journal in
    let found = c.end-founds.result in (
      now.symbols ++ (letters_in found.ended ++ letters_in found.begun),
      puts_more now.symbols
          (letters_in found.ended ++ letters_in found.begun) (view c.args.out.now c.args.store.now) (view c.bytes.out c.bytes.store)
          (view c.put-2.new.out c.put-2.new.store) (journal c.args.store.now) (journal c.bytes.store) (journal c.put-2.new.store) now.puts
          c.in-Ok-put.ensures.puts,
    )

pub returns-in-Err-put-2-clause-taken : goal.returns-in-Err-put-2-clause-taken
returns-in-Err-put-2-clause-taken g c =
    let now = c.bytes.invariant in
    let left = g.S.Source.left in
    let given = rw c.in-Ok-None.field-0-is at c.in-Ok-None.ensures.given in
    all_part (left c.args.tape.now) (left c.next_byte.new.tape)
    (read_end (left c.args.tape.now) now.text (left c.bytes.tape) (left c.next_byte.new.tape) now.read given
    (omega (arith, now.counted, now.scanning.at))).1

pub returns-in-Ok-put-clause-told : goal.returns-in-Ok-put-clause-told
returns-in-Ok-put-clause-told g c =
    let now = c.bytes.invariant in
    let left = g.S.Source.left in
    let view = g.T.Text.view in
    let journal = g.T.Text.journal in
    let found = c.end-founds.result in
    let given = rw c.in-Ok-None.field-0-is at c.in-Ok-None.ensures.given in
    let same : c.end-founds.new.self.state.here.at ≡ c.bytes.scanner.state.here.at = ap (λ (place : Place). place.at)
    c.end-founds.ensures.at in
    let symbols = now.symbols ++ (letters_in found.ended ++ letters_in found.begun) in
    let puts = puts_more now.symbols (letters_in found.ended ++ letters_in found.begun) (view c.args.out.now c.args.store.now)
    (view c.bytes.out c.bytes.store) (view c.put-2.new.out c.put-2.new.store) (journal c.args.store.now) (journal c.bytes.store)
    (journal c.put-2.new.store) now.puts c.in-Ok-put.ensures.puts in
    let listed = telling_ends c.bytes.scanner now.text now.symbols (tables_model c.bytes.tables).faults (tables_model c.put-2.new.tables).faults found
    now.telling (c.end-founds.ensures.told now.telling.letters now.telling.reads) c.end-founds.ensures.begun c.in-Ok-put.ensures.added
    in
    tells_tape (left c.args.tape.now) now.text (left c.bytes.tape) (left c.next_byte.new.tape) symbols (tables_model c.put-2.new.tables).faults
    (view c.args.out.now c.args.store.now) (view c.put-2.new.out c.put-2.new.store) (journal c.args.store.now)
    (journal c.put-2.new.store) c.end-founds.new.self.state.here.at now.read given (same ∙ sym now.counted) listed puts
