use Rattle.std.proofs.Common.{◌≡◌, ◌/◌, arith, ◌+◌, ◌∷◌, [], refl, true, ap}
use Rattle.gier_drum.specs.declared.drum.Entry.TheVariants.{Write}
use Rattle.gier_text.specs.SymbolsOnTracks.{all_symbols}
use Rattle.gier_text.proofs.Writing.{symbols_pushed, symbols_pushed_over, symbols_kept, left_kept, elsewhere, same_view, fresh_if, sets_kept}
use Rattle.gier_text.proofs.Logs.{logs_none, logs_one, log_pushed, log_pushed_over}
use Rattle.gier_text.proofs.drum_text.DrumTextText.write_next.Goals as goal

pub returns-then-self-2-clause-written : goal.returns-then-self-2-clause-written
returns-then-self-2-clause-written g c =
    let t = c.args.self.now in
    let here : t.fresh ≡ true = fresh_if t.fresh t.loaded t.count t.capacity (t.found c.requires.writing) (λ e. absurd (omega arith)) in
    record {
      held = rw c.put.ensures.words (symbols_pushed (g.D.Drum.tracks c.args.store.now) t.first t.loaded t.count t.buffer c.args.s (t.filled c.requires.writing here) c.requires.symbol t.sized);
      count = refl;
      capacity = refl;
      rewound = refl;
    }

pub returns-then-self-2-clause-logged : goal.returns-then-self-2-clause-logged
returns-then-self-2-clause-logged g c =
    let t = c.args.self.now in
    record {
      entries = [];
      log = log_pushed t.fresh t.rewound t.first t.count t.way t.loaded t.loaded c.requires.writing (omega arith);
      journal = logs_none (g.D.Drum.journal c.args.store.now);
    }

pub returns-in-Ok-clause-written : goal.returns-in-Ok-clause-written
returns-in-Ok-clause-written g c =
    let t = c.args.self.now in
    let here : t.fresh ≡ true = fresh_if t.fresh t.loaded t.count t.capacity (t.found c.requires.writing) (λ e. absurd (omega arith)) in
    record {
      held = symbols_pushed_over (g.D.Drum.tracks c.args.store.now) (g.D.Drum.tracks c.write-written.new.self) t.first t.loaded t.count t.buffer _ c.args.s (t.filled c.requires.writing here) c.requires.symbol t.sized (omega arith)
          (λ all all_symbols. omega (arith, g.met.D.Drum.sized c.args.store.now all all_symbols)) (rw (← c.put.ensures.words) c.in-Ok.ensures.set);
      count = refl;
      capacity = refl;
      rewound = refl;
    }

pub returns-in-Ok-clause-logged : goal.returns-in-Ok-clause-logged
returns-in-Ok-clause-logged g c =
    let t = c.args.self.now in
    let here : t.fresh ≡ true = fresh_if t.fresh t.loaded t.count t.capacity (t.found c.requires.writing) (λ e. absurd (omega arith)) in
    record {
      entries = Write (t.first + t.count / 20) ∷ [];
      log = log_pushed_over t.fresh t.rewound t.first t.count t.way t.loaded (t.loaded + 1) here c.requires.writing (omega arith);
      journal = logs_one (g.D.Drum.journal c.args.store.now) (g.D.Drum.journal c.write-written.new.self) (Write (t.first + t.count / 20)) c.in-Ok.ensures.journal;
    }

pub returns-in-Ok-clause-tracks : goal.returns-in-Ok-clause-tracks
returns-in-Ok-clause-tracks g c =
    let t = c.args.self.now in
    sets_kept (g.D.Drum.tracks c.args.store.now) (g.D.Drum.tracks c.write-written.new.self) t.first _ (t.first + t.count / 20) _ c.in-Ok.ensures.set (omega arith) (omega arith)

pub returns-in-Ok-clause-kept : goal.returns-in-Ok-clause-kept
returns-in-Ok-clause-kept g c = λ other apart.
    let t = c.args.self.now in
    let out = elsewhere t.first t.capacity t.count other.first other.capacity (omega arith) apart in
    same_view _ _ _ _ other.count other.unread _ other.rewound other.way _
    (ap all_symbols (symbols_kept (g.D.Drum.tracks c.args.store.now) (g.D.Drum.tracks c.write-written.new.self) other.first other.loaded other.buffer other.count other.capacity (t.first + t.count / 20) _ c.in-Ok.ensures.set other.limited out))
    (ap all_symbols (left_kept (g.D.Drum.tracks c.args.store.now) (g.D.Drum.tracks c.write-written.new.self) other.first other.loaded other.buffer other.count other.capacity other.way other.unread (t.first + t.count / 20) _ c.in-Ok.ensures.set other.limited out))
