use Rattle.std.proofs.Common.{◌/◌, arith, ◌+◌, refl, ap}
use Rattle.gier_text.specs.SymbolsOnTracks.{all_symbols, buffered_only}
use Rattle.gier_text.specs.Log.{last_write}
use Rattle.gier_text.proofs.Writing.{held_after, left_after, symbols_kept_by, left_kept_by, elsewhere_unwritten, same_view, flush_kept, unwritten_below}
use Rattle.gier_text.proofs.Logs.{log_rewound}
use Rattle.gier_text.proofs.drum_text.DrumTextText.rewind.Goals as goal

pub returns-clause-rewound : goal.returns-clause-rewound
returns-clause-rewound g c =
    let t = c.args.self.now in
    let old = g.D.Drum.tracks c.args.store.now in
    let new = g.D.Drum.tracks c.flush.new.store in
    record {
      held = ap all_symbols (held_after t.fresh old new t.first t.loaded t.count t.buffer (t.filled c.requires.writing) (λ found. (t.found c.requires.writing found).0)
          (λ all is some. omega (arith, g.met.D.Drum.sized c.args.store.now all is)) c.in_ok-flush.ensures.begun c.in_ok-flush.ensures.full);
      count = refl;
      capacity = refl;
      rewound = refl;
      way = refl;
      left = left_after t.fresh old new t.first t.loaded t.count t.buffer c.args.way (t.filled c.requires.writing) (λ found. (t.found c.requires.writing found).0)
          (λ all is some. omega (arith, g.met.D.Drum.sized c.args.store.now all is)) c.in_ok-flush.ensures.begun c.in_ok-flush.ensures.full;
      unread = refl;
    }

pub returns-clause-logged : goal.returns-clause-logged
returns-clause-logged g c =
    let t = c.args.self.now in
    record {
      entries = last_write t.fresh t.first t.count;
      log = log_rewound t.fresh t.rewound t.first t.count t.way c.args.way t.loaded c.requires.writing;
      journal = c.in_ok-flush.ensures.logged;
    }

pub returns-clause-tracks : goal.returns-clause-tracks
returns-clause-tracks g c =
    let t = c.args.self.now in
    flush_kept (buffered_only t.fresh t.count) (g.D.Drum.tracks c.args.store.now) (g.D.Drum.tracks c.flush.new.store) t.first _ (t.first + t.count / 20) t.buffer c.in_ok-flush.ensures.begun c.in_ok-flush.ensures.full (omega arith) (unwritten_below t.fresh t.first t.count t.capacity t.limited)

pub returns-clause-kept : goal.returns-clause-kept
returns-clause-kept g c = λ other apart.
    let t = c.args.self.now in
    let old = g.D.Drum.tracks c.args.store.now in
    let new = g.D.Drum.tracks c.flush.new.store in
    let out = elsewhere_unwritten t.fresh t.first t.capacity t.count other.first other.capacity t.limited apart in
    same_view _ _ _ _ other.count other.unread _ other.rewound other.way _
    (ap all_symbols (symbols_kept_by old new other.first other.loaded other.buffer other.count other.capacity (buffered_only t.fresh t.count) (t.first + t.count / 20) t.buffer c.in_ok-flush.ensures.begun c.in_ok-flush.ensures.full other.limited out))
    (ap all_symbols (left_kept_by old new other.first other.loaded other.buffer other.count other.capacity other.way other.unread (buffered_only t.fresh t.count) (t.first + t.count / 20) t.buffer c.in_ok-flush.ensures.begun c.in_ok-flush.ensures.full other.limited out))
