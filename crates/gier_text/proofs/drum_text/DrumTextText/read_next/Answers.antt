use Rattle.std.proofs.Common.{arith, ◌/◌, refl}
use Rattle.gier_text.specs.Log.{new_read}
use Rattle.gier_text.proofs.Reading.{left_read, left_spoilt, left_none, is_forward, is_backward, next_forward, next_backward, forward_bound, backward_bound, forward_loaded, backward_loaded}
use Rattle.gier_text.proofs.Logs.{log_read}
use Rattle.gier_text.proofs.drum_text.DrumTextText.read_next.Goals as goal

pub returns-then-self-eq0-clause-given : goal.returns-then-self-eq0-clause-given
returns-then-self-eq0-clause-given g c =
    let t = c.args.self.now in
    let none = left_none (g.D.Drum.tracks c.args.store.now) t.first t.loaded t.buffer t.count t.way in
    rw c.if-self-eq0.true (record { read = record { left = none.0; unread = omega arith; count = refl; rewound = refl; way = refl }; ends = (none.1, refl) })

pub returns-in-Ok-clause-given : goal.returns-in-Ok-clause-given
returns-in-Ok-clause-given g c =
    let t = c.args.self.now in
    record {
      read = record {
        left = rw (c.load.ensures.tracks, c.in_ok-load.ensures.loaded) (left_read (g.D.Drum.tracks c.args.store.now) t.first t.loaded t.buffer c.load.new.buffer t.count t.way t.unread c.next_place-at.result c.in-Ok.s c.next_place-at.ensures.next t.within (omega arith)
            (λ h. forward_bound t.count t.unread t.loaded t.within (t.ahead c.requires.reading (is_forward t.way h)))
            (λ h. backward_bound t.count t.unread t.loaded t.within (t.behind c.requires.reading (is_backward t.way h)) (t.unbegun c.requires.reading))
            c.in_ok-load.ensures.words c.in-Ok.ensures.symbol.1);
        unread = omega arith;
        count = refl;
        rewound = refl;
        way = refl;
      };
      ends = omega arith;
    }

pub returns-in-Ok-clause-logged : goal.returns-in-Ok-clause-logged
returns-in-Ok-clause-logged g c =
    let t = c.args.self.now in
    let at = c.next_place-at.result in
    record {
      entries = new_read t.first (at / 20) t.loaded;
      log = rw c.in_ok-load.ensures.loaded (log_read t.fresh t.rewound t.first t.count t.way t.loaded (at / 20) c.requires.reading
          (λ other h. forward_loaded t.count t.unread t.loaded at (next_forward t.way t.count t.unread at h c.next_place-at.ensures.next) (t.ahead c.requires.reading (is_forward t.way h)) other)
          (λ other h. backward_loaded t.count t.unread t.loaded at (next_backward t.way t.count t.unread at h c.next_place-at.ensures.next) t.within (t.behind c.requires.reading (is_backward t.way h)) (t.unbegun c.requires.reading) other));
      journal = c.in_ok-load.ensures.logged;
    }

pub returns-in-Err-clause-logged : goal.returns-in-Err-clause-logged
returns-in-Err-clause-logged g c =
    let t = c.args.self.now in
    let at = c.next_place-at.result in
    record {
      entries = new_read t.first (at / 20) t.loaded;
      log = rw c.in_ok-load.ensures.loaded (log_read t.fresh t.rewound t.first t.count t.way t.loaded (at / 20) c.requires.reading
          (λ other h. forward_loaded t.count t.unread t.loaded at (next_forward t.way t.count t.unread at h c.next_place-at.ensures.next) (t.ahead c.requires.reading (is_forward t.way h)) other)
          (λ other h. backward_loaded t.count t.unread t.loaded at (next_backward t.way t.count t.unread at h c.next_place-at.ensures.next) t.within (t.behind c.requires.reading (is_backward t.way h)) (t.unbegun c.requires.reading) other));
      journal = c.in_ok-load.ensures.logged;
    }

pub returns-in-Err-clause-spoilt : goal.returns-in-Err-clause-spoilt
returns-in-Err-clause-spoilt g c =
    let t = c.args.self.now in
    record {
      untold = left_spoilt (g.D.Drum.tracks c.args.store.now) t.first t.loaded t.buffer c.load.new.buffer t.count t.way t.unread c.next_place-at.result c.next_place-at.ensures.next t.within (omega arith)
          (λ h. forward_bound t.count t.unread t.loaded t.within (t.ahead c.requires.reading (is_forward t.way h)))
          (λ h. backward_bound t.count t.unread t.loaded t.within (t.behind c.requires.reading (is_backward t.way h)) (t.unbegun c.requires.reading))
          c.in_ok-load.ensures.words c.in-Err.ensures.word.0;
      place = omega arith;
      some = omega arith;
      word = c.in-Err.ensures.word.1;
    }
