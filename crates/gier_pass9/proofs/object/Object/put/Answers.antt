use Rattle.std.proofs.Common.{◌≡◌, ◌<◌, ◌+◌, ◌/◌, ◌%◌, ◌++◌, ◌∷◌, ℕ, suc, List, [], Some, arith, set, length}
use Rattle.std.proofs.lemmas.List.{length-append}
use Rattle.gier_pass9.proofs.Pages.{blank_page, page_set, holds_more, holds_set}
use Rattle.gier_pass9.proofs.object.Object.put.Goals as goal

pub returns-then-place-clause-made : goal.returns-then-place-clause-made
returns-then-place-clause-made g c = λ words h.
    let self = c.args.self.now in
    let same : (self.count + 1) / 40 ≡ self.count / 40 = omega (arith, c.if-place) in
    record {
      count = omega (arith, h.count, length-append words (c.args.word ∷ []));
      full = rw same (holds_more (g.D.Drum.tracks c.args.drum.now) self.first self.count words (c.args.word ∷ []) h.full h.count);
      rest = rw same (page_set self.track words self.count c.args.word h.count h.rest);
    }

pub returns-in-Ok-clause-made : goal.returns-in-Ok-clause-made
returns-in-Ok-clause-made g c = λ words h.
    let self = c.args.self.now in
    let all = words ++ c.args.word ∷ [] in
    let next : (self.count + 1) / 40 ≡ suc (self.count / 40) = omega (arith, c.if-place) in
    let long : length all ≡ self.count + 1 = omega (arith, h.count, length-append words (c.args.word ∷ [])) in
    let old = g.D.Drum.tracks c.args.drum.now in
    let new = g.D.Drum.tracks c.write-written.new.self in
    let before = holds_more old self.first self.count words (c.args.word ∷ []) h.full h.count in
    let track = page_set self.track words self.count c.args.word h.count h.rest in
    let room : (tracks : List (List ℕ)) → old ≡ Some tracks → self.first + self.count / 40 < length tracks = λ tracks told.
    omega (arith, g.met.D.Drum.sized c.args.drum.now tracks told, c.requires.room, c.requires.in_room) in
    let zeros = c.zeros-self.ensures in
    record {
      count = long;
      full = rw next (holds_set old new self.first (self.count / 40) all (set self.track (self.count % 40) c.args.word) before
          c.in-Ok.ensures.set room track);
      rest = rw next (blank_page c.zeros-self.result all (suc (self.count / 40)) zeros.sized zeros.zero (omega (arith, long, next)));
    }
