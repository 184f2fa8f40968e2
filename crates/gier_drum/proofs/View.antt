-- What calls one after another keep of a drum.
use Rattle.std.proofs.Common.{◌≡◌, ◌∙◌, ◌++◌, ℕ, List, Option, None, Some, ap, subst, arith, append_assoc}
use Rattle.gier_drum.specs.declared.drum.Entry.{Entry}
use Rattle.gier_drum.specs.View.{DrumView, Extends, StaysTold, KeepsDrum, PreservesDrum}

pub extends_more : (before mid after : Option (List Entry)) → Extends before mid → Extends mid after → Extends before after
extends_more None mid after h k = subst (λ m. Extends m after) h k
extends_more (Some old) mid after h k =
    let then : Extends (Some (old ++ h.0)) after = subst (λ m. Extends m after) h.1 k in
    (h.0 ++ then.0, then.1 ∙ ap Some (append_assoc old h.0 then.0))

pub told_more : (before mid after : Option (List (List ℕ))) → StaysTold before mid → StaysTold mid after → StaysTold before after
told_more before mid after h k = k ∙ h

-- of tracks this holds of two steps where it holds of each
pub keeps_more : (P : Option (List (List ℕ)) → Option (List (List ℕ)) → Type 0)
    → ((before mid after : Option (List (List ℕ))) → P before mid → P mid after → P before after)
    → (old mid new : DrumView) → KeepsDrum P old mid → KeepsDrum P mid new → KeepsDrum P old new
keeps_more P join old mid new h k = record {
  same_room = k.same_room ∙ h.same_room;
  same_tracks = join old.tracks mid.tracks new.tracks h.same_tracks k.same_tracks;
  later = omega (arith, h.later, k.later);
}

pub preserves_more : (P : Option (List (List ℕ)) → Option (List (List ℕ)) → Type 0)
    → ((before mid after : Option (List (List ℕ))) → P before mid → P mid after → P before after)
    → (old mid new : DrumView) → PreservesDrum P old mid → PreservesDrum P mid new → PreservesDrum P old new
preserves_more P join old mid new h k = record {
  keeps = keeps_more P join old mid new h.keeps k.keeps;
  logged = extends_more old.journal mid.journal new.journal h.logged k.logged;
}
