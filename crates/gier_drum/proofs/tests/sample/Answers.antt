use Rattle.std.proofs.Common.{ℕ, ◌<◌, ◌^◌, set, lit<}
use Rattle.std.proofs.lemmas.List.Elements.{All-set}
use Rattle.gier_drum.specs.Drum.{zero_track}
use Rattle.gier_drum.proofs.Stored.{zero_words}
use Rattle.gier_drum.proofs.tests.sample.Goals as goal

pub returns : goal.returns
returns c =
    All-set (λ (word : ℕ). word < 2 ^ 40) (set zero_track 0 4328719365) 39 1099511627775 (lit< tt)
    (All-set (λ (word : ℕ). word < 2 ^ 40) zero_track 0 4328719365 (lit< tt) zero_words)
