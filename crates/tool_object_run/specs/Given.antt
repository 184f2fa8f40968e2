-- With what numbers an object is run.
use Rattle.std.specs.Prelude.{ℕ, ◌≤◌, ◌<◌, ◌^◌}
use Rattle.tool_object_run.specs.declared.given.Given.{Given}

-- It begins at one of its words, has a place for a track, and no more words or places than a machine takes.
pub record IsGiven (given : Given) : Type 0 where
  pub words : given.words ≤ 2 ^ 24
  pub start : given.start < given.words
  pub least : 1 ≤ given.settings.places
  pub most : given.settings.places ≤ 64
  pub stack : given.settings.stack < 2 ^ 24
