-- What the writes of a few symbols keep from turn to turn.
use Rattle.std.proofs.Common.{◌≡◌, ◌≤◌, ℕ, List, Option}
use Rattle.std.specs.Prelude.{false}
use Rattle.gier_drum.specs.declared.drum.Entry.{Entry}
use Rattle.gier_symbol.specs.declared.symbol.Symbol.{Symbol}
use Rattle.gier_text.specs.Log.{Logged}
use Rattle.gier_text.specs.View.{View, WritesAll, IsPlacedAs, KeepsTracks, KeepsOthers}

pub record Wrote {T S : Type 0} (view : T → S → View) (first end : T → ℕ) (room : S → ℕ) (tracks : S → Option (List (List ℕ))) (journal : S → Option (List Entry)) (faults : S → ℕ) (out_old : T) (store_old : S) (out : T) (store : S) (ws : List Symbol) : Type 0 where
  pub writes : WritesAll (view out_old store_old) ws (view out store)
  pub logged : Logged (view out_old store_old) (view out store) (journal store_old) (journal store)
  pub writing : (view out store).rewound ≡ false
  pub placed : end out ≤ room store
  pub place : IsPlacedAs first end out_old out
  pub same_room : room store ≡ room store_old
  pub same_tracks : KeepsTracks (first out_old) (end out_old) (tracks store_old) (tracks store)
  pub same_others : KeepsOthers view first end out_old store_old store
  pub later : faults store_old ≤ faults store
