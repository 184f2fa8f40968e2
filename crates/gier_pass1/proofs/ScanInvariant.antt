-- What holds between two bytes while a program is read.
use Rattle.std.proofs.Common.{◌≡◌, ◌≤◌, ◌+◌, ℕ, List, length, Option, false, refl, ◌∙◌, arith}
use Rattle.gier_drum.specs.declared.drum.Entry.{Entry}
use Rattle.gier_symbol.specs.declared.symbol.Symbol.{Symbol}
use Rattle.gier_text.specs.declared.tables.Tables.{Tables}
use Rattle.gier_text.specs.TablesModel.{tables_model}
use Rattle.gier_text.specs.View.{View}
use Rattle.gier_pass1.specs.declared.scanner.Scanner.{Scanner}
use Rattle.gier_pass1.specs.Program.{longest}
use Rattle.gier_pass1.specs.Scanning.{IsScanning}
use Rattle.gier_pass1.specs.StepCounts.{owed_symbols, owed_faults}
use Rattle.gier_pass1.specs.Puts.{Puts, Frame, AddsFaults}
use Rattle.gier_pass1.proofs.ListingSoFar.{IsTelling}
use Rattle.gier_pass1.proofs.Texts.{HasRead}
use Rattle.gier_text.proofs.DriveLoop.{tracks_more, tracks_none, apart_as}

pub record IsReading {T S : Type 0} (view : T → S → View) (first end : T → ℕ) (room : S → ℕ) (tracks : S → Option (List (List ℕ))) (journal : S → Option (List Entry)) (faults : S → ℕ) (tape_old tape : Option (List ℕ)) (failed_old failed : ℕ) (scanner : Scanner) (out_old : T) (store_old : S) (tables_old : Tables) (out : T) (store : S) (tables : Tables) : Type 0 where
  pub text : List ℕ
  pub read : HasRead tape_old text tape
  pub counted : length text ≡ scanner.state.here.at
  pub scanning : IsScanning scanner
  pub symbols : List Symbol
  pub telling : IsTelling scanner text symbols (tables_model tables).faults
  pub puts : Puts symbols (view out_old store_old) (view out store) (journal store_old) (journal store)
  pub few_symbols : (view out store).count + owed_symbols scanner.state.mode ≤ scanner.state.here.at
  pub few_faults : length (tables_model tables).faults + owed_faults scanner.state.mode ≤ scanner.state.here.at
  pub added : AddsFaults (tables_model tables_old) (tables_model tables) longest
  pub frame : Frame view first end room tracks faults out_old store_old out store
  pub writing : (view out store).rewound ≡ false
  pub placed : end out ≤ room store
  pub tape_later : failed_old ≤ failed

-- two parts of the work are one
pub frame_more : {T S : Type 0} (view : T → S → View) (first end : T → ℕ) (room : S → ℕ) (tracks : S → Option (List (List ℕ))) (faults : S → ℕ) (out : T) (store : S) (mid_out : T) (mid_store : S) (new_out : T) (new_store : S) → Frame view first end room tracks faults out store mid_out mid_store → Frame view first end room tracks faults mid_out mid_store new_out new_store → Frame view first end room tracks faults out store new_out new_store
frame_more view first end room tracks faults out store mid_out mid_store new_out new_store h k = record {
  place = record { begins = k.place.begins ∙ h.place.begins; ends = k.place.ends ∙ h.place.ends };
  same_room = k.same_room ∙ h.same_room;
  same_tracks = tracks_more _ _ _ _ _ _ _ h.same_tracks h.place.begins h.place.ends k.same_tracks;
  kept = λ other apart. k.kept other (apart_as _ _ _ _ _ _ _ _ apart h.place.begins h.place.ends refl refl) ∙ h.kept other apart;
  later = omega (arith, h.later, k.later);
}

-- no work at all
pub frame_none : {T S : Type 0} (view : T → S → View) (first end : T → ℕ) (room : S → ℕ) (tracks : S → Option (List (List ℕ))) (faults : S → ℕ) (out : T) (store : S) → Frame view first end room tracks faults out store out store
frame_none view first end room tracks faults out store = record {
  place = record { begins = refl; ends = refl };
  same_room = refl;
  same_tracks = tracks_none _ _ (tracks store);
  kept = λ other apart. refl;
  later = omega arith;
}
