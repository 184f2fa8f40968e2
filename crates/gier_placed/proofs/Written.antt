-- A program without faults of scopes is in scope when it is hoisted, so its text 7 has its labels' places.
use Rattle.gier_tree.specs.Hoist.{hoist}
use Rattle.gier_fair.proofs.WholePrograms.{programs_are_fair}
use Rattle.gier_placed.specs.Written.{ProgramsHaveText7}
use Rattle.gier_placed.proofs.Addresses.{labels_are_addresses}
use Rattle.gier_placed.proofs.Completing.{fitting_are_complete}

pub programs_have_text7 : ProgramsHaveText7
programs_have_text7 t bytes names faults few =
    let scopes = (programs_are_fair t names faults).0 in
    record {
      addresses = labels_are_addresses (hoist t) scopes few;
      complete = λ sizes fits. fitting_are_complete (hoist t) bytes scopes few sizes fits;
    }
