use Rattle.gier_placed.proofs.Addresses.{labels_are_addresses}
use Rattle.gier_placed.proofs.laws.law_label_addresses.Goals as goal

pub returns : goal.returns
returns c = labels_are_addresses
