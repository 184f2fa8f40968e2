pub mod PackedKinds
