pub mod HeldTracks
pub mod Contents
pub mod SlotInvariant
