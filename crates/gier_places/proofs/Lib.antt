pub mod MoveToFront
pub mod SlotsApart
pub mod References
