pub mod Kinds
pub mod State
pub mod PurePass
pub mod Text4
