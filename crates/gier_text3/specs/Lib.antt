pub mod Marks
pub mod PurePass
pub mod Text3
