pub mod Device
pub mod View
pub mod Memory
pub mod Adapter
