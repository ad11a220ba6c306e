pub mod Modes
pub mod Taps
pub mod Kinds
pub mod Orders
pub mod TapOrders
