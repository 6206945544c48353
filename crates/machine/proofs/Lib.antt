pub mod Entries
pub mod Looking
pub mod Refusing
pub mod Giving
pub mod Stepping
pub mod PokingShowing
pub mod Knowing
pub mod Determined
