pub mod Packed
pub mod CallOutcome
pub mod Machines
pub mod Archives
pub mod Laws
