pub mod Sizes
pub mod Looked
pub mod Give
pub mod Step
pub mod PokeShow
pub mod Known
