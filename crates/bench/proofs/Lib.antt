pub mod Unpacked
pub mod Refusing
pub mod Determined
