pub mod Bytes
pub mod Decimal
pub mod Words
pub mod Grammar
pub mod Texts
pub mod Effect
pub mod Turns
pub mod Promises
