-- `script::` meets its contract.
-- Assumes nothing.
pub mod Whole
pub mod Cutting
pub mod Pieces
pub mod Outputs
pub mod Answers
pub mod Puts
pub mod Joining
pub mod Carried
pub mod Reading
pub mod Listed
