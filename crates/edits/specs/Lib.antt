pub mod Ids
pub mod Faults
pub mod Pairs
pub mod Clocks
pub mod Rules
pub mod Edits
