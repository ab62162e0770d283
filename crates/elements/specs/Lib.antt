pub mod Bytes
pub mod Fours
pub mod Cells
pub mod CellBytes
pub mod Numbers
