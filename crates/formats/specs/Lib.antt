pub mod Marks
pub mod Fields
pub mod Records
pub mod Kept
pub mod Readers
pub mod Expanded
