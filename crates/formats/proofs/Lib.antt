pub mod Steps
pub mod Filling
pub mod Elements
pub mod Later
pub mod Whole
