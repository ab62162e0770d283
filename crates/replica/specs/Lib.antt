pub mod Rosters
pub mod Shelves
pub mod Taking
