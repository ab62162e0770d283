pub mod Entries
pub mod Links
pub mod Places
pub mod Lookups
