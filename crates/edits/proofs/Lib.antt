pub mod Conjunctions
pub mod Counting
pub mod Walking
pub mod Placed
