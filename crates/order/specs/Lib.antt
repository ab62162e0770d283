pub mod Lists
pub mod Edits
pub mod Forests
pub mod Placing
pub mod Histories
pub mod Systems
pub mod Theorems
