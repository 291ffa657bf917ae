pub mod Places
pub mod Rule
pub mod Filled
pub mod Admission
pub mod Sums
pub mod TreeRows
pub mod Folds
