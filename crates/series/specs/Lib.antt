pub mod Weights
pub mod Series
pub mod Refusals
pub mod Terms
pub mod Trees
