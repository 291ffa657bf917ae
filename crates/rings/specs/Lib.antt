pub mod Faults
pub mod Answers
pub mod Model
pub mod Total
pub mod Modular
pub mod Polynomials
pub mod Duals
pub mod Lemmas
