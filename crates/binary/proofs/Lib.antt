pub mod Clips
pub mod Times
pub mod Multiples
pub mod Remainder
pub mod Coefficients
pub mod Agreement
