pub mod Words
pub mod Codes
pub mod Agreement
