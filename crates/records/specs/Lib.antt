pub mod Layout
pub mod Representing
pub mod Reading
pub mod Printing
pub mod Inner
