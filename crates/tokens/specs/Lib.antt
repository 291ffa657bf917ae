pub mod Kinds
pub mod Tokens
pub mod Lexing
pub mod Listed
pub mod Inner
