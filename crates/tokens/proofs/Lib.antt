pub mod Fronts
pub mod Listing
pub mod Lists
pub mod Cutting
pub mod Singles
