pub mod Adding
pub mod First
pub mod Instructions
pub mod Kinds
pub mod Listing
pub mod Shown
pub mod Slots
pub mod Stated
