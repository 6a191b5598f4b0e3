pub mod Faults
pub mod Grammar
pub mod Lines
pub mod Numbers
pub mod Places
pub mod Texts
pub mod Tokens
