pub mod Accesses
pub mod Meaning
pub mod Standard
pub mod Tables
