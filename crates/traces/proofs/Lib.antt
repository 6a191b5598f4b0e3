pub mod Admitting
pub mod Holding
pub mod Remainders
pub mod Slotting
pub mod Stating
