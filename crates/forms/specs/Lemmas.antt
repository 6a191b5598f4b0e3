-- Lemmas that lead to the laws of the forms. No contract says anything by them: they are proofs, and stand here because an `impl` shows its laws by what stands in `specs/`.
pub mod Basics
pub mod Carry
pub mod Counting
pub mod Entered
pub mod Members
pub mod OrderRuns
pub mod Placing
pub mod Remembering
pub mod Simulation
pub mod Steps
pub mod Tabled
