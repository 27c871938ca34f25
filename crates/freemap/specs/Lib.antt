pub mod Blocks
pub mod FreeRuns
pub mod History
pub mod Leveled
pub mod Loans
pub mod Map
pub mod RunsLeft
pub mod Summary
