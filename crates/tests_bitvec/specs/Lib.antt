pub mod LongerRuns
pub mod SameLists
pub mod SameRuns
