pub mod Blocks
pub mod Cursor
pub mod Orders
pub mod SpanRuns
