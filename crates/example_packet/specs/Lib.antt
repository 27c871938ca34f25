pub mod Field
pub mod Header
