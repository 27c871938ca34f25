pub mod Bloom
pub mod Keys
pub mod Pages
