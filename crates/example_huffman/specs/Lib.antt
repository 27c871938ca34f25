pub mod Codes
pub mod Huffman
pub mod Laws
