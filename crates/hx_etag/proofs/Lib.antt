pub mod Glyphs
pub mod Numerals
