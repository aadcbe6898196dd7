pub mod Decimals
pub mod FloatFacts
pub mod Hexes
pub mod HexReading
pub mod OneReading
pub mod Reading
