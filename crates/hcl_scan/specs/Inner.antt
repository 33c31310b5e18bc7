-- Definitions for the code's own parts, which its inner contracts use. Nobody has to believe them.
pub mod Found
pub mod Fronts
pub mod Lanes
pub mod Prefixes
pub mod MarkerPlaces
pub mod Openings
pub mod Punctuation
pub mod Readings
pub mod Scanners
