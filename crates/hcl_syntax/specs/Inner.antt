-- Definitions for the code's own parts, which its inner contracts use. Nobody has to believe them.
pub mod Standings
pub mod Cursors
pub mod Parsing
pub mod Segments
pub mod Bodies
pub mod ShortOperands
