-- Definitions for the code's own parts, which its inner contracts use. Nobody has to believe them.
pub mod Bounds
pub mod Depths
pub mod Laid
pub mod Left
pub mod LineGaps
pub mod Out
pub mod Rooms
pub mod Simple
pub mod Stream
pub mod Survey
pub mod Walks
