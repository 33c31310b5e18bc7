pub mod Edits
pub mod Indexes
pub mod Inner
pub mod PlacedEdits
pub mod Places
