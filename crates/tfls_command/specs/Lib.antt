pub mod Answer
pub mod Endings
pub mod Frames
pub mod Fronts
pub mod Inner
pub mod Line
pub mod Runs
pub mod Streams
