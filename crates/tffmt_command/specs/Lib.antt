pub mod Rows
pub mod Line
pub mod Answer
pub mod PrintAgain
