pub mod Answers
pub mod Inner
pub mod Laws
pub mod Names
pub mod Sessions
pub mod Steps
pub mod Told
pub mod Views
