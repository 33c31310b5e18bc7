pub mod Ends
pub mod Line
pub mod Paths
pub mod Shards
pub mod Vocabularies
pub mod WrongWords
