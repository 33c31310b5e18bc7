pub mod LoadLemmas
pub mod LineEndLemmas
pub mod SimpleLemmas
