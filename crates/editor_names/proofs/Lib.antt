pub mod NameLemmas
pub mod SearchLemmas
