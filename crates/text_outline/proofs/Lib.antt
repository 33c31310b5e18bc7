pub mod FileLemmas
pub mod ItemLemmas
pub mod NameLemmas
pub mod TokenLemmas
