pub mod ModuleLemmas
pub mod ShownLemmas
pub mod TextLemmas
