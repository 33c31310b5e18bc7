mod FaultLemmas
pub mod KeptLemmas
mod ModuleLemmas
