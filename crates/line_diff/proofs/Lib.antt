pub mod DiffLemmas
pub mod SplitLemmas
