pub mod LineLemmas
pub mod ClusterLemmas
pub mod ShownLemmas
