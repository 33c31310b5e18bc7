mod ListLemmas
mod LookLemmas
mod ReadLemmas
mod SettledLemmas
mod WordLemmas
