mod CollectLemmas
mod EndingLemmas
mod LineLemmas
mod RequestLemmas
mod UsageLemmas
