pub mod PlanLemmas
pub mod RunLemmas
pub mod StoredLemmas
pub mod UseLemmas
