pub mod RankLemmas
pub mod RuleNameLemmas
pub mod SetLemmas
