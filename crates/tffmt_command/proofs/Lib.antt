pub mod AnswerLemmas
pub mod PrintAgainLemmas
