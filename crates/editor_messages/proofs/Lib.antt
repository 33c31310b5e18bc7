pub mod DiagnosticLemmas
pub mod EditTokenLemmas
pub mod IntegerLemmas
pub mod ItemLemmas
pub mod NamedLemmas
pub mod NestingLemmas
pub mod ReplyLemmas
