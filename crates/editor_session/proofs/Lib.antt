pub mod LossLemmas
pub mod FormatLemmas
pub mod ReplyLemmas
pub mod TellLemmas
