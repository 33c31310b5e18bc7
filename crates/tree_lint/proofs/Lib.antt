pub mod CommentLemmas
mod FileLemmas
pub mod NameLemmas
mod PartedLemmas
mod ShownLemmas
mod TreeRunLemmas
