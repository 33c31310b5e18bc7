pub mod PathLemmas
pub mod ProgramRunLemmas
pub mod UsageLemmas
