pub mod CutLemmas
pub mod EditLemmas
pub mod IndexLemmas
pub mod MadeLemmas
pub mod OffsetLemmas
pub mod PlaceLemmas
pub mod WalkLemmas
