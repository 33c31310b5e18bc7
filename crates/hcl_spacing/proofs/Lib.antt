pub mod KindLemmas
pub mod KindPairLemmas
pub mod SpacingLemmas
pub mod JoiningLemmas
