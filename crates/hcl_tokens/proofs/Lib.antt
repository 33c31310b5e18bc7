pub mod BooleanLemmas
pub mod ByteKindLemmas
pub mod TokenEntryLemmas
pub mod OneReadingLemmas
pub mod NonemptyLemmas
pub mod ExpressionKindLemmas
