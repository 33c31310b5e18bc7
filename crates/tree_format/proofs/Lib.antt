pub mod KeptFormatLemmas
pub mod OneRunLemmas
pub mod RealLemmas
pub mod FileRunLemmas
pub mod SomeRunLemmas
