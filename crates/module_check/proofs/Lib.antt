mod CheckLemmas
pub mod ColumnLemmas
pub mod FaultLemmas
pub mod FrontClusterLemmas
pub mod LineStartLemmas
pub mod MarkLemmas
pub mod PlaceMarkLemmas
