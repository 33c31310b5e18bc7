pub mod AddsLemmas
pub mod NumberLemmas
pub mod NumberingLemmas
pub mod SarifLemmas
pub mod ShapeLemmas
pub mod ValuesLemmas
pub mod WholeLemmas
pub mod XmlLemmas
