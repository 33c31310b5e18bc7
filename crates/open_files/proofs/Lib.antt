pub mod EncodeLemmas
pub mod OpenLemmas
pub mod UriLemmas
