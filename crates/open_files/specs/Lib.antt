pub mod Examples
pub mod OpenTexts
pub mod UriExamples
pub mod Uris
pub mod Views
