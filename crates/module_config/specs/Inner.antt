-- Definitions for the code's own parts, which its inner contracts use. Nobody has to believe them.
pub mod Cut
pub mod Given
pub mod Listed
pub mod Looking
pub mod Reading
pub mod Said
