-- The tables before names with `::`, to state that older files are read and printed as before.
pub mod Tokens
pub mod Rows
pub mod Prints
