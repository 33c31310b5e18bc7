pub mod Refusals
pub mod Looks
pub mod Reports
pub mod Runs
pub mod States
pub mod Tally
pub mod GoodRuns
pub mod Inner
