pub mod Rules
pub mod RuleSets
