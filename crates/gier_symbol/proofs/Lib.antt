pub mod WordRules
