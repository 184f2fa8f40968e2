pub mod ReadSymbols
pub mod AssembledSymbols
pub mod Slack
pub mod MarkedExpressions
pub mod MarkedParts
pub mod MarkedPrograms
