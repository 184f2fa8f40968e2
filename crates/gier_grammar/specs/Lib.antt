pub mod GrammarSymbols
pub mod Productions
pub mod ParseTable
pub mod Paying
pub mod StackEntries
