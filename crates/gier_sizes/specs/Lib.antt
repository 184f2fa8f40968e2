pub mod Symbols
pub mod SymbolExamples
pub mod Text3
pub mod Text3Examples
