pub mod Described
pub mod Expressions
pub mod InScope
pub mod FewNames
pub mod Hoisted
pub mod Fair
pub mod Laws
pub mod Examples
