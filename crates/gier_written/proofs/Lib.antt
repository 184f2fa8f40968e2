pub mod RenamedExpressions
pub mod HoistedStatements
pub mod FramedPrograms
