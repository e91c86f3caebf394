pub mod RowLaws
pub mod CallLaws
