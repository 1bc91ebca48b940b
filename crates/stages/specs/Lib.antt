pub mod RowRules
pub mod Rules
