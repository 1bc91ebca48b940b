pub mod Places
pub mod Faults
pub mod RowLaws
pub mod MemberLaws
pub mod GroupLaws
