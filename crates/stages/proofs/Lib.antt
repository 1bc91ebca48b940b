pub mod IdLaws
pub mod SlotLaws
pub mod CountLaws
pub mod RuleLaws
pub mod CauseLaws
pub mod VerdictLaws
pub mod EntryLaws
pub mod ShareLaws
