pub mod ServedLaws
pub mod OnceLaws
pub mod StoreKept
pub mod Reaching
pub mod Repeating
