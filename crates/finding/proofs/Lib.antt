pub mod PlaceLaws
pub mod HoldLaws
pub mod Steps
pub mod ShareLaws
