-- `ListLaws`: what is listed. `CoverLaws`: what it covers. `GoneLaws`: the sessions that go.
pub mod ListLaws
pub mod CoverLaws
pub mod GoneLaws
