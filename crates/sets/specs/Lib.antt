-- `Listed`: what a set deletion lists, and the sessions that go.
pub mod Listed
