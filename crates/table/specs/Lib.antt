-- `Tests`: the tests of a table that is not broken, on its octets. `Answers`: what the calls answer.
pub mod Tests
pub mod Answers
