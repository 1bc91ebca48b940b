-- `Verdicts`: what an answer means. `Rows`: what a row of the plan holds while its group is read.
pub mod Verdicts
pub mod Rows
