-- `Failure`: the exit status of a run that is no success.
pub mod Failure
