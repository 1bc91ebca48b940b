pub mod RestorationApply
pub mod RestorationJudge
pub mod PeersRestored
pub mod RestoreAll
pub mod Runs
pub mod Sequence
pub mod Demand3
pub mod Unwinding
