-- `Calls`: what the host's calls answer and leave.
pub mod Calls
