-- `Runs`: calls one after the other; `Accident`: what must not happen in any run; `Restorations`: what the requests that restore a table are
-- good for; `Findings`: what the reading calls' places say; `Traffic`: runs in which repeats get the old reply; `Departed`: no memory of what is
-- gone; `Due`: what each peer is due.
pub mod Runs
pub mod Accident
pub mod Restorations
pub mod Findings
pub mod Traffic
pub mod Departed
pub mod Due
