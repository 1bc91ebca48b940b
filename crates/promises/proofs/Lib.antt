-- `RunLaws`: demand 3 of the calls; `AccidentLaws`: the accident does not happen; `RestorationLaws`: what was written restores the table;
-- `FindingLaws`: a place that was found is the one there is; `TrafficLaws`: repeats get the old reply; `DepartedLaws`: no memory of what is
-- gone; `DueLaws`: each peer has its due; `OthersLaws`: a request leaves the other peer's sessions as they are; `HomeLaws`: a reply names the
-- unit by the peer's address; `RunExamples`: a run computed.
pub mod RunLaws
pub mod AccidentLaws
pub mod RestorationLaws
pub mod FindingLaws
pub mod TrafficLaws
pub mod DepartedLaws
pub mod DueLaws
pub mod OthersLaws
pub mod HomeLaws
pub mod RunExamples
