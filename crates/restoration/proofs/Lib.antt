-- `RecordSteps`: what the writers of records leave. `KindLaws`: records by their kind; addresses. `AreaLaws`: the walk over an area. `SlotSteps`: a session's records. `SoundSlots`: the slots of a sound table. `RequestSteps`: the whole request, and the answers.
pub mod RecordSteps
pub mod KindLaws
pub mod AreaLaws
pub mod SlotSteps
pub mod SoundSlots
pub mod RequestSteps
