-- `GroupSteps`: what the writers of one grant's group leave. `EntryLaws`: entries of the list, from rows. `ListLaws`: the list as it is
-- filled and written.
pub mod GroupSteps
pub mod EntryLaws
pub mod ListLaws
