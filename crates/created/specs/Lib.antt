-- `Groups`: the groups that report grants. `Entries`: the list of grants, and the rows of a plan that it is filled from.
pub mod Groups
pub mod Entries
