-- `Requests`: what reading a request gives. `Items`, `Csids`: what was read so far, and the words of an FQ-CSID, for the functions inside this
-- crate.
pub mod Requests
pub mod Items
pub mod Csids
