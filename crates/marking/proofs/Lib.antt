-- `Looking`: holds by octets, and the look back. `Steps`: one hold more. `Answers`: the answers for one record. `Walking`: the walk over
-- an area. `Admitting`: a session's slot. `Through`: the slots of a table. `Entering`: with the addresses.
-- `AddressSteps`: one record. `AddressAreas`: an area. `AddressSlots`: a session's slot.
-- `AddressThere`: what a sound slot says of its addresses.
pub mod Looking
pub mod Steps
pub mod Answers
pub mod Walking
pub mod Admitting
pub mod Through
pub mod Entering
pub mod Joining
pub mod WalkLaws
pub mod MapWalk
pub mod RecordWalk
pub mod SessionWalk
pub mod AddressWalk
pub mod AddressSteps
pub mod AddressAreas
pub mod AddressSlots
pub mod AddressThere
