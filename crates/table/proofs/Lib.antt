-- `Walks`: the walk over slots and the rule on TEIDs. `SoundLaws`: the tests on octets say just that a table is not broken.
-- `SoundSlots`: the slots of a table that is not broken.
-- `Examining`, `MakeLaws`: the code's answers. `Encoded`: a table is not broken exactly when it is encoded.
pub mod Walks
pub mod SoundLaws
pub mod SoundSlots
pub mod Examining
pub mod MakeLaws
pub mod Encoded
