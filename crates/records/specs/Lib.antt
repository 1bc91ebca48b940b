-- `Kept`: which octets of a slot are those of a record that keeps the rules.
-- `Slot`: which octets of a session's slot are those of a session that keeps the rules but for the one on shared TEIDs.
pub mod Kept
pub mod Slot
