-- What the proofs of several functions use.
-- What the proofs of several functions and of other crates use.
pub mod Among
pub mod Walk
pub mod HeaderLaws
pub mod MessageFrame
pub mod ServeLaws
pub mod Front
