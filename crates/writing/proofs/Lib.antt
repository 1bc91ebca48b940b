-- `PlacedLaws`: pieces written one after the other. `ElementSteps`: what each function leaves.
pub mod PlacedLaws
pub mod ElementSteps
