-- `Parts`: the parts of a reply that the rules have no name for. `Naming`: the element at fault.
pub mod Parts
pub mod Naming
