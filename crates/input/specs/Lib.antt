-- `Parts`: octets cut into parts, each after its length.
pub mod Parts
