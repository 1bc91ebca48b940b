-- `Hex`: octets as hexadecimal digits.
pub mod Hex
