-- `Meaning`: the rules' answer for each case of the reader's. `Trips`: reading and writing are inverse.
pub mod Meaning
pub mod Trips
