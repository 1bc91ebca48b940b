-- `Meaning`: the rules' value and answer for each case of the code's. `Trips`: reading and writing are inverse.
pub mod Meaning
pub mod Trips
