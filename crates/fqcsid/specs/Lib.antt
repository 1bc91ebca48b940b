-- `Meaning`: the value that the code's struct means. `Trips`: reading and writing are inverse.
pub mod Meaning
pub mod Trips
