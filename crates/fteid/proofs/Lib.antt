-- `ValueLaws`: what the code tests, reads and writes, in the rules' terms. `TripLaws`: reading and writing are inverse.
pub mod ValueLaws
pub mod TripLaws
