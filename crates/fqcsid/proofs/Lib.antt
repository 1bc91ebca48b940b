-- `ValueLaws`, `WriteLaws`: what the code tests, reads and writes, in the rules' terms. `TripLaws`: reading and writing are inverse.
pub mod ValueLaws
pub mod WriteLaws
pub mod TripLaws
