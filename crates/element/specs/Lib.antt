-- `Answers`: what the readers and writers answer, in the rules' terms. `Trips`: what it means that reading and writing are inverse.
pub mod Answers
pub mod Trips
