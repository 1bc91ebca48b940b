-- `OctetLaws`: laws of general use. `FlagLaws`: bits of a flags octet. `AnswerLaws`: what readers answer and writers leave.
-- `TripLaws`: that reading and writing are inverse, of the code by its contracts where the rules have it.
pub mod OctetLaws
pub mod AnswerLaws
pub mod FlagLaws
pub mod TripLaws
