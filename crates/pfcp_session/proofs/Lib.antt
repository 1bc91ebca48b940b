-- `CallLaws`: the calls' answers as numbers; `ToldLaws`: what a table told, or zeros beside an outcome.
pub mod CallLaws
pub mod ToldLaws
