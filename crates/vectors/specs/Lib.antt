-- `First`: the first refusal of two answers.
pub mod First
