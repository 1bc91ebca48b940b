-- `Meaning`: which of the rules' settings a value of the code stands for.
pub mod Meaning
