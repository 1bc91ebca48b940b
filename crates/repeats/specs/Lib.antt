-- `Steps`: what the code leaves on each way of a request.
pub mod Steps
