-- `ReplySteps`: what each function leaves. `LengthLaws`: how long replies are. `CallerLaws`: what callers need.
pub mod LengthLaws
pub mod ReplySteps
pub mod CallerLaws
