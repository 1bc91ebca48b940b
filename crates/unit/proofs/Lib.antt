-- `ReadLaws`: the settings read from octets. `AllowedLaws`: which are allowed. `WriteLaws`: what the writer leaves. `FieldLaws`: what
-- the fields say of the rules' settings.
pub mod ReadLaws
pub mod AllowedLaws
pub mod WriteLaws
pub mod FieldLaws
