-- A table is not broken exactly when it is what allowed settings and sessions encode to, and these are what it is read as.
-- Assumes nothing.
use mathlib.Core.Path.{◌≡◌, sym, ap, subst, ◌∙◌}
use Prim.Native.Nat.{ℕ}
use mathlib.Core.List.{List}
use lib.Dec.{T}
use Rattle.rules.specs.Model.{Settings, Sessions}
use Rattle.rules.specs.Layout.{encode, view_settings, view_sessions}
use Rattle.rules.specs.Sound.{settings_allowed, sessions_allowed, sound}
use Rattle.laws.proofs.KeptRules.{table_kept}
use Rattle.laws.proofs.TableLaws.{encoded_settings, sessions_back, sound_encode}

-- octets that encode settings and sessions that keep the rules
pub record Encoded (t : List ℕ) (s : Settings) (m : Sessions) : Type 0 where
  pub settings : T (settings_allowed s)
  pub sessions : T (sessions_allowed s m)
  pub whole : t ≡ encode s m

-- a table that is not broken encodes what it is read as
pub sound_encoded : (t : List ℕ) → T (sound t) → Encoded t (view_settings t) (view_sessions t)
sound_encoded t h = let k = table_kept t h in record { settings = k.settings; sessions = k.sessions; whole = sym k.encoded }

module _ (t : List ℕ) (s : Settings) (m : Sessions) (e : Encoded t s m) where
  -- what allowed settings and sessions encode to is not broken
  pub encoded_sound : T (sound t)
  encoded_sound = subst (λ (x : List ℕ). T (sound x)) (sym e.whole) (sound_encode s e.settings m e.sessions)

  -- and is read as just these
  pub encoded_view_settings : view_settings t ≡ s
  encoded_view_settings = ap view_settings e.whole ∙ encoded_settings s e.settings m e.sessions

  pub encoded_view_sessions : view_sessions t ≡ m
  encoded_view_sessions = ap view_sessions e.whole ∙ sessions_back s e.settings m e.sessions
