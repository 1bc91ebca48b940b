-- One call on two tables that hold sessions which are alike: the same answer, and tables that hold sessions which are alike again.
-- Assumes nothing.
use mathlib.Core.Path.{◌≡◌, refl, sym, ap, ap₂, ◌∙◌, subst}
use Prim.Native.Nat.{ℕ}
use mathlib.Core.Bool.{Bool, true, false, not}
use mathlib.Core.List.{List, []}
use lib.ListN.{length}
use lib.Dec.{T, ltb, eqb, eqb→eq}
use Rattle.octets.specs.Choice.{pick}
use Rattle.octets.specs.Octets.{octets, put}
use Rattle.octets.proofs.Tests.{of_true, pick_yes}
use Rattle.octets.proofs.Put.{put_nil}
use Rattle.octets.proofs.ListLaws.{not_not}
use Rattle.rules.specs.Limits.{max_message, min_space}
use Rattle.rules.specs.Model.{is_peer, Settings, Sessions, free_count, free_address_count}
use Rattle.rules.specs.Layout.{encode}
use Rattle.rules.specs.Sound.{settings_allowed, sessions_allowed, sound, free, broken, count_free, count_addresses}
use Rattle.rules.specs.Message.{kind_of, header_allowed, served}
use Rattle.rules.specs.Reading.{read_request}
use Rattle.rules.specs.Grants.{Kind, Got}
use Rattle.rules.specs.Stages.{Verdict, verdict}
use Rattle.rules.specs.Reply.{reports, reply}
use Rattle.rules.specs.Serve.{Served, unserved, sessions_after, reply_to, answered, answer, serve_sound, serve_of, serve}
use Rattle.rules.specs.Causes as why
use Rattle.laws.proofs.TableLaws.{sound_encode, encoded_settings, sessions_back}
use Rattle.invariants.proofs.Steps.{AcceptedKeeps}
use Rattle.invariants.proofs.ServeLaws.{accepted_keeps}
use Rattle.rules.specs.Bare.{Alike}
use Rattle.laws.proofs.BareLaws.{verdict_alike, granted_alike, count_alike, address_count_alike}
use Rattle.laws.proofs.BareAfter.{after_alike}

-- ---- two tables that hold sessions with the settings s, which are alike

pub record Pair (s : Settings) (t u : List ℕ) : Type 0 where
  pub one : Sessions
  pub other : Sessions
  pub one_kept : T (sessions_allowed s one)
  pub other_kept : T (sessions_allowed s other)
  pub one_table : t ≡ encode s one
  pub other_table : u ≡ encode s other
  pub alike : Alike one other

-- one answer on each
pub record Agreed (s : Settings) (reply : List ℕ) (space other : List ℕ) (a b : Served) : Type 0 where
  pub outcome : a.outcome ≡ b.outcome
  pub place : a.place ≡ b.place
  pub one_space : a.space ≡ put 0 (pick (eqb a.outcome 0) reply []) space
  pub other_space : b.space ≡ put 0 (pick (eqb b.outcome 0) reply []) other
  pub tables : Pair s a.table b.table

-- one of two, by one test, or by two that are equal
either : (R : Served → Served → Type 0) (b : Bool) (v v' w w' : Served) → R v v' → (T (not b) → R w w') → R (pick b v w) (pick b v' w')
either R true v v' w w' f g = f
either R false v v' w w' f g = g tt

either_same : (R : Served → Served → Type 0) (b c : Bool) → b ≡ c → (v v' w w' : Served) → R v v' → (T (not b) → R w w') → R (pick b v w) (pick c v' w')
either_same R b c e v v' w w' f g = subst (λ (d : Bool). R (pick b v w) (pick d v' w')) e (either R b v v' w w' f g)

-- on a table that holds sessions
served_encoded : (s : Settings) → T (settings_allowed s) → (m : Sessions) → T (sessions_allowed s m) → (who : ℕ) (msg space : List ℕ)
    → serve_of (encode s m) who msg space ≡ serve_sound s who m (encode s m) msg space
unfolding serve_of
served_encoded s hs m hm who msg space =
    pick_yes (sound (encode s m)) _ _ (sound_encode s hs m hm)
    ∙ ap₂ (λ (s' : Settings) (m' : Sessions). serve_sound s' who m' (encode s m) msg space) (encoded_settings s hs m hm) (sessions_back s hs m hm)

module _ (s : Settings) (hs : T (settings_allowed s)) (m n : Sessions) (hm : T (sessions_allowed s m)) (hn : T (sessions_allowed s n)) (e : Alike m n) where
  -- ---- the reply

  pub reply_alike : (who : ℕ) (msg : List ℕ) → reply_to s who m msg (verdict s who m msg) ≡ reply_to s who n msg (verdict s who n msg)
  unfolding reply_to
  reply_alike who msg =
      ap₂ (λ (v : Verdict) (got : Kind → ℕ → Got). reply s who msg (read_request msg).seid v (reports got (read_request msg))) (verdict_alike s m n e who msg) (granted_alike s m n e (read_request msg))

  -- ---- the counts

  counted_encoded : (l : Sessions) → T (sessions_allowed s l) → count_free (encode s l) ≡ free (free_count s l)
  unfolding count_free
  counted_encoded l hl =
      pick_yes (sound (encode s l)) _ broken (sound_encode s hs l hl)
      ∙ ap₂ (λ (s' : Settings) (l' : Sessions). free (free_count s' l')) (encoded_settings s hs l hl) (sessions_back s hs l hl)

  pub counts_alike : count_free (encode s m) ≡ count_free (encode s n)
  counts_alike = counted_encoded m hm ∙ ap free (count_alike s m n e) ∙ sym (counted_encoded n hn)

  addresses_encoded : (l : Sessions) → T (sessions_allowed s l) → count_addresses (encode s l) ≡ free (free_address_count s l)
  unfolding count_addresses
  addresses_encoded l hl =
      pick_yes (sound (encode s l)) _ broken (sound_encode s hs l hl)
      ∙ ap₂ (λ (s' : Settings) (l' : Sessions). free (free_address_count s' l')) (encoded_settings s hs l hl) (sessions_back s hs l hl)

  pub address_counts_alike : count_addresses (encode s m) ≡ count_addresses (encode s n)
  address_counts_alike = addresses_encoded m hm ∙ ap free (address_count_alike s m n e) ∙ sym (addresses_encoded n hn)

  -- ---- a request

  module _ (who : ℕ) (msg space other : List ℕ) (ho : T (octets msg)) (long : length space ≡ length other) where
    abbrev answer_octets : List ℕ
    answer_octets = reply_to s who m msg (verdict s who m msg)

    abbrev R : Served → Served → Type 0
    R a b = Agreed s answer_octets space other a b

    as_found : (k : ℕ) → eqb k 0 ≡ false → R (unserved k space (encode s m)) (unserved k other (encode s n))
    as_found k z =
        record {
          outcome = refl;
          place = refl;
          one_space = kept space;
          other_space = kept other;
          tables = record { one = m; other = n; one_kept = hm; other_kept = hn; one_table = refl; other_table = refl; alike = e };
        }
      where
        kept : (l : List ℕ) → l ≡ put 0 (pick (eqb k 0) answer_octets []) l
        kept l = sym (ap (λ (b : Bool). put 0 (pick b answer_octets []) l) z ∙ put_nil 0 l)

    -- the sessions after an accepted request
    after_kept : T (is_peer who) → (l : Sessions) (sp : List ℕ) → T (sessions_allowed s l) → T (header_allowed msg) → T (served (kind_of msg)) → (verdict s who l msg).cause ≡ why.accepted → T (sessions_allowed s (sessions_after s who l msg))
    unfolding AcceptedKeeps
    after_kept hw l sp hl hh hk c = (accepted_keeps s who l msg sp hw hs hl ho hh hk c).sound

    tables_after : T (is_peer who) → T (header_allowed msg) → T (served (kind_of msg)) → (b : Bool) → eqb (verdict s who m msg).cause why.accepted ≡ b
        → Pair s (pick b (encode s (sessions_after s who m msg)) (encode s m)) (pick b (encode s (sessions_after s who n msg)) (encode s n))
    tables_after hw hh hk false z = record { one = m; other = n; one_kept = hm; other_kept = hn; one_table = refl; other_table = refl; alike = e }
    tables_after hw hh hk true z =
        let c = eqb→eq (verdict s who m msg).cause why.accepted (of_true z) in
        record {
          one = sessions_after s who m msg;
          other = sessions_after s who n msg;
          one_kept = after_kept hw m space hm hh hk c;
          other_kept = after_kept hw n other hn hh hk (sym (ap (λ (v : Verdict). v.cause) (verdict_alike s m n e who msg)) ∙ c);
          one_table = refl;
          other_table = refl;
          alike = after_alike s who m n msg e;
        }

    answers_agree : T (is_peer who) → T (header_allowed msg) → T (served (kind_of msg)) → R (answer s who m msg space (encode s m)) (answer s who n msg other (encode s n))
    unfolding answer answered
    answers_agree hw hh hk =
        let v = verdict_alike s m n e who msg in
        record {
          outcome = refl;
          place = ap (λ (w : Verdict). w.place) v;
          one_space = refl;
          other_space = ap (λ (l : List ℕ). put 0 l other) (sym (reply_alike who msg));
          tables =
              subst (λ (w : Verdict). Pair s (pick (eqb (verdict s who m msg).cause why.accepted) (encode s (sessions_after s who m msg)) (encode s m)) (pick (eqb w.cause why.accepted) (encode s (sessions_after s who n msg)) (encode s n))) v
              (tables_after hw hh hk (eqb (verdict s who m msg).cause why.accepted) refl);
        }

    sound_agree : T (is_peer who) → R (serve_sound s who m (encode s m) msg space) (serve_sound s who n (encode s n) msg other)
    unfolding serve_sound
    sound_agree hw =
        either_same R (ltb (length space) min_space) (ltb (length other) min_space) (ap (λ (k : ℕ). ltb k min_space) long) _ _ _ _ (as_found 2 refl)
        (λ h2. either R (ltb max_message (length msg)) _ _ _ _ (as_found 3 refl)
        (λ h3. either R (not (header_allowed msg)) _ _ _ _ (as_found 4 refl)
        (λ h4. either R (not (served (kind_of msg))) _ _ _ _ (as_found 5 refl)
        (λ h5. answers_agree hw (not_not (header_allowed msg) h4) (not_not (served (kind_of msg)) h5)))))

    of_agree : T (is_peer who) → R (serve_of (encode s m) who msg space) (serve_of (encode s n) who msg other)
    of_agree hw =
        subst (λ (b : Served). R (serve_of (encode s m) who msg space) b) (sym (served_encoded s hs n hn who msg other))
        (subst (λ (a : Served). R a (serve_sound s who n (encode s n) msg other)) (sym (served_encoded s hs m hm who msg space)) (sound_agree hw))

    pub serve_agree : R (serve (encode s m) who msg space) (serve (encode s n) who msg other)
    unfolding serve
    serve_agree = by_peer (is_peer who) refl
      where
        by_peer : (b : Bool) → is_peer who ≡ b → R (pick b (serve_of (encode s m) who msg space) (unserved 7 space (encode s m))) (pick b (serve_of (encode s n) who msg other) (unserved 7 other (encode s n)))
        by_peer true z = of_agree (of_true z)
        by_peer false z = as_found 7 refl
