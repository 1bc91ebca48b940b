-- A table with PDRs' precedences and FAR IDs blank is the table of the bare sessions.
-- Assumes nothing.
use mathlib.Core.Path.{◌≡◌, refl, sym, ap, ap₂, ◌∙◌}
use Prim.Native.Nat.{ℕ, zero, suc, ◌+◌, ◌-◌, ◌*◌, ◌≤◌}
use native.Mathlib.Nat.{suc-mul}
use native.Mathlib.Omega.{arith}
use mathlib.Core.Bool.{Bool, true}
use mathlib.Core.List.{List, [], ◌∷◌, ◌++◌, map, append_assoc, append-nil}
use lib.ListN.{length, take, drop, length-append, length-map}
use lib.Dec.{T}
use lib.Seq.{take_at, drop_at}
use Rattle.octets.specs.Octets.{be, put, zeros, padded, concat_map}
use Rattle.octets.specs.Fields.{field_octets}
use Rattle.octets.specs.Lists.{all}
use Rattle.octets.proofs.Tests.{all_head, all_tail}
use Rattle.octets.proofs.Numbers.{length_be, length_zeros, zeros_split}
use Rattle.octets.proofs.ListLaws.{all_always}
use Rattle.rules.specs.Model.{Settings, Pdr, Session, Sessions, endpoint_id}
use Rattle.rules.specs.Limits.{max_pdrs, max_endpoints, node_types}
use Rattle.rules.specs.Layout.{pdr_width, endpoint_width, csid_width, session_width, head_width, pdr_numbers, area, pdr_octets, endpoint_octets, csid_octets, session_octets, settings_octets, encode}
use Rattle.rules.specs.Sound.{settings_allowed, pdr_allowed, session_allowed, sessions_allowed}
use Rattle.laws.proofs.LayoutLaws.{length_area, length_pdr, length_session, pdrs_ok, few_pdrs}
use Rattle.laws.proofs.KeptRules.{sessions_kept}
use Rattle.laws.proofs.PeerLaws.{all_sessions}
use Rattle.laws.proofs.TableLaws.{length_settings, encoded_settings}
use Rattle.rules.specs.Bare.{bare_pdr, bare_session, bare, Alike, each_part, blank_pdr, blank_session, blank_table}

-- ---- an area, part by part

module _ {A : Type 0} (f : A → List ℕ) (w : ℕ) where
  area_first : (k : ℕ) (r : A) (rs : List A) → length (f r) ≡ w → area f w (suc k) (r ∷ rs) ≡ f r ++ area f w k rs
  unfolding area padded concat_map
  area_first k r rs e = append_assoc (f r) (concat_map f rs) _ ∙ ap (λ (n : ℕ). f r ++ (concat_map f rs ++ zeros n)) left
    where
      left : suc k * w - length (f r ++ concat_map f rs) ≡ k * w - length (concat_map f rs)
      left = let a = suc-mul k w in let b = length-append (f r) (concat_map f rs) in omega arith

  area_free : (k : ℕ) → area f w (suc k) [] ≡ zeros w ++ area f w k []
  unfolding area padded concat_map
  area_free k = ap zeros left ∙ zeros_split w (k * w - 0)
    where
      left : suc k * w - 0 ≡ w + (k * w - 0)
      left = let a = suc-mul k w in omega arith

-- what is done to each part of an area is done to each record, and to the room that is left
module _ {A B : Type 0} (f : A → List ℕ) (g : B → List ℕ) (b : A → B) (w : ℕ) (h : List ℕ → List ℕ) (p : A → Bool)
    (wide : (a : A) → T (p a) → length (f a) ≡ w) (wide' : (a : A) → T (p a) → length (g (b a)) ≡ w) (done : (a : A) → T (p a) → h (f a) ≡ g (b a)) (room : h (zeros w) ≡ zeros w) where
  each_free : (k : ℕ) (post : List ℕ) → each_part h w k (area f w k [] ++ post) ≡ area g w k [] ++ post
  unfolding each_part
  each_free zero post = unfold area padded concat_map in refl
  each_free (suc k) post =
      let e = length_zeros w in
      ap (λ (l : List ℕ). h (take w l) ++ each_part h w k (drop w l)) (ap (λ (l : List ℕ). l ++ post) (area_free f w k) ∙ append_assoc (zeros w) (area f w k []) post)
      ∙ ap₂ (λ (l r : List ℕ). h l ++ each_part h w k r) (take_at (zeros w) (area f w k [] ++ post) w e) (drop_at (zeros w) (area f w k [] ++ post) w e)
      ∙ ap₂ ◌++◌ room (each_free k post)
      ∙ sym (append_assoc (zeros w) (area g w k []) post)
      ∙ ap (λ (l : List ℕ). l ++ post) (sym (area_free g w k))

  each_area : (k : ℕ) (rs : List A) → T (all p rs) → length rs ≤ k → (post : List ℕ) → each_part h w k (area f w k rs ++ post) ≡ area g w k (map b rs) ++ post
  unfolding each_part
  each_area k [] ok few post = each_free k post
  each_area zero (r ∷ rs) ok few post = absurd (omega arith)
  each_area (suc k) (r ∷ rs) ok few post =
      let e = wide r (all_head p r rs ok) in
      ap (λ (l : List ℕ). h (take w l) ++ each_part h w k (drop w l)) (ap (λ (l : List ℕ). l ++ post) (area_first f w k r rs e) ∙ append_assoc (f r) (area f w k rs) post)
      ∙ ap₂ (λ (l t : List ℕ). h l ++ each_part h w k t) (take_at (f r) (area f w k rs ++ post) w e) (drop_at (f r) (area f w k rs ++ post) w e)
      ∙ ap₂ ◌++◌ (done r (all_head p r rs ok)) (each_area k rs (all_tail p r rs ok) (omega arith) post)
      ∙ sym (append_assoc (g (b r)) (area g w k (map b rs)) post)
      ∙ ap (λ (l : List ℕ). l ++ post) (sym (area_first g w k (b r) (map b rs) (wide' r (all_head p r rs ok))))

-- ---- a PDR, a session

blank_pdr_lem : (p : Pdr) → blank_pdr (pdr_octets p) ≡ pdr_octets (bare_pdr p)
unfolding blank_pdr pdr_octets pdr_numbers field_octets put be zeros
blank_pdr_lem p = refl

blank_room : blank_pdr (zeros pdr_width) ≡ zeros pdr_width
unfolding blank_pdr put zeros
blank_room = refl

session_room : blank_session (zeros session_width) ≡ zeros session_width
unfolding blank_session each_part blank_pdr put zeros
session_room = refl

module _ (s : Settings) (hs : T (settings_allowed s)) where
  blank_session_lem : (x : Session) → T (session_allowed s x) → blank_session (session_octets x) ≡ session_octets (bare_session x)
  unfolding blank_session session_octets be
  blank_session_lem x hx =
      let rest : List ℕ = area endpoint_octets endpoint_width max_endpoints x.endpoints ++ area csid_octets csid_width node_types x.csids in
      ap₂ (λ (n : ℕ) (l : List ℕ). x.peer ∷ be 8 x.seid ++ (n ∷ length x.endpoints ∷ length x.csids ∷ l)) (sym (length-map x.pdrs bare_pdr))
      (each_area pdr_octets pdr_octets bare_pdr pdr_width blank_pdr (pdr_allowed s (map endpoint_id x.endpoints)) (λ p h. length_pdr p) (λ p h. length_pdr (bare_pdr p)) (λ p h. blank_pdr_lem p) blank_room
      max_pdrs x.pdrs (pdrs_ok s hs x hx) (few_pdrs s hs x hx) rest)

  -- a bare session fills its slot
  bare_wide : (x : Session) → T (session_allowed s x) → length (session_octets (bare_session x)) ≡ session_width
  unfolding session_octets be
  bare_wide x hx =
      let rest : List ℕ = area endpoint_octets endpoint_width max_endpoints x.endpoints ++ area csid_octets csid_width node_types x.csids in
      let one = length-append (area pdr_octets pdr_width max_pdrs x.pdrs) rest in
      let other = length-append (area pdr_octets pdr_width max_pdrs (map bare_pdr x.pdrs)) rest in
      let few = few_pdrs s hs x hx in
      let full = pdrs_wide x.pdrs few in
      let full' = pdrs_wide (map bare_pdr x.pdrs) (rw length-map few) in
      let whole : length (session_octets x) ≡ session_width = length_session s hs x hx in
      omega arith
    where
      pdrs_wide : (ps : List Pdr) → length ps ≤ max_pdrs → length (area pdr_octets pdr_width max_pdrs ps) ≡ max_pdrs * pdr_width
      pdrs_wide ps few = length_area pdr_octets pdr_width (λ p. true) (λ p h. length_pdr p) max_pdrs ps (all_always (λ p. true) (λ p. tt) ps) few

  -- ---- a table

  pub blank_table_lem : (m : Sessions) → T (sessions_allowed s m) → blank_table (encode s m) ≡ encode s (bare m)
  unfolding blank_table
  blank_table_lem m hm =
      let head : List ℕ = settings_octets s ++ be 2 (length m) in
      let slots : List ℕ = area session_octets session_width s.limit m in
      let long : length head ≡ head_width = length-append (settings_octets s) (be 2 (length m)) ∙ ap₂ ◌+◌ (length_settings s hs) (length_be 2 (length m)) in
      ap₂ (λ (k : ℕ) (l : List ℕ). take head_width l ++ each_part blank_session session_width k (drop head_width l)) (ap (λ (u : Settings). u.limit) (encoded_settings s hs m hm)) (encoded m)
      ∙ ap₂ (λ (l r : List ℕ). l ++ each_part blank_session session_width s.limit r) (take_at head slots head_width long) (drop_at head slots head_width long ∙ sym (append-nil slots))
      ∙ ap (λ (l : List ℕ). head ++ l)
      (each_area session_octets session_octets bare_session session_width blank_session (session_allowed s) (length_session s hs) bare_wide blank_session_lem session_room
      s.limit m (sessions_kept s m hm).sessions (all_sessions s m hm) []
      ∙ append-nil (area session_octets session_width s.limit (bare m)))
      ∙ ap (λ (k : ℕ). (settings_octets s ++ be 2 k) ++ area session_octets session_width s.limit (bare m)) (sym (length-map m bare_session))
      ∙ sym (encoded (bare m))
    where
      encoded : (l : Sessions) → encode s l ≡ (settings_octets s ++ be 2 (length l)) ++ area session_octets session_width s.limit l
      encoded l = unfold encode in (sym (append_assoc (settings_octets s) (be 2 (length l)) (area session_octets session_width s.limit l)))

  -- tables of sessions that are alike differ at most in these fields
  pub blank_alike : (m n : Sessions) → T (sessions_allowed s m) → T (sessions_allowed s n) → Alike m n → blank_table (encode s m) ≡ blank_table (encode s n)
  blank_alike m n hm hn e = blank_table_lem m hm ∙ ap (encode s) e ∙ sym (blank_table_lem n hn)
