-- The reply's cause is read back from the reply space.
-- Assumes nothing.
use mathlib.Core.Path.{◌≡◌, sym, ap, ◌∙◌}
use Prim.Native.Nat.{ℕ, suc, ◌+◌, ◌-◌, ◌^◌, ◌≤◌, ◌<◌, suc-le-suc}
use native.Mathlib.Nat.{le_trans, le_of_eq}
use native.Mathlib.Omega.{arith}
use mathlib.Core.Bool.{Bool, true, false, ◌||◌}
use mathlib.Core.Option.{Option, some}
use mathlib.Core.List.{List, [], ◌∷◌, ◌++◌}
use lib.ListN.{length, take, drop, length-append, length-drop}
use lib.Dec.{eqb, lit<, lit≤}
use lib.Seq.{take_at, drop_at, drop-drop, length-take-le}
use Rattle.octets.specs.Choice.{pick, value_or, map_option}
use Rattle.octets.specs.Octets.{be, part, bit, number_at, octet_at, put}
use Rattle.octets.specs.Lists.{find_by}
use Rattle.octets.proofs.Numbers.{number_be, length_be}
use Rattle.rules.specs.Model.{Settings, peer_of}
use Rattle.rules.specs.Message.{Element, elements, seid_there, header_length, body, kind_of, header_seid, sequence_of, has_type, content_in, content_of, establishment, set_deletion, body_place, list_place, counted_place}
use Rattle.laws.proofs.MessageLaws.{Fits, el, elements_cons}
use Rattle.rules.specs.Stages.{Verdict}
use Rattle.rules.specs.Reply.{Reports, element, message, list_message, node_id_element, offending_element, accepted_part, reply_body, reply_seid, reply}
use Rattle.rules.specs.Live.{reply_in, reply_elements, reply_cause}
use Rattle.rules.specs.Types as ie
use Rattle.rules.specs.Causes as why

small : {n : ℕ} → n ≤ 2048 → n < 256 ^ 2
small h = le_trans (suc-le-suc h) (lit≤ tt)

-- ---- a message in a space

module _ (kind seid : ℕ) (q xs space : List ℕ) (three : length q ≡ 3) (short : length xs ≤ 2000) where
  abbrev msg : List ℕ
  msg = message kind seid q xs

  length_message : length msg ≡ body_place + length xs
  unfolding message be
  length_message = let e = length-append q (0 ∷ xs) in omega arith

  number_there : number_at 2 2 (put 0 msg space) ≡ body_place - counted_place + length xs
  unfolding put number_at message be
  number_there = number_be 2 (body_place - counted_place + length xs) (small (omega arith))

  -- the reply is found in its space
  pub found : reply_in (put 0 msg space) ≡ msg
  unfolding reply_in put
  found =
      ap (λ (n : ℕ). take (counted_place + n) (put 0 msg space)) number_there
      ∙ take_at msg (drop (0 + length msg) space) (counted_place + (body_place - counted_place + length xs)) (length_message ∙ regroup (length xs))
    where
      regroup : (n : ℕ) → body_place + n ≡ counted_place + (body_place - counted_place + n)
      regroup n = omega arith

  pub body_there : body msg ≡ xs
  unfolding body header_length seid_there bit octet_at message be
  body_there = sym (drop-drop 1 3 (q ++ 0 ∷ xs)) ∙ ap (drop 1) (drop_at q (0 ∷ xs) 3 three)

  pub elements_there : reply_elements (put 0 msg space) ≡ elements 0 xs
  unfolding reply_elements
  elements_there = ap (λ (l : List ℕ). elements 0 (body l)) found ∙ ap (elements 0) body_there

-- the same of a message without a SEID
module _ (kind : ℕ) (q xs space : List ℕ) (three : length q ≡ 3) (short : length xs ≤ 2000) where
  length_list : length (list_message kind q xs) ≡ list_place + length xs
  unfolding list_message be
  length_list = let e = length-append q (0 ∷ xs) in omega arith

  list_number : number_at 2 2 (put 0 (list_message kind q xs) space) ≡ list_place - counted_place + length xs
  unfolding put number_at list_message be
  list_number = number_be 2 (list_place - counted_place + length xs) (small (omega arith))

  list_found : reply_in (put 0 (list_message kind q xs) space) ≡ list_message kind q xs
  unfolding reply_in put
  list_found =
      ap (λ (n : ℕ). take (counted_place + n) (put 0 (list_message kind q xs) space)) list_number
      ∙ take_at (list_message kind q xs) (drop (0 + length (list_message kind q xs)) space) (counted_place + (list_place - counted_place + length xs)) (length_list ∙ regroup (length xs))
    where
      regroup : (n : ℕ) → list_place + n ≡ counted_place + (list_place - counted_place + n)
      regroup n = omega arith

  list_body : body (list_message kind q xs) ≡ xs
  unfolding body header_length seid_there bit octet_at list_message be
  list_body = sym (drop-drop 1 3 (q ++ 0 ∷ xs)) ∙ ap (drop 1) (drop_at q (0 ∷ xs) 3 three)

  list_elements : reply_elements (put 0 (list_message kind q xs) space) ≡ elements 0 xs
  unfolding reply_elements
  list_elements = ap (λ (l : List ℕ). elements 0 (body l)) list_found ∙ ap (elements 0) list_body

-- ---- a reply in its space

module _ (s : Settings) (who : ℕ) (msg : List ℕ) (seid : ℕ) (v : Verdict) (gs : Reports) (space : List ℕ) (three : length (sequence_of msg) ≡ 3) (short : length (reply_body (kind_of msg) s (peer_of s who).address seid v gs) ≤ 2000) where
  abbrev kind : ℕ
  kind = kind_of msg + 1

  abbrev own : ℕ
  own = reply_seid (kind_of msg) v.cause (header_seid msg) seid

  abbrev xs : List ℕ
  xs = reply_body (kind_of msg) s (peer_of s who).address seid v gs

  pub own_found : reply_in (put 0 (reply s who msg seid v gs) space) ≡ reply s who msg seid v gs
  unfolding reply
  own_found = one (seid_there msg)
    where
      one : (b : Bool) → reply_in (put 0 (pick b (message kind own (sequence_of msg) xs) (list_message kind (sequence_of msg) xs)) space) ≡ pick b (message kind own (sequence_of msg) xs) (list_message kind (sequence_of msg) xs)
      one true = found kind own (sequence_of msg) xs space three short
      one false = list_found kind (sequence_of msg) xs space three short

  pub reply_elements_lem : reply_elements (put 0 (reply s who msg seid v gs) space) ≡ elements 0 (reply_body (kind_of msg) s (peer_of s who).address seid v gs)
  unfolding reply
  reply_elements_lem = one (seid_there msg)
    where
      one : (b : Bool) → reply_elements (put 0 (pick b (message kind own (sequence_of msg) xs) (list_message kind (sequence_of msg) xs)) space) ≡ elements 0 xs
      one true = elements_there kind own (sequence_of msg) xs space three short
      one false = list_elements kind (sequence_of msg) xs space three short

  pub length_reply : length (reply s who msg seid v gs) ≤ body_place + length (reply_body (kind_of msg) s (peer_of s who).address seid v gs)
  unfolding reply
  length_reply = one (seid_there msg)
    where
      one : (b : Bool) → length (pick b (message kind own (sequence_of msg) xs) (list_message kind (sequence_of msg) xs)) ≤ body_place + length xs
      one true = le_of_eq (length_message kind own (sequence_of msg) xs space three short)
      one false = let e = length_list kind (sequence_of msg) xs space three short in omega arith

-- ---- the cause

one_fits : (t : ℕ) → t < 256 ^ 2 → (c : ℕ) → Fits t (c ∷ [])
unfolding Fits
one_fits t h c = (h, lit< tt)

-- Node ID where there is one, then the cause
cause_first : (establishing : Bool) (home c : ℕ) (rest : List ℕ)
    → content_of ie.cause (elements 0 (pick establishing (element ie.node_id (0 ∷ be 4 home)) [] ++ (element ie.cause (c ∷ []) ++ rest))) ≡ some (c ∷ [])
unfolding content_of find_by has_type
cause_first true home c rest =
    ap (λ (es : List Element). map_option content_in (find_by (has_type ie.cause) es))
    (elements_cons ie.node_id (0 ∷ be 4 home) (element ie.cause (c ∷ []) ++ rest) node_fits 0 ∙ ap (λ (es : List Element). el 0 ie.node_id (0 ∷ be 4 home) ∷ es) (elements_cons ie.cause (c ∷ []) rest (one_fits ie.cause (lit< tt) c) _))
  where
    node_fits : Fits ie.node_id (0 ∷ be 4 home)
    node_fits = unfold Fits in (lit< tt, small (le_trans (le_of_eq (ap suc (length_be 4 home))) (lit≤ tt)))
cause_first false home c rest = ap (λ (es : List Element). map_option content_in (find_by (has_type ie.cause) es)) (elements_cons ie.cause (c ∷ []) rest (one_fits ie.cause (lit< tt) c) 0)

-- the reply's cause is the verdict's
pub reply_cause_lem : (s : Settings) (who : ℕ) (msg : List ℕ) (seid : ℕ) (v : Verdict) (gs : Reports) (space : List ℕ)
    → length (sequence_of msg) ≡ 3 → length (reply_body (kind_of msg) s (peer_of s who).address seid v gs) ≤ 2000
    → reply_cause (put 0 (reply s who msg seid v gs) space) ≡ v.cause
unfolding reply_cause reply_body node_id_element octet_at
reply_cause_lem s who msg seid v gs space three short =
    ap (λ (es : List Element). octet_at (value_or [] (content_of ie.cause es)) 0) (reply_elements_lem s who msg seid v gs space three short)
    ∙ ap (λ (o : Option (List ℕ)). octet_at (value_or [] o) 0)
    (cause_first (eqb (kind_of msg) establishment || eqb (kind_of msg) set_deletion) (peer_of s who).address v.cause (offending_element v.offending ++ pick (eqb v.cause why.accepted) (accepted_part (kind_of msg) s (peer_of s who).address seid gs) []))

pub sequence_three : (msg : List ℕ) → header_length msg ≤ length msg → length (sequence_of msg) ≡ 3
unfolding sequence_of header_length
sequence_three msg = one (seid_there msg)
  where
    one : (b : Bool) → pick b body_place list_place ≤ length msg → length (part (pick b body_place list_place - 4) 3 msg) ≡ 3
    one true h = length-take-le 3 (drop (body_place - 4) msg) (le_trans (omega arith) (le_of_eq (sym (length-drop (body_place - 4) msg))))
    one false h = length-take-le 3 (drop (list_place - 4) msg) (le_trans (omega arith) (le_of_eq (sym (length-drop (list_place - 4) msg))))
