-- Sequence numbers: where a message has its own, and the difference of two. Assumes nothing.
use Rattle.std.proofs.Common.{◌≡◌, ℕ, ◌+◌, ◌-◌, ◌%◌, ◌^◌, ◌<◌, ◌≤◌, false, leb, List, ◌++◌, length, get_or, take, drop, sym, ap, ◌∙◌, arith, length-drop, le-leb}
use lib.ListN.{get_or-append}
use lib.Seq.{drop-append-le, take-append-le}
use Rattle.octets.specs.Choice.{pick}
use Rattle.octets.specs.Octets.{bit, octet_at, number, part}
use Rattle.rules.specs.Message.{header_length, seid_there, sequence_of, body_place, list_place}
use Rattle.frame.proofs.HeaderLaws.{length_with, length_without, is_length, least}
use Rattle.rules.specs.Repeats.{number_of, past, newer}

-- ---- a message's own

module _ (s : List ℕ) where
  pub header_least : list_place ≤ header_length s
  unfolding header_length
  header_least = least (seid_there s)

  pub with_seid_lem : get_or s 0 0 % 2 ≡ 1 → header_length s ≡ body_place
  with_seid_lem h = sym (is_length s body_place (length_with (get_or s 0 0) h))

  pub without_seid : (get_or s 0 0 % 2 ≡ 1 → ⊥) → header_length s ≡ list_place
  without_seid h = sym (is_length s list_place (length_without (get_or s 0 0) h))

  pub number_with : (r : ℕ) → get_or s 0 0 % 2 ≡ 1 → r ≡ number (part 12 3 s) → r ≡ number_of s
  unfolding number_of sequence_of
  number_with r h e = e ∙ ap (λ (k : ℕ). number (part (k - 4) 3 s)) (sym (with_seid_lem h))

  pub number_without : (r : ℕ) → (get_or s 0 0 % 2 ≡ 1 → ⊥) → r ≡ number (part 4 3 s) → r ≡ number_of s
  unfolding number_of sequence_of
  number_without r h e = e ∙ ap (λ (k : ℕ). number (part (k - 4) 3 s)) (sym (without_seid h))

-- octets behind a message do not change it
module _ (m z : List ℕ) (whole : header_length m ≤ length m) where
  pub header_front : header_length (m ++ z) ≡ header_length m
  unfolding header_length seid_there octet_at
  header_front = let l = header_least m in ap (λ (x : ℕ). pick (bit 0 x) body_place list_place) (get_or-append m z 0 0 (omega arith))

  pub number_front : number_of (m ++ z) ≡ number_of m
  unfolding number_of sequence_of
  number_front =
      let l = header_least m in
      let a = header_length m - 4 in
      ap (λ (k : ℕ). number (part (k - 4) 3 (m ++ z))) header_front
      ∙ ap (λ (x : List ℕ). number (take 3 x)) (drop-append-le a m z (omega arith))
      ∙ ap number (take-append-le 3 (drop a m) z (rw length-drop (omega arith)))

-- ---- the difference of two

module _ (n m : ℕ) (hn : n < 2 ^ 24) (hm : m < 2 ^ 24) where
  abbrev pub difference : ℕ
  difference = (n + (4294967296 - m)) % 4294967296 % 16777216

  past_is : past n m ≡ difference
  unfolding past
  past_is = omega arith

  pub by_difference : (difference ≡ 0 → ⊥) → leb difference 8388607 ≡ newer n m
  unfolding newer
  by_difference h = rw (past_is, le-leb 1 difference (omega (arith, h)))

  pub equal_not_newer : difference ≡ 0 → false ≡ newer n m
  unfolding newer
  equal_not_newer h = rw (past_is, h)
