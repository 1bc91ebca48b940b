-- How long a reply is at most: every reply of at most 24 reports fits the least reply space. Assumes nothing.
use mathlib.Core.Option.{Option, none, some}
use mathlib.Core.List.{List, [], ◌∷◌, ◌++◌}
use Prim.Native.Nat.{ℕ, ◌+◌, ◌*◌, ◌≤◌}
use native.Mathlib.Omega.{arith}
use lib.Dec.{eqb}
use lib.ListN.{length, length-append}
use Rattle.octets.specs.Choice.{pick}
use Rattle.octets.specs.Octets.{be, concat_map}
use Rattle.octets.specs.Lists.{keep}
use Rattle.octets.proofs.Numbers.{length_be}
use Rattle.octets.proofs.Tests.{pick_either}
use Rattle.rules.specs.Model.{Settings, Tunnel}
use Rattle.unit.specs.declared.Settings.{Settings as Unit}
use Rattle.unit.specs.Meaning.{settings_of}
use Rattle.unit.proofs.WriteLaws.{ipv6_short}
use Rattle.rules.specs.Elements.{fteid_octets, unit_fteid, fseid_octets}
use Rattle.rules.specs.Grants.{Kind, of_pdr, of_endpoint, same_kind}
use Rattle.rules.specs.Stages.{Verdict}
use Rattle.rules.specs.Reply.{Report, Reports, no_reports, element, unit_element, tunnel_part, address_part, chosen_elements, created_pdr_element, created_pdr_content, created_endpoint_element, created_endpoint_content, created, offending_element, node_id_element, unit_fseid, accepted_part, reply_body}
use Rattle.rules.specs.Types as ie
use Rattle.rules.specs.Causes as why
use Rattle.rules.specs.Message.{establishment, set_deletion}
use Rattle.created.specs.Groups.{Told, kind_in, is_told, reports_of, all_reports, group, groups}
use Rattle.reply.specs.Parts.{body_front}
use Rattle.writing.proofs.PlacedLaws.{length_element}
use Rattle.writing.proofs.ElementSteps.{length_ue}
use Rattle.created.proofs.GroupSteps.{groups_more, groups_none, length_created}
use mathlib.Core.Bool.{◌||◌}

abbrev at_most : ℕ → List ℕ → Type 0
at_most n xs = length xs ≤ n

abbrev told : Kind → Report → Told
told k g = record { kind = k; report = g }

pub unit_ipv4 : (u : Unit) → length (settings_of u).ipv4 ≤ 4
unfolding settings_of
unit_ipv4 u = omega (arith, length_be 4 u.ipv4)

pub unit_ipv6 : (u : Unit) → length (settings_of u).ipv6 ≤ 16
unfolding settings_of
unit_ipv6 u = ipv6_short u.ipv6

pub length_offending : (o : Option ℕ) → length (offending_element o) ≤ 6
unfolding offending_element
length_offending none = omega arith
length_offending (some t) = rw length_element (omega (arith, length_be 2 t))

module _ (home : ℕ) where
  pub length_node : (kind : ℕ) → length (node_id_element kind home) ≤ 9
  unfolding node_id_element
  length_node kind = pick_either (at_most 9) (eqb kind establishment || eqb kind set_deletion) _ [] (rw length_element (omega (arith, length_be 4 home))) (omega arith)

  pub length_front : (kind cause : ℕ) → length (body_front kind home cause) ≤ 14
  unfolding body_front
  length_front kind cause =
      omega (arith, length-append (node_id_element kind home) (element ie.cause (cause ∷ [])), length_node kind, length_element 19 (cause ∷ []))

  pub length_fseid : (kind seid : ℕ) → length (unit_fseid kind home seid) ≤ 17
  unfolding unit_fseid fseid_octets
  length_fseid kind seid =
      pick_either (at_most 17) (eqb kind establishment) _ []
      (rw length_element (omega (arith, length-append (be 8 seid) (be 4 home ++ []), length-append (be 4 home) [], length_be 8 seid, length_be 4 home)))
      (omega arith)

module _ (s : Settings) (four : length s.ipv4 ≤ 4) where
  module _ (sixteen : length s.ipv6 ≤ 16) where
    length_unit_most : (t : Tunnel) → length (unit_element s t) ≤ 29
    unfolding unit_element unit_fteid fteid_octets
    length_unit_most t =
        let a = pick t.v4 s.ipv4 [] in
        let b = pick t.v6 s.ipv6 [] in
        let la : length a ≤ 4 = pick_either (at_most 4) t.v4 s.ipv4 [] four (omega arith) in
        let lb : length b ≤ 16 = pick_either (at_most 16) t.v6 s.ipv6 [] sixteen (omega arith) in
        rw length_element (omega (arith, length-append (be 4 t.teid) (a ++ b), length-append a b, length_be 4 t.teid))

    length_chosen : (g : Report) → length (chosen_elements s g) ≤ 38
    unfolding chosen_elements tunnel_part
    length_chosen g = let t = g.local in let a = g.address in omega (arith, length-append (tunnel_part s t) (address_part a), tunnel_most t, address_most a)
      where
        tunnel_most : (o : Option Tunnel) → length (tunnel_part s o) ≤ 29
        tunnel_most none = omega arith
        tunnel_most (some t) = length_unit_most t

        address_most : (o : Option ℕ) → length (address_part o) ≤ 9
        address_most none = unfold address_part in (omega arith)
        address_most (some a) = omega (arith, length_ue a)

    length_pdr : (g : Report) → length (created_pdr_element s g) ≤ 48
    unfolding created_pdr_element created_pdr_content
    length_pdr g =
        rw length_element
        (omega (arith, length-append (element ie.pdr_id (be 2 g.id)) (chosen_elements s g), length_element ie.pdr_id (be 2 g.id), length_be 2 g.id, length_chosen g))

    length_endpoint : (g : Report) → length (created_endpoint_element s g) ≤ 48
    unfolding created_endpoint_element created_endpoint_content
    length_endpoint g =
        rw length_element
        (omega (arith, length-append (element ie.endpoint_id (g.id ∷ [])) (chosen_elements s g), length_element ie.endpoint_id (g.id ∷ []), length_chosen g))

    -- a report has one group, of one kind or the other
    one_group : (k : Kind) (g : Report) → length (groups of_pdr s (told k g ∷ [])) + length (groups of_endpoint s (told k g ∷ [])) ≤ 48
    unfolding groups group reports_of keep is_told same_kind concat_map
    one_group of_pdr g = omega (arith, length-append (created_pdr_element s g) [], length_pdr g)
    one_group of_endpoint g = omega (arith, length-append (created_endpoint_element s g) [], length_endpoint g)

    length_groups : (gs : List Told) → length (groups of_pdr s gs) + length (groups of_endpoint s gs) ≤ 48 * length gs
    length_groups [] = rw (groups_none of_pdr s, groups_none of_endpoint s) (omega arith)
    length_groups (g ∷ gs) =
        let first = one_group g.kind g.report in
        let more = length_groups gs in
        rw (groups_more of_pdr s g gs, groups_more of_endpoint s g gs)
        (omega (arith, length-append (groups of_pdr s (g ∷ [])) (groups of_pdr s gs), length-append (groups of_endpoint s (g ∷ [])) (groups of_endpoint s gs)))

    pub length_created_most : (gs : List Told) → length (created s (all_reports gs)) ≤ 48 * length gs
    unfolding kind_in
    length_created_most gs = omega (arith, length_created s gs, length_groups gs)

  pub length_none : length (created s no_reports) ≤ 0
  unfolding created concat_map
  length_none = omega arith

  pub length_body : (home kind seid : ℕ) (v : Verdict) (gs : Reports) → length (created s gs) ≤ 1152 → length (reply_body kind s home seid v gs) ≤ 1189
  unfolding reply_body accepted_part
  length_body home kind seid v gs h =
      let o = offending_element v.offending in
      let a = unit_fseid kind home seid ++ created s gs in
      let b = pick (eqb v.cause why.accepted) a [] in
      let la : length b ≤ 1169 =
      pick_either (at_most 1169) (eqb v.cause why.accepted) a [] (omega (arith, length-append (unit_fseid kind home seid) (created s gs), length_fseid home kind seid)) (omega arith) in
      omega (
        arith,
        length-append (node_id_element kind home) (element ie.cause (v.cause ∷ []) ++ (o ++ b)),
        length-append (element ie.cause (v.cause ∷ [])) (o ++ b),
        length-append o b,
        length_node home kind,
        length_element 19 (v.cause ∷ []),
        length_offending v.offending,
      )
