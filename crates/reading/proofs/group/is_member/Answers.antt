-- `is_member` meets its contract: the keys of the arms on the way are the lists of `places_of`. Assumes nothing.
use native.Mathlib.Omega.{arith}
use mathlib.Core.List.{[], ◌∷◌}
use Rattle.octets.specs.Lists.{all_in, member}
use Rattle.rules.specs.Types as ie
use Rattle.frame.proofs.Among.{among_yes, among_no}
use Rattle.reading.proofs.Places.{in_place, in_pdr, in_pdi, in_endpoint, in_removal, in_other, keys_in, keys_out, keys_out_2}
use mathlib.Core.Logic.{inl, inr}
use Rattle.reading.proofs.group.is_member.Goals as goal

pub returns-in-56 : goal.returns-in-56
unfolding all_in member
returns-in-56 c = in_place _ _ _ (in_pdr _ c.in-1.is) (keys_in _ 2 (ie.precedence ∷ ie.pdr_id ∷ ie.far_id ∷ []) (ie.pdr_id ∷ ie.precedence ∷ ie.pdi ∷ ie.far_id ∷ []) tt c.in-56.is)

pub returns-in_default-kind : goal.returns-in_default-kind
unfolding all_in member
returns-in_default-kind c = in_place _ _ _ (in_pdr _ c.in-1.is) (keys_out c.args.kind 2 (ie.precedence ∷ ie.pdr_id ∷ ie.far_id ∷ []) (ie.pdr_id ∷ ie.precedence ∷ ie.pdi ∷ ie.far_id ∷ []) tt (grind arith))

pub returns-in-20 : goal.returns-in-20
unfolding all_in member
returns-in-20 c = in_place _ _ _ (in_pdi _ c.in-2.is) (keys_in _ ie.source_interface (ie.ue_ip_address ∷ ie.endpoint_id ∷ []) (ie.source_interface ∷ ie.fteid ∷ ie.endpoint_id ∷ ie.ue_ip_address ∷ []) tt c.in-20.is)

pub returns-in-21 : goal.returns-in-21
returns-in-21 c = in_place _ _ _ (in_pdi _ c.in-2.is) (among_yes _ ie.source_interface (ie.fteid ∷ ie.endpoint_id ∷ ie.ue_ip_address ∷ []) (inr (inl c.in-21.is)))

pub returns-in_default-kind-2 : goal.returns-in_default-kind-2
unfolding all_in member
returns-in_default-kind-2 c = in_place _ _ _ (in_pdi _ c.in-2.is) (keys_out_2 c.args.kind ie.source_interface ie.fteid (ie.ue_ip_address ∷ ie.endpoint_id ∷ []) (ie.source_interface ∷ ie.fteid ∷ ie.endpoint_id ∷ ie.ue_ip_address ∷ []) tt (grind arith) (grind arith))

pub returns-in-131 : goal.returns-in-131
unfolding all_in member
returns-in-131 c = in_place _ _ _ (in_endpoint _ c.in-127.is) (keys_in _ ie.fteid (ie.ue_ip_address ∷ ie.endpoint_id ∷ []) (ie.endpoint_id ∷ ie.fteid ∷ ie.ue_ip_address ∷ []) tt c.in-131.is)

pub returns-in_default-kind-3 : goal.returns-in_default-kind-3
unfolding all_in member
returns-in_default-kind-3 c = in_place _ _ _ (in_endpoint _ c.in-127.is) (keys_out c.args.kind ie.fteid (ie.ue_ip_address ∷ ie.endpoint_id ∷ []) (ie.endpoint_id ∷ ie.fteid ∷ ie.ue_ip_address ∷ []) tt (grind arith))

pub returns-in-56-kind : goal.returns-in-56-kind
returns-in-56-kind c = in_place _ _ _ (in_removal _ c.in-15.is) (among_yes _ ie.pdr_id [] c.in-56-kind.is)

pub returns-in_default-kind-4 : goal.returns-in_default-kind-4
returns-in_default-kind-4 c = in_place _ _ _ (in_removal _ c.in-15.is) (among_no _ ie.pdr_id [] (grind arith))

pub returns-in-131-kind : goal.returns-in-131-kind
returns-in-131-kind c =
    in_place _ _ _ (in_other _ (grind arith) (grind arith) (grind arith) (grind arith)) (among_yes _ ie.endpoint_id [] c.in-131-kind.is)

pub returns-in_default-kind-5 : goal.returns-in_default-kind-5
returns-in_default-kind-5 c =
    in_place _ _ _ (in_other _ (grind arith) (grind arith) (grind arith) (grind arith)) (among_no _ ie.endpoint_id [] (grind arith))
