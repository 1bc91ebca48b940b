-- `is_acted` meets its contract: the keys of the arms on the way are the lists of `acted_on`. Assumes nothing.
use native.Mathlib.Omega.{arith}
use mathlib.Core.Path.{refl}
use mathlib.Core.List.{[], ◌∷◌}
use Rattle.octets.specs.Lists.{all_in, member}
use Rattle.rules.specs.Types as ie
use Rattle.frame.proofs.Among.{among_yes, among_no}
use Rattle.reading.proofs.Places.{in_place, keys_in, keys_out, keys_out_2}
use Rattle.request.proofs.ElementSteps.{in_establishment, in_modification, in_set_deletion, in_others}
use Rattle.request.proofs.items.is_acted.Goals as goal

pub returns-in-1 : goal.returns-in-1
unfolding all_in member
returns-in-1 c = in_place _ _ _ (in_establishment _ c.in-50.is) (keys_in _ 1 (ie.fseid ∷ ie.fqcsid ∷ ie.create_endpoint ∷ ie.session_flags ∷ []) (ie.fseid ∷ ie.session_flags ∷ ie.create_pdr ∷ ie.create_endpoint ∷ ie.fqcsid ∷ []) tt c.in-1.is)

pub returns-in_default-kind : goal.returns-in_default-kind
unfolding all_in member
returns-in_default-kind c = in_place _ _ _ (in_establishment _ c.in-50.is) (keys_out c.args.kind 1 (ie.fseid ∷ ie.fqcsid ∷ ie.create_endpoint ∷ ie.session_flags ∷ []) (ie.fseid ∷ ie.session_flags ∷ ie.create_pdr ∷ ie.create_endpoint ∷ ie.fqcsid ∷ []) tt (grind arith))

pub returns-in-1-kind : goal.returns-in-1-kind
unfolding all_in member
returns-in-1-kind c = in_place _ _ _ (in_modification _ c.in-52.is) (keys_in _ 1 (ie.update_pdr ∷ ie.remove_pdr ∷ ie.fqcsid ∷ ie.create_endpoint ∷ ie.remove_endpoint ∷ []) (ie.create_pdr ∷ ie.create_endpoint ∷ ie.update_pdr ∷ ie.remove_pdr ∷ ie.remove_endpoint ∷ ie.fqcsid ∷ ie.update_endpoint ∷ []) tt c.in-1-kind.is)

pub returns-in-129 : goal.returns-in-129
unfolding all_in member
returns-in-129 c = in_place _ _ _ (in_modification _ c.in-52.is) (keys_in _ ie.update_endpoint [] (ie.create_pdr ∷ ie.create_endpoint ∷ ie.update_pdr ∷ ie.remove_pdr ∷ ie.remove_endpoint ∷ ie.fqcsid ∷ ie.update_endpoint ∷ []) tt c.in-129.is)

pub returns-in_default-kind-2 : goal.returns-in_default-kind-2
unfolding all_in member
returns-in_default-kind-2 c = in_place _ _ _ (in_modification _ c.in-52.is) (keys_out_2 c.args.kind 1 ie.update_endpoint (ie.update_pdr ∷ ie.remove_pdr ∷ ie.fqcsid ∷ ie.create_endpoint ∷ ie.remove_endpoint ∷ []) (ie.create_pdr ∷ ie.create_endpoint ∷ ie.update_pdr ∷ ie.remove_pdr ∷ ie.remove_endpoint ∷ ie.fqcsid ∷ ie.update_endpoint ∷ []) tt (grind arith) (grind arith))

pub returns-in-65 : goal.returns-in-65
returns-in-65 c = in_place _ _ _ (in_set_deletion _ c.in-14.is) (among_yes _ 65 [] c.in-65.is)

pub returns-in_default-kind-3 : goal.returns-in_default-kind-3
returns-in_default-kind-3 c = in_place _ _ _ (in_set_deletion _ c.in-14.is) (among_no _ 65 [] (grind arith))

pub returns-in_default : goal.returns-in_default
unfolding member
returns-in_default c = in_place _ _ _ (in_others _ (grind arith) (grind arith) (grind arith)) refl
