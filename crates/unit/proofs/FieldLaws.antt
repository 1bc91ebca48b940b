-- What the value's fields say of the rules' settings, and the other way. Assumes nothing.
use mathlib.Core.Path.{◌≡◌, refl, ap}
use mathlib.Core.Bool.{not}
use Rattle.std.specs.Prelude.{Option, Some, None}
use Rattle.std.specs.Option.{is_some}
use Rattle.octets.specs.Choice.{is_nil}
use Rattle.octets.specs.Octets.{be}
use Rattle.rules.specs.Model.{Settings}
use Rattle.unit.specs.declared.Settings.{Settings as Unit}
use Rattle.unit.specs.declared.Ipv6.{Ipv6}
use Rattle.unit.specs.Meaning.{ipv6_octets, settings_of}

module _ (u : Unit) where
  pub ipv6_there : not (is_nil (settings_of u).ipv6) ≡ is_some u.ipv6
  unfolding settings_of be
  ipv6_there = one u.ipv6
    where
      one : (a : Option Ipv6) → not (is_nil (ipv6_octets a)) ≡ is_some a
      one None = refl
      one (Some a) = refl

  module _ (s : Settings) (e : settings_of u ≡ s) where
    pub first_is : u.first ≡ s.first
    unfolding settings_of
    first_is = ap (λ (x : Settings). x.first) e

    pub size_is : u.size ≡ s.size
    unfolding settings_of
    size_is = ap (λ (x : Settings). x.size) e

    pub first_address_is : u.first_address ≡ s.first_address
    unfolding settings_of
    first_address_is = ap (λ (x : Settings). x.first_address) e

    pub addresses_is : u.addresses ≡ s.address_count
    unfolding settings_of
    addresses_is = ap (λ (x : Settings). x.address_count) e

    pub limit_is : u.limit ≡ s.limit
    unfolding settings_of
    limit_is = ap (λ (x : Settings). x.limit) e
