-- `unit::given` meets its contract. Assumes nothing.
use Rattle.std.proofs.Common.{◌≡◌, ◌∙◌, refl, arith, length}
use Rattle.std.proofs.lemmas.List.{take_all}
use Rattle.unit.specs.Meaning.{ipv6_octets}
use Rattle.unit.proofs.ReadLaws.{given_is, six_given, none_given}
use Rattle.unit.proofs.given.Goals as goal
use Rattle.unit.proofs.given.Goals.{then-is_empty, else-is_empty}

pub read_ipv6-requires : goal.read_ipv6-requires
read_ipv6-requires c =
    let e : length c.args.ipv6.now ≡ 16 = six_given c.args.ipv6.now c.requires.0 c.if-is_empty.ensures in
    omega arith

pub returns : goal.returns
returns c =
    let a = c.args in
    let six : ipv6_octets c.if-is_empty.ipv6 ≡ a.ipv6.now = elim c.if-is_empty.branch [
      | then-is_empty w ↦ rw w.ipv6-is (none_given a.ipv6.now w.if-is_empty.ensures)
      | else-is_empty w ↦
          let e : length a.ipv6.now ≡ 16 = six_given a.ipv6.now c.requires.0 w.if-is_empty.ensures in
          rw w.ipv6-is (w.read_ipv6.ensures ∙ take_all 16 a.ipv6.now (omega arith))
    ] in
    given_is a.ipv4 a.first a.size a.first_address a.addresses a.limit _ _ a.ipv6.now _ refl six refl refl refl refl refl refl refl
