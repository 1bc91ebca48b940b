-- `restoration::KindFromU64::from` meets its contract: by the type. Assumes nothing.
use borrow.Author.Tests.{eq-eqb, ne_eqb}
use Rattle.rules.specs.Types as ie
use Rattle.restoration.specs.Records.{kind_of_type}
use Rattle.restoration.proofs.KindFromU64.from.Goals as goal

pub returns-then-kind-eq-CREATE_PDR : goal.returns-then-kind-eq-CREATE_PDR
unfolding kind_of_type
returns-then-kind-eq-CREATE_PDR c = rw (eq-eqb c.args.kind ie.create_pdr c.if-kind-eq-CREATE_PDR.true)

pub returns-then-kind-eq-CREATE_ENDPOINT : goal.returns-then-kind-eq-CREATE_ENDPOINT
unfolding kind_of_type
returns-then-kind-eq-CREATE_ENDPOINT c = rw (ne_eqb c.args.kind ie.create_pdr c.if-kind-eq-CREATE_PDR.false, eq-eqb c.args.kind ie.create_endpoint c.if-kind-eq-CREATE_ENDPOINT.true)

pub returns-else-kind-eq-CREATE_ENDPOINT : goal.returns-else-kind-eq-CREATE_ENDPOINT
unfolding kind_of_type
returns-else-kind-eq-CREATE_ENDPOINT c = rw (ne_eqb c.args.kind ie.create_pdr c.if-kind-eq-CREATE_PDR.false, ne_eqb c.args.kind ie.create_endpoint c.if-kind-eq-CREATE_ENDPOINT.false)
