-- `restoration::Kind::element_type` meets its contract: the kind by the type. Assumes nothing.
use Rattle.restoration.specs.Records.{kind_of_type}
use Rattle.restoration.proofs.Kind.element_type.Goals as goal

pub returns-in-Pdr : goal.returns-in-Pdr
unfolding kind_of_type
returns-in-Pdr c = rw c.in-Pdr.is

pub returns-in-Endpoint : goal.returns-in-Endpoint
unfolding kind_of_type
returns-in-Endpoint c = rw c.in-Endpoint.is

pub returns-in-Csid : goal.returns-in-Csid
unfolding kind_of_type
returns-in-Csid c = rw c.in-Csid.is
