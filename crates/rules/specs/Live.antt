-- 01's live set ("What lives"): the sessions that the calls so far make, from each call's message, outcome and reply, and never from the table.
-- Assumes nothing.
use Rattle.std.specs.Prelude.{ℕ, ◌+◌, Bool, false, ◌&&◌, List, [], ◌∷◌, take, eqb}
use Rattle.octets.specs.Choice.{pick, value_or, map_option}
use Rattle.octets.specs.Octets.{number_at, octet_at}
use Rattle.octets.specs.Lists.{find_by}
use Rattle.rules.specs.Model.{Sessions}
use Rattle.rules.specs.Message.{Element, elements, body, has_type, content_in, content_of, field_or0, kind_of, header_seid}
use Rattle.rules.specs.Reading.{read_request}
use Rattle.rules.specs.Grants.{Kind, of_pdr, of_endpoint, Got}
use Rattle.rules.specs.Apply.{follow}
use Rattle.rules.specs.Types as ie
use Rattle.rules.specs.Causes as why

-- what the host sees of a call: a request with its peer, its message, the outcome and the reply space at exit; or a free count
pub data Event : Type 0 where
  replied : ℕ → List ℕ → ℕ → List ℕ → Event
  counted : Event

-- ---- reading a reply

-- the reply in its space: as long as its header says; where its elements stand is of no use here
unfoldable pub reply_in : List ℕ → List ℕ
reply_in space = take (4 + number_at 2 2 space) space

unfoldable pub reply_elements : List ℕ → List Element
reply_elements space = elements 0 (body (reply_in space))

unfoldable pub reply_cause : List ℕ → ℕ
reply_cause space = octet_at (value_or [] (content_of ie.cause (reply_elements space))) 0

-- the Created group of a kind, and the element that holds its ID
unfoldable pub created_type : Kind → ℕ
created_type of_pdr = ie.created_pdr
created_type of_endpoint = ie.created_endpoint

unfoldable pub id_element : Kind → ℕ
id_element of_pdr = ie.pdr_id
id_element of_endpoint = ie.endpoint_id

unfoldable pub is_created : Kind → ℕ → Element → Bool
is_created k i e = has_type (created_type k) e && eqb (field_or0 (id_element k) (elements 0 e.content)) i

-- the TEID of the F-TEID in a Created group
unfoldable pub teid_in : List Element → ℕ
teid_in es = number_at 1 4 (value_or [] (content_of ie.fteid es))

-- the address of the UE IP Address there (02 (v))
unfoldable pub address_in : List Element → ℕ
address_in es = number_at 1 4 (value_or [] (content_of ie.ue_ip_address es))

-- the elements of the reply's Created group of a kind and ID
unfoldable pub created_group : List ℕ → Kind → ℕ → List Element
created_group space k i = elements 0 (value_or [] (map_option content_in (find_by (is_created k i) (reply_elements space))))

unfoldable pub created_teid : List ℕ → Kind → ℕ → ℕ
created_teid space k i = teid_in (created_group space k i)

unfoldable pub created_address : List ℕ → Kind → ℕ → ℕ
created_address space k i = address_in (created_group space k i)

-- what the reply says that a record got
unfoldable pub created_got : List ℕ → Kind → ℕ → Got
created_got space k i = record { teid = created_teid space k i; address = created_address space k i }

-- ---- the live set

-- outcome 0 and the reply's cause 1
unfoldable pub accepted_event : Event → Bool
accepted_event (replied who msg outcome space) = eqb outcome 0 && eqb (reply_cause space) why.accepted
accepted_event counted = false

unfoldable pub follow_event : Sessions → Event → Sessions
follow_event m (replied who msg outcome space) = follow (created_got space) (kind_of msg) who (header_seid msg) (read_request msg) m
follow_event m counted = m

unfoldable pub live_step : Sessions → Event → Sessions
live_step m e = pick (accepted_event e) (follow_event m e) m

-- the live set after calls, from the one before them
unfoldable pub live_from : Sessions → List Event → Sessions
live_from m [] = m
live_from m (e ∷ es) = live_from (live_step m e) es

-- at first it is empty
unfoldable pub live : List Event → Sessions
live es = live_from [] es

unfoldable pub computing : ℕ
unfolding reply_in reply_elements reply_cause created_type id_element is_created teid_in address_in created_group created_teid created_address created_got accepted_event follow_event live_step live_from live
computing = 0
