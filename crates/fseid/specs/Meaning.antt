-- F-SEID: the rules' answer for each case of the reader's. Assumes nothing.
use Rattle.std.specs.Prelude.{Result, Ok, Err}
use Rattle.std.specs.Prelude.{ℕ, ◌+◌, ◌*◌, not, List}
use Rattle.octets.specs.Choice.{flag, is_nil}
use Rattle.rules.specs.Elements as rules
use Rattle.rules.specs.Elements.{value, refuse}
use Rattle.element.specs.declared.Refusal.{Refusal}
use Rattle.element.specs.Answers.{refusal_of}

-- the first octet of a value with these addresses, which are empty where they are not there
abbrev pub fseid_flags : List ℕ → List ℕ → ℕ
fseid_flags ipv4 ipv6 = 2 * flag (not (is_nil ipv4)) + flag (not (is_nil ipv6))

abbrev pub fseid_answer : Result ℕ Refusal → rules.Answer ℕ
fseid_answer (Ok seid) = value seid
fseid_answer (Err r) = refuse (refusal_of r)
