-- UE IP Address: the rules' value and answer for each case of the code's. Assumes nothing.
use Rattle.std.specs.Prelude.{Result, Ok, Err}
use Rattle.std.specs.Prelude.{ℕ}
use Rattle.rules.specs.Elements as rules
use Rattle.rules.specs.Elements.{ue_given, ue_choose, ue_other, value, refuse}
use Rattle.element.specs.declared.Refusal.{Refusal}
use Rattle.element.specs.Answers.{refusal_of}
use Rattle.ue_ip.specs.declared.UeIp.{UeIp}
use Rattle.ue_ip.specs.declared.UeIp.TheVariants.{Given, Choose, Other}

abbrev pub ue_of : UeIp → rules.UeIp
ue_of (Given a) = ue_given a
ue_of Choose = ue_choose
ue_of Other = ue_other

abbrev pub ue_answer : Result UeIp Refusal → rules.Answer rules.UeIp
ue_answer (Ok v) = value (ue_of v)
ue_answer (Err r) = refuse (refusal_of r)
