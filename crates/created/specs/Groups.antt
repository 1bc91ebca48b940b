-- Created PDR and Created Traffic Endpoint: the groups that report what records of one kind were granted.
-- Assumes nothing.
use Rattle.std.specs.Prelude.{ℕ, Bool, ◌||◌, List, map, eqb, ltb}
use Rattle.octets.specs.Choice.{pick}
use Rattle.octets.specs.Octets.{concat_map}
use Rattle.octets.specs.Lists.{keep}
use Rattle.rules.specs.Model.{Settings}
use Rattle.rules.specs.Grants.{Kind, of_pdr, of_endpoint, same_kind}
use Rattle.rules.specs.Reply.{Report, Reports, created_pdr_element, created_endpoint_element}

-- a record's kind with its report
pub record Told : Type 0 where
  pub kind : Kind
  pub report : Report

abbrev pub report_in : Told → Report
report_in t = t.report

-- the kind of record, by the type of the group that creates it: Create PDR is 1
unfoldable pub kind_in : ℕ → Kind
kind_in k = pick (eqb k 1) of_pdr of_endpoint

unfoldable pub is_told : Kind → Told → Bool
is_told k t = same_kind k t.kind

-- the reports of one kind, in request order
unfoldable pub reports_of : Kind → List Told → List Report
reports_of k ts = map report_in (keep (is_told k) ts)

abbrev pub all_reports : List Told → Reports
all_reports ts = record { pdrs = reports_of of_pdr ts; endpoints = reports_of of_endpoint ts }

-- the group of a report
unfoldable pub group : Kind → Settings → Report → List ℕ
group of_pdr s g = created_pdr_element s g
group of_endpoint s g = created_endpoint_element s g

-- the groups of one kind, in request order
unfoldable pub groups : Kind → Settings → List Told → List ℕ
groups k s ts = concat_map (group k s) (reports_of k ts)

-- an endpoint's ID is one octet
unfoldable pub id_fits : Told → Bool
id_fits t = is_told of_pdr t || ltb t.report.id 256
