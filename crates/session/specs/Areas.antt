-- Where the records of a session stand in its slot, and the sessions in the table (docs/layout.md).
-- Assumes nothing.
use Rattle.std.specs.Prelude.{ℕ, ◌+◌}
use Rattle.areas.specs.declared.Area.{Area}
use Rattle.rules.specs.Layout.{settings_width, pdr_width, csid_width, endpoints_at, csids_at, session_width, pdr_count_at, endpoint_count_at, csid_count_at, endpoint_width, pdrs_at}
use Rattle.rules.specs.Limits.{max_pdrs, max_endpoints, node_types}

abbrev pub area_of_pdrs : Area
area_of_pdrs = record { count_at = pdr_count_at; count_width = 1; at = pdrs_at; room = max_pdrs; width = pdr_width; key = 2 }

abbrev pub area_of_endpoints : Area
area_of_endpoints = record { count_at = endpoint_count_at; count_width = 1; at = endpoints_at; room = max_endpoints; width = endpoint_width; key = 1 }

abbrev pub area_of_csids : Area
area_of_csids = record { count_at = csid_count_at; count_width = 1; at = csids_at; room = node_types; width = csid_width; key = 1 }

-- sessions: their number at the base, and room for so many after it
abbrev pub session_area : ℕ → ℕ → Area
session_area room base = record { count_at = base; count_width = 2; at = base + 2; room = room; width = session_width; key = 9 }

-- a table's sessions stand after the settings; room: its session limit
abbrev pub table_area : ℕ → Area
table_area room = session_area room settings_width
