-- What the calls on a table answer, as the rules have it.
-- Assumes nothing.
use Rattle.std.specs.Prelude.{ℕ, ◌≡◌, List, true, false, length, Result, Ok, Err}
use Rattle.octets.specs.Choice.{pick}
use Rattle.octets.specs.Lists.{distinct}
use Rattle.rules.specs.Model.{held_addresses, holdings, of_peer}
use Rattle.rules.specs.Layout.{view_settings, view_sessions}
use Rattle.rules.specs.Sound.{sound, taken_map, address_map, Count, broken, free, Made}
use Rattle.marking.specs.declared.Broken.{Broken}
use Rattle.marking.specs.declared.Tally.{Tally}
use Rattle.marking.specs.Refusal.{refusal}
use Rattle.table.specs.declared.Refused.{Refused}

-- what is told of a table that is not broken: how many TEIDs each peer holds, how many sessions are peer 1's, and how many addresses of the pool are held
abbrev pub counted : List ℕ → Tally
counted t =
    record {
      one = holdings 1 (view_sessions t);
      two = holdings 2 (view_sessions t);
      first = length (of_peer 1 (view_sessions t));
      taken = distinct (held_addresses (view_settings t) (view_sessions t));
    }

-- these, or broken
abbrev pub examined : List ℕ → Result Tally Broken
examined t = pick (sound t) (Ok (counted t)) refusal

-- the whole table's examination, and the maps of TEIDs and addresses
pub record Examined (t : List ℕ) (r : Result Tally Broken) (words' addresses' : List ℕ) : Type 0 where
  pub answer : r ≡ examined t
  pub words : (c : Tally) → r ≡ Ok c → words' ≡ taken_map (view_settings t) (view_sessions t)
  pub addresses : (c : Tally) → r ≡ Ok c → addresses' ≡ address_map (view_settings t) (view_sessions t)

-- the free count, or outcome 1
abbrev pub count_told : Result ℕ Broken → Count
count_told (Err e) = broken
count_told (Ok n) = free n

-- made or refused, with the table at exit
abbrev pub made_of : Result Unit Refused → List ℕ → Made
made_of (Ok u) t = record { made = true; table = t }
made_of (Err e) t = record { made = false; table = t }
