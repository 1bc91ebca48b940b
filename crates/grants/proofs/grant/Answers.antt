-- `grants::grant` meets its contract: the places found are those of the rows that choose, and their TEIDs are stored there. Assumes nothing.
use mathlib.Core.List.{List}
use mathlib.Core.Path.{◌≡◌, sym}
use Prim.Native.Nat.{ℕ, ◌≤◌}
use native.Mathlib.Omega.{arith}
use borrow.Author.Rules.{rules}
use lib.Seq.{length-take-le}
use lib.ListN.{length, take}
use Rattle.grants.specs.Choosing.{places}
use Rattle.grants.proofs.GrantSteps.{granted_steps}
use Rattle.grants.proofs.PlaceLaws.{found_both, places_within}
use Rattle.grants.proofs.grant.Goals as goal

pub slice_bounds-fill-end-2 : goal.slice_bounds-fill-end-2
slice_bounds-fill-end-2 c =
    let first_places : List ℕ = c.find_places-k.new.places in
    let both_places : List ℕ = c.find_places-m.new.places in
    let first_length : length first_places ≡ 24 = search rules in
    let both_length : length both_places ≡ 24 = search rules in
    let few : c.find_places-m.result ≤ 24 = omega (arith, c.find_places-m.ensures.0, first_length) in
    let found_length : length (take c.find_places-m.result both_places) ≡ c.find_places-m.result = length-take-le c.find_places-m.result both_places (omega (arith, few, both_length)) in
    sym found_length

pub fill-requires : goal.fill-requires
fill-requires c =
    let first_places : List ℕ = c.find_places-k.new.places in
    let both_places : List ℕ = c.find_places-m.new.places in
    let first_length : length first_places ≡ 24 = search rules in
    let both_length : length both_places ≡ 24 = search rules in
    let few : c.find_places-m.result ≤ 24 = omega (arith, c.find_places-m.ensures.0, first_length) in
    let found : take c.find_places-m.result both_places ≡ places c.args.n c.args.plan.now = let s = c in
    let f = c.find_places-k in
    found_both c.args.plan.now c.args.n c.rows-rows.result.now c.rows-rows.ensures c.args.places.now first_places both_places f.result c.find_places-m.result c.requires.4 first_length f.ensures c.find_places-m.ensures in
    let found_length : length (take c.find_places-m.result both_places) ≡ c.find_places-m.result = length-take-le c.find_places-m.result both_places (omega (arith, few, both_length)) in
    let f = c in
    let s = c in
    let p = c.requires in
    (rw found (places_within c.args.n c.args.plan.now p.0), p.1, p.2, p.3, omega (arith, found_length, few))

pub slice_bounds-store-end-2 : goal.slice_bounds-store-end-2
slice_bounds-store-end-2 c =
    let first_places : List ℕ = c.find_places-k.new.places in
    let both_places : List ℕ = c.find_places-m.new.places in
    let first_length : length first_places ≡ 24 = search rules in
    let both_length : length both_places ≡ 24 = search rules in
    let few : c.find_places-m.result ≤ 24 = omega (arith, c.find_places-m.ensures.0, first_length) in
    let found_length : length (take c.find_places-m.result both_places) ≡ c.find_places-m.result = length-take-le c.find_places-m.result both_places (omega (arith, few, both_length)) in
    sym found_length

pub store-requires : goal.store-requires
store-requires c =
    let first_places : List ℕ = c.find_places-k.new.places in
    let both_places : List ℕ = c.find_places-m.new.places in
    let first_length : length first_places ≡ 24 = search rules in
    let both_length : length both_places ≡ 24 = search rules in
    let few : c.find_places-m.result ≤ 24 = omega (arith, c.find_places-m.ensures.0, first_length) in
    let found : take c.find_places-m.result both_places ≡ places c.args.n c.args.plan.now = let s = c in
    let f = c.find_places-k in
    found_both c.args.plan.now c.args.n c.rows-rows.result.now c.rows-rows.ensures c.args.places.now first_places both_places f.result c.find_places-m.result c.requires.4 first_length f.ensures c.find_places-m.ensures in
    let found_length : length (take c.find_places-m.result both_places) ≡ c.find_places-m.result = length-take-le c.find_places-m.result both_places (omega (arith, few, both_length)) in
    let teids_length : length c.fill.new.teids ≡ 24 = search rules in
    let f = c in
    let s = c in
    (rw found (places_within c.args.n c.args.plan.now c.requires.0), omega (arith, found_length, few, teids_length))

pub returns : goal.returns
returns c =
    let first_places : List ℕ = c.find_places-k.new.places in
    let both_places : List ℕ = c.find_places-m.new.places in
    let first_length : length first_places ≡ 24 = search rules in
    let both_length : length both_places ≡ 24 = search rules in
    let few : c.find_places-m.result ≤ 24 = omega (arith, c.find_places-m.ensures.0, first_length) in
    let found : take c.find_places-m.result both_places ≡ places c.args.n c.args.plan.now = let s = c in
    let f = c.find_places-k in
    found_both c.args.plan.now c.args.n c.rows-rows.result.now c.rows-rows.ensures c.args.places.now first_places both_places f.result c.find_places-m.result c.requires.4 first_length f.ensures c.find_places-m.ensures in
    let found_length : length (take c.find_places-m.result both_places) ≡ c.find_places-m.result = length-take-le c.find_places-m.result both_places (omega (arith, few, both_length)) in
    let f = c in
    let s = c in
    granted_steps c.args.n c.args.u.first c.args.words.now c.args.u.size c.args.plan.now _
    found found_length few c.fill.ensures c.store.ensures
