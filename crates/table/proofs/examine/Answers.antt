-- `table::examine` meets its contract.
-- Assumes nothing.
use Prim.Native.Nat.{◌-◌}
use mathlib.Core.Path.{◌≡◌, ap}
use native.Mathlib.Omega.{arith}
use lib.ListN.{length}
use lib.Dec.{T}
use Rattle.octets.specs.Octets.{part, octets}
use Rattle.octets.proofs.Digits.{octets_known}
use Rattle.octets.proofs.Put.{length_part}
use Rattle.rules.specs.Limits.{map_words}
use Rattle.rules.specs.Layout.{head_width}
use Rattle.std.proofs.lemmas.Result.{err_from_is_err_and}
use Rattle.table.proofs.Examining.{front_facts, examined_short, examined_broken, walk_broken, walk_first, peers_broken, examined_walk}
use Rattle.table.proofs.examine.Goals as goal

pub returns-then-t-lt-HEAD : goal.returns-then-t-lt-HEAD
returns-then-t-lt-HEAD c = search examined_short

pub returns-then-not-front_sound : goal.returns-then-not-front_sound
returns-then-not-front_sound c =
    let t = c.args.t.now in
    let o : T (octets t) = octets_known t (λ i. (c.type_inv.t i).fits) in
    search examined_broken

pub admit_all-requires : goal.admit_all-requires
admit_all-requires c =
    let start = c in
    let t = c.args.t.now in
    let read = c.read-u in
    let front = c.front_sound in
    let known = front_facts t read.result read.ensures front.result front.ensures c.if-not-front_sound.false-raw in
    let n = c.read-n.ensures.0 in
    let words : length c.args.words.now ≡ map_words = ap length c.requires.0 in
    let room : length (part head_width (length t - head_width) t) ≡ length t - head_width = length_part head_width (length t - head_width) t (omega (arith, known.long)) in
    (omega (arith, n, known.few, known.long, room), omega (arith, n, known.few, known.room), known.pool, omega (arith, known.size, words), known.last, known.count, c.requires.1)

pub returns-in_err-held : goal.returns-in_err-held
returns-in_err-held c =
    let t = c.args.t.now in
    let o : T (octets t) = octets_known t (λ i. (c.type_inv.t i).fits) in
    rw (err_from_is_err_and c.from_residual.result c.from_residual.ensures.1).1 (walk_broken _ o _ c.front_sound.ensures c.if-not-front_sound.false-raw _ c.read-u.ensures _ _ _ _ _ _ c.read-n.ensures.0 c.requires.0 c.requires.1 c.admit_all.ensures c.in_err-held.was)

pub overflow_sub-n : goal.overflow_sub-n
overflow_sub-n c =
    let t = c.args.t.now in
    let o : T (octets t) = octets_known t (λ i. (c.type_inv.t i).fits) in
    walk_first _ o _ c.front_sound.ensures c.if-not-front_sound.false-raw _ c.read-u.ensures _ _ _ _ _ _ c.read-n.ensures.0 c.requires.0 c.requires.1 c.admit_all.ensures _ c.in_ok-held.was

pub returns-then-not-peers_fit : goal.returns-then-not-peers_fit
returns-then-not-peers_fit c =
    let t = c.args.t.now in
    let o : T (octets t) = octets_known t (λ i. (c.type_inv.t i).fits) in
    peers_broken _ o _ c.front_sound.ensures c.if-not-front_sound.false-raw _ c.read-u.ensures _ _ _ _ _ _ c.read-n.ensures.0 c.requires.0 c.requires.1 c.admit_all.ensures _ c.in_ok-held.was _ c.peers_fit.ensures c.if-not-peers_fit.true-raw

pub returns : goal.returns
returns c =
    let t = c.args.t.now in
    let o : T (octets t) = octets_known t (λ i. (c.type_inv.t i).fits) in
    examined_walk _ o _ c.front_sound.ensures c.if-not-front_sound.false-raw _ c.read-u.ensures _ _ _ _ _ _ c.read-n.ensures.0 c.requires.0 c.requires.1 c.admit_all.ensures _ c.in_ok-held.was _ c.peers_fit.ensures c.if-not-peers_fit.false-raw
