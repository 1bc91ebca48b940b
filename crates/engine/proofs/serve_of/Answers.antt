-- `engine::serve_of` meets its contract.
-- Assumes nothing.
use mathlib.Core.Path.{refl}
use native.Mathlib.Omega.{arith}
use lib.Dec.{T}
use Rattle.std.proofs.lemmas.Result.{err_from_is_err_and}
use Rattle.octets.specs.Octets.{octets}
use Rattle.octets.proofs.Digits.{octets_known}
use Rattle.table.proofs.Examining.{count_long, addresses_less}
use Rattle.engine.proofs.Serving.{serves_broken, serves_small, serves_unserved, sets_when, asks_list, serves_list, asks, counts, kind_is_lem, seid_is, serves_answer, tallies, request_when}
use borrow.Author.Rules.{rules}
use Rattle.engine.proofs.serve_of.Goals as goal

pub returns-in_err-held : goal.returns-in_err-held
returns-in_err-held c =
    let p = err_from_is_err_and c.from_residual.result c.from_residual.ensures.1 in
    rw (p.1, p.2) (serves_broken _ _ _ _ c.requires c.examine.ensures c.in_err-held.was (refl, refl, refl))

pub returns-then-out-lt-SPACE : goal.returns-then-out-lt-SPACE
returns-then-out-lt-SPACE c = serves_small _ _ _ _ c.requires c.examine.ensures c.in_ok-held.was c.if-out-lt-SPACE.true (refl, refl, refl)

pub read-u-requires : goal.read-u-requires
read-u-requires c = omega (arith, count_long _ _ c.examine.ensures.answer _ c.in_ok-held.was)

pub returns-in_err-header : goal.returns-in_err-header
returns-in_err-header c =
    let p = err_from_is_err_and c.from_residual-in_err-header.result c.from_residual-in_err-header.ensures.1 in
    rw (p.1, p.2) (serves_unserved _ _ _ _ c.requires c.examine.ensures c.in_ok-held.was c.if-out-lt-SPACE.false c.read_header.ensures _ c.in_err-header.was)

pub delete_list-requires : goal.delete_list-requires
delete_list-requires c =
    (asks_list _ _ _ _ c.requires c.examine.ensures c.in_ok-held.was c.if-out-lt-SPACE.false c.read_header.ensures (sets_when c.in_ok-header.was c.in_default.is), c.read-u.ensures)

pub returns-in_default : goal.returns-in_default
returns-in_default c =
    serves_list _ _ _ _ c.requires c.examine.ensures c.in_ok-held.was c.if-out-lt-SPACE.false c.read_header.ensures (sets_when c.in_ok-header.was c.in_default.is) c.delete_list.ensures

pub share-share-requires : goal.share-share-requires
share-share-requires c = (search rules, tallies c.examine.ensures c.in_ok-held.was c.read-u.ensures)

pub overflow_sub-known : goal.overflow_sub-known
overflow_sub-known c = addresses_less _ _ c.examine.ensures.answer _ c.in_ok-held.was _ c.read-u.ensures

pub answer-requires : goal.answer-requires
answer-requires c =
    let o : T (octets c.args.msg.now) = octets_known c.args.msg.now (λ i. (c.type_inv.msg i).fits) in
    let x = c.examine.ensures in
    let e = c.in_ok-held.was in
    let h = c.read_header.ensures in
    let d = request_when c.in_ok-header.was c.in-Request.is in
    let own = c.share-share.ensures in (
      asks _ _ _ _ c.requires x e c.if-out-lt-SPACE.false h d own.0 o,
      counts x e c.read-u.ensures (search rules) (search rules) own,
      kind_is_lem c.args.msg.now h d,
      seid_is c.args.msg.now h d,
    )

pub returns : goal.returns
returns c =
    serves_answer _ _ _ _ c.requires c.examine.ensures c.in_ok-held.was c.if-out-lt-SPACE.false c.read_header.ensures (request_when c.in_ok-header.was c.in-Request.is) c.share-share.ensures.0 c.answer.ensures
