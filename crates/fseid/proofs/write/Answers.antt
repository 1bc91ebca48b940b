-- `fseid::write` meets its contract: at each return the tests that led there say what the rules leave. Assumes nothing.
use Rattle.fseid.proofs.ValueLaws.{write_no_seid, write_no_room, write_done}
use Rattle.fseid.proofs.write.Goals as goal

pub returns-then-seid-eq0 : goal.returns-then-seid-eq0
returns-then-seid-eq0 c =
    let a = c.args in
    write_no_seid a.seid a.ipv4 a.out.now c.if-seid-eq0.true

pub returns-then-out-ge13 : goal.returns-then-out-ge13
returns-then-out-ge13 c = search write_done

pub returns : goal.returns
returns c =
    let a = c.args in
    write_no_room a.seid a.ipv4 a.out.now c.if-seid-eq0.false c.if-out-ge13.false
