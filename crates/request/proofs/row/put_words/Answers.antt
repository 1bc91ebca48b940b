-- `request::row::put_words` meets its contract: the part that was lent came back as the row. Assumes nothing.
use Rattle.std.proofs.Common.{List, ℕ, ◌+◌, ap, ◌∙◌, arith}
use Rattle.octets.specs.Octets.{put}
use Rattle.octets.proofs.Put.{put_lent}
use Rattle.request.proofs.row.put_words.Goals as goal

pub returns : goal.returns
returns c =
    let a = c.args in
    let k = c.copy_from_slice in
    put_lent a.at (a.at + 20) a.words.now k.new.self (omega arith) (omega arith) (omega (arith, k.ensures.len))
    ∙ ap (λ (v : List ℕ). put a.at v a.words.now) k.ensures.after
