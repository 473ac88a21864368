use Rattle.std.proofs.Common.{ℕ, List, take, drop, ◌-◌, length, arith, length-drop}
use Rattle.fx_io.proofs.SinkBytes.{rest-whole}
use Rattle.cmd_check.proofs.PieceBytes.{adds_as, both}
use Rattle.cmd_check.proofs.PieceTexts.{quoted_more}
use Rattle.cmd_check.proofs.quoting.put_name.Goals as goal

pub loop-done-preserved : goal.loop-done-preserved
loop-done-preserved g c =
    let name : List ℕ = c.args.name.now in
    let done : ℕ = c.loop-done.done in
    let count : ℕ = c.put_front-done.result in
    let whole = rest-whole name done in
    let few = rw (whole, length-drop done name) at c.put_front-done.ensures.within in
    let low = c.loop-done.invariant.within in
    record {
      within = omega (arith, few, low);
      adds = adds_as (quoted_more name (take (length name - done) (drop done name)) done count whole) (both c.loop-done.invariant.adds c.put_front-done.ensures.adds);
    }
