use Rattle.std.proofs.Common.{sym}
use Rattle.vl_ast.proofs.Listings.{both, has-more, holds-as}
use Rattle.vl_emit.specs.inner.Ready.{circuit_of}
use Rattle.vl_emit.proofs.EnablePorts.{gated-items}
use Rattle.vl_emit.proofs.items.items_of.Goals as goal

pub returns : goal.returns
returns c =
    let shown = both c.show_outputs.ensures (c.put_assignment.ensures _ _ c.copy.ensures c.enable-value.ensures) in
    let put = both c.put_nets.ensures (both c.put_nets-2.ensures (both c.put_nets-3.ensures shown)) in
    holds-as (sym (gated-items (circuit_of c.args.source))) (has-more c.begin-out.ensures put)
