use Rattle.std.proofs.Common.{◌≡◌, ◌+◌, ℕ, List, Some, slice_get, length, refl, ap, sym, subst, ◌∙◌, arith}
use Rattle.std.proofs.lemmas.List.{length-replicate}
use Rattle.std.proofs.lemmas.Option.{slice_get_read}
use Rattle.dg_model.specs.RootElements.{number_in}
use Rattle.dg_tables.specs.inner.Ports.{ArePortsTo, root_on}
use Rattle.dg_tables.proofs.RootPorts.{port_number, ports_put}
use Rattle.dg_tables.proofs.RootElements.{counted_map}
use Rattle.dg_tables.proofs.roots.ports_on.Goals as goal

pub put_number-requires : goal.put_number-requires
put_number-requires c =
    let blocks = c.args.blocks.now in
    let at : slice_get blocks c.loop-i.i ≡ Some c.index-blocks-i.result = slice_get_read blocks _ c.loop-i.i c.index-blocks-i.result refl c.loop-i-test.true c.index-blocks-i.is in
    port_number (root_on c.args.side) blocks c.requires.ports c.loop-i.ports.items c.loop-i.i c.index-blocks-i.result at c.loop-i.invariant _ (sym c.number_on.ensures)

pub loop-i-preserved : goal.loop-i-preserved
loop-i-preserved c =
    let blocks = c.args.blocks.now in
    let at : slice_get blocks c.loop-i.i ≡ Some c.index-blocks-i.result = slice_get_read blocks _ c.loop-i.i c.index-blocks-i.result refl c.loop-i-test.true c.index-blocks-i.is in
    subst (λ (ports : List ℕ). ArePortsTo (root_on c.args.side) blocks (c.loop-i.i + 1) ports) (sym c.put_number.ensures)
    (ports_put (root_on c.args.side) blocks c.requires.ports c.loop-i.ports.items c.loop-i.i c.index-blocks-i.result at c.loop-i.invariant _ (sym c.number_on.ensures))

pub loop-i-init : goal.loop-i-init
loop-i-init c = record {
  size = ap (λ (ports : List ℕ). length ports) (c.in_ok-ports.ensures.items_if_clones_equal (λ y same. same))
      ∙ length-replicate c.count_on.result 0 ∙ c.count_on.ensures
      ∙ counted_map (number_in (root_on c.args.side)) c.args.blocks.now;
  each = λ block b number below at is. absurd (omega (arith, below));
}

pub returns : goal.returns
returns c =
    let blocks = c.args.blocks.now in
    let all : c.loop-i.i ≡ length blocks = omega (arith, c.loop-i-test.false, c.loop-i.auto.i-end) in
    subst (λ (n : ℕ). ArePortsTo (root_on c.args.side) blocks n c.loop-i.ports.items) all c.loop-i.invariant
