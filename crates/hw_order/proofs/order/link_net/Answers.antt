use Rattle.std.proofs.Common.{ℕ, All, OnOk, subst, sym}
use Rattle.hw_net.specs.declared.netlist.NetKind.{NetKind}
use Rattle.hw_net.specs.Netlist.{reads_now}
use Rattle.hw_order.specs.inner.NetOrder.{IsReader}
use Rattle.hw_order.proofs.order.link_net.Goals as goal

pub returns-in-Comb-clause-knows : goal.returns-in-Comb-clause-knows
returns-in-Comb-clause-knows c =
    subst (λ (kind : NetKind). OnOk c.link_all.result
    (All (λ (read : ℕ). IsReader c.link_all.new.readers read c.args.reader) (reads_now kind)))
    (sym c.in-Comb.is) (rw c.as_slice.ensures at c.link_all.ensures.knows)

pub returns-in-Bridge-clause-knows : goal.returns-in-Bridge-clause-knows
returns-in-Bridge-clause-knows c =
    subst (λ (kind : NetKind). OnOk c.link_all-in-Bridge.result
    (All (λ (read : ℕ). IsReader c.link_all-in-Bridge.new.readers read c.args.reader) (reads_now kind)))
    (sym c.in-Bridge.is) c.link_all-in-Bridge.ensures.knows

pub returns-in-Unit-clause-knows : goal.returns-in-Unit-clause-knows
returns-in-Unit-clause-knows c =
    subst (λ (kind : NetKind). OnOk c.link_all-in-Unit.result
    (All (λ (read : ℕ). IsReader c.link_all-in-Unit.new.readers read c.args.reader) (reads_now kind)))
    (sym c.in-Unit.is) c.link_all-in-Unit.ensures.knows
