use Rattle.std.proofs.Common.{ℕ, List, ap, map, subst, sym}
use Rattle.hw_net.specs.declared.netlist.NetKind.{NetKind}
use Rattle.hw_net.specs.declared.netlist.NetKind.TheVariants.{Comb}
use Rattle.vl_ast.specs.Gated.{gated_item}
use Rattle.vl_ast.specs.Listing.{Lists}
use Rattle.vl_ast.proofs.Listings.{lists-as, none-put}
use Rattle.vl_emit.specs.inner.NetItems.{others_at}
use Rattle.vl_emit.specs.inner.Ready.{HasKind, circuit_of}
use Rattle.vl_emit.proofs.items.drive.Goals as goal

pub put_comb-requires : goal.put_comb-requires
put_comb-requires c = subst (λ (args : List ℕ). HasKind c.args.source c.args.own (Comb c.in-Comb.op args)) (sym c.as_slice.ensures) (subst (HasKind c.args.source c.args.own) c.in-Comb.is c.requires)

pub put_counter-requires : goal.put_counter-requires
put_counter-requires c = subst (HasKind c.args.source c.args.own) c.in-Counter.is c.requires

pub put_reg-requires : goal.put_reg-requires
put_reg-requires c = record { net = c.requires.net; ready = (subst (HasKind c.args.source c.args.own) c.in-Reg.is c.requires).ready }

pub put_enabled-requires : goal.put_enabled-requires
put_enabled-requires c = record { net = c.requires.net; ready = (subst (HasKind c.args.source c.args.own) c.in-EnReg.is c.requires).ready }

pub put_accumulator-requires : goal.put_accumulator-requires
put_accumulator-requires c = subst (HasKind c.args.source c.args.own) c.in-Acc.is c.requires

pub put_bridge-requires : goal.put_bridge-requires
put_bridge-requires c = subst (HasKind c.args.source c.args.own) c.in-Bridge.is c.requires

pub returns-in-Unit : goal.returns-in-Unit
returns-in-Unit c = lists-as (ap (λ (kind : NetKind). map gated_item (others_at (circuit_of c.args.source) c.args.own kind)) (sym c.in-Unit.is)) (none-put c.args.out.now)

pub returns-in-Comb : goal.returns-in-Comb
returns-in-Comb c =
    lists-as (ap (λ (kind : NetKind). map gated_item (others_at (circuit_of c.args.source) c.args.own kind)) (sym c.in-Comb.is))
    (subst (λ (args : List ℕ). Lists c.args.out.now c.put_comb.new.out
    (map gated_item (others_at (circuit_of c.args.source) c.args.own (Comb c.in-Comb.op args))))
    c.as_slice.ensures c.put_comb.ensures)

pub returns-in-Counter : goal.returns-in-Counter
returns-in-Counter c = lists-as (ap (λ (kind : NetKind). map gated_item (others_at (circuit_of c.args.source) c.args.own kind)) (sym c.in-Counter.is)) c.put_counter.ensures

pub returns-in-Acc : goal.returns-in-Acc
returns-in-Acc c = lists-as (ap (λ (kind : NetKind). map gated_item (others_at (circuit_of c.args.source) c.args.own kind)) (sym c.in-Acc.is)) c.put_accumulator.ensures

pub returns-in-Bridge : goal.returns-in-Bridge
returns-in-Bridge c = lists-as (ap (λ (kind : NetKind). map gated_item (others_at (circuit_of c.args.source) c.args.own kind)) (sym c.in-Bridge.is)) c.put_bridge.ensures
