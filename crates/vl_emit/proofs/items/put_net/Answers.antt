use Rattle.std.proofs.Common.{◌∙◌, ap, map, subst, sym}
use Rattle.hw_net.specs.declared.netlist.Net.{Net}
use Rattle.vl_ast.specs.Gated.{gated_item}
use Rattle.vl_ast.proofs.Listings.{lists-as, none-put}
use Rattle.vl_emit.specs.inner.NetItems.{declarers_at, others_at, units_at}
use Rattle.vl_emit.specs.inner.Ready.{HasKind, circuit_of}
use Rattle.vl_emit.proofs.NetKinds.{no-unit, read-kind}
use Rattle.vl_emit.proofs.Lists.{net-read}
use Rattle.vl_emit.proofs.items.put_net.Goals as goal

pub drive-requires : goal.drive-requires
drive-requires c = read-kind c.args.source c.args.own _ _ c.requires c.nets.ensures c.index-nets-own.is

pub put_unit-requires : goal.put_unit-requires
put_unit-requires c = subst (HasKind c.args.source c.args.own) c.in-Unit.is (read-kind c.args.source c.args.own _ _ c.requires c.nets.ensures c.index-nets-own.is)

pub returns-in-Declarations : goal.returns-in-Declarations
returns-in-Declarations c =
    let net = net-read (circuit_of c.args.source).nets _ c.args.own _ c.nets.ensures c.index-nets-own.is c.requires.there in
    rw c.in-Declarations.is (lists-as (ap (λ (n : Net). declarers_at (circuit_of c.args.source) c.args.own n.kind) net) c.declare.ensures)

pub returns-in-Unit : goal.returns-in-Unit
returns-in-Unit c =
    let net = net-read (circuit_of c.args.source).nets _ c.args.own _ c.nets.ensures c.index-nets-own.is c.requires.there in
    rw c.in-Units.is
    (lists-as (ap (units_at (circuit_of c.args.source) c.args.own) (sym c.in-Unit.is) ∙ ap (λ (n : Net). units_at (circuit_of c.args.source) c.args.own n.kind) net) c.put_unit.ensures)

pub returns-in_default : goal.returns-in_default
returns-in_default c =
    let net = net-read (circuit_of c.args.source).nets _ c.args.own _ c.nets.ensures c.index-nets-own.is c.requires.there in
    rw c.in-Units.is
    (lists-as (no-unit (circuit_of c.args.source) c.args.own _ c.in_default.not-Unit ∙ ap (λ (n : Net). units_at (circuit_of c.args.source) c.args.own n.kind) net) (none-put c.args.out.now))

pub returns-in-Others : goal.returns-in-Others
returns-in-Others c =
    let net = net-read (circuit_of c.args.source).nets _ c.args.own _ c.nets.ensures c.index-nets-own.is c.requires.there in
    rw c.in-Others.is (lists-as (ap (λ (n : Net). map gated_item (others_at (circuit_of c.args.source) c.args.own n.kind)) net) c.drive.ensures)
