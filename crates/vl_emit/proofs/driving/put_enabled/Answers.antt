use Rattle.std.proofs.Common.{◌≡◌, ◌∙◌, IfOk, List, subst}
use Rattle.std.specs.Int.{w128}
use Rattle.std.proofs.lemmas.Int.{to_z-of_z}
use Rattle.vl_ast.specs.declared.expressions.Sized.{Sized}
use Rattle.vl_ast.specs.declared.modules.ModItem.{ModItem}
use Rattle.vl_ast.specs.Listing.{Lists}
use Rattle.vl_emit.specs.Names.{Wire}
use Rattle.vl_emit.specs.inner.NetItems.{constant}
use Rattle.vl_emit.specs.inner.Ready.{circuit_of, taken_in}
use Rattle.vl_emit.proofs.NetKinds.{enabled-driver}
use Rattle.vl_emit.proofs.Lists.{net-read}
use Rattle.vl_emit.proofs.driving.put_enabled.Goals as goal

pub operand-requires : goal.operand-requires
operand-requires c = c.requires.net

pub enabled_taking-requires-clause-frame : goal.enabled_taking-requires-clause-frame
enabled_taking-requires-clause-frame c = record { is = c.requires.net.is; timed = c.requires.ready.0 }

pub enabled_taking-requires-clause-enable : goal.enabled_taking-requires-clause-enable
enabled_taking-requires-clause-enable c = c.requires.ready.2

pub next_value-requires-clause-enable : goal.next_value-requires-clause-enable
next_value-requires-clause-enable c = record { is = c.requires.net.is; there = c.requires.ready.2 }

pub next_value-requires-clause-from : goal.next_value-requires-clause-from
next_value-requires-clause-from c = record { is = c.requires.net.is; there = c.requires.ready.1 }

pub returns : goal.returns
returns c =
    let source = c.args.source in
    let net = net-read (circuit_of source).nets _ c.args.own _ c.nets.ensures c.index-nets-own.is c.requires.net.there in
    let same = to_z-of_z w128 c.args.first c.ranges.first in
    let number = c.constant.ensures ∙ (λ i. constant (net i).width (same i)) in
    let begun = c.constant-begun.ensures ∙ (λ i. constant (net i).width (same i)) in
    let name = subst (λ (w : Wire). IfOk c.text_of.result (λ text. text ≡ w.name)) c.operand.ensures.wire c.text_of.ensures in
    let taken = subst (λ (b : Sized). IfOk c.next_value.result (λ e. e ≡ taken_in source c.args.enable c.args.reset c.args.from b)) begun c.next_value.ensures in
    subst (λ (items : List ModItem). Lists c.args.out.now c.put_register.new.out items) (enabled-driver source c.args.own c.args.frame c.args.enable c.args.reset c.args.first c.args.from)
    (c.put_register.ensures _ _ _ _ number name c.enabled_taking.ensures taken)
