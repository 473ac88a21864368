use Rattle.std.proofs.Common.{◌≡◌, ◌∙◌, IfOk, pos, subst}
use Rattle.vl_ast.specs.declared.expressions.Sized.{Sized}
use Rattle.vl_emit.specs.Names.{Wire}
use Rattle.vl_emit.specs.inner.NetItems.{constant}
use Rattle.vl_emit.specs.inner.Ready.{circuit_of, added_in}
use Rattle.vl_emit.proofs.Lists.{net-read}
use Rattle.vl_emit.proofs.driving.put_accumulator.Goals as goal

pub operand-requires : goal.operand-requires
operand-requires c = c.requires.net

pub adding-requires-clause-frame : goal.adding-requires-clause-frame
adding-requires-clause-frame c = record { is = c.requires.net.is; timed = c.requires.ready.0 }

pub adding-requires-clause-enable : goal.adding-requires-clause-enable
adding-requires-clause-enable c = c.requires.ready.2

pub sum_so_far-requires-clause-own : goal.sum_so_far-requires-clause-own
sum_so_far-requires-clause-own c = c.requires.net

pub sum_so_far-requires-clause-from : goal.sum_so_far-requires-clause-from
sum_so_far-requires-clause-from c = record { is = c.requires.net.is; there = c.requires.ready.1 }

pub sum_so_far-requires-clause-frame : goal.sum_so_far-requires-clause-frame
sum_so_far-requires-clause-frame c = record { is = c.requires.net.is; timed = c.requires.ready.0 }

pub returns : goal.returns
returns c =
    let source = c.args.source in
    let net = net-read (circuit_of source).nets _ c.args.own _ c.nets.ensures c.index-nets-own.is c.requires.net.there in
    let number = c.constant.ensures ∙ (λ i. constant (net i).width (pos 0)) in
    let begun = c.constant-begun.ensures ∙ (λ i. constant (net i).width (pos 0)) in
    let name = subst (λ (w : Wire). IfOk c.text_of.result (λ text. text ≡ w.name)) c.operand.ensures.wire c.text_of.ensures in
    let taken = subst (λ (b : Sized). IfOk c.sum_so_far.result (λ e. e ≡ added_in source c.args.own c.args.frame c.args.from b)) begun c.sum_so_far.ensures in
    c.put_register.ensures _ _ _ _ number name c.adding.ensures taken
