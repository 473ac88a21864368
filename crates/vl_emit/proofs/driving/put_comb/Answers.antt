use Rattle.std.proofs.Common.{◌≡◌, ℕ, List, IfOk, ap, arith, subst, sym, ◌∙◌}
use Rattle.math_num.specs.Word.{IsWord}
use Rattle.math_num.proofs.Words.{word_width}
use Rattle.hw_net.specs.declared.netlist.Net.{Net}
use Rattle.hw_net.specs.declared.netlist.NetOp.{NetOp}
use Rattle.hw_net.specs.declared.netlist.NetKind.TheVariants.{Comb}
use Rattle.hw_net.specs.Products.{net_at}
use Rattle.vl_ast.specs.declared.expressions.Expr.{Expr}
use Rattle.vl_emit.specs.Names.{Wire}
use Rattle.vl_emit.specs.declared.source.Source.{Source}
use Rattle.vl_emit.specs.inner.Ready.{HasArguments, HasKind, circuit_of, argument_in, input_in}
use Rattle.vl_emit.specs.inner.Spoken.{operation_at, wire_at}
use Rattle.vl_emit.proofs.Agree.{same-expression, within-first}
use Rattle.vl_emit.proofs.Lists.{net-read}
use Rattle.vl_emit.proofs.driving.put_comb.Goals as goal

argument : {source : Source} {own : ℕ} {op : NetOp} {args : List ℕ} → HasKind source own (Comb op args) → HasArguments source own args
argument h = record { net = h.net; there = h.ready.1 }

pub argument-first-requires : goal.argument-first-requires
argument-first-requires c = argument c.requires

pub argument-second-requires : goal.argument-second-requires
argument-second-requires c = argument c.requires

pub argument-third-requires : goal.argument-third-requires
argument-third-requires c = argument c.requires

pub port-port-requires-clause-net : goal.port-port-requires-clause-net
port-port-requires-clause-net c = c.requires.net

pub port-port-requires-clause-there : goal.port-port-requires-clause-there
port-port-requires-clause-there c = c.requires.ready.3

pub expression-value-requires : goal.expression-value-requires
expression-value-requires c =
    let nets = (circuit_of c.args.source).nets in
    let net = net-read nets _ c.args.own _ c.nets.ensures c.index-nets-own.is c.requires.net.there in
    let word = subst (λ (n : Net). IsWord n.width n.signed) (sym net) (c.requires.net.is.ready.words c.args.own c.requires.net.there) in
    let room = word_width c.index-nets-own.result.width c.index-nets-own.result.signed word in
    let first = c.argument-first.ensures.word in
    let second = c.argument-second.ensures.word in
    record {
      port = record { word = c.port-port.ensures.word; room = room };
      first = record { word = first; room = room };
      both = record { left = first; right = second; room = room };
      others = record { left = second; right = c.argument-third.ensures.word; room = room };
      word = word;
      bounds = within-first c.args.op _ _ (λ h. ap (λ wire. wire.width) (c.argument-first.ensures.wire (omega (arith, h, c.requires.ready.0)))) c.requires.ready.2;
    }

pub returns : goal.returns
returns c =
    let nets = (circuit_of c.args.source).nets in
    let net = net-read nets _ c.args.own _ c.nets.ensures c.index-nets-own.is c.requires.net.there in
    let wide = ap (λ (n : Net). operation_at c.args.op n.width c.port-port.result c.argument-first.result c.argument-second.result c.argument-third.result) net in
    let is =
    same-expression (net_at nets c.args.own).width (input_in c.args.source) (wire_at c.port-port.result) (argument_in c.args.source c.args.args.now) (wire_at c.argument-first.result)
    (wire_at c.argument-second.result) (wire_at c.argument-third.result) c.args.op c.port-port.ensures.wire (λ h. c.argument-first.ensures.wire (omega (arith, h, c.requires.ready.0)))
    (λ h. c.argument-second.ensures.wire (omega (arith, h, c.requires.ready.0))) (λ h. c.argument-third.ensures.wire (omega (arith, h, c.requires.ready.0))) in
    let value = subst (λ (v : Expr). IfOk c.expression-value.result (λ e. e ≡ v)) (wide ∙ is) c.expression-value.ensures in
    let name = subst (λ (w : Wire). IfOk c.text_of-name.result (λ text. text ≡ w.name)) c.operand.ensures.wire c.text_of-name.ensures in
    c.put_assignment.ensures _ _ name value
