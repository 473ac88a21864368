use Rattle.std.proofs.Common.{[]}
use Rattle.std.specs.Int.{w128}
use Rattle.std.proofs.lemmas.Int.{to_z-of_z}
use Rattle.std.proofs.lemmas.Result.{IfOk-weaker}
use Rattle.hw_net.specs.declared.netlist.NetKind.TheVariants.{Comb}
use Rattle.hw_net.specs.declared.netlist.NetOp.TheVariants.{Const}
use Rattle.math_list.proofs.Places.{if-both}
use Rattle.hw_build.proofs.Constants.{adds_one, coefficient_is}
use Rattle.hw_build.proofs.ElementEntries.{typed_net}
use Rattle.hw_build.proofs.coefficients.put_coefficient.Goals as goal

pub returns-clause-is : goal.returns-clause-is
returns-clause-is c =
    let same = to_z-of_z w128 c.coefficient-value.result (record { sfits = c.coefficient-value.type_inv }) in
    if-both _ _ _ c.put_const.result c.put_const.ensures.number c.put_const.ensures.grown (λ number at grown.
    coefficient_is c.args.net.now c.put_const.new.net c.args.list.now c.args.element c.args.kind c.coefficient-value.result number c.coefficient-value.ensures at
    (typed_net c.args.net.now c.put_const.new.net c.word_of.result c.args.kind (Comb (Const c.coefficient-value.result) []) c.word_of.ensures (rw (← same) grown)))

pub returns-clause-adds : goal.returns-clause-adds
returns-clause-adds c =
    let same = to_z-of_z w128 c.coefficient-value.result (record { sfits = c.coefficient-value.type_inv }) in
    IfOk-weaker c.put_const.result _ _ (λ number grown.
    adds_one c.args.net.now c.put_const.new.net c.args.kind c.coefficient-value.result c.requires.valid
    (typed_net c.args.net.now c.put_const.new.net c.word_of.result c.args.kind (Comb (Const c.coefficient-value.result) []) c.word_of.ensures (rw (← same) grown))) c.put_const.ensures.grown
