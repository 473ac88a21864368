use Rattle.std.proofs.Common.{ℕ, List, [], length, sym, subst, arith, ◌≡◌, ◌∷◌, All, IfOk}
use Rattle.fx_type.specs.declared.decimal.Decimal.{Decimal}
use Rattle.fx_type.specs.declared.kind.FxType.{FxType}
use Rattle.fx_type.specs.FxType.{IsType}
use Rattle.dg_model.specs.Attributes.{attributes_of}
use Rattle.dg_model.specs.Dimension.{IsRepeated}
use Rattle.dg_model.specs.KindRow.{FullRule}
use Rattle.dg_model.specs.Library.{row_of}
use Rattle.hw_build.specs.inner.Factors.{IsCoefficient, IsSecond}
use Rattle.hw_build.specs.inner.Operands.{offered_at}
use Rattle.hw_build.proofs.Constants.{adds_none}
use Rattle.hw_build.proofs.Multipliers.{product_by, reads_there, scaled_by}
use Rattle.std.proofs.lemmas.Option.{slice_get_within}
use Rattle.hw_build.proofs.coefficients.second_of.Goals as goal

pub put_coefficient-requires-clause-valid : goal.put_coefficient-requires-clause-valid
put_coefficient-requires-clause-valid c =
    let valid = c.operations_prepare.ensures.types c.args.checked.now.diagram c.args.checked.now.order c.args.block
    c.args.one.now (record { checked = c.keeps_rules.ensures.checked; ordered = c.keeps_rules.ensures.ordered })
    c.requires.block in
    subst IsType (sym c.param-kind.ensures) valid.1

pub put_coefficient-requires-clause-there : goal.put_coefficient-requires-clause-there
put_coefficient-requires-clause-there c =
    let width : ℕ = (attributes_of c.args.checked.now.diagram).width_at c.args.block 1 in
    let fit = c.operations_prepare.ensures.fit c.args.checked.now.diagram c.args.checked.now.order c.args.block
    c.args.one.now (record { checked = c.keeps_rules.ensures.checked; ordered = c.keeps_rules.ensures.ordered })
    c.requires.block in
    let has : (row_of c.args.one.now.kind).signal.lists ≡ c.in-Some.coefficients.now ∷ [] = rw c.in-Some.is at c.list.ensures in
    let lists = subst (λ (lists : List (List Decimal)). All (λ (list : List Decimal). IsRepeated width (length list)) lists) has fit.1 in
    reads_there (length c.in-Some.coefficients.now) width c.args.element (lists 0 [] (omega arith)) c.requires.element

pub returns-in-Some-clause-is : goal.returns-in-Some-clause-is
returns-in-Some-clause-is c =
    let has : (row_of c.args.one.now.kind).signal.lists ≡ c.in-Some.coefficients.now ∷ [] = rw c.in-Some.is at c.list.ensures in
    let rule = scaled_by c.args.one.now.kind c.in-Some.coefficients.now c.requires.multiplies has in
    subst (λ (rule : FullRule). IfOk c.put_coefficient.result
    (λ number. IsSecond c.args.checked.now.diagram
    (offered_at c.args.checked.now.diagram c.args.operands.now) c.args.net.now c.put_coefficient.new.net
    c.args.block c.args.element rule number)) (sym rule.1)
    (subst (λ (type : FxType). IfOk c.put_coefficient.result
    (λ number. IsCoefficient c.args.net.now c.put_coefficient.new.net c.in-Some.coefficients.now c.args.element
    type number)) c.param-kind.ensures c.put_coefficient.ensures.is)

pub returns-in-None-clause-is : goal.returns-in-None-clause-is
returns-in-None-clause-is c =
    let none : (row_of c.args.one.now.kind).signal.lists ≡ [] = rw c.in-None.is at c.list.ensures in
    subst (λ (rule : FullRule). IsSecond c.args.checked.now.diagram
    (offered_at c.args.checked.now.diagram c.args.operands.now) c.args.net.now c.args.net.now c.args.block
    c.args.element rule c.at.result)
    (sym (product_by c.args.one.now.kind c.requires.multiplies none)) c.at.ensures

pub returns-in-None-clause-adds : goal.returns-in-None-clause-adds
returns-in-None-clause-adds c = adds_none c.args.net.now

pub param-kind-requires : goal.param-kind-requires
param-kind-requires c = slice_get_within c.args.checked.now.diagram.blocks c.args.block c.args.one.now c.requires.block

pub returns-in-Some-clause-adds : goal.returns-in-Some-clause-adds
returns-in-Some-clause-adds c = c.put_coefficient.ensures.adds
