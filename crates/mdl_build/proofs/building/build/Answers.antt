use Rattle.std.proofs.Common.{List, Option, true, refl, subst, sym, ap, ◌∙◌}
use Rattle.std.specs.Prelude.{IfOk, IfErr}
use Rattle.std.proofs.lemmas.Result.{IfOk-weaker}
use Rattle.dg_model.specs.declared.fault.CheckFault.{CheckFault}
use Rattle.dg_model.specs.Faults.{IsRefusal}
use Rattle.mdl_text.specs.declared.tree.Item.{Item}
use Rattle.mdl_build.specs.declared.known.Known.{Known}
use Rattle.mdl_build.specs.Nested.{IsNestedOf}
use Rattle.mdl_build.specs.Rules.{Breaks}
use Rattle.mdl_build.specs.inner.ItemFacts.{AreLarge, IsFound, IsKnownOf, keeps_sizes}
use Rattle.mdl_build.proofs.StructureLemmas.{broken_sizes}
use Rattle.mdl_build.proofs.Sound.{sound}
use Rattle.mdl_build.proofs.building.build.Goals as goal
use Rattle.mdl_build.proofs.building.build.Goals.{In-Some}

-- what is found of the tree
found : (c : In-Some) → IsFound c.args.tree.now.items true c.in-Some.known
found c = subst (λ (items : List Item). IsFound items true c.in-Some.known) c.as_slice.ensures (subst (λ (f : Option Known). IsKnownOf c.as_slice.result.now f) c.in-Some.is c.in_ok-known.ensures)

pub nested_of-nested-requires-clause-known : goal.nested_of-nested-requires-clause-known
nested_of-nested-requires-clause-known c = (found (goal.at.nested_of-nested-requires-clause-known c).In-Some).is_known refl

pub nested_of-nested-requires-clause-sizes : goal.nested_of-nested-requires-clause-sizes
nested_of-nested-requires-clause-sizes c = let are = found (goal.at.nested_of-nested-requires-clause-sizes c).In-Some in ap (keeps_sizes c.in-Some.known.extents.items) are.items_are ∙ are.kept_is

pub returns-in_default-clause-err : goal.returns-in_default-clause-err
returns-in_default-clause-err c =
    let large = subst AreLarge c.as_slice.ensures (subst (λ (f : Option Known). IsKnownOf c.as_slice.result.now f) c.in_default.is c.in_ok-known.ensures) in
    let broken = broken_sizes c.args.tree.now large in
    subst (λ (fault : CheckFault). IsRefusal (Breaks c.args.tree.now) fault) (sym c.broken_model.ensures) broken

pub returns-clause-ok : goal.returns-clause-ok
returns-clause-ok c =
    let are = found (goal.at.returns-clause-ok c).In-Some in
    IfOk-weaker c.nested_of-nested.result _ _
    (λ nested is. (
      is,
      sound c.values_are_one.ensures c.are_sound_blocks.ensures c.names_differ.ensures
          c.blocks_are_counted.ensures c.args.tree.now nested is,
    ))
    (subst (λ (items : List Item). IfOk c.nested_of-nested.result (IsNestedOf (record { items = items }))) are.items_are c.nested_of-nested.ensures.ok)

pub returns-clause-err : goal.returns-clause-err
returns-clause-err c =
    let are = found (goal.at.returns-clause-err c).In-Some in
    subst (λ (items : List Item). IfErr c.nested_of-nested.result (IsRefusal (Breaks (record { items = items })))) are.items_are c.nested_of-nested.ensures.err
