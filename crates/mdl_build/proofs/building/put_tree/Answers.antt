use Rattle.std.proofs.Common.{◌≡◌, [], None, Some, List, inl, inr, subst, sym, ap, ap₂, ◌∙◌}
use Rattle.std.specs.Prelude.{IfErr}
use Rattle.std.specs.List.{AllZip}
use Rattle.std.proofs.lemmas.Result.{on_ok_weaker, IfErr-weaker}
use Rattle.dg_model.proofs.Refusals.{refused_as}
use Rattle.dg_model.specs.declared.fault.CheckFault.{CheckFault}
use Rattle.dg_model.specs.declared.fault.Shown.TheVariants.{Nothing}
use Rattle.dg_model.specs.declared.rule.Rule.{Rule}
use Rattle.dg_model.specs.Faults.{IsRefusal, fault_of}
use Rattle.mdl_text.specs.declared.tree.Item.{Item}
use Rattle.mdl_build.specs.Nested.{IsDrawnAt}
use Rattle.mdl_build.specs.Roles.{blocks_of}
use Rattle.mdl_build.specs.Rules.{Breaks, FindsStructure, IsWrongFirst, library_fault, structure_fault}
use Rattle.mdl_build.specs.inner.Makers.{items_of}
use Rattle.mdl_build.proofs.StructureLemmas.{model_keeps, model_breaks}
use Rattle.mdl_build.proofs.building.put_tree.Goals as goal
use Rattle.mdl_build.proofs.building.put_tree.Goals.{In_default}

-- no block breaks the rule of structure
structured : (c : In_default) → structure_fault c.args.known.now.extents.items c.args.known.now.layout.items.now ≡ None
structured c =
    model_keeps c.args.known.now.layout.items.now c.args.known.now.extents.items c.requires.sizes (sym c.in_ok-put_lines.ensures.joined ∙ c.if-not-branch.false)
    ∙ sym c.in_ok-misshapen.ensures ∙ c.in_default.is

found : (c : In_default) → FindsStructure (record { items = c.args.known.now.layout.items.now }) None
found c = record { extents = c.args.known.now.extents.items; are_extents = c.requires.known.extents; finds = structured c }

pub put_lines-requires-clause-roles : goal.put_lines-requires-clause-roles
put_lines-requires-clause-roles c = c.deref.ensures.value ∙ c.requires.known.roles

pub put_lines-requires-clause-known : goal.put_lines-requires-clause-known
put_lines-requires-clause-known c = c.requires.known.blocks

pub returns-then-not-branch-clause-err : goal.returns-then-not-branch-clause-err
returns-then-not-branch-clause-err c =
    let items = c.args.known.now.layout.items.now in
    let extents = c.args.known.now.extents.items in
    let broken : structure_fault extents items ≡ Some (fault_of Rule.Structure [] Nothing) =
    model_breaks items extents c.requires.sizes (sym c.in_ok-put_lines.ensures.joined ∙ c.if-not-branch.true) in
    subst (λ (fault : CheckFault). IsRefusal (Breaks (record { items = items })) fault) (sym c.broken_model.ensures)
    (inl (record { extents = extents; are_extents = c.requires.known.extents; finds = broken }))

pub returns-in-Some-clause-err : goal.returns-in-Some-clause-err
returns-in-Some-clause-err c =
    let items = c.args.known.now.layout.items.now in
    inl (record {
      extents = c.args.known.now.extents.items;
      are_extents = c.requires.known.extents;
      finds = model_keeps items c.args.known.now.extents.items c.requires.sizes (sym c.in_ok-put_lines.ensures.joined ∙ c.if-not-branch.false) ∙ sym c.in_ok-misshapen.ensures ∙ c.in-Some.is;
    })

pub returns-in-Some-2-clause-err : goal.returns-in-Some-2-clause-err
returns-in-Some-2-clause-err c =
    let here = (goal.at.returns-in-Some-2-clause-err c).In_default in
    inr (inl (record { structured = found here; broken = sym c.in_ok-unknown.ensures ∙ c.in-Some-2.is }))

pub put_blocks-put-requires-clause-structured : goal.put_blocks-put-requires-clause-structured
put_blocks-put-requires-clause-structured c =
    ap₂ structure_fault c.in_ok-maker.ensures.extents c.in_ok-maker.ensures.items
    ∙ structured (goal.at.put_blocks-put-requires-clause-structured c).In_default

pub put_blocks-put-requires-clause-known : goal.put_blocks-put-requires-clause-known
put_blocks-put-requires-clause-known c = ap library_fault c.in_ok-maker.ensures.items ∙ sym c.in_ok-unknown.ensures ∙ c.in_default-2.is

pub returns-clause-ok : goal.returns-clause-ok
returns-clause-ok c =
    let items = c.args.known.now.layout.items.now in
    on_ok_weaker c.put_blocks-put.result
    (λ (are : AllZip (IsDrawnAt (items_of c.in_ok-maker.maker)) (blocks_of (items_of c.in_ok-maker.maker)) c.put_blocks-put.new.blocks). record {
      structured = structured (goal.at.returns-clause-ok c).In_default;
      known = sym c.in_ok-unknown.ensures ∙ c.in_default-2.is;
      blocks = subst (λ (its : List Item). AllZip (IsDrawnAt its) (blocks_of its) c.put_blocks-put.new.blocks) c.in_ok-maker.ensures.items are;
      lines = c.in_ok-put_lines.ensures.lines c.if-not-branch.false;
    })
    c.put_blocks-put.ensures.ok

pub returns-clause-err : goal.returns-clause-err
returns-clause-err c =
    let items = c.args.known.now.layout.items.now in
    IfErr-weaker c.put_blocks-put.result _ _
    (λ fault is. refused_as (IsWrongFirst items) (Breaks (record { items = items })) fault
    (λ f wrong. inr (inr (record { structured = found (goal.at.returns-clause-err c).In_default; known = sym c.in_ok-unknown.ensures ∙ c.in_default-2.is; broken = wrong }))) is)
    (subst (λ (its : List Item). IfErr c.put_blocks-put.result (IsRefusal (IsWrongFirst its))) c.in_ok-maker.ensures.items c.put_blocks-put.ensures.err)
