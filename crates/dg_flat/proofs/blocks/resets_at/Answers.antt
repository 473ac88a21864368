use Rattle.std.proofs.Common.{◌≡◌, ◌<◌, ℕ, List, Some, inl, inr, length, get_or, sym, ap, ◌∙◌}
use Rattle.std.specs.Prelude.{slice_get}
use Rattle.std.proofs.lemmas.Option.{slice_get-get_or}
use Rattle.dg_model.specs.declared.nested.NestedBlock.{NestedBlock}
use Rattle.dg_model.specs.declared.nested.Part.{Part}
use Rattle.dg_flat.specs.Flat.{resets}
use Rattle.dg_flat.proofs.blocks.resets_at.Goals as goal

-- what the part at a place says
reset_of : (blocks : List NestedBlock) (control : ℕ) (none : NestedBlock) (part : Part) → control < length blocks
    → (get_or blocks control none).part ≡ part
    → resets (Some (record none { part = part })) ≡ resets (slice_get blocks control)
reset_of blocks control none part inside such =
    sym (ap resets (slice_get-get_or blocks control none inside) ∙ ap (λ (p : Part). resets (Some (record none { part = p }))) such)

pub returns-in-Enable : goal.returns-in-Enable
returns-in-Enable c = reset_of c.args.blocks.now c.args.control _ _ c.requires c.in-Enable.is

pub returns-in-Plain : goal.returns-in-Plain
returns-in-Plain c =
    let says = reset_of c.args.blocks.now c.args.control _ in
    elim c.in-Plain.is [
      | inl plain ↦ says _ c.requires plain.1
      | inr other ↦ elim other [ inl inner ↦ says _ c.requires inner.2 | inr rest ↦ elim rest [ inl outer ↦ says _ c.requires outer.2 | inr subsystem ↦ says _ c.requires subsystem ] ]
    ]
