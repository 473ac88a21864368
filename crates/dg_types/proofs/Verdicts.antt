-- When the rule of dimensions is kept and when it is broken.
use Rattle.std.proofs.Common.{◌≡◌, ℕ, List, [], length, refl, sym, subst, inl, inr, ◌∙◌, ap}
use Rattle.std.specs.Prelude.{slice_get, Some}
use Rattle.std.proofs.lemmas.Option.{slice_get_within}
use Rattle.dg_model.specs.declared.diagram.Diagram.{Diagram}
use Rattle.dg_model.specs.declared.diagram.Block.{Block}
use Rattle.dg_model.specs.declared.fault.RuleFault.{RuleFault}
use Rattle.dg_model.specs.declared.fault.Shown.TheVariants.{Nothing}
use Rattle.dg_model.specs.declared.rule.Rule.{Rule}
use Rattle.dg_model.specs.Faults.{fault_of, path_of}
use Rattle.dg_model.specs.Dimension.{IsBounded, KeepsDimension, KeepsDimensions, BreaksDimension}
use Rattle.dg_model.specs.Widths.{Widths, widths_of}
use Rattle.dg_types.specs.inner.WidthScan.{KeepAllBelow}

pub breaks_at : (diagram : Diagram) (place : ℕ) (block : Block) (path : List ℕ) (fault : RuleFault)
    → slice_get diagram.blocks place ≡ Some block → ¬ KeepsDimension diagram (widths_of diagram) place block
    → KeepAllBelow diagram place →
    path ≡ block.path → fault ≡ fault_of Rule.Dimension path Nothing → BreaksDimension diagram fault
breaks_at diagram place block path fault at broken before is_path is_fault =
    let told : path_of diagram place ≡ block.path = rw at refl in
    inl (record {
      place = place;
      block = block;
      first = record { there = at; broken = broken; before = before };
      fault_is = is_fault ∙ ap (λ (p : List ℕ). fault_of Rule.Dimension p Nothing) (is_path ∙ sym told);
    })

pub keeps_all : (diagram : Diagram) (widths : Widths) → KeepAllBelow diagram (length diagram.blocks) → widths ≡ widths_of diagram → IsBounded diagram widths → KeepsDimensions diagram
keeps_all diagram widths keep is bounded = record {
  blocks = λ place block at. keep place block (slice_get_within diagram.blocks place block at) at;
  bounded = subst (IsBounded diagram) is bounded;
}

pub breaks_bounds : (diagram : Diagram) (widths : Widths) (fault : RuleFault)
    → KeepAllBelow diagram (length diagram.blocks) → widths ≡ widths_of diagram → ¬ IsBounded diagram widths
    → fault ≡ fault_of Rule.Dimension [] Nothing → BreaksDimension diagram fault
breaks_bounds diagram widths fault keep is unbounded is_fault = inr (record {
  blocks = λ place block at. keep place block (slice_get_within diagram.blocks place block at) at;
  unbounded = λ bounded. unbounded (subst (IsBounded diagram) (sym is) bounded);
  fault_is = is_fault;
})
