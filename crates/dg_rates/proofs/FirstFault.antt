-- Blocks that are read one by one: a part of a rule that they keep, and the fault of the first block that breaks it.
use Rattle.std.proofs.Common.{◌≡◌, ℕ, ◌+◌, ◌<◌, ◌≤◌, ⊎_elim, List, get_or, length, Some, refl, sym, ap, subst, ◌∙◌, arith}
use Rattle.std.specs.Prelude.{slice_get}
use Rattle.std.proofs.lemmas.Bool.{cases_eq}
use Rattle.std.proofs.lemmas.Option.{same_Some, slice_get_within, slice_get-get_or}
use Rattle.dg_model.specs.declared.diagram.Diagram.{Diagram}
use Rattle.dg_model.specs.declared.diagram.Block.{Block}
use Rattle.dg_model.specs.declared.fault.RuleFault.{RuleFault}
use Rattle.dg_model.specs.declared.fault.Shown.{Shown}
use Rattle.dg_model.specs.declared.rule.Rule.{Rule}
use Rattle.dg_model.specs.Faults.{AllKeep, BreaksAt, fault_of, path_of}

-- the blocks before a place keep the part
abbrev pub KeepBefore : Diagram → (ℕ → Block → Type 0) → ℕ → Type 0
KeepBefore diagram Keeps place = (other : ℕ) (b : Block) → other < place → slice_get diagram.blocks other ≡ Some b → Keeps other b

pub keep_more : (diagram : Diagram) (Keeps : ℕ → Block → Type 0) (place : ℕ) (block : Block) → slice_get diagram.blocks place ≡ Some block → Keeps place block
    → KeepBefore diagram Keeps place → KeepBefore diagram Keeps (place + 1)
keep_more diagram Keeps place block at keeps before other b below is =
    ⊎_elim
    (λ same. subst (λ (k : ℕ). slice_get diagram.blocks k ≡ Some b → Keeps k b) (sym same) (λ here. subst (Keeps place) (same_Some block b (sym at ∙ here)) keeps) is)
    (λ differ. before other b (omega (arith, below, differ)) is)
    (cases_eq other place)

pub keep_all : (diagram : Diagram) (Keeps : ℕ → Block → Type 0) (place : ℕ) → length diagram.blocks ≤ place → KeepBefore diagram Keeps place → AllKeep diagram Keeps
keep_all diagram Keeps place all before other b is = before other b (omega (arith, all, slice_get_within diagram.blocks other b is)) is

pub breaks_at : (diagram : Diagram) (Keeps : ℕ → Block → Type 0) (shown : ℕ → Block → Shown) (place : ℕ)
    (block : Block) (fault : RuleFault) → slice_get diagram.blocks place ≡ Some block → ¬ Keeps place block
    → KeepBefore diagram Keeps place → fault ≡ fault_of Rule.Rate block.path (shown place block) → BreaksAt diagram Rule.Rate Keeps shown fault
breaks_at diagram Keeps shown place block fault at broken before is = record {
  place = place;
  block = block;
  first = record { there = at; broken = broken; before = before };
  fault_is = is ∙ ap (λ (path : List ℕ). fault_of Rule.Rate path (shown place block)) (sym (path_at at));
}
  where
    path_at : slice_get diagram.blocks place ≡ Some block → path_of diagram place ≡ block.path
    path_at here = rw here refl

-- what is read at a place is the block there
pub read_at : (blocks : List Block) (place : ℕ) (block : Block) → place < length blocks → block ≡ get_or blocks place block → slice_get blocks place ≡ Some block
read_at blocks place block inside is = slice_get-get_or blocks place block inside ∙ ap Some (sym is)
