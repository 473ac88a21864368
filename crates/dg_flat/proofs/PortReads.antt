-- The ports at the place of a block.
use Rattle.std.proofs.Common.{◌≡◌, ℕ, suc, ◌<◌, true, List, length, get_or, Option, Some, None, sym, ap, ◌∙◌, refl, inl, inr}
use Rattle.std.specs.Prelude.{slice_get}
use Rattle.std.proofs.lemmas.Bool.{cases_lt, false≢true}
use Rattle.std.proofs.lemmas.Option.{slice_get-get_or, slice_get_past}
use Rattle.dg_model.specs.declared.nested.NestedBlock.{NestedBlock}
use Rattle.dg_model.specs.declared.nested.Part.{Part}
use Rattle.dg_model.specs.declared.nested.Part.TheVariants.{SubSystem}
use Rattle.dg_flat.specs.Parts.{inputs_of, outputs_of, is_subsystem}
use Rattle.dg_flat.specs.declared.numbering.Side.{Side}
use Rattle.dg_flat.specs.declared.numbering.Side.TheVariants.{In, Out}
use Rattle.dg_flat.specs.inner.PortNumbers.{count_at}
use Rattle.dg_flat.specs.inner.Ports.{ports_of, ports_at, inputs_at, outputs_at}

pub read_at : (blocks : List NestedBlock) (place : ℕ) (block : NestedBlock) → place < length blocks → block ≡ get_or blocks place block → slice_get blocks place ≡ Some block
read_at blocks place block inside at = slice_get-get_or blocks place block inside ∙ ap (λ (b : NestedBlock). Some b) (sym at)

pub inputs_is : (blocks : List NestedBlock) (place : ℕ) (block : NestedBlock) → slice_get blocks place ≡ Some block → inputs_at blocks place ≡ inputs_of blocks place block.part
inputs_is blocks place block at = rw at refl

pub outputs_is : (blocks : List NestedBlock) (place : ℕ) (block : NestedBlock) → slice_get blocks place ≡ Some block → outputs_at blocks place ≡ outputs_of blocks place block.part
outputs_is blocks place block at = rw at refl

pub ports_read : (blocks : List NestedBlock) (side : Side) (place : ℕ) (block : NestedBlock) → place < length blocks
    → block ≡ get_or blocks place block → ports_of blocks side place block.part ≡ ports_at blocks side place
ports_read blocks side place block inside at = let there : slice_get blocks place ≡ Some block = read_at blocks place block inside at in rw there refl

-- a subsystem has the ports that stand in it
pub ports_inside : (blocks : List NestedBlock) (side : Side) (place : ℕ) (part : Part) → is_subsystem part ≡ true → count_at blocks side (suc place) ≡ ports_of blocks side place part
ports_inside blocks In place SubSystem is = refl
ports_inside blocks Out place SubSystem is = refl
ports_inside blocks side place other is = absurd (false≢true is)

pub some_inside : (blocks : List NestedBlock) (place : ℕ) (block : NestedBlock) → slice_get blocks place ≡ Some block → place < length blocks
some_inside blocks place block at =
    elim (cases_lt place (length blocks)) [
      | inl inside ↦ inside
      | inr past ↦ absurd (none-some-block (sym (slice_get_past blocks place past) ∙ at))
    ] where
      none-some-block : ◌≡◌ {A = Option NestedBlock} None (Some block) → ⊥
      none-some-block e = cc
