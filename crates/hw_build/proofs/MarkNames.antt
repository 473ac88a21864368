-- The names of marks.
use Rattle.std.proofs.Common.{◌≡◌, ℕ, zero, suc, ◌^◌, ◌<◌, ap, sym, ◌∙◌, refl}
use Rattle.hw_net.specs.Emittable.{IsLabelName}
use Rattle.hw_build.specs.inner.NetNames.{Mark, name_by}
use Rattle.hw_build.proofs.NameForms.{stage_labelled, stage_injective, multiplication_labelled, multiplication_injective, labels_apart}

pub name_labelled : (block element stage : ℕ) → block < 2 ^ 64 → element < 2 ^ 64 → stage < 2 ^ 64 → IsLabelName (name_by block element stage)
name_labelled block element zero low mid high = multiplication_labelled block element low mid
name_labelled block element (suc stage) low mid high = stage_labelled block element (suc stage) low mid high

pub name_injective : (block element stage other member step : ℕ) → block < 2 ^ 64 → element < 2 ^ 64
    → stage < 2 ^ 64 → other < 2 ^ 64 → member < 2 ^ 64 → step < 2 ^ 64
    → name_by block element stage ≡ name_by other member step
    → (block ≡ other) × (element ≡ member) × (stage ≡ step)
name_injective block element zero other member zero b e s o m t same = let h = multiplication_injective block element other member b e o m same in (h.0, h.1, refl)
name_injective block element zero other member (suc step) b e s o m t same = absurd (labels_apart _ _ same)
name_injective block element (suc stage) other member zero b e s o m t same = absurd (labels_apart _ _ (sym same))
name_injective block element (suc stage) other member (suc step) b e s o m t same = stage_injective block element (suc stage) other member (suc step) b e s o m t same

pub mark_same : (one other : Mark) → (one.block ≡ other.block) × (one.element ≡ other.element) × (one.stage ≡ other.stage) → one ≡ other
mark_same one other h =
    ap (λ (n : ℕ). record { block = n; element = one.element; stage = one.stage }) h.0
    ∙ ap (λ (n : ℕ). record { block = other.block; element = n; stage = one.stage }) h.1
    ∙ ap (λ (n : ℕ). record { block = other.block; element = other.element; stage = n }) h.2
