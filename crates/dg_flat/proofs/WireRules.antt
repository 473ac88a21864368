-- The parts of the rule of wiring put together, and a rule kept block by block.
use Rattle.std.proofs.Common.{◌≡◌, ℕ, ◌<◌, ◌≤◌, ◌+◌, Bool, length, Some, sym, ap, subst, ◌∙◌, inl, inr, arith}
use Rattle.std.specs.Prelude.{slice_get}
use Rattle.std.proofs.lemmas.Bool.{cases_eq}
use Rattle.std.proofs.lemmas.Option.{same_Some, none-some}
use Rattle.dg_model.specs.declared.nested.Nested.{Nested}
use Rattle.dg_model.specs.declared.nested.NestedBlock.{NestedBlock}
use Rattle.dg_model.specs.declared.diagram.Block.{Block}
use Rattle.dg_model.specs.declared.nested.Part.{Part}
use Rattle.dg_model.specs.declared.nested.Part.TheVariants.{In, Out, Enable}
use Rattle.dg_flat.specs.declared.numbering.Side.TheVariants.{In as Ins, Out as Outs}
use Rattle.dg_flat.specs.Parts.{inputs_of, in_number, out_number}
use Rattle.dg_flat.specs.Rules.{KeepsWiring, AllNestedKeep, IsDriven, IsNumbered, drivers, enable_drivers, is_port, is_enable_end}
use Rattle.dg_flat.specs.inner.PortNumbers.{IsNumberedAt}
use Rattle.dg_flat.specs.inner.Ports.{control_drivers}
use Rattle.dg_flat.specs.inner.Slots.{slot_of}
use Rattle.dg_flat.specs.inner.Verdict.{MeetsPorts, KeepsPart, IsFirstBroken}
use Rattle.dg_flat.proofs.PortReads.{some_inside}
use Rattle.dg_flat.proofs.Verdicts.{numbered_yes, numbered_no, one_of_two, two_of_one}

pub put_together : (nested : Nested) (place : ℕ) (block : NestedBlock) → MeetsPorts nested place block →
    ((port : ℕ) → 1 ≤ port → port ≤ inputs_of nested.blocks place block.part → drivers nested.lines place (is_port port) ≡ 1) → KeepsPart nested place block → KeepsWiring nested place block
put_together nested place block meets driven part = record {
  leaving = meets.leaving;
  ending = meets.ending;
  driven = driven;
  enabled = part.enabled;
  in_number = part.in_number;
  out_number = part.out_number;
}

pub its_meets : (nested : Nested) (place : ℕ) (block : NestedBlock) → KeepsWiring nested place block → MeetsPorts nested place block
its_meets nested place block keeps = record { leaving = keeps.leaving; ending = keeps.ending }

pub its_part : (nested : Nested) (place : ℕ) (block : NestedBlock) → KeepsWiring nested place block → KeepsPart nested place block
its_part nested place block keeps = record { enabled = keeps.enabled; in_number = keeps.in_number; out_number = keeps.out_number }

pub keep_more : (nested : Nested) (Keeps : Nested → ℕ → NestedBlock → Type 0) (place : ℕ) (block : NestedBlock) → slice_get nested.blocks place ≡ Some block → Keeps nested place block →
    ((other : ℕ) (b : NestedBlock) → other < place → slice_get nested.blocks other ≡ Some b → Keeps nested other b) →
    (other : ℕ) (b : NestedBlock) → other < place + 1 → slice_get nested.blocks other ≡ Some b → Keeps nested other b
keep_more nested Keeps place block at here before other b below there =
    elim (cases_eq other place) [
      | inl e ↦
          let same : b ≡ block = same_Some b block (sym there ∙ ap (slice_get nested.blocks) e ∙ at) in
          subst (λ (o : ℕ). Keeps nested o b) (sym e) (subst (λ (o : NestedBlock). Keeps nested place o) (sym same) here)
      | inr n ↦ before other b (omega (arith, below, n)) there
    ]

pub keep_all : (nested : Nested) (Keeps : Nested → ℕ → NestedBlock → Type 0) (count : ℕ) → length nested.blocks ≤ count →
    ((other : ℕ) (b : NestedBlock) → other < count → slice_get nested.blocks other ≡ Some b → Keeps nested other b) → AllNestedKeep nested Keeps
keep_all nested Keeps count whole before = λ other b there. before other b (omega (arith, whole, some_inside nested.blocks other b there)) there

pub broken_inside : (nested : Nested) (Keeps : Nested → ℕ → NestedBlock → Type 0) (place : ℕ) → IsFirstBroken nested Keeps place → place < length nested.blocks
broken_inside nested Keeps place first = some_inside nested.blocks place first.block first.there

-- ---- an Inport, an Outport and an EnablePort

pub in_kept : (nested : Nested) (place number : ℕ) (block : NestedBlock) (own : Block) → block.part ≡ In own number
    → IsNumberedAt nested.blocks Ins (slot_of block.parent) number (Some place) → KeepsPart nested place block
in_kept nested place number block own e is = record {
  enabled = subst (λ (part : Part). IsDriven nested.lines block.parent part) (sym e) tt;
  in_number = λ n its.
      let same = same_Some number n (sym (ap in_number e) ∙ its) in
      subst (λ (k : ℕ). IsNumbered nested.blocks place block.parent in_number k) same (numbered_yes nested.blocks Ins place number block is);
  out_number = λ n its. absurd (none-some n (sym (ap out_number e) ∙ its));
}

pub in_broken : (nested : Nested) (place number : ℕ) (block : NestedBlock) (own : Block)
    → slice_get nested.blocks place ≡ Some block → block.part ≡ In own number
    → (IsNumberedAt nested.blocks Ins (slot_of block.parent) number (Some place) → ⊥)
    → KeepsPart nested place block → ⊥
in_broken nested place number block own at e not keeps =
    let its = ap in_number e in
    not (numbered_no nested.blocks Ins place number block at (some_inside nested.blocks place block at) its (keeps.in_number number its))

pub out_kept : (nested : Nested) (place number : ℕ) (block : NestedBlock) (own : Block)
    → block.part ≡ Out own number → IsNumberedAt nested.blocks Outs (slot_of block.parent) number (Some place)
    → KeepsPart nested place block
out_kept nested place number block own e is = record {
  enabled = subst (λ (part : Part). IsDriven nested.lines block.parent part) (sym e) tt;
  in_number = λ n its. absurd (none-some n (sym (ap in_number e) ∙ its));
  out_number = λ n its.
      let same = same_Some number n (sym (ap out_number e) ∙ its) in
      subst (λ (k : ℕ). IsNumbered nested.blocks place block.parent out_number k) same (numbered_yes nested.blocks Outs place number block is);
}

pub out_broken : (nested : Nested) (place number : ℕ) (block : NestedBlock) (own : Block)
    → slice_get nested.blocks place ≡ Some block → block.part ≡ Out own number
    → (IsNumberedAt nested.blocks Outs (slot_of block.parent) number (Some place) → ⊥)
    → KeepsPart nested place block → ⊥
out_broken nested place number block own at e not keeps =
    let its = ap out_number e in
    not (numbered_no nested.blocks Outs place number block at (some_inside nested.blocks place block at) its (keeps.out_number number its))

pub control_kept : (nested : Nested) (place system : ℕ) (block : NestedBlock) (reset : Bool)
    → block.part ≡ Enable reset → block.parent ≡ Some system → control_drivers nested.lines system ≡ 1
    → KeepsPart nested place block
control_kept nested place system block reset e held once = record {
  enabled = subst (λ (part : Part). IsDriven nested.lines block.parent part) (sym e) (ap (enable_drivers nested.lines) held ∙ one_of_two (drivers nested.lines system is_enable_end) once);
  in_number = λ n its. absurd (none-some n (sym (ap in_number e) ∙ its));
  out_number = λ n its. absurd (none-some n (sym (ap out_number e) ∙ its));
}

pub control_broken : (nested : Nested) (place system : ℕ) (block : NestedBlock) (reset : Bool)
    → block.part ≡ Enable reset → block.parent ≡ Some system → (control_drivers nested.lines system ≡ 1 → ⊥)
    → KeepsPart nested place block → ⊥
control_broken nested place system block reset e held not keeps =
    let once : enable_drivers nested.lines block.parent ≡ 1 = subst (λ (part : Part). IsDriven nested.lines block.parent part) e keeps.enabled in
    not (two_of_one (drivers nested.lines system is_enable_end) (sym (ap (enable_drivers nested.lines) held) ∙ once))
