-- The enabled subsystem around a System hangs on no bound of levels.
use Rattle.std.proofs.Common.{◌≡◌, ℕ, zero, suc, ◌<◌, ◌≤◌, ◌+◌, List, length, set, get_or, Option, Some, None, add-one, refl, sym, ap, subst, ◌∙◌, inl, inr, arith}
use Rattle.std.specs.Prelude.{slice_get}
use Rattle.std.proofs.lemmas.Bool.{cases_eq}
use Rattle.std.proofs.lemmas.List.{length-set, get_or-set_same, get_or-set_other}
use Rattle.std.proofs.lemmas.Option.{slice_get-get_or}
use Rattle.dg_model.specs.declared.nested.NestedBlock.{NestedBlock}
use Rattle.dg_flat.specs.Parts.{enable_port, system_around, control_else, control_within, control_of}
use Rattle.dg_flat.specs.inner.Slots.{slot_of, system_of, first_of, HaveParents}
use Rattle.dg_flat.specs.inner.Tables.{IsTable}
use Rattle.dg_flat.proofs.PortReads.{some_inside}

-- a System around one stands before it
pub around_before : (blocks : List NestedBlock) (system : ℕ) → HaveParents blocks → slot_of (system_around blocks (Some system)) ≤ system
around_before blocks system have = go (slice_get blocks system) refl where
  go : (o : Option NestedBlock) → slice_get blocks system ≡ o → slot_of (system_around blocks (Some system)) ≤ system
  go None e = rw e (omega arith)
  go (Some block) e = rw e (have.before system block e)

-- the System of a block, and the one around a System, are among them
pub slot_below : (blocks : List NestedBlock) (place : ℕ) (block : NestedBlock) → HaveParents blocks → slice_get blocks place ≡ Some block → slot_of block.parent ≤ length blocks
slot_below blocks place block have at = omega (arith, have.before place block at, some_inside blocks place block at)

pub around_below : (blocks : List NestedBlock) (system : Option ℕ) → HaveParents blocks → slot_of system ≤ length blocks → slot_of (system_around blocks system) ≤ length blocks
around_below blocks None have within = within
around_below blocks (Some system) have within = omega (arith, around_before blocks system have, within)

pub control_settles : (blocks : List NestedBlock) → HaveParents blocks → (levels more : ℕ) (system : Option ℕ)
    → slot_of system < levels → slot_of system < more
    → control_within blocks levels system ≡ control_within blocks more system
control_settles blocks have zero more system below other = absurd (omega (arith, below))
control_settles blocks have (suc levels) zero system below other = absurd (omega (arith, other))
control_settles blocks have (suc levels) (suc more) system below other = go (enable_port blocks system) system below other (control_settles blocks have levels more) where
  go : (port : Option ℕ) (system : Option ℕ) → slot_of system < suc levels → slot_of system < suc more →
      ((around : Option ℕ) → slot_of around < levels → slot_of around < more → control_within blocks levels around ≡ control_within blocks more around) →
      control_else port system (control_within blocks levels) blocks ≡ control_else port system (control_within blocks more) blocks
  go (Some port) system below other settles = refl
  go None None below other settles = refl
  go None (Some system) below other settles =
      settles (system_around blocks (Some system)) (omega (arith, around_before blocks system have, below))
      (omega (arith, around_before blocks system have, other))

-- the control of the System of a block, by that of the System which holds the block
pub control_step : (blocks : List NestedBlock) (place : ℕ) (block : NestedBlock) → HaveParents blocks → slice_get blocks place ≡ Some block → place < length blocks →
    control_of blocks (Some place) ≡ control_else (enable_port blocks (Some place)) (Some place) (λ system. control_of blocks block.parent) blocks
control_step blocks place block have at inside = go (enable_port blocks (Some place)) where
  around : system_around blocks (Some place) ≡ block.parent
  around = rw at refl

  go : (port : Option ℕ) → control_else port (Some place) (control_within blocks (length blocks)) blocks ≡ control_else port (Some place) (λ system. control_of blocks block.parent) blocks
  go (Some port) = refl
  go None =
      ap (control_within blocks (length blocks)) around
      ∙ control_settles blocks have (length blocks) (suc (length blocks)) block.parent (omega (arith, have.before place block at, inside)) (omega (arith, have.before place block at, inside))

-- the EnablePort of a System, or else the control around it
chosen : (blocks : List NestedBlock) (place : ℕ) (port around : Option ℕ) → first_of port around ≡ control_else port (Some place) (λ system. around) blocks
chosen blocks place None around = refl
chosen blocks place (Some port) around = refl

pub control_noted : (blocks : List NestedBlock) (place : ℕ) (block : NestedBlock) (port around : Option ℕ) → HaveParents blocks → place < length blocks → get_or blocks place block ≡ block →
    port ≡ enable_port blocks (system_of (place + 1)) → around ≡ control_of blocks block.parent → first_of port around ≡ control_of blocks (system_of (place + 1))
control_noted blocks place block port around have inside at port_is around_is =
    let step = control_step blocks place block have (slice_get-get_or blocks place block inside ∙ ap (λ (b : NestedBlock). Some b) at) inside in
    let own : port ≡ enable_port blocks (Some place) = rw add-one at port_is in
    rw add-one
    (chosen blocks place port around ∙ ap (λ (o : Option ℕ). control_else o (Some place) (λ system. around) blocks) own
    ∙ ap (λ (o : Option ℕ). control_else (enable_port blocks (Some place)) (Some place) (λ system. o) blocks) around_is ∙ sym step)

root_control : (blocks : List NestedBlock) → enable_port blocks None ≡ control_of blocks None
root_control blocks = go (enable_port blocks None) where
  go : (port : Option ℕ) → port ≡ control_else port None (control_within blocks (length blocks)) blocks
  go None = refl
  go (Some port) = refl

-- a table of the EnablePorts in which the root and the Systems of the first blocks have their
-- controls
pub record AreControlsTo (blocks : List NestedBlock) (place : ℕ) (controls : List (Option ℕ)) : Type 0 where
  pub size : length controls ≡ suc (length blocks)
  pub done : (k : ℕ) (d : Option ℕ) → k < place + 1 → get_or controls k d ≡ control_of blocks (system_of k)
  pub later : (k : ℕ) (d : Option ℕ) → place < k → k < suc (length blocks) → get_or controls k d ≡ enable_port blocks (system_of k)

pub controls_begun : (blocks : List NestedBlock) (enables : List (Option ℕ)) → IsTable (suc (length blocks)) (λ slot. enable_port blocks (system_of slot)) enables → AreControlsTo blocks 0 enables
controls_begun blocks enables is = record {
  size = is.size;
  done = λ k d below.
      let root : k ≡ 0 = omega (arith, below) in
      subst (λ (j : ℕ). get_or enables j d ≡ control_of blocks (system_of j)) (sym root) (is.at 0 d (omega arith) ∙ root_control blocks);
  later = λ k d above inside. is.at k d inside;
}

pub controls_more : (blocks : List NestedBlock) (place : ℕ) (controls : List (Option ℕ)) (noted : Option ℕ) → place < length blocks → noted ≡ control_of blocks (system_of (place + 1)) →
    AreControlsTo blocks place controls → AreControlsTo blocks (place + 1) (set controls (place + 1) noted)
controls_more blocks place controls noted inside is are = record {
  size = length-set controls (place + 1) noted ∙ are.size;
  done = λ k d below.
      elim (cases_eq k (place + 1)) [
        | inl e ↦
            let same : get_or (set controls (place + 1) noted) (place + 1) d
            ≡ control_of blocks (system_of (place + 1)) =
            get_or-set_same controls (place + 1) noted d (omega (arith, inside, are.size)) ∙ is in
            subst (λ (j : ℕ). get_or (set controls (place + 1) noted) j d ≡ control_of blocks (system_of j)) (sym e) same
        | inr n ↦ get_or-set_other controls (place + 1) k noted d n ∙ are.done k d (omega (arith, below, n))
      ];
  later = λ k d above within.
      get_or-set_other controls (place + 1) k noted d (λ e. absurd (omega (arith, e, above))) ∙ are.later k d (omega (arith, above)) within;
}

pub controls_all : (blocks : List NestedBlock) (place : ℕ) (controls : List (Option ℕ)) → length blocks ≤ place
    → AreControlsTo blocks place controls
    → IsTable (suc (length blocks)) (λ slot. control_of blocks (system_of slot)) controls
controls_all blocks place controls whole are = record {
  size = are.size;
  at = λ k d below. are.done k d (omega (arith, below, whole));
}
