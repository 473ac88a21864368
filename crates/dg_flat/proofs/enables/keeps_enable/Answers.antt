use Rattle.std.proofs.Common.{◌≡◌, ℕ, ◌≤◌, Bool, true, false, not, eqb, List, length, Option, Some, None, inl, inr, refl, sym, subst, ap, ◌∙◌}
use Rattle.std.specs.Prelude.{◌⊎◌}
use Rattle.std.specs.Option.{option_eq, is_some}
use Rattle.std.proofs.lemmas.Bool.{true≢false, eqb-true, eq-eqb}
use Rattle.dg_model.specs.declared.nested.NestedBlock.{NestedBlock}
use Rattle.dg_model.specs.declared.diagram.Block.{Block}
use Rattle.dg_model.specs.declared.nested.Part.{Part}
use Rattle.dg_model.specs.declared.nested.Part.TheVariants.{In, Out, SubSystem}
use Rattle.dg_model.specs.Library.{row_of}
use Rattle.dg_flat.specs.Parts.{control_of}
use Rattle.dg_flat.specs.Rules.{MayStand, MayStandAt}
use Rattle.dg_flat.specs.inner.Slots.{slot_of}
use Rattle.dg_flat.proofs.Controls.{slot_below, around_below}
use Rattle.dg_flat.proofs.enables.keeps_enable.Goals as goal

-- what the comparisons tell
same_place : (found : Option ℕ) (place : ℕ) → true ≡ option_eq eqb found (Some place) → found ≡ Some place
same_place None place tells = absurd (true≢false tells)
same_place (Some other) place tells = ap Some (eqb-true other place (sym tells))

other_place : (found : Option ℕ) (place : ℕ) → false ≡ option_eq eqb found (Some place) → found ≡ Some place → ⊥
other_place found place tells same = true≢false (sym (tells ∙ ap (λ (o : Option ℕ). option_eq eqb o (Some place)) same ∙ eq-eqb place place refl))

none_there : (found : Option ℕ) (b : Bool) → is_some found ≡ not b → b ≡ true → found ≡ None
none_there None b tells is = refl
none_there (Some other) b tells is = absurd (true≢false (tells ∙ ap not is))

some_there : (found : Option ℕ) (b : Bool) → is_some found ≡ not b → b ≡ false → found ≡ None → ⊥
some_there found b tells is none = true≢false (sym (sym (ap is_some none) ∙ tells ∙ ap not is))

pub returns-then-eq-clause-kept : goal.returns-then-eq-clause-kept
returns-then-eq-clause-kept c outside =
    let blocks = c.args.blocks.now in
    let system = c.args.block.now.parent in
    let first = sym c.enable.ensures ∙ same_place c.enable.result c.args.place c.if-eq.ensures in
    let control = c.control-then-eq.ensures ∙ ap (control_of blocks) c.around.ensures in
    subst (λ (part : Part). MayStandAt blocks c.args.place system part) (sym c.in-Enable.is) (first, sym control ∙ none_there c.control-then-eq.result c.is_none.result c.is_none.ensures outside)

pub returns-then-eq-clause-broken : goal.returns-then-eq-clause-broken
returns-then-eq-clause-broken c inside keeps =
    let blocks = c.args.blocks.now in
    let system = c.args.block.now.parent in
    let kept = subst (λ (part : Part). MayStandAt blocks c.args.place system part) c.in-Enable.is keeps in
    let control = c.control-then-eq.ensures ∙ ap (control_of blocks) c.around.ensures in
    some_there c.control-then-eq.result c.is_none.result c.is_none.ensures inside (control ∙ kept.1)

pub returns-else-eq-clause-kept : goal.returns-else-eq-clause-kept
returns-else-eq-clause-kept c stands = absurd (true≢false (sym stands ∙ c.if-eq.false))

pub returns-else-eq-clause-broken : goal.returns-else-eq-clause-broken
returns-else-eq-clause-broken c fails keeps =
    let blocks = c.args.blocks.now in
    let system = c.args.block.now.parent in
    let kept = subst (λ (part : Part). MayStandAt blocks c.args.place system part) c.in-Enable.is keeps in
    other_place c.enable.result c.args.place c.if-eq.ensures (c.enable.ensures ∙ kept.0)

-- what an Inport, an Outport and a subsystem may always
free : (blocks : List NestedBlock) (place : ℕ) (system : Option ℕ) (part : Part)
    → (((own : Block) × (number : ℕ) × (part ≡ In own number))
    ⊎ (((own : Block) × (number : ℕ) × (part ≡ Out own number)) ⊎ (part ≡ SubSystem)))
    → MayStandAt blocks place system part
free blocks place system part is =
    elim is [
      | inl inner ↦ subst (λ (p : Part). MayStandAt blocks place system p) (sym inner.2) tt
      | inr other ↦ elim other [
        | inl outer ↦ subst (λ (p : Part). MayStandAt blocks place system p) (sym outer.2) tt
        | inr holds ↦ subst (λ (p : Part). MayStandAt blocks place system p) (sym holds) tt
      ]
    ]

pub returns-in-In-clause-kept : goal.returns-in-In-clause-kept
returns-in-In-clause-kept c _ = free c.args.blocks.now c.args.place c.args.block.now.parent c.args.block.now.part c.in-In.is

pub returns-in-In-clause-broken : goal.returns-in-In-clause-broken
returns-in-In-clause-broken c fails = absurd (true≢false fails)

pub returns-in-In-2-clause-kept : goal.returns-in-In-2-clause-kept
returns-in-In-2-clause-kept c _ = free c.args.blocks.now c.args.place c.args.block.now.parent c.args.block.now.part c.in-In.is

pub returns-in-In-2-clause-broken : goal.returns-in-In-2-clause-broken
returns-in-In-2-clause-broken c fails = absurd (true≢false fails)

pub returns-in-In-3-clause-kept : goal.returns-in-In-3-clause-kept
returns-in-In-3-clause-kept c _ = free c.args.blocks.now c.args.place c.args.block.now.parent c.args.block.now.part c.in-In.is

pub returns-in-In-3-clause-broken : goal.returns-in-In-3-clause-broken
returns-in-In-3-clause-broken c fails = absurd (true≢false fails)

pub returns-in-Plain-clause-kept : goal.returns-in-Plain-clause-kept
returns-in-Plain-clause-kept c stands =
    let blocks = c.args.blocks.now in
    let system = c.args.block.now.parent in
    subst (λ (part : Part). MayStandAt blocks c.args.place system part) (sym c.in-Plain.is)
    (subst (λ (o : Option ℕ). MayStand (row_of c.in-Plain.plain.kind).place.stands o) c.control.ensures (c.may_stand.ensures.0 stands))

pub returns-in-Plain-clause-broken : goal.returns-in-Plain-clause-broken
returns-in-Plain-clause-broken c fails keeps =
    let blocks = c.args.blocks.now in
    let system = c.args.block.now.parent in
    let kept = subst (λ (part : Part). MayStandAt blocks c.args.place system part) c.in-Plain.is keeps in
    true≢false (sym (c.may_stand.ensures.1 (subst (λ (o : Option ℕ). MayStand (row_of c.in-Plain.plain.kind).place.stands o) (sym c.control.ensures) kept)) ∙ fails)

pub control-requires-clause-there : goal.control-requires-clause-there
control-requires-clause-there c = slot_below c.args.blocks.now c.args.place c.args.block.now c.requires.parents c.requires.there

pub enable-requires-clause-there : goal.enable-requires-clause-there
enable-requires-clause-there c = slot_below c.args.blocks.now c.args.place c.args.block.now c.requires.parents c.requires.there

pub around-requires : goal.around-requires
around-requires c = slot_below c.args.blocks.now c.args.place c.args.block.now c.requires.parents c.requires.there

pub control-requires-then-eq-clause-there : goal.control-requires-then-eq-clause-there
control-requires-then-eq-clause-there c =
    let blocks = c.args.blocks.now in
    let below = slot_below blocks c.args.place c.args.block.now c.requires.parents c.requires.there in
    subst (λ (system : Option ℕ). slot_of system ≤ length blocks) (sym c.around.ensures) (around_below blocks c.args.block.now.parent c.requires.parents below)
