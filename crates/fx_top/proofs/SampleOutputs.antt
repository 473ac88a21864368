-- When the outputs of a sample show their first numbers, and what its module says of itself.
use Rattle.std.proofs.Common.{◌≡◌, ◌<◌, ◌≤◌, ℕ, zero, suc, List, [], ◌∷◌, All, None, Some, length, map, refl, ap, sym, subst, ◌∙◌, arith}
use Rattle.std.specs.Prelude.{slice_get, slice_index_or}
use Rattle.std.proofs.lemmas.List.{length-map}
use Rattle.std.proofs.lemmas.Option.{slice_get-get_or, slice_get_within}
use Rattle.dg_model.specs.declared.diagram.Diagram.{Diagram}
use Rattle.dg_model.specs.declared.resolved.Resolved.{Resolved}
use Rattle.dg_model.specs.Attributes.{attributes_of}
use Rattle.dg_model.specs.Laws.{OutputsAreListed}
use Rattle.dg_model.specs.RootElements.{RootElement, root_outputs}
use Rattle.dg_model.specs.Wired.{IsWired}
use Rattle.dg_tables.specs.Listing.{AreBlocksOf}
use Rattle.cmd_sample.specs.declared.summing.Made.{Made}
use Rattle.cmd_sample.specs.Summary.{equal_count, summary_text}
use Rattle.cmd_sample.specs.ModelText.{sample_model}
use Rattle.cmd_sample.specs.Stimulus.{sample_plan, sample_stimulus}
use Rattle.cmd_design.specs.Design.{IsDesignOf}
use Rattle.fx_top.specs.Summarized.{IsMade, IsSampleResponse, IsSummaryOf, latency_of_output}
use Rattle.cmd_generate.specs.Generated.{SpellsAlone}
use Rattle.cmd_generate.specs.Generating.{IsWrittenOf}
use Rattle.fx_top.specs.inner.SampleFaults.{IsOwed}
use Rattle.hw_module.specs.Design.{IsModuleOf}
use Rattle.hw_rules.specs.declared.times.Times.{Times}
use Rattle.hw_rules.specs.Times.{timing_in}
use Rattle.hw_sched.specs.Ready.{declared_latency}
use Rattle.hw_sched.specs.Slots.{Timing}
use Rattle.vl_ast.specs.declared.modules.Module.{Module}
use Rattle.mdl_build.proofs.SoundTree.{same_Some}

none_some : (y : ℕ) → None ≡ Some y → ⊥
none_some y same = absurd (cc same)

-- the element at a place of the list of blocks
element_from : (elements : List RootElement) (k y : ℕ) → slice_get (map (λ (e : RootElement). e.block) elements) k ≡ Some y → (e : RootElement) × (slice_get elements k ≡ Some e) × (e.block ≡ y)
element_from [] k y at = absurd (none_some y at)
element_from (e ∷ elements) zero y at = (e, refl, same_Some e.block y at)
element_from (e ∷ elements) (suc k) y at = element_from elements k y at

-- a number of a block's, at the place of its element, and 0 where there is none
number_of_some : (f : ℕ → ℕ) (elements : List RootElement) (place block : ℕ)
    → slice_get (map (λ (e : RootElement). e.block) elements) place ≡ Some block
    → f block ≡ slice_index_or (map (λ (e : RootElement). f e.block) elements) place 0
number_of_some f [] place block at = absurd (none_some block at)
number_of_some f (e ∷ elements) zero block at = ap f (sym (same_Some e.block block at))
number_of_some f (e ∷ elements) (suc place) block at = number_of_some f elements place block at

number_past : (f : ℕ → ℕ) (elements : List RootElement) (place : ℕ) → length elements ≤ place → 0 ≡ slice_index_or (map (λ (e : RootElement). f e.block) elements) place 0
number_past f [] place past = refl
number_past f (e ∷ elements) zero past = absurd (omega (arith, past))
number_past f (e ∷ elements) (suc place) past = number_past f elements place (omega (arith, past))

module _ (diagram : Diagram) where
  -- the blocks of the outputs are there
  pub outputs_there : OutputsAreListed → IsWired diagram → (blocks : List ℕ) → AreBlocksOf (root_outputs diagram (attributes_of diagram)) blocks → All (λ block. block < length diagram.blocks) blocks
  outputs_there listed wired blocks are = λ k d within.
      let outputs = root_outputs diagram (attributes_of diagram) in
      let found = element_from outputs k (slice_index_or blocks k d) (sym (ap (λ (xs : List ℕ). slice_get xs k) are) ∙ slice_get-get_or blocks k d within) in
      let of = (listed diagram (attributes_of diagram) wired).elements_of k found.0 found.1 in
      subst (λ (x : ℕ). x < length diagram.blocks) found.2 (slice_get_within diagram.blocks found.0.block of.0 of.1)

  module _ (plan : Resolved) (timing : Timing) (blocks : List ℕ) (are : AreBlocksOf (root_outputs diagram (attributes_of diagram)) blocks) (place : ℕ) where
    -- when the block at a place shows its first number
    pub latency_there : (block clocks : ℕ) → slice_get blocks place ≡ Some block
        → clocks ≡ declared_latency diagram (attributes_of diagram) plan timing block
        → clocks ≡ latency_of_output diagram plan timing place
    latency_there block clocks at is =
        is ∙ number_of_some (declared_latency diagram (attributes_of diagram) plan timing)
        (root_outputs diagram (attributes_of diagram)) place block
        (ap (λ (xs : List ℕ). slice_get xs place) (sym are) ∙ at)

    -- and where there is none
    pub latency_past : length blocks ≤ place → 0 ≡ latency_of_output diagram plan timing place
    latency_past past =
        let elements = root_outputs diagram (attributes_of diagram) in
        let size = ap (λ (xs : List ℕ). length xs) are ∙ length-map elements (λ e. e.block) in
        number_past (declared_latency diagram (attributes_of diagram) plan timing) elements place (omega (arith, past, size))

  -- what a module says of itself is what is owed
  is_made : (plan : Resolved) (timing : Timing) (own : Module) (made : Made) → IsModuleOf own diagram plan timing → IsOwed diagram plan timing made → IsMade own diagram plan timing made
  is_made plan timing own made owed is = record { multiplications_are = is.multiplications_are ∙ sym owed.owed; out_is = is.out_is; slow_is = is.slow_is }

  -- the summary of a design
  pub summed : (MayTell : List ℕ → List ℕ → List ℕ → Type 0) (number : ℕ) (plan : Resolved) (times : Times) (made : Made) (verilog response told text : List ℕ)
      → IsDesignOf (sample_model number) sample_plan diagram plan (timing_in times)
      → IsWrittenOf diagram plan times verilog → IsOwed diagram plan (timing_in times) made
      → IsSampleResponse number response
      → MayTell verilog (sample_stimulus number) told → text ≡ summary_text number made (equal_count response told) → IsSummaryOf MayTell number told text
  summed MayTell number plan times made verilog response told text design written owed simulated may is = record {
    diagram = diagram;
    plan = plan;
    timing = timing_in times;
    design = design;
    own = written.made;
    owed = written.so;
    alone = subst (λ (bytes : List ℕ). SpellsAlone bytes written.made) written.spelled written.alone;
    may = subst (λ (bytes : List ℕ). MayTell bytes (sample_stimulus number) told) written.spelled may;
    response = response;
    simulated = simulated;
    made = made;
    says = is_made plan (timing_in times) written.made made written.so owed;
    text_is = is;
  }
