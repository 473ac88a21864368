-- The whole text, from the lines of its outputs.
use Rattle.std.proofs.Common.{◌≡◌, ℕ, ◌+◌, ◌-◌, ◌<◌, List, ◌++◌, length, map, take, ap, sym, ◌∙◌, subst, arith, length-append}
use Rattle.std.specs.Prelude.{All, drop, slice_get, slice_index_or}
use Rattle.std.specs.List.{flat_map}
use Rattle.std.proofs.lemmas.List.{length-drop, length-map, take_all}
use Rattle.std.proofs.lemmas.Option.{slice_get-get_or, slice_get_within}
use Rattle.dg_model.specs.declared.diagram.Diagram.{Diagram}
use Rattle.dg_model.specs.declared.resolved.Resolved.{Resolved}
use Rattle.dg_model.specs.Attributes.{attributes_of}
use Rattle.dg_model.specs.RootElements.{RootElement, root_inputs, root_outputs}
use Rattle.dg_model.specs.Laws.{AreRootElements}
use Rattle.dg_model.specs.Wired.{root_output}
use Rattle.dg_model.specs.Wires.{width_into}
use Rattle.dg_tables.specs.Listing.{AreBlocksOf}
use Rattle.hw_names.specs.Names.{AreNames, wanted_names, wanted_of}
use Rattle.hw_sched.specs.Slots.{Timing}
use Rattle.cmd_check.specs.CheckText.{IsCheckText, blocks_text, front_text, output_line}
use Rattle.cmd_check.specs.inner.OutputLines.{AddsOutputs}
use Rattle.math_list.proofs.Places.{map_there}

-- what is left behind so many names
pub left_behind : (first : ℕ) (names own : List (List ℕ)) → own ≡ names → take (length own - first) (drop first own) ≡ drop first names
left_behind first names own is = let dropped = length-drop first own in take_all (length own - first) (drop first own) (omega (arith, dropped)) ∙ ap (λ (xs : List (List ℕ)). drop first xs) is

module _ (diagram : Diagram) where
  -- how many names there are
  pub wanted_size : length (wanted_names diagram) ≡ length (root_inputs diagram (attributes_of diagram)) + length (root_outputs diagram (attributes_of diagram))
  wanted_size =
      let ins = root_inputs diagram (attributes_of diagram) in
      let outs = root_outputs diagram (attributes_of diagram) in
      let in_size = length-map ins (wanted_of diagram (λ block. (attributes_of diagram).width_at block 1)) in
      let out_size = length-map outs (wanted_of diagram (λ block. width_into diagram (attributes_of diagram) block 1)) in
      let both = length-append (map (wanted_of diagram (λ block. (attributes_of diagram).width_at block 1)) ins)
      (map (wanted_of diagram (λ block. width_into diagram (attributes_of diagram) block 1)) outs) in
      omega (arith, in_size, out_size, both)

  -- those of outputs are as many as the outputs, and stand behind those of inputs
  pub few_outputs : (names : List (List ℕ)) (blocks : List ℕ) → length names ≡ length (wanted_names diagram)
      → AreBlocksOf (root_outputs diagram (attributes_of diagram)) blocks
      → length names ≡ length (root_inputs diagram (attributes_of diagram)) + length blocks
  few_outputs names blocks size are =
      let wanted = wanted_size in
      let outs = ap (λ (xs : List ℕ). length xs) are ∙ length-map (root_outputs diagram (attributes_of diagram)) (λ e. e.block) in
      omega (arith, size, wanted, outs)

  -- the blocks of the outputs are there
  pub blocks_there : (elements : AreRootElements root_output
      (λ block. width_into diagram (attributes_of diagram) block 1) diagram (attributes_of diagram)
      (root_outputs diagram (attributes_of diagram))) (blocks : List ℕ)
      → AreBlocksOf (root_outputs diagram (attributes_of diagram)) blocks → All (λ block. block < length diagram.blocks) blocks
  blocks_there elements blocks are = λ k d within.
      let found = map_there (λ (e : RootElement). e.block) (root_outputs diagram (attributes_of diagram)) k
      (slice_index_or blocks k d)
      (sym (ap (λ (xs : List ℕ). slice_get xs k) are) ∙ slice_get-get_or blocks k d within) in
      let of = elements.elements_of k found.0 found.1 in
      subst (λ (x : ℕ). x < length diagram.blocks) found.2 (slice_get_within diagram.blocks found.0.block of.0 of.1)

  pub names_left : (names rest : List (List ℕ)) (blocks : List ℕ) (first : ℕ)
      → length names ≡ length (wanted_names diagram)
      → AreBlocksOf (root_outputs diagram (attributes_of diagram)) blocks → first ≡ length names - length blocks
      → rest ≡ drop first names → length rest ≡ length blocks
  names_left names rest blocks first size are first_is rest_is =
      let few = few_outputs names blocks size are in
      let dropped = length-drop first names in
      let same = ap (λ (ns : List (List ℕ)). length ns) rest_is in
      omega (arith, few, first_is, dropped, same)

  pub text_of : (plan : Resolved) (timing : Timing) (names rest : List (List ℕ)) (blocks : List ℕ) (first : ℕ)
      (before text : List ℕ) → AreNames diagram names → length names ≡ length (wanted_names diagram)
      → AreBlocksOf (root_outputs diagram (attributes_of diagram)) blocks
      → first ≡ length names - length blocks → rest ≡ drop first names
      → before ≡ front_text plan ++ blocks_text diagram timing
      → AddsOutputs diagram plan timing rest blocks (length blocks) before text
      → IsCheckText diagram plan timing text
  text_of plan timing names rest blocks first before text named size are first_is rest_is before_is adds =
      let few = few_outputs names blocks size are in
      let left = names_left names rest blocks first size are first_is rest_is in
      let start : first ≡ length (root_inputs diagram (attributes_of diagram)) = omega (arith, few, first_is) in
      let names_all : take (length blocks) rest
      ≡ drop (length (root_inputs diagram (attributes_of diagram))) names =
      take_all (length blocks) rest (omega (arith, left)) ∙ rest_is ∙ ap (λ (n : ℕ). drop n names) start in
      let blocks_all : take (length blocks) blocks ≡ map (λ e. e.block) (root_outputs diagram (attributes_of diagram)) = take_all (length blocks) blocks (omega arith) ∙ are in
      record {
        names = names;
        named = named;
        outputs = adds.outputs;
        are = record { names_are = adds.are.names_are ∙ names_all; blocks_are = adds.are.blocks_are ∙ blocks_all; tight = adds.are.tight };
        text_is = adds.text_is ∙ ap (λ (front : List ℕ). front ++ flat_map (output_line diagram plan timing) adds.outputs) before_is;
      }
