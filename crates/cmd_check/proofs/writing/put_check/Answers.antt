use Rattle.std.proofs.Common.{◌≡◌, ◌<◌, ◌-◌, ◌++◌, ℕ, List, All, length, take, ap, sym, ◌∙◌, subst, refl, arith}
use Rattle.std.specs.Prelude.{drop}
use Rattle.dg_model.specs.Attributes.{attributes_of}
use Rattle.hw_rules.specs.Times.{timing_in}
use Rattle.cmd_check.specs.CheckText.{blocks_text, front_text}
use Rattle.cmd_check.proofs.PieceBytes.{adds_as, both, written}
use Rattle.cmd_check.proofs.PieceTexts.{front_is}
use Rattle.cmd_check.proofs.Whole.{blocks_there, few_outputs, left_behind, names_left, text_of}
use Rattle.cmd_check.proofs.writing.put_check.Goals as goal

pub overflow_sub-first : goal.overflow_sub-first
overflow_sub-first g c =
    let few = few_outputs c.args.checked.now.diagram c.args.gathered.names c.args.gathered.outputs c.requires.gathered.size c.requires.gathered.outputs in
    let names = ap (λ (xs : List (List ℕ)). length xs) c.as_slice.ensures in
    let blocks = ap (λ (xs : List ℕ). length xs) c.as_slice-2.ensures in
    omega (arith, few, names, blocks)

pub put_outputs-requires-clause-there : goal.put_outputs-requires-clause-there
put_outputs-requires-clause-there g c =
    let diagram = c.args.checked.now.diagram in
    subst (λ (blocks : List ℕ). All (λ block. block < length diagram.blocks) blocks) (sym c.as_slice-4.ensures)
    (blocks_there diagram (c.root_elements_are_listed.ensures.outputs diagram (attributes_of diagram) c.keeps_rules.ensures.checked.wired) c.args.gathered.outputs c.requires.gathered.outputs)

pub put_outputs-requires-clause-size : goal.put_outputs-requires-clause-size
put_outputs-requires-clause-size g c =
    let names = ap (λ (xs : List (List ℕ)). length xs) c.as_slice.ensures in
    let blocks = ap (λ (xs : List ℕ). length xs) c.as_slice-2.ensures in
    let first : length c.as_slice.result.now - length c.as_slice-2.result.now ≡ length c.args.gathered.names - length c.args.gathered.outputs = omega (arith, names, blocks) in
    let left = names_left c.args.checked.now.diagram c.args.gathered.names _ c.args.gathered.outputs
    (length c.as_slice.result.now - length c.as_slice-2.result.now) c.requires.gathered.size
    c.requires.gathered.outputs first (left_behind
    (length c.as_slice.result.now - length c.as_slice-2.result.now) c.args.gathered.names
    c.as_slice-3.result.now c.as_slice-3.ensures) in
    left ∙ sym (ap (λ (xs : List ℕ). length xs) c.as_slice-4.ensures)

pub returns : goal.returns
returns g c =
    let diagram = c.args.checked.now.diagram in
    let plan = c.args.planned.now.resolved in
    let timing = timing_in c.args.planned.now.times in
    let first : ℕ = length c.as_slice.result.now - length c.as_slice-2.result.now in
    let blocks : List ℕ = c.as_slice-4.result.now in
    let names = ap (λ (xs : List (List ℕ)). length xs) c.as_slice.ensures in
    let counts = ap (λ (xs : List ℕ). length xs) (c.as_slice-2.ensures ∙ sym c.as_slice-4.ensures) in
    let first_is : first ≡ length c.args.gathered.names - length blocks = omega (arith, names, counts) in
    let before : List ℕ = front_text plan ++ blocks_text diagram timing in
    let outputs = c.put_outputs.ensures in
    record {
      text = before ++ outputs.bytes;
      is =
          text_of diagram plan timing c.args.gathered.names
          (take (length c.as_slice-3.result.now - first) (drop first c.as_slice-3.result.now)) blocks first
          before (before ++ outputs.bytes) c.requires.gathered.named c.requires.gathered.size
          (c.as_slice-4.ensures ∙ c.requires.gathered.outputs)
          first_is (left_behind first c.args.gathered.names c.as_slice-3.result.now c.as_slice-3.ensures) refl (outputs.lines before);
      ends =
          written c.args.out.now c.put_outputs.new.out c.put_last.new.out c.none_pending-pending.result
          c.put_outputs.new.pending (before ++ outputs.bytes) c.put_last.result
          c.none_pending-pending.ensures.empty c.none_pending-pending.ensures.faultless
          (both (both (adds_as (front_is plan c.from-cycles.result c.from-multipliers.result c.from-cycles.ensures
          c.from-multipliers.ensures) (both (both c.put_named.ensures c.put_named-2.ensures) c.put.ensures))
          c.put_blocks.ensures) outputs.puts) c.put_last.ensures;
    }
