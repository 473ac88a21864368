use Rattle.std.proofs.Common.{◌≡◌, ◌+◌, length, take, true, false, cond, add-zero, sym, ap, subst, ◌∙◌, arith, ℕ}
use Rattle.std.proofs.lemmas.List.Sums.{count_by-le-length}
use Rattle.std.specs.Prelude.{not, count_by}
use Rattle.dg_model.specs.declared.nested.NestedBlock.{NestedBlock}
use Rattle.dg_flat.specs.Flat.{flat_place}
use Rattle.dg_flat.specs.Parts.{is_subsystem}
use Rattle.dg_flat.specs.inner.Tables.{IsTable}
use Rattle.dg_flat.proofs.Firsts.{take_block, count_push, length_done}
use Rattle.dg_flat.proofs.Tables.{table_push}
use Rattle.dg_flat.proofs.blocks.flat_places.Goals as goal
use Rattle.dg_flat.proofs.blocks.flat_places.Goals.{then-not-is_subsystem, else-not-is_subsystem}

pub loop-block-preserved : goal.loop-block-preserved
loop-block-preserved c =
    let blocks = c.args.blocks.now in
    let i = c.loop-block.block-index in
    let block = c.block-item.result in
    let stands = λ (other : NestedBlock). not (is_subsystem other.part) in
    let more : flat_place blocks (i + 1) ≡ flat_place blocks i + cond (stands block) 1 0 =
    ap (count_by stands) (take_block blocks i block c.loop-block-test.true (sym c.block-item.is)) ∙ count_push stands (take i blocks) block in
    let places : IsTable (i + 1) (flat_place blocks) c.push.new.self.items =
    rw c.in_ok-push.ensures.items (table_push i
    (flat_place blocks) c.loop-block.places.items c.loop-block.next c.loop-block.invariant.next
    c.loop-block.invariant.places) in
    elim c.if-not-is_subsystem.branch [
      | then-not-is_subsystem w ↦
          let counts : stands block ≡ true = ap not (sym c.is_subsystem.ensures ∙ w.if-not-is_subsystem.true) in
          record {
            next = w.next-is ∙ ap (λ n. n + 1) c.loop-block.invariant.next ∙ sym (more ∙ ap (λ t. flat_place blocks i + cond t 1 0) counts);
            places = places;
          }
      | else-not-is_subsystem w ↦
          let counts : stands block ≡ false = ap not (sym c.is_subsystem.ensures ∙ w.if-not-is_subsystem.false) in
          record {
            next = w.next-is ∙ c.loop-block.invariant.next ∙ sym (more ∙ ap (λ t. flat_place blocks i + cond t 1 0) counts ∙ add-zero (flat_place blocks i));
            places = places;
          }
    ]

pub overflow_add-next : goal.overflow_add-next
overflow_add-next c =
    let blocks = c.args.blocks.now in
    let i = c.loop-block.block-index in
    let below = count_by-le-length (λ (other : NestedBlock). not (is_subsystem other.part)) (take i blocks) in
    omega (arith, below, length_done blocks i c.loop-block-test.true, c.loop-block.invariant.next, c.loop-block-test.true, c.requires)

pub returns : goal.returns
returns c =
    let blocks = c.args.blocks.now in
    let all : c.loop-block.block-index ≡ length blocks = omega (arith, c.loop-block-test.false, c.loop-block.auto.block-index-end) in
    subst (λ (n : ℕ). IsTable n (flat_place blocks) c.loop-block.places.items) all c.loop-block.invariant.places
