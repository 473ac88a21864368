use Rattle.std.proofs.Common.{◌≡◌, ℕ, ◌<◌, ◌≤◌, ◌+◌, suc, ◌++◌, ◌∷◌, [], Some, Option, List, map, take, length, sym, ap, subst, ◌∙◌, arith}
use Rattle.std.specs.Prelude.{slice_get, position}
use Rattle.std.proofs.lemmas.List.{map-append, take_all, take_more}
use Rattle.std.proofs.lemmas.Option.{slice_get-get_or, get_or_from_slice_get}
use Rattle.dg_model.specs.declared.diagram.Block.{Block}
use Rattle.dg_model.specs.declared.diagram.Diagram.{Diagram}
use Rattle.dg_model.specs.Attributes.{attributes_of}
use Rattle.dg_model.specs.PlanNames.{count_of}
use Rattle.dg_rules.specs.declared.standing.Standing.{Standing}
use Rattle.dg_rules.specs.inner.Standings.{AreStandings, looked_at, count_in}
use Rattle.dg_rules.proofs.PlanLines.{count_is, has, within}
use Rattle.dg_rules.proofs.LineStates.{one_looked_at}
use Rattle.dg_rules.proofs.resolving.look_at_all.Goals as goal

pub loop-place-preserved : goal.loop-place-preserved
loop-place-preserved c =
    let diagram = c.args.checked.now.diagram in
    let plan = c.args.plan.now in
    let place = c.loop-place.place in
    let block = c.index-blocks-place.result in
    let blocks : c.as_slice-blocks.result.now ≡ diagram.blocks = c.as_slice-blocks.ensures ∙ ap (λ (d : Diagram). d.blocks) c.diagram.ensures in
    let below : place < length diagram.blocks = subst (λ (bs : List Block). place < length bs) blocks c.loop-place-test.true in
    let at : slice_get diagram.blocks place ≡ Some block =
    subst (λ (bs : List Block). slice_get bs place ≡ Some block) blocks (slice_get-get_or c.as_slice-blocks.result.now place _ c.loop-place-test.true ∙ ap Some (sym c.index-blocks-place.is)) in
    let number : c.in_ok-number.number ≡ position (has block.path) plan.pipelines =
    c.in_ok-number.ensures plan.pipelines c.requires.lines c.requires.ends ∙ ap (λ (b : Block). position (has b.path) plan.pipelines) (sym c.index-blocks-place.is) in
    let more : suc place ≡ place + 1 = omega arith in
    let standings : AreStandings diagram (attributes_of diagram) (suc place) plan.pipelines
    (looked_at (position (has block.path) plan.pipelines) c.may_be_pipelined-may.result
    c.loop-place.standings.items) =
    one_looked_at diagram (attributes_of diagram) plan.pipelines place block c.may_be_pipelined-may.result
    c.loop-place.standings.items c.requires.different at
    (c.may_be_pipelined-may.ensures block at) c.loop-place.invariant.standings in
    let items : c.look_at-count.new.standings.items ≡ looked_at (position (has block.path) plan.pipelines) c.may_be_pipelined-may.result c.loop-place.standings.items =
    c.look_at-count.ensures.standings ∙ ap (λ (n : Option ℕ). looked_at n c.may_be_pipelined-may.result c.loop-place.standings.items) number in
    let count : c.look_at-count.result ≡ count_of plan block.path =
    c.look_at-count.ensures.count ∙ ap (count_in c.in_ok-number.number) c.as_slice-pipelines.ensures ∙ ap (λ (n : Option ℕ). count_in n plan.pipelines) number ∙ count_is plan block.path in
    record {
      standings = subst (λ n. AreStandings diagram (attributes_of diagram) n plan.pipelines c.look_at-count.new.standings.items) more
          (subst (λ (s : List Standing). AreStandings diagram (attributes_of diagram) (suc place) plan.pipelines s) (sym items) standings);
      stages = c.in_ok-push.ensures.appended
          ∙ ap (λ (front : List ℕ). front ++ c.look_at-count.result ∷ []) c.loop-place.invariant.stages
          ∙ ap (λ n. map (λ (b : Block). count_of plan b.path) (take place diagram.blocks) ++ n ∷ []) count
          ∙ sym (map-append (λ (b : Block). count_of plan b.path) (take place diagram.blocks) (block ∷ []))
          ∙ sym (ap (λ front. map (λ (b : Block). count_of plan b.path) front)
          (take_more diagram.blocks place block below ∙ ap (λ b. take place diagram.blocks ++ b ∷ []) (get_or_from_slice_get diagram.blocks place block block at)));
    }

pub look_at-count-requires-clause-long : goal.look_at-count-requires-clause-long
look_at-count-requires-clause-long c = c.loop-place.invariant.standings.long ∙ ap length (sym c.as_slice-pipelines.ensures)

pub returns : goal.returns
returns c =
    let diagram = c.args.checked.now.diagram in
    let blocks : c.as_slice-blocks.result.now ≡ diagram.blocks = c.as_slice-blocks.ensures ∙ ap (λ (d : Diagram). d.blocks) c.diagram.ensures in
    let past : length diagram.blocks ≤ c.loop-place.place = subst (λ (bs : List Block). length bs ≤ c.loop-place.place) blocks c.loop-place-test.false in
    let within : c.loop-place.place ≤ length diagram.blocks = subst (λ (bs : List Block). c.loop-place.place ≤ length bs) blocks c.loop-place.auto.place-end in
    let all : c.loop-place.place ≡ length diagram.blocks = omega (arith, past, within) in
    record {
      standings = subst (λ n. AreStandings diagram (attributes_of diagram) n c.args.plan.now.pipelines c.loop-place.standings.items) all c.loop-place.invariant.standings;
      stages = c.loop-place.invariant.stages ∙ ap (map (λ (b : Block). count_of c.args.plan.now b.path)) (take_all c.loop-place.place diagram.blocks past);
    }

pub look_at-count-requires-clause-within : goal.look_at-count-requires-clause-within
look_at-count-requires-clause-within c = λ k at.
    let lines = c.args.plan.now.pipelines in
    rw c.as_slice-pipelines.ensures (within lines _ k (sym (c.in_ok-number.ensures lines c.requires.lines c.requires.ends) ∙ at))

pub may_be_pipelined-may-requires : goal.may_be_pipelined-may-requires
may_be_pipelined-may-requires c =
    let blocks = c.as_slice-blocks.ensures ∙ ap (λ (d : Diagram). d.blocks) c.diagram.ensures in
    subst (λ (bs : List Block). c.loop-place.place < length bs) blocks c.loop-place-test.true
