use Rattle.std.proofs.Common.{◌≡◌, ℕ, ◌+◌, List, [], ◌∷◌, ◌++◌, drop, get_or, sym, ap, ◌∙◌, arith}
use Rattle.std.proofs.lemmas.List.{append-nil, append_assoc, drop_all, drop_more}
use Rattle.dg_model.specs.declared.diagram.Block.{Block}
use Rattle.dg_types.specs.inner.WidthShapes.{shown}
use Rattle.dg_types.proofs.rows.put_rows.Goals as goal

pub loop-place-init : goal.loop-place-init
loop-place-init c = ap (λ (rows : List (List ℕ)). rows ++ shown c.args.blocks.now c.args.held.now) c.requires.none

pub loop-place-preserved : goal.loop-place-preserved
loop-place-preserved c =
    let place = c.loop-place.place in
    let rows = c.loop-place.rows in
    let block = get_or c.args.blocks.now place c.index-blocks-place.result in
    let blocks = drop (place + 1) c.args.blocks.now in
    let held = drop (place + 1) c.args.held.now in
    let value = get_or c.args.held.now place 0 in
    let next : drop place c.args.blocks.now ≡ block ∷ blocks = drop_more c.args.blocks.now place c.index-blocks-place.result c.loop-place-test.true in
    let next_held : drop place c.args.held.now ≡ value ∷ held = drop_more c.args.held.now place 0 (omega (arith, c.requires.size, c.loop-place-test.true)) in
    ap (λ (all : List (List ℕ)). all ++ shown blocks held) c.in_ok-push.ensures.appended
    ∙ append_assoc rows (c.in_ok-row.row ∷ []) (shown blocks held)
    ∙ ap (λ (row : List ℕ). rows ++ row ∷ shown blocks held) c.in_ok-row.ensures
    ∙ ap (λ (left : List ℕ). rows ++ shown (block ∷ blocks) left) (sym next_held)
    ∙ ap (λ (left : List Block). rows ++ shown left (drop place c.args.held.now)) (sym next)
    ∙ c.loop-place.invariant

pub returns : goal.returns
returns c =
    let place = c.loop-place.place in
    let rows = c.loop-place.rows in
    sym (append-nil rows) ∙ ap (λ (left : List Block). rows ++ shown left (drop place c.args.held.now)) (sym (drop_all place c.args.blocks.now c.loop-place-test.false)) ∙ c.loop-place.invariant
