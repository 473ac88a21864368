use Rattle.std.proofs.Common.{◌≡◌, ℕ, ◌+◌, ◌<◌, List, ◌∷◌, ◌++◌, length, drop, get_or, map, sym, ap, ap₂, subst, ◌∙◌, append_assoc, arith}
use Rattle.std.specs.Prelude.{All, flat_map, zip}
use Rattle.std.specs.Vec.Iter.{into_iter_items}
use Rattle.std.proofs.lemmas.List.{drop_more}
use Rattle.std.proofs.lemmas.List.Elements.{All-head, All-tail}
use Rattle.dg_model.specs.declared.nested.NestedBlock.{NestedBlock}
use Rattle.dg_model.specs.declared.nested.NestedLine.{NestedLine}
use Rattle.mdl_build.specs.declared.expanding.DrawnBlock.{DrawnBlock}
use Rattle.mdl_build.specs.Expanded.{with_filling, filling_lines, moved_line}
use Rattle.mdl_build.specs.inner.Sketch.{IsPlaced}
use Rattle.mdl_build.proofs.expanding.put_expanded.Goals as goal

abbrev lines_of_entry : ℕ × DrawnBlock → List NestedLine
lines_of_entry entry = filling_lines entry.0 entry.1.filter

pub loop-drawn-init : goal.loop-drawn-init
loop-drawn-init c =
    let numbers = c.args.numbers.now in
    let lines = c.args.lines.now in
    let items : into_iter_items c.into_iter-left.result ≡ c.args.blocks = c.into_iter-left.ensures.rest ∙ c.into_vec.ensures in
    let long = ap (λ (drawn : List DrawnBlock). length drawn) items in
    let all = ap (λ (drawn : List DrawnBlock). length drawn) c.into_vec.ensures in
    record {
      blocks = λ other.
          ap (λ (blocks : List NestedBlock). blocks ++ flat_map (with_filling other numbers) (zip numbers (into_iter_items c.into_iter-left.result))) c.requires.no_blocks
          ∙ ap (λ (drawn : List DrawnBlock). flat_map (with_filling other numbers) (zip numbers drawn)) items;
      lines =
          ap (λ (put : List NestedLine). put ++ flat_map lines_of_entry (zip numbers (into_iter_items c.into_iter-left.result)))
          (c.in_ok-put_moved.ensures ∙ ap (λ (before : List NestedLine). before ++ map (moved_line numbers) lines) c.requires.no_lines)
          ∙ ap (λ (drawn : List DrawnBlock). map (moved_line numbers) lines ++ flat_map lines_of_entry (zip numbers drawn)) items;
      len = omega (arith, c.into_iter-left.ensures.len, c.into_vec.result.ok.0, long, all);
      number = omega (arith, c.into_iter-left.ensures.len, c.into_vec.result.ok.0, all, c.requires.numbers.long);
      placed = subst (λ (drawn : List DrawnBlock). All (IsPlaced numbers) drawn) (sym items) c.requires.numbers.blocks;
    }

pub put_drawn-requires-clause-placed : goal.put_drawn-requires-clause-placed
put_drawn-requires-clause-placed c =
    All-head (IsPlaced c.args.numbers.now) c.in-Some.drawn (into_iter_items c.next.new.self)
    (subst (λ (drawn : List DrawnBlock). All (IsPlaced c.args.numbers.now) drawn) c.in-Some.ensures.items c.loop-drawn.invariant.placed)

pub loop-drawn-preserved : goal.loop-drawn-preserved
loop-drawn-preserved c =
    let numbers = c.args.numbers.now in
    let k = c.loop-drawn.number in
    let place = get_or numbers k 0 in
    let left = into_iter_items c.next.new.self in
    let items : into_iter_items c.loop-drawn.left ≡ c.in-Some.drawn ∷ left = c.in-Some.ensures.items in
    let long = ap (λ (drawn : List DrawnBlock). length drawn) items in
    let within : k < length numbers = omega (arith, c.loop-drawn.invariant.number, c.loop-drawn.invariant.len, long) in
    let entries : zip (drop k numbers) (into_iter_items c.loop-drawn.left) ≡ (place, c.in-Some.drawn) ∷ zip (drop (k + 1) numbers) left =
    ap₂ (λ (ns : List ℕ) (drawn : List DrawnBlock). zip ns drawn) (drop_more numbers k 0 within) items in
    record {
      blocks = λ other.
          ap (λ (blocks : List NestedBlock). blocks ++ flat_map (with_filling other numbers) (zip (drop (k + 1) numbers) left)) (c.in_ok-put_drawn.ensures.blocks other)
          ∙ append_assoc c.loop-drawn.nested.blocks (with_filling other numbers (place, c.in-Some.drawn)) (flat_map (with_filling other numbers) (zip (drop (k + 1) numbers) left))
          ∙ sym (ap (λ (pairs : List (ℕ × DrawnBlock)). c.loop-drawn.nested.blocks ++ flat_map (with_filling other numbers) pairs) entries)
          ∙ c.loop-drawn.invariant.blocks other;
      lines =
          ap (λ (lines : List NestedLine). lines ++ flat_map lines_of_entry (zip (drop (k + 1) numbers) left)) c.in_ok-put_drawn.ensures.lines
          ∙ append_assoc c.loop-drawn.nested.lines (filling_lines place c.in-Some.drawn.filter) (flat_map lines_of_entry (zip (drop (k + 1) numbers) left))
          ∙ sym (ap (λ (pairs : List (ℕ × DrawnBlock)). c.loop-drawn.nested.lines ++ flat_map lines_of_entry pairs) entries)
          ∙ c.loop-drawn.invariant.lines;
      len = omega (arith, c.in-Some.ensures.len, c.loop-drawn.invariant.len, long);
      number = omega (arith, c.in-Some.ensures.len, c.loop-drawn.invariant.number);
      placed = All-tail (IsPlaced numbers) c.in-Some.drawn left (subst (λ (drawn : List DrawnBlock). All (IsPlaced numbers) drawn) items c.loop-drawn.invariant.placed);
    }
