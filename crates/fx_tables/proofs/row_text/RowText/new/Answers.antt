use Rattle.std.proofs.Common.{ℕ, ◌<◌, List, ◌∷◌, [], ◌++◌, length, map, get_or, sym, subst, ap, ◌∙◌, arith}
use Rattle.std.specs.Prelude.{All}
use Rattle.std.proofs.lemmas.List.{map_more, length-append, take_all}
use Rattle.std.proofs.lemmas.List.Elements.{All-push, All-get_or}
use Rattle.fx_tables.specs.declared.table.Column.{Column}
use Rattle.fx_tables.proofs.row_text.RowText.new.Goals as goal

pub loop-column-preserved : goal.loop-column-preserved
loop-column-preserved c =
    let columns = c.args.columns.now in
    let i = c.loop-column.column-index in
    let old = c.loop-column.periods in
    let period : ℕ = (get_or columns i _).period in
    let pushed = c.in_ok-push.ensures.items in
    record {
      copied = pushed ∙ ap (λ (front : List ℕ). front ++ period ∷ []) c.loop-column.invariant.copied ∙ sym (map_more (λ (column : Column). column.period) columns i _ c.loop-column-test.true);
      counted = omega (arith, c.push.new.self.ok.0, ap length pushed, length-append old.items (period ∷ []), old.ok.0, c.loop-column.invariant.counted);
      hits = subst (All (λ (p : ℕ). 0 < p)) (sym pushed)
          (All-push (λ (p : ℕ). 0 < p) old.items period c.loop-column.invariant.hits
          (All-get_or (λ (column : Column). 0 < column.period) columns i _ c.loop-column-test.true
          c.requires.periods));
    }

pub returns : goal.returns
returns c = c.loop-column.invariant.copied ∙ ap (map (λ (column : Column). column.period)) (take_all c.loop-column.column-index c.args.columns.now c.loop-column-test.false)
