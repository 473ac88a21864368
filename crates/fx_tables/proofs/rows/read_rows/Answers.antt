use Rattle.std.proofs.Common.{ℕ, ◌+◌, List, [], ◌++◌, length, eqb, ◌≡◌, ◌∙◌, arith, refl, sym, ap, true, false, Some}
use Rattle.std.proofs.lemmas.Bool.{eqb-true}
use Rattle.std.proofs.lemmas.Bool.Decides.{nat_tests}
use Rattle.std.proofs.lemmas.List.{append-nil, append_assoc, nil_from_length}
use Rattle.std.specs.Prelude.{ℤ, nat_le}
use Rattle.std.specs.List.{flat_map}
use Rattle.std.specs.Str.Lines.{lines}
use Rattle.fx_tables.specs.Stimulus.{cells_of, lines_fault}
use Rattle.fx_tables.proofs.CellsLemmas.{more_cells, stimulus_cell}
use Rattle.fx_tables.proofs.StimulusLemmas.{lines_fault-good, lines_fault-too_many}
use Rattle.fx_tables.proofs.rows.read_rows.Goals as goal

pub returns-then-lines-most-clause-refused : goal.returns-then-lines-most-clause-refused
returns-then-lines-most-clause-refused c other =
    let most = c.most_rows-most.result in
    let at_bound : nat_le most c.loop-rest.lines ≡ true = grind (arith, nat_tests) in
    sym c.loop-rest.invariant.faults
    ∙ lines_fault-too_many c.args.columns.now c.args.outputs c.loop-rest.lines _ _ _ c.cut_line-cut.ensures.line
    (c.most_rows-most.ensures.above c.loop-rest.lines ∙ at_bound)
    ∙ ap Some (sym c.bad.ensures)

pub loop-rest-init : goal.loop-rest-init
loop-rest-init c = record {
  counted = omega arith;
  faults = refl;
  numbers = ap (λ (cells : List ℤ). cells ++ flat_map cells_of (lines c.args.bytes.now)) c.new-cells.ensures;
  full = omega (arith, ap length c.new-cells.ensures);
  few = omega arith;
}

pub loop-rest-preserved : goal.loop-rest-preserved
loop-rest-preserved c =
    let columns = c.args.columns.now in
    let line = c.cut_line-cut.ensures.line in
    let left = lines c.cut_line-cut.result.tail.now in
    let old = c.loop-rest.cells in
    let read = c.in_ok-read_line.ensures in
    let within : nat_le c.most_rows-most.result c.loop-rest.lines ≡ false = grind (arith, nat_tests) in
    record {
      counted = omega (arith, ap length line, c.loop-rest.invariant.counted);
      faults = lines_fault-good columns c.args.outputs c.loop-rest.lines _ _ _ line (c.most_rows-most.ensures.above c.loop-rest.lines ∙ within) read.good ∙ c.loop-rest.invariant.faults;
      numbers =
          ap (λ (cells : List ℤ). cells ++ flat_map cells_of left) read.read
          ∙ append_assoc old (cells_of c.cut_line-cut.result.head.now) (flat_map cells_of left)
          ∙ ap (λ (texts : List (List ℕ)). old ++ flat_map cells_of texts) (sym line)
          ∙ c.loop-rest.invariant.numbers;
      full = omega (arith, read.full, c.loop-rest.invariant.full, more_cells c.loop-rest.lines (length columns));
      few = omega (arith, c.if-lines-most.false);
    }

-- nothing is left behind the last line
none_left : (rest : List ℕ) → true ≡ eqb (length rest) 0 → rest ≡ []
none_left rest empty = nil_from_length rest (eqb-true (length rest) 0 (sym empty))

pub returns-clause-rows : goal.returns-clause-rows
returns-clause-rows c =
    let none = none_left c.loop-rest.rest.now c.loop-rest-test.ensures in
    record {
      no_fault = sym c.loop-rest.invariant.faults ∙ ap (λ (rest : List ℕ). lines_fault c.args.columns.now c.args.outputs c.loop-rest.lines (lines rest)) none;
      line_count = omega (arith, c.loop-rest.invariant.counted, ap (λ (rest : List ℕ). length (lines rest)) none);
      column_count = refl;
      numbers = sym (append-nil c.loop-rest.cells) ∙ ap (λ (rest : List ℕ). c.loop-rest.cells ++ flat_map cells_of (lines rest)) (sym none) ∙ c.loop-rest.invariant.numbers;
    }

pub returns-clause-few : goal.returns-clause-few
returns-clause-few c = omega (arith, c.loop-rest.invariant.few, c.most_rows-most.ensures.bound)

pub returns-clause-fits : goal.returns-clause-fits
returns-clause-fits c sample k column value inside at reads =
    let rows = returns-clause-rows c in
    stimulus_cell c.args.columns.now c.args.outputs c.loop-rest.lines sample k c.args.bytes.now c.loop-rest.cells column value rows.no_fault rows.line_count rows.numbers inside at reads
