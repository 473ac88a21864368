use Rattle.std.proofs.Common.{◌≡◌, ◌+◌, ◌<◌, [], ◌∷◌, ◌++◌, ◌∙◌, length, map, drop, sym, ap, arith}
use Rattle.std.proofs.lemmas.Grind.{common_steps}
use Rattle.std.proofs.lemmas.Bool.{eqb-true, eqb-false}
use Rattle.std.proofs.lemmas.Bool.Decides.{nat_tests}
use Rattle.std.proofs.lemmas.List.{append-nil, length-append, length-map, nil_from_length}
use Rattle.fx_tables.specs.Fields.{fields_of}
use Rattle.fx_tables.specs.Stimulus.{cell_of, fields_fault}
use Rattle.fx_tables.specs.declared.table.TableFault.TheVariants.{Bad}
use Rattle.fx_tables.proofs.StimulusLemmas.{bad_field, fields_fault-more, no_fault, wrong_count}
use Rattle.fx_tables.proofs.rows.read_line.Goals as goal

pub loop-k-preserved : goal.loop-k-preserved
loop-k-preserved c =
    let some : 0 < length c.cut_field-cut.result.head.now = grind (arith, nat_tests, c.if-is_empty.ensures) in
    let first : fields_of c.loop-k.rest.now ≡ c.cut_field-cut.result.head.now ∷ fields_of c.cut_field-cut.result.tail.now = c.cut_field-cut.ensures.field some in
    record {
      counted = grind (arith, c.loop-k.invariant.counted, first);
      faults =
          fields_fault-more c.args.sample c.loop-k.k c.args.columns.now _ _ _ _ (omega arith) first c.in-Ok.ensures.0
          ∙ c.loop-k.invariant.faults;
      numbers = grind (arith, common_steps, c.loop-k.invariant.numbers, first, c.in-Ok.ensures.1);
    }

pub loop-k-preserved-in-Some : goal.loop-k-preserved-in-Some
loop-k-preserved-in-Some c =
    let cut = c.in-Some.ensures in
    record {
      counted = omega (arith, c.loop-k.invariant.counted, ap length cut.first);
      faults =
          fields_fault-more c.args.sample c.loop-k.k c.args.columns.now _ cut.field _ _ c.loop-k-test.true cut.first cut.good
          ∙ c.loop-k.invariant.faults;
      numbers = grind (arith, common_steps, c.loop-k.invariant.numbers, cut.first, cut.cell);
    }

pub returns-then-is_empty-clause-bad : goal.returns-then-is_empty-clause-bad
returns-then-is_empty-clause-bad c known =
    let empty : length c.cut_field-cut.result.head.now ≡ 0 = eqb-true (length c.cut_field-cut.result.head.now) 0 (sym c.is_empty.ensures ∙ c.if-is_empty.true) in
    let none : length (fields_of c.loop-k.rest.now) ≡ 0 = ap length (c.cut_field-cut.ensures.none empty) in
    wrong_count c.args.columns.now c.args.sample (fields_of c.args.line.now) c.bad.result (λ same. absurd (omega (arith, same, none, c.loop-k-test.true, c.loop-k.invariant.counted))) c.bad.ensures

pub returns-in-Err-clause-bad : goal.returns-in-Err-clause-bad
returns-in-Err-clause-bad c known =
    let head = c.cut_field-cut.result.head.now in
    let some : 0 < length head = grind (arith, nat_tests, c.if-is_empty.ensures) in
    bad_field c.args.columns.now c.args.sample c.loop-k.k _ (fields_of c.args.line.now)
    (fields_of c.loop-k.rest.now)
    (fields_of c.cut_field-cut.result.tail.now) head c.in-Err.cause c.bad-in-Err.result
    c.loop-k-test.true c.loop-k.invariant.counted c.loop-k.invariant.faults
    (c.cut_field-cut.ensures.field some) c.in-Err.ensures
    (c.bad-in-Err.ensures ∙ ap (Bad (c.args.sample + 1)) c.cause_of_line-cause.ensures)

pub returns-then-has_no_field-clause-read : goal.returns-then-has_no_field-clause-read
returns-then-has_no_field-clause-read c =
    let none = eqb-true (length (fields_of c.loop-k.rest.now)) 0 (sym c.has_no_field.ensures ∙ c.if-has_no_field.true) in
    let nothing : fields_of c.loop-k.rest.now ≡ [] = nil_from_length (fields_of c.loop-k.rest.now) none in
    sym (append-nil c.loop-k.cells) ∙ ap (λ fields. c.loop-k.cells ++ map cell_of fields) (sym nothing) ∙ c.loop-k.invariant.numbers

pub returns-then-has_no_field-clause-full : goal.returns-then-has_no_field-clause-full
returns-then-has_no_field-clause-full c =
    let left = fields_of c.loop-k.rest.now in
    let fields = fields_of c.args.line.now in
    let none = eqb-true (length left) 0 (sym c.has_no_field.ensures ∙ c.if-has_no_field.true) in
    let all : length (c.loop-k.cells ++ map cell_of left) ≡ length (c.args.cells.now ++ map cell_of fields) = ap length c.loop-k.invariant.numbers in
    omega (
      arith,
      none,
      all,
      length-append c.loop-k.cells (map cell_of left),
      length-map left cell_of,
      length-append c.args.cells.now (map cell_of fields),
      length-map fields cell_of,
      c.loop-k.invariant.counted,
      c.loop-k-test.false,
      c.loop-k.auto.k-end,
    )

pub returns-then-has_no_field-clause-good : goal.returns-then-has_no_field-clause-good
returns-then-has_no_field-clause-good c =
    let columns = c.args.columns.now in
    let left = fields_of c.loop-k.rest.now in
    let none = eqb-true (length left) 0 (sym c.has_no_field.ensures ∙ c.if-has_no_field.true) in
    let all : c.loop-k.k ≡ length columns = omega (arith, c.loop-k-test.false, c.loop-k.auto.k-end) in
    let same : length (fields_of c.args.line.now) ≡ length columns = omega (arith, all, none, c.loop-k.invariant.counted) in
    no_fault columns c.args.sample (fields_of c.args.line.now) left same (ap (λ k. fields_fault c.args.sample (drop k columns) left) (sym all) ∙ c.loop-k.invariant.faults)

pub returns-else-has_no_field-clause-bad : goal.returns-else-has_no_field-clause-bad
returns-else-has_no_field-clause-bad c known =
    let left = fields_of c.loop-k.rest.now in
    let some = eqb-false (length left) 0 (sym c.has_no_field.ensures ∙ c.if-has_no_field.false) in
    wrong_count c.args.columns.now c.args.sample (fields_of c.args.line.now) c.bad-else-has_no_field.result
    (λ same. some (omega (arith, same, c.loop-k-test.false, c.loop-k.auto.k-end, c.loop-k.invariant.counted))) c.bad-else-has_no_field.ensures
