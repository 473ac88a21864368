use Rattle.std.proofs.Common.{◌≡◌, false, [], length, replicate, refl, arith}
use Rattle.dg_flat.specs.inner.Ports.{control_drivers, is_lacking, port_drivers}
use Rattle.dg_flat.proofs.Cells.{rows_filled}
use Rattle.dg_flat.proofs.Tables.{table_filled}
use Rattle.dg_flat.proofs.tally.Tally.of.Goals as goal

pub of-requires : goal.of-requires
of-requires c = omega (arith, c.in_ok-input_counts.ensures.size, c.requires.few)

pub put_lines-requires-clause-tally : goal.put_lines-requires-clause-tally
put_lines-requires-clause-tally c =
    let blocks = c.args.blocks.now in
    let rows = c.in_ok-rows.rows in
    let drivers : c.in_ok-drivers.drivers.items ≡ replicate rows.cells 0 = c.in_ok-drivers.ensures.items_if_clones_equal (λ y same. same) in
    record {
      rows = c.in_ok-rows.ensures.rows;
      lengths = rw c.in_ok-rows.ensures.lengths c.in_ok-input_counts.ensures;
      drivers = rw drivers (rows_filled rows.lengths.items (port_drivers []) 0 rows.cells c.in_ok-rows.ensures.rows.cells (λ row number. refl));
      enables = rw (c.in_ok-enables.ensures.items_if_clones_equal (λ y same. same)) (table_filled (length blocks) _ (control_drivers []) 0 (omega arith) (λ k. refl));
      lacks = rw (c.in_ok-lacks.ensures.items_if_clones_equal (λ y same. same)) (table_filled (length blocks) _ (is_lacking blocks []) false (omega arith) (λ k. refl));
    }

pub returns : goal.returns
returns c = c.put_lines.ensures
