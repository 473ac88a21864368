-- What a replay before its first sample and the writer of its lines are.
use Rattle.std.proofs.Common.{◌≡◌, ◌+◌, ◌++◌, ℕ, ℤ, Some, List, [], ◌∷◌, length, map, refl, sym, ap, subst, ◌∙◌}
use Rattle.std.proofs.lemmas.List.{length-map}
use Rattle.fx_tables.specs.declared.row_text.RowText.{RowText}
use Rattle.fx_tables.specs.declared.table.Column.{Column}
use Rattle.fx_tables.specs.declared.table.Rows.{Rows as Table}
use Rattle.fx_tables.specs.Response.{response, response_line}
use Rattle.fx_tables.specs.RowText.{periods_of}
use Rattle.fx_tables.specs.Stimulus.{IsRows, stimulus_fault}
use Rattle.fx_tables.specs.declared.table.TableCause.{TableCause}
use Rattle.fx_tables.specs.declared.table.TableFault.TheVariants.{Bad}
use Rattle.vl_ast.specs.declared.modules.Port.{Port}
use Rattle.vl_ast.specs.declared.modules.Module.{Module}
use Rattle.vl_ast.specs.Driven.{output_ports, stimulus_ports}
use Rattle.vl_ast.specs.Attributes.{step_of}
use Rattle.vl_ast.specs.Windows.{Sample}
use Rattle.vl_replay.specs.declared.replay.Replay.{Replay}
use Rattle.vl_replay.specs.Columns.{columns_of}
use Rattle.vl_replay.specs.Replays.{StandsBefore, module_of, stimulus_of}
use Rattle.vl_replay.specs.Sampled.{Sampled, numbers_of}
use Rattle.cmd_replay.specs.Replayed.{IsBadStimulus, IsSoundText}
use Rattle.cmd_replay.specs.Responding.{IsResponseTo, IsTableOf}
use Rattle.cmd_replay.specs.inner.Machines.{GoesOn}
use Rattle.fx_tables.proofs.ResponseLines.{one-line-more}

periods-are : (ports : List Port) → map (λ (column : Column). column.period) (columns_of ports) ≡ map step_of ports
periods-are [] = refl
periods-are (port ∷ ports) = ap (λ periods. step_of port ∷ periods) (periods-are ports)

pub responds : (verilog stimulus : List ℕ) (m : Module) (rows : Table) (inputs outputs : List Column) (count samples : ℕ) (replay : Replay) (text : RowText) (table : Sample → List ℤ)
    → IsSoundText verilog m → inputs ≡ columns_of (stimulus_ports m) → outputs ≡ columns_of (output_ports m) → count ≡ length outputs → IsRows inputs count stimulus rows → samples ≡ rows.lines
    → periods_of text ≡ map (λ (column : Column). column.period) outputs → StandsBefore replay 0 → module_of replay ≡ m → stimulus_of replay ≡ rows → Sampled m (numbers_of rows) rows.lines table
    → IsResponseTo verilog stimulus (record { samples = samples; replay = replay; text = text })
responds verilog stimulus m rows inputs outputs count samples replay text table sound ins outs many are lines periods stands made of sampled =
    let number : count ≡ length (output_ports m) = many ∙ ap length outs ∙ length-map (output_ports m) _ in
    let steps : periods_of text ≡ map step_of (output_ports m) = periods ∙ ap (λ columns. map (λ (column : Column). column.period) columns) outs ∙ periods-are (output_ports m) in
    record {
      stands = stands;
      samples = lines ∙ ap (λ (table : Table). table.lines) (sym of);
      wide = ap (λ (n : Module). length (output_ports n)) made ∙ sym (ap length steps ∙ length-map (output_ports m) step_of);
      table = table;
      sampled = subst (λ (n : Module). Sampled n (numbers_of (stimulus_of replay)) (stimulus_of replay).lines table) (sym made)
          (subst (λ (rows : Table). Sampled m (numbers_of rows) rows.lines table) (sym of) sampled);
      replay = record {
        made = m;
        spelled = sound;
        rows = rows;
        rows_are = subst (λ columns. IsRows columns (length (output_ports m)) stimulus rows) ins (subst (λ n. IsRows inputs n stimulus rows) number are);
        table = table;
        sampled = sampled;
        text_is = ap (λ p. response p table samples) steps ∙ ap (response (map step_of (output_ports m)) table) lines;
      };
    }

-- a replay of the same module under the same stimulus has the same table
moved-table : (one other : Replay) (table : Sample → List ℤ) → module_of one ≡ module_of other → stimulus_of one ≡ stimulus_of other → IsTableOf other table → IsTableOf one table
moved-table one other table made of is =
    subst (λ (m : Module). Sampled m (numbers_of (stimulus_of one)) (stimulus_of one).lines table) (sym made)
    (subst (λ (rows : Table). Sampled (module_of other) (numbers_of rows) rows.lines table) (sym of) is)

-- a line of these periods and numbers is that of the table's row
line-of : {ps qs : List ℕ} {sample : ℕ} {row : List ℤ} {bytes : List ℕ} (table : ℕ → List ℤ)
    → bytes ≡ response_line ps sample row → ps ≡ qs → row ≡ table sample
    → bytes ≡ response_line qs sample (table sample)
line-of {ps} {qs} {sample} {row} table line periods is = line ∙ ap (λ (p : List ℕ). response_line p sample row) periods ∙ ap (response_line qs sample) is

-- the sample after, by what a step and a line say
module _ {first replay : Replay} {writer text : RowText} {sample : ℕ}
    (goes : GoesOn first writer sample replay text) (next : Replay) (source : module_of next ≡ module_of replay)
    (stimulus : stimulus_of next ≡ stimulus_of replay) where
  pub goes-on : (behind : RowText) → StandsBefore next (sample + 1) → periods_of behind ≡ periods_of text → GoesOn first writer (sample + 1) next behind
  goes-on behind stands periods = record { stands = stands; source = source ∙ goes.source; stimulus = stimulus ∙ goes.stimulus; periods = periods ∙ goes.periods }

  pub line-on : (row : List ℤ) (line : List ℕ) → ((table : Sample → List ℤ) → IsTableOf next table → row ≡ table sample) → line ≡ response_line (periods_of text) sample row
      → (table : Sample → List ℤ) → IsTableOf first table → line ≡ response_line (periods_of writer) sample (table sample)
  line-on row line shown says table is = line-of table says goes.periods (shown table (moved-table next first table (source ∙ goes.source) (stimulus ∙ goes.stimulus) is))

  pub more-on : (row : List ℤ) (line : List ℕ) → ((table : Sample → List ℤ) → IsTableOf next table → row ≡ table sample) → line ≡ response_line (periods_of text) sample row
      → (table : Sample → List ℤ) → IsTableOf first table → response (periods_of writer) table sample ++ line ≡ response (periods_of writer) table (sample + 1)
  more-on row line shown says table is =
      ap (λ (bytes : List ℕ). response (periods_of writer) table sample ++ bytes) (line-on row line shown says table is) ∙ one-line-more (periods_of writer) table sample

-- the rows of a stimulus have this fault by the columns of a module's ports
pub bad-stimulus : (verilog stimulus : List ℕ) (m : Module) (inputs outputs : List Column) (line : ℕ) (cause : TableCause) → IsSoundText verilog m
    → inputs ≡ columns_of (stimulus_ports m) → outputs ≡ columns_of (output_ports m)
    → stimulus_fault inputs (length outputs) stimulus ≡ Some (Bad line cause)
    → IsBadStimulus verilog stimulus line cause
bad-stimulus verilog stimulus m inputs outputs line cause sound ins outs bad = record {
  made = m;
  spelled = sound;
  bad = ap (λ (columns : List Column). stimulus_fault columns (length (output_ports m)) stimulus) (sym ins)
      ∙ ap (λ (n : ℕ). stimulus_fault inputs n stimulus) (sym (ap length outs ∙ length-map (output_ports m) _)) ∙ bad;
}
