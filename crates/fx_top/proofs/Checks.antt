-- How the text of a check was put.
use Rattle.std.proofs.Common.{ℕ, List, Option, Result, Ok, Err}
use Rattle.std.specs.Prelude.{⊤}
use Rattle.cmd_check.specs.Gathered.{WritesCheck}
use Rattle.cmd_design.specs.declared.designing.Designed.{Designed}
use Rattle.cmd_design.specs.Refused.{IsDesigned}
use Rattle.fx_io.specs.declared.sink.PutFault.{PutFault}
use Rattle.hw_rules.specs.Times.{timing_in}
use Rattle.fx_top.specs.Call.{stream_in}
use Rattle.fx_top.specs.CheckedText.{IsCheckOf}
use Rattle.fx_top.specs.inner.Tasks.{IsPut}

module _ (model plan : List ℕ) (designed : Designed) (is : IsDesigned model plan designed) {K : Type 0} (taken : K → Option (List ℕ)) (faults : K → ℕ) (old new : K) where
  abbrev pub Writes : Result ⊤ PutFault → Type 0
  Writes put = WritesCheck designed.checked.diagram designed.planned.resolved (timing_in designed.planned.times) taken faults old new put

  -- the text that was put is that of a check
  is-check : (put : Result ⊤ PutFault) → (wrote : Writes put) → IsCheckOf model plan wrote.text
  is-check put wrote = record {
    diagram = designed.checked.diagram;
    resolved = designed.planned.resolved;
    timing = timing_in designed.planned.times;
    design = is;
    told = wrote.is;
  }

  pub check-put : (put : Result ⊤ PutFault) → Writes put → IsPut (IsCheckOf model plan) (stream_in taken faults old new) put
  check-put (Ok whole) wrote = (wrote.text, (is-check (Ok whole) wrote, wrote.ends))
  check-put (Err fault) wrote = (wrote.text, (is-check (Err fault) wrote, (wrote.ends.0, wrote.ends.1)))
