-- What is told of the module of a sample is the response that it is compared with.
use Rattle.std.proofs.Common.{◌≡◌, ◌≤◌, inl, inr, ℕ, List, length, refl, sym, ◌∙◌}
use Rattle.laws_commands.specs.Laws.{SamplesAgree}
use Rattle.laws_commands.specs.inner.LawsBelow.{AreKnown}
use Rattle.laws_commands.proofs.Replays.{replayed-simulates, same-text, simulation-replays}
use Rattle.cmd_generate.specs.Generated.{IsVerilogOf}
use Rattle.cmd_replay.specs.Benched.{IsTold}
use Rattle.cmd_replay.specs.Replayed.{CanBeReplayed, IsReplayOf}
use Rattle.cmd_sample.specs.ModelText.{sample_model}
use Rattle.cmd_sample.specs.Stimulus.{sample_plan, sample_stimulus}
use Rattle.fx_top.specs.Summarized.{IsSampleResponse, IsSummaryOf}
use Rattle.vl_ast.specs.Grammar.{most_items}
use Rattle.vl_ast.specs.Spelling.{spelling}

can-replay : {verilog stimulus told : List ℕ} → IsReplayOf verilog stimulus told → CanBeReplayed verilog stimulus
can-replay replay = record { made = replay.made; spelled = replay.spelled; good = replay.rows_are.no_fault }

module _ (known : AreKnown) (count : ℕ) (told text : List ℕ) (summary : IsSummaryOf IsTold count told text) (few : length summary.own.items ≤ most_items) where
  abbrev generated : IsVerilogOf (sample_model count) sample_plan (spelling summary.own)
  generated = record {
    diagram = summary.diagram;
    resolved = summary.plan;
    timing = summary.timing;
    design = summary.design;
    written = record { made = summary.own; spelled = refl; alone = summary.alone; so = summary.owed };
  }

  told-is : IsTold (spelling summary.own) (sample_stimulus count) told → IsSampleResponse count summary.response → told ≡ summary.response
  told-is (inl replay) (inl simulation) = same-text known generated replay simulation
  told-is (inl replay) (inr (none, empty)) = absurd (none (replayed-simulates known generated (sample_stimulus count) (can-replay replay)))
  told-is (inr (none, empty)) (inl simulation) = absurd (none (can-replay (simulation-replays known generated few simulation)))
  told-is (inr (none, empty)) (inr (never, nothing)) = empty ∙ sym nothing

pub samples-agree : AreKnown → SamplesAgree
samples-agree known count told text summary few = told-is known count told text summary few summary.may summary.simulated
