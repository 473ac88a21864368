-- The times and waves of the Gain's diagram, with two pipeline registers behind the Gain, and the table that they show.
use Rattle.std.proofs.Common.{◌≡◌, ℕ, zero, suc, ◌<◌, ◌≤◌, ◌||◌, pos, ◌*ℤ◌, false, [], ◌∷◌, get_or, Option, Some, None, slice_get, sym, subst, refl, arith}
use Rattle.std.specs.Prelude.{int_lt}
use Rattle.std.proofs.Math.Dec.{lit<}
use Rattle.std.proofs.Math.Nat.{mod-one}
use Rattle.std.proofs.lemmas.Option.{none-some, same_Some}
use Rattle.dg_model.specs.declared.diagram.Block.{Block}
use Rattle.dg_model.specs.declared.nested.Target.{Target}
use Rattle.dg_model.specs.declared.nested.Target.TheVariants.{Port, Enable}
use Rattle.dg_model.specs.declared.op.Op.TheVariants.{Pass, Gain as OpGain}
use Rattle.dg_model.specs.Equation.{Equation}
use Rattle.dg_model.specs.Faults.{AllKeep}
use Rattle.dg_model.specs.Hits.{Hits}
use Rattle.dg_model.specs.Operation.{stored_truth}
use Rattle.dg_model.specs.Signals.{Attributes, Stimulus, Table}
use Rattle.dg_model.specs.Solves.{IsStimulus}
use Rattle.dg_model.specs.Wires.{driver_of}
use Rattle.hw_net.specs.Registers.{Wave}
use Rattle.hw_shows.specs.Timing.{Timing, latency_after}
use Rattle.hw_shows.specs.Timed.{Feeds, IsInTime, IsTimed, lag_into}
use Rattle.hw_shows.specs.Series.{span_at, IsEnabledSeries}
use Rattle.hw_shows.specs.Waves.{Waves, IsOfferedAt, AreBuilt}
use Rattle.hw_shows.specs.Laws.{IsDesign}
use Rattle.hw_shows.proofs.WaveTests.{wave_of, tried_line, tried_same}
use Rattle.dg_model.proofs.Examples.{stores_small}
use Rattle.hw_shows.proofs.Small.{int8, int16, int16_full, kept, input_of, output, edge_of, each_by, order_of_six}
use Rattle.hw_shows.proofs.ByBlocks.{AreMade, ArePiped, AreRight, DoStay, timed_by, given_by, designed, undesigned}
use Rattle.hw_shows.proofs.ByPorts.{InTime, plain_in_time, no_ends_in_time, one_port_in_time, outside, port_offered, AreOfferedTo, no_ports_offered, one_port_offered}
use Rattle.hw_shows.proofs.GainDiagram.{test, gain, delay, blocks, columns, diagram, ordered, tried}
use Rattle.hw_shows.proofs.RuleTests.{attributes_in}
use Rattle.hw_shows.proofs.GainIntoDelay.{gains, controls, delays, stage, control, enable, state, moved, pipeline, states, not_states}

abbrev timing : Timing
timing = record {
  cycles = 1;
  latency = λ block. get_or (0 ∷ 0 ∷ 0 ∷ 0 ∷ 2 ∷ 2 ∷ []) block 0;
  stages = λ block. get_or (0 ∷ 0 ∷ 0 ∷ 2 ∷ 0 ∷ 0 ∷ []) block 0;
  ready = λ block. 0;
  slot = λ block element. None;
}

abbrev attributes : Attributes
attributes = attributes_in diagram columns

-- ---- its times
abbrev Arrives : ℕ → Block → Target → Type 0
Arrives block b target = InTime diagram attributes timing block b target

-- from the block before it, of the same latency
into : (block : ℕ) (b : Block) (from : ℕ) → driver_of diagram block 1 ≡ Some (edge_of from block 1)
    → attributes.period_at from ≡ Some 1 → attributes.period_at block ≡ Some 1
    → lag_into diagram attributes block b (Port 1) 1 ≡ None
    → latency_after timing 1 from ≤ timing.latency block → Arrives block b (Port 1)
into block b from driver from_is own_is plain late =
    plain_in_time diagram attributes timing block b 1 (edge_of from block 1) 1 driver from_is own_is plain late
    (omega arith) (λ element slot h. absurd (none-some slot h))

-- the Delay from the Gain, two base samples late, and from its control
at_delay : (target : Target) → Arrives 4 delay target
at_delay (Port port) from source feeds is = one_port_in_time diagram attributes timing 4 delay refl (into 4 delay 3 refl refl refl refl (omega arith)) port from source feeds is
at_delay Enable from source feeds is =
    let same : 2 ≡ from = same_Some 2 from feeds.0 in
    let source_is : 1 ≡ source = same_Some 1 source (subst (λ (x : ℕ). attributes.period_at x ≡ Some source) (sym same) is) in
    subst (λ (x : ℕ). IsInTime diagram attributes timing 4 delay Enable from x) source_is
    (subst (λ (x : ℕ). IsInTime diagram attributes timing 4 delay Enable x 1) same
    (record { own = 1; period = refl; same = λ h. refl; edge = record { divides = refl; behind = omega arith }; ready = λ h. omega arith; slot = λ element slot h. absurd (none-some slot h) }))

arrive : AllKeep diagram (λ (k : ℕ) (x : Block). (target : Target) → Arrives k x target)
arrive = each_by (λ (k : ℕ) (x : Block). (target : Target) → Arrives k x target) blocks
    (no_ends_in_time diagram attributes timing 0 (input_of 1 1 (lit< tt)) refl refl)
    (no_ends_in_time diagram attributes timing 1 (input_of 2 1 (lit< tt)) refl refl)
    (outside diagram attributes timing 2 test refl (one_port_in_time diagram attributes timing 2 test refl (into 2 test 1 refl refl refl refl (omega arith))))
    (outside diagram attributes timing 3 gain refl (one_port_in_time diagram attributes timing 3 gain refl (into 3 gain 0 refl refl refl refl (omega arith))))
    at_delay
    (outside diagram attributes timing 5 output refl (one_port_in_time diagram attributes timing 5 output refl (into 5 output 4 refl refl refl refl (omega arith))))

pub timed : IsTimed diagram attributes timing
timed = timed_by diagram columns timing refl refl arrive (λ block element slot e. absurd (none-some slot e)) (λ block element e. refl)

-- ---- its waves, with any registers of the Delay
abbrev steps : (ℕ → Wave) → ℕ → ℕ → Wave
steps registers zero k = stage 0
steps registers (suc zero) k = control
steps registers (suc (suc zero)) k = control
steps registers (suc (suc (suc zero))) k = stage k
steps registers (suc (suc (suc (suc block)))) k = registers 1

abbrev entries : (ℕ → Wave) → ℕ → Wave
entries registers block = steps registers block 0

-- behind the pipelines
abbrev behind : (ℕ → Wave) → ℕ → Wave
behind registers block = steps registers block 2

abbrev offers : (ℕ → Wave) → ℕ → Wave
offers registers zero = wave_of []
offers registers (suc zero) = wave_of []
offers registers (suc (suc zero)) = control
offers registers (suc (suc (suc zero))) = stage 0
offers registers (suc (suc (suc (suc zero)))) = stage 2
offers registers (suc (suc (suc (suc (suc block))))) = registers 1

abbrev inputs : ℕ → Wave
inputs zero = wave_of []
inputs (suc zero) = stage 0
inputs (suc (suc number)) = control

abbrev waves : (ℕ → Wave) → Waves
waves registers = record {
  input = λ number element. inputs number;
  entry = λ block port element. entries registers block;
  after = λ block port element. behind registers block;
  stage = λ block port element k. steps registers block k;
  offered = λ block port element. offers registers block;
  enable = λ block. enable;
  state = λ block element k. registers k;
  first = λ block element. pos 9;
  product = λ block element. wave_of [];
}

abbrev Offered : ℕ → Block → Type 0
Offered block b = AreOfferedTo diagram attributes timing 6 (waves state) block b

offered : AllKeep diagram Offered
offered = each_by Offered blocks
    (no_ports_offered diagram attributes timing 6 (waves state) 0 (input_of 1 1 (lit< tt)) refl)
    (no_ports_offered diagram attributes timing 6 (waves state) 1 (input_of 2 1 (lit< tt)) refl)
    (one_port_offered diagram attributes timing 6 (waves state) 2 test refl (port_offered diagram attributes timing 6 (waves state) 2 test 1 (edge_of 1 2 1) refl
    (λ element. tried_line 6 (record { cycles = 1; own = record { period = 1; latency = 0 }; reader = record { period = 1; latency = 0 } }) control control refl (omega arith))))
    (one_port_offered diagram attributes timing 6 (waves state) 3 gain refl (port_offered diagram attributes timing 6 (waves state) 3 gain 1 (edge_of 0 3 1) refl
    (λ element. tried_line 6 (record { cycles = 1; own = record { period = 1; latency = 0 }; reader = record { period = 1; latency = 0 } }) (stage 0) (stage 0) refl (omega arith))))
    (one_port_offered diagram attributes timing 6 (waves state) 4 delay refl (port_offered diagram attributes timing 6 (waves state) 4 delay 1 (edge_of 3 4 1) refl
    (λ element. tried_line 6 (record { cycles = 1; own = record { period = 1; latency = 2 }; reader = record { period = 1; latency = 2 } }) (stage 2) (stage 2) refl (omega arith))))
    (one_port_offered diagram attributes timing 6 (waves state) 5 output refl (port_offered diagram attributes timing 6 (waves state) 5 output 1 (edge_of 4 5 1) refl
    (λ element. tried_line 6 (record { cycles = 1; own = record { period = 1; latency = 2 }; reader = record { period = 1; latency = 2 } }) (state 1) (state 1) refl (omega arith))))

-- the control reaches the Delay two base samples late
enabled : (block : ℕ) (b : Block) → slice_get blocks block ≡ Some b → (from : ℕ) → Feeds diagram block b Enable from
    → IsOfferedAt diagram attributes timing 6 (waves state) block b Enable from (pos 0) (behind state from) enable
enabled = each_by (λ (k : ℕ) (x : Block). (from : ℕ) → Feeds diagram k x Enable from → IsOfferedAt diagram attributes timing 6 (waves state) k x Enable from (pos 0) (behind state from) enable) blocks
    (λ from feeds. absurd (none-some from feeds.0))
    (λ from feeds. absurd (none-some from feeds.0))
    (λ from feeds. absurd (none-some from feeds.0))
    (λ from feeds. absurd (none-some from feeds.0))
    (λ from feeds. subst (λ (x : ℕ). IsOfferedAt diagram attributes timing 6 (waves state) 4 delay Enable x (pos 0) (behind state x) enable) (same_Some 2 from feeds.0)
    (tried_line 6 (record { cycles = 1; own = record { period = 1; latency = 0 }; reader = record { period = 1; latency = 2 } }) control enable refl (omega arith)))
    (λ from feeds. absurd (none-some from feeds.0))

-- each block is made
made : AllKeep diagram (AreMade diagram attributes timing 6 (waves state))
made = each_by (AreMade diagram attributes timing 6 (waves state)) blocks
    (λ port element. record { at = λ c below. refl })
    (λ port element. record { at = λ c below. refl })
    (λ port element. tried_same 6 control (λ c. stored_truth (int_lt (pos 0) (control c) || false)) refl)
    (λ port element. record {
      op = OpGain (pos 1) int8;
      is =
          (pos 1, stores_small 1 (lit< tt) (lit< tt), refl);
      gives =
          λ t c below seen. (int16, int16_full, kept 6 (λ k. stage 0 k *ℤ pos 1) (stage 0) refl c below);
    })
    (λ port element. (
      stores_small 9 (lit< tt) (lit< tt),
      (
        record { at = λ c below. refl },
        λ period is. subst
            (λ (p : ℕ). IsEnabledSeries 6 (span_at timing p 4) 1 false (pos 9) enable (stage 2) state)
            (same_Some 1 period is) states,
      ),
    ))
    (λ port element. record { op = Pass; is = refl; gives = λ t c below seen. refl })

piped : AllKeep diagram (ArePiped diagram attributes timing 6 (waves state))
piped = each_by (ArePiped diagram attributes timing 6 (waves state)) blocks
    (λ port element. (record { at = λ c below. refl }, record { begins = record { at = λ c below. refl }; takes = λ k below. absurd (omega arith) }))
    (λ port element. (record { at = λ c below. refl }, record { begins = record { at = λ c below. refl }; takes = λ k below. absurd (omega arith) }))
    (λ port element. (record { at = λ c below. refl }, record { begins = record { at = λ c below. refl }; takes = λ k below. absurd (omega arith) }))
    (λ port element. (record { at = λ c below. refl }, pipeline))
    (λ port element. (record { at = λ c below. refl }, record { begins = record { at = λ c below. refl }; takes = λ k below. absurd (omega arith) }))
    (λ port element. (record { at = λ c below. refl }, record { begins = record { at = λ c below. refl }; takes = λ k below. absurd (omega arith) }))

pub built : AreBuilt diagram attributes timing 6 (waves state)
built = record {
  lines = λ block b port element edge e showing from to d inside. offered block b e port from to element edge d;
  enables = λ block b control e feeds. enabled block b e control feeds;
  blocks = λ block b port element shown. made block b shown.block_is port element;
  pipelines = λ block b port element shown. piped block b shown.block_is port element;
}

-- a register that moves on at the disabled hit
pub not_built : ¬ AreBuilt diagram attributes timing 6 (waves moved)
not_built is = not_states ((is.blocks 4 delay 1 0 (record { block_is = refl; port_from = omega arith; port_to = omega arith; element_below = omega arith })).1.1 1 refl)

-- ---- the table
abbrev table : Table
table = λ block port element. get_or (gains ∷ controls ∷ controls ∷ gains ∷ delays ∷ delays ∷ []) block delays

abbrev stimulus : Stimulus
stimulus = λ number element. get_or (gains ∷ gains ∷ controls ∷ []) number controls

pub given : IsStimulus diagram attributes stimulus 3
given = given_by stimulus 3 diagram attributes (λ number element t. refl) refl

holds : (port element t : ℕ) → t < 3 → Equation diagram attributes stimulus table 4 port element t (delays t)
holds port element zero below = stores_small 9 (lit< tt) (lit< tt)
holds port element (suc zero) below = refl
holds port element (suc (suc zero)) below = refl
holds port element (suc (suc (suc t))) below = absurd (omega arith)

at_hits : AllKeep diagram (AreRight diagram attributes stimulus 3 table)
at_hits = each_by (AreRight diagram attributes stimulus 3 table) blocks
    (λ port element t below hit. refl)
    (λ port element t below hit. refl)
    (λ port element t below hit. (tried_same 3 controls (λ s. stored_truth (int_lt (pos 0) (controls s) || false)) refl).at t below)
    (λ port element t below hit. (OpGain (pos 1) int8, (pos 1, stores_small 1 (lit< tt) (lit< tt), refl), (int16, int16_full, kept 3 (λ s. gains s *ℤ pos 1) gains refl t below)))
    (λ port element t below hit. holds port element t below)
    (λ port element t below hit. (Pass, refl, refl))

-- each base sample is a hit
each_sample : AllKeep diagram (λ (k : ℕ) (x : Block). attributes.period_at k ≡ Some 1)
each_sample = each_by (λ (k : ℕ) (x : Block). attributes.period_at k ≡ Some 1) blocks refl refl refl refl refl refl

between_hits : AllKeep diagram (DoStay diagram attributes stimulus 3 table)
between_hits block b at port element t below miss = absurd (miss (subst (λ (period : Option ℕ). Hits period t) (sym (each_sample block b at)) (mod-one t)))

-- ---- all of it
pub design : IsDesign diagram order_of_six stimulus timing 6 3 table (waves state)
design = designed diagram columns tried order_of_six stimulus timing 6 3 table (waves state) ordered timed at_hits between_hits built (λ number element t. refl) (λ number element c. refl) refl

-- and with the wrong number it is none
pub no_design : ¬ IsDesign diagram order_of_six stimulus timing 6 3 table (waves moved)
no_design = undesigned diagram columns tried order_of_six stimulus timing 6 3 table (waves moved) not_built
