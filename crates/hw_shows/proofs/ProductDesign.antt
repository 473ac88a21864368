-- The times and waves of the shared product's diagram, and the table that they show.
use Rattle.std.proofs.Common.{◌≡◌, ℕ, zero, suc, ◌<◌, pos, ◌*ℤ◌, true≢false, [], ◌∷◌, get_or, Option, Some, None, slice_get, sym, subst, refl, arith}
use Rattle.std.proofs.Math.Dec.{lit<}
use Rattle.std.proofs.lemmas.Option.{none-some, same_Some}
use Rattle.dg_model.specs.declared.diagram.Block.{Block}
use Rattle.dg_model.specs.declared.nested.Target.{Target}
use Rattle.dg_model.specs.declared.nested.Target.TheVariants.{Port}
use Rattle.dg_model.specs.declared.op.Op.TheVariants.{Pass, Product as OpProduct}
use Rattle.dg_model.specs.Equation.{Equation}
use Rattle.dg_model.specs.Faults.{AllKeep}
use Rattle.dg_model.specs.Hits.{Hits}
use Rattle.dg_model.specs.Signals.{Attributes, Stimulus, Table}
use Rattle.dg_model.specs.Solves.{IsStimulus}
use Rattle.hw_net.specs.Registers.{Wave}
use Rattle.hw_shows.specs.Timing.{Timing}
use Rattle.hw_shows.specs.Timed.{IsTimed}
use Rattle.hw_shows.specs.Series.{span_at, IsProductAt}
use Rattle.hw_shows.specs.Waves.{Waves, IsPiped, AreBuilt}
use Rattle.hw_shows.specs.Laws.{IsDesign}
use Rattle.hw_shows.proofs.WaveTests.{wave_of, tried_line, tried_stays}
use Rattle.dg_model.proofs.Examples.{stores_small}
use Rattle.hw_shows.proofs.Small.{int16, int16_full, kept, input_of, output, edge_of, each_by, order_of_six}
use Rattle.hw_shows.proofs.ByBlocks.{AreMade, AreRight, DoStay, timed_by, given_by, designed, undesigned}
use Rattle.hw_shows.proofs.ByPorts.{InTime, plain_in_time, port_in_time, no_ends_in_time, one_port_in_time, outside, port_offered, AreOfferedTo, no_ports_offered, one_port_offered}
use Rattle.hw_shows.proofs.ProductDiagram.{multiplied, transition, blocks, columns, diagram, ordered, tried}
use Rattle.hw_shows.proofs.RuleTests.{attributes_in}
use Rattle.hw_shows.proofs.ProductExample.{lefts, rights, products, slower, left, right, product, slowed, wrong, served, lined, not_lined}

abbrev timing : Timing
timing = record {
  cycles = 2;
  latency = λ block. 0;
  stages = λ block. 0;
  ready = λ block. get_or (0 ∷ 0 ∷ 3 ∷ 4 ∷ 4 ∷ 0 ∷ []) block 0;
  slot = λ block element. get_or (None ∷ None ∷ Some 2 ∷ []) block None;
}

abbrev attributes : Attributes
attributes = attributes_in diagram columns

-- ---- its times
abbrev Arrives : ℕ → Block → Target → Type 0
Arrives block b target = InTime diagram attributes timing block b target

into_product : (port : ℕ) → Arrives 2 multiplied (Port port)
into_product zero from source feeds is = absurd (omega (arith, feeds.1))
into_product (suc zero) from source feeds is =
    plain_in_time diagram attributes timing 2 multiplied 1 (edge_of 0 2 1) 2 refl refl refl refl (omega arith) (omega arith) (λ element slot h. omega arith) from source feeds is
into_product (suc (suc zero)) from source feeds is =
    plain_in_time diagram attributes timing 2 multiplied 2 (edge_of 1 2 2) 2 refl refl refl refl (omega arith) (omega arith) (λ element slot h. omega arith) from source feeds is
into_product (suc (suc (suc port))) from source feeds is = absurd (omega (arith, feeds.2))

into_transition : Arrives 3 transition (Port 1)
into_transition =
    port_in_time diagram attributes timing 3 transition 1 (edge_of 2 3 1) 2 refl refl
    (record {
      own = 4;
      period = refl;
      same = λ h. absurd (true≢false h);
      edge =
          record { divides = refl; behind = omega arith };
      ready =
          λ h. omega arith;
      slot = λ element slot h. absurd (none-some slot h);
    })

into_output : Arrives 4 output (Port 1)
into_output =
    plain_in_time diagram attributes timing 4 output 1 (edge_of 3 4 1) 4 refl refl refl refl (omega arith) (omega arith) (λ element slot h. absurd (none-some slot h))

arrive : AllKeep diagram (λ (k : ℕ) (x : Block). (target : Target) → Arrives k x target)
arrive = each_by (λ (k : ℕ) (x : Block). (target : Target) → Arrives k x target) blocks
    (no_ends_in_time diagram attributes timing 0 (input_of 1 2 (lit< tt)) refl refl)
    (no_ends_in_time diagram attributes timing 1 (input_of 2 2 (lit< tt)) refl refl)
    (outside diagram attributes timing 2 multiplied refl into_product)
    (outside diagram attributes timing 3 transition refl (one_port_in_time diagram attributes timing 3 transition refl into_transition))
    (outside diagram attributes timing 4 output refl (one_port_in_time diagram attributes timing 4 output refl into_output))
    (no_ends_in_time diagram attributes timing 5 (input_of 3 1 (lit< tt)) refl refl)

slot_is : (block slot : ℕ) → timing.slot block 0 ≡ Some slot → slot < timing.ready block
slot_is zero slot e = absurd (none-some slot e)
slot_is (suc zero) slot e = absurd (none-some slot e)
slot_is (suc (suc zero)) slot e = let same : 2 ≡ slot = same_Some 2 slot e in omega arith
slot_is (suc (suc (suc block))) slot e = absurd (none-some slot e)

still_is : (block : ℕ) → attributes.period_at block ≡ None → timing.slot block 0 ≡ None
still_is zero e = refl
still_is (suc zero) e = refl
still_is (suc (suc zero)) e = absurd (none-some 2 (sym e))
still_is (suc (suc (suc block))) e = refl

pub timed : IsTimed diagram attributes timing
timed = timed_by diagram columns timing refl refl arrive (λ block element slot e. slot_is block slot e) (λ block element e. still_is block e)

-- ---- its waves, with any line to the transition
abbrev entries : ℕ → Wave
entries zero = left
entries (suc zero) = right
entries (suc (suc zero)) = product
entries (suc (suc (suc zero))) = slowed
entries (suc (suc (suc (suc zero)))) = slowed
entries (suc (suc (suc (suc (suc block))))) = wave_of []

abbrev offers : Wave → ℕ → ℕ → Wave
offers line zero port = wave_of []
offers line (suc zero) port = wave_of []
offers line (suc (suc zero)) zero = wave_of []
offers line (suc (suc zero)) (suc zero) = left
offers line (suc (suc zero)) (suc (suc port)) = right
offers line (suc (suc (suc zero))) port = line
offers line (suc (suc (suc (suc block)))) port = slowed

abbrev inputs : ℕ → Wave
inputs zero = wave_of []
inputs (suc zero) = left
inputs (suc (suc zero)) = right
inputs (suc (suc (suc number))) = wave_of []

abbrev waves : Wave → Waves
waves line = record {
  input = λ number element. inputs number;
  entry = λ block port element. entries block;
  after = λ block port element. entries block;
  stage = λ block port element k. entries block;
  offered = λ block port element. offers line block port;
  enable = λ block. wave_of [];
  state = λ block element k. wave_of [];
  first = λ block element. pos 0;
  product = λ block element. product;
}

abbrev Offered : ℕ → Block → Type 0
Offered block b = AreOfferedTo diagram attributes timing 16 (waves slowed) block b

into_product_offered : Offered 2 multiplied
into_product_offered zero from to = absurd (omega arith)
into_product_offered (suc zero) from to =
    port_offered diagram attributes timing 16 (waves slowed) 2 multiplied 1 (edge_of 0 2 1) refl
    (λ element. tried_line 16 (record { cycles = 2; own = record { period = 2; latency = 0 }; reader = record { period = 2; latency = 0 } }) left left refl (omega arith))
into_product_offered (suc (suc zero)) from to =
    port_offered diagram attributes timing 16 (waves slowed) 2 multiplied 2 (edge_of 1 2 2) refl
    (λ element. tried_line 16 (record { cycles = 2; own = record { period = 2; latency = 0 }; reader = record { period = 2; latency = 0 } }) right right refl (omega arith))
into_product_offered (suc (suc (suc port))) from to = absurd (omega arith)

offered : AllKeep diagram Offered
offered = each_by Offered blocks
    (no_ports_offered diagram attributes timing 16 (waves slowed) 0 (input_of 1 2 (lit< tt)) refl)
    (no_ports_offered diagram attributes timing 16 (waves slowed) 1 (input_of 2 2 (lit< tt)) refl)
    into_product_offered
    (one_port_offered diagram attributes timing 16 (waves slowed) 3 transition refl (port_offered diagram attributes timing 16 (waves slowed) 3 transition 1 (edge_of 2 3 1) refl (λ element. lined)))
    (one_port_offered diagram attributes timing 16 (waves slowed) 4 output refl (port_offered diagram attributes timing 16 (waves slowed) 4 output 1 (edge_of 3 4 1) refl
    (λ element. tried_line 16 (record { cycles = 2; own = record { period = 4; latency = 0 }; reader = record { period = 4; latency = 0 } }) slowed slowed refl (omega arith))))
    (no_ports_offered diagram attributes timing 16 (waves slowed) 5 (input_of 3 1 (lit< tt)) refl)

-- each block is made
made : AllKeep diagram (AreMade diagram attributes timing 16 (waves slowed))
made = each_by (AreMade diagram attributes timing 16 (waves slowed)) blocks
    (λ port element. record { at = λ c below. refl })
    (λ port element. record { at = λ c below. refl })
    (λ port element. record {
      full = int16;
      is_full = int16_full;
      product = λ period is. subst (λ (p : ℕ). IsProductAt 16 (span_at timing p 2) 2 left right product) (same_Some 2 period is) served;
      converts = kept 16 product product refl;
    })
    (λ port element. (stores_small 0 (lit< tt) (lit< tt), record { at = λ c below. refl }))
    (λ port element. record { op = Pass; is = refl; gives = λ t c below seen. refl })
    (λ port element. record { at = λ c below. refl })

-- no pipelines
piped : (period : Option ℕ) (block port element : ℕ) → IsPiped diagram attributes timing 16 (waves slowed) period block port element
piped None block port element = record { at = λ c below. refl }
piped (Some period) block port element = (record { at = λ c below. refl }, record { begins = record { at = λ c below. refl }; takes = λ k below. absurd (omega arith) })

no_control : (block : ℕ) (b : Block) → slice_get blocks block ≡ Some b → (control : ℕ) → b.enable ≡ Some control → ⊥
no_control = each_by (λ (k : ℕ) (x : Block). (control : ℕ) → x.enable ≡ Some control → ⊥) blocks
    (λ control. none-some control)
    (λ control. none-some control)
    (λ control. none-some control)
    (λ control. none-some control)
    (λ control. none-some control)
    (λ control. none-some control)

pub built : AreBuilt diagram attributes timing 16 (waves slowed)
built = record {
  lines = λ block b port element edge e showing from to d inside. offered block b e port from to element edge d;
  enables = λ block b control e feeds. absurd (no_control block b e control feeds.0);
  blocks = λ block b port element shown. made block b shown.block_is port element;
  pipelines = λ block b port element shown. piped (attributes.period_at block) block port element;
}

-- one wrong number in the line to the transition
pub not_built : ¬ AreBuilt diagram attributes timing 16 (waves wrong)
not_built is = not_lined (is.lines 3 transition 1 0 (edge_of 2 3 1) refl (omega arith) (omega arith) (omega arith) refl (omega arith))

-- ---- the table
abbrev table : Table
table = λ block port element. get_or (lefts ∷ rights ∷ products ∷ slower ∷ slower ∷ []) block (wave_of [])

abbrev stimulus : Stimulus
stimulus = λ number element. get_or (wave_of [] ∷ lefts ∷ rights ∷ []) number (wave_of [])

pub given : IsStimulus diagram attributes stimulus 8
given = given_by stimulus 8 diagram attributes (λ number element t. refl) refl

passes : (port element t : ℕ) → t < 8 → Hits (Some 4) t → Equation diagram attributes stimulus table 3 port element t (slower t)
passes port element zero below hit = refl
passes port element (suc zero) below hit = absurd (omega (arith, hit))
passes port element (suc (suc zero)) below hit = absurd (omega (arith, hit))
passes port element (suc (suc (suc zero))) below hit = absurd (omega (arith, hit))
passes port element (suc (suc (suc (suc zero)))) below hit = refl
passes port element (suc (suc (suc (suc (suc zero))))) below hit = absurd (omega (arith, hit))
passes port element (suc (suc (suc (suc (suc (suc zero)))))) below hit = absurd (omega (arith, hit))
passes port element (suc (suc (suc (suc (suc (suc (suc zero))))))) below hit = absurd (omega (arith, hit))
passes port element (suc (suc (suc (suc (suc (suc (suc (suc t)))))))) below hit = absurd (omega arith)

at_hits : AllKeep diagram (AreRight diagram attributes stimulus 8 table)
at_hits = each_by (AreRight diagram attributes stimulus 8 table) blocks
    (λ port element t below hit. refl)
    (λ port element t below hit. refl)
    (λ port element t below hit. (OpProduct, refl, (int16, int16_full, kept 8 (λ s. lefts s *ℤ rights s) products refl t below)))
    (λ port element t below hit. passes port element t below hit)
    (λ port element t below hit. (Pass, refl, refl))
    (λ port element t below hit. refl)

between_hits : AllKeep diagram (DoStay diagram attributes stimulus 8 table)
between_hits = each_by (DoStay diagram attributes stimulus 8 table) blocks
    (λ port element t below miss. tried_stays 8 (Some 2) lefts refl t below)
    (λ port element t below miss. tried_stays 8 (Some 2) rights refl t below)
    (λ port element t below miss. tried_stays 8 (Some 2) products refl t below)
    (λ port element t below miss. tried_stays 8 (Some 4) slower refl t below)
    (λ port element t below miss. tried_stays 8 (Some 4) slower refl t below)
    (λ port element t below miss. refl)

-- ---- all of it
pub design : IsDesign diagram order_of_six stimulus timing 16 8 table (waves slowed)
design = designed diagram columns tried order_of_six stimulus timing 16 8 table (waves slowed) ordered timed at_hits between_hits built (λ number element t. refl) (λ number element c. refl) refl

-- and with the wrong number it is none
pub no_design : ¬ IsDesign diagram order_of_six stimulus timing 16 8 table (waves wrong)
no_design = undesigned diagram columns tried order_of_six stimulus timing 16 8 table (waves wrong) not_built
