-- The cells of a sample whose clocks are passed are what is sampled at it.
use Rattle.std.proofs.Common.{◌≡◌, ◌<◌, ◌≤◌, ◌+◌, ◌*◌, ◌/◌, ◌%◌, ℕ, List, length, take, drop, slice_get, Some, unwrap_or, ℤ, pos, sym, ap, subst, ◌∙◌, arith, add-mul}
use Rattle.std.specs.Prelude.{slice_index_or}
use Rattle.std.proofs.lemmas.List.{get_or-drop, get_or-take, length-drop, length-take}
use Rattle.std.proofs.lemmas.Nat.{div-add-mod', mod_below}
use Rattle.std.proofs.lemmas.Option.{slice_get-get_or}
use Rattle.std.proofs.Math.Nat.{mul-le-mul_right}
use Rattle.vl_ast.specs.declared.modules.Port.{Port}
use Rattle.vl_ast.specs.declared.modules.Module.{Module}
use Rattle.vl_ast.specs.Driven.{output_ports, port_number}
use Rattle.vl_ast.specs.Windows.{Sample, row_at}
use Rattle.vl_ast.specs.Conditions.{BreaksNone}
use Rattle.vl_ast.specs.Room.{AreSame}
use Rattle.vl_ast.specs.Runs.{Rows, Runs}
use Rattle.vl_ast.specs.Steps.{AreSteps}
use Rattle.vl_replay.specs.declared.playing.Score.{Score}
use Rattle.vl_replay.specs.Sampled.{Sampled, hit_at, numbers_of, window_of}
use Rattle.vl_replay.specs.inner.Drivers.{inputs_of}
use Rattle.vl_replay.specs.inner.Samplers.{sampler_of}
use Rattle.vl_replay.specs.inner.Play.{HaveCells, IsDelay, IsScoreOf, IsWindow}
use Rattle.math_list.proofs.Places.{there_within, there_map}
use Rattle.vl_ast.proofs.Ranges.{clocks-some}
use Rattle.vl_ast.specs.Attributes.{clocks_of, lateness_of, step_of}
use Rattle.vl_replay.proofs.OneResponse.{ShowRow, one-row}
use Rattle.vl_replay.proofs.Rows.{zeros}
use Rattle.vl_replay.proofs.Scores.{samplers-many}
use Rattle.vl_replay.proofs.StimulusRuns.{replayed}
use Rattle.vl_replay.proofs.Times.{hit-below, row-room}

module _ (window outputs row : ℕ) (cells : List ℤ) (long : length cells ≡ window * outputs) (below : row < window) where
  row-long : length (take outputs (drop (row * outputs) cells)) ≡ outputs
  row-long = let f = row-room window outputs row below in let d = length-drop (row * outputs) cells in let k = length-take outputs (drop (row * outputs) cells) in omega (arith, f, d, k, long)

  picked : (place : ℕ) → place < outputs → slice_get (take outputs (drop (row * outputs) cells)) place ≡ Some (slice_index_or cells (row * outputs + place) (pos 0))
  picked place low =
      slice_get-get_or (take outputs (drop (row * outputs) cells)) place (pos 0) (let l = row-long in omega (arith, low, l))
      ∙ ap Some (get_or-take outputs (drop (row * outputs) cells) place (pos 0) low ∙ get_or-drop (row * outputs) cells place (pos 0))

-- a clock of a sample is among those of so many samples more than it is late
in-span : (f late t delay : ℕ) → 1 ≤ f → late / f ≤ delay → t * f + late < (t + 1 + delay) * f
in-span f late t delay some most =
    let whole = div-add-mod' late f in
    let rest : late % f < f = mod_below late f (omega (arith, some)) in
    let le : (t + 1 + late / f) * f ≤ (t + 1 + delay) * f = mul-le-mul_right f (omega (arith, most)) in
    let e : (t + 1 + late / f) * f ≡ t * f + f + late / f * f = parts t (late / f) f in
    omega (arith, whole, rest, le, e)
  where
    parts : (a b c : ℕ) → (a + 1 + b) * c ≡ a * c + c + b * c
    parts a b c = grind arith

module _ (one_run : (m : Module) (count : ℕ) (start : List ℕ → ℕ) (inputs rows other : ℕ → List ℕ → ℕ)
    → BreaksNone m → Runs m count start inputs rows → Runs m count start inputs other → AreSame m count rows other)
    (steps_run : (m : Module) (count : ℕ) (start : List ℕ → ℕ) (inputs rows : ℕ → List ℕ → ℕ) → AreSteps m count start inputs rows → Runs m count start inputs rows)
    (m : Module) (score : Score) (window delay t : ℕ) (is : IsScoreOf m score)
    (late : IsDelay score.samplers.items score.stimulus.lines delay)
    (holds : IsWindow score.samplers.items score.stimulus.lines delay window) (rows : Rows) (cells : List ℤ)
    (below : t < score.stimulus.lines)
    (steps : AreSteps m (2 + (t + 1 + delay) * score.cycles) zeros (inputs_of m (numbers_of score.stimulus) score.stimulus.lines) rows)
    (have : HaveCells m score.stimulus.lines window ((t + 1 + delay) * score.cycles) rows cells) where
  abbrev samples : ℕ
  samples = score.stimulus.lines

  abbrev n : ℕ
  n = length score.samplers.items

  abbrev count : ℕ
  count = 2 + (t + 1 + delay) * score.cycles

  abbrev shown : List ℤ
  shown = take n (drop (t % window * n) cells)

  long-cells : length cells ≡ window * n
  long-cells = have.long ∙ ap (λ k. window * k) (sym (samplers-many m score is))

  within : t % window < window
  within = mod_below t window holds.some

  pub shown-long : length shown ≡ length (output_ports m)
  shown-long = row-long window n (t % window) cells long-cells within ∙ samplers-many m score is

  sampled-by : (place : ℕ) (port : Port) → slice_get (output_ports m) place ≡ Some port → slice_get score.samplers.items place ≡ Some (sampler_of (clocks_of m) port)
  sampled-by place port there = ap (λ xs. slice_get xs place) is.samplers ∙ there_map (sampler_of (clocks_of m)) (output_ports m) place port there

  near : (place : ℕ) (port : Port) → slice_get (output_ports m) place ≡ Some port → lateness_of port / clocks_of m ≤ delay
  near place port there = late.most place (sampler_of (clocks_of m) port) (sampled-by place port there) (omega (arith, below))

  past : (place : ℕ) (port : Port) → slice_get (output_ports m) place ≡ Some port → t * clocks_of m + lateness_of port < (t + 1 + delay) * score.cycles
  past place port there = subst (λ f. t * clocks_of m + lateness_of port < (t + 1 + delay) * f) (sym is.cycles)
      (in-span (clocks_of m) (lateness_of port) t delay (clocks-some m).0 (near place port there))

  -- no number stands in its place yet
  held : (place : ℕ) (port : Port) → slice_get (output_ports m) place ≡ Some port → t + window < samples → (t + 1 + delay) * score.cycles ≤ (t + window) * clocks_of m + lateness_of port
  held place port there fewer =
      let wide = holds.wide place (sampler_of (clocks_of m) port) (sampled-by place port there) (omega (arith, fewer)) in
      let le : (t + 1 + delay) * clocks_of m ≤ (t + window + lateness_of port / clocks_of m) * clocks_of m = mul-le-mul_right (clocks_of m) (omega (arith, wide)) in
      let e : (t + 1 + delay) * score.cycles ≡ (t + 1 + delay) * clocks_of m = ap (λ f. (t + 1 + delay) * f) is.cycles in
      let both = add-mul (t + window) (lateness_of port / clocks_of m) (clocks_of m) in
      let whole = div-add-mod' (lateness_of port) (clocks_of m) in
      omega (arith, le, e, both, whole)

  shows : ShowRow m count rows t shown
  shows = λ cycles ec place port there period latency ep el.
      let f : clocks_of m ≡ cycles = ap (λ o. unwrap_or o 1) ec in
      let p : step_of port ≡ period = ap (λ o. unwrap_or o 1) ep in
      let l : lateness_of port ≡ latency = ap (λ o. unwrap_or o 0) el in
      let place-is : hit_at (step_of port) t * clocks_of m + lateness_of port ≡ hit_at period t * cycles + latency =
      ap (λ g. hit_at g t * clocks_of m + lateness_of port) p ∙ ap (λ g. hit_at period t * g + lateness_of port) f ∙ ap (λ g. hit_at period t * cycles + g) l in
      let in-time = past place port there in
      let h = hit-below (step_of port) t in
      let le : hit_at (step_of port) t * clocks_of m ≤ t * clocks_of m = mul-le-mul_right (clocks_of m) h in
      let low : place < n = (let q = there_within (output_ports m) place port there in let s = samplers-many m score is in omega (arith, q, s)) in
      let row : row_at (window_of count) (hit_at period t * cycles + latency) ≡ 2 + (hit_at (step_of port) t * clocks_of m + lateness_of port) = omega (arith, place-is) in (
        omega (arith, in-time, le, place-is),
        picked window n (t % window) cells long-cells within place low
            ∙ ap Some (ap (λ k. slice_index_or cells (t % window * k + place) (pos 0)) (samplers-many m score is)
            ∙ have.at place port there t below in-time (held place port there)
            ∙ ap (λ k. port_number port (rows k port.name)) (sym row)),
      )

  -- they are those of the one table that is sampled
  pub shown-is : (table : Sample → List ℤ) → Sampled m (numbers_of score.stimulus) samples table → shown ≡ table t
  shown-is table sampled = one-row one_run m is.sound (numbers_of score.stimulus) samples count sampled.count (inputs_of m (numbers_of score.stimulus) samples) sampled.inputs rows sampled.rows
      (replayed m is.sound (numbers_of score.stimulus) samples count (omega arith)) sampled.driven
      (steps_run m count zeros (inputs_of m (numbers_of score.stimulus) samples) rows steps) sampled.runs shown (table t) t shown-long (sampled.long t below) shows
      (λ cycles ec place port there period latency ep el. sampled.shows cycles ec place port there period latency ep el t below)
