-- A machine that is driven on while its inputs stay and no output is due.
use Rattle.std.proofs.Common.{◌≡◌, ◌<◌, ◌≤◌, ◌+◌, ◌-◌, ◌*◌, ◌/◌, ◌%◌, ◌⊎◌, inl, inr, ℕ, suc, nat_lt, List, [], ◌∷◌, length, map, slice_get, Some, ℤ, refl, sym, ap, subst, ◌∙◌, arith, add-mul}
use Rattle.std.proofs.lemmas.Bool.{cases_lt, cond-false, le-ltb}
use Rattle.std.proofs.lemmas.Nat.{mod_below}
use Rattle.std.proofs.Math.Nat.{le-div_iff_mul-le, mul-le-mul_right}
use Rattle.vl_ast.specs.declared.modules.Port.{Port}
use Rattle.vl_ast.specs.declared.modules.Module.{Module}
use Rattle.vl_ast.specs.Attributes.{clocks_of, lateness_of, step_of}
use Rattle.vl_ast.specs.Driven.{output_ports, port_number}
use Rattle.vl_ast.specs.Runs.{Row, Rows}
use Rattle.vl_ast.specs.Steps.{AreSteps, IsEdge, IsFirstRow}
use Rattle.vl_ast.specs.Value.{bits_of}
use Rattle.vl_ast.specs.Windows.{PortNumbers}
use Rattle.vl_ast.proofs.Ranges.{clocks-some}
use Rattle.vl_eval.specs.Given.{driven_ports, given}
use Rattle.vl_eval.specs.Machine.{IsReady, row_of, source_of}
use Rattle.vl_eval.specs.declared.machine.Machine.{Machine}
use Rattle.vl_replay.specs.declared.drivers.Driver.{Driver}
use Rattle.vl_replay.specs.declared.drivers.Driver.TheVariants.{Reset, Enable, Column}
use Rattle.vl_replay.specs.declared.playing.Score.{Score}
use Rattle.vl_replay.specs.Sampled.{hit_at, numbers_of}
use Rattle.vl_replay.specs.inner.Drivers.{AreBits, IsWithin, driver_bits, inputs_of}
use Rattle.vl_replay.specs.inner.Samplers.{sampler_of}
use Rattle.vl_replay.specs.inner.Play.{HaveCells, IsPlayed, IsScoreOf}
use Rattle.vl_replay.specs.inner.Rest.{IsPast, IsQuiet, Leads}
use Rattle.math_list.proofs.Places.{there_map}
use Rattle.vl_replay.proofs.Cells.{clock-of}
use Rattle.vl_replay.proofs.Rounds.{joined, joined-from, joined-until}
use Rattle.vl_replay.proofs.Rows.{zeros}
use Rattle.vl_replay.proofs.Scores.{bits-of-score, within-columns}
use Rattle.vl_replay.proofs.Times.{below-of, hit-below, next-times}

-- what a column is past at a sample it is past at later ones
pub past-later : (samples from later : ℕ) (driver : Driver) → from ≤ later → IsPast samples from driver → IsPast samples later driver
past-later samples from later Reset more past = tt
past-later samples from later Enable more past = tt
past-later samples from later (Column place period width) more past = omega (arith, more, past)

-- past the stimulus the bits stay
still : (numbers : PortNumbers) (samples columns from s : ℕ) (driver : Driver) → IsWithin columns driver
    → IsPast samples from driver → from ≤ s
    → driver_bits numbers samples s driver ≡ driver_bits numbers samples from driver
still numbers samples columns from s Reset within past later = refl
still numbers samples columns from s Enable within past later = refl
still numbers samples columns from s (Column place period width) within past later = none s (omega (arith, later, past)) ∙ sym (none from past) where
  none : (t : ℕ) → samples + period ≤ t → driver_bits numbers samples t (Column place period width) ≡ 0
  none t after =
      let rest : t % period < period = mod_below t period within.1 in
      cond-false (nat_lt (hit_at period t) samples) (bits_of width (numbers place (hit_at period t))) 0 (le-ltb (hit_at period t) samples (omega (arith, after, rest)))

map-same : {A : Type 0} (f g : A → ℕ) (xs : List A) → ((k : ℕ) (x : A) → slice_get xs k ≡ Some x → f x ≡ g x) → map f xs ≡ map g xs
map-same f g [] each = refl
map-same f g (x ∷ xs) each = ap (λ y. y ∷ map f xs) (each 0 x refl) ∙ ap (λ ys. g x ∷ ys) (map-same f g xs (λ k y e. each (suc k) y e))

-- the cells stay those of a run that goes on, where no output is due
cells-stay : (m : Module) (samples window from until : ℕ) (rows later : Rows) (cells : List ℤ)
    → ((place : ℕ) (port : Port) → slice_get (output_ports m) place ≡ Some port → lateness_of port / clocks_of m < until → samples + lateness_of port / clocks_of m ≤ from)
    → from ≤ until → ((k : ℕ) → k ≤ 1 + from * clocks_of m → later k ≡ rows k)
    → HaveCells m samples window (from * clocks_of m) rows cells
    → HaveCells m samples window (until * clocks_of m) later cells
cells-stay m samples window from until rows later cells due ordered same have = record {
  long = have.long;
  at = λ place port there t below past held.
      let less = before place port there t below past in
      let fewer : from * clocks_of m ≤ until * clocks_of m = mul-le-mul_right (clocks_of m) ordered in
      let h : hit_at (step_of port) t * clocks_of m ≤ t * clocks_of m = mul-le-mul_right (clocks_of m) (hit-below (step_of port) t) in
      have.at place port there t below less (λ l. let k = held l in omega (arith, k, fewer))
      ∙ ap (λ (r : Row). port_number port (r port.name)) (sym (same (2 + (hit_at (step_of port) t * clocks_of m + lateness_of port)) (omega (arith, h, less))));
}
  where
    before : (place : ℕ) (port : Port) → slice_get (output_ports m) place ≡ Some port → (t : ℕ) → t < samples
        → t * clocks_of m + lateness_of port < until * clocks_of m
        → t * clocks_of m + lateness_of port < from * clocks_of m
    before place port there t below past = by (cases_lt (t * clocks_of m + lateness_of port) (from * clocks_of m)) where
      by : (t * clocks_of m + lateness_of port < from * clocks_of m) ⊎ (from * clocks_of m ≤ t * clocks_of m + lateness_of port) → t * clocks_of m + lateness_of port < from * clocks_of m
      by (inl less) = less
      by (inr most) =
          let f = clocks_of m in
          let delay = lateness_of port / f in
          let told = clock-of f (lateness_of port) t in
          let some = (clocks-some m).0 in
          let rest : lateness_of port % f < f = mod_below (lateness_of port) f (omega (arith, some)) in
          let next = next-times (t + delay) f in
          let low : from < t + delay + 1 = below-of from (t + delay + 1) f (omega (arith, told, rest, next, most)) in
          let high : t + delay < until = below-of (t + delay) until f (omega (arith, told, past)) in
          let d = due place port there (omega (arith, high)) in
          absurd (omega (arith, d, low, below))

module _ (m : Module) (score : Score) (is : IsScoreOf m score) (from until : ℕ) (quiet : IsQuiet score from until) (ordered : from ≤ until) (bits : List ℕ) (rows : Rows) (row last : Row)
    (are : AreBits (driver_bits (numbers_of score.stimulus) score.stimulus.lines from) score.drivers.items (length score.drivers.items) bits)
    (steps : AreSteps m (2 + from * score.cycles) zeros (inputs_of m (numbers_of score.stimulus) score.stimulus.lines) rows)
    (ended : rows (1 + from * score.cycles) ≡ row)
    (leads : Leads m (given (driven_ports m) bits) row ((until - from) * score.cycles) last) where
  abbrev inputs : Rows
  inputs = inputs_of m (numbers_of score.stimulus) score.stimulus.lines

  abbrev of : ℕ → Driver → ℕ
  of s = driver_bits (numbers_of score.stimulus) score.stimulus.lines s

  abbrev c : ℕ
  c = from * score.cycles

  abbrev n : ℕ
  n = (until - from) * score.cycles

  whole : c + n ≡ until * score.cycles
  whole = let e : from + (until - from) ≡ until = omega (arith, ordered) in sym (add-mul from (until - from) score.cycles) ∙ ap (λ k. k * score.cycles) e

  drivers-stay : (s : ℕ) → from ≤ s → map (of s) score.drivers.items ≡ map (of from) score.drivers.items
  drivers-stay s later = map-same (of s) (of from) score.drivers.items (λ k driver e.
      still (numbers_of score.stimulus) score.stimulus.lines score.stimulus.columns from s driver ((within-columns m score is).at k driver e) (quiet.drivers k driver e) later)

  inputs-stay : (clock : ℕ) → c ≤ clock → inputs (suc (suc clock)) ≡ given (driven_ports m) bits
  inputs-stay clock low =
      let some = (clocks-some m).0 in
      let f : c ≡ from * clocks_of m = ap (λ f. from * f) is.cycles in
      let later : from ≤ clock / clocks_of m = (le-div_iff_mul-le {k = clocks_of m} {x = from} {y = clock} (omega (arith, some))).1 (omega (arith, low, f)) in
      let drivers = is.drivers in
      ap (λ xs. given (driven_ports m) (map (of (clock / clocks_of m)) xs)) (sym drivers)
      ∙ ap (given (driven_ports m)) (drivers-stay (clock / clocks_of m) later)
      ∙ ap (λ xs. given (driven_ports m) (map (of from) xs)) drivers
      ∙ ap (given (driven_ports m)) (sym (bits-of-score m score is (of from) bits are))

  pub rested-rows : Rows
  rested-rows = joined rows (1 + c) leads.rows

  meet : leads.rows 0 ≡ rows (1 + c)
  meet = leads.begins ∙ sym ended

  pub rested-same : (k : ℕ) → k ≤ 1 + c → rested-rows k ≡ rows k
  unfolding rested-rows
  rested-same k low = joined-until rows (1 + c) leads.rows meet k low

  after : (k : ℕ) → 1 + c ≤ k → rested-rows k ≡ leads.rows (k - (1 + c))
  unfolding rested-rows
  after k low = joined-from rows (1 + c) leads.rows k low

  edge-after : (k : ℕ) → 1 + c ≤ k → k + 1 < 2 + (c + n) → IsEdge m (rested-rows k) (inputs (k + 1)) (rested-rows (k + 1))
  edge-after k low below =
      let next : k + 1 - (1 + c) ≡ k - (1 + c) + 1 = omega (arith, low) in
      let two : suc (suc (c + (k - (1 + c)))) ≡ k + 1 = omega (arith, low) in
      let edge = leads.edges (k - (1 + c)) (omega (arith, low, below)) in
      subst (λ (r : Row). IsEdge m r (inputs (k + 1)) (rested-rows (k + 1))) (sym (after k low))
      (subst (λ (r : Row). IsEdge m (leads.rows (k - (1 + c))) (inputs (k + 1)) r) (sym (after (k + 1) (omega (arith, low)) ∙ ap leads.rows next))
      (subst (λ (r : Row). IsEdge m (leads.rows (k - (1 + c))) r (leads.rows (k - (1 + c) + 1))) (sym (inputs-stay (c + (k - (1 + c))) (omega arith)) ∙ ap inputs two) edge))

  edge-before : (k : ℕ) → k + 1 ≤ 1 + c → IsEdge m (rested-rows k) (inputs (k + 1)) (rested-rows (k + 1))
  edge-before k high =
      subst (λ (r : Row). IsEdge m r (inputs (k + 1)) (rested-rows (k + 1))) (sym (rested-same k (omega (arith, high))))
      (subst (λ (r : Row). IsEdge m (rows k) (inputs (k + 1)) r) (sym (rested-same (k + 1) high)) (steps.edges k (omega (arith, high))))

  pub rested-steps : AreSteps m (2 + until * score.cycles) zeros inputs rested-rows
  rested-steps = subst (λ k. AreSteps m (2 + k) zeros inputs rested-rows) whole (record {
    begins = λ some. subst (λ (r : Row). IsFirstRow m zeros (inputs 0) r) (sym (rested-same 0 (omega arith))) (steps.begins (omega arith));
    edges = λ k below. by k below (cases_lt k (1 + c));
  })
    where
      by : (k : ℕ) → k + 1 < 2 + (c + n) → (k < 1 + c) ⊎ (1 + c ≤ k) → IsEdge m (rested-rows k) (inputs (k + 1)) (rested-rows (k + 1))
      by k below (inl less) = edge-before k (omega (arith, less))
      by k below (inr most) = edge-after k most below

  pub rested-last : rested-rows (1 + until * score.cycles) ≡ last
  rested-last =
      let w = whole in
      let there : 1 + until * score.cycles - (1 + c) ≡ n = omega (arith, w) in
      after (1 + until * score.cycles) (omega (arith, w)) ∙ ap leads.rows there ∙ leads.ends

  pub rested-cells : (window : ℕ) (cells : List ℤ) → HaveCells m score.stimulus.lines window c rows cells → HaveCells m score.stimulus.lines window (until * score.cycles) rested-rows cells
  rested-cells window cells have =
      subst (λ f. HaveCells m score.stimulus.lines window (until * f) rested-rows cells) (sym is.cycles)
      (cells-stay m score.stimulus.lines window from until rows rested-rows cells due ordered
      (λ k low. rested-same k (let f : c ≡ from * clocks_of m = ap (λ f. from * f) is.cycles in omega (arith, low, f)))
      (subst (λ f. HaveCells m score.stimulus.lines window (from * f) rows cells) is.cycles have))
    where
      due : (place : ℕ) (port : Port) → slice_get (output_ports m) place ≡ Some port → lateness_of port / clocks_of m < until → score.stimulus.lines + lateness_of port / clocks_of m ≤ from
      due place port there less = quiet.samplers place (sampler_of (clocks_of m) port)
          (ap (λ xs. slice_get xs place) is.samplers ∙ there_map (sampler_of (clocks_of m)) (output_ports m) place port there) less

-- it has passed the clocks up to the later sample
pub rested : (score : Score) (window from until : ℕ) (machine later : Machine) (bits : List ℕ) (cells : List ℤ)
    → IsPlayed score window (from * score.cycles) machine cells → IsQuiet score from until → from ≤ until
    → AreBits (driver_bits (numbers_of score.stimulus) score.stimulus.lines from) score.drivers.items (length score.drivers.items) bits
    → source_of later ≡ source_of machine → IsReady later → Leads (source_of machine) (given (driven_ports (source_of machine)) bits) (row_of machine) ((until - from) * score.cycles) (row_of later)
    → IsPlayed score window (until * score.cycles) later cells
rested score window from until machine later bits cells played quiet ordered are same ready leads =
    let m = source_of machine in
    let rows = rested-rows m score played.score_is from until quiet ordered bits played.rows (row_of machine) (row_of later) are played.steps played.last leads in
    record {
      ready = ready;
      score_is = subst (λ n. IsScoreOf n score) (sym same) played.score_is;
      some = played.some;
      rows = rows;
      steps = subst (λ n. AreSteps n (2 + until * score.cycles) zeros (inputs_of n (numbers_of score.stimulus) score.stimulus.lines) rows) (sym same)
          (rested-steps m score played.score_is from until quiet ordered bits played.rows (row_of machine) (row_of later) are played.steps played.last leads);
      last = rested-last m score played.score_is from until quiet ordered bits played.rows (row_of machine) (row_of later) are played.steps played.last leads;
      have = subst (λ n. HaveCells n score.stimulus.lines window (until * score.cycles) rows cells) (sym same)
          (rested-cells m score played.score_is from until quiet ordered bits played.rows (row_of machine) (row_of later) are played.steps played.last leads window cells played.have);
    }
