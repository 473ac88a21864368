use Rattle.std.proofs.Common.{◌≡◌, ◌<◌, ◌+◌, ◌-◌, ◌∙◌, ℕ, ℤ, List, Some, length, refl, sym, subst, arith}
use Rattle.std.specs.Prelude.{slice_get}
use Rattle.std.proofs.lemmas.Option.{slice_get-get_or}
use Rattle.vl_eval.specs.declared.machine.Machine.{Machine}
use Rattle.vl_replay.specs.declared.samplers.Sampler.{Sampler}
use Rattle.vl_replay.specs.inner.Samplers.{ArePut, HasRing, numbers_in, sampler_at}
use Rattle.vl_replay.proofs.CellPuts.{put-due, put-undue}
use Rattle.vl_replay.proofs.samplers.put_numbers.Goals.{In-loop-place, then-sampler-phase-via-then-sampler-phase, then-sampler-phase-via-else-sampler-phase+then-sample-sampler}
use Rattle.vl_replay.proofs.samplers.put_numbers.Goals as goal

-- the sampler that the loop looks at
there : (c : In-loop-place) → slice_get c.args.samplers.now c.loop-place.place ≡ Some (sampler_at c.args.samplers.now c.loop-place.place)
there c = slice_get-get_or c.args.samplers.now c.loop-place.place (record { period = 0; delay = 0; phase = 0 }) c.loop-place-test.true

-- the numbers stay as they are, where no sample of it is due
not-due : (c : In-loop-place) →
    ((t : ℕ) → t < c.args.samples → (sampler_at c.args.samplers.now c.loop-place.place).phase ≡ c.args.phase → t + (sampler_at c.args.samplers.now c.loop-place.place).delay ≡ c.args.sample → ⊥) →
    ArePut (numbers_in c.args.machine.now) c.args.samplers.now c.args.samples c.args.window c.args.sample c.args.phase (c.loop-place.place + 1) c.args.cells.now c.loop-place.cells
not-due c never =
    put-undue (numbers_in c.args.machine.now) c.args.samplers.now c.args.samples c.args.window c.args.sample c.args.phase c.loop-place.place c.args.cells.now c.loop-place.cells
    (sampler_at c.args.samplers.now c.loop-place.place) (there c) c.loop-place.invariant never

-- a ring that is as long has the same room
ring-kept : {machine : Machine} {samplers : List Sampler} {window : ℕ} {cells cells' : List ℤ}
    → HasRing machine samplers window cells → length cells' ≡ length cells → HasRing machine samplers window cells'
ring-kept ring long = record { ready = ring.ready; outputs = ring.outputs; periods = ring.periods; some = ring.some; room = long ∙ ring.room }

pub loop-place-init : goal.loop-place-init
loop-place-init c = record {
  long = refl;
  put = λ place sampler t e low below ep ed. absurd (omega (arith, low));
  kept = λ place sampler row e other. refl;
}

pub loop-place-preserved-then-sampler-phase : goal.loop-place-preserved-then-sampler-phase
loop-place-preserved-then-sampler-phase c =
    not-due (goal.at.loop-place-preserved-then-sampler-phase c).In-loop-place
    (λ t below own due. elim c.then-sampler-phase.branch [
      | then-sampler-phase-via-then-sampler-phase w ↦ absurd (w.if-sampler-phase.true own)
      | then-sampler-phase-via-else-sampler-phase+then-sample-sampler w ↦ (let less = w.if-sample-sampler.true in absurd (omega (arith, less, due)))
    ])

pub loop-place-preserved-then-samples-due : goal.loop-place-preserved-then-samples-due
loop-place-preserved-then-samples-due c =
    not-due (goal.at.loop-place-preserved-then-samples-due c).In-loop-place
    (λ t below own due. let past = c.if-samples-due.true in absurd (omega (arith, past, due, below)))

pub put_number-requires-clause-ring : goal.put_number-requires-clause-ring
put_number-requires-clause-ring c = ring-kept c.requires c.loop-place.invariant.long

pub loop-place-preserved : goal.loop-place-preserved
loop-place-preserved c =
    let samplers = c.args.samplers.now in
    let place = c.loop-place.place in
    let sample = c.args.sample in
    let own = sampler_at samplers place in
    let here = there (goal.at.loop-place-preserved c).In-loop-place in
    let numbers = numbers_in c.args.machine.now in
    let late = c.if-sample-sampler.false in
    let due : sample - own.delay + own.delay ≡ sample = omega (arith, late) in
    subst (λ (cells : List ℤ). ArePut numbers samplers c.args.samples c.args.window sample c.args.phase (place + 1) c.args.cells.now cells) (sym c.put_number.ensures)
    (put-due numbers samplers c.args.samples c.args.window sample c.args.phase place c.args.cells.now
    c.loop-place.cells own here c.loop-place.invariant
    (sample - own.delay) c.if-samples-due.false c.if-sampler-phase.false due
    c.requires.some (c.loop-place.invariant.long ∙ c.requires.room))

pub returns : goal.returns
returns c =
    let past = c.loop-place-test.false in
    let within = c.loop-place.auto.place-end in
    let all : c.loop-place.place ≡ length c.args.samplers.now = omega (arith, past, within) in
    subst (λ (n : ℕ). ArePut (numbers_in c.args.machine.now) c.args.samplers.now c.args.samples c.args.window
    c.args.sample c.args.phase n c.args.cells.now c.loop-place.cells) all c.loop-place.invariant
