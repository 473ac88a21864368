use Rattle.std.proofs.Common.{◌≡◌, ◌+◌, ◌-◌, ◌/◌, ◌<◌, ◌≤◌, ℕ, length, slice_get, ap, sym, ◌∙◌, arith}
use Rattle.std.proofs.lemmas.Option.{slice_get_within, slice_get-get_or}
use Rattle.dg_sim.proofs.RootOrder.{stands_after, stands_up_to}
use Rattle.dg_sim.proofs.columns.find_root.Goals as goal

pub loop-low-init : goal.loop-low-init
loop-low-init c = (omega arith, (λ place at. let below = slice_get_within c.args.roots.now place c.args.root at in (omega arith, omega (arith, below))))

pub loop-low-preserved-then-is_before : goal.loop-low-preserved-then-is_before
loop-low-preserved-then-is_before c =
    let middle : ℕ = c.loop-low.low + (c.loop-low.high - c.loop-low.low) / 2 in
    let below : middle < length c.args.roots.now = omega (arith, c.loop-low.invariant.0) in (
      c.loop-low.invariant.0,
      (λ place at.
          let after : middle < place = stands_after c.args.roots.now c.requires.sorted place middle c.args.root _ at
          (slice_get-get_or c.args.roots.now middle _ below) (sym c.is_before.ensures ∙ c.if-is_before.true) in
          (omega (arith, after), (c.loop-low.invariant.1 place at).1)),
    )

pub loop-low-preserved : goal.loop-low-preserved
loop-low-preserved c =
    let middle : ℕ = c.loop-low.low + (c.loop-low.high - c.loop-low.low) / 2 in
    let below : middle < length c.args.roots.now = omega (arith, c.loop-low.invariant.0) in (
      omega (arith, below),
      (λ place at.
          let up_to : place ≤ middle = stands_up_to c.args.roots.now c.requires.sorted place middle c.args.root _ at
          (slice_get-get_or c.args.roots.now middle _ below) (sym c.is_before.ensures ∙ c.if-is_before.false) in
          ((c.loop-low.invariant.1 place at).0, up_to)),
    )

pub returns : goal.returns
returns c =
    let place = c.requires.there.0 in
    let at = c.requires.there.1 in
    let within = c.loop-low.invariant.1 place at in
    let same : c.loop-low.low ≡ place = omega (arith, within.0, within.1) in
    ap (slice_get c.args.roots.now) same ∙ at
