use Rattle.std.proofs.Common.{◌≡◌, inl, inr, List, length, ap, arith}
use Rattle.fx_type.specs.declared.decimal.Decimal.{Decimal}
use Rattle.mdl_build.proofs.list_readers.taps.Goals as goal

pub returns-in_default : goal.returns-in_default
returns-in_default c = λ list given. (rw c.in_default.is at c.in_ok-taps.ensures) list given.list

pub returns-then-count-lt2 : goal.returns-then-count-lt2
returns-then-count-lt2 c = λ list given.
    let one : list ≡ c.in-Some.taps = c.values_are_one.ensures.lists c.args.text.now list c.in-Some.taps given.list (rw c.in-Some.is at c.in_ok-taps.ensures) in
    let long = ap (λ (l : List Decimal). length l) one in
    let here = ap (λ (l : List Decimal). length l) c.as_slice-count.ensures in
    elim c.then-count-lt2.either [
      | inl few ↦ omega (arith, long, here, few, given.count.0)
      | inr many ↦ omega (arith, long, here, many.1, given.count.1)
    ]
