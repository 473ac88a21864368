use Rattle.std.proofs.Common.{◌≡◌, ◌*◌, ◌-◌, [], ℕ, false, pos, ap, ◌∙◌, IfOk, OnOk, FitsSigned, rules, arith}
use Rattle.std.specs.Int.{w128}
use Rattle.std.proofs.lemmas.Int.{to_z-of_z}
use Rattle.math_num.specs.Word.{InWord}
use Rattle.hw_net.proofs.Growth.{appends-counter}
use Rattle.hw_share.specs.inner.Parts.{Grows, IsChoosing}
use Rattle.hw_share.specs.inner.Choices.{IsTestAt}
use Rattle.hw_share.proofs.Numbers.{less-in}
use Rattle.hw_share.proofs.Choices.{test-part}
use Rattle.hw_share.proofs.testing.test_at.Goals as goal

parts : (c : goal.After-combine-2) → IfOk c.combine-2.result (λ number. IsTestAt c.args.net.now c.combine-2.new.net c.args.frame c.args.slot number)
    × OnOk c.combine-2.result (Grows c.args.net.now c.combine-2.new.net [] (IsChoosing (λ other. other ≡ c.args.frame)) 0)
parts c =
    let counted = c.in_ok-counter.ensures.counted in
    let cycles : c.counter.new.self.cycles ≡ c.args.net.now.cycles = (appends-counter c.args.net.now c.counter.new.self [] c.args.frame c.requires.period counted).extends.cycles in
    let same : c.from.result * c.from-2.result ≡ c.args.frame.period * c.args.net.now.cycles =
    (λ j. c.from.ensures j * (c.from-2.ensures ∙ c.cycles.ensures ∙ cycles) j) in
    let left_is : c.from.result * c.from-2.result - 1 - c.args.slot ≡ c.args.frame.period * c.args.net.now.cycles - 1 - c.args.slot = ap (λ (x : ℕ). x - 1 - c.args.slot) same in
    let has : InWord c.bits_below.result false (pos (c.from.result * c.from-2.result - 1 - c.args.slot)) =
    less-in c.bits_below.result (c.from.result * c.from-2.result - 1) (c.from.result * c.from-2.result - 1 - c.args.slot) (omega arith) c.bits_below.ensures.room in
    let fits : FitsSigned w128 c.from-3.result = search rules in
    let literal = to_z-of_z w128 c.from-3.result fits in
    test-part c.counter_is_telling.ensures c.args.net.now c.counter.new.self c.args.frame c.args.slot
    c.requires.cycles c.requires.period c.requires.inside counted c.in_ok-counter.counter
    c.in_ok-counter.ensures.found
    c.combine.new.net c.in_ok-count.count c.bits_below.result (c.from.result * c.from-2.result - 1 - c.args.slot) left_is c.bits_below.ensures.word has c.in_ok-count.ensures.number
    (rw (literal, c.from-3.ensures) at c.in_ok-count.ensures.grown) c.combine-2.result c.combine-2.new.net c.combine-2.ensures.number c.combine-2.ensures.grown

pub returns-clause-test : goal.returns-clause-test
returns-clause-test c = (parts c).0

pub returns-clause-grown : goal.returns-clause-grown
returns-clause-grown c = (parts c).1
