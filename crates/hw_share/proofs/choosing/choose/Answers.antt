use Rattle.std.proofs.Common.{◌≡◌, IfOk, OnOk, ◌∷◌, []}
use Rattle.hw_share.specs.inner.Parts.{Grows, IsChoosing}
use Rattle.hw_share.specs.inner.Choices.{IsChoiceAt}
use Rattle.hw_net.proofs.Extends.{read-net}
use Rattle.hw_share.proofs.Choices.{choice-part}
use Rattle.hw_share.proofs.choosing.choose.Goals as goal

parts : (c : goal.After-combine) → IfOk c.combine.result (λ number. IsChoiceAt c.args.net.now c.combine.new.net c.args.test c.args.chosen c.args.other number)
    × OnOk c.combine.result (Grows c.args.net.now c.combine.new.net (c.args.test ∷ c.args.chosen ∷ c.args.other ∷ []) (IsChoosing (λ frame. ⊥)) 0)
parts c =
    let there = c.requires.word.there in
    let read : c.index-nets-chosen.result ≡ there.net =
    read-net c.args.net.now.nets c.nets.result.now c.args.chosen there.net c.index-nets-chosen.result
    c.nets.ensures there.is c.index-nets-chosen.is in
    choice-part c.combine.result c.args.net.now c.combine.new.net c.args.test c.args.chosen c.args.other c.requires.test c.requires.word c.combine.ensures.number (rw read at c.combine.ensures.grown)

pub returns-clause-chosen : goal.returns-clause-chosen
returns-clause-chosen c = (parts c).0

pub returns-clause-grown : goal.returns-clause-grown
returns-clause-grown c = (parts c).1
