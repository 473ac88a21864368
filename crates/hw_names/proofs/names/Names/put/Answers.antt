use Rattle.std.proofs.Common.{◌≡◌, ◌∷◌, ℕ, List}
use Rattle.std.proofs.lemmas.Result.{IfOk-weaker}
use Rattle.hw_names.specs.Taken.{AreTaken}
use Rattle.hw_names.proofs.names.Names.put.Goals as goal

pub returns-clause-taken : goal.returns-clause-taken
returns-clause-taken c =
    let taken : (list : List (List ℕ)) → AreTaken c.args.self.now list → AreTaken c.take.new.self (c.args.name.items ∷ list) = rw c.as_slice.ensures.value at c.in_ok-take.ensures in
    IfOk-weaker c.from_vec.result (λ (text : List ℕ). text ≡ c.args.name.items)
    (λ (text : List ℕ). (list : List (List ℕ)) → AreTaken c.args.self.now list
    → AreTaken c.take.new.self (c.args.name.items ∷ list))
    (λ text is. taken) c.from_vec.ensures
