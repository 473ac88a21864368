use Rattle.std.proofs.Common.{◌≡◌, ◌++◌, ◌∷◌, [], ℕ, List, IfOk, ap, ◌∙◌, subst, append_assoc}
use Rattle.std.specs.Prelude.{decimal}
use Rattle.hw_names.specs.Names.{port_name}
use Rattle.hw_names.proofs.names.numbered_name.Goals as goal

pub returns : goal.returns
returns c =
    let begun : c.in_ok-other.other.items ≡ c.args.name.now = c.in_ok-other.ensures.items in
    let marked : c.push.new.self.items ≡ c.args.name.now ++ 95 ∷ [] = c.in_ok-push.ensures.items ∙ ap (λ (xs : List ℕ). xs ++ 95 ∷ []) begun in
    let numbered : c.put_number.new.bytes.items ≡ c.args.name.now ++ (95 ∷ decimal c.args.number) =
    c.in_ok-put_number.ensures ∙ ap (λ (xs : List ℕ). xs ++ decimal c.args.number) marked
    ∙ append_assoc c.args.name.now (95 ∷ []) (decimal c.args.number) in
    subst (λ (xs : List ℕ). IfOk c.port_name.result (λ named. named.items ≡ port_name xs)) numbered c.port_name.ensures
