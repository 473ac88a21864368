use Rattle.std.proofs.Common.{◌≡◌, ◌∙◌, ◌++◌, ◌∷◌, [], ℕ, List, map, take, slice_index_or, ap, sym}
use Rattle.std.proofs.lemmas.List.{map-append, take_all, take_more}
use Rattle.hw_net.specs.declared.netlist.NetKind.TheVariants.{Comb}
use Rattle.hw_lower.proofs.lowering.net_of.Goals as goal

pub loop-place-init : goal.loop-place-init
loop-place-init c = c.new-args.ensures

pub returns : goal.returns
returns c =
    let places : List ℕ = c.args.step.first ∷ c.args.step.second ∷ c.args.step.third ∷ [] in
    let args : c.loop-place.args ≡ map (λ place. slice_index_or c.args.numbers.now place 0)
    (take c.arity.result places) = c.loop-place.invariant
    ∙ ap (map (λ place. slice_index_or c.args.numbers.now place 0))
    (take_all c.loop-place.place-index _ c.loop-place-test.false) in
    ap (λ (read : List ℕ). record { signed = c.args.step.word.signed; width = c.args.step.word.width; kind = Comb c.args.step.op read })
    (args ∙ ap (λ (count : ℕ). map (λ place. slice_index_or c.args.numbers.now place 0) (take count places)) c.arity.ensures)

pub loop-place-preserved : goal.loop-place-preserved
loop-place-preserved c =
    let i : ℕ = c.loop-place.place-index in
    let reads : List ℕ = take c.arity.result (c.args.step.first ∷ c.args.step.second ∷ c.args.step.third ∷ []) in
    let number : ℕ → ℕ = λ place. slice_index_or c.args.numbers.now place 0 in
    c.in_ok-push.ensures.appended ∙ ap (λ (xs : List ℕ). xs ++ number (slice_index_or reads i 0) ∷ []) c.loop-place.invariant
    ∙ sym (ap (map number) (take_more reads i 0 c.loop-place-test.true) ∙ map-append number (take i reads) (slice_index_or reads i 0 ∷ []))
