use Rattle.std.proofs.Common.{rules}
use Rattle.std.proofs.lemmas.List.Sorted.{IsPermutation-trans, IsNonDecreasingBy-from_sort_by_key, answers_always, ties_still_rise}
use Rattle.dg_flat.proofs.EdgeOrder.{in_order}
use Rattle.dg_flat.proofs.edges.put_in_order.Goals as goal

pub returns-clause-ordered : goal.returns-clause-ordered
returns-clause-ordered c =
    in_order _ (IsNonDecreasingBy-from_sort_by_key (λ e. e.to) _ c.in_ok-sort_by_key-2.ensures.sorted (λ a r q k. search rules))
    (ties_still_rise (λ e. e.to_port) (λ e. e.to) _ _ (c.in_ok-sort_by_key.ensures.sorted (λ e. e.to_port) (answers_always _ _ _ (λ f a r g h. search rules)))
    (c.in_ok-sort_by_key-2.ensures.stable (λ e. e.to) (answers_always _ _ _ (λ f a r g h. search rules))))

pub returns-clause-same : goal.returns-clause-same
returns-clause-same c = IsPermutation-trans _ _ _ c.in_ok-sort_by_key.ensures.permutation c.in_ok-sort_by_key-2.ensures.permutation
