-- Ways back along the arcs that gave the latencies: what they gain, and the cycle that one makes which closes.
use Rattle.std.proofs.Common.{◌≡◌, ℕ, suc, ◌+◌, ◌*◌, ◌<◌, ◌≤◌, List, [], ◌∷◌, ◌++◌, length, map, get_or, ⊎_elim, refl, sym, ap, subst, ◌∙◌, arith}
use Rattle.std.specs.Prelude.{slice_get, slice_index_or, Some, None, Option}
use Rattle.std.specs.List.{sum_by, All}
use Rattle.std.proofs.lemmas.Bool.{cases_lt}
use Rattle.std.proofs.lemmas.List.Sums.{sum_by-cons, sum_by-le}
use Rattle.std.proofs.lemmas.Option.{same_Some, get_or_from_slice_get}
use Rattle.hw_arcs.specs.declared.arc.Arc.{Arc}
use Rattle.hw_arcs.specs.Latencies.{latency_at, IsCountedArc}
use Rattle.hw_arcs.specs.Found.{AreKnown, most_gain}
use Rattle.hw_arcs.specs.inner.State.{AreLabels}
use Rattle.hw_arcs.specs.inner.Walk.{IsChain, IsStepBack, of_arc, of_number, gain_into, slack_into, gains_of, slacks_of}
use Rattle.math_list.proofs.Places.{all_cons}

-- ---- joining and cutting

pub chain_joins : (arcs : List Arc) (tight : List (Option ℕ)) (first middle end : ℕ) (xs ys : List ℕ)
    → IsChain arcs tight first xs middle → IsChain arcs tight middle ys end
    → IsChain arcs tight first (xs ++ ys) end
chain_joins arcs tight first middle end [] ys before after = subst (λ b. IsChain arcs tight b ys end) (sym before) after
chain_joins arcs tight first middle end (x ∷ xs) ys before after = (before.0, before.1, before.2, chain_joins arcs tight before.0 middle end xs ys before.3 after)

pub record IsCut (arcs : List Arc) (tight : List (Option ℕ)) (first : ℕ) (xs ys : List ℕ) (end : ℕ) : Type 0 where
  pub middle : ℕ
  pub before : IsChain arcs tight first xs middle
  pub after : IsChain arcs tight middle ys end

pub chain_cuts : (arcs : List Arc) (tight : List (Option ℕ)) (first end : ℕ) (xs ys : List ℕ) → IsChain arcs tight first (xs ++ ys) end → IsCut arcs tight first xs ys end
chain_cuts arcs tight first end [] ys chain = record { middle = first; before = refl; after = chain }
chain_cuts arcs tight first end (x ∷ xs) ys chain =
    let more = chain_cuts arcs tight chain.0 end xs ys chain.3 in
    record { middle = more.middle; before = (chain.0, chain.1, chain.2, more.before); after = more.after }

-- ---- gains

value_is : (value : Arc → ℕ) (arcs : List Arc) (tight : List (Option ℕ)) (block number : ℕ) (arc : Arc)
    → slice_get tight block ≡ Some (Some number) → slice_get arcs number ≡ Some arc
    → of_number value arcs (slice_index_or tight block None) ≡ value arc
value_is value arcs tight block number arc given at =
    ap (of_number value arcs) (get_or_from_slice_get tight block (Some number) None given) ∙ ap (of_arc value) at

-- what the arc that gave a block its latency has
record IsAsked (arcs : List Arc) (tight : List (Option ℕ)) (block next : ℕ) (arc : Arc) : Type 0 where
  from : arc.from ≡ next
  gain : gain_into arcs tight block ≡ arc.gain
  slack : slack_into arcs tight block ≡ arc.slack

pulled_by : (arcs : List Arc) (tight : List (Option ℕ)) (block next : ℕ) (step : IsStepBack arcs tight block next)
    (arc : Arc) → slice_get arcs step.number ≡ Some arc → IsAsked arcs tight block next arc
pulled_by arcs tight block next step arc at = record {
  from = ap (λ (a : Arc). a.from) (same_Some arc step.arc (sym at ∙ step.at)) ∙ step.from;
  gain = value_is (λ a. a.gain) arcs tight block step.number arc step.given at;
  slack = value_is (λ a. a.slack) arcs tight block step.number arc step.given at;
}

pub record IsGained (lat time : ℕ → ℕ) (first end gains slacks steps : ℕ) : Type 0 where
  pub weak : lat first + slacks ≤ lat end + gains
  pub tied : lat end + gains ≤ lat first + slacks → time end + steps ≤ time first

pub chain_gains : (arcs : List Arc) (lat : List ℕ) (tight : List (Option ℕ)) (labels : AreLabels arcs lat tight) (first end : ℕ) (xs : List ℕ) → IsChain arcs tight first xs end
    → IsGained (latency_at lat) labels.time first end (gains_of arcs tight xs) (slacks_of arcs tight xs) (length xs)
chain_gains arcs lat tight labels first end [] chain = record {
  weak = let e : latency_at lat first ≡ latency_at lat end = ap (latency_at lat) chain in omega (arith, e);
  tied = λ h. let e : labels.time first ≡ labels.time end = ap labels.time chain in omega (arith, e);
}
chain_gains arcs lat tight labels first end (x ∷ xs) chain =
    let step = chain.2 in
    let pulled = labels.some x step.number step.given in
    let asks = pulled_by arcs tight x chain.0 step pulled.arc pulled.at in
    let gains : gains_of arcs tight (x ∷ xs) ≡ gain_into arcs tight x + gains_of arcs tight xs = sum_by-cons (gain_into arcs tight) x xs in
    let slacks : slacks_of arcs tight (x ∷ xs) ≡ slack_into arcs tight x + slacks_of arcs tight xs = sum_by-cons (slack_into arcs tight) x xs in
    let begins : latency_at lat first ≡ latency_at lat x = ap (latency_at lat) chain.1 in
    let began : labels.time first ≡ labels.time x = ap labels.time chain.1 in
    let next : latency_at lat pulled.arc.from ≡ latency_at lat chain.0 = ap (latency_at lat) asks.from in
    let nexts : labels.time pulled.arc.from ≡ labels.time chain.0 = ap labels.time asks.from in
    let more = chain_gains arcs lat tight labels chain.0 end xs chain.3 in
    let both = gained_more (latency_at lat first) (latency_at lat x) (latency_at lat pulled.arc.from) (latency_at lat chain.0) (latency_at lat end)
    (labels.time first) (labels.time x) (labels.time pulled.arc.from) (labels.time chain.0) (labels.time end)
    pulled.arc.gain pulled.arc.slack (gain_into arcs tight x) (slack_into arcs tight x) (gains_of arcs tight xs)
    (slacks_of arcs tight xs) (gains_of arcs tight (x ∷ xs)) (slacks_of arcs tight (x ∷ xs)) (length xs)
    asks.gain asks.slack gains slacks begins began next nexts pulled.weak pulled.strict more.weak more.tied in
    record { weak = both.0; tied = both.1 }
  where
    gained_more : (lf lx lp ln le tf tx tp tn te gain slack gi si gs ss ga sa n : ℕ) → gi ≡ gain → si ≡ slack → ga ≡ gi + gs → sa ≡ si + ss → lf ≡ lx → tf ≡ tx → lp ≡ ln → tp ≡ tn
        → lx + slack ≤ lp + gain → (tx ≤ tp → lx + slack < lp + gain) → ln + ss ≤ le + gs → (le + gs ≤ ln + ss → te + n ≤ tn) → (lf + sa ≤ le + ga) × (le + ga ≤ lf + sa → te + suc n ≤ tf)
    gained_more lf lx lp ln le tf tx tp tn te gain slack gi si gs ss ga sa n e1 e2 e3 e4 e5 e6 e7 e8 weak strict more tied = (
      omega arith,
      λ h. ⊎_elim
          (λ (later : tp < tx). let t = tied (omega (arith, h, weak, e1, e2, e3, e4, e5, e7)) in omega (arith, t, later, e6, e8))
          (λ (late : tx ≤ tp). let l = strict late in absurd (omega (arith, l, h, more, e1, e2, e3, e4, e5, e7)))
          (cases_lt tp tx),
    )

-- a way back that closes gains
pub ring_gains : (arcs : List Arc) (lat : List ℕ) (tight : List (Option ℕ)) → AreLabels arcs lat tight
    → (first : ℕ) (xs : List ℕ) → IsChain arcs tight first xs first → 0 < length xs
    → slacks_of arcs tight xs < gains_of arcs tight xs
ring_gains arcs lat tight labels first xs chain some =
    let gained = chain_gains arcs lat tight labels first first xs chain in
    ⊎_elim
    (λ more. more)
    (λ (less : gains_of arcs tight xs ≤ slacks_of arcs tight xs). let t = gained.tied (omega (arith, less)) in absurd (omega (arith, t, some)))
    (cases_lt (slacks_of arcs tight xs) (gains_of arcs tight xs))

gain_small : (arcs : List Arc) (tight : List (Option ℕ)) (count : ℕ) → AreKnown arcs count → (block : ℕ) → gain_into arcs tight block ≤ most_gain
gain_small arcs tight count known block = by_number (slice_index_or tight block None)
  where
    by_arc : (arc : Option Arc) (number : ℕ) → slice_get arcs number ≡ arc → of_arc (λ a. a.gain) arc ≤ most_gain
    by_arc None number at = omega arith
    by_arc (Some arc) number at = known.gain number arc at

    by_number : (number : Option ℕ) → of_number (λ a. a.gain) arcs number ≤ most_gain
    by_number None = omega arith
    by_number (Some number) = by_arc (slice_get arcs number) number refl

pub gains_small : (arcs : List Arc) (tight : List (Option ℕ)) (count : ℕ) (xs : List ℕ) → AreKnown arcs count → gains_of arcs tight xs ≤ length xs * most_gain
gains_small arcs tight count xs known = sum_by-le (gain_into arcs tight) most_gain xs (λ k d inside. gain_small arcs tight count known (get_or xs k d))

-- ---- the arcs of a way back

pub record HasArcs (arcs : List Arc) (tight : List (Option ℕ)) (first : ℕ) (xs : List ℕ) (end : ℕ) : Type 0 where
  pub edges : List Arc
  pub are : All (IsCountedArc arcs) edges
  pub to : map (λ (arc : Arc). arc.to) edges ≡ xs
  pub from : first ∷ map (λ (arc : Arc). arc.from) edges ≡ xs ++ end ∷ []
  pub gains : sum_by (λ (arc : Arc). arc.gain) edges ≡ gains_of arcs tight xs
  pub slacks : sum_by (λ (arc : Arc). arc.slack) edges ≡ slacks_of arcs tight xs

pub chain_arcs : (arcs : List Arc) (lat : List ℕ) (tight : List (Option ℕ)) → AreLabels arcs lat tight
    → (first end : ℕ) (xs : List ℕ) → IsChain arcs tight first xs end → HasArcs arcs tight first xs end
chain_arcs arcs lat tight labels first end [] chain = record {
  edges = [];
  are = λ k d inside. absurd (omega arith);
  to = refl;
  from = ap (λ b. b ∷ []) chain;
  gains = refl;
  slacks = refl;
}
chain_arcs arcs lat tight labels first end (x ∷ xs) chain =
    let step = chain.2 in
    let pulled = labels.some x step.number step.given in
    let asks = pulled_by arcs tight x chain.0 step pulled.arc pulled.at in
    let more = chain_arcs arcs lat tight labels chain.0 end xs chain.3 in
    record {
      edges = pulled.arc ∷ more.edges;
      are = all_cons (IsCountedArc arcs) pulled.arc more.edges (record { number = step.number; at = pulled.at; counts = pulled.counts }) more.are;
      to = ap (λ b. b ∷ map (λ (arc : Arc). arc.to) more.edges) pulled.ends ∙ ap (λ bs. x ∷ bs) more.to;
      from = ap (λ b. b ∷ (pulled.arc.from ∷ map (λ (arc : Arc). arc.from) more.edges)) chain.1 ∙ ap (λ b. x ∷ (b ∷ map (λ (arc : Arc). arc.from) more.edges)) asks.from ∙ ap (λ bs. x ∷ bs) more.from;
      gains = sum_by-cons (λ (arc : Arc). arc.gain) pulled.arc more.edges
          ∙ ap (λ n. n + sum_by (λ (arc : Arc). arc.gain) more.edges) (sym asks.gain)
          ∙ ap (λ n. gain_into arcs tight x + n) more.gains ∙ sym (sum_by-cons (gain_into arcs tight) x xs);
      slacks = sum_by-cons (λ (arc : Arc). arc.slack) pulled.arc more.edges
          ∙ ap (λ n. n + sum_by (λ (arc : Arc). arc.slack) more.edges) (sym asks.slack)
          ∙ ap (λ n. slack_into arcs tight x + n) more.slacks ∙ sym (sum_by-cons (slack_into arcs tight) x xs);
    }
