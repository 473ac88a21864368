-- A way back that closes, told in the other direction from its least block on.
use Rattle.std.proofs.Common.{◌≡◌, ℕ, zero, suc, ◌+◌, ◌*◌, ◌<◌, ◌≤◌, Bool, cond, List, [], ◌∷◌, ◌++◌, length, map, take, drop, reverse, get_or, refl, sym, ap, subst, ◌∙◌, arith}
use Rattle.std.specs.Prelude.{Option, ◌==◌}
use Rattle.std.specs.List.{sum_by, count_by, All}
use Rattle.std.proofs.lemmas.Bool.{eq-eqb}
use Rattle.std.proofs.lemmas.List.{take-append-drop, reverse-append, drop_more, length-drop, take_more}
use Rattle.std.proofs.lemmas.List.Elements.{All-append, All-take, All-drop}
use Rattle.std.proofs.lemmas.List.Sorted.{IsPermutation-reverse, sum_by-IsPermutation}
use Rattle.std.proofs.lemmas.List.Sums.{sum_by-append, sum_by-cons}
use Rattle.std.proofs.lemmas.Option.{slice_get_within, get_or_from_slice_get}
use Rattle.hw_arcs.specs.declared.arc.Arc.{Arc}
use Rattle.hw_arcs.specs.Latencies.{turned, IsCountedArc, IsGainingCycle, BeginsAtLeast}
use Rattle.hw_arcs.specs.Found.{AreKnown, most_gain}
use Rattle.hw_arcs.specs.inner.State.{AreLabels}
use Rattle.hw_arcs.specs.Latencies.{latency_at}
use Rattle.hw_arcs.specs.inner.Walk.{IsChain, IsClosed, IsEnded, IsRing, IsTurnedBack, gain_into, slack_into, gains_of, slacks_of, back_from}
use Rattle.math_list.proofs.Places.{get_drop}
use Rattle.hw_arcs.proofs.Counts.{one_if}
use Rattle.hw_arcs.proofs.Chains.{chain_joins, chain_cuts, chain_gains, ring_gains, gains_small, chain_arcs}

-- ---- a ring

counted_after : (p : ℕ → Bool) (place : ℕ) (path : List ℕ) → count_by p (drop place path) ≤ count_by p path
counted_after p place path =
    let parts = sum_by-append (λ x. cond (p x) 1 0) (take place path) (drop place path) in
    let whole : count_by p (take place path ++ drop place path) ≡ count_by p path = ap (count_by p) (take-append-drop place path) in
    omega (arith, parts, whole)

closed_chain : (arcs : List Arc) (tight : List (Option ℕ)) (first : ℕ) (path : List ℕ) (count place : ℕ)
    (closed : IsClosed arcs tight first path count place)
    → IsChain arcs tight closed.end (drop place path) closed.end
closed_chain arcs tight first path count place closed =
    let inside = slice_get_within path place closed.end closed.back in
    let begins : drop place path ≡ closed.end ∷ drop (place + 1) path =
    drop_more path place closed.end inside
    ∙ ap (λ b. b ∷ drop (place + 1) path)
    (get_or_from_slice_get path place closed.end closed.end closed.back) in
    let cut = chain_cuts arcs tight first closed.end (take place path) (drop place path)
    (subst (λ (bs : List ℕ). IsChain arcs tight first bs closed.end)
    (sym (take-append-drop place path)) closed.way.chain) in
    let after : IsChain arcs tight cut.middle (closed.end ∷ drop (place + 1) path) closed.end = subst (λ (bs : List ℕ). IsChain arcs tight cut.middle bs closed.end) begins cut.after in
    subst (λ (bs : List ℕ). IsChain arcs tight closed.end bs closed.end) (sym begins) (after.0, refl, after.2, after.3)

pub ring_of : (arcs : List Arc) (lat : List ℕ) (tight : List (Option ℕ)) (first : ℕ) (path : List ℕ)
    (count place : ℕ) → AreLabels arcs lat tight → IsClosed arcs tight first path count place
    → IsRing arcs tight (drop place path) count
ring_of arcs lat tight first path count place labels closed =
    let inside = slice_get_within path place closed.end closed.back in
    let long = length-drop place path in
    let short = closed.way.short in
    let chain = closed_chain arcs tight first path count place closed in
    let some : 0 < length (drop place path) = omega (arith, long, inside) in
    record {
      first = closed.end;
      chain = chain;
      some = some;
      once = λ block. let after = counted_after (λ other. other == block) place path in let once = closed.way.once block in omega (arith, after, once);
      short = omega (arith, long, short);
      there = λ k block at. closed.way.there (place + k) block (sym (get_drop place path k) ∙ at);
      gains = ring_gains arcs lat tight labels closed.end (drop place path) chain some;
    }

-- a way back that ends bounds the latency that it began with
pub ended_small : (arcs : List Arc) (lat : List ℕ) (tight : List (Option ℕ)) (first : ℕ) (path : List ℕ) (count : ℕ)
    → AreKnown arcs count → AreLabels arcs lat tight → IsEnded arcs tight first path count
    → latency_at lat first ≤ count * most_gain
ended_small arcs lat tight first path count known labels ended =
    let gained = (chain_gains arcs lat tight labels first ended.end path ended.way.chain).weak in
    let none = labels.none ended.end ended.free in
    let small = gains_small arcs tight count path known in
    let short = ended.way.short in
    omega (arith, gained, none, small, short)

-- ---- distinct blocks

counted_there : (xs : List ℕ) (k d : ℕ) → k < length xs → 1 ≤ count_by (λ other. other == get_or xs k d) xs
counted_there [] k d inside = absurd (omega arith)
counted_there (x ∷ xs) zero d inside =
    let c = sum_by-cons (λ other. cond (other == x) 1 0) x xs in
    let one : one_if (x == x) ≡ 1 = ap one_if (eq-eqb x x refl) in
    omega (arith, c, one)
counted_there (x ∷ xs) (suc k) d inside =
    let c = sum_by-cons (λ other. cond (other == get_or xs k d) 1 0) x xs in
    let more = counted_there xs k d (omega arith) in
    omega (arith, c, more)

apart : (xs : List ℕ) (i j d : ℕ) → ((block : ℕ) → count_by (λ other. other == block) xs ≤ 1) → i < j → j < length xs → get_or xs i d ≡ get_or xs j d → ⊥
apart [] i j d once below inside same = omega arith
apart (x ∷ xs) i zero d once below inside same = omega arith
apart (x ∷ xs) zero (suc j) d once below inside same =
    let c = sum_by-cons (λ other. cond (other == get_or xs j d) 1 0) x xs in
    let one : one_if (x == get_or xs j d) ≡ 1 = ap one_if (eq-eqb x (get_or xs j d) same) in
    let more = counted_there xs j d (omega arith) in
    let most = once (get_or xs j d) in
    omega (arith, c, one, more, most)
apart (x ∷ xs) (suc i) (suc j) d once below inside same =
    apart xs i j d (λ block. let c = sum_by-cons (λ other. cond (other == block) 1 0) x xs in let o = once block in omega (arith, c, o)) (omega arith) (omega arith) same

-- ---- the cycle

summed_back : {A : Type 0} (f : A → ℕ) (xs : List A) → sum_by f (reverse xs) ≡ sum_by f xs
summed_back f xs = sum_by-IsPermutation f xs (reverse xs) (IsPermutation-reverse xs)

mapped_back : {A B : Type 0} (f : A → B) (xs : List A) → map f (reverse xs) ≡ reverse (map f xs)
mapped_back f [] = refl
mapped_back f (x ∷ xs) =
    ap (map f) (reverse-append (x ∷ []) xs) ∙ map_joined f (reverse xs) (x ∷ []) ∙ ap (λ ys. ys ++ f x ∷ []) (mapped_back f xs) ∙ sym (reverse-append (f x ∷ []) (map f xs))
  where
    map_joined : {A B : Type 0} (f : A → B) (xs ys : List A) → map f (xs ++ ys) ≡ map f xs ++ map f ys
    map_joined f [] ys = refl
    map_joined f (x ∷ xs) ys = ap (λ zs. f x ∷ zs) (map_joined f xs ys)

all_first : {A : Type 0} (P : A → Type 0) (x : A) (xs : List A) → All P (x ∷ xs) → All P (x ∷ [])
all_first P x xs all zero d inside = all zero d (omega arith)
all_first P x xs all (suc k) d inside = absurd (omega arith)

all_rest : {A : Type 0} (P : A → Type 0) (x : A) (xs : List A) → All P (x ∷ xs) → All P xs
all_rest P x xs all k d inside = all (suc k) d (omega (arith, inside))

all_back : {A : Type 0} (P : A → Type 0) (xs : List A) → All P xs → All P (reverse xs)
all_back P [] all = all
all_back P (x ∷ xs) all = subst (λ ys. All P ys) (sym (reverse-append (x ∷ []) xs)) (All-append P (reverse xs) (x ∷ []) (all_back P xs (all_rest P x xs all)) (all_first P x xs all))

-- a ring that begins behind a place, in the other direction
pub back_around : (ring : List ℕ) (place : ℕ) → place < length ring → reverse (drop (place + 1) ring ++ take (place + 1) ring) ≡ back_from ring place
back_around ring place inside =
    let block = get_or ring place 0 in
    let x = take place ring in
    let y = drop (place + 1) ring in
    reverse-append y (take (place + 1) ring) ∙ ap (λ bs. bs ++ reverse y) (ap reverse (take_more ring place 0 inside) ∙ reverse-append x (block ∷ []))

-- what is summed over a ring is summed over the cycle
summed_turned : (f : ℕ → ℕ) (ring : List ℕ) (place : ℕ) → place < length ring → sum_by f (back_from ring place) ≡ sum_by f ring
summed_turned f ring place inside =
    let block = get_or ring place 0 in
    let x = take place ring in
    let y = drop (place + 1) ring in
    let split : ring ≡ x ++ (block ∷ y) = sym (take-append-drop place ring) ∙ ap (λ ys. x ++ ys) (drop_more ring place 0 inside) in
    let whole : sum_by f ring ≡ sum_by f (x ++ (block ∷ y)) = ap (sum_by f) split in
    let parts = sum_by-append f x (block ∷ y) in
    let head = sum_by-cons f block y in
    let turned_head = sum_by-cons f block (reverse x ++ reverse y) in
    let turned_parts = sum_by-append f (reverse x) (reverse y) in
    let rx = summed_back f x in
    let ry = summed_back f y in
    omega (arith, whole, parts, head, turned_head, turned_parts, rx, ry)

pub cycle_is : (arcs : List Arc) (lat : List ℕ) (tight : List (Option ℕ)) (ring cycle : List ℕ) (count total : ℕ)
    → AreLabels arcs lat tight → IsRing arcs tight ring count → IsTurnedBack ring cycle
    → total + slacks_of arcs tight ring ≡ gains_of arcs tight ring
    → IsGainingCycle arcs cycle total
cycle_is arcs lat tight ring cycle count total labels is turn sum =
    let place = turn.place in
    let inside = turn.there in
    let block = get_or ring place 0 in
    let x = take place ring in
    let y = drop (place + 1) ring in
    let split : ring ≡ x ++ (block ∷ y) = sym (take-append-drop place ring) ∙ ap (λ ys. x ++ ys) (drop_more ring place 0 inside) in
    let cut = chain_cuts arcs tight is.first is.first x (block ∷ y) (subst (λ (bs : List ℕ). IsChain arcs tight is.first bs is.first) split is.chain) in
    let round = chain_joins arcs tight cut.middle is.first cut.middle (block ∷ y) x cut.after cut.before in
    let has = chain_arcs arcs lat tight labels cut.middle cut.middle ((block ∷ y) ++ x) round in
    let from : map (λ (arc : Arc). arc.from) has.edges ≡ (y ++ x) ++ cut.middle ∷ [] = ap (drop 1) has.from in
    let same : cut.middle ≡ block = cut.after.1 in
    let back : reverse (y ++ x) ≡ reverse x ++ reverse y = reverse-append y x in
    let more = is.gains in
    let turned_gains : gains_of arcs tight ((block ∷ y) ++ x) ≡ gains_of arcs tight ring = regrouped (gain_into arcs tight) x block y ring split in
    let turned_slacks : slacks_of arcs tight ((block ∷ y) ++ x) ≡ slacks_of arcs tight ring = regrouped (slack_into arcs tight) x block y ring split in
    record {
      edges = reverse has.edges;
      are = all_back (IsCountedArc arcs) has.edges has.are;
      from = mapped_back (λ (arc : Arc). arc.from) has.edges ∙ ap reverse (from ∙ ap (λ b. (y ++ x) ++ b ∷ []) same) ∙ reverse-append (y ++ x) (block ∷ []) ∙ ap (λ bs. block ∷ bs) back ∙ sym turn.is;
      to = mapped_back (λ (arc : Arc). arc.to) has.edges ∙ ap reverse has.to ∙ reverse-append (block ∷ []) (y ++ x) ∙ ap (λ bs. bs ++ block ∷ []) back ∙ sym (ap turned turn.is);
      gains =
          let g = summed_back (λ (arc : Arc). arc.gain) has.edges in
          let s = summed_back (λ (arc : Arc). arc.slack) has.edges in
          let hg = has.gains in
          let hs = has.slacks in
          omega (arith, g, s, hg, hs, turned_gains, turned_slacks, sum);
      above = omega (arith, sum, more);
      different = λ i j d below there same_block.
          apart cycle i j d (λ b. let e : count_by (λ other. other == b) cycle
          ≡ count_by (λ other. other == b) (back_from ring place) =
          ap (count_by (λ other. other == b)) turn.is in let t =
          summed_turned (λ other. cond (other == b) 1 0) ring place inside in let o =
          is.once b in omega (arith, e, t, o))
          below there same_block;
    }
  where
    regrouped : (f : ℕ → ℕ) (x : List ℕ) (block : ℕ) (y ring : List ℕ) → ring ≡ x ++ (block ∷ y) → sum_by f ((block ∷ y) ++ x) ≡ sum_by f ring
    regrouped f x block y ring split =
        let a = sum_by-append f (block ∷ y) x in
        let b = sum_by-append f x (block ∷ y) in
        let e : sum_by f ring ≡ sum_by f (x ++ (block ∷ y)) = ap (sum_by f) split in
        omega (arith, a, b, e)

pub begins_least : (ring cycle : List ℕ) → IsTurnedBack ring cycle → BeginsAtLeast cycle
begins_least ring cycle turn =
    let place = turn.place in
    let block = get_or ring place 0 in
    let tail : All (λ other. block ≤ other) (reverse (take place ring) ++ reverse (drop (place + 1) ring)) =
    All-append (λ other. block ≤ other) (reverse (take place ring)) (reverse (drop (place + 1) ring))
    (all_back (λ other. block ≤ other) (take place ring) (All-take (λ other. block ≤ other) place ring turn.least))
    (all_back (λ other. block ≤ other) (drop (place + 1) ring) (All-drop (λ other. block ≤ other) (place + 1) ring turn.least)) in
    subst BeginsAtLeast (sym turn.is) (whole block (reverse (take place ring) ++ reverse (drop (place + 1) ring)) tail)
  where
    whole : (block : ℕ) (rest : List ℕ) → All (λ other. block ≤ other) rest → All (λ other. block ≤ other) (block ∷ rest)
    whole block rest all zero d inside = omega arith
    whole block rest all (suc k) d inside = all k d (omega (arith, inside))
