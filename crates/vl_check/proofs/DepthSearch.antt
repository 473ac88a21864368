-- The state of a search in depth: a stage for each number (0 before it is met, 1 and how many of its reads
-- were passed while it is open, and one more when it is placed), the open ones, and those that are placed.
use Rattle.std.proofs.Common.{◌≡◌, ◌≢◌, ◌<◌, ◌≤◌, ◌+◌, ◌-◌, ◌%◌, ⊎_elim, ℕ, List, [], ◌∷◌, ◌++◌, length, set, drop, Contains, slice_index, refl, sym, ap, subst, ◌∙◌, arith}
use Rattle.std.proofs.lemmas.List.{length-set, length-append, get_or_append_left, get_or_at, length-drop, get_or-drop, get_or_default}
use Rattle.std.proofs.lemmas.List.Elements.{Contains-append_left, Contains-push, Contains-get_or}
use Rattle.std.proofs.lemmas.Bool.{cases_lt, cases_eq}
use Rattle.std.proofs.Math.Nat.{mod_self, mod-eq_of_lt}
use Rattle.vl_check.specs.inner.Order.{IsOrder, IsCycle}
use Rattle.fx_io.specs.Rows.{row_at}
use Rattle.vl_check.specs.inner.Walks.{size, Done, Walk}
use Rattle.vl_check.proofs.Stages.{still-done, was-done, other-stage, own-stage}

-- an element behind a list leaves those before it, and stands last
still-there : (xs : List ℕ) (x i : ℕ) → i < length xs → slice_index (xs ++ x ∷ []) i ≡ slice_index xs i
still-there xs x i old = get_or_append_left xs (x ∷ []) 0 i old

put-last : (xs : List ℕ) (x i : ℕ) → i < length (xs ++ x ∷ []) → length xs ≤ i → slice_index (xs ++ x ∷ []) i ≡ x
put-last xs x i below new = let l = length-append xs (x ∷ []) in get_or_at xs x [] 0 i (omega (arith, l))

-- one that was not met is opened: the first of all, or the next read of the last open one
pub opened : (reads : List (List ℕ)) (stage stack order : List ℕ) (x : ℕ) → Walk reads stage stack order → x < length reads → slice_index stage x ≡ 0
    → ((i : ℕ) → i + 1 ≡ length stack → (slice_index stage (slice_index stack i) ≤ size reads (slice_index stack i))
    × (slice_index (row_at reads (slice_index stack i)) (slice_index stage (slice_index stack i) - 1) ≡ x))
    → Walk reads (set stage x 1) (stack ++ x ∷ []) order
opened reads stage stack order x w within white top = record {
  long = length-set stage x 1 ∙ w.long;
  finished = λ v d. ⊎_elim
      (λ (e : v ≡ x). let one = own-stage stage x 1 (omega (arith, w.long, within)) in let l = d.last in absurd (last-not v e l one))
      (λ (o : v ≡ x → ⊥). w.finished v (was-done reads stage x 1 v o d))
      (cases_eq v x);
  placed = λ p below. still-done reads stage x 1 (slice_index order p) unplaced (w.placed p below);
  once = w.once;
  earlier = w.earlier;
  open' = λ i below. ⊎_elim (λ old. old-open i old) (λ new. new-open i below new) (cases_lt i (length stack));
  passed = λ i k below under. ⊎_elim (λ old. old-passed i k old under) (λ new. new-passed i k below new under) (cases_lt i (length stack));
  linked = λ i below. ⊎_elim (λ old. old-linked i old) (λ new. new-linked i below new) (cases_lt (i + 1) (length stack));
  apart = λ i j less below. ⊎_elim (λ old. old-apart i j less old) (λ new. new-apart i j less below new) (cases_lt j (length stack));
}
  where
    last-not : (v : ℕ) → v ≡ x → slice_index (set stage x 1) v ≡ size reads v + 2 → slice_index (set stage x 1) x ≡ 1 → ⊥
    last-not v e l one = let l' = subst (λ u. slice_index (set stage x 1) u ≡ size reads u + 2) e l in omega (arith, l', one)

    unplaced : slice_index stage x ≢ size reads x + 2
    unplaced e = omega (arith, e, white)

    not-x : (i : ℕ) → i < length stack → slice_index stack i ≢ x
    not-x i old e = let o = w.open' i old in let p = subst (λ u. 1 ≤ slice_index stage u) e o.1 in omega (arith, p, white)

    same : (i : ℕ) → i < length stack → slice_index (set stage x 1) (slice_index stack i) ≡ slice_index stage (slice_index stack i)
    same i old = other-stage stage x 1 (slice_index stack i) (not-x i old)

    old-open : (i : ℕ) → i < length stack → (slice_index (stack ++ x ∷ []) i < length reads)
        × (1 ≤ slice_index (set stage x 1) (slice_index (stack ++ x ∷ []) i))
        × (slice_index (set stage x 1) (slice_index (stack ++ x ∷ []) i)
        ≤ size reads (slice_index (stack ++ x ∷ []) i) + 1)
    old-open i old = rw (still-there stack x i old, same i old) (w.open' i old)

    new-open : (i : ℕ) → i < length (stack ++ x ∷ []) → length stack ≤ i
        → (slice_index (stack ++ x ∷ []) i < length reads)
        × (1 ≤ slice_index (set stage x 1) (slice_index (stack ++ x ∷ []) i))
        × (slice_index (set stage x 1) (slice_index (stack ++ x ∷ []) i)
        ≤ size reads (slice_index (stack ++ x ∷ []) i) + 1)
    new-open i below new = rw (put-last stack x i below new, own-stage stage x 1 (omega (arith, w.long, within))) (within, omega arith, omega arith)

    old-passed : (i k : ℕ) → i < length stack
        → k + 1 < slice_index (set stage x 1) (slice_index (stack ++ x ∷ []) i)
        → Done reads (set stage x 1) (slice_index (row_at reads (slice_index (stack ++ x ∷ []) i)) k)
    old-passed i k old under =
        let u = subst (λ n. k + 1 < n) (ap (slice_index (set stage x 1)) (still-there stack x i old) ∙ same i old) under in
        rw (still-there stack x i old) (still-done reads stage x 1 (slice_index (row_at reads (slice_index stack i)) k) unplaced (w.passed i k old u))

    new-passed : (i k : ℕ) → i < length (stack ++ x ∷ []) → length stack ≤ i
        → k + 1 < slice_index (set stage x 1) (slice_index (stack ++ x ∷ []) i)
        → Done reads (set stage x 1) (slice_index (row_at reads (slice_index (stack ++ x ∷ []) i)) k)
    new-passed i k below new under =
        let u = subst (λ n. k + 1 < n) (ap (slice_index (set stage x 1)) (put-last stack x i below new) ∙ own-stage stage x 1 (omega (arith, w.long, within))) under in
        absurd (omega (arith, u))

    old-linked : (i : ℕ) → i + 1 < length stack → (slice_index (set stage x 1) (slice_index (stack ++ x ∷ []) i) ≤ size reads (slice_index (stack ++ x ∷ []) i))
        × (slice_index (row_at reads (slice_index (stack ++ x ∷ []) i)) (slice_index (set stage x 1) (slice_index (stack ++ x ∷ []) i) - 1) ≡ slice_index (stack ++ x ∷ []) (i + 1))
    old-linked i old = rw (still-there stack x i (omega arith), same i (omega arith), still-there stack x (i + 1) old) (w.linked i old)

    new-linked : (i : ℕ) → i + 1 < length (stack ++ x ∷ []) → length stack ≤ i + 1 → (slice_index (set stage x 1) (slice_index (stack ++ x ∷ []) i) ≤ size reads (slice_index (stack ++ x ∷ []) i))
        × (slice_index (row_at reads (slice_index (stack ++ x ∷ []) i)) (slice_index (set stage x 1) (slice_index (stack ++ x ∷ []) i) - 1) ≡ slice_index (stack ++ x ∷ []) (i + 1))
    new-linked i below new =
        let l = length-append stack (x ∷ []) in
        let e : i + 1 ≡ length stack = omega (arith, l) in
        rw (still-there stack x i (omega arith), same i (omega arith), put-last stack x (i + 1) below new) (top i e)

    old-apart : (i j : ℕ) → i < j → j < length stack → slice_index (stack ++ x ∷ []) i ≢ slice_index (stack ++ x ∷ []) j
    old-apart i j less old = rw (still-there stack x i (omega arith), still-there stack x j old) (w.apart i j less old)

    new-apart : (i j : ℕ) → i < j → j < length (stack ++ x ∷ []) → length stack ≤ j → slice_index (stack ++ x ∷ []) i ≢ slice_index (stack ++ x ∷ []) j
    new-apart i j less below new =
        let l = length-append stack (x ∷ []) in
        rw (still-there stack x i (omega (arith, l)), put-last stack x j below new) (not-x i (omega (arith, l)))

-- the last open one passes a read that is placed
pub advanced : (reads : List (List ℕ)) (stage stack order : List ℕ) (top v : ℕ) → Walk reads stage stack order → top + 1 ≡ length stack → slice_index stack top ≡ v
    → slice_index stage v ≤ size reads v → Done reads stage (slice_index (row_at reads v) (slice_index stage v - 1))
    → Walk reads (set stage v (slice_index stage v + 1)) stack order
advanced reads stage stack order top v w end is room seen = record {
  long = length-set stage v next' ∙ w.long;
  finished = λ u d. ⊎_elim
      (λ (e : u ≡ v). absurd (last-not u e d.last))
      (λ (o : u ≡ v → ⊥). w.finished u (was-done reads stage v next' u o d))
      (cases_eq u v);
  placed = λ p below. still-done reads stage v next' (slice_index order p) unplaced (w.placed p below);
  once = w.once;
  earlier = w.earlier;
  open' = λ i below. ⊎_elim (λ old. rw (same i old) (w.open' i below)) (λ new. new-open i (at-top i below new)) (cases_lt i top);
  passed = λ i k below under. ⊎_elim
      (λ old. still-done reads stage v next' _ unplaced (w.passed i k below (subst (λ n. k + 1 < n) (same i old) under)))
      (λ new. new-passed i k (at-top i below new) under)
      (cases_lt i top);
  linked = λ i below. rw (same i (omega (arith, end))) (w.linked i below);
  apart = w.apart;
}
  where
    next' : ℕ
    next' = slice_index stage v + 1

    low : v < length reads
    low = let o = w.open' top (omega (arith, end)) in subst (λ u. u < length reads) is o.0

    own : slice_index (set stage v (slice_index stage v + 1)) v ≡ slice_index stage v + 1
    own = own-stage stage v (slice_index stage v + 1) (let l = w.long in let b = low in omega (arith, l, b))

    some : 1 ≤ slice_index stage v
    some = let o = w.open' top (omega (arith, end)) in subst (λ u. 1 ≤ slice_index stage u) is o.1

    unplaced : slice_index stage v ≢ size reads v + 2
    unplaced e = omega (arith, e, room)

    last-not : (u : ℕ) → u ≡ v → slice_index (set stage v (slice_index stage v + 1)) u ≡ size reads u + 2 → ⊥
    last-not u e l = let l' = subst (λ u. slice_index (set stage v (slice_index stage v + 1)) u ≡ size reads u + 2) e l in let o = own in omega (arith, l', o, room)

    not-v : (i : ℕ) → i < top → slice_index stack i ≢ v
    not-v i less e = w.apart i top less (omega (arith, end)) (e ∙ sym is)

    same : (i : ℕ) → i < top → slice_index (set stage v (slice_index stage v + 1)) (slice_index stack i) ≡ slice_index stage (slice_index stack i)
    same i less = other-stage stage v (slice_index stage v + 1) (slice_index stack i) (not-v i less)

    at-top : (i : ℕ) → i < length stack → top ≤ i → slice_index stack i ≡ v
    at-top i below over = let e : i ≡ top = omega (arith, end) in ap (slice_index stack) e ∙ is

    new-open : (i : ℕ) → slice_index stack i ≡ v
        → (slice_index stack i < length reads)
        × (1 ≤ slice_index (set stage v (slice_index stage v + 1)) (slice_index stack i))
        × (slice_index (set stage v (slice_index stage v + 1)) (slice_index stack i)
        ≤ size reads (slice_index stack i) + 1)
    new-open i e = rw (e, own) (low, omega arith, omega (arith, room))

    new-passed : (i k : ℕ) → slice_index stack i ≡ v
        → k + 1 < slice_index (set stage v (slice_index stage v + 1)) (slice_index stack i)
        → Done reads (set stage v (slice_index stage v + 1))
        (slice_index (row_at reads (slice_index stack i)) k)
    new-passed i k e under =
        let u : k + 1 < slice_index stage v + 1 = subst (λ n. k + 1 < n) (ap (slice_index (set stage v (slice_index stage v + 1))) e ∙ own) under in
        rw e (still-done reads stage v (slice_index stage v + 1) (slice_index (row_at reads v) k) unplaced (⊎_elim
        (λ old. subst (λ t. Done reads stage (slice_index (row_at reads t) k)) is (w.passed top k (omega (arith, end)) (subst (λ t. k + 1 < slice_index stage t) (sym is) old)))
        (λ new. let at : slice_index stage v - 1 ≡ k = omega (arith, u, new) in subst (λ j. Done reads stage (slice_index (row_at reads v) j)) at seen)
        (cases_lt (k + 1) (slice_index stage v))))

-- the last open one is placed, when all that it reads is
pub closed : (reads : List (List ℕ)) (stage rest order : List ℕ) (v : ℕ) → Walk reads stage (rest ++ v ∷ []) order → slice_index stage v ≡ size reads v + 1
    → Walk reads (set stage v (size reads v + 2)) rest (order ++ v ∷ [])
closed reads stage rest order v w full = record {
  long = length-set stage v (size reads v + 2) ∙ w.long;
  finished = λ u d. ⊎_elim
      (λ (e : u ≡ v). subst (λ u. Contains (order ++ v ∷ []) u) (sym e) (Contains-push order v))
      (λ (o : u ≡ v → ⊥). Contains-append_left order (v ∷ []) u (w.finished u (was-done reads stage v (size reads v + 2) u o d)))
      (cases_eq u v);
  placed = λ p below. ⊎_elim
      (λ old. rw (still-there order v p old) (still-done reads stage v (size reads v + 2) (slice_index order p) unplaced (w.placed p old)))
      (λ new. rw (put-last order v p below new) (record { within = low; last = own }))
      (cases_lt p (length order));
  once = λ p q less below. ⊎_elim (λ old e. w.once p q less old
      (sym (still-there order v p (omega arith)) ∙ e ∙ still-there order v q old))
      (λ new. new-once p q less below new) (cases_lt q (length order));
  earlier = λ p k below under. ⊎_elim (λ old. old-earlier p k old under) (λ new. new-earlier p k below new under) (cases_lt p (length order));
  open' = λ i below. rw (same i below) (subst (λ u. (u < length reads) × (1 ≤ slice_index stage u) × (slice_index stage u ≤ size reads u + 1)) (front i below) (w.open' i (longer i below)));
  passed = λ i k below under. still-done reads stage v (size reads v + 2) (slice_index (row_at reads (slice_index rest i)) k) unplaced
      (subst (λ u. Done reads stage (slice_index (row_at reads u) k)) (front i below)
      (w.passed i k (longer i below) (subst (λ u. k + 1 < slice_index stage u) (sym (front i below)) (subst (λ n. k + 1 < n) (same i below) under))));
  linked = λ i below. old-linked i below;
  apart = λ i j less below. old-apart i j less below;
}
  where
    size-rest : length (rest ++ v ∷ []) ≡ length rest + 1
    size-rest = length-append rest (v ∷ [])

    longer : (i : ℕ) → i < length rest → i < length (rest ++ v ∷ [])
    longer i below = let l = size-rest in omega (arith, l)

    front : (i : ℕ) → i < length rest → slice_index (rest ++ v ∷ []) i ≡ slice_index rest i
    front i below = get_or_append_left rest (v ∷ []) 0 i below

    back : slice_index (rest ++ v ∷ []) (length rest) ≡ v
    back = get_or_at rest v [] 0 (length rest) refl

    low : v < length reads
    low = let o = w.open' (length rest) (let l = size-rest in omega (arith, l)) in subst (λ u. u < length reads) back o.0

    own : slice_index (set stage v (size reads v + 2)) v ≡ size reads v + 2
    own = own-stage stage v (size reads v + 2) (let l = w.long in let b = low in omega (arith, l, b))

    unplaced : slice_index stage v ≢ size reads v + 2
    unplaced e = omega (arith, e, full)

    not-v : (i : ℕ) → i < length rest → slice_index rest i ≢ v
    not-v i below e = w.apart i (length rest) below (let l = size-rest in omega (arith, l)) (front i below ∙ e ∙ sym back)

    same : (i : ℕ) → i < length rest → slice_index (set stage v (size reads v + 2)) (slice_index rest i) ≡ slice_index stage (slice_index rest i)
    same i below = other-stage stage v (size reads v + 2) (slice_index rest i) (not-v i below)

    old-earlier : (p k : ℕ) → p < length order → k < size reads (slice_index (order ++ v ∷ []) p)
        → (q : ℕ) × (q < p)
        × (slice_index (order ++ v ∷ []) q ≡ slice_index (row_at reads (slice_index (order ++ v ∷ []) p)) k)
    old-earlier p k old under =
        let e = w.earlier p k old (subst (λ u. k < size reads u) (still-there order v p old) under) in
        let b : e.0 < length order = let s = e.1 in omega (arith, s) in
        (e.0, e.1, still-there order v e.0 b ∙ e.2 ∙ ap (λ u. slice_index (row_at reads u) k) (sym (still-there order v p old)))

    new-earlier : (p k : ℕ) → p < length (order ++ v ∷ []) → length order ≤ p
        → k < size reads (slice_index (order ++ v ∷ []) p)
        → (q : ℕ) × (q < p) × (slice_index (order ++ v ∷ []) q
        ≡ slice_index (row_at reads (slice_index (order ++ v ∷ []) p)) k)
    new-earlier p k below new under =
        let u : k < size reads v = subst (λ u. k < size reads u) (put-last order v p below new) under in
        let d0 = w.passed (length rest) k (let l = size-rest in omega (arith, l)) (subst (λ t. k + 1 < slice_index stage t) (sym back) (omega (arith, u, full))) in
        let d : Done reads stage (slice_index (row_at reads v) k) = subst (λ t. Done reads stage (slice_index (row_at reads t) k)) back d0 in
        let at = w.finished (slice_index (row_at reads v) k) d in
        let zero-read : slice_index order at.0 ≡ slice_index (row_at reads v) k = get_or_default order at.0 0 (slice_index (row_at reads v) k) at.1 ∙ at.2 in
        (at.0, (let s = at.1 in omega (arith, s)), still-there order v at.0 at.1 ∙ zero-read ∙ ap (λ t. slice_index (row_at reads t) k) (sym (put-last order v p below new)))

    old-linked : (i : ℕ) → i + 1 < length rest → (slice_index (set stage v (size reads v + 2)) (slice_index rest i) ≤ size reads (slice_index rest i))
        × (slice_index (row_at reads (slice_index rest i)) (slice_index (set stage v (size reads v + 2)) (slice_index rest i) - 1) ≡ slice_index rest (i + 1))
    old-linked i below =
        let h = w.linked i (longer (i + 1) below) in
        rw (same i (omega arith)) (subst (λ u. (slice_index stage u ≤ size reads u) × (slice_index (row_at reads u) (slice_index stage u - 1) ≡ slice_index rest (i + 1))) (front i (omega arith))
        (h.0, h.1 ∙ front (i + 1) below))

    old-apart : (i j : ℕ) → i < j → j < length rest → slice_index rest i ≢ slice_index rest j
    old-apart i j less below e = w.apart i j less (longer j below) (front i (omega arith) ∙ e ∙ sym (front j below))

    new-once : (p q : ℕ) → p < q → q < length (order ++ v ∷ []) → length order ≤ q → slice_index (order ++ v ∷ []) p ≢ slice_index (order ++ v ∷ []) q
    new-once p q less below new e =
        let l = length-append order (v ∷ []) in
        let old : p < length order = omega (arith, l) in
        let same-v : slice_index order p ≡ v = sym (still-there order v p old) ∙ e ∙ put-last order v q below new in
        unplaced (sym (ap (slice_index stage) same-v) ∙ (w.placed p old).last ∙ ap (λ u. size reads u + 2) same-v)

-- nothing is open at the start, and all are white
pub begun : (reads : List (List ℕ)) (stage : List ℕ) → length stage ≡ length reads → ((v : ℕ) → v < length reads → slice_index stage v ≡ 0) → Walk reads stage [] []
begun reads stage long white = record {
  long = long;
  finished = λ v d. let z = white v d.within in let l = d.last in absurd (omega (arith, z, l));
  placed = λ p below. absurd (omega arith);
  once = λ p q less below. absurd (omega arith);
  earlier = λ p k below under. absurd (omega arith);
  open' = λ i below. absurd (omega arith);
  passed = λ i k below under. absurd (omega arith);
  linked = λ i below. absurd (omega arith);
  apart = λ i j less below. absurd (omega arith);
}

-- when all are placed, that is an order
pub ordered : (reads : List (List ℕ)) (stage order : List ℕ) → Walk reads stage [] order → ((v : ℕ) → v < length reads → Done reads stage v) → IsOrder reads order
ordered reads stage order w all = record { each = λ v below. w.finished v (all v below); within = λ p below. (w.placed p below).within; once = w.once; earlier = w.earlier }

-- the last open one reads one that is open: a cycle, from that one on
pub cycle-found : (reads : List (List ℕ)) (stage stack order : List ℕ) (top at : ℕ) → Walk reads stage stack order → top + 1 ≡ length stack → at ≤ top
    → slice_index stage (slice_index stack top) ≤ size reads (slice_index stack top)
    → slice_index (row_at reads (slice_index stack top)) (slice_index stage (slice_index stack top) - 1) ≡ slice_index stack at
    → IsCycle reads (drop at stack)
cycle-found reads stage stack order top at w end low room reads-it = record {
  some = let l = long in omega (arith, l, end);
  within = λ i below. rw (here i) (w.open' (at + i) (inside i below)).0;
  reads_next = λ i below. subst (λ n. Contains (row_at reads (slice_index (drop at stack) i)) (slice_index (drop at stack) ((i + 1) % n))) (sym long) (next i below);
  apart = λ i j less below. rw (here i, here j) (w.apart (at + i) (at + j) (omega arith) (inside j below));
}
  where
    long : length (drop at stack) ≡ length stack - at
    long = length-drop at stack

    here : (i : ℕ) → slice_index (drop at stack) i ≡ slice_index stack (at + i)
    here i = get_or-drop at stack i 0

    inside : (i : ℕ) → i < length (drop at stack) → at + i < length stack
    inside i below = let l = long in omega (arith, l)

    read : (i : ℕ) → i < length stack → slice_index stage (slice_index stack i) ≤ size reads (slice_index stack i)
        → Contains (row_at reads (slice_index stack i))
        (slice_index (row_at reads (slice_index stack i)) (slice_index stage (slice_index stack i) - 1))
    read i below fits = let o = (w.open' i below).1 in Contains-get_or (row_at reads (slice_index stack i)) (slice_index stage (slice_index stack i) - 1) 0 (omega (arith, o, fits))

    next : (i : ℕ) → i < length (drop at stack) → Contains (row_at reads (slice_index (drop at stack) i)) (slice_index (drop at stack) ((i + 1) % (length stack - at)))
    next i below = ⊎_elim
        (λ less.
        let h = w.linked (at + i) (let l = long in omega (arith, l, less)) in
        let m : (i + 1) % (length stack - at) ≡ i + 1 = mod-eq_of_lt less in
        let j : at + (i + 1) ≡ at + i + 1 = omega arith in
        rw (here i) (subst (λ x. Contains (row_at reads (slice_index stack (at + i))) x)
        (h.1 ∙ ap (slice_index stack) (sym j) ∙ sym (here (i + 1)) ∙ ap (slice_index (drop at stack)) (sym m))
        (read (at + i) (inside i below) h.0)))
        (λ more.
        let b = inside i below in
        let e : i + 1 ≡ length stack - at = let l = long in omega (arith, l, b, more) in
        let t : at + i ≡ top = omega (arith, e, end, low) in
        let m : (i + 1) % (length stack - at) ≡ 0 = ap (λ n. n % (length stack - at)) e ∙ mod_self (length stack - at) in
        let z : at + 0 ≡ at = omega arith in
        rw (here i, t) (subst (λ x. Contains (row_at reads (slice_index stack top)) x)
        (reads-it ∙ ap (slice_index stack) (sym z) ∙ sym (here 0) ∙ ap (slice_index (drop at stack)) (sym m))
        (read top (omega (arith, end)) room)))
        (cases_lt (i + 1) (length stack - at))
