-- One turn of a search in depth: the last open number opens the next that it reads, passes it, is placed, or
-- closes a cycle.
use Rattle.std.proofs.Common.{◌≡◌, ◌≢◌, ◌<◌, ◌≤◌, ◌+◌, ◌-◌, inl, inr, ⊎_elim, ℕ, List, [], ◌∷◌, ◌++◌, length, set, drop, take, Contains, slice_index, slice_index_or, refl, sym, ap, subst, ◌∙◌, arith}
use Rattle.std.proofs.lemmas.List.{length-append, get_or_at, get_or_default, take_all, take_more}
use Rattle.std.proofs.lemmas.List.Elements.{Contains-append_left, Contains-push, Contains-push_cases, Contains-get_or}
use Rattle.std.proofs.lemmas.Bool.{cases_eq}
use Rattle.vl_check.specs.inner.Order.{IsCycle}
use Rattle.fx_io.specs.Rows.{row_at}
use Rattle.vl_check.specs.inner.Walks.{size, Done, Walk, State, IsStep}
use Rattle.vl_check.proofs.Stages.{still-done, own-stage, total-set, higher-by-one, most-by-one, met-before}
use Rattle.vl_check.proofs.DepthSearch.{opened, advanced, closed, cycle-found}

last-or-front : (rest : List ℕ) (v u : ℕ) → u ≢ v → Contains (rest ++ v ∷ []) u → Contains rest u
last-or-front rest v u other c = ⊎_elim (λ l. l) (λ e. absurd (other (sym e))) (Contains-push_cases rest v u c)

module _ (reads : List (List ℕ)) (stage order : List ℕ) where
  pub turn-open : (stack : List ℕ) (x : ℕ) → State reads stage stack order → x < length reads → slice_index stage x ≡ 0
      → ((i : ℕ) → i + 1 ≡ length stack → (slice_index stage (slice_index stack i)
      ≤ size reads (slice_index stack i))
      × (slice_index (row_at reads (slice_index stack i)) (slice_index stage (slice_index stack i) - 1)
      ≡ x))
      → State reads (set stage x (slice_index stage x + 1)) (stack ++ x ∷ []) order
  turn-open stack x s within white top =
      let one : slice_index stage x + 1 ≡ 1 = omega (arith, white) in
      let long = s.walk.long in
      let low : x < length stage = omega (arith, long, within) in
      record {
        walk = subst (λ y. Walk reads (set stage x y) (stack ++ x ∷ []) order) (sym one) (opened reads stage stack order x s.walk within white top);
        most = most-by-one reads stage x low (omega (arith, white)) s.most;
        met = λ u below h. ⊎_elim
            (λ (e : u ≡ x). inl (subst (λ w. Contains (stack ++ x ∷ []) w) (sym e) (Contains-push stack x)))
            (λ (o : u ≡ x → ⊥). ⊎_elim (λ c. inl (Contains-append_left stack (x ∷ []) u c))
            (λ d. inr (still-done reads stage x (slice_index stage x + 1) u (λ e. omega (arith, e, white)) d))
            (s.met u below (met-before stage x u o h)))
            (cases_eq u x);
      }

  pub turn-pass : (stack : List ℕ) (top v : ℕ) → State reads stage stack order → top + 1 ≡ length stack → slice_index stack top ≡ v
      → slice_index stage v ≤ size reads v → Done reads stage (slice_index (row_at reads v) (slice_index stage v - 1))
      → State reads (set stage v (slice_index stage v + 1)) stack order
  turn-pass stack top v s end is room seen =
      let o = s.walk.open' top (omega (arith, end)) in
      let within : v < length reads = subst (λ u. u < length reads) is o.0 in
      let long = s.walk.long in
      let low : v < length stage = omega (arith, long, within) in
      record {
        walk = advanced reads stage stack order top v s.walk end is room seen;
        most = most-by-one reads stage v low (omega (arith, room)) s.most;
        met = λ u below h. ⊎_elim
            (λ (e : u ≡ v). inl (subst (λ w. Contains stack w) (is ∙ sym e) (Contains-get_or stack top 0 (omega (arith, end)))))
            (λ (o : u ≡ v → ⊥). ⊎_elim (λ c. inl c) (λ d. inr (still-done reads stage v (slice_index stage v + 1) u (λ e. omega (arith, e, room)) d)) (s.met u below (met-before stage v u o h)))
            (cases_eq u v);
      }

  pub turn-close : (rest : List ℕ) (v : ℕ) → State reads stage (rest ++ v ∷ []) order → slice_index stage v ≡ size reads v + 1
      → State reads (set stage v (slice_index stage v + 1)) rest (order ++ v ∷ [])
  turn-close rest v s full =
      let back : slice_index (rest ++ v ∷ []) (length rest) ≡ v = get_or_at rest v [] 0 (length rest) refl in
      let count = length-append rest (v ∷ []) in
      let o = s.walk.open' (length rest) (omega (arith, count)) in
      let within : v < length reads = subst (λ u. u < length reads) back o.0 in
      let long = s.walk.long in
      let low : v < length stage = omega (arith, long, within) in
      let next : slice_index stage v + 1 ≡ size reads v + 2 = omega (arith, full) in
      record {
        walk = subst (λ y. Walk reads (set stage v y) rest (order ++ v ∷ [])) (sym next) (closed reads stage rest order v s.walk full);
        most = most-by-one reads stage v low (omega (arith, full)) s.most;
        met = λ u below h. ⊎_elim
            (λ (e : u ≡ v). inr (record {
              within = below;
              last =
                  subst (λ w. slice_index (set stage v (slice_index stage v + 1)) w ≡ size reads w + 2) (sym e)
                  (own-stage stage v (slice_index stage v + 1) low ∙ next);
            }))
            (λ (o : u ≡ v → ⊥). ⊎_elim (λ c. inl (last-or-front rest v u o c))
            (λ d. inr (still-done reads stage v (slice_index stage v + 1) u (λ e. omega (arith, e, full)) d))
            (s.met u below (met-before stage v u o h)))
            (cases_eq u v);
      }

-- the last open number
pub record Top (reads : List (List ℕ)) (stage stack : List ℕ) (v : ℕ) : Type 0 where
  pub within : v < length reads
  pub some : 1 ≤ slice_index stage v
  pub room : slice_index stage v ≤ size reads v + 1
  pub low : v < length stage

pub top-is : (reads : List (List ℕ)) (stage stack order : List ℕ) (v : ℕ) → State reads stage stack order → 0 < length stack → v ≡ slice_index stack (length stack - 1) → Top reads stage stack v
top-is reads stage stack order v s some is =
    let o = subst (λ u. (u < length reads) × (1 ≤ slice_index stage u) × (slice_index stage u ≤ size reads u + 1)) (sym is) (s.walk.open' (length stack - 1) (omega arith)) in
    let long = s.walk.long in
    let b = o.0 in
    record { within = o.0; some = o.1; room = o.2; low = omega (arith, long, b) }

cut-last : (stack : List ℕ) → 0 < length stack → stack ≡ take (length stack - 1) stack ++ slice_index stack (length stack - 1) ∷ []
cut-last stack some =
    let whole = take_all (length stack) stack (omega arith) in
    let e : length stack - 1 + 1 ≡ length stack = omega arith in
    sym whole ∙ ap (λ n. take n stack) (sym e) ∙ take_more stack (length stack - 1) 0 (omega arith)

pub step-close : (reads : List (List ℕ)) (stage stack order rest order' : List ℕ) (v : ℕ) → State reads stage stack order → 0 < length stack → v ≡ slice_index stack (length stack - 1)
    → size reads v < slice_index stage v → rest ≡ take (length stack - 1) stack → order' ≡ order ++ v ∷ [] → IsStep reads stage (set stage v (slice_index stage v + 1)) rest order'
step-close reads stage stack order rest order' v s some is full cut grown =
    let t = top-is reads stage stack order v s some is in
    let room = t.room in
    let shape : stack ≡ rest ++ v ∷ [] = cut-last stack some ∙ (λ i. sym cut i ++ sym is i ∷ []) in
    record {
      state = subst (λ o. State reads (set stage v (slice_index stage v + 1)) rest o) (sym grown)
          (turn-close reads stage order rest v (subst (λ st. State reads stage st order) shape s)
          (omega (arith, room, full)));
      more = total-set stage v t.low;
      higher = λ u. higher-by-one stage v u t.low;
    }

pub step-open : (reads : List (List ℕ)) (stage stack order stack' : List ℕ) (v x : ℕ) → State reads stage stack order → 0 < length stack → v ≡ slice_index stack (length stack - 1)
    → slice_index stage v ≤ size reads v → x ≡ slice_index (row_at reads v) (slice_index stage v - 1) → x < length reads → slice_index stage x ≡ 0 → stack' ≡ stack ++ x ∷ []
    → IsStep reads stage (set stage x (slice_index stage x + 1)) stack' order
step-open reads stage stack order stack' v x s some is room read within white grown =
    let long = s.walk.long in
    let low : x < length stage = omega (arith, long, within) in
    record {
      state = subst (λ st. State reads (set stage x (slice_index stage x + 1)) st order) (sym grown) (turn-open reads stage order stack x s within white (λ i e.
          let here : slice_index stack i ≡ v = ap (slice_index stack) (last-place i e) ∙ sym is in
          rw here (room, sym read)));
      more = total-set stage x low;
      higher = λ u. higher-by-one stage x u low;
    }
  where
    last-place : (i : ℕ) → i + 1 ≡ length stack → i ≡ length stack - 1
    last-place i e = omega (arith, e)

pub step-pass : (reads : List (List ℕ)) (stage stack order : List ℕ) (v x : ℕ) → State reads stage stack order → 0 < length stack → v ≡ slice_index stack (length stack - 1)
    → slice_index stage v ≤ size reads v → x ≡ slice_index (row_at reads v) (slice_index stage v - 1) → x < length reads → slice_index stage x ≡ size reads x + 2
    → IsStep reads stage (set stage v (slice_index stage v + 1)) stack order
step-pass reads stage stack order v x s some is room read within done =
    let t = top-is reads stage stack order v s some is in
    record {
      state = turn-pass reads stage order stack (length stack - 1) v s (omega arith) (sym is) room (subst (λ y. Done reads stage y) read (record { within = within; last = done }));
      more = total-set stage v t.low;
      higher = λ u. higher-by-one stage v u t.low;
    }

pub step-cycle : (reads : List (List ℕ)) (stage stack order : List ℕ) (v x at : ℕ) → State reads stage stack order → 0 < length stack → v ≡ slice_index stack (length stack - 1)
    → slice_index stage v ≤ size reads v → x ≡ slice_index (row_at reads v) (slice_index stage v - 1) → at < length stack → slice_index stack at ≡ x
    → (at ≤ length stack) × IsCycle reads (drop at stack)
step-cycle reads stage stack order v x at s some is room read low found =
    let r : slice_index stage (slice_index stack (length stack - 1)) ≤ size reads (slice_index stack (length stack - 1)) = subst (λ u. slice_index stage u ≤ size reads u) is room in
    let reads-it : slice_index (row_at reads (slice_index stack (length stack - 1))) (slice_index stage (slice_index stack (length stack - 1)) - 1) ≡ slice_index stack at =
    subst (λ u. slice_index (row_at reads u) (slice_index stage u - 1) ≡ slice_index stack at) is (sym read ∙ sym found) in
    (omega arith, cycle-found reads stage stack order (length stack - 1) at s.walk (omega arith) (omega arith) r reads-it)

pub last-is : (stack : List ℕ) (n v : ℕ) → n ≡ length stack → 0 < length stack → v ≡ slice_index_or stack (n - 1) v → v ≡ slice_index stack (length stack - 1)
last-is stack n v e some is = is ∙ get_or_default stack (n - 1) v 0 (omega (arith, e)) ∙ ap (λ k. slice_index stack (k - 1)) e

-- a search that begins
pub begun-with : (reads : List (List ℕ)) (stage order : List ℕ) (root : ℕ) → State reads stage [] order → root < length reads → slice_index stage root ≡ 0
    → State reads (set stage root 1) (root ∷ []) order × (1 ≤ slice_index (set stage root 1) root) × ((v : ℕ) → slice_index stage v ≤ slice_index (set stage root 1) v)
begun-with reads stage order root s within white =
    let long = s.walk.long in
    let low : root < length stage = omega (arith, long, within) in
    let one : slice_index stage root + 1 ≡ 1 = omega (arith, white) in
    let own = own-stage stage root 1 low in (
      subst (λ y. State reads (set stage root y) (root ∷ []) order) one (turn-open reads stage order [] root s within white (λ i e. absurd (omega (arith, e)))),
      omega (arith, own),
      λ v. subst (λ y. slice_index stage v ≤ slice_index (set stage root y) v) one (higher-by-one stage root v low),
    )

pub none-left : (xs : List ℕ) → length xs ≡ 0 → xs ≡ []
none-left [] e = refl
none-left (x ∷ xs) e = absurd (omega (arith, e))
