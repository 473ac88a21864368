-- Each element of each shared block stands once among the shared operations.
use Rattle.std.proofs.Common.{◌≡◌, ℕ, zero, suc, ◌+◌, ◌<◌, ◌≤◌, ◌⊎◌, inl, inr, Bool, true, false, cond, List, [], ◌∷◌, ◌++◌, map, filter, length, Some, ap, sym, ◌∙◌, subst, refl, arith}
use Rattle.std.specs.Prelude.{slice_get}
use Rattle.std.specs.List.{flat_map}
use Rattle.std.proofs.lemmas.Option.{none-some, same_Some}
use Rattle.math_list.specs.Numbers.{numbers_from}
use Rattle.dg_model.specs.declared.diagram.Diagram.{Diagram}
use Rattle.dg_model.specs.declared.resolved.Resolved.{Resolved}
use Rattle.dg_model.specs.Signals.{Attributes}
use Rattle.hw_latency.specs.Shared.{is_shared}
use Rattle.hw_sched.specs.Slots.{Operation, operation, operations_of}
use Rattle.hw_sched.specs.Laws.{IsOperation}

-- an element of two lists one behind the other, by its place
pub record IsPast {A : Type 0} (xs ys : List A) (k : ℕ) (x : A) : Type 0 where
  pub place : ℕ
  pub is : k ≡ length xs + place
  pub at : slice_get ys place ≡ Some x

pub where_in : {A : Type 0} (xs ys : List A) (k : ℕ) (x : A) → slice_get (xs ++ ys) k ≡ Some x → (slice_get xs k ≡ Some x) ⊎ IsPast xs ys k x
where_in [] ys k x at = inr (record { place = k; is = omega arith; at = at })
where_in (y ∷ xs) ys zero x at = inl at
where_in (y ∷ xs) ys (suc k) x at = elim (where_in xs ys k x at) [
  | inl here ↦ inl here
  | inr past ↦ inr (record { place = past.place; is = let e = past.is in omega (arith, e); at = past.at })
]

-- an element of a block
pub record IsElementAt (place from k : ℕ) (o : Operation) : Type 0 where
  pub block : o.block ≡ place
  pub element : o.element ≡ from + k

element_at : (place from n k : ℕ) (o : Operation) → slice_get (map (operation place) (numbers_from from n)) k ≡ Some o → IsElementAt place from k o
element_at place from zero k o at = absurd (none-some o at)
element_at place from (suc n) zero o at =
    let same : ◌≡◌ {A = Operation} (operation place from) o = same_Some (operation place from) o at in
    let e = ap (λ (x : Operation). x.element) same in
    record { block = sym (ap (λ (x : Operation). x.block) same); element = omega (arith, e) }
element_at place from (suc n) (suc k) o at =
    let later = element_at place (suc from) n k o at in
    let e = later.element in
    record { block = later.block; element = omega (arith, e) }

element_below : (place from n k : ℕ) (o : Operation) → slice_get (map (operation place) (numbers_from from n)) k ≡ Some o → k < n
element_below place from zero k o at = absurd (none-some o at)
element_below place from (suc n) zero o at = omega arith
element_below place from (suc n) (suc k) o at = let more = element_below place (suc from) n k o at in omega (arith, more)

pub element_there : (place from n k : ℕ) → k < n → slice_get (map (operation place) (numbers_from from n)) k ≡ Some (operation place (from + k))
element_there place from zero k below = absurd (omega (arith, below))
element_there place from (suc n) zero below = ap (λ (x : ℕ). Some (operation place x)) (omega arith)
element_there place from (suc n) (suc k) below = element_there place (suc from) n k (omega (arith, below)) ∙ ap (λ (x : ℕ). Some (operation place x)) (omega arith)

-- what a shared operation is
pub record IsOfShared (diagram : Diagram) (attributes : Attributes) (plan : Resolved) (o : Operation) : Type 0 where
  pub there : o.block < length diagram.blocks
  pub shared : is_shared diagram attributes plan o.block ≡ true
  pub element : o.element < attributes.width_at o.block 1

module _ (diagram : Diagram) (attributes : Attributes) (plan : Resolved) where
  abbrev pub those_from : ℕ → ℕ → List Operation
  those_from from n = flat_map (operations_of attributes) (filter (is_shared diagram attributes plan) (numbers_from from n))

  abbrev with_those : Bool → ℕ → ℕ → List Operation
  with_those b from n = flat_map (operations_of attributes)
      (cond b (from ∷ filter (is_shared diagram attributes plan) (numbers_from (suc from) n))
      (filter (is_shared diagram attributes plan) (numbers_from (suc from) n)))

  -- an operation among those of the blocks from a place on
  pub record IsAmong (from n : ℕ) (o : Operation) : Type 0 where
    pub low : from ≤ o.block
    pub high : o.block < from + n
    pub shared : is_shared diagram attributes plan o.block ≡ true
    pub element : o.element < attributes.width_at o.block 1

  past_among : (from n : ℕ) (o : Operation) → IsAmong (suc from) n o → IsAmong from (suc n) o
  past_among from n o is = let low = is.low in let high = is.high in record { low = omega (arith, low); high = omega (arith, high); shared = is.shared; element = is.element }

  among : (from n k : ℕ) (o : Operation) → slice_get (those_from from n) k ≡ Some o → IsAmong from n o
  among from zero k o at = absurd (none-some o at)
  among from (suc n) k o at = go (λ j there. among (suc from) n j o there) (is_shared diagram attributes plan from) refl k at
    where
      go : ((j : ℕ) → slice_get (those_from (suc from) n) j ≡ Some o → IsAmong (suc from) n o) → (b : Bool)
          → is_shared diagram attributes plan from ≡ b → (k : ℕ) → slice_get (with_those b from n) k ≡ Some o
          → IsAmong from (suc n) o
      go rest false e k at = past_among from n o (rest k at)
      go rest true e k at = elim (where_in (operations_of attributes from) (those_from (suc from) n) k o at) [
        | inl here ↦
            let is = element_at from 0 (attributes.width_at from 1) k o here in
            let block = is.block in
            let element = is.element in
            let below = element_below from 0 (attributes.width_at from 1) k o here in
            record {
              low = omega (arith, block);
              high = omega (arith, block);
              shared = subst (λ (x : ℕ). is_shared diagram attributes plan x ≡ true) (sym block) e;
              element = subst (λ (x : ℕ). o.element < attributes.width_at x 1) (sym block) (omega (arith, element, below));
            }
        | inr past ↦ past_among from n o (rest past.place past.at)
      ]

  once : (from n j k : ℕ) (o : Operation) → slice_get (those_from from n) j ≡ Some o → slice_get (those_from from n) k ≡ Some o → j ≡ k
  once from zero j k o at there = absurd (none-some o at)
  once from (suc n) j k o at there = go (λ i l a b. once (suc from) n i l o a b) (is_shared diagram attributes plan from) j k at there
    where
      go : ((i l : ℕ) → slice_get (those_from (suc from) n) i ≡ Some o
          → slice_get (those_from (suc from) n) l ≡ Some o → i ≡ l) → (b : Bool) (j k : ℕ)
          → slice_get (with_those b from n) j ≡ Some o → slice_get (with_those b from n) k ≡ Some o → j ≡ k
      go rest false j k at there = rest j k at there
      go rest true j k at there = elim (where_in (operations_of attributes from) (those_from (suc from) n) j o at) [
        | inl here ↦ elim (where_in (operations_of attributes from) (those_from (suc from) n) k o there) [
          | inl here_too ↦
              let a = (element_at from 0 (attributes.width_at from 1) j o here).element in
              let b = (element_at from 0 (attributes.width_at from 1) k o here_too).element in
              omega (arith, a, b)
          | inr past ↦
              let a = (element_at from 0 (attributes.width_at from 1) j o here).block in
              let b = (among (suc from) n past.place o past.at).low in
              absurd (omega (arith, a, b))
        ]
        | inr past ↦ elim (where_in (operations_of attributes from) (those_from (suc from) n) k o there) [
          | inl here ↦
              let a = (element_at from 0 (attributes.width_at from 1) k o here).block in
              let b = (among (suc from) n past.place o past.at).low in
              absurd (omega (arith, a, b))
          | inr past_too ↦
              let e = rest past.place past_too.place past.at past_too.at in
              let a = past.is in
              let b = past_too.is in
              omega (arith, a, b, e)
        ]
      ]

  -- an operation is an element of a shared block
  pub of_shared : (number : ℕ) (o : Operation) → IsOperation diagram attributes plan number o → IsOfShared diagram attributes plan o
  of_shared number o at =
      let is = among 0 (length diagram.blocks) number o at in
      let high = is.high in
      record { there = omega (arith, high); shared = is.shared; element = is.element }

  -- and stands once
  pub stands_once : (number other : ℕ) (o : Operation) → IsOperation diagram attributes plan number o → IsOperation diagram attributes plan other o → number ≡ other
  stands_once number other o at there = once 0 (length diagram.blocks) number other o at there
