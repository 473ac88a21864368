-- The line into a port, as a search among the lines into its block finds it.
use Rattle.std.proofs.Common.{◌≡◌, ℕ, zero, suc, ◌+◌, ◌<◌, ◌≤◌, Bool, true, false, cond, List, [], ◌∷◌, length, refl, sym, ap, subst, ◌∙◌, inl, inr, arith}
use Rattle.std.specs.Prelude.{slice_get, Some, None, find, ◌==◌, AllPairs, get_or}
use Rattle.std.proofs.lemmas.Bool.{cases_lt, and_from, and_left, and_right, eq-eqb, ne_eqb}
use Rattle.std.proofs.lemmas.Option.{none-some, same_Some, slice_get_within, get_or_from_slice_get}
use Rattle.dg_model.specs.declared.diagram.Edge.{Edge}
use Rattle.dg_model.specs.Wired.{StandsBefore}
use Rattle.dg_model.specs.Wires.{enters}
use Rattle.hw_sched.specs.inner.Greatest.{IsFirstInto}
use Rattle.hw_sched.proofs.BlockDepths.{first_rises}

find_none : {A : Type 0} (p : A → Bool) (xs : List A) → ((k : ℕ) (x : A) → slice_get xs k ≡ Some x → p x ≡ false) → find p xs ≡ None
find_none p [] none = refl
find_none {A} p (x ∷ xs) none = ap (λ (b : Bool). cond b (Some x) (find p xs)) (none 0 x refl) ∙ find_none p xs (λ k y at. none (suc k) y at)

find_at : {A : Type 0} (p : A → Bool) (xs : List A) (i : ℕ) (x : A) → slice_get xs i ≡ Some x → p x ≡ true → ((k : ℕ) (y : A) → k < i → slice_get xs k ≡ Some y → p y ≡ false) → find p xs ≡ Some x
find_at p [] i x at is none = absurd (none-some x at)
find_at {A} p (y ∷ xs) zero x at is none = ap (λ (b : Bool). cond b (Some y) (find p xs)) (ap p (same_Some y x at) ∙ is) ∙ at
find_at {A} p (y ∷ xs) (suc i) x at is none =
    ap (λ (b : Bool). cond b (Some y) (find p xs)) (none 0 y (omega arith) refl)
    ∙ find_at p xs i x at is (λ k z below there. none (suc k) z (omega (arith, below)) there)

-- none of the first lines ends at this port
pub record NoneEnters (edges : List Edge) (count block port : ℕ) : Type 0 where
  pub none : (k : ℕ) (edge : Edge) → k < count → slice_get edges k ≡ Some edge → enters block port edge ≡ false

pub enters_none : (edges : List Edge) (first block port : ℕ) → IsFirstInto edges block first → NoneEnters edges (first + 0) block port
enters_none edges first block port is = record {
  none = λ k edge below at.
      let early = is.before k edge (omega (arith, below)) at in
      and_left (edge.to == block) (edge.to_port == port) (ne_eqb edge.to block (λ e. omega (arith, e, early)));
}

pub enters_more : (edges : List Edge) (first index block port : ℕ) (edge : Edge)
    → slice_get edges (first + index) ≡ Some edge → (edge.to_port ≡ port → ⊥)
    → NoneEnters edges (first + index) block port → NoneEnters edges (first + (index + 1)) block port
enters_more edges first index block port edge at differs before = record {
  none = λ k other below there. elim (cases_lt k (first + index)) [
    | inl less ↦ before.none k other less there
    | inr past ↦
        let e : first + index ≡ k = omega (arith, past, below) in
        let one : edge ≡ other = same_Some edge other (sym at ∙ ap (slice_get edges) e ∙ there) in
        subst (λ (x : Edge). enters block port x ≡ false) one (and_right (edge.to == block) (edge.to_port == port) (ne_eqb edge.to_port port differs))
  ];
}

pub enters_at : (edges : List Edge) (count block port : ℕ) (edge : Edge) → slice_get edges count ≡ Some edge
    → edge.to ≡ block → edge.to_port ≡ port → NoneEnters edges count block port
    → find (enters block port) edges ≡ Some edge
enters_at edges count block port edge at to to_port before =
    find_at (enters block port) edges count edge at
    (and_from (edge.to == block) (edge.to_port == port) (eq-eqb edge.to block to)
    (eq-eqb edge.to_port port to_port)) (λ k other below there. before.none k other below there)

pub enters_end : (edges : List Edge) (count block port : ℕ) → length edges ≤ count → NoneEnters edges count block port → find (enters block port) edges ≡ None
enters_end edges count block port end before = find_none (enters block port) edges (λ k edge at. let within = slice_get_within edges k edge at in before.none k edge (omega (arith, within, end)) at)

-- past the lines into a block none ends at it
pub enters_stop : (edges : List Edge) (first count block port : ℕ) (edge : Edge) → AllPairs StandsBefore edges
    → IsFirstInto edges block first → first ≤ count → slice_get edges count ≡ Some edge → (edge.to ≡ block → ⊥)
    → NoneEnters edges count block port → find (enters block port) edges ≡ None
enters_stop edges first count block port edge ordered is past at differs before = find_none (enters block port) edges (λ k other there. elim (cases_lt k count) [
  | inl less ↦ before.none k other less there
  | inr behind ↦
      let rises = first_rises edges ordered count k edge behind (slice_get_within edges k other there) in
      let here : (get_or edges count edge).to ≡ edge.to = ap (λ (x : Edge). x.to) (get_or_from_slice_get edges count edge edge at) in
      let that : (get_or edges k edge).to ≡ other.to = ap (λ (x : Edge). x.to) (get_or_from_slice_get edges k other edge there) in
      let low = is.behind count edge past at in
      and_left (other.to == block) (other.to_port == port) (ne_eqb other.to block (λ e. differs (omega (arith, rises, here, that, low, e))))
])
