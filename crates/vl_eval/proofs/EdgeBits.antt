-- The bits that an edge is given, by the places of its ports.
use Rattle.std.proofs.Common.{◌≡◌, ◌<◌, ◌≤◌, ◌+◌, ◌^◌, inl, inr, ◌⊎◌, ℕ, zero, suc, Bool, true, false, List, [], ◌∷◌, ◌++◌, length, filter, slice_get, slice_index, Contains, bytes_eq, Some, refl, sym}
use Rattle.std.proofs.Common.{ap, subst, ◌∙◌, arith}
use Rattle.std.proofs.lemmas.Bool.{cond-true, cond-false, cases_lt}
use Rattle.std.proofs.lemmas.List.{get_or_append_left, get_or_at, length-append}
use Rattle.std.proofs.lemmas.Option.{slice_get_within, slice_get-get_or}
use Rattle.std.proofs.lemmas.Slice.Eq.{bytes_eq-Decides}
use Rattle.vl_ast.specs.declared.modules.Port.{Port}
use Rattle.math_list.proofs.Elements.{cons-cases, head-in, none-in, tail-in}
use Rattle.vl_ast.proofs.PortLists.{ApartAt}
use Rattle.vl_eval.specs.Given.{given}
use Rattle.vl_eval.specs.Machine.{AreFit}
use Rattle.math_list.proofs.Tests.{unequal}

apart-later : (first : Port) (ports : List Port) → ApartAt (first ∷ ports) → ApartAt ports
apart-later first ports apart = record { at = λ i j one other less ei ej. apart.at (suc i) (suc j) one other (omega (arith, less)) ei ej }

-- a port has the bits at its place
pub given-at : (ports : List Port) → ApartAt ports → (bits : List ℕ) (k : ℕ) (port : Port) → slice_get ports k ≡ Some port → k < length bits → given ports bits port.name ≡ slice_index bits k
given-at [] apart bits k port e low = absurd (cc e)
given-at (first ∷ ports) apart [] k port e low = absurd (omega (arith, low))
given-at (first ∷ ports) apart (here ∷ bits) zero port e low =
    let same : first ≡ port = cc e in
    cond-true (bytes_eq first.name port.name) here (given ports bits port.name) ((bytes_eq-Decides first.name port.name).1 (ap (λ (p : Port). p.name) same))
given-at (first ∷ ports) apart (here ∷ bits) (suc k) port e low =
    cond-false (bytes_eq first.name port.name) here (given ports bits port.name) (unequal first.name port.name (apart.at zero (suc k) first port (omega arith) refl e))
    ∙ given-at ports (apart-later first ports apart) bits k port e (omega (arith, low))

-- a name of none of the ports has 0
pub given-none : (ports : List Port) (bits : List ℕ) (name : List ℕ) → ((k : ℕ) (port : Port) → slice_get ports k ≡ Some port → bytes_eq port.name name ≡ false) → given ports bits name ≡ 0
given-none [] bits name none = refl
given-none (first ∷ ports) [] name none = refl
given-none (first ∷ ports) (here ∷ bits) name none =
    cond-false (bytes_eq first.name name) here (given ports bits name) (none zero first refl)
    ∙ given-none ports bits name (λ k port e. none (suc k) port e)

-- a port that passes a test is among those that do
pub filter-has : (test : Port → Bool) (ports : List Port) (x : Port) → Contains ports x → test x ≡ true → Contains (filter test ports) x
filter-has test [] x h t = absurd (none-in x h)
filter-has test (first ∷ ports) x h t = by (filter-has test ports x) (test first) refl (cons-cases first x ports h) where
  by : (Contains ports x → test x ≡ true → Contains (filter test ports) x) → (passes : Bool) → test first ≡ passes → (first ≡ x) ⊎ Contains ports x → Contains (filter test (first ∷ ports)) x
  by rest true e (inl same) = subst (λ xs. Contains xs x)
      (sym (cond-true (test first) (first ∷ filter test ports) (filter test ports) e))
      (subst (λ z. Contains (z ∷ filter test ports) x) (sym same) (head-in x (filter test ports)))
  by rest true e (inr later) = subst (λ xs. Contains xs x) (sym (cond-true (test first) (first ∷ filter test ports) (filter test ports) e)) (tail-in first x (filter test ports) (rest later t))
  by rest false e (inl same) = absurd (cc (sym e ∙ ap test same ∙ t))
  by rest false e (inr later) = subst (λ xs. Contains xs x) (sym (cond-false (test first) (first ∷ filter test ports) (filter test ports) e)) (rest later t)

-- bits that fit the ports so far
pub record FitSoFar (ports : List Port) (bits : List ℕ) (place : ℕ) : Type 0 where
  pub count : place ≡ length ports
  pub within : place ≤ length bits
  pub narrow : (k : ℕ) (port : Port) → slice_get ports k ≡ Some port → slice_index bits k < 2 ^ port.width

pub fit-none : (bits : List ℕ) → FitSoFar [] bits 0
fit-none bits = record { count = refl; within = omega arith; narrow = λ k port e. absurd (cc e) }

pub fit-more : (ports : List Port) (port : Port) (bits : List ℕ) (place : ℕ) → place < length bits
    → slice_index bits place < 2 ^ port.width → FitSoFar ports bits place
    → FitSoFar (ports ++ port ∷ []) bits (place + 1)
fit-more ports port bits place within low f = record {
  count = (let l = length-append ports (port ∷ []) in let c = f.count in omega (arith, l, c));
  within = omega (arith, within);
  narrow = λ k other e. at k other e (cases_lt k (length ports));
}
  where
    at : (k : ℕ) (other : Port) → slice_get (ports ++ port ∷ []) k ≡ Some other → (k < length ports) ⊎ (length ports ≤ k) → slice_index bits k < 2 ^ other.width
    at k other e (inl old) =
        let l = length-append ports (port ∷ []) in
        let same = slice_get-get_or (ports ++ port ∷ []) k port (omega (arith, old, l)) ∙ ap Some (get_or_append_left ports (port ∷ []) port k old) ∙ sym (slice_get-get_or ports k port old) in
        f.narrow k other (sym same ∙ e)
    at k other e (inr new) =
        let below : k < length (ports ++ port ∷ []) = slice_get_within (ports ++ port ∷ []) k other e in
        let l = length-append ports (port ∷ []) in
        let c = f.count in
        let here : k ≡ place = omega (arith, new, below, l, c) in
        let same : port ≡ other = one (sym (at-end k (omega (arith, here, c))) ∙ e) in
        subst (λ (p : Port). slice_index bits k < 2 ^ p.width) same (subst (λ n. slice_index bits n < 2 ^ port.width) (sym here) low)
      where
        one : {x y : Port} → Some x ≡ Some y → x ≡ y
        one z = cc z

        at-end : (k : ℕ) → k ≡ length ports → slice_get (ports ++ port ∷ []) k ≡ Some port
        at-end k is = let p = length-append ports (port ∷ []) in
            slice_get-get_or (ports ++ port ∷ []) k port (omega (arith, is, p)) ∙ ap Some (get_or_at ports port [] port k (sym is))

pub all-fit : (ports : List Port) (bits : List ℕ) (place : ℕ) → place ≡ length bits → FitSoFar ports bits place → AreFit ports bits
all-fit ports bits place all f = record { count = (let c = f.count in omega (arith, all, c)); narrow = f.narrow }
