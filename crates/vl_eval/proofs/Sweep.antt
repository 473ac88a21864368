-- An operation's value hangs on the places that it reads, so a sweep in order settles them all.
use Rattle.std.proofs.Common.{true, subst, ◌≡◌, ◌<◌, ◌≤◌, ◌+◌, ⊎_elim, ℕ, List, length, set, slice_index, slice_index_or, refl, sym, ap, ◌∙◌, arith}
use Rattle.std.proofs.lemmas.List.{get_or-map, get_or-set_same, get_or-set_other, get_or_default, length-map}
use Rattle.std.proofs.lemmas.Bool.{cases_lt, false≢true}
use Rattle.vl_eval.specs.declared.ops.Op.{Op}
use Rattle.vl_eval.specs.declared.ops.Op.TheVariants.{Constant, One, Two, Beside, Choose, Next}
use Rattle.vl_eval.specs.inner.Ops.{one_value, op_value, reads_below, two_value, AreSettled, IsOrdered, IsSettled}
use Rattle.vl_eval.specs.inner.Steps.{AreConstants, is_constant, op_in, ops_of}
use Rattle.vl_eval.specs.declared.steps.Step.{Step}

pub op-agrees : (op : Op) (end : ℕ) → reads_below op end → (f g : ℕ → ℕ) → ((i : ℕ) → i < end → f i ≡ g i) → op_value op f ≡ op_value op g
op-agrees (Constant bits) end r f g same = refl
op-agrees (One op part) end r f g same = ap (one_value op) (same part r.0)
op-agrees (Two op left right) end r f g same = λ i. two_value op (same left r.0 i) (same right r.1 i)
op-agrees (Beside left right places) end r f g same = rw (same left r.0, same right r.1) refl
op-agrees (Choose test chosen other) end r f g same = rw (same test r.0, same chosen r.1, same other r.2) refl
op-agrees (Next register) end r f g same = rw (same register.reset r.0, same register.test r.1, same register.value r.2, same register.kept r.3) refl

pub settled-none : (base : ℕ) (ops : List Op) (values : List ℕ) → AreSettled base 0 ops values
settled-none base ops values = record { at = λ k d below. absurd (omega arith) }

pub settled-more : (base count at : ℕ) (ops : List Op) (values : List ℕ) (op : Op) → at ≡ base + count → IsOrdered base ops → count < length ops → base + length ops ≤ length values
    → op ≡ slice_index_or ops count op
    → AreSettled base count ops values → AreSettled base (count + 1) ops (set values at (op_value op (λ i. slice_index values i)))
settled-more base count at ops values op here ordered within room is s = record { at = λ k d below. ⊎_elim (old k d) (new k d below) (cases_lt k count) } where
  same : (end : ℕ) → end ≤ at → (i : ℕ) → i < end → slice_index values i ≡ slice_index (set values at (op_value op (λ i. slice_index values i))) i
  same end low i below = sym (get_or-set_other values at i (op_value op (λ i. slice_index values i)) 0 (λ e. omega (arith, e)))

  old : (k : ℕ) (d : Op) → k < count → slice_index (set values at (op_value op (λ i. slice_index values i)))
      (base + k) ≡ op_value (slice_index_or ops k d)
      (λ i. slice_index (set values at (op_value op (λ i. slice_index values i))) i)
  old k d below =
      sym (same at (omega arith) (base + k) (omega arith)) ∙ s.at k d below
      ∙ op-agrees (slice_index_or ops k d) (base + k) (ordered.at k d (omega arith)) (λ i. slice_index values i)
      (λ i. slice_index (set values at (op_value op (λ i. slice_index values i))) i)
      (same (base + k) (omega arith))

  new : (k : ℕ) (d : Op) → k < count + 1 → count ≤ k
      → slice_index (set values at (op_value op (λ i. slice_index values i))) (base + k)
      ≡ op_value (slice_index_or ops k d)
      (λ i. slice_index (set values at (op_value op (λ i. slice_index values i))) i)
  new k d below above =
      let e : k ≡ count = omega arith in
      let place : base + k ≡ at = omega arith in
      let this : op ≡ slice_index_or ops k d = is ∙ get_or_default ops count op d within ∙ ap (λ j. slice_index_or ops j d) (sym e) in
      ap (λ i. slice_index (set values at (op_value op (λ i. slice_index values i))) i) place
      ∙ get_or-set_same values at (op_value op (λ i. slice_index values i)) 0 (omega arith)
      ∙ ap (λ o. op_value o (λ i. slice_index values i)) this
      ∙ op-agrees (slice_index_or ops k d) (base + k) (ordered.at k d (omega arith)) (λ i. slice_index values i)
      (λ i. slice_index (set values at (op_value op (λ i. slice_index values i))) i)
      (same (base + k) (omega arith))

-- the value of the next operation goes to its place
pub settled-step : (base count value : ℕ) (ops : List Op) (values : List ℕ) → IsOrdered base ops → count < length ops → base + length ops ≤ length values
    → value ≡ op_value (slice_index_or ops count (Constant 0)) (λ i. slice_index values i)
    → AreSettled base count ops values → AreSettled base (count + 1) ops (set values (base + count) value)
settled-step base count value ops values ordered within room is s =
    let op = slice_index_or ops count (Constant 0) in
    subst (λ n. AreSettled base (count + 1) ops (set values (base + count) n)) (sym is)
    (settled-more base count (base + count) ops values op refl ordered within room (get_or_default ops count (Constant 0) op within) s)

constant-agrees : (op : Op) → is_constant op ≡ true → (f g : ℕ → ℕ) → op_value op f ≡ op_value op g
constant-agrees (Constant bits) e f g = refl
constant-agrees _ e f g = absurd (false≢true e)

-- constants keep their values where the places of operations stay
pub constants-settled : (base count : ℕ) (ops : List Op) (before after : List ℕ) → AreConstants count ops → IsSettled base ops (λ k. slice_index before k)
    → ((place : ℕ) → base ≤ place → slice_index after place ≡ slice_index before place) → AreSettled base count ops after
constants-settled base count ops before after constant st stay = record {
  at = λ k d low.
      stay (base + k) (omega arith) ∙ st.at k d (let few = constant.few in omega (arith, few, low))
      ∙ constant-agrees (slice_index_or ops k d) (constant.at k d low) (λ i. slice_index before i) (λ i. slice_index after i);
}

pub reads-longer : (op : Op) (end more : ℕ) → end ≤ more → reads_below op end → reads_below op more
reads-longer (Constant bits) end more le r = r
reads-longer (One op part) end more le r = (omega (arith, (r.0), le), r.1)
reads-longer (Two op left right) end more le r = (omega (arith, (r.0), le), omega (arith, (r.1), le))
reads-longer (Beside left right places) end more le r = (omega (arith, (r.0), le), omega (arith, (r.1), le), r.2)
reads-longer (Choose test chosen other) end more le r = (omega (arith, (r.0), le), omega (arith, (r.1), le), omega (arith, (r.2), le))
reads-longer (Next register) end more le r = (omega (arith, (r.0), le), omega (arith, (r.1), le), omega (arith, (r.2), le), omega (arith, (r.3), le))

-- a step reads what its operation reads
pub step-reads : (base k end : ℕ) (wide : List Op) (steps : List Step) (s : Step) → IsOrdered base (ops_of wide steps) → k < length steps → base + k ≤ end
    → reads_below (op_in wide (slice_index_or steps k s)) end
step-reads base k end wide steps s ordered low le =
    let long = length-map steps (op_in wide) in
    let is = get_or-map (op_in wide) steps k s (Constant 0) low in
    reads-longer (op_in wide (slice_index_or steps k s)) (base + k) end le (subst (λ op. reads_below op (base + k)) is (ordered.at k (Constant 0) (omega (arith, long, low))))

-- the value of the next step goes to its place
pub swept-step : (base count value : ℕ) (wide : List Op) (steps : List Step) (s : Step) (values : List ℕ) → IsOrdered base (ops_of wide steps) → count < length steps
    → base + length steps ≤ length values → value ≡ op_value (op_in wide (slice_index_or steps count s)) (λ i. slice_index values i)
    → AreSettled base count (ops_of wide steps) values → AreSettled base (count + 1) (ops_of wide steps) (set values (base + count) value)
swept-step base count value wide steps s values ordered low room is settled =
    let long = length-map steps (op_in wide) in
    let this = get_or-map (op_in wide) steps count s (Constant 0) low in
    settled-step base count value (ops_of wide steps) values ordered (omega (arith, long, low)) (omega (arith, long, room)) (is ∙ ap (λ op. op_value op (λ i. slice_index values i)) (sym this)) settled
