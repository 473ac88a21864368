-- Rows that edges with the same inputs lead to, and rounds of them.
use Rattle.std.proofs.Common.{◌≡◌, ◌<◌, ◌≤◌, ◌+◌, ◌-◌, ◌*◌, ◌/◌, ◌%◌, ◌⊎◌, inl, inr, ℕ, zero, suc, nat_lt, if◌then◌else◌, List, refl, sym, ap, subst, ◌∙◌, arith}
use Rattle.std.proofs.lemmas.Bool.{cases_lt, cond-false, cond-true, le-ltb, lt-ltb}
use Rattle.std.proofs.lemmas.Nat.{div-add-mod'}
use Rattle.std.proofs.Math.Nat.{suc-mul}
use Rattle.vl_ast.specs.declared.modules.Module.{Module}
use Rattle.vl_ast.specs.Runs.{Row, Rows}
use Rattle.vl_ast.specs.Steps.{IsEdge}
use Rattle.vl_eval.specs.Given.{driven_ports, given}
use Rattle.vl_eval.specs.Machine.{IsKept, row_of, source_of}
use Rattle.vl_eval.specs.declared.machine.Machine.{Machine}
use Rattle.vl_eval.specs.declared.machine.Snapshot.{Snapshot}
use Rattle.vl_replay.specs.inner.Rest.{IsSince, Leads}

-- the first rows, and others from a place on
pub joined : Rows → ℕ → Rows → Rows
joined rows place others = λ k. if nat_lt k place then rows k else others (k - place)

pub joined-from : (rows : Rows) (place : ℕ) (others : Rows) (k : ℕ) → place ≤ k → joined rows place others k ≡ others (k - place)
unfolding joined
joined-from rows place others k from = cond-false (nat_lt k place) (rows k) (others (k - place)) (le-ltb k place from)

pub joined-before : (rows : Rows) (place : ℕ) (others : Rows) (k : ℕ) → k < place → joined rows place others k ≡ rows k
unfolding joined
joined-before rows place others k less = cond-true (nat_lt k place) (rows k) (others (k - place)) (lt-ltb k place less)

pub joined-until : (rows : Rows) (place : ℕ) (others : Rows) → others 0 ≡ rows place → (k : ℕ) → k ≤ place → joined rows place others k ≡ rows k
joined-until rows place others meet k until = by (cases_lt k place) where
  by : (k < place) ⊎ (place ≤ k) → joined rows place others k ≡ rows k
  by (inl less) = joined-before rows place others k less
  by (inr from) =
      let none : k - place ≡ 0 = omega (arith, until) in
      let same : place ≡ k = omega (arith, until, from) in
      joined-from rows place others k from ∙ ap others none ∙ meet ∙ ap rows same

module _ (m : Module) (inputs : Row) where
  pub leads-none : (row : Row) → Leads m inputs row 0 row
  leads-none row = record { rows = λ k. row; begins = refl; edges = λ k below. absurd (omega (arith, below)); ends = refl }

  pub leads-on : (first : Row) (count : ℕ) (middle : Row) (more : ℕ) (last : Row) → Leads m inputs first count middle → Leads m inputs middle more last → Leads m inputs first (count + more) last
  leads-on first count middle more last one other = record {
    rows = joined one.rows count other.rows;
    begins = joined-until one.rows count other.rows meet 0 (omega arith) ∙ one.begins;
    edges = λ k below. by k below (cases_lt k count);
    ends = (let there : count + more - count ≡ more = omega arith in joined-from one.rows count other.rows (count + more) (omega arith) ∙ ap other.rows there ∙ other.ends);
  }
    where
      meet : other.rows 0 ≡ one.rows count
      meet = other.begins ∙ sym one.ends

      by : (k : ℕ) → k < count + more → (k < count) ⊎ (count ≤ k) → IsEdge m (joined one.rows count other.rows k) inputs (joined one.rows count other.rows (k + 1))
      by k below (inl less) =
          subst (λ (r : Row). IsEdge m r inputs (joined one.rows count other.rows (k + 1))) (sym (joined-until one.rows count other.rows meet k (omega (arith, less))))
          (subst (λ (r : Row). IsEdge m (one.rows k) inputs r) (sym (joined-until one.rows count other.rows meet (k + 1) (omega (arith, less)))) (one.edges k less))
      by k below (inr from) =
          let next : k + 1 - count ≡ k - count + 1 = omega (arith, from) in
          subst (λ (r : Row). IsEdge m r inputs (joined one.rows count other.rows (k + 1))) (sym (joined-from one.rows count other.rows k from))
          (subst (λ (r : Row). IsEdge m (other.rows (k - count)) inputs r)
          (sym (joined-from one.rows count other.rows (k + 1) (omega (arith, from)) ∙ ap other.rows next))
          (other.edges (k - count) (omega (arith, from, below))))

  pub leads-one : (first last : Row) → IsEdge m first inputs last → Leads m inputs first 1 last
  leads-one first last edge = record {
    rows = joined (λ k. first) 1 (λ k. last);
    begins = at-start;
    edges = λ k below. step k (omega (arith, below));
    ends = at-end;
  }
    where
      at-start : joined (λ k. first) 1 (λ k. last) 0 ≡ first
      at-start = joined-before (λ k. first) 1 (λ k. last) 0 (omega arith)

      at-end : joined (λ k. first) 1 (λ k. last) 1 ≡ last
      at-end = joined-from (λ k. first) 1 (λ k. last) 1 (omega arith)

      step : (k : ℕ) → k ≡ 0 → IsEdge m (joined (λ k. first) 1 (λ k. last) k) inputs (joined (λ k. first) 1 (λ k. last) (k + 1))
      step k same = subst (λ n. IsEdge m (joined (λ k. first) 1 (λ k. last) n) inputs (joined (λ k. first) 1 (λ k. last) (n + 1))) (sym same)
          (subst (λ (r : Row). IsEdge m r inputs (joined (λ k. first) 1 (λ k. last) 1)) (sym at-start)
          (subst (λ (r : Row). IsEdge m first inputs r) (sym at-end) edge))

  pub leads-more : (first : Row) (count : ℕ) (row next : Row) → Leads m inputs first count row → IsEdge m row inputs next → Leads m inputs first (count + 1) next
  leads-more first count row next led edge = leads-on first count row 1 next led (leads-one row next edge)

  -- a round as often as you like
  pub leads-round : (row : Row) (round : ℕ) → Leads m inputs row round row → (times : ℕ) → Leads m inputs row (times * round) row
  leads-round row round once zero = let e : 0 ≡ 0 * round = omega arith in subst (λ n. Leads m inputs row n row) e (leads-none row)
  leads-round row round once (suc times) =
      let e : times * round + round ≡ suc times * round = sym (suc-mul times round) in
      subst (λ n. Leads m inputs row n row) e (leads-on row (times * round) row round row (leads-round row round once times) once)

  pub since-none : (machine : Machine) (snapshot : Snapshot) → IsKept machine snapshot (row_of machine) → IsSince m inputs (row_of machine) 0 0 machine snapshot
  since-none machine snapshot kept = record {
    row = row_of machine;
    kept = kept;
    before = 0;
    sum = omega arith;
    led = leads-none (row_of machine);
    leads = leads-none (row_of machine);
  }

  module _ (first : Row) (count since : ℕ) (machine : Machine) (snapshot : Snapshot) (is : IsSince m inputs first count since machine snapshot) where
    pub since-more : (later : Machine) → IsEdge m (row_of machine) inputs (row_of later)
        → ((row : Row) → IsKept machine snapshot row → IsKept later snapshot row)
        → IsSince m inputs first (count + 1) (since + 1) later snapshot
    since-more later edge stays = record {
      row = is.row;
      kept = stays is.row is.kept;
      before = is.before;
      sum = (let s = is.sum in omega (arith, s));
      led = is.led;
      leads = leads-more is.row since (row_of machine) (row_of later) is.leads edge;
    }

    pub since-all : Leads m inputs first count (row_of machine)
    since-all = subst (λ n. Leads m inputs first n (row_of machine)) is.sum (leads-on first is.before is.row since (row_of machine) is.led is.leads)

    -- the row is kept anew
    pub since-anew : (later : Snapshot) → IsKept machine later (row_of machine) → IsSince m inputs first count 0 machine later
    since-anew later kept = record {
      row = row_of machine;
      kept = kept;
      before = count;
      sum = omega arith;
      led = since-all;
      leads = leads-none (row_of machine);
    }

    -- the machine is back in the kept row, so whole rounds can be left out of the clocks that are left
    pub since-back : (clocks left : ℕ) → count + left ≡ clocks → is.row ≡ row_of machine → Leads m inputs first (clocks - left % since) (row_of machine)
    since-back clocks left all back =
        let round = subst (λ (r : Row). Leads m inputs r since (row_of machine)) back is.leads in
        let times = left / since in
        let rounds = leads-round (row_of machine) since round times in
        let whole : times * since + left % since ≡ left = div-add-mod' left since in
        let e : count + times * since ≡ clocks - left % since = omega (arith, whole, all) in
        subst (λ n. Leads m inputs first n (row_of machine)) e (leads-on first count (row_of machine) (times * since) (row_of machine) since-all rounds)

-- an edge of the machine's module is one of that with which it began
pub edge-of : (m : Module) (bits : List ℕ) (machine later : Machine) → source_of machine ≡ m
    → IsEdge (source_of machine) (row_of machine) (given (driven_ports (source_of machine)) bits) (row_of later)
    → IsEdge m (row_of machine) (given (driven_ports m) bits) (row_of later)
edge-of m bits machine later same edge = subst (λ (n : Module). IsEdge n (row_of machine) (given (driven_ports n) bits) (row_of later)) same edge

-- one such edge more
pub since-edge : (m : Module) (bits : List ℕ) (first : Row) (count since : ℕ) (machine : Machine)
    (snapshot : Snapshot) → IsSince m (given (driven_ports m) bits) first count since machine snapshot
    → (later : Machine) → source_of machine ≡ m
    → IsEdge (source_of machine) (row_of machine) (given (driven_ports (source_of machine)) bits) (row_of later) → ((row : Row) → IsKept machine snapshot row → IsKept later snapshot row)
    → IsSince m (given (driven_ports m) bits) first (count + 1) (since + 1) later snapshot
since-edge m bits first count since machine snapshot is later same edge stays =
    since-more m (given (driven_ports m) bits) first count since machine snapshot is later
    (edge-of m bits machine later same edge) stays
