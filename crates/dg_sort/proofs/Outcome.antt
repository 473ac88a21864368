-- What a search tells of a diagram: an order along its instant edges, or its first cycle.
use Rattle.std.proofs.Common.{◌≡◌, ℕ, zero, suc, ◌+◌, ◌-◌, ◌%◌, ◌<◌, ◌≤◌, List, [], ◌∷◌, length, get_or, ⊎_elim, refl, sym, ap, subst, ◌∙◌, arith}
use Rattle.std.specs.Prelude.{slice_get, slice_index, Option, Some, None}
use Rattle.std.proofs.lemmas.Bool.{cases_lt}
use Rattle.std.proofs.Math.Nat.{mod_self, mod-eq_of_lt}
use Rattle.std.proofs.lemmas.Option.{none-some, same_Some, slice_get_within, slice_get-get_or, get_or_from_slice_get}
use Rattle.dg_model.specs.declared.diagram.Diagram.{Diagram}
use Rattle.dg_model.specs.declared.diagram.Block.{Block}
use Rattle.dg_model.specs.declared.fault.RuleFault.{RuleFault}
use Rattle.dg_model.specs.declared.fault.Shown.TheVariants.{Cycle}
use Rattle.dg_model.specs.declared.rule.Rule.{Rule}
use Rattle.dg_model.specs.Attributes.{attributes_of}
use Rattle.dg_model.specs.Faults.{path_of, fault_of}
use Rattle.dg_model.specs.Loop.{LeadsNow, IsInstantCycle, IsOrder, KeepsLoop, BreaksLoop}
use Rattle.dg_sort.specs.Rows.{Reads, AreRows}
use Rattle.dg_sort.specs.inner.Back.{LeadsBack, IsOnCycle}
use Rattle.dg_sort.specs.inner.Cycle.{IsReadCycle}
use Rattle.dg_sort.specs.inner.State.{IsInOrder, IsFirst, IsFound}
use Rattle.dg_sort.proofs.Ways.{ways_join, way_stays, way_reads}

-- ---- a cycle of a diagram is one over its rows

module _ (diagram : Diagram) (rows : List (List ℕ)) (cycle : List ℕ) (are : AreRows diagram rows) (is : IsInstantCycle diagram (attributes_of diagram) cycle) where
  next_reads : (k : ℕ) → suc k < length cycle → Reads rows (slice_index cycle (suc k)) (slice_index cycle k)
  next_reads k below =
      let m : suc k % length cycle ≡ suc k = mod-eq_of_lt below in
      subst (λ n. Reads rows (slice_index cycle n) (slice_index cycle k)) m (are.whole (slice_index cycle (suc k % length cycle)) (slice_index cycle k) (is.leads k (omega (arith, below))))

  first_reads : Reads rows (slice_index cycle 0) (slice_index cycle (length cycle - 1))
  first_reads =
      let some = is.some in
      let e : suc (length cycle - 1) ≡ length cycle = omega (arith, some) in
      let m : suc (length cycle - 1) % length cycle ≡ 0 = ap (λ n. n % length cycle) e ∙ mod_self (length cycle) in
      subst (λ n. Reads rows (slice_index cycle n) (slice_index cycle (length cycle - 1))) m
      (are.whole (slice_index cycle (suc (length cycle - 1) % length cycle))
      (slice_index cycle (length cycle - 1)) (is.leads (length cycle - 1) (omega (arith, some))))

  down : (steps k : ℕ) → k + steps < length cycle → LeadsBack rows (slice_index cycle (k + steps)) (slice_index cycle k)
  down zero k below = let e : k + 0 ≡ k = omega arith in way_stays rows (slice_index cycle (k + 0)) (slice_index cycle k) (ap (slice_index cycle) e)
  down (suc steps) k below =
      let e : k + suc steps ≡ suc (k + steps) = omega arith in
      let reads = next_reads (k + steps) (omega (arith, below)) in
      subst (λ n. LeadsBack rows (slice_index cycle n) (slice_index cycle k)) (sym e)
      (ways_join rows (slice_index cycle (suc (k + steps))) (slice_index cycle (k + steps)) (slice_index cycle k)
      (way_reads rows (slice_index cycle (suc (k + steps))) (slice_index cycle (k + steps)) reads)
      (down steps k (omega (arith, below))))

  -- from the last block back to any
  from_last : (k : ℕ) → k < length cycle → LeadsBack rows (slice_index cycle (length cycle - 1)) (slice_index cycle k)
  from_last k below =
      let e : k + (length cycle - 1 - k) ≡ length cycle - 1 = omega (arith, below) in
      subst (λ n. LeadsBack rows (slice_index cycle n) (slice_index cycle k)) e (down (length cycle - 1 - k) k (omega (arith, below, e)))

  pub is_on : (k : ℕ) → k < length cycle → IsOnCycle rows (slice_index cycle k)
  is_on zero below = record { next = slice_index cycle (length cycle - 1); reads = first_reads; back = from_last 0 below }
  is_on (suc k) below =
      let to_first : LeadsBack rows (slice_index cycle k) (slice_index cycle 0) =
      let e : 0 + k ≡ k = omega arith in subst (λ n. LeadsBack rows (slice_index cycle n) (slice_index cycle 0)) e (down k 0 (omega (arith, below, e))) in
      record {
        next = slice_index cycle k;
        reads = next_reads k below;
        back = ways_join rows (slice_index cycle k) (slice_index cycle 0) (slice_index cycle (suc k)) to_first
            (ways_join rows (slice_index cycle 0) (slice_index cycle (length cycle - 1)) (slice_index cycle (suc k))
            (way_reads rows (slice_index cycle 0) (slice_index cycle (length cycle - 1)) first_reads)
            (from_last (suc k) below));
      }

-- ---- an order

pub order_is : (diagram : Diagram) (rows : List (List ℕ)) (order : List ℕ) → AreRows diagram rows → IsInOrder rows order → IsOrder diagram (attributes_of diagram) order
order_is diagram rows order are in_order = record {
  there = λ k d below.
      let inside = in_order.there k (get_or order k d) (slice_get-get_or order k d below) in
      let size = are.size in
      omega (arith, inside, size);
  different = λ i j d less below same.
      let e = in_order.once i j (get_or order j d) (slice_get-get_or order i d (omega (arith, less, below)) ∙ ap Some same) (slice_get-get_or order j d below) in
      omega (arith, e, less);
  all = λ place below.
      let size = are.size in
      let at = in_order.all place (omega (arith, size, below)) in
      (at.0, place, slice_get_within order (at.0) place (at.1), get_or_from_slice_get order (at.0) place place (at.1), refl);
  after = λ k place source at leads. in_order.after k place source at (are.whole place source leads);
}

pub loop_is_kept : (diagram : Diagram) (rows : List (List ℕ)) (order : List ℕ) → AreRows diagram rows → IsInOrder rows order → KeepsLoop diagram (attributes_of diagram)
loop_is_kept diagram rows order are in_order = λ cycle is. in_order.none (slice_index cycle 0) (is_on diagram rows cycle are is 0 (let some = is.some in omega (arith, some)))

-- ---- a cycle

read_cycle : (diagram : Diagram) (rows : List (List ℕ)) (first : ℕ) (cycle : List ℕ) → AreRows diagram rows → IsReadCycle rows first cycle → IsInstantCycle diagram (attributes_of diagram) cycle
read_cycle diagram rows first cycle are is = record {
  some = long;
  different = λ i j d less below same.
      let e = is.once i j (get_or cycle j d) (slice_get-get_or cycle i d (omega (arith, less, below)) ∙ ap Some same) (slice_get-get_or cycle j d below) in
      omega (arith, e, less);
  leads = λ k below. ⊎_elim
      (λ (more : suc k < length cycle).
      let m : suc k % length cycle ≡ suc k = mod-eq_of_lt more in
      let reads = is.leads k (slice_index cycle k) (slice_index cycle (suc k)) (slice_get-get_or cycle k 0 below) (slice_get-get_or cycle (suc k) 0 more) in
      subst (λ n. LeadsNow diagram (attributes_of diagram) (slice_index cycle k) (slice_index cycle n)) (sym m) (are.sound (slice_index cycle (suc k)) (slice_index cycle k) reads))
      (λ (end : length cycle ≤ suc k).
      let e : suc k ≡ length cycle = omega (arith, below, end) in
      let last : k ≡ length cycle - 1 = omega (arith, e) in
      let m : suc k % length cycle ≡ 0 = ap (λ n. n % length cycle) e ∙ mod_self (length cycle) in
      let reads = is.closes (slice_index cycle k) (sym (ap (slice_get cycle) last) ∙ slice_get-get_or cycle k 0 below) in
      let begins : first ≡ slice_index cycle 0 = sym (get_or_from_slice_get cycle 0 first 0 is.begins) in
      subst (λ n. LeadsNow diagram (attributes_of diagram) (slice_index cycle k) (slice_index cycle n)) (sym m)
      (subst (λ b. LeadsNow diagram (attributes_of diagram) (slice_index cycle k) b) begins (are.sound first (slice_index cycle k) reads)))
      (cases_lt (suc k) (length cycle));
}
  where
    long : 1 ≤ length cycle
    long = let inside = slice_get_within cycle 0 first is.begins in omega (arith, inside)

begins_with : (cycle : List ℕ) (first : ℕ) → slice_get cycle 0 ≡ Some first → (more : List ℕ) × (cycle ≡ first ∷ more)
begins_with [] first at = absurd (none-some first at)
begins_with (x ∷ more) first at = (more, ap (λ u. u ∷ more) (same_Some x first at))

pub loop_breaks : (diagram : Diagram) (rows : List (List ℕ)) (first : ℕ) (cycle : List ℕ) (fault : RuleFault)
    → AreRows diagram rows → IsFirst rows first → IsReadCycle rows first cycle
    → fault ≡ fault_of Rule.Loop (path_of diagram first) (Cycle cycle)
    → BreaksLoop diagram (attributes_of diagram) fault
loop_breaks diagram rows first cycle fault are is read told =
    let shape = begins_with cycle first read.begins in
    record {
      first = first;
      more = shape.0;
      is_cycle = subst (λ c. IsInstantCycle diagram (attributes_of diagram) c) (shape.1) (read_cycle diagram rows first cycle are read);
      least = λ other other_is k d below.
          is.least (get_or other k d) (subst (λ b. IsOnCycle rows b)
          (get_or_from_slice_get other k (get_or other k d) 0 (slice_get-get_or other k d below))
          (is_on diagram rows other are other_is k below));
      fault_is = told ∙ ap (λ c. fault_of Rule.Loop (path_of diagram first) (Cycle c)) (shape.1);
    }

-- where a rule is broken at a block, its path is told
pub path_is : (diagram : Diagram) (first : ℕ) (block : Block) → first < length diagram.blocks → block ≡ get_or diagram.blocks first block → path_of diagram first ≡ block.path
path_is diagram first block inside is = cc (slice_get-get_or diagram.blocks first block inside ∙ ap Some (sym is))

-- ---- as the code has it

pub found_none : (rows read : List (List ℕ)) (order : List ℕ) (first : Option ℕ) → read ≡ rows → first ≡ None → IsFound read order first → IsInOrder rows order
found_none rows read order first same none found = subst (λ rs. IsInOrder rs order) same (subst (λ f. IsFound read order f) none found)

pub found_some : (rows read : List (List ℕ)) (order : List ℕ) (first : Option ℕ) (block : ℕ) → read ≡ rows → first ≡ Some block → IsFound read order first → IsFirst rows block
found_some rows read order first block same some found = subst (λ rs. IsFirst rs block) same (subst (λ f. IsFound read order f) some found)
