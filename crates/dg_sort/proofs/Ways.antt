-- Ways back joined, and cycles.
use Rattle.std.proofs.Common.{◌≡◌, ℕ, zero, suc, List, sym, subst, refl}
use Rattle.dg_sort.specs.Rows.{Reads}
use Rattle.dg_sort.specs.inner.Back.{LeadsBackIn, LeadsBack, IsOnCycle}

joined_in : (rows : List (List ℕ)) (steps : ℕ) (x y z : ℕ) → LeadsBackIn rows steps x y → LeadsBack rows y z → LeadsBack rows x z
joined_in rows zero x y z way back = subst (λ u. LeadsBack rows u z) (sym way) back
joined_in rows (suc steps) x y z way back =
    let rest = joined_in rows steps (way.0) y z (way.2) back in
    record { steps = suc rest.steps; walk = (way.0, way.1, rest.walk) }

-- a way back and another from its end
pub ways_join : (rows : List (List ℕ)) (x y z : ℕ) → LeadsBack rows x y → LeadsBack rows y z → LeadsBack rows x z
ways_join rows x y z way back = joined_in rows way.steps x y z way.walk back

pub way_stays : (rows : List (List ℕ)) (x y : ℕ) → x ≡ y → LeadsBack rows x y
way_stays rows x y same = record { steps = 0; walk = same }

pub way_reads : (rows : List (List ℕ)) (x y : ℕ) → Reads rows x y → LeadsBack rows x y
way_reads rows x y reads = record { steps = 1; walk = (y, reads, refl) }

cycle_in : (rows : List (List ℕ)) (steps : ℕ) (x y z : ℕ) → LeadsBackIn rows steps x y → Reads rows y z → LeadsBack rows z x → IsOnCycle rows x
cycle_in rows zero x y z way reads back = record { next = z; reads = subst (λ u. Reads rows u z) (sym way) reads; back = back }
cycle_in rows (suc steps) x y z way reads back =
    let on = ways_join rows y z x (way_reads rows y z reads) back in
    record { next = way.0; reads = way.1; back = joined_in rows steps (way.0) y x (way.2) on }

-- a way back that closes over one reading
pub way_closes : (rows : List (List ℕ)) (x y z : ℕ) → LeadsBack rows x y → Reads rows y z → LeadsBack rows z x → IsOnCycle rows x
way_closes rows x y z way reads back = cycle_in rows way.steps x y z way.walk reads back
