-- What the call for shared multipliers gives is what the step of shared multipliers owes.
use Rattle.std.proofs.Common.{◌≡◌, ℕ, zero, suc, ◌<◌, ◌≤◌, inl, inr, true, false, List, [], ◌∷◌, length, Some, ap, sym, ◌∙◌, subst, refl, arith}
use Rattle.std.specs.Prelude.{slice_get, get_or}
use Rattle.std.proofs.lemmas.Option.{none-some, same_Some, slice_get_within, slice_get-get_or}
use Rattle.std.proofs.lemmas.Bool.{cases_lt, cases_Bool, false≢true}
use Rattle.dg_model.specs.declared.diagram.Diagram.{Diagram}
use Rattle.dg_model.specs.declared.diagram.Block.{Block}
use Rattle.dg_model.specs.declared.resolved.Resolved.{Resolved}
use Rattle.dg_model.specs.Attributes.{attributes_of}
use Rattle.hw_arcs.specs.Latencies.{latency_at}
use Rattle.hw_net.specs.declared.netlist.Frame.{Frame}
use Rattle.hw_net.specs.declared.netlist.Net.{Net}
use Rattle.hw_net.specs.declared.netlist.NetKind.{NetKind}
use Rattle.hw_net.specs.declared.netlist.NetKind.TheVariants.{Comb, Reg, EnReg, Acc, Bridge, Unit, Counter}
use Rattle.hw_net.specs.Circuit.{Circuit}
use Rattle.hw_net.specs.NetRows.{span_of}
use Rattle.hw_net.specs.Registers.{Span}
use Rattle.hw_net.specs.Growing.{InRows, Appends}
use Rattle.hw_net.proofs.Growth.{stood-there}
use Rattle.hw_share.specs.declared.operation.Operation.{Operation as Asked}
use Rattle.hw_share.specs.Operations.{unit_count}
use Rattle.hw_share.specs.Serving.{Serves}
use Rattle.hw_share.specs.Shared.{is_unit, AreUnits, IsServed}
use Rattle.hw_sched.specs.Slots.{Timing as Times, Operation, operation, shared_operations, slot_of, unit_of}
use Rattle.hw_sched.specs.Ready.{units_in_all}
use Rattle.hw_sched.specs.Laws.{IsOperation, UnitsAreThere, UnitsAreUsed}
use Rattle.hw_shows.specs.Series.{span_at, IsProductAt}
use Rattle.hw_build.specs.Places.{Places}
use Rattle.hw_build.specs.Serving.{Factors, unit_factors}
use Rattle.hw_build.specs.Times.{timing_by}
use Rattle.hw_build.specs.inner.Growth.{InLater}
use Rattle.hw_build.proofs.Growth.{in_call}
use Rattle.hw_build.proofs.MultiplierPlaces.{AreUnitsFrom}
use Rattle.hw_build.proofs.Units.{HasInSlots}

-- ---- the Unit nets

-- a net that is none has no factors, one that is has some
pub no_factors : (kind : NetKind) → is_unit kind ≡ false → unit_factors kind ≡ []
no_factors (Comb op args) e = refl
no_factors (Reg frame slot first from) e = refl
no_factors (EnReg frame enable reset first from) e = refl
no_factors (Acc frame enable from) e = refl
no_factors (Bridge frame live from) e = refl
no_factors (Unit left right) e = absurd (false≢true (sym e))
no_factors (Counter frame) e = refl

some_factors : (kind : NetKind) → is_unit kind ≡ true → (factors : Factors) × (unit_factors kind ≡ factors ∷ [])
some_factors (Comb op args) e = absurd (false≢true e)
some_factors (Reg frame slot first from) e = absurd (false≢true e)
some_factors (EnReg frame enable reset first from) e = absurd (false≢true e)
some_factors (Acc frame enable from) e = absurd (false≢true e)
some_factors (Bridge frame live from) e = absurd (false≢true e)
some_factors (Unit left right) e = (record { left = left; right = right }, refl)
some_factors (Counter frame) e = absurd (false≢true e)

-- where there were none before
pub units_from : (before after : Circuit) (named : List ℕ) (first count : ℕ) → Appends before after named
    → ((k : ℕ) (net : Net) → slice_get before.nets k ≡ Some net → is_unit net.kind ≡ false)
    → AreUnits before after first count → AreUnitsFrom after.nets first count
units_from before after named first count appends none are = record {
  room = are.room;
  before = λ k net early at. elim (cases_lt k (length before.nets)) [
    | inl inside ↦ no_factors net.kind (none k net (stood-there before after k net appends.extends inside at))
    | inr past ↦ elim (cases_Bool (is_unit net.kind)) [
      | inl unit ↦ let low = ((are.are k net past at).0 unit).0 in absurd (omega (arith, low, early))
      | inr other ↦ no_factors net.kind other
    ]
  ];
  there = λ k net low high at. let new = are.new in some_factors net.kind ((are.are k net (omega (arith, new, low)) at).1 (low, high));
}

-- ---- what is asked of an operation

pub record IsAskedFor (diagram : Diagram) (plan : Resolved) (times : Times) (places : Places) (number : ℕ) (o : Operation) (one : Asked) (period : ℕ) : Type 0 where
  pub frame : one.frame ≡ record { period = period; latency = latency_at times.lat o.block }
  pub slot : one.slot ≡ slot_of diagram (attributes_of diagram) plan times number o
  pub unit : one.unit ≡ unit_of diagram (attributes_of diagram) plan times number o
  pub left : one.left ≡ places.offered o.block 1 o.element

module _ (diagram : Diagram) (plan : Resolved) (times : Times) (places : Places) (closed hubs : ℕ)
    (before after : Circuit) (small : hubs ≤ length before.nets) (cycles : before.cycles ≡ plan.cycles)
    (named : List ℕ) (appends : Appends before after named)
    (number : ℕ) (o : Operation) (b : Block) (one : Asked) (period unit result : ℕ) (asked : IsAskedFor diagram plan times places number o one period) (served : IsServed before after one unit result)
  where
    abbrev pub frames : Span
    frames = span_at (timing_by diagram plan times) period o.block

    abbrev pub own_slot : ℕ
    own_slot = slot_of diagram (attributes_of diagram) plan times number o

    abbrev ServesBy : ℕ → ℕ → Span → ℕ → Type 0
    ServesBy left right span slot = InRows before after (λ n rows. Serves n span slot (rows left) (rows right) (rows served.left) (rows served.right) (rows result))

    span_same : span_of before.cycles one.frame ≡ frames
    span_same = ap (λ (f : Frame). span_of before.cycles f) asked.frame ∙ ap (λ (c : ℕ). span_of c (record { period = period; latency = latency_at times.lat o.block })) cycles

    serves_at : (right : ℕ) → one.right ≡ right
        → InLater closed hubs after (λ n rows. Serves n frames own_slot (rows (places.offered o.block 1 o.element))
        (rows right) (rows served.left) (rows served.right) (rows result))
    serves_at right is =
        in_call closed hubs before after (λ n rows. Serves n frames own_slot
        (rows (places.offered o.block 1 o.element)) (rows right) (rows served.left) (rows served.right)
        (rows result)) small appends.extends
        (subst (λ (r : ℕ). ServesBy (places.offered o.block 1 o.element) r frames own_slot) is
        (subst (λ (l : ℕ). ServesBy l one.right frames own_slot) asked.left
        (subst (λ (s : ℕ). ServesBy one.left one.right frames s) asked.slot
        (subst (λ (f : Span). ServesBy one.left one.right f one.slot) span_same served.serves))))

    pub in_left : (right : ℕ) → one.right ≡ right → InLater closed hubs after (λ n rows. HasInSlots n frames own_slot (rows (places.offered o.block 1 o.element)) (rows served.left))
    in_left right is = record { holds = λ later goes n inputs rows are. record { at = λ k early. ((serves_at right is).holds later goes n inputs rows are).has_left.holds k early } }

    pub in_right : (right : ℕ) → one.right ≡ right → InLater closed hubs after (λ n rows. HasInSlots n frames own_slot (rows right) (rows served.right))
    in_right right is = record { holds = λ later goes n inputs rows are. record { at = λ k early. ((serves_at right is).holds later goes n inputs rows are).has_right.holds k early } }

    -- the register of the result
    pub product_kept : (right : ℕ) → one.right ≡ right → InLater closed hubs after (λ n rows. IsProductAt n frames own_slot (rows (places.offered o.block 1 o.element)) (rows right) (rows result))
    product_kept right is = record {
      holds =
          λ later goes n inputs rows are. record {
            holds =
                λ k c early past until. ((serves_at right is).holds later goes n inputs rows are).has_product.holds k c
                early past until;
          };
    }

-- ---- as many multipliers as the kinds have

all_below : (operations : List Asked) (total : ℕ) → ((k : ℕ) (one : Asked) → slice_get operations k ≡ Some one → one.unit < total) → unit_count operations ≤ total
all_below [] total below = omega arith
all_below (one ∷ operations) total below =
    let here = below 0 one refl in
    let rest = all_below operations total (λ k other at. below (suc k) other at) in
    omega (arith, here, rest)

pub one_above : (operations : List Asked) (k : ℕ) (one : Asked) → slice_get operations k ≡ Some one → one.unit < unit_count operations
one_above [] k one at = absurd (none-some one at)
one_above (x ∷ operations) zero one at = let e : x.unit ≡ one.unit = ap (λ (a : Asked). a.unit) (same_Some x one at) in omega (arith, e)
one_above (x ∷ operations) (suc k) one at = let more = one_above operations k one at in omega (arith, more)

-- the operations that are asked for, by the numbers of the shared operations
pub record AreAsked (diagram : Diagram) (plan : Resolved) (times : Times) (operations : List Asked) : Type 0 where
  pub size : length operations ≡ length (shared_operations diagram (attributes_of diagram) plan)
  pub units : (number : ℕ) (o : Operation) (one : Asked) → IsOperation diagram (attributes_of diagram) plan number o
      → slice_get operations number ≡ Some one
      → one.unit ≡ unit_of diagram (attributes_of diagram) plan times number o

pub units_are_all : UnitsAreThere → UnitsAreUsed
    → (diagram : Diagram) (plan : Resolved) (times : Times) (operations : List Asked)
    → AreAsked diagram plan times operations
    → unit_count operations ≡ units_in_all diagram (attributes_of diagram) plan times
units_are_all there used diagram plan times operations asked =
    let all : List Operation = shared_operations diagram (attributes_of diagram) plan in
    let total : ℕ = units_in_all diagram (attributes_of diagram) plan times in
    let low = all_below operations total (λ k one at.
    let size = asked.size in
    let inside = slice_get_within operations k one at in
    let o : Operation = get_or all k (operation 0 0) in
    let o_at : slice_get all k ≡ Some o = slice_get-get_or all k (operation 0 0) (omega (arith, inside, size)) in
    let e = asked.units k o one o_at at in
    let below = there diagram (attributes_of diagram) plan times k o o_at in
    omega (arith, e, below)) in
    go total refl low
  where
    go : (n : ℕ) → units_in_all diagram (attributes_of diagram) plan times ≡ n → unit_count operations ≤ n → unit_count operations ≡ n
    go zero e low = omega (arith, low)
    go (suc n) e low =
        let last = used diagram (attributes_of diagram) plan times n (omega (arith, e)) in
        let size = asked.size in
        let inside = slice_get_within (shared_operations diagram (attributes_of diagram) plan) last.0 last.1 last.2 in
        let one : Asked = get_or operations last.0 (record { frame = record { period = 0; latency = 0 }; slot = 0; unit = 0; left = 0; right = 0 }) in
        let at : slice_get operations last.0 ≡ Some one =
        slice_get-get_or operations last.0
        (record { frame = record { period = 0; latency = 0 }; slot = 0; unit = 0; left = 0; right = 0 })
        (omega (arith, inside, size)) in
        let is = asked.units last.0 last.1 one last.2 at in
        let unit = last.3 in
        let above = one_above operations last.0 one at in
        omega (arith, low, is, unit, above)
