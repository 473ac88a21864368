-- Why the shared operations of a schedule can share multipliers.
use Rattle.std.proofs.Common.{◌≡◌, ◌≢◌, ℕ, suc, ◌*◌, ◌<◌, ◌≤◌, List, [], ◌∷◌, length, Some, slice_get, slice_index_or, ap, sym, ◌∙◌, arith, refl}
use Rattle.std.proofs.lemmas.Option.{slice_get_within, slice_get-get_or, same_Some}
use Rattle.fx_type.specs.declared.kind.FxType.{FxType}
use Rattle.fx_type.specs.FxType.{is_signed, width_of}
use Rattle.dg_model.specs.declared.diagram.Diagram.{Diagram}
use Rattle.dg_model.specs.declared.resolved.Resolved.{Resolved}
use Rattle.dg_model.specs.Attributes.{attributes_of}
use Rattle.hw_latency.specs.Weight.{samples}
use Rattle.hw_net.specs.declared.netlist.Frame.{Frame}
use Rattle.hw_net.specs.declared.netlist.Net.{Net}
use Rattle.hw_net.specs.Circuit.{Circuit}
use Rattle.hw_net.specs.Netlist.{HasWord}
use Rattle.hw_sched.specs.Slots.{Timing, Operation as Shared, OperationKind, shared_operations, kind_of}
use Rattle.hw_sched.specs.Laws.{PeriodsAreAbove, PeriodsAreShort, OperationsAreServed, OperationsHavePeriods, SlotsDiffer, UnitsAreThere, UnitsAreUsed, ReadyFits, IsOperation as IsSharedAt}
use Rattle.hw_sched.specs.Ready.{units_in_all}
use Rattle.hw_sched.specs.Scheduled.{IsScheduled}
use Rattle.hw_share.specs.declared.operation.Operation.{Operation}
use Rattle.hw_share.specs.Operations.{IsOperation, AreApart, IsUsed, CanShare, SameWord, unit_count}
use Rattle.hw_build.specs.inner.Owed.{IsMade, AreMade}
use Rattle.fx_type.proofs.Ranges.{type-word}

count-within : (operations : List Operation) (most : ℕ) → ((k : ℕ) (one : Operation) → slice_get operations k ≡ Some one → one.unit < most) → unit_count operations ≤ most
count-within [] most each = omega arith
count-within (one ∷ operations) most each =
    let first = each 0 one refl in
    let rest = count-within operations most (λ k other at. each (suc k) other at) in
    omega (arith, first, rest)

no-shared : Shared
no-shared = record { block = 0; element = 0 }

module _ (above : PeriodsAreAbove) (short : PeriodsAreShort) (served : OperationsAreServed)
    (periods : OperationsHavePeriods) (differ : SlotsDiffer) (below : UnitsAreThere) (used : UnitsAreUsed)
    (fits : ReadyFits)
    (diagram : Diagram) (plan : Resolved) (timing : Timing) (net : Circuit) (operations : List Operation)
    (scheduled : IsScheduled diagram plan timing) (cycles : net.cycles ≡ plan.cycles)
    (made : AreMade diagram plan timing net operations) where
  abbrev kind : Shared → OperationKind
  kind o = kind_of diagram (attributes_of diagram) timing o

  abbrev shared-at : ℕ → Shared
  shared-at k = slice_index_or (shared_operations diagram (attributes_of diagram) plan) k no-shared

  is-shared : (k : ℕ) (one : Operation) → slice_get operations k ≡ Some one → IsSharedAt diagram (attributes_of diagram) plan k (shared-at k)
  is-shared k one at = slice_get-get_or (shared_operations diagram (attributes_of diagram) plan) k no-shared (omega (arith, slice_get_within operations k one at, made.size))

  is-made : (k : ℕ) (one : Operation) → slice_get operations k ≡ Some one → IsMade diagram plan timing net k (shared-at k) one
  is-made k one at = made.each k (shared-at k) one (is-shared k one at) at

  each-one : (k : ℕ) (one : Operation) → slice_get operations k ≡ Some one → IsOperation net one
  each-one k one at =
      let o : Shared = shared-at k in
      let is = is-shared k one at in
      let m : IsMade diagram plan timing net k (shared-at k) one = is-made k one at in
      let period = periods diagram (attributes_of diagram) plan k (shared-at k) is in
      let p : ℕ = period.0 in
      let of_kind : (kind (shared-at k)).period ≡ period.0 = ap samples period.1 in
      let own : one.frame.period ≡ period.0 = ap (λ (f : Frame). f.period) m.frame ∙ of_kind in
      let serves = served diagram (attributes_of diagram) plan timing k (shared-at k) period.0 scheduled.timed.fed scheduled.timed.depths is period.1 in
      let ready = fits diagram plan timing (shared-at k).block period.0 scheduled period.1 in
      let room : one.slot < period.0 * plan.cycles = omega (arith, m.slot, serves.within, serves.ready, ready) in
      let clocks : one.frame.period * net.cycles ≡ period.0 * plan.cycles = (λ j. own j * cycles j) in
      record {
        left = m.left.net;
        right = m.right.net;
        left_is = m.left.is;
        right_is = m.right.is;
        left_word = rw (m.left.wide, m.left.sign) (type-word (kind (shared-at k)).left m.left_type);
        right_word = rw (m.right.wide, m.right.sign) (type-word (kind (shared-at k)).right m.right_type);
        product = rw (m.left.wide, m.left.sign, m.right.wide, m.right.sign, ← m.is_full.width, ← m.is_full.sign) (type-word m.full m.is_full.valid);
        some = omega (arith, own, above diagram (shared-at k).block period.0 scheduled.checked period.1);
        most = omega (arith, own, short diagram (shared-at k).block period.0 scheduled.checked period.1);
        inside = omega (arith, clocks, room);
      }

  -- nets of one type have one word
  one-word : (first second : ℕ) (type other : FxType) → ◌≡◌ {A = FxType} type other
      → HasWord net.nets first (width_of type) (is_signed type)
      → HasWord net.nets second (width_of other) (is_signed other) → SameWord net net first second
  one-word first second type other same p q = λ found there.
      let e : p.net ≡ found = same_Some p.net found (sym p.is ∙ there) in
      record {
        net = q.net;
        is = q.is;
        wide = q.wide ∙ ap width_of (sym same) ∙ sym p.wide ∙ ap (λ (x : Net). x.width) e;
        sign = q.sign ∙ ap is_signed (sym same) ∙ sym p.sign ∙ ap (λ (x : Net). x.signed) e;
      }

  two-apart : (j k : ℕ) (one other : Operation) → j ≢ k → slice_get operations j ≡ Some one → slice_get operations k ≡ Some other → one.unit ≡ other.unit → AreApart net one other
  two-apart j k one other far at there units =
      let m = is-made j one at in
      let n = is-made k other there in
      let apart = differ diagram (attributes_of diagram) plan timing j k (shared-at j) (shared-at k) far (is-shared j one at) (is-shared k other there) (sym m.unit ∙ units ∙ n.unit) in
      record {
        frames = n.frame ∙ ap (λ (x : OperationKind). record { period = x.period; latency = x.lat }) (sym apart.kind) ∙ sym m.frame;
        slots = λ same. apart.slots (sym m.slot ∙ same ∙ n.slot);
        left = one-word one.left other.left (kind (shared-at j)).left (kind (shared-at k)).left (ap (λ (x : OperationKind). x.left) apart.kind) m.left n.left;
        right = one-word one.right other.right (kind (shared-at j)).right (kind (shared-at k)).right (ap (λ (x : OperationKind). x.right) apart.kind) m.right n.right;
      }

  all-used : (unit : ℕ) → unit < unit_count operations → IsUsed operations unit
  all-used unit less =
      let within : unit_count operations ≤ units_in_all diagram (attributes_of diagram) plan timing =
      count-within operations (units_in_all diagram (attributes_of diagram) plan timing)
      (λ k one at. let m = is-made k one at in let few =
      below diagram (attributes_of diagram) plan timing k (shared-at k) (is-shared k one at) in
      omega (arith, m.unit, few)) in
      let u = used diagram (attributes_of diagram) plan timing unit (omega (arith, less, within)) in
      let inside : u.0 < length operations = omega (arith, slice_get_within (shared_operations diagram (attributes_of diagram) plan) u.0 u.1 u.2, made.size) in
      let there = slice_get-get_or operations u.0 (record { frame = record { period = 0; latency = 0 }; slot = 0; unit = 0; left = 0; right = 0 }) inside in
      let m = made.each u.0 u.1 (slice_index_or operations u.0 (record { frame = record { period = 0; latency = 0 }; slot = 0; unit = 0; left = 0; right = 0 })) u.2 there in
      record {
        place = u.0;
        one = slice_index_or operations u.0 (record { frame = record { period = 0; latency = 0 }; slot = 0; unit = 0; left = 0; right = 0 });
        is = there;
        has = m.unit ∙ u.3;
      }

  pub can-share : CanShare net operations
  can-share = record { each = each-one; apart = two-apart; used = all-used }
