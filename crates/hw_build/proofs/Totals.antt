-- What elements count for, net by net, is what their blocks do.
use Rattle.std.proofs.Common.{◌≡◌, ℕ, zero, suc, ◌+◌, ◌-◌, ◌*◌, ◌<◌, ◌≤◌, ◌⊎◌, inl, inr, Bool, true, false, List, [], ◌∷◌, length, map, filter, Option, Some, ap, sym, ◌∙◌, subst, refl, arith}
use Rattle.std.specs.Prelude.{slice_get, nat_lt, not, ◌&&◌, if◌then◌else◌}
use Rattle.std.specs.List.{sum}
use Rattle.std.proofs.Math.Nat.{mul-suc, mul-le-mul_left, mul_comm}
use Rattle.std.proofs.lemmas.Bool.{and_parts, cond-true, cond-false, cases_lt, lt-ltb, le-ltb, false≢true, cases_Bool}
use Rattle.math_list.specs.Numbers.{numbers_from}
use Rattle.dg_model.specs.declared.diagram.Diagram.{Diagram}
use Rattle.dg_model.specs.declared.diagram.Block.{Block}
use Rattle.dg_model.specs.declared.kind.Kind.{Kind}
use Rattle.dg_model.specs.declared.kind.Kind.TheVariants.{Inport, Outport, Constant, Ground, Sum, Gain, Product, Switch, Relational, Logic, Convert, Delay, Mux, Demux, RateTransition, Pass}
use Rattle.dg_model.specs.declared.kind.Kind.TheVariants.{EnableTest, EnOut, Terminator}
use Rattle.dg_model.specs.declared.resolved.Resolved.{Resolved}
use Rattle.dg_model.specs.Attributes.{attributes_of}
use Rattle.dg_model.specs.Library.{row_of}
use Rattle.dg_model.specs.Readable.{HasPorts}
use Rattle.dg_model.specs.PlanOf.{stages_at, StagesAreAllowed}
use Rattle.dg_model.specs.RootElements.{root_inputs}
use Rattle.dg_model.specs.Signals.{Attributes}
use Rattle.dg_model.specs.Solves.{shown_ports, shown_width}
use Rattle.dg_model.specs.Wires.{period_into}
use Rattle.dg_tables.specs.Laws.{IsOrdered}
use Rattle.hw_latency.specs.Shared.{multiplies, multiplies_if, is_shared}
use Rattle.hw_sched.specs.Ready.{unshared}
use Rattle.hw_sched.specs.Storage.{keeps_own, kept_by_role, registers_at, registers_each, registers_in_all}
use Rattle.hw_sched.proofs.Periods.{readable_at}
use Rattle.math_list.proofs.Places.{sum-cons, get_some}
use Rattle.math_list.proofs.Sums.{sum_below, sum_below_next}
use Rattle.hw_build.specs.inner.HubPlaces.{before, hubs_in_all, is_input_role, own_count, own_hubs, owner_of, port_size}
use Rattle.hw_build.specs.inner.Tally.{hub_products, hub_registers, products_by, registers_by}
use Rattle.hw_build.proofs.HubsOnly.{owner_is}
use Rattle.hw_build.proofs.LoopEnd.{multiplying_shows, multiplying_width}
use Rattle.hw_build.proofs.HubSteps.{own_input, own_other}

-- ---- sums

pub none_before : (f : ℕ → ℕ) (n : ℕ) → ((k : ℕ) → k < n → f k ≡ 0) → before f n ≡ 0
none_before f zero none = refl
none_before f (suc n) none = let rest = none_before f n (λ k below. none k (omega (arith, below))) in let last = none n (omega arith) in omega (arith, rest, last)

before_add : (f : ℕ → ℕ) (a c v : ℕ) → ((i : ℕ) → i < c → f (a + i) ≡ v) → before f (a + c) ≡ before f a + v * c
before_add f a zero v each = let flat : a + 0 ≡ a = omega arith in let e : before f (a + 0) ≡ before f a = ap (before f) flat in let none : v * 0 ≡ 0 = omega arith in omega (arith, e, none)
before_add f a (suc c) v each =
    let place : a + suc c ≡ suc (a + c) = omega arith in
    let next : before f (a + suc c) ≡ before f (suc (a + c)) = ap (before f) place in
    let rest = before_add f a c v (λ i below. each i (omega (arith, below))) in
    let last = each c (omega arith) in
    let product = mul-suc v c in
    omega (arith, next, rest, last, product)

-- of groups that follow one another, in each of which all count for the same
pub grouped : (f own each : ℕ → ℕ) (roots n : ℕ) → ((k : ℕ) → k < roots → f k ≡ 0)
    → ((m i : ℕ) → m < n → i < own m → f (roots + before own m + i) ≡ each m)
    → before f (roots + before own n) ≡ before (λ m. each m * own m) n
grouped f own each roots zero first rest = let flat : roots + before own 0 ≡ roots = omega arith in ap (before f) flat ∙ none_before f roots first
grouped f own each roots (suc n) first rest =
    let place : roots + before own (suc n) ≡ roots + before own n + own n = omega arith in
    let sum : before f (roots + before own (suc n)) ≡ before f (roots + before own n + own n) = ap (before f) place in
    let more = before_add f (roots + before own n) (own n) (each n) (λ i below. rest n i (omega arith) below) in
    let less = grouped f own each roots n first (λ m i below inside. rest m i (omega (arith, below)) inside) in
    omega (arith, sum, more, less)

before_le : (f g : ℕ → ℕ) (n : ℕ) → ((m : ℕ) → m < n → f m ≤ g m) → before f n ≤ sum_below g n
before_le f g zero each = omega arith
before_le f g (suc n) each =
    let rest = before_le f g n (λ m below. each m (omega (arith, below))) in
    let last = each n (omega arith) in
    let sum = sum_below_next g n in
    omega (arith, rest, last, sum)

before_same : (f g : ℕ → ℕ) (n : ℕ) → ((m : ℕ) → m < n → f m ≡ g m) → before f n ≡ sum_below g n
before_same f g zero each = refl
before_same f g (suc n) each =
    let rest = before_same f g n (λ m below. each m (omega (arith, below))) in
    let last = each n (omega arith) in
    let sum = sum_below_next g n in
    omega (arith, rest, last, sum)

-- of those of a list that pass a test
filtered : (p : ℕ → Bool) (w : ℕ → ℕ) (xs : List ℕ) → sum (map w (filter p xs)) ≡ sum (map (λ m. if p m then w m else 0) xs)
filtered p w [] = refl
filtered p w (x ∷ xs) = go (p x) refl (filtered p w xs)
  where
    go : (t : Bool) → p x ≡ t → sum (map w (filter p xs)) ≡ sum (map (λ m. if p m then w m else 0) xs)
        → sum (map w (if t then x ∷ filter p xs else filter p xs))
        ≡ sum (map (λ m. if p m then w m else 0) (x ∷ xs))
    go true e rest =
        let one = sum-cons (w x) (map w (filter p xs)) in
        let two = sum-cons (if p x then w x else 0) (map (λ (m : ℕ). if p m then w m else 0) xs) in
        let here : (if p x then w x else 0) ≡ w x = ap (λ (t : Bool). if t then w x else 0) e in
        omega (arith, rest, one, two, here)
    go false e rest =
        let two = sum-cons (if p x then w x else 0) (map (λ (m : ℕ). if p m then w m else 0) xs) in
        let here : (if p x then w x else 0) ≡ 0 = ap (λ (t : Bool). if t then w x else 0) e in
        omega (arith, rest, two, here)

-- ---- blocks

-- no register stands behind a kind, nor in it
record HasNone (kind : Kind) : Type 0 where
  pub pipelines : (row_of kind).hardware.pipelines ≡ false
  pub delay : (row_of kind).timing.delay ≡ 0
  pub kept : kept_by_role (row_of kind).place.role ≡ 0

-- a block shows one port, as wide as it is, or has no registers
shows_one : (diagram : Diagram) (a : Attributes) (block : ℕ) (kind : Kind) (inputs outputs : ℕ)
    → HasPorts kind inputs outputs → ((shown_ports kind outputs ≡ 1)
    × (shown_width diagram a kind block 1 ≡ a.width_at block 1)) ⊎ HasNone kind
shows_one diagram a block (Inport number width) inputs outputs ports = inl (ports.1, refl)
shows_one diagram a block (Outport number) inputs outputs ports = inr (record { pipelines = refl; delay = refl; kept = refl })
shows_one diagram a block (Constant value) inputs outputs ports = inl (ports.1, refl)
shows_one diagram a block Ground inputs outputs ports = inl (ports.1, refl)
shows_one diagram a block (Sum negative accum) inputs outputs ports = inl (ports.1, refl)
shows_one diagram a block (Gain value param) inputs outputs ports = inl (ports.1, refl)
shows_one diagram a block Product inputs outputs ports = inl (ports.1, refl)
shows_one diagram a block (Switch criterion threshold) inputs outputs ports = inl (ports.1, refl)
shows_one diagram a block (Relational operator) inputs outputs ports = inl (ports.1, refl)
shows_one diagram a block (Logic operator) inputs outputs ports = inl (ports.1, refl)
shows_one diagram a block (Convert stored) inputs outputs ports = inl (ports.1, refl)
shows_one diagram a block (Delay delay initial reset) inputs outputs ports = inl (ports.1, refl)
shows_one diagram a block (Mux sizes) inputs outputs ports = inl (ports.1, refl)
shows_one diagram a block (Demux sizes) inputs outputs ports = inr (record { pipelines = refl; delay = refl; kept = refl })
shows_one diagram a block (RateTransition period initial) inputs outputs ports = inl (ports.1, refl)
shows_one diagram a block (Pass width) inputs outputs ports = inl (ports.1, refl)
shows_one diagram a block EnableTest inputs outputs ports = inl (ports.1, refl)
shows_one diagram a block (EnOut reset initial) inputs outputs ports = inl (ports.1, refl)
shows_one diagram a block Terminator inputs outputs ports = inr (record { pipelines = refl; delay = refl; kept = refl })

module _ (diagram : Diagram) (plan : Resolved) (allowed : StagesAreAllowed diagram plan) (order : List ℕ) (ordered : IsOrdered diagram order) where
  abbrev a : Attributes
  a = attributes_of diagram

  abbrev roots : ℕ
  roots = length (root_inputs diagram a)

  -- the net belongs to its block
  owner_here : (m i : ℕ) → m < length diagram.blocks → i < own_hubs diagram m → owner_of diagram (roots + before (own_hubs diagram) m + i) ≡ m
  owner_here m i below inside = owner_is (own_hubs diagram) (length diagram.blocks) m (roots + before (own_hubs diagram) m + i - roots) below (omega arith) (omega (arith, inside))

  -- how many nets of its own a block has
  own_one : (m : ℕ) (b : Block) → slice_get diagram.blocks m ≡ Some b → shown_ports b.kind b.outputs ≡ 1 → shown_width diagram a b.kind m 1 ≡ a.width_at m 1 → own_hubs diagram m ≤ a.width_at m 1
  own_one m b at ports wide =
      let count : own_hubs diagram m ≡ own_count diagram m (Some b) = ap (own_count diagram m) at in
      elim (cases_Bool (is_input_role (row_of b.kind).place.role)) [
        | inl input ↦ let none = own_input (is_input_role (row_of b.kind).place.role) (before (port_size diagram m b) (shown_ports b.kind b.outputs)) input in omega (arith, count, none)
        | inr other ↦
            let all = own_other (is_input_role (row_of b.kind).place.role) (before (port_size diagram m b) (shown_ports b.kind b.outputs)) other in
            let one : before (port_size diagram m b) (shown_ports b.kind b.outputs) ≡ before (port_size diagram m b) 1 = ap (before (port_size diagram m b)) ports in
            let size : port_size diagram m b 0 ≡ a.width_at m 1 = wide in
            omega (arith, count, all, one, size)
      ]

  -- ---- registers

  zero_if : (t : Bool) (n : ℕ) → n ≡ 0 → (if t then n else 0) ≡ 0
  zero_if true n none = none
  zero_if false n none = refl

  -- none where no register stands behind a block or in it
  no_registers : (m : ℕ) (b : Block) → slice_get diagram.blocks m ≡ Some b → HasNone b.kind → registers_each diagram a plan m b ≡ 0
  no_registers m b at none =
      let stages : stages_at plan m ≡ 0 = elim (cases_lt 0 (stages_at plan m)) [
        | inl some ↦ absurd (false≢true (sym none.pipelines ∙ (allowed.each m b at some).kind))
        | inr past ↦ omega (arith, past)
      ] in
      let delay = zero_if (keeps_own b.enable (period_into diagram a m 1)) (row_of b.kind).timing.delay none.delay in
      let kept = none.kept in
      omega (arith, stages, delay, kept)

  registers_one : (m : ℕ) → m < length diagram.blocks → registers_by diagram plan m (slice_get diagram.blocks m) * own_hubs diagram m ≤ registers_at diagram a plan m (slice_get diagram.blocks m)
  registers_one m below =
      let some = get_some diagram.blocks m below in
      let b : Block = some.0 in
      let at = some.1 in
      let here : registers_each diagram a plan m b * own_hubs diagram m ≤ registers_at diagram a plan m (Some b) =
      elim (shows_one diagram a m b.kind b.inputs b.outputs
      (readable_at diagram ordered.checked.wired m b at).ports) [
        | inl one ↦
            (let less = mul-le-mul_left (registers_each diagram a plan m b) (own_one m b at one.0 one.1) in
            let swapped = mul_comm (registers_each diagram a plan m b) (a.width_at m 1) in
            omega (arith, less, swapped))
        | inr none ↦
            (let zero : registers_each diagram a plan m b * own_hubs diagram m ≡ 0 * own_hubs diagram m = ap (λ (n : ℕ). n * own_hubs diagram m) (no_registers m b at none) in
            omega (arith, zero))
      ] in
      subst (λ (o : Option Block). registers_by diagram plan m o * own_hubs diagram m ≤ registers_at diagram a plan m o) (sym at) here

  -- the registers of elements are those of blocks at the most
  pub total_registers : before (hub_registers diagram plan) (hubs_in_all diagram) ≤ registers_in_all diagram a plan
  total_registers =
      let all =
      grouped (hub_registers diagram plan) (own_hubs diagram) (λ m. registers_by diagram plan m (slice_get diagram.blocks m)) roots (length diagram.blocks)
      (λ k below. cond-true {A = ℕ} (nat_lt k roots) 0 (registers_by diagram plan (owner_of diagram k) (slice_get diagram.blocks (owner_of diagram k))) (lt-ltb k roots below))
      (λ m i below inside.
      cond-false {A = ℕ} (nat_lt (roots + before (own_hubs diagram) m + i) roots) 0
      (registers_by diagram plan (owner_of diagram (roots + before (own_hubs diagram) m + i))
      (slice_get diagram.blocks (owner_of diagram (roots + before (own_hubs diagram) m + i))))
      (le-ltb (roots + before (own_hubs diagram) m + i) roots (omega arith))
      ∙ ap (λ (x : ℕ). registers_by diagram plan x (slice_get diagram.blocks x)) (owner_here m i below inside))
      in
      let less = before_le (λ m. registers_by diagram plan m (slice_get diagram.blocks m) * own_hubs diagram m)
      (λ place. registers_at diagram a plan place (slice_get diagram.blocks place))
      (length diagram.blocks) registers_one in
      omega (arith, all, less)

  -- ---- multiplications

  multiplying_other : (kind : Kind) → (row_of kind).hardware.multiplies ≡ true → is_input_role (row_of kind).place.role ≡ false
  multiplying_other (Gain value param) is = refl
  multiplying_other Product is = refl
  multiplying_other _ is = absurd (false≢true is)

  own_multiplying : (m : ℕ) → m < length diagram.blocks → multiplies diagram m ≡ true → own_hubs diagram m ≡ a.width_at m 1
  own_multiplying m below is =
      let some = get_some diagram.blocks m below in
      let b : Block = some.0 in
      let at = some.1 in
      let kind : (row_of b.kind).hardware.multiplies ≡ true = sym (ap multiplies_if at) ∙ is in
      let ports = multiplying_shows b.kind b.inputs b.outputs kind (readable_at diagram ordered.checked.wired m b at).ports in
      let wide : port_size diagram m b 0 ≡ a.width_at m 1 = multiplying_width diagram a b.kind m 1 kind in
      let count : own_hubs diagram m ≡ own_count diagram m (Some b) = ap (own_count diagram m) at in
      let all = own_other (is_input_role (row_of b.kind).place.role) (before (port_size diagram m b) (shown_ports b.kind b.outputs)) (multiplying_other b.kind kind) in
      let one : before (port_size diagram m b) (shown_ports b.kind b.outputs) ≡ before (port_size diagram m b) 1 = ap (before (port_size diagram m b)) ports in
      omega (arith, wide, count, all, one)

  abbrev owns : ℕ → Bool
  owns m = multiplies diagram m && not (is_shared diagram a plan m)

  products_one : (m : ℕ) → m < length diagram.blocks → products_by diagram plan m * own_hubs diagram m ≡ (if owns m then a.width_at m 1 else 0)
  products_one m below = elim (cases_Bool (owns m)) [
    | inl is ↦
        (let one : products_by diagram plan m * own_hubs diagram m ≡ 1 * own_hubs diagram m = ap (λ (t : Bool). (if t then 1 else 0) * own_hubs diagram m) is in
        let width : (if owns m then a.width_at m 1 else 0) ≡ a.width_at m 1 = ap (λ (t : Bool). if t then a.width_at m 1 else 0) is in
        let own = own_multiplying m below (and_parts (multiplies diagram m) (not (is_shared diagram a plan m)) is).0 in
        omega (arith, one, width, own))
    | inr is ↦
        (let one : products_by diagram plan m * own_hubs diagram m ≡ 0 * own_hubs diagram m = ap (λ (t : Bool). (if t then 1 else 0) * own_hubs diagram m) is in
        let width : (if owns m then a.width_at m 1 else 0) ≡ 0 = ap (λ (t : Bool). if t then a.width_at m 1 else 0) is in
        omega (arith, one, width))
  ]

  -- the multiplications of elements are those that are shared by none
  pub total_products : before (hub_products diagram plan) (hubs_in_all diagram) ≡ unshared diagram a plan
  total_products =
      let all =
      grouped (hub_products diagram plan) (own_hubs diagram) (products_by diagram plan) roots (length diagram.blocks)
      (λ k below. cond-true {A = ℕ} (nat_lt k roots) 0 (products_by diagram plan (owner_of diagram k)) (lt-ltb k roots below))
      (λ m i below inside.
      cond-false {A = ℕ} (nat_lt (roots + before (own_hubs diagram) m + i) roots) 0
      (products_by diagram plan (owner_of diagram (roots + before (own_hubs diagram) m + i)))
      (le-ltb (roots + before (own_hubs diagram) m + i) roots (omega arith))
      ∙ ap (products_by diagram plan) (owner_here m i below inside))
      in
      let same = before_same (λ m. products_by diagram plan m * own_hubs diagram m) (λ m. if owns m then a.width_at m 1 else 0) (length diagram.blocks) products_one in
      let list = filtered owns (λ m. a.width_at m 1) (numbers_from 0 (length diagram.blocks)) in
      omega (arith, all, same, list)
