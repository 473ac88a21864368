-- A netlist that has only the nets that readers name is under way.
use Rattle.std.proofs.Common.{◌≡◌, ℕ, zero, suc, ◌-◌, ◌<◌, ◌≤◌, inl, inr, true, false, List, [], length, Some, ap, sym, ◌∙◌, subst, arith, refl}
use Rattle.std.specs.Prelude.{slice_get, nat_lt, get_or}
use Rattle.std.proofs.lemmas.Bool.{cond-true, cond-false, cases_lt, lt-ltb, le-ltb, false≢true, cases_Bool}
use Rattle.std.proofs.lemmas.Option.{none-some, same_Some, slice_get_within, slice_get-get_or}
use Rattle.fx_type.specs.declared.kind.FxType.{FxType}
use Rattle.fx_type.specs.FxType.{IsType, is_signed, width_of}
use Rattle.dg_model.specs.declared.diagram.Diagram.{Diagram}
use Rattle.dg_model.specs.declared.diagram.Block.{Block}
use Rattle.dg_model.specs.Library.{row_of}
use Rattle.dg_model.specs.Attributes.{attributes_of}
use Rattle.dg_model.specs.RootElements.{RootElement, root_element, root_inputs}
use Rattle.dg_model.specs.Solves.{IsShown, shown_ports, shown_width, width_of_role}
use Rattle.dg_model.specs.declared.row.Role.{Role}
use Rattle.dg_model.specs.Signals.{Attributes}
use Rattle.dg_model.specs.Laws.{InputsAreListed}
use Rattle.dg_model.specs.Wired.{root_input}
use Rattle.dg_tables.specs.Laws.{IsOrdered, TypesAreValid}
use Rattle.hw_net.specs.declared.netlist.Net.{Net}
use Rattle.hw_net.specs.declared.netlist.NetKind.{NetKind}
use Rattle.hw_net.specs.declared.netlist.NetKind.TheVariants.{Comb}
use Rattle.hw_net.specs.declared.netlist.NetOp.{NetOp}
use Rattle.hw_net.specs.declared.netlist.NetOp.TheVariants.{Input, Resize}
use Rattle.hw_net.specs.Circuit.{Circuit}
use Rattle.hw_net.specs.Frames.{CountersDiffer, counted_frame}
use Rattle.hw_net.specs.Netlist.{HasWord, reads_now}
use Rattle.hw_sched.proofs.Periods.{readable_at}
use Rattle.hw_build.specs.Places.{Places}
use Rattle.hw_build.specs.inner.Facts.{HaveInputs}
use Rattle.hw_build.specs.inner.HubPlaces.{before, hub_of, input_net, is_input_role, own_count, own_hubs, port_size, hub_start, hubs_in_all, owner_in, owner_of, start_level, hub_at, HasHubs}
use Rattle.hw_build.specs.inner.Levels.{IsLevelled}
use Rattle.hw_build.specs.inner.Soundness.{IsSoundNet, AreSound}
use Rattle.hw_build.specs.inner.UnderWay.{hub_level, HaveHubs}
use Rattle.hw_build.proofs.HubSteps.{own_other}
use Rattle.hw_build.proofs.HubStart.{one_port}
use Rattle.fx_type.proofs.Ranges.{type-word}
use Rattle.math_list.proofs.Places.{get_some}

-- ---- sums

pub before_up : (size : ℕ → ℕ) (m n : ℕ) → m ≤ n → before size m ≤ before size n
before_up size m zero le = let e : m ≡ 0 = omega (arith, le) in let h : before size m ≡ 0 = ap (before size) e in omega (arith, h)
before_up size m (suc n) le = elim (cases_lt m (suc n)) [
  | inl less ↦ let h = before_up size m n (omega (arith, less)) in omega (arith, h)
  | inr past ↦ let e : m ≡ suc n = omega (arith, le, past) in let h : before size m ≡ before size (suc n) = ap (before size) e in omega (arith, h)
]

-- the block to which a net belongs is found
pub owner_is : (size : ℕ → ℕ) (count block k : ℕ) → block < count → before size block ≤ k → k < before size (suc block) → owner_in size count k ≡ block
owner_is size zero block k below low high = absurd (omega (arith, below))
owner_is size (suc n) block k below low high = elim (cases_lt block n) [
  | inl less ↦
      let up = before_up size (suc block) n (omega (arith, less)) in
      cond-true {A = ℕ} (nat_lt k (before size n)) (owner_in size n k) n (lt-ltb k (before size n) (omega (arith, up, high))) ∙ owner_is size n block k less low high
  | inr past ↦
      let e : block ≡ n = omega (arith, below, past) in
      let start : before size block ≡ before size n = ap (before size) e in
      cond-false {A = ℕ} (nat_lt k (before size n)) (owner_in size n k) n (le-ltb k (before size n) (omega (arith, start, low))) ∙ sym e
]

pub find_owner : (size : ℕ → ℕ) (count k : ℕ) → k < before size count → (block : ℕ) × (block < count) × (before size block ≤ k) × (k < before size (suc block))
find_owner size zero k below = absurd (omega (arith, below))
find_owner size (suc n) k below = elim (cases_lt k (before size n)) [
  | inl less ↦ let h = find_owner size n k less in (h.0, omega (arith, h.1), h.2, h.3)
  | inr past ↦ (n, omega arith, omega (arith, past), below)
]

module _ (diagram : Diagram) (earlier later : Circuit) (firsts : List (List ℕ)) (has : HasHubs diagram earlier later firsts) where
  abbrev roots : List RootElement
  roots = root_inputs diagram (attributes_of diagram)

  -- ---- what the nets are

  pub bare : (k : ℕ) (net : Net) → slice_get later.nets k ≡ Some net → (op : NetOp) × (net.kind ≡ Comb op [])
  bare k net at = elim (cases_lt k (length roots)) [
    | inl less ↦
        let e : RootElement = get_or roots k (record { number = 0; block = 0; element = 0; type = (attributes_of diagram).type_at 0 1; period = (attributes_of diagram).period_at 0 }) in
        let is = has.inputs k e (slice_get-get_or roots k _ less) in
        (Input k, ap (λ (n : Net). n.kind) (sym (same_Some (input_net e.type k) net (sym is ∙ at))))
    | inr past ↦
        let size = has.size in
        let inside = slice_get_within later.nets k net at in
        let found = find_owner (own_hubs diagram) (length diagram.blocks) (k - length roots) (omega (arith, size, inside, past)) in
        let block = get_some diagram.blocks found.0 found.1 in
        let low = found.2 in
        let high = found.3 in
        let is = (has.fresh found.0 block.0 k block.1 (omega (arith, low, past)) (omega (arith, high, past))).0 in
        (Resize, ap (λ (n : Net). n.kind) (sym (same_Some (hub_of ((attributes_of diagram).type_at found.0 1)) net (sym is ∙ at))))
  ]

  -- they read nothing
  pub levelled : (level : ℕ → ℕ) → IsLevelled later.nets level
  levelled level = record {
    below = λ k net i read at reads.
        let op = bare k net at in
        absurd (none-some read (ap (λ (kind : NetKind). slice_get (reads_now kind) i) (sym op.1) ∙ reads));
    counters = λ k counter.
        let op = bare k counter.at.net counter.at.is in
        absurd (none-some counter.frame (ap (λ (kind : NetKind). counted_frame kind) (sym op.1) ∙ counter.at.counts));
  }

  -- and none counts
  pub differ : CountersDiffer later.nets
  differ = record {
    same = λ i j frame one other.
        let op = bare i one.net one.is in
        absurd (none-some frame (ap (λ (kind : NetKind). counted_frame kind) (sym op.1) ∙ one.counts));
  }

  pub inputs_begun : (places : Places) → ((k : ℕ) (e : RootElement) → slice_get roots k ≡ Some e → places.input e.number e.element ≡ k) → HaveInputs diagram places later
  inputs_begun places named = record {
    each = λ port e at. record {
      net = input_net e.type port;
      is = ap (slice_get later.nets) (named port e at) ∙ has.inputs port e at;
      kind = refl;
      wide = refl;
      sign = refl;
    };
  }

  -- ---- where the elements of blocks other than root inputs stand

  pub place_other : (block : ℕ) (b : Block) (port element : ℕ) → IsShown diagram (attributes_of diagram) block b port element → is_input_role (row_of b.kind).place.role ≡ false
      → (hub_start diagram block ≤ hub_at firsts block port element) × (hub_at firsts block port element < hub_start diagram (suc block))
  place_other block b port element shown other =
      let own : own_hubs diagram block ≡ before (port_size diagram block b) (shown_ports b.kind b.outputs) =
      ap (own_count diagram block) shown.block_is ∙ own_other (is_input_role (row_of b.kind).place.role) (before (port_size diagram block b) (shown_ports b.kind b.outputs)) other
      in
      let from = shown.port_from in
      let to = shown.port_to in
      let here : suc (port - 1) ≡ port = omega (arith, from) in
      let wide : port_size diagram block b (port - 1) ≡ shown_width diagram (attributes_of diagram) b.kind block port = ap (shown_width diagram (attributes_of diagram) b.kind block) here in
      let up = before_up (port_size diagram block b) (suc (port - 1)) (shown_ports b.kind b.outputs) (omega (arith, from, to)) in
      let below = shown.element_below in
      let is = has.of_others block b port element shown other in
      (omega (arith, is), omega (arith, is, own, wide, up, below))

  -- one that is closed later stands on the level of its block
  pub level_other : (place_of : ℕ → ℕ) (block : ℕ) (b : Block) (port element : ℕ) → IsShown diagram (attributes_of diagram) block b port element → is_input_role (row_of b.kind).place.role ≡ false
      → start_level diagram place_of (hub_at firsts block port element) ≡ hub_level (place_of block)
  level_other place_of block b port element shown other =
      let place = place_other block b port element shown other in
      let low = place.0 in
      let high = place.1 in
      let n : ℕ = hub_at firsts block port element in
      let owner : owner_of diagram n ≡ block =
      owner_is (own_hubs diagram) (length diagram.blocks) block (n - length roots)
      (slice_get_within diagram.blocks block b shown.block_is) (omega (arith, low))
      (omega (arith, low, high)) in
      cond-false {A = ℕ} (nat_lt n (length roots)) 0 (hub_level (place_of (owner_of diagram n))) (le-ltb n (length roots) (omega (arith, low))) ∙ ap (λ (x : ℕ). hub_level (place_of x)) owner

  pub fresh_other : (block : ℕ) (b : Block) (port element : ℕ) → IsShown diagram (attributes_of diagram) block b port element → is_input_role (row_of b.kind).place.role ≡ false
      → slice_get later.nets (hub_at firsts block port element) ≡ Some (hub_of ((attributes_of diagram).type_at block 1))
  fresh_other block b port element shown other = let place = place_other block b port element shown other in (has.fresh block b (hub_at firsts block port element) shown.block_is place.0 place.1).0

pub input_number : (role : Role) → is_input_role role ≡ true → (number : ℕ) × (root_input role ≡ Some number)
input_number (Role.RootInput number) is = (number, refl)
input_number _ is = absurd (false≢true is)

pub input_width : (diagram : Diagram) (a : Attributes) (role : Role) (block port : ℕ) → is_input_role role ≡ true → width_of_role diagram a role block port ≡ a.width_at block port
input_width diagram a (Role.RootOutput number) block port is = absurd (false≢true is)
input_width diagram a _ block port is = refl

-- a net that shows an input port is sound
sound_input : (now : Circuit) (inputs k : ℕ) (type : FxType) → IsType type → k < inputs → IsSoundNet now inputs (input_net type k)
sound_input now inputs k type is below = record {
  word = type-word type is;
  kind = (refl, below);
  there = λ j d within. absurd (omega (arith, within));
  counted = λ frame names. absurd (none-some frame names);
}

-- the hub of an element of a root input is one of the inputs, which tells the element
pub record IsRootHub (diagram : Diagram) (firsts : List (List ℕ)) (block port element : ℕ) : Type 0 where
  pub number : ℕ
  pub at : slice_get (root_inputs diagram (attributes_of diagram)) (hub_at firsts block port element) ≡ Some (root_element (attributes_of diagram) number block element)
  pub first : port ≡ 1

module _ (diagram : Diagram) (order : List ℕ) (earlier later : Circuit) (firsts : List (List ℕ))
    (has : HasHubs diagram earlier later firsts) (listed : InputsAreListed)
    (ordered : IsOrdered diagram order) where
  pub root_hub : (block : ℕ) (b : Block) (port element : ℕ)
      → IsShown diagram (attributes_of diagram) block b port element
      → is_input_role (row_of b.kind).place.role ≡ true → IsRootHub diagram firsts block port element
  root_hub block b port element shown input =
      let one = one_port b.kind b.inputs b.outputs (readable_at diagram ordered.checked.wired block b shown.block_is).ports input in
      let from = shown.port_from in
      let to = shown.port_to in
      let first : port ≡ 1 = omega (arith, one, from, to) in
      let number = input_number (row_of b.kind).place.role input in
      let wide : shown_width diagram (attributes_of diagram) b.kind block port ≡ (attributes_of diagram).width_at block 1 =
      input_width diagram (attributes_of diagram) (row_of b.kind).place.role block port input ∙ ap (λ (p : ℕ). (attributes_of diagram).width_at block p) first
      in
      let below = shown.element_below in
      let found = (listed diagram (attributes_of diagram) ordered.checked.wired).has_each block b number.0 element shown.block_is number.1 (omega (arith, below, wide)) in
      let e : RootElement = root_element (attributes_of diagram) number.0 block element in
      let here : hub_at firsts block port element ≡ found.0 = ap (λ (p : ℕ). hub_at firsts block p element) first ∙ has.of_inputs found.0 e found.1 in
      record { number = number.0; at = ap (slice_get (root_inputs diagram (attributes_of diagram))) here ∙ found.1; first = first }

module _ (diagram : Diagram) (order : List ℕ) (earlier later : Circuit) (firsts : List (List ℕ))
    (has : HasHubs diagram earlier later firsts) (listed : InputsAreListed) (valid : TypesAreValid)
    (ordered : IsOrdered diagram order) where
  abbrev all_roots : List RootElement
  all_roots = root_inputs diagram (attributes_of diagram)

  -- the net of an element of a root input is the input's
  pub place_input : (block : ℕ) (b : Block) (port element : ℕ) → IsShown diagram (attributes_of diagram) block b port element → is_input_role (row_of b.kind).place.role ≡ true
      → (k : ℕ) × (e : RootElement) × (slice_get all_roots k ≡ Some e) × (hub_at firsts block port element ≡ k) × (e.type ≡ (attributes_of diagram).type_at block 1)
  place_input block b port element shown input =
      let hub = root_hub diagram order earlier later firsts has listed ordered block b port element shown input in
      (hub_at firsts block port element, root_element (attributes_of diagram) hub.number block element, hub.at, refl, refl)

  pub facts_of : (place_of : ℕ → ℕ) (block : ℕ) (b : Block) (port element : ℕ) → IsShown diagram (attributes_of diagram) block b port element
      → (hub_at firsts block port element < hubs_in_all diagram)
      × HasWord later.nets (hub_at firsts block port element) (width_of ((attributes_of diagram).type_at block port)) (is_signed ((attributes_of diagram).type_at block port))
      × (start_level diagram place_of (hub_at firsts block port element) ≤ hub_level (place_of block))
  facts_of place_of block b port element shown = elim (cases_Bool (is_input_role (row_of b.kind).place.role)) [
    | inl input ↦
        let place = place_input block b port element shown input in
        let k : ℕ = place.0 in
        let inside = slice_get_within all_roots k place.1 place.2 in
        let here : hub_at firsts block port element ≡ k = place.3 in
        let flat : start_level diagram place_of (hub_at firsts block port element) ≡ 0 =
        ap (start_level diagram place_of) here
        ∙ cond-true {A = ℕ} (nat_lt k (length all_roots)) 0 (hub_level (place_of (owner_of diagram k)))
        (lt-ltb k (length all_roots) inside) in (
          omega (arith, here, inside),
          record { net = input_net place.1.type k; is = ap (slice_get later.nets) here ∙ has.inputs k place.1 place.2; wide = ap width_of place.4; sign = ap is_signed place.4 },
          omega (arith, flat),
        )
    | inr other ↦
        let place = place_other diagram earlier later firsts has block b port element shown other in
        let high = place.1 in
        let up = before_up (own_hubs diagram) (suc block) (length diagram.blocks) (slice_get_within diagram.blocks block b shown.block_is) in
        let flat = level_other diagram earlier later firsts has place_of block b port element shown other in (
          omega (arith, high, up),
          record { net = hub_of ((attributes_of diagram).type_at block 1); is = fresh_other diagram earlier later firsts has block b port element shown other; wide = refl; sign = refl },
          omega (arith, flat),
        )
  ]

  pub hubs_begun : (places : Places) (place_of : ℕ → ℕ)
      → ((block : ℕ) (b : Block) (port element : ℕ) → IsShown diagram (attributes_of diagram) block b port element
      → places.after block port element ≡ hub_at firsts block port element)
      → HaveHubs diagram places place_of (hubs_in_all diagram) later (start_level diagram place_of)
  hubs_begun places place_of named = record {
    there = let size = has.size in omega (arith, size);
    below = λ block b port element shown. let e = named block b port element shown in let h = (facts_of place_of block b port element shown).0 in omega (arith, e, h);
    words = λ block b port element shown. subst
        (λ (n : ℕ). HasWord later.nets n (width_of ((attributes_of diagram).type_at block port))
        (is_signed ((attributes_of diagram).type_at block port))) (sym (named block b port element shown))
        (facts_of place_of block b port element shown).1;
    levels = λ block b port element shown. subst
        (λ (n : ℕ). start_level diagram place_of n ≤ hub_level (place_of block))
        (sym (named block b port element shown)) (facts_of place_of block b port element shown).2;
  }

  pub sound_begun : AreSound (length all_roots) (hubs_in_all diagram) later (length all_roots)
  sound_begun = record {
    each = λ k net at. elim (cases_lt k (length all_roots)) [
      | inl less ↦
          let e : RootElement = get_or all_roots k (root_element (attributes_of diagram) 0 0 0) in
          let e_at : slice_get all_roots k ≡ Some e = slice_get-get_or all_roots k (root_element (attributes_of diagram) 0 0 0) less in
          let of = (listed diagram (attributes_of diagram) ordered.checked.wired).elements_of k e e_at in
          let typed : e.type ≡ (attributes_of diagram).type_at e.block 1 = ap (λ (x : RootElement). x.type) of.4 in
          let type : IsType e.type = subst IsType (sym typed) (valid diagram order e.block of.0 ordered of.1).0 in
          inr (subst (λ (n : Net). IsSoundNet later (length all_roots) n)
          (same_Some (input_net e.type k) net (sym (has.inputs k e e_at) ∙ at))
          (sound_input later (length all_roots) k e.type type less))
      | inr past ↦ let size = has.size in let inside = slice_get_within later.nets k net at in inl (omega (arith, past), omega (arith, inside, size))
    ];
  }
