-- Each input port of a flat block has one edge, and each edge joins ports that are there.
use Rattle.std.proofs.Common.{◌≡◌, ℕ, ◌≤◌, Bool, true, false, ◌&&◌, eqb, List, All, Option, Some, None, refl, sym, ap, subst, ◌∙◌, arith}
use Rattle.std.specs.Prelude.{slice_get, option_map, count_by, MatchOption}
use Rattle.std.specs.List.{filter_map}
use Rattle.std.specs.Option.{is_some}
use Rattle.std.proofs.lemmas.Bool.{and_parts, and_from, eqb-true, eq-eqb, true≢false}
use Rattle.std.proofs.lemmas.Option.{same_Some}
use Rattle.dg_model.specs.declared.diagram.Block.{Block}
use Rattle.dg_model.specs.declared.diagram.Edge.{Edge}
use Rattle.dg_model.specs.declared.nested.Nested.{Nested}
use Rattle.dg_model.specs.declared.nested.NestedBlock.{NestedBlock}
use Rattle.dg_model.specs.declared.nested.NestedLine.{NestedLine}
use Rattle.dg_model.specs.declared.nested.Part.{Part}
use Rattle.dg_model.specs.declared.nested.Part.TheVariants.{Plain, In, Out, SubSystem, Enable}
use Rattle.dg_model.specs.declared.nested.Target.{Target}
use Rattle.dg_model.specs.declared.nested.Target.TheVariants.{Port, Enable as ToEnable}
use Rattle.dg_model.specs.Sound.{IsSound, HasParent, IsSubSystem}
use Rattle.dg_model.specs.Wired.{Joins}
use Rattle.dg_model.specs.Wires.{enters}
use Rattle.dg_flat.specs.declared.edges.FlatPort.{FlatPort}
use Rattle.dg_flat.specs.declared.numbering.Side.TheVariants.{In as Ins}
use Rattle.dg_flat.specs.Flat.{flat_blocks, flat_block, flat_place, first_port, end_at, joined, source_of, edge_of}
use Rattle.dg_flat.specs.Parts.{is_subsystem, in_number, is_number, first_in, count_in, inputs_of, enable_port, control_of}
use Rattle.dg_flat.specs.Rules.{KeepsWiring, KeepsEnable, AllNestedKeep, IsNumbered, IsDriven, MayStandAt, drivers, enable_drivers, is_port, is_enable_end}
use Rattle.dg_flat.proofs.Ends.{port_inner, port_own}
use Rattle.dg_flat.proofs.Firsts.{slot_back}
use Rattle.dg_flat.proofs.LinePorts.{GoodLine, good_lines, source_port, EndPort, end_port, Enters, port_of, in_block, out_block, out_inputs}
use Rattle.dg_flat.proofs.Lists.{each_given, count_kept, on_some}
use Rattle.dg_flat.proofs.Origins.{comes_from, one_origin}
use Rattle.dg_flat.proofs.PortReads.{some_inside}
use Rattle.dg_flat.proofs.Roles.{InPorts}
use Rattle.dg_flat.proofs.Verdicts.{numbered_no}
use Rattle.math_list.proofs.Places.{held as all_get}
use Rattle.dg_flat.proofs.FlatParts.{no_block}
use Rattle.math_list.proofs.Tests.{same_test}

-- ---- edges of lines

abbrev edge_between : FlatPort → FlatPort → Edge
edge_between source end = record { from = source.block; from_port = source.port; to = end.block; to_port = end.port }

edge_is : (blocks : List NestedBlock) (line : NestedLine) (source end : FlatPort)
    → source_of blocks line ≡ Some source → end_at blocks line.to line.target ≡ Some end
    → edge_of blocks line ≡ Some (edge_between source end)
edge_is blocks line source end from to = ap (λ (o : Option FlatPort). joined o (end_at blocks line.to line.target)) from ∙ ap (joined (Some source)) to

pub flat_joins : (nested : Nested) → IsSound nested → AllNestedKeep nested KeepsWiring → All (Joins (flat_blocks nested.blocks)) (filter_map (edge_of nested.blocks) nested.lines)
flat_joins nested sound keep = each_given (edge_of nested.blocks) (Joins (flat_blocks nested.blocks)) nested.lines (λ k line edge at is.
    let good = all_get (GoodLine nested) nested.lines k line (good_lines nested sound keep) at in
    let source = source_port nested line sound keep good in
    let end = end_port nested line sound keep good in
    let same = same_Some (edge_between source.port (port_of nested.blocks end.place end.port)) edge
    (sym (edge_is nested.blocks line source.port (port_of nested.blocks end.place end.port) source.is end.is)
    ∙ is) in
    subst (Joins (flat_blocks nested.blocks)) same (record { source = source.there; target = end.input }))

-- ---- the nested end of a flat input port

-- the lines to this end are those that drive the port
record Entry (nested : Nested) (place : ℕ) (x : NestedBlock) (port : ℕ) : Type 0 where
  to : ℕ
  is_end : Target → Bool
  once : drivers nested.lines to is_end ≡ 1
  arrives : (line : NestedLine) → line.to ≡ to → is_end line.target ≡ true → end_at nested.blocks line.to line.target ≡ Some (port_of nested.blocks place port)
  leads : (line : NestedLine) → Enters line place x.parent x.part port → (line.to ≡ to) × (is_end line.target ≡ true)

port_target : (target : Target) (port : ℕ) → is_port port target ≡ true → target ≡ Port port
port_target (Port own) port is = ap (λ (n : ℕ). Port n) (eqb-true own port is)
port_target ToEnable port is = absurd (true≢false (sym is))

control_target : (target : Target) → is_enable_end target ≡ true → target ≡ ToEnable
control_target (Port own) is = absurd (true≢false (sym is))
control_target ToEnable is = refl

target_port : (target : Target) (port : ℕ) → target ≡ Port port → is_port port target ≡ true
target_port target port is = ap (is_port port) is ∙ eq-eqb port port refl

-- the subsystem that holds a block
holder_of : (nested : Nested) (place system : ℕ) (x : NestedBlock) → IsSound nested → slice_get nested.blocks place ≡ Some x → x.parent ≡ Some system →
    (holder : NestedBlock) × (slice_get nested.blocks system ≡ Some holder) × (holder.part ≡ SubSystem)
holder_of nested place system x sound at held =
    go (slice_get nested.blocks system) refl (subst (λ (s : Option ℕ). HasParent nested.blocks place s) held (sound.parents place x at)).1 where
      part_is : (part : Part) → IsSubSystem part → part ≡ SubSystem
      part_is (Plain block) is = absurd is
      part_is (In block number) is = absurd is
      part_is (Out block number) is = absurd is
      part_is SubSystem is = refl
      part_is (Enable reset) is = absurd is

      go : (o : Option NestedBlock) → slice_get nested.blocks system ≡ o → MatchOption o ⊥ (λ other. IsSubSystem other.part) →
          (holder : NestedBlock) × (slice_get nested.blocks system ≡ Some holder) × (holder.part ≡ SubSystem)
      go None e has = absurd has
      go (Some holder) e has = (holder, e, part_is holder.part has)

-- an inner Inport is the first of its number
first_is : (nested : Nested) (place system number : ℕ) (x : NestedBlock) → slice_get nested.blocks place ≡ Some x → x.parent ≡ Some system → in_number x.part ≡ Some number →
    IsNumbered nested.blocks place x.parent in_number number → first_in nested.blocks (Some system) (λ part. is_number number (in_number part)) ≡ Some place
first_is nested place system number x at held its is =
    let found = numbered_no nested.blocks Ins place number x at (some_inside nested.blocks place x at) its is in
    let counts = ap (λ (s : Option ℕ). count_in nested.blocks s (λ part. is_some (in_number part))) (slot_back x.parent) in
    ap (λ (s : Option ℕ). first_in nested.blocks s (λ part. is_number number (in_number part))) (sym held ∙ sym (slot_back x.parent))
    ∙ sym (found.within is.above (omega (arith, is.within, counts)))

module _ (nested : Nested) (sound : IsSound nested) (keep : AllNestedKeep nested KeepsWiring)
    (stand : AllNestedKeep nested KeepsEnable) (place port : ℕ) (x : NestedBlock)
    (at : slice_get nested.blocks place ≡ Some x) (above : 1 ≤ port) where
  own_entry : (part : Part) → x.part ≡ part → is_subsystem part ≡ false → port ≤ inputs_of nested.blocks place part →
      ((line : NestedLine) → Enters line place x.parent part port → (line.to ≡ place) × (line.target ≡ Port port)) → Entry nested place x port
  own_entry part e kept within leads = record {
    to = place;
    is_end = is_port port;
    once = (keep place x at).driven port above (subst (λ (p : Part). port ≤ inputs_of nested.blocks place p) (sym e) within);
    arrives = λ line to is.
        ap (λ (k : ℕ). end_at nested.blocks k line.target) to ∙ ap (end_at nested.blocks place) (port_target line.target port is)
        ∙ port_own nested.blocks place port Ins x at (ap is_subsystem e ∙ kept);
    leads = λ line has.
        let both = leads line (subst (λ (p : Part). Enters line place x.parent p port) e has) in
        (both.0, target_port line.target port both.1);
  }

  inner_entry : (block : Block) (number : ℕ) → x.part ≡ In block number → port ≤ block.inputs → Entry nested place x port
  inner_entry block number e within = go x.parent refl (in_block nested place number x block sound at e) where
    go : (parent : Option ℕ) → x.parent ≡ parent → InPorts x.parent block → Entry nested place x port
    go None held ports = absurd (omega (arith, above, within, (subst (λ (s : Option ℕ). InPorts s block) held ports).0))
    go (Some system) held ports =
        let one : port ≡ 1 = omega (arith, above, within, (subst (λ (s : Option ℕ). InPorts s block) held ports).0) in
        let its : in_number x.part ≡ Some number = ap in_number e in
        let is = (keep place x at).in_number number its in
        let holder = holder_of nested place system x sound at held in
        let counts = ap (λ (s : Option ℕ). count_in nested.blocks s (λ part. is_some (in_number part))) held in
        record {
          to = system;
          is_end = is_port number;
          once = (keep system holder.0 holder.1).driven number is.above (subst (λ (p : Part). number ≤ inputs_of nested.blocks system p) (sym holder.2) (omega (arith, is.within, counts)));
          arrives = λ line to end.
              ap (λ (k : ℕ). end_at nested.blocks k line.target) to ∙ ap (end_at nested.blocks system) (port_target line.target number end)
              ∙ port_inner nested.blocks system number Ins holder.0 holder.1 (ap is_subsystem holder.2)
              ∙ ap (option_map (first_port nested.blocks)) (first_is nested place system number x at held its is)
              ∙ ap (λ (n : ℕ). Some (port_of nested.blocks place n)) (sym one);
          leads = λ line has.
              let all = subst (λ (p : Part). Enters line place x.parent p port) e has in
              (same_Some line.to system (sym all.0 ∙ held), target_port line.target number all.1);
        }

  control_entry : (reset : Bool) → x.part ≡ Enable reset → port ≤ 1 → Entry nested place x port
  control_entry reset e within = go x.parent refl (subst (λ (p : Part). IsDriven nested.lines x.parent p) e (keep place x at).enabled) where
    go : (parent : Option ℕ) → x.parent ≡ parent → enable_drivers nested.lines x.parent ≡ 1 → Entry nested place x port
    go None held once = absurd (omega (arith, sym (ap (enable_drivers nested.lines) held) ∙ once))
    go (Some system) held once =
        let one : port ≡ 1 = omega (arith, above, within) in
        let first = (subst (λ (p : Part). MayStandAt nested.blocks place x.parent p) e (stand place x at)).0 in
        record {
          to = system;
          is_end = is_enable_end;
          once = sym (ap (enable_drivers nested.lines) held) ∙ once;
          arrives = λ line to end.
              ap (λ (k : ℕ). end_at nested.blocks k line.target) to ∙ ap (end_at nested.blocks system) (control_target line.target end)
              ∙ ap (option_map (first_port nested.blocks)) (ap (enable_port nested.blocks) (sym held) ∙ first)
              ∙ ap (λ (n : ℕ). Some (port_of nested.blocks place n)) (sym one);
          leads = λ line has.
              let all = subst (λ (p : Part). Enters line place x.parent p port) e has in
              (same_Some line.to system (sym all.0 ∙ held), ap is_enable_end all.1);
        }

  entry : (flat : Block) → flat_block nested.blocks place (control_of nested.blocks x.parent) x.part ≡ Some flat → port ≤ flat.inputs → Entry nested place x port
  entry flat gives within = go x.part refl where
    inputs : (part : Part) (block : Block) → x.part ≡ part → flat_block nested.blocks place (control_of nested.blocks x.parent) part ≡ Some block → port ≤ block.inputs
    inputs part block e is =
        let same = same_Some block flat (sym is ∙ sym (ap (flat_block nested.blocks place (control_of nested.blocks x.parent)) e) ∙ gives) in
        omega (arith, within, ap (λ (b : Block). b.inputs) same)

    go : (part : Part) → x.part ≡ part → Entry nested place x port
    go (Plain block) e = own_entry (Plain block) e refl (inputs (Plain block) _ e refl) (λ line has. has)
    go (In block number) e = inner_entry block number e (inputs (In block number) _ e refl)
    go (Out block number) e =
        own_entry (Out block number) e refl (omega (arith, inputs (Out block number) _ e refl, out_inputs x.parent block (out_block nested place number x block sound at e))) (λ line has. has)
    go SubSystem e = absurd (no_block flat (sym (ap (flat_block nested.blocks place (control_of nested.blocks x.parent)) e) ∙ gives))
    go (Enable reset) e = control_entry reset e (inputs (Enable reset) _ e refl)

-- ---- one edge a port

-- a line's edge enters the port exactly where the line ends at the port's entry
line_enters : (nested : Nested) (j port place : ℕ) (x : NestedBlock) (line : NestedLine) → slice_get nested.blocks place ≡ Some x → is_subsystem x.part ≡ false → flat_place nested.blocks place ≡ j →
    (entry : Entry nested place x port) → (end : EndPort nested line) → (eqb (flat_place nested.blocks end.place) j && eqb end.port port) ≡ (eqb line.to entry.to && entry.is_end line.target)
line_enters nested j port place x line at kept flat_at entry end =
    same_test (eqb (flat_place nested.blocks end.place) j && eqb end.port port) (eqb line.to entry.to && entry.is_end line.target) there back where
      there : (eqb (flat_place nested.blocks end.place) j && eqb end.port port) ≡ true → (eqb line.to entry.to && entry.is_end line.target) ≡ true
      there is =
          let both = and_parts (eqb (flat_place nested.blocks end.place) j) (eqb end.port port) is in
          let one = one_origin nested.blocks end.place place end.block x end.there at end.kept kept (eqb-true (flat_place nested.blocks end.place) j both.0 ∙ sym flat_at) in
          let same : end.block ≡ x = same_Some end.block x (sym end.there ∙ ap (slice_get nested.blocks) one ∙ at) in
          let has = subst (λ (n : ℕ). Enters line place x.parent x.part n) (eqb-true end.port port both.1)
          (subst (λ (b : NestedBlock). Enters line place b.parent b.part end.port) same (subst (λ (k : ℕ). Enters line k end.block.parent end.block.part end.port) one end.enters)) in
          let leads = entry.leads line has in
          and_from (eqb line.to entry.to) (entry.is_end line.target) (eq-eqb line.to entry.to leads.0) leads.1

      back : (eqb line.to entry.to && entry.is_end line.target) ≡ true → (eqb (flat_place nested.blocks end.place) j && eqb end.port port) ≡ true
      back is =
          let both = and_parts (eqb line.to entry.to) (entry.is_end line.target) is in
          let arrives = entry.arrives line (eqb-true line.to entry.to both.0) both.1 in
          let same = same_Some (port_of nested.blocks end.place end.port) (port_of nested.blocks place port) (sym end.is ∙ arrives) in
          and_from (eqb (flat_place nested.blocks end.place) j) (eqb end.port port)
          (eq-eqb (flat_place nested.blocks end.place) j (ap (λ (p : FlatPort). p.block) same ∙ flat_at))
          (eq-eqb end.port port (ap (λ (p : FlatPort). p.port) same))

pub flat_driven : (nested : Nested) → IsSound nested → AllNestedKeep nested KeepsWiring
    → AllNestedKeep nested KeepsEnable → (j port : ℕ) (flat : Block)
    → slice_get (flat_blocks nested.blocks) j ≡ Some flat → 1 ≤ port → port ≤ flat.inputs →
    count_by (enters j port) (filter_map (edge_of nested.blocks) nested.lines) ≡ 1
flat_driven nested sound keep stand j port flat at above within =
    let from = comes_from nested.blocks j flat at in
    let its = entry nested sound keep stand from.place port from.block from.there above flat from.gives within in
    count_kept (edge_of nested.blocks) (enters j port) (λ line. eqb line.to its.to && its.is_end line.target) nested.lines (λ k line there.
    let good = all_get (GoodLine nested) nested.lines k line (good_lines nested sound keep) there in
    let source = source_port nested line sound keep good in
    let end = end_port nested line sound keep good in
    ap (on_some (enters j port)) (edge_is nested.blocks line source.port (port_of nested.blocks end.place end.port) source.is end.is)
    ∙ line_enters nested j port from.place from.block line from.there from.kept from.flat_at its end)
    ∙ its.once
