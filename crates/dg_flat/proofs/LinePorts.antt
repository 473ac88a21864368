-- The ports of flat blocks that each line joins.
use Rattle.std.proofs.Common.{◌≡◌, ℕ, ◌<◌, ◌≤◌, Bool, false, ◌&&◌, List, length, get_or, All, Option, Some, None, refl, sym, ap, subst, ◌∙◌, inl, inr, arith}
use Rattle.std.specs.Prelude.{slice_get, option_map, MatchOption}
use Rattle.std.proofs.lemmas.Bool.{and_parts}
use Rattle.std.proofs.lemmas.List.Quantifiers.{position-Some}
use Rattle.std.proofs.lemmas.Option.{slice_get_cases, none-some}
use Rattle.dg_model.specs.declared.diagram.Block.{Block}
use Rattle.dg_model.specs.declared.nested.Nested.{Nested}
use Rattle.dg_model.specs.declared.nested.NestedBlock.{NestedBlock}
use Rattle.dg_model.specs.declared.nested.NestedLine.{NestedLine}
use Rattle.dg_model.specs.declared.nested.Part.{Part}
use Rattle.dg_model.specs.declared.nested.Part.TheVariants.{Plain, In, Out, SubSystem, Enable}
use Rattle.dg_model.specs.declared.nested.Target.{Target}
use Rattle.dg_model.specs.declared.nested.Target.TheVariants.{Port, Enable as ToEnable}
use Rattle.dg_model.specs.Sound.{IsSound, HasReadable, HasInRole, HasOutRole}
use Rattle.dg_flat.specs.declared.edges.FlatPort.{FlatPort}
use Rattle.dg_flat.specs.declared.numbering.Side.{Side}
use Rattle.dg_flat.specs.declared.numbering.Side.TheVariants.{In as Ins, Out as Outs}
use Rattle.dg_flat.specs.Flat.{flat_blocks, flat_block, flat_place, first_port, placed, control_block, source_of, end_at}
use Rattle.dg_flat.specs.Parts.{is_subsystem, is_enable_port, in_number, out_number, is_number, first_in, outputs_of, enable_port, control_of, same_system}
use Rattle.dg_flat.specs.Rules.{HasEnd, KeepsWiring, AllNestedKeep}
use Rattle.dg_flat.specs.inner.PortNumbers.{number_on}
use Rattle.dg_flat.proofs.Ends.{port_inner, port_own}
use Rattle.dg_flat.proofs.Positions.{position_within}
use Rattle.dg_flat.proofs.Firsts.{same_system_eq}
use Rattle.dg_flat.proofs.FromSound.{have_ends}
use Rattle.dg_flat.proofs.Full.{each_number}
use Rattle.dg_flat.proofs.Roles.{IsInKind, IsOutKind, InPorts, OutPorts, in_kind, out_kind, in_ports, out_ports}
use Rattle.dg_flat.proofs.Verdicts.{has_this, passed}
use Rattle.math_list.proofs.Places.{held as all_get}
use Rattle.dg_flat.proofs.FlatParts.{part_enable, stands_at}
use Rattle.math_list.proofs.Tests.{some_there}

-- ---- lines whose ends are there

pub record GoodLine (nested : Nested) (line : NestedLine) : Type 0 where
  pub source : NestedBlock
  pub target : NestedBlock
  pub from_is : slice_get nested.blocks line.from ≡ Some source
  pub to_is : slice_get nested.blocks line.to ≡ Some target
  pub leaves : (1 ≤ line.from_port) × (line.from_port ≤ outputs_of nested.blocks line.from source.part)
  pub ends : HasEnd nested.blocks line.to target.part line.target

block_at : (blocks : List NestedBlock) (k : ℕ) → k < length blocks → (x : NestedBlock) × (slice_get blocks k ≡ Some x)
block_at blocks k inside =
    elim (slice_get_cases blocks k).1 [
      | inl has ↦ (has.0, has.2)
      | inr past ↦ absurd (omega (arith, past.0, inside))
    ]

pub good_lines : (nested : Nested) → IsSound nested → AllNestedKeep nested KeepsWiring → All (GoodLine nested) nested.lines
good_lines nested sound keep = λ k d inside.
    let line : NestedLine = get_or nested.lines k d in
    let both = have_ends nested sound k d inside in
    let from = block_at nested.blocks line.from both.0 in
    let to = block_at nested.blocks line.to both.1 in
    record {
      source = from.0;
      target = to.0;
      from_is = from.1;
      to_is = to.1;
      leaves = (keep line.from from.0 from.1).leaving k d inside refl;
      ends = (keep line.to to.0 to.1).ending k d inside refl;
    }

-- ---- Inports and Outports

pub in_part : (part : Part) (number : ℕ) → in_number part ≡ Some number → (block : Block) × (part ≡ In block number)
in_part (Plain block) number is = absurd (none-some number is)
in_part (In block own) number is = (block, ap (λ (o : Option ℕ). In block (number_or own o)) is) where
  number_or : ℕ → Option ℕ → ℕ
  number_or own None = own
  number_or own (Some number) = number
in_part (Out block own) number is = absurd (none-some number is)
in_part SubSystem number is = absurd (none-some number is)
in_part (Enable reset) number is = absurd (none-some number is)

pub out_part : (part : Part) (number : ℕ) → out_number part ≡ Some number → (block : Block) × (part ≡ Out block number)
out_part (Plain block) number is = absurd (none-some number is)
out_part (In block own) number is = absurd (none-some number is)
out_part (Out block own) number is = (block, ap (λ (o : Option ℕ). Out block (number_or own o)) is) where
  number_or : ℕ → Option ℕ → ℕ
  number_or own None = own
  number_or own (Some number) = number
out_part SubSystem number is = absurd (none-some number is)
out_part (Enable reset) number is = absurd (none-some number is)

pub in_block_kind : (nested : Nested) (place number : ℕ) (x : NestedBlock) (block : Block) → IsSound nested
    → slice_get nested.blocks place ≡ Some x → x.part ≡ In block number → IsInKind x.parent number block.kind
in_block_kind nested place number x block sound at e =
    in_kind x.parent number block.kind (subst (λ (part : Part). HasInRole x.parent part) e (all_get (λ b. HasInRole b.parent b.part) nested.blocks place x sound.ins at))

pub in_block : (nested : Nested) (place number : ℕ) (x : NestedBlock) (block : Block) → IsSound nested → slice_get nested.blocks place ≡ Some x → x.part ≡ In block number → InPorts x.parent block
in_block nested place number x block sound at e =
    in_ports x.parent number block (in_block_kind nested place number x block sound at e)
    (subst (λ (part : Part). HasReadable part) e (all_get (λ b. HasReadable b.part) nested.blocks place x sound.blocks at))

pub out_block_kind : (nested : Nested) (place number : ℕ) (x : NestedBlock) (block : Block) → IsSound nested
    → slice_get nested.blocks place ≡ Some x → x.part ≡ Out block number
    → IsOutKind nested.blocks x.parent number block.kind
out_block_kind nested place number x block sound at e =
    out_kind nested.blocks x.parent number block.kind
    (subst (λ (part : Part). HasOutRole nested.blocks x.parent part) e
    (all_get (λ b. HasOutRole nested.blocks b.parent b.part) nested.blocks place x sound.outs at))

pub out_block : (nested : Nested) (place number : ℕ) (x : NestedBlock) (block : Block) → IsSound nested → slice_get nested.blocks place ≡ Some x → x.part ≡ Out block number → OutPorts x.parent block
out_block nested place number x block sound at e =
    out_ports nested.blocks x.parent number block (out_block_kind nested place number x block sound at e)
    (subst (λ (part : Part). HasReadable part) e (all_get (λ b. HasReadable b.part) nested.blocks place x sound.blocks at))

pub in_outputs : (system : Option ℕ) (block : Block) → InPorts system block → block.outputs ≡ 1
in_outputs None block has = has.1
in_outputs (Some system) block has = has.1

pub out_inputs : (system : Option ℕ) (block : Block) → OutPorts system block → block.inputs ≡ 1
out_inputs None block has = has.0
out_inputs (Some system) block has = has.0

-- a port that is found in a subsystem
record InnerPort (blocks : List NestedBlock) (side : Side) (system number place : ℕ) : Type 0 where
  block : NestedBlock
  there : slice_get blocks place ≡ Some block
  held : block.parent ≡ Some system
  its : number_on side block.part ≡ Some number

inner_port : (blocks : List NestedBlock) (side : Side) (system number place : ℕ)
    → first_in blocks (Some system) (λ part. is_number number (number_on side part)) ≡ Some place
    → InnerPort blocks side system number place
inner_port blocks side system number place found =
    elim (slice_get_cases blocks place).1 [
      | inl has ↦
          let known = position-Some (has_this side (Some system) number) blocks place has.0 found in
          let own = passed side (Some system) number has.0 (sym (ap (has_this side (Some system) number) has.3) ∙ known.1) in
          record { block = has.0; there = has.2; held = own.0; its = own.1 }
      | inr past ↦ absurd (omega (arith, past.0, position_within (has_this side (Some system) number) blocks place found))
    ]

-- the EnablePort that is found in a subsystem
record InnerControl (blocks : List NestedBlock) (system place : ℕ) : Type 0 where
  block : NestedBlock
  reset : Bool
  there : slice_get blocks place ≡ Some block
  held : block.parent ≡ Some system
  its : block.part ≡ Enable reset

inner_control : (blocks : List NestedBlock) (system place : ℕ) → enable_port blocks (Some system) ≡ Some place → InnerControl blocks system place
inner_control blocks system place found =
    elim (slice_get_cases blocks place).1 [
      | inl has ↦
          let block : NestedBlock = has.0 in
          let known = position-Some (λ b. same_system b.parent (Some system) && is_enable_port b.part) blocks place block found in
          let both = and_parts (same_system block.parent (Some system)) (is_enable_port block.part)
          (sym (ap (λ (b : NestedBlock). same_system b.parent (Some system) && is_enable_port b.part) has.3)
          ∙ known.1) in
          let such = part_enable block.part both.1 in
          record { block = block; reset = such.0; there = has.2; held = same_system_eq block.parent (Some system) both.0; its = such.1 }
      | inr past ↦ absurd (omega (arith, past.0, position_within (λ b. same_system b.parent (Some system) && is_enable_port b.part) blocks place found))
    ]

-- ---- ports of flat blocks

abbrev pub HasOutput : List Block → FlatPort → Type 0
HasOutput flat port = MatchOption (slice_get flat port.block) ⊥ (λ block. (1 ≤ port.port) × (port.port ≤ block.outputs))

abbrev pub HasInput : List Block → FlatPort → Type 0
HasInput flat port = MatchOption (slice_get flat port.block) ⊥ (λ block. (1 ≤ port.port) × (port.port ≤ block.inputs))

output_at : (flat : List Block) (port : FlatPort) (block : Block) → slice_get flat port.block ≡ Some block → 1 ≤ port.port → port.port ≤ block.outputs → HasOutput flat port
output_at flat port block at above within = subst (λ (o : Option Block). MatchOption o ⊥ (λ b. (1 ≤ port.port) × (port.port ≤ b.outputs))) (sym at) (above, within)

input_at : (flat : List Block) (port : FlatPort) (block : Block) → slice_get flat port.block ≡ Some block → 1 ≤ port.port → port.port ≤ block.inputs → HasInput flat port
input_at flat port block at above within = subst (λ (o : Option Block). MatchOption o ⊥ (λ b. (1 ≤ port.port) × (port.port ≤ b.inputs))) (sym at) (above, within)

abbrev pub port_of : List NestedBlock → ℕ → ℕ → FlatPort
port_of blocks place port = record { block = flat_place blocks place; port = port }

abbrev its_flat : List NestedBlock → ℕ → NestedBlock → Block → Block
its_flat blocks place x block = placed blocks place (control_of blocks x.parent) block

flat_is : (blocks : List NestedBlock) (place : ℕ) (x : NestedBlock) (part : Part) → slice_get blocks place ≡ Some x → x.part ≡ part → is_subsystem part ≡ false →
    slice_get (flat_blocks blocks) (flat_place blocks place) ≡ flat_block blocks place (control_of blocks x.parent) part
flat_is blocks place x part at e kept = stands_at blocks place x at (ap is_subsystem e ∙ kept) ∙ ap (flat_block blocks place (control_of blocks x.parent)) e

-- ---- where a line comes from

pub record SourcePort (nested : Nested) (line : NestedLine) : Type 0 where
  pub port : FlatPort
  pub is : source_of nested.blocks line ≡ Some port
  pub there : HasOutput (flat_blocks nested.blocks) port

pub source_port : (nested : Nested) (line : NestedLine) → IsSound nested → AllNestedKeep nested KeepsWiring → GoodLine nested line → SourcePort nested line
source_port nested line sound keep good = go good.source.part refl where
  within : (part : Part) → good.source.part ≡ part → line.from_port ≤ outputs_of nested.blocks line.from part
  within part e = subst (λ (p : Part). line.from_port ≤ outputs_of nested.blocks line.from p) e good.leaves.1

  go : (part : Part) → good.source.part ≡ part → SourcePort nested line
  go (Plain block) e = record {
    port = port_of nested.blocks line.from line.from_port;
    is = port_own nested.blocks line.from line.from_port Outs good.source good.from_is (ap is_subsystem e);
    there = output_at (flat_blocks nested.blocks) (port_of nested.blocks line.from line.from_port) (its_flat nested.blocks line.from good.source block)
        (flat_is nested.blocks line.from good.source (Plain block) good.from_is e refl) good.leaves.0 (within (Plain block) e);
  }
  go (In block number) e = record {
    port = port_of nested.blocks line.from line.from_port;
    is = port_own nested.blocks line.from line.from_port Outs good.source good.from_is (ap is_subsystem e);
    there = output_at (flat_blocks nested.blocks) (port_of nested.blocks line.from line.from_port) (its_flat nested.blocks line.from good.source block)
        (flat_is nested.blocks line.from good.source (In block number) good.from_is e refl) good.leaves.0
        (omega (arith, within (In block number) e, in_outputs good.source.parent block (in_block nested line.from number good.source block sound good.from_is e)));
  }
  go (Out block number) e = absurd (omega (arith, good.leaves.0, within (Out block number) e))
  go SubSystem e =
      let found = each_number nested keep Outs (Some line.from) line.from_port good.leaves.0 (within SubSystem e) in
      let inner = inner_port nested.blocks Outs line.from line.from_port found.0 found.1 in
      let such = out_part inner.block.part line.from_port inner.its in
      let ports : OutPorts (Some line.from) such.0 = subst (λ (s : Option ℕ). OutPorts s such.0) inner.held (out_block nested found.0 line.from_port inner.block such.0 sound inner.there such.1) in
      record {
        port = first_port nested.blocks found.0;
        is = port_inner nested.blocks line.from line.from_port Outs good.source good.from_is (ap is_subsystem e) ∙ ap (option_map (first_port nested.blocks)) found.1;
        there = output_at (flat_blocks nested.blocks) (first_port nested.blocks found.0) (its_flat nested.blocks found.0 inner.block such.0)
            (flat_is nested.blocks found.0 inner.block (Out such.0 line.from_port) inner.there such.1 refl) (omega arith) (omega (arith, ports.1));
      }
  go (Enable reset) e = absurd (omega (arith, good.leaves.0, within (Enable reset) e))

-- ---- where it ends

-- a line drives this port of the block that a part becomes
abbrev pub Enters : NestedLine → ℕ → Option ℕ → Part → ℕ → Type 0
Enters line place parent (Plain block) port = (line.to ≡ place) × (line.target ≡ Port port)
Enters line place parent (In block number) port = (parent ≡ Some line.to) × (line.target ≡ Port number) × (port ≡ 1)
Enters line place parent (Out block number) port = (line.to ≡ place) × (line.target ≡ Port port)
Enters line place parent SubSystem port = ⊥
Enters line place parent (Enable reset) port = (parent ≡ Some line.to) × (line.target ≡ ToEnable) × (port ≡ 1)

pub record EndPort (nested : Nested) (line : NestedLine) : Type 0 where
  pub place : ℕ
  pub block : NestedBlock
  pub port : ℕ
  pub there : slice_get nested.blocks place ≡ Some block
  pub kept : is_subsystem block.part ≡ false
  pub is : end_at nested.blocks line.to line.target ≡ Some (port_of nested.blocks place port)
  pub enters : Enters line place block.parent block.part port
  pub input : HasInput (flat_blocks nested.blocks) (port_of nested.blocks place port)

pub end_port : (nested : Nested) (line : NestedLine) → IsSound nested → AllNestedKeep nested KeepsWiring → GoodLine nested line → EndPort nested line
end_port nested line sound keep good = go good.target.part refl line.target refl where
  has : (part : Part) (target : Target) → good.target.part ≡ part → line.target ≡ target → HasEnd nested.blocks line.to part target
  has part target e t = subst (λ (end : Target). HasEnd nested.blocks line.to part end) t (subst (λ (p : Part). HasEnd nested.blocks line.to p line.target) e good.ends)

  own : (part : Part) (port : ℕ) (block : Block) → good.target.part ≡ part → line.target ≡ Port port → is_subsystem part ≡ false →
      flat_block nested.blocks line.to (control_of nested.blocks good.target.parent) part ≡ Some block → 1 ≤ port
      → port ≤ block.inputs → Enters line line.to good.target.parent part port → EndPort nested line
  own part port block e t kept gives above within enters = record {
    place = line.to;
    block = good.target;
    port = port;
    there = good.to_is;
    kept = ap is_subsystem e ∙ kept;
    is = ap (end_at nested.blocks line.to) t ∙ port_own nested.blocks line.to port Ins good.target good.to_is (ap is_subsystem e ∙ kept);
    enters = subst (λ (p : Part). Enters line line.to good.target.parent p port) (sym e) enters;
    input = input_at (flat_blocks nested.blocks) (port_of nested.blocks line.to port) block (flat_is nested.blocks line.to good.target part good.to_is e kept ∙ gives) above within;
  }

  go : (part : Part) → good.target.part ≡ part → (target : Target) → line.target ≡ target → EndPort nested line
  go (Plain block) e (Port port) t =
      let ends = has (Plain block) (Port port) e t in
      own (Plain block) port (its_flat nested.blocks line.to good.target block) e t refl refl ends.0 ends.1 (refl, t)
  go (In block number) e (Port port) t = let ends = has (In block number) (Port port) e t in absurd (omega (arith, ends))
  go (Out block number) e (Port port) t =
      let ends = has (Out block number) (Port port) e t in
      let one = out_inputs good.target.parent block (out_block nested line.to number good.target block sound good.to_is e) in
      own (Out block number) port (its_flat nested.blocks line.to good.target block) e t refl refl ends.0 (omega (arith, ends.1, one)) (refl, t)
  go SubSystem e (Port port) t =
      let ends = has SubSystem (Port port) e t in
      let found = each_number nested keep Ins (Some line.to) port ends.0 ends.1 in
      let inner = inner_port nested.blocks Ins line.to port found.0 found.1 in
      let such = in_part inner.block.part port inner.its in
      let ports : InPorts (Some line.to) such.0 = subst (λ (s : Option ℕ). InPorts s such.0) inner.held (in_block nested found.0 port inner.block such.0 sound inner.there such.1) in
      record {
        place = found.0;
        block = inner.block;
        port = 1;
        there = inner.there;
        kept = ap is_subsystem such.1;
        is = ap (end_at nested.blocks line.to) t ∙ port_inner nested.blocks line.to port Ins good.target good.to_is (ap is_subsystem e) ∙ ap (option_map (first_port nested.blocks)) found.1;
        enters = subst (λ (p : Part). Enters line found.0 inner.block.parent p 1) (sym such.1) (inner.held, t, refl);
        input = input_at (flat_blocks nested.blocks) (port_of nested.blocks found.0 1) (its_flat nested.blocks found.0 inner.block such.0)
            (flat_is nested.blocks found.0 inner.block (In such.0 port) inner.there such.1 refl) (omega arith) (omega (arith, ports.0));
      }
  go (Enable reset) e (Port port) t = let ends = has (Enable reset) (Port port) e t in absurd (omega (arith, ends))
  go part e ToEnable t =
      let found = some_there (enable_port nested.blocks (Some line.to)) (has part ToEnable e t) in
      let inner = inner_control nested.blocks line.to found.0 found.1 in
      record {
        place = found.0;
        block = inner.block;
        port = 1;
        there = inner.there;
        kept = ap is_subsystem inner.its;
        is = ap (end_at nested.blocks line.to) t ∙ ap (option_map (first_port nested.blocks)) found.1;
        enters = subst (λ (p : Part). Enters line found.0 inner.block.parent p 1) (sym inner.its) (inner.held, t, refl);
        input = input_at (flat_blocks nested.blocks) (port_of nested.blocks found.0 1) (control_block nested.blocks found.0)
            (flat_is nested.blocks found.0 inner.block (Enable inner.reset) inner.there inner.its refl) (omega arith) (omega arith);
      }
