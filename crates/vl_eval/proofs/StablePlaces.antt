-- The places of names that no item assigns, which a capture or a put may change, and the rows of settled values.
use Rattle.std.proofs.Common.{◌≡◌, ◌≢◌, ◌<◌, ◌≤◌, ◌+◌, ◌^◌, ℕ, Bool, true, false, not, ◌&&◌, if◌then◌else◌, List, [], length, slice_get, slice_index, slice_index_or, codes, bytes_eq, Contains, Option}
use Rattle.std.proofs.Common.{Some, refl, sym, ap, subst, ◌∙◌, arith}
use Rattle.std.proofs.lemmas.Bool.{and_parts, not-true}
use Rattle.std.proofs.lemmas.Option.{slice_get_within, slice_get-get_or}
use Rattle.std.proofs.lemmas.List.{get_or-map, length-map}
use Rattle.vl_ast.specs.declared.expressions.Sized.{Sized}
use Rattle.vl_ast.specs.declared.expressions.Expr.{Expr}
use Rattle.vl_ast.specs.declared.modules.Port.{Port}
use Rattle.vl_ast.specs.declared.modules.ModItem.TheVariants.{Always}
use Rattle.vl_ast.specs.declared.modules.Module.{Module}
use Rattle.vl_ast.specs.Conditions.{BreaksNone, may_drive, needs_driver}
use Rattle.vl_ast.specs.Context.{Net}
use Rattle.vl_ast.specs.Nets.{Kind, InputPort, OutputPort, Declared, Declares, Drives, declarations, mentions, net_or_none, nets_of, port_declared}
use Rattle.vl_ast.specs.Steps.{IsRow}
use Rattle.vl_ast.specs.Value.{assigned}
use Rattle.vl_ast.proofs.Agree.{ByLayer}
use Rattle.vl_ast.proofs.Facts.{Declaration, OfPort, OfReg, OfWire, always-drives, assign-drives, declaration-by, driven-declared, in-port, listed-mention, mention-listed, not-both}
use Rattle.vl_ast.proofs.OneRun.{may-not, net-is}
use Rattle.vl_ast.proofs.Alone.{stored, wired}
use Rattle.vl_ast.proofs.PortLists.{filter-in, filtered-apart, ports-apart, slice-in}
use Rattle.vl_check.proofs.ScopeNames.{at-number}
use Rattle.vl_check.specs.declared.scope.Scope.{Scope}
use Rattle.vl_check.specs.Scope.{IsScopeOf, names_in, nets_in, number_in}
use Rattle.vl_eval.specs.Given.{driven_ports}
use Rattle.vl_eval.specs.Machine.{AreFit}
use Rattle.vl_eval.specs.declared.ops.Op.{Op}
use Rattle.vl_eval.specs.declared.plan.Capture.{Capture}
use Rattle.vl_eval.specs.declared.plan.Plan.{Plan}
use Rattle.vl_eval.specs.inner.Ops.{IsOrdered, IsSettled}
use Rattle.vl_eval.specs.inner.Moves.{CanMove}
use Rattle.vl_eval.specs.inner.PlanOperations.{FixedFit, IsFixed, IsPlan, slot_of_port}
use Rattle.vl_eval.specs.inner.Site.{slot_at, slot_in}
use Rattle.vl_eval.proofs.Builds.{settled-later}
use Rattle.vl_eval.proofs.Captures.{known-fits, number-of}
use Rattle.vl_eval.proofs.Sounds.{width-few}

abbrev kind_of : Bool → Kind
kind_of input = if input then InputPort else OutputPort

pub any-port : Port
any-port = record { attrs = []; input = false; signed = false; width = 0; name = [] }

-- a name is declared
abbrev pub IsListed : Module → List ℕ → Type 0
IsListed m name = (d : Declared) × Contains (declarations m) d × (d.name ≡ name)

-- the operations of a plan have their values
abbrev pub IsSettledIn : Plan → List ℕ → Type 0
IsSettledIn plan values = IsSettled plan.base plan.arranged.ops (λ k. slice_index values k)

module _ (by_layer : ByLayer) (m : Module) (b : BreaksNone m) (scope : Scope) (s : IsScopeOf m scope) (plan : Plan) (p : IsPlan m scope plan) where
  abbrev nets : List ℕ → Net
  nets = nets_in scope

  pub nets-same : nets_in scope ≡ nets_of m
  nets-same = λ i name. net_or_none (s.declares name i)

  pub few : (name : List ℕ) → (nets name).width ≤ 128
  few name = subst (λ (f : List ℕ → Net). (f name).width ≤ 128) (sym nets-same) (width-few m b.narrow b.acyclic.driven b.acyclic.once name)

  abbrev slots : List ℕ
  slots = plan.arranged.slots.items

  abbrev count : ℕ
  count = length (names_in scope)

  abbrev ops : List Op
  ops = plan.arranged.ops

  abbrev row : List ℕ → List ℕ → ℕ
  row values name = slice_index values (slot_in scope slots name)

  pub settled-all : (values : List ℕ) → IsSettledIn plan values → IsSettled count ops (λ k. slice_index values k)
  settled-all values st = subst (λ n. IsSettled n ops (λ k. slice_index values k)) p.base st

  settled-wires : (values : List ℕ) → IsSettledIn plan values → IsSettled count p.wires (λ k. slice_index values k)
  settled-wires values st = settled-later by_layer count scope slots p.wires ops p.captured.grows (λ k. slice_index values k) (settled-all values st)

  pub width-is : (d : Declared) → Contains (declarations m) d → (nets d.name).width ≡ d.net.width
  width-is d listed = ap (λ (f : List ℕ → Net). (f d.name).width) nets-same
      ∙ ap (λ (n : Net). n.width) (net-is by_layer m b.acyclic.driven b.acyclic.once b.acyclic.acyclic d
      (listed-mention m b.acyclic.driven b.acyclic.once d listed))

  pub fits-known : (values : List ℕ) → IsSettledIn plan values → FixedFit m scope (row values) → (name : List ℕ) → IsListed m name → row values name < 2 ^ (nets name).width
  fits-known values st f name known = known-fits by_layer m scope s b.acyclic.driven b.acyclic.once few slots p.wires p.wired name known (λ k. slice_index values k) (settled-wires values st) f

  -- values that are settled are a row
  pub row-is : (values : List ℕ) (inputs : List ℕ → ℕ) → IsSettledIn plan values → FixedFit m scope (row values)
      → ((port : Port) → Contains m.ports port → port.input ≡ true → row values port.name ≡ inputs port.name) → IsRow m inputs (row values)
  row-is values inputs st f shown = record {
    fits = λ d listed. subst (λ n. row values d.name < 2 ^ n) (width-is d listed) (fits-known values st f d.name (d, listed, refl));
    driven = shown;
    assigns = λ name value i.
        subst (λ (f : List ℕ → Net). row values name ≡ assigned f (row values) (f name).width value) nets-same
        ((p.wired.given name value i).is (λ k. slice_index values k) (settled-wires values st) f);
  }

  -- a declared name that no item assigns is of an input or a register
  pub data Origin (d : Declared) : Type 0 where
    IsInput : (port : Port) → Contains m.ports port → port.input ≡ true → port.name ≡ d.name → Origin d
    IsStored : (first : Sized) (condition : Option Expr) (value : Expr) → Contains m.items (Always d.name first condition value) → Origin d

  unwired : (d : Declared) → Contains (mentions m) (Declares d) → IsFixed m d.name → (kind : Kind) → d.kind ≡ kind → needs_driver kind ≡ true → may_drive true kind ≡ false → Origin d
  unwired d there fixed kind is needs may =
      let a = wired by_layer m b.acyclic.driven b.acyclic.once b.acyclic.acyclic b.clocked d there (ap needs_driver is ∙ needs) (ap (may_drive true) is ∙ may) in absurd (fixed a.0 a.1)

  of-port : (d : Declared) → Contains (mentions m) (Declares d) → IsFixed m d.name → (port : Port) → Contains m.ports port → port_declared port ≡ d → (input : Bool) → port.input ≡ input → Origin d
  of-port d there fixed port h e true i = IsInput port h i (ap (λ (x : Declared). x.name) e)
  of-port d there fixed port h e false i = unwired d there fixed OutputPort (sym (ap (λ (x : Declared). x.kind) e) ∙ ap kind_of i) refl refl

  pub origin : (d : Declared) → Contains (declarations m) d → IsFixed m d.name → Origin d
  origin d listed fixed = by (declaration-by m b.acyclic.driven b.acyclic.once d there) where
    there : Contains (mentions m) (Declares d)
    there = listed-mention m b.acyclic.driven b.acyclic.once d listed

    by : Declaration m b.acyclic.driven b.acyclic.once d → Origin d
    by (OfPort port h e) = of-port d there fixed port h e port.input refl
    by (OfWire signed width h kind) = unwired d there fixed d.kind refl (ap needs_driver kind) (ap (may_drive true) kind)
    by (OfReg signed width h kind) = let a = stored by_layer m b.acyclic.driven b.acyclic.once b.acyclic.acyclic b.clocked signed width d.name h in IsStored a.first a.condition a.value a.item

  -- such a name has its number as its place
  pub fixed-slot : (name : List ℕ) → IsListed m name → IsFixed m name → (k : ℕ) × (number_in scope name ≡ Some k) × (slot_in scope slots name ≡ k) × (k < count)
  fixed-slot name known fixed =
      let k = number-of by_layer m scope s b.acyclic.driven b.acyclic.once few slots p.wires p.wired name known in
      (k.0, k.1, ap (slot_at slots) k.1 ∙ p.wired.fixed name k.0 k.1 fixed, slice_get_within (names_in scope) k.0 name (at-number scope.names.items k.0 name k.1))

  same-name : (one other : List ℕ) (k : ℕ) → number_in scope one ≡ Some k → number_in scope other ≡ Some k → one ≡ other
  same-name one other k e f = same (sym (at-number scope.names.items k one e) ∙ at-number scope.names.items k other f) where
    same : {a c : List ℕ} → Some a ≡ Some c → a ≡ c
    same x = cc x

  -- so two such names at one place are one
  pub one-slot : (one other : List ℕ) → IsListed m one → IsListed m other → IsFixed m one → IsFixed m other → slot_in scope slots one ≡ slot_in scope slots other → one ≡ other
  one-slot one other ko kt fo ft e =
      let a = fixed-slot one ko fo in
      let c = fixed-slot other kt ft in
      same-name one other c.0 (a.1 ∙ ap Some (sym a.2 ∙ e ∙ c.2)) c.1

  pub register-known : (name : List ℕ) (first : Sized) (condition : Option Expr) (value : Expr) → Contains m.items (Always name first condition value) → IsListed m name
  register-known name first condition value h =
      let d = driven-declared m b.acyclic.driven b.acyclic.once true name (always-drives m b.acyclic.driven b.acyclic.once name first condition value h) in
      (d.0, mention-listed m b.acyclic.driven b.acyclic.once d.0 d.1, d.2)

  pub register-fixed : (name : List ℕ) (first : Sized) (condition : Option Expr) (value : Expr) → Contains m.items (Always name first condition value) → IsFixed m name
  register-fixed name first condition value h other h' = not-both m b.acyclic.driven b.acyclic.once name other first condition value h' h

  pub input-known : (port : Port) → Contains m.ports port → IsListed m port.name
  input-known port h = (port_declared port, mention-listed m b.acyclic.driven b.acyclic.once (port_declared port) (in-port m b.acyclic.driven b.acyclic.once port h), refl)

  pub input-fixed : (port : Port) → Contains m.ports port → port.input ≡ true → IsFixed m port.name
  input-fixed port h i value h' = may-not by_layer m b.acyclic.driven b.acyclic.once b.acyclic.acyclic false
      (port_declared port) (in-port m b.acyclic.driven b.acyclic.once port h)
      (ap (λ t. may_drive false (kind_of t)) i)
      (assign-drives m b.acyclic.driven b.acyclic.once port.name value h')

  pub no-register : (port : Port) → Contains m.ports port → port.input ≡ true
      → (name : List ℕ) (first : Sized) (condition : Option Expr) (value : Expr)
      → Contains m.items (Always name first condition value) → name ≢ port.name
  no-register port h i name first condition value h' same =
      may-not by_layer m b.acyclic.driven b.acyclic.once b.acyclic.acyclic true (port_declared port) (in-port m b.acyclic.driven b.acyclic.once port h) (ap (λ t. may_drive true (kind_of t)) i)
      (subst (λ n. Contains (mentions m) (Drives true n)) same (always-drives m b.acyclic.driven b.acyclic.once name first condition value h'))

  -- the port at each place that is put
  pub place-at : (k : ℕ) → k < length plan.inputs.items → (port : Port) × (slice_get (driven_ports m) k ≡ Some port) × (slice_index plan.inputs.items k ≡ slot_in scope slots port.name)
  place-at k low =
      let long : length plan.inputs.items ≡ length (driven_ports m) = ap length p.inputs ∙ length-map (driven_ports m) (slot_of_port scope slots) in
      let below : k < length (driven_ports m) = omega (arith, long, low) in (
        slice_index_or (driven_ports m) k any-port,
        slice_get-get_or (driven_ports m) k any-port below,
        ap (λ xs. slice_index xs k) p.inputs
            ∙ get_or-map (slot_of_port scope slots) (driven_ports m) k any-port 0 below,
      )

  pub driven-in : (k : ℕ) (port : Port) → slice_get (driven_ports m) k ≡ Some port → Contains m.ports port × (port.input ≡ true) × (bytes_eq port.name (codes "clk") ≡ false)
  driven-in k port e =
      let kept = filter-in (λ (x : Port). x.input && not (bytes_eq x.name (codes "clk"))) m.ports port (slice-in (driven_ports m) k port e) in
      let both = and_parts port.input (not (bytes_eq port.name (codes "clk"))) kept.1 in
      (kept.0, both.0, not-true (bytes_eq port.name (codes "clk")) both.1)

  pub places-apart : (i j : ℕ) → i < j → j < length plan.inputs.items → slice_index plan.inputs.items i ≢ slice_index plan.inputs.items j
  places-apart i j less low same =
      let one = place-at i (omega (arith, less, low)) in
      let other = place-at j low in
      let d = driven-in i one.0 one.1 in
      let d' = driven-in j other.0 other.1 in
      (filtered-apart (λ (x : Port). x.input && not (bytes_eq x.name (codes "clk"))) m.ports (ports-apart m b.acyclic.driven b.acyclic.once)).at i j one.0 other.0 less one.1 other.1
      (one-slot one.0.name other.0.name (input-known one.0 d.0) (input-known other.0 d'.0) (input-fixed one.0 d.0 d.1) (input-fixed other.0 d'.0 d'.1) (sym one.2 ∙ same ∙ other.2))

  pub inputs-placed : (k : ℕ) → k < length plan.inputs.items → slice_index plan.inputs.items k < plan.base
  inputs-placed k low =
      let a = place-at k low in
      let d = driven-in k a.0 a.1 in
      let c = fixed-slot a.0.name (input-known a.0 d.0) (input-fixed a.0 d.0 d.1) in
      let place = a.2 in let number = c.2 in let below = c.3 in let base = p.base in
      omega (arith, place, number, below, base)

  pub captures-placed : (values : List ℕ) → length values ≡ plan.base + length ops → (c : Capture) → Contains plan.arranged.captures.items c
      → (plan.base ≤ c.from) × (c.from < length values) × (c.to < plan.base)
  captures-placed values room c h =
      let r = p.captured.only c h in
      let a = fixed-slot r.0 (register-known r.0 r.1 r.2 r.3 r.4) (register-fixed r.0 r.1 r.2 r.3 r.4) in
      let above = r.5.above in let from = r.5.below in let to = r.5.to in let number = a.2 in let below = a.3 in let base = p.base in
      (omega (arith, above, base), omega (arith, from, base, room), omega (arith, to, number, below, base))

  -- a row can be moved on
  pub can-move : (values bits : List ℕ) → length values ≡ plan.base + length ops → IsSettledIn plan values → AreFit (driven_ports m) bits → CanMove plan bits values
  can-move values bits room st fit = record {
    room = room;
    ordered = subst (λ n. IsOrdered n ops) (sym p.base) (p.captured.grows.ordered (p.wired.grows.ordered (record { at = λ k d low. absurd (omega (arith, low)) })));
    constants = p.constants;
    settled = st;
    captures = captures-placed values room;
    count = fit.count ∙ sym (ap length p.inputs ∙ length-map (driven_ports m) (slot_of_port scope slots));
    inputs = inputs-placed;
    apart = places-apart;
  }
