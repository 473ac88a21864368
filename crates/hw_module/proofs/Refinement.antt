-- What stands in the place of a built netlist offers to its module what that one does.
use Rattle.std.proofs.Common.{◌≡◌, ℕ, zero, suc, ◌+◌, ◌*◌, ◌<◌, ◌≤◌, if◌then◌else◌, List, [], ◌∷◌, length, All, Contains, Option, Some, slice_get, ℤ, refl, ap, sym, ◌∙◌, subst, arith}
use Rattle.std.specs.List.{AllZip}
use Rattle.std.proofs.lemmas.List.Elements.{All-contains}
use Rattle.std.proofs.lemmas.Option.{get_or_from_slice_get, slice_get-get_or}
use Rattle.fx_type.specs.FxType.{is_signed, width_of}
use Rattle.dg_model.specs.declared.diagram.Diagram.{Diagram}
use Rattle.dg_model.specs.declared.diagram.Block.{Block}
use Rattle.dg_model.specs.declared.resolved.Resolved.{Resolved}
use Rattle.dg_model.specs.Attributes.{attributes_of}
use Rattle.dg_model.specs.PlanOf.{stages_at}
use Rattle.dg_model.specs.Signals.{Stimulus, Table}
use Rattle.hw_arcs.specs.Latencies.{latency_at}
use Rattle.hw_build.specs.Built.{counts, counter_count}
use Rattle.hw_build.specs.Multiplied.{AreMultiplied}
use Rattle.hw_build.specs.Pipelined.{stage_name}
use Rattle.hw_build.specs.Places.{AreFedIn, IsRunOf}
use Rattle.hw_build.specs.Serving.{AreOperands, clock_of}
use Rattle.hw_net.specs.declared.netlist.Net.{Net}
use Rattle.hw_net.specs.declared.netlist.NetPort.{NetPort}
use Rattle.hw_net.specs.declared.netlist.NetKind.{NetKind}
use Rattle.hw_net.specs.declared.netlist.NetKind.TheVariants.{Comb, Reg, EnReg, Acc, Bridge, Unit, Counter}
use Rattle.hw_net.specs.Circuit.{Circuit}
use Rattle.hw_net.specs.Emittable.{IsEmittable}
use Rattle.hw_net.specs.Frames.{is_register, register_count}
use Rattle.hw_net.specs.Netlist.{HasWord, IsNetlist, reads}
use Rattle.hw_net.specs.NetRows.{Inputs, Rows}
use Rattle.hw_net.specs.Products.{Product, net_at, products_of}
use Rattle.hw_net.specs.Registers.{Wave}
use Rattle.hw_refine.specs.Refines.{Agree, Face, IsComb, KeepsLabel, KeepsRegister, Reflects, Refines, face, held, held_count}
use Rattle.hw_sched.specs.Slots.{Operation, Timing, unit_of}
use Rattle.hw_shows.specs.Shows.{Shows}
use Rattle.vl_ast.specs.Header.{DataPort}
use Rattle.vl_emit.proofs.Lists.{at-contains}
use Rattle.hw_module.specs.inner.Offers.{HasPipeline, HasPortsOf, HasUnit, Offers, OutputsShow}
use Rattle.hw_module.proofs.NetCounts.{names-counted}
use Rattle.hw_module.proofs.Lists.{get-below, relabelled, zip-get}

zip-back : {X Y : Type 0} (R : X → Y → Type 0) (xs : List X) (ys : List Y) → AllZip R xs ys → (k : ℕ) (y : Y) → slice_get ys k ≡ Some y → (x : X) × (slice_get xs k ≡ Some x) × R x y
zip-back R [] [] h k y e = absurd (cc e)
zip-back R [] (z ∷ ys) h k y e = absurd h
zip-back R (x ∷ xs) [] h k y e = absurd h
zip-back R (x ∷ xs) (z ∷ ys) h zero y e = let same : z ≡ y = cc e in (x, refl, subst (R x) same h.0)
zip-back R (x ∷ xs) (z ∷ ys) h (suc k) y e = zip-back R xs ys h.1 k y e

there-at : {X : Type 0} (xs : List X) (k : ℕ) → k < length xs → (x : X) × (slice_get xs k ≡ Some x)
there-at [] k h = absurd (omega (arith, h))
there-at (x ∷ xs) zero h = (x, refl)
there-at (x ∷ xs) (suc k) h = there-at xs k (omega (arith, h))

held-one : (kind : NetKind) → held kind ≡ (if is_register kind then 1 else 0) + counts kind
held-one (Comb op args) = refl
held-one (Reg frame slot first from) = refl
held-one (EnReg frame enable reset first from) = refl
held-one (Acc frame enable from) = refl
held-one (Bridge frame live from) = refl
held-one (Unit left right) = refl
held-one (Counter frame) = refl

held-all : (nets : List Net) → held_count nets ≡ register_count nets + counter_count nets
held-all [] = refl
held-all (net ∷ nets) = (let one = held-one net.kind in let rest = held-all nets in (λ i. one i + rest i) ∙ omega arith)

-- a port as a module declares it, by its face
abbrev port_of : Face → DataPort
port_of f = record { name = f.name; width = f.width; signed = f.signed; period = f.period; latency = f.latency }

shows-by : (clocks n cycles latency ready : ℕ) (period : Option ℕ) (entry : ℕ → ℤ) (one other : Wave)
    → ((c : ℕ) → c < clocks → one c ≡ other c) → Shows clocks n cycles period latency ready entry one
    → Shows clocks n cycles period latency ready entry other
shows-by clocks n cycles latency ready period entry one other same shows = record { at = λ t clock early below seen. sym (same clock below) ∙ shows.at t clock early below seen }

module _ {old new : Circuit} (runs : IsNetlist new) (emits : IsEmittable new) (r : Refines old new) where
  net-there : (k : ℕ) → k < length new.nets → slice_get new.nets k ≡ Some (net_at new.nets k)
  net-there k below = slice_get-get_or new.nets k _ below

  read-there : (k read : ℕ) → k < length new.nets → Contains (reads (net_at new.nets k).kind) read → read < length new.nets
  read-there k read below c =
      All-contains (λ (j : ℕ). j < length new.nets) (reads (net_at new.nets k).kind) read
      (All-contains (λ (net : Net). All (λ j. j < length new.nets) (reads net.kind)) new.nets (net_at new.nets k) runs.there (at-contains new.nets k _ below)) c

  pub multiplied-still : {diagram : Diagram} {plan : Resolved} → AreMultiplied diagram plan old → AreMultiplied diagram plan new
  multiplied-still {diagram} {plan} are = record {
    each = λ block element there multiplies apart below.
        let x = are.each block element there multiplies apart below in
        let l = r.labels _ x.named in
        let kind = ap (λ (net : Net). net.kind) (get_or_from_slice_get old.nets x.number x.net _ x.is) ∙ x.multiplies in
        let m = l.multiplies (record { args = x.args; is = kind }) in
        record {
          number = r.place x.number;
          net = net_at new.nets (r.place x.number);
          args = m.args;
          is =
              net-there (r.place x.number) (emits.labels.there _ l.there);
          multiplies = m.is;
          named = l.there;
        };
  }

  module _ {diagram : Diagram} {stimulus : Stimulus} {n clocks : ℕ} {inputs : Inputs} {rows : Rows} {table : Table} (run : IsRunOf diagram new stimulus n clocks inputs rows table) where
    reflects : Reflects old new r.place clocks inputs rows
    reflects = r.rows clocks inputs rows run.rows_are

    run-before : IsRunOf diagram old stimulus n clocks inputs reflects.before table
    run-before = record {
      stimulus_is = run.stimulus_is;
      solves = run.solves;
      fed = subst (λ (cycles : ℕ). AreFedIn diagram stimulus n cycles clocks inputs) r.cycles run.fed;
      rows_are = reflects.are;
    }

  module _ {names : List (List ℕ)} {diagram : Diagram} {plan : Resolved} {timing : Timing} (o : Offers old names diagram plan timing) where
    ports-still : HasPortsOf new names diagram plan timing
    ports-still = record {
      cycles = r.cycles ∙ o.ports.cycles;
      enough = o.ports.enough;
      inputs = relabelled port_of (face new) (face old) new.inputs old.inputs r.inputs ∙ o.ports.inputs;
      outputs = relabelled port_of (face new) (face old) new.outputs old.outputs r.outputs ∙ o.ports.outputs;
    }

    outputs-still : OutputsShow new names diagram plan timing
    outputs-still stimulus n clocks inputs rows table run place port e there at =
        let x = reflects run in
        let was = zip-back (λ (was is : NetPort). Agree clocks x.before rows was.net is.net) old.outputs new.outputs x.outputs place port there in
        shows-by clocks n _ _ _ _ _ (x.before was.0.net) (rows port.net) was.2 (o.outputs stimulus n clocks inputs x.before table (run-before run) place was.0 e was.1 at)

    unit-still : (number : ℕ) (q : Operation) (b : Block) → HasUnit old diagram plan timing number q b → HasUnit new diagram plan timing number q b
    unit-still number q b u =
        let k = unit_of diagram (attributes_of diagram) plan timing number q in
        let below : k < length (products_of new) = (let a = get-below (products_of old) k u.product u.at in let l = r.products in omega (arith, a, l)) in
        let p = there-at (products_of new) k below in
        record {
          product = p.0;
          at = p.1;
          has = λ stimulus n clocks inputs rows table run t early hit within.
              let x = reflects run in
              let y = zip-get (λ (was is : Product). Agree clocks x.before rows was.left is.left
              × Agree clocks x.before rows was.right is.right) (products_of old)
              (products_of new) x.factors k u.product u.at in
              let same : y.0 ≡ p.0 = cc (sym y.1 ∙ p.1) in
              let c = clock_of diagram plan timing number q t in
              let left : x.before u.product.left c ≡ rows p.0.left c = y.2.0 c within ∙ ap (λ (z : Product). rows z.left c) same in
              let right : x.before u.product.right c ≡ rows p.0.right c = y.2.1 c within ∙ ap (λ (z : Product). rows z.right c) same in
              subst (λ (v : ℤ). AreOperands diagram table q.block b q.element t v (rows p.0.right c)) left
              (subst (λ (v : ℤ). AreOperands diagram table q.block b q.element t (x.before u.product.left c) v) right
              (u.has stimulus n clocks inputs x.before table (run-before run) t early hit within));
        }

    module _ (block element period : ℕ) (some : 1 ≤ stages_at plan block) (p : HasPipeline old diagram plan timing block element period) where
      label-at : (k : ℕ) → k < stages_at plan block → KeepsLabel old new r.place (record { net = p.stage (suc k); name = stage_name block element (suc k) })
      label-at k below = r.labels _ (p.stages k below).label

      register-at : (k : ℕ) → k < stages_at plan block → KeepsRegister old new r.place (p.stage (suc k)) (p.stage k)
      register-at k below = (let s = p.stages k below in (label-at k below).takes s.frame s.slot s.first (p.stage k) s.kind)

      stage-there : (k : ℕ) → k < stages_at plan block → r.place (p.stage (suc k)) < length new.nets
      stage-there k below = emits.labels.there _ (label-at k below).there

      wire-there : r.place (p.stage 0) < length new.nets
      wire-there =
          let g = register-at 0 (omega (arith, some)) in
          read-there (r.place (p.stage 1)) (r.place (p.stage 0)) (stage-there 0 (omega (arith, some)))
          (subst (λ (kind : NetKind). Contains (reads kind) (r.place (p.stage 0))) (sym g.kind) (0, omega arith, refl))

      wire-is : IsComb new (r.place (p.stage 0))
      wire-is = (register-at 0 (omega (arith, some))).wire (record { op = p.op; args = p.args; is = p.wire })

      word-at : (k : ℕ) → 1 ≤ k → k ≤ stages_at plan block
          → HasWord new.nets (r.place (p.stage k)) (width_of ((attributes_of diagram).type_at block 1))
          (is_signed ((attributes_of diagram).type_at block 1))
      word-at zero low most = absurd (omega (arith, low))
      word-at (suc k) low most =
          let l = label-at k (omega (arith, most)) in
          let w = p.words (suc k) low most in
          let same : net_at old.nets (p.stage (suc k)) ≡ w.net = get_or_from_slice_get old.nets (p.stage (suc k)) w.net _ w.is in
          record {
            net = net_at new.nets (r.place (p.stage (suc k)));
            is = net-there (r.place (p.stage (suc k))) (stage-there k (omega (arith, most)));
            wide = l.wide ∙ ap (λ (net : Net). net.width) same ∙ w.wide;
            sign = l.sign ∙ ap (λ (net : Net). net.signed) same ∙ w.sign;
          }

      shown-at : (stimulus : Stimulus) (n clocks : ℕ) (inputs : Inputs) (rows : Rows) (table : Table)
          → IsRunOf diagram new stimulus n clocks inputs rows table → (k : ℕ) → 1 ≤ k → k ≤ stages_at plan block
          → Shows clocks n plan.cycles (Some period) (latency_at timing.lat block + k * period) 0 (table block 1 element) (rows (r.place (p.stage k)))
      shown-at stimulus n clocks inputs rows table run zero low most = absurd (omega (arith, low))
      shown-at stimulus n clocks inputs rows table run (suc k) low most =
          let x = reflects run in
          shows-by clocks n _ _ _ _ _ (x.before (p.stage (suc k))) (rows (r.place (p.stage (suc k)))) (x.labels _ (p.stages k (omega (arith, most))).label)
          (p.shows stimulus n clocks inputs x.before table (run-before run) (suc k) low most)

      pipeline-still : HasPipeline new diagram plan timing block element period
      pipeline-still = record {
        stage = λ k. r.place (p.stage k);
        wire_there = wire-there;
        op = wire-is.op;
        args = wire-is.args;
        wire = wire-is.is;
        stages = λ k below. (let g = register-at k below in
            record { there = stage-there k below; frame = g.frame; slot = g.slot; first = g.first; kind = g.kind; label = (label-at k below).there });
        alone = λ k below. (register-at k below).alone (p.alone k below);
        words = word-at;
        shows = shown-at;
      }

    pub offers-still : Offers new names diagram plan timing
    offers-still = record {
      runs = runs;
      emittable = emits;
      ports = ports-still;
      outputs = outputs-still;
      units = λ number q b is at. unit-still number q b (o.units number q b is at);
      products = r.products ∙ o.products;
      pipelines = λ block element period b shown is some. pipeline-still block element period some (o.pipelines block element period b shown is some);
      registers = (let a = names-counted new in let b = names-counted old in let c = held-all new.nets in let d =
          held-all old.nets in let e = r.few in let f = o.registers in omega (arith, a, b, c, d, e, f));
    }
