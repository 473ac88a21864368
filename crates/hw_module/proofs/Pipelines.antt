-- The pipelines of a built module: their items, who reads them, and what they show.
use Rattle.std.proofs.Common.{◌≡◌, ◌≢◌, ◌⊎◌, inl, inr, ℕ, zero, suc, ◌+◌, ◌-◌, ◌*◌, ◌<◌, ◌≤◌, Bool, true, false, if◌then◌else◌, List, [], ◌∷◌, All, length, Contains, Some, None, codes, ℤ, Option}
use Rattle.std.proofs.Common.{refl, ap, sym, ◌∙◌, subst, arith}
use Rattle.std.proofs.lemmas.List.Elements.{All-contains}
use Rattle.std.proofs.lemmas.Option.{get_or_from_slice_get}
use Rattle.fx_type.specs.FxType.{width_of}
use Rattle.dg_model.specs.declared.diagram.Diagram.{Diagram}
use Rattle.dg_model.specs.declared.resolved.Resolved.{Resolved}
use Rattle.dg_model.specs.Attributes.{attributes_of}
use Rattle.dg_model.specs.Laws.{StimulusGivesColumns}
use Rattle.dg_model.specs.Signals.{Stimulus, Table}
use Rattle.vl_ast.specs.declared.expressions.Expr.TheOpen.{Expr-F}
use Rattle.vl_ast.specs.declared.expressions.Expr.TheFolds.{fold-roll-Expr}
use Rattle.vl_ast.specs.declared.expressions.Expr.TheVariants.{Name, rolls-Name}
use Rattle.vl_ast.specs.declared.modules.Module.{Module}
use Rattle.vl_ast.specs.Conditions.{item_name}
use Rattle.vl_ast.specs.Gated.{shows_enable}
use Rattle.vl_ast.specs.Windows.{Window, AtHits, row_at}
use Rattle.vl_ast.specs.Items.{IsRegisterOf, IsReadByAlone, item_reads}
use Rattle.vl_ast.specs.Nets.{names_read, names_step}
use Rattle.vl_ast.specs.Runs.{Rows}
use Rattle.vl_ast.specs.Value.{bits_of}
use Rattle.hw_arcs.specs.Latencies.{latency_at}
use Rattle.hw_build.specs.Pipelined.{stage_name}
use Rattle.hw_module.specs.inner.Offers.{Offers, HasPipeline, IsReadBy}
use Rattle.dg_model.specs.PlanOf.{stages_at}
use Rattle.hw_net.specs.declared.netlist.Frame.{Frame}
use Rattle.hw_net.specs.declared.netlist.Net.{Net}
use Rattle.hw_net.specs.declared.netlist.NetPort.{NetPort}
use Rattle.hw_net.specs.declared.netlist.NetOp.{NetOp}
use Rattle.hw_net.specs.declared.netlist.NetOp.TheVariants.{Input}
use Rattle.hw_net.specs.declared.netlist.NetKind.{NetKind}
use Rattle.hw_net.specs.declared.netlist.NetKind.TheVariants.{Comb, Reg, EnReg, Acc, Bridge, Unit, Counter}
use Rattle.hw_net.specs.Circuit.{Circuit}
use Rattle.hw_net.specs.Frames.{is_frame, counted_frame, counter_from, counter_of}
use Rattle.hw_net.specs.Netlist.{IsNetlist, IsKind, reads}
use Rattle.hw_sched.specs.Slots.{Timing}
use Rattle.hw_net.specs.Emittable.{IsEmittable}
use Rattle.vl_emit.specs.Items.{IsBridge, IsItemOf, IsItemOfOutput}
use Rattle.vl_emit.specs.Names.{name_of, hold_name}
use Rattle.hw_net.specs.Products.{net_at}
use Rattle.vl_emit.specs.Reads.{IsNamed, IsCounterName, MayRead}
use Rattle.vl_emit.specs.Shown.{inputs_from, rows_from}
use Rattle.vl_emit.proofs.ModuleNets.{no-element, first-or-later}
use Rattle.vl_emit.proofs.Lists.{at-contains}
use Rattle.hw_module.specs.inner.Steady.{IsSteadyRun, ShowsThroughout}
use Rattle.hw_module.specs.Pipelined.{IsPipeline, Pipelined, HasFewRegisters}
use Rattle.hw_module.specs.inner.Emission.{IsEmissionOf}
use Rattle.hw_module.proofs.Carries.{InputsHavePeriods, net-run}
use Rattle.hw_module.proofs.Ports.{net-bits}
use Rattle.hw_module.proofs.SteadyRuns.{clocks-show, steady-run}

names_read-name : (x : List ℕ) → names_read (Name x) ≡ x ∷ []
names_read-name x = ap names_read (sym (rolls-Name x)) ∙ fold-roll-Expr (List (List ℕ)) names_step (Expr-F.Name x)

-- the Counter of a frame is a net
counter-below : (nets : List Net) (start : ℕ) (frame : Frame) (number : ℕ) → counter_from nets start frame ≡ Some number → number < start + length nets
counter-below [] start frame number e = absurd (cc e)
counter-below (net ∷ nets) start frame number e = by (is_frame frame (counted_frame net.kind)) (λ f. counter-below nets (start + 1) frame number f) e where
  by : (t : Bool) → (counter_from nets (start + 1) frame ≡ Some number → number < start + 1 + length nets)
      → (if t then Some start else counter_from nets (start + 1) frame) ≡ Some number
      → number < start + length (net ∷ nets)
  by true further f = let same : start ≡ number = cc f in omega arith
  by false further f = let rest = further f in omega (arith, rest)

-- with a number from the start on
counter-from : (nets : List Net) (start : ℕ) (frame : Frame) (number : ℕ) → counter_from nets start frame ≡ Some number → start ≤ number
counter-from [] start frame number e = absurd (cc e)
counter-from (net ∷ nets) start frame number e = by (is_frame frame (counted_frame net.kind)) (λ f. counter-from nets (start + 1) frame number f) e where
  by : (t : Bool) → (counter_from nets (start + 1) frame ≡ Some number → start + 1 ≤ number) → (if t then Some start else counter_from nets (start + 1) frame) ≡ Some number → start ≤ number
  by true further f = let same : start ≡ number = cc f in omega arith
  by false further f = let rest = further f in omega (arith, rest)

-- a net that is no Counter, no Bridge and no Acc
pub record IsPlain (kind : NetKind) : Type 0 where
  pub no_counter : (frame : Frame) → kind ≢ Counter frame
  pub no_acc : (frame : Frame) (enable from : ℕ) → kind ≢ Acc frame enable from
  pub no_bridge : (frame : Frame) (live from : ℕ) → kind ≢ Bridge frame live from

module _ {netlist : Circuit} {m : Module} (runs : IsNetlist netlist) (emits : IsEmittable netlist) (made : IsEmissionOf netlist m) where
  module _ (read : ℕ) (h : read < length netlist.nets) (plain : IsPlain (net_at netlist.nets read).kind) (uncounted : (frame : Frame) → counter_of netlist.nets frame ≢ Some read) where
    -- a net whose items may read it names it
    named : (k : ℕ) (kind : NetKind) → ((j : ℕ) → Contains (reads kind) j → j < length netlist.nets) → IsNamed netlist kind (name_of netlist read) → Contains (reads kind) read
    named k kind there n = (let same = made.names.nets n.net read (there n.net n.named) h (sym n.is) in subst (Contains (reads kind)) same n.named)

    not-enable : name_of netlist read ≢ codes "clk_enable"
    not-enable e = made.names.enable read h e

    counted : (frame : Frame) → IsCounterName netlist frame (name_of netlist read) → ⊥
    counted frame c =
        let below = counter-below netlist.nets 0 frame c.net c.counter in
        let same = made.names.nets c.net read (omega (arith, below)) h (sym c.is) in
        uncounted frame (c.counter ∙ ap Some same)

    reader : (k : ℕ) (kind : NetKind) → k < length netlist.nets → (net_at netlist.nets k).kind ≡ kind → ((j : ℕ) → Contains (reads kind) j → j < length netlist.nets)
        → ((number : ℕ) (args : List ℕ) → kind ≡ Comb (Input number) args → number < length netlist.inputs) → MayRead netlist k kind (name_of netlist read) → Contains (reads kind) read
    reader k (Comb op args) below is there input (inl n) = named k (Comb op args) there n
    reader k (Comb op args) below is there input (inr (number, same, e)) = absurd (made.names.inputs read number h (input number args (ap (λ (o : NetOp). Comb o args) same)) e)
    reader k (Unit left right) below is there input n = named k (Unit left right) there n
    reader k (Counter frame) below is there input e =
        let same = made.names.nets read k h below e in
        absurd (plain.no_counter frame (ap (λ (n : ℕ). (net_at netlist.nets n).kind) same ∙ is))
    reader k (Reg frame slot first from) below is there input (inl n) = named k (Reg frame slot first from) there n
    reader k (Reg frame slot first from) below is there input (inr c) = absurd (counted frame c)
    reader k (EnReg frame enable resets first from) below is there input (inl n) = named k (EnReg frame enable resets first from) there n
    reader k (EnReg frame enable resets first from) below is there input (inr c) = absurd (counted frame c)
    reader k (Acc frame enable from) below is there input (inl n) = named k (Acc frame enable from) there n
    reader k (Acc frame enable from) below is there input (inr (inl c)) = absurd (counted frame c)
    reader k (Acc frame enable from) below is there input (inr (inr e)) =
        let same = made.names.nets read k h below e in
        absurd (plain.no_acc frame enable from (ap (λ (n : ℕ). (net_at netlist.nets n).kind) same ∙ is))
    reader k (Bridge frame live from) below is there input (inl n) = named k (Bridge frame live from) there n
    reader k (Bridge frame live from) below is there input (inr (inl c)) = absurd (counted frame c)
    reader k (Bridge frame live from) below is there input (inr (inr (inl e))) =
        let same = made.names.nets read k h below e in
        absurd (plain.no_bridge frame live from (ap (λ (n : ℕ). (net_at netlist.nets n).kind) same ∙ is))
    reader k (Bridge frame live from) below is there input (inr (inr (inr e))) = absurd (made.names.holds read k h below e)

    net-contains : (k : ℕ) → k < length netlist.nets → Contains netlist.nets (net_at netlist.nets k)
    net-contains k below = at-contains netlist.nets k _ below

    -- no item reads it but those of the one net that names it
    pub read-alone : (by : ℕ) → IsReadBy netlist read by → IsPlain (net_at netlist.nets by).kind → IsReadByAlone m (name_of netlist read) (name_of netlist by)
    read-alone by alone reader_plain i c r = of (made.items.only i c) where
      names-of : (k : ℕ) → k < length netlist.nets → (item_name i ≡ name_of netlist k) ⊎ (item_name i ≡ hold_name k) → k ≡ by
      names-of k below name =
          alone.alone k below
          (reader k (net_at netlist.nets k).kind below refl
          (λ j d. All-contains (λ (n : ℕ). n < length netlist.nets) (reads (net_at netlist.nets k).kind) j
          (All-contains (λ (n : Net). All (λ read. read < length netlist.nets) (reads n.kind)) netlist.nets
          (net_at netlist.nets k) runs.there (net-contains k below)) d)
          (λ number args e. input-there (net_at netlist.nets k).kind number args e
          (All-contains (λ (n : Net). IsKind netlist.nets netlist.cycles
          (length netlist.inputs) n.width n.signed n.kind) netlist.nets (net_at netlist.nets k) runs.kinds
          (net-contains k below)))
          (enable-not (made.reads.nets k below i c name (name_of netlist read) r)))
        where
          enable-not : MayRead netlist k (net_at netlist.nets k).kind (name_of netlist read)
              ⊎ (name_of netlist read ≡ codes "clk_enable")
              → MayRead netlist k (net_at netlist.nets k).kind (name_of netlist read)
          enable-not (inl may) = may
          enable-not (inr e) = absurd (not-enable e)

          input-there : (kind : NetKind) (number : ℕ) (args : List ℕ) → kind ≡ Comb (Input number) args
              → IsKind netlist.nets netlist.cycles (length netlist.inputs) (net_at netlist.nets k).width
              (net_at netlist.nets k).signed kind → number < length netlist.inputs
          input-there kind number args e is =
              (subst (λ (t : NetKind). IsKind netlist.nets netlist.cycles (length netlist.inputs)
              (net_at netlist.nets k).width (net_at netlist.nets k).signed t) e is).1

      no-bridge : (kind : NetKind) → IsPlain kind → IsBridge kind → ⊥
      no-bridge (Comb op args) p b = b
      no-bridge (Reg frame slot first from) p b = b
      no-bridge (EnReg frame enable resets first from) p b = b
      no-bridge (Acc frame enable from) p b = b
      no-bridge (Bridge frame live from) p b = p.no_bridge frame live from refl
      no-bridge (Unit left right) p b = b
      no-bridge (Counter frame) p b = b

      by-name : (k : ℕ) → k < length netlist.nets → (item_name i ≡ name_of netlist k) ⊎ (IsBridge (net_at netlist.nets k).kind × (item_name i ≡ hold_name k)) → item_name i ≡ name_of netlist by
      by-name k below (inl e) = e ∙ ap (name_of netlist) (names-of k below (inl e))
      by-name k below (inr (b, e)) =
          let same = names-of k below (inr e) in
          absurd (no-bridge (net_at netlist.nets by).kind reader_plain (subst (λ (n : ℕ). IsBridge (net_at netlist.nets n).kind) same b))

      shown-not : (x : IsItemOfOutput netlist i) → ⊥
      shown-not x =
          let e = made.reads.outputs x.output x.there i c x.name in
          let only = subst (λ (l : List (List ℕ)). Contains l (name_of netlist read)) (ap item_reads e ∙ names_read-name (name_of netlist x.output.net)) r in
          let below = All-contains (λ (p : NetPort). p.net < length netlist.nets) netlist.outputs x.output runs.outputs x.there in
          elim (first-or-later (name_of netlist x.output.net) (name_of netlist read) [] only) [
            | inl same ↦ alone.unshown x.output x.there (made.names.nets x.output.net read below h same)
            | inr after ↦ no-element (name_of netlist read) after
          ]

      enable-shown : i ≡ shows_enable → ⊥
      enable-shown e =
          let only = subst (λ (l : List (List ℕ)). Contains l (name_of netlist read)) (ap item_reads e ∙ names_read-name (codes "clk_enable")) r in
          elim (first-or-later (codes "clk_enable") (name_of netlist read) [] only) [
            | inl same ↦ not-enable (sym same)
            | inr after ↦ no-element (name_of netlist read) after
          ]

      of : IsItemOf netlist i ⊎ (IsItemOfOutput netlist i ⊎ (i ≡ shows_enable)) → item_name i ≡ name_of netlist by
      of (inl x) = by-name x.net x.there x.name
      of (inr (inl x)) = absurd (shown-not x)
      of (inr (inr e)) = absurd (enable-shown e)

comb-plain : (kind : NetKind) (op : NetOp) (args : List ℕ) → kind ≡ Comb op args → IsPlain kind
comb-plain kind op args is = record { no_counter = λ frame e. absurd (cc (is, e)); no_acc = λ frame enable from e. absurd (cc (is, e)); no_bridge = λ frame live from e. absurd (cc (is, e)) }

reg-plain : (kind : NetKind) (frame : Frame) (slot : ℕ) (first : ℤ) (from : ℕ) → kind ≡ Reg frame slot first from → IsPlain kind
reg-plain kind frame slot first from is = record { no_counter = λ other e. absurd (cc (is, e)); no_acc = λ other enable source e. absurd (cc (is, e)); no_bridge = λ other live source e. absurd (cc (is, e)) }

-- the Counter of a frame is a Counter
abbrev CountsAt : List Net → ℕ → Type 0
CountsAt nets k = (own : Frame) × (counted_frame (net_at nets k).kind ≡ Some own)

some-frame : (frame : Frame) (o : Option Frame) → is_frame frame o ≡ true → (own : Frame) × (o ≡ Some own)
some-frame frame None t = absurd (cc t)
some-frame frame (Some own) t = (own, refl)

counter-kind : (nets : List Net) (start : ℕ) (frame : Frame) (number : ℕ) → counter_from nets start frame ≡ Some number → CountsAt nets (number - start)
counter-kind [] start frame number e = absurd (cc e)
counter-kind (net ∷ nets) start frame number e =
    by (is_frame frame (counted_frame net.kind)) refl (λ f. counter-kind nets (start + 1) frame number f) (λ f. counter-from nets (start + 1) frame number f) e
  where
    by : (t : Bool) → is_frame frame (counted_frame net.kind) ≡ t
        → (counter_from nets (start + 1) frame ≡ Some number → CountsAt nets (number - (start + 1)))
        → (counter_from nets (start + 1) frame ≡ Some number → start + 1 ≤ number)
        → (if t then Some start else counter_from nets (start + 1) frame) ≡ Some number → CountsAt (net ∷ nets) (number - start)
    by true t further later f =
        let same : start ≡ number = cc f in
        let none : 0 ≡ number - start = omega arith in
        subst (CountsAt (net ∷ nets)) none (some-frame frame (counted_frame net.kind) t)
    by false t further later f =
        let from = later f in
        let place : suc (number - (start + 1)) ≡ number - start = omega (arith, from) in
        subst (CountsAt (net ∷ nets)) place (further f)

plain-uncounted : (kind : NetKind) → IsPlain kind → (own : Frame) → counted_frame kind ≡ Some own → ⊥
plain-uncounted (Comb op args) p own e = absurd (cc e)
plain-uncounted (Reg frame slot first from) p own e = absurd (cc e)
plain-uncounted (EnReg frame enable resets first from) p own e = absurd (cc e)
plain-uncounted (Acc frame enable from) p own e = absurd (cc e)
plain-uncounted (Bridge frame live from) p own e = absurd (cc e)
plain-uncounted (Unit left right) p own e = absurd (cc e)
plain-uncounted (Counter frame) p own e = p.no_counter frame refl

uncounted-by : (netlist : Circuit) (read : ℕ) → IsPlain (net_at netlist.nets read).kind → (frame : Frame) → counter_of netlist.nets frame ≢ Some read
uncounted-by netlist read plain frame e =
    let c = counter-kind netlist.nets 0 frame read e in
    let same : read - 0 ≡ read = omega arith in
    plain-uncounted (net_at netlist.nets read).kind plain c.0 (subst (λ (k : ℕ). counted_frame (net_at netlist.nets k).kind ≡ Some c.0) same c.1)

module _ {netlist : Circuit} {names : List (List ℕ)} {diagram : Diagram} {plan : Resolved} {timing : Timing}
    {m : Module} (built : Offers netlist names diagram plan timing) (made : IsEmissionOf netlist m) where
  module _ (block element period : ℕ) (p : HasPipeline netlist diagram plan timing block element period) where
    stage-called : (k : ℕ) → k < stages_at plan block → name_of netlist (p.stage (suc k)) ≡ stage_name block element (suc k)
    stage-called k below = made.labels.are (record { net = p.stage (suc k); name = stage_name block element (suc k) }) (p.stages k below).label

    stage-there : (k : ℕ) → k ≤ stages_at plan block → p.stage k < length netlist.nets
    stage-there zero h = p.wire_there
    stage-there (suc k) h = (p.stages k (omega (arith, h))).there

    stage-plain : (k : ℕ) → k ≤ stages_at plan block → IsPlain (net_at netlist.nets (p.stage k)).kind
    stage-plain zero h = comb-plain (net_at netlist.nets (p.stage 0)).kind p.op p.args p.wire
    stage-plain (suc k) h = (let s = p.stages k (omega (arith, h)) in reg-plain (net_at netlist.nets (p.stage (suc k))).kind s.frame s.slot s.first (p.stage k) s.kind)

    alone-at : (k : ℕ) → k < stages_at plan block → IsReadByAlone m (name_of netlist (p.stage k)) (name_of netlist (p.stage (suc k)))
    alone-at k below =
        let plain = stage-plain k (omega (arith, below)) in
        read-alone built.runs built.emittable made (p.stage k) (stage-there k (omega (arith, below))) plain
        (uncounted-by netlist (p.stage k) plain) (p.stage (suc k)) (p.alone k below)
        (stage-plain (suc k) (omega (arith, below)))

    register-at : (k : ℕ) → k < stages_at plan block → IsRegisterOf m (name_of netlist (p.stage (suc k))) (name_of netlist (p.stage k))
    register-at k below = (let s = p.stages k below in made.items.registers (p.stage (suc k)) s.there s.frame s.slot s.first (p.stage k) s.kind)

    next-at : (k : ℕ) → 1 ≤ k → k < stages_at plan block → IsRegisterOf m (stage_name block element (suc k)) (stage_name block element k)
    next-at zero some below = absurd (omega (arith, some))
    next-at (suc k) some below =
        subst (λ (name : List ℕ). IsRegisterOf m name (stage_name block element (suc k))) (stage-called (suc k) below)
        (subst (λ (name : List ℕ). IsRegisterOf m (name_of netlist (p.stage (suc (suc k)))) name) (stage-called k (omega (arith, below))) (register-at (suc k) below))

    next-alone : (k : ℕ) → 1 ≤ k → k < stages_at plan block → IsReadByAlone m (stage_name block element k) (stage_name block element (suc k))
    next-alone zero some below = absurd (omega (arith, some))
    next-alone (suc k) some below =
        subst (λ (name : List ℕ). IsReadByAlone m (stage_name block element (suc k)) name) (stage-called (suc k) below)
        (subst (λ (name : List ℕ). IsReadByAlone m name (name_of netlist (p.stage (suc (suc k))))) (stage-called k (omega (arith, below))) (alone-at (suc k) below))

    pub pipeline : 1 ≤ stages_at plan block → IsPipeline m block element (stages_at plan block)
    pipeline some = record {
      wire = name_of netlist (p.stage 0);
      is_wire = record { signed = _; width = _; there = made.items.wires (p.stage 0) p.wire_there p.op p.args p.wire };
      first = subst (λ (name : List ℕ). IsRegisterOf m name (name_of netlist (p.stage 0))) (stage-called 0 (omega (arith, some))) (register-at 0 (omega (arith, some)));
      wire_alone = subst (λ (name : List ℕ). IsReadByAlone m (name_of netlist (p.stage 0)) name) (stage-called 0 (omega (arith, some))) (alone-at 0 (omega (arith, some)));
      next = next-at;
      alone = next-alone;
    }

    called : (k : ℕ) → 1 ≤ k → k ≤ stages_at plan block → name_of netlist (p.stage k) ≡ stage_name block element k
    called zero some most = absurd (omega (arith, some))
    called (suc k) some most = stage-called k (omega (arith, most))

    pub stage-shows : (columns : StimulusGivesColumns) (periods : InputsHavePeriods diagram) {samples : ℕ} {window : Window} {stimulus : Stimulus} {table : Table} {rows : Rows}
        → IsSteadyRun m diagram samples window stimulus table rows → (k : ℕ) → 1 ≤ k → k ≤ stages_at plan block
        → AtHits period samples (λ t. ShowsThroughout window rows (stage_name block element k) (width_of ((attributes_of diagram).type_at block 1)) (table block 1 element t)
        ((t + latency_at timing.lat block + k * period) * plan.cycles) ((t + latency_at timing.lat block + (k + 1) * period) * plan.cycles))
    stage-shows columns periods {samples} {window} {stimulus} {table} {rows} run k some most t early hit clock from until below =
        let entry = (p.shows stimulus samples (window.rows - (window.last_reset + 1))
        (inputs_from netlist window.last_reset rows) (rows_from netlist window.last_reset rows) table
        (net-run built made columns periods run) k some most).at
        t clock early (omega (arith, below)) (record { is_hit = hit; from = omega (arith, from); until = omega (arith, until) }) in
        let word = p.words k some most in
        let same : net_at netlist.nets (p.stage k) ≡ word.net = get_or_from_slice_get netlist.nets (p.stage k) word.net _ word.is in
        let wide : (net_at netlist.nets (p.stage k)).width ≡ width_of ((attributes_of diagram).type_at block 1) = ap (λ (n : Net). n.width) same ∙ word.wide in
        ap (rows (row_at window clock)) (sym (called k some most))
        ∙ net-bits built.runs built.emittable made run.run.driven run.enabled run.run.runs (p.stage k) clock (stage-there k most) below
        ∙ (λ i. bits_of (wide i) (entry i))

  pub pipelined : StimulusGivesColumns → InputsHavePeriods diagram → Pipelined m diagram plan timing
  pipelined columns periods = record {
    there = λ block element period b shown is some. pipeline block element period (built.pipelines block element period b shown is some) some;
    shows = λ samples window stimulus table rows run block element k period b shown is some most t early hit.
        clocks-show made run (stage_name block element k) (width_of ((attributes_of diagram).type_at block 1)) (table block 1 element t) _ _
        (stage-shows block element period (built.pipelines block element period b shown is (omega (arith, some, most))) columns periods (steady-run made run) k some most t early hit);
  }

  pub few-registers : HasFewRegisters m diagram plan timing
  few-registers = (let e = ap length made.registers.are in let h = built.registers in omega (arith, e, h))
