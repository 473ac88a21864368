-- A renumbered netlist can be run and emitted.
use Rattle.std.proofs.Common.{◌≡◌, ◌≢◌, ℕ, zero, suc, ◌+◌, ◌<◌, ◌≤◌, List, [], ◌∷◌, ◌++◌, map, length, All, Contains, Some, IsSome, Bool, true, false, if◌then◌else◌, slice_get, refl, ap, sym, ◌∙◌}
use Rattle.std.proofs.Common.{subst, arith}
use Rattle.std.specs.List.{AllPairs}
use Rattle.std.proofs.lemmas.List.{length-map, map-append}
use Rattle.std.proofs.lemmas.Option.{get_or_from_slice_get, slice_get-get_or, slice_get_within, same_Some}
use Rattle.math_num.specs.Word.{IsWord, InWord}
use Rattle.hw_net.specs.declared.netlist.Frame.{Frame}
use Rattle.hw_net.specs.declared.netlist.Net.{Net}
use Rattle.hw_net.specs.declared.netlist.NetLabel.{NetLabel}
use Rattle.hw_net.specs.declared.netlist.NetPort.{NetPort}
use Rattle.hw_net.specs.declared.netlist.NetOp.{NetOp}
use Rattle.hw_net.specs.declared.netlist.NetOp.TheVariants.{Input, Const, Resize, ShiftUp, ShiftDown, Add, Subtract, Negate, Multiply, And, Or, Xor, Not, Less, Equal, Choose, Slice}
use Rattle.hw_net.specs.declared.netlist.NetKind.{NetKind}
use Rattle.hw_net.specs.declared.netlist.NetKind.TheVariants.{Comb, Reg, EnReg, Acc, Bridge, Unit, Counter}
use Rattle.hw_net.specs.Circuit.{Circuit}
use Rattle.hw_net.specs.Emittable.{ArePorts, AreLabels, IsEmittable, IsPortName, IsPeriod, IsLabelName, most_latency}
use Rattle.hw_net.specs.Frames.{counted_frame, counter_from, counter_of, frame_of, is_frame}
use Rattle.hw_net.specs.Netlist.{HasBits, HasParts, HasWord, HoldsProducts, IsKind, IsNetlist, reads, reads_now}
use Rattle.hw_net.specs.Products.{net_at, no_net}
use Rattle.hw_net.proofs.Index.{same-self}
use Rattle.hw_refine.specs.Redirects.{redirected}
use Rattle.math_list.proofs.Elements.{stands}
use Rattle.math_list.proofs.Places.{map_there}
use Rattle.hw_renumber.specs.Renumbered.{moved_label, moved_net, moved_port, renumbered}
use Rattle.hw_renumber.specs.Sound.{CanStay, IsStanding, RenumberedRuns, RenumberedEmits}
use Rattle.math_list.proofs.Elements.{all-at, all-from, all-in, from-map as image, pairs-map}
use Rattle.math_list.proofs.Places.{there_map as map-has}

-- ---- kinds

module _ (place : ℕ → ℕ) where
  pub reads-moved : (kind : NetKind) → reads (redirected place kind) ≡ map place (reads kind)
  reads-moved (Comb op args) = refl
  reads-moved (Reg frame slot first from) = refl
  reads-moved (EnReg frame enable reset first from) = refl
  reads-moved (Acc frame enable from) = refl
  reads-moved (Bridge frame live from) = refl
  reads-moved (Unit left right) = refl
  reads-moved (Counter frame) = refl

  pub reads-now-moved : (kind : NetKind) → reads_now (redirected place kind) ≡ map place (reads_now kind)
  reads-now-moved (Comb op args) = refl
  reads-now-moved (Reg frame slot first from) = refl
  reads-now-moved (EnReg frame enable reset first from) = refl
  reads-now-moved (Acc frame enable from) = refl
  reads-now-moved (Bridge frame live from) = refl
  reads-now-moved (Unit left right) = refl
  reads-now-moved (Counter frame) = refl

  pub frame-moved : (kind : NetKind) → frame_of (redirected place kind) ≡ frame_of kind
  frame-moved (Comb op args) = refl
  frame-moved (Reg frame slot first from) = refl
  frame-moved (EnReg frame enable reset first from) = refl
  frame-moved (Acc frame enable from) = refl
  frame-moved (Bridge frame live from) = refl
  frame-moved (Unit left right) = refl
  frame-moved (Counter frame) = refl

  pub counted-moved : (kind : NetKind) → counted_frame (redirected place kind) ≡ counted_frame kind
  counted-moved (Comb op args) = refl
  counted-moved (Reg frame slot first from) = refl
  counted-moved (EnReg frame enable reset first from) = refl
  counted-moved (Acc frame enable from) = refl
  counted-moved (Bridge frame live from) = refl
  counted-moved (Unit left right) = refl
  counted-moved (Counter frame) = refl

-- a frame that a net counts has a Counter
pub counter-found : (nets : List Net) (start k : ℕ) (net : Net) (frame : Frame) → slice_get nets k ≡ Some net → counted_frame net.kind ≡ Some frame → IsSome (counter_from nets start frame)
counter-found [] start k net frame is counts = absurd (cc is)
counter-found (one ∷ nets) start zero net frame is counts =
    let same : one ≡ net = same_Some one net is in
    let yes : is_frame frame (counted_frame one.kind) ≡ true = ap (λ (x : Net). is_frame frame (counted_frame x.kind)) same ∙ ap (is_frame frame) counts ∙ same-self frame in
    subst (λ (b : Bool). IsSome (if b then Some start else counter_from nets (start + 1) frame)) (sym yes) refl
counter-found (one ∷ nets) start (suc k) net frame is counts = by (is_frame frame (counted_frame one.kind)) (counter-found nets (start + 1) k net frame is counts)
  where
    by : (b : Bool) → IsSome (counter_from nets (start + 1) frame) → IsSome (if b then Some start else counter_from nets (start + 1) frame)
    by true rest = refl
    by false rest = rest

-- ---- the netlist

module _ (old : Circuit) (place : ℕ → ℕ) (kept : List ℕ) (can : CanStay old place kept) where
  abbrev new : Circuit
  new = renumbered old place kept

  abbrev moved : ℕ → Net
  moved b = moved_net place (net_at old.nets b)

  at-new : (i b : ℕ) → slice_get kept i ≡ Some b → slice_get new.nets i ≡ Some (moved b)
  at-new i b is = map-has moved kept i b is

  was-there : (i b : ℕ) → slice_get kept i ≡ Some b → slice_get old.nets b ≡ Some (net_at old.nets b)
  was-there i b is = slice_get-get_or old.nets b no_net (can.there i b is)

  -- what holds of the nets that stay, moved, holds of the new nets
  each-new : (P : Net → Type 0) → ((i b : ℕ) → slice_get kept i ≡ Some b → P (moved b)) → (i : ℕ) (net : Net) → slice_get new.nets i ≡ Some net → P net
  each-new P h i net is = (let f = map_there moved kept i net is in subst P f.2 (h i f.0 f.1))

  placed : (k : ℕ) → IsStanding old place kept k → place k < length new.nets
  placed k st = slice_get_within new.nets (place k) (moved st.other) (at-new (place k) st.other st.at)

  module _ (runs : IsNetlist old) where
    word-moved : (k w : ℕ) (s : Bool) → IsStanding old place kept k → HasWord old.nets k w s → HasWord new.nets (place k) w s
    word-moved k w s st has =
        let e : net_at old.nets k ≡ has.net = get_or_from_slice_get old.nets k has.net no_net has.is in
        record {
          net = moved st.other;
          is = at-new (place k) st.other st.at;
          wide = st.wide ∙ ap (λ (n : Net). n.width) e ∙ has.wide;
          sign = st.sign ∙ ap (λ (n : Net). n.signed) e ∙ has.sign;
        }

    -- a new net at the place of a net has its word
    word-at : (k : ℕ) (net : Net) → IsStanding old place kept k → slice_get new.nets (place k) ≡ Some net → (net.width ≡ (net_at old.nets k).width) × (net.signed ≡ (net_at old.nets k).signed)
    word-at k net st is =
        let e : moved st.other ≡ net = same_Some (moved st.other) net (sym (at-new (place k) st.other st.at) ∙ is) in
        (ap (λ (n : Net). n.width) (sym e) ∙ st.wide, ap (λ (n : Net). n.signed) (sym e) ∙ st.sign)

    module _ (kind : NetKind) (st : (read : ℕ) → Contains (reads kind) read → IsStanding old place kept read) (below : (read : ℕ) → Contains (reads kind) read → read < length old.nets) where
      abbrev there-at : (read : ℕ) → Contains (reads kind) read → slice_get old.nets read ≡ Some (net_at old.nets read)
      there-at read c = slice_get-get_or old.nets read no_net (below read c)

    bits-moved : (args : List ℕ) (high low : ℕ) → ((read : ℕ) → Contains args read → IsStanding old place kept read)
        → ((read : ℕ) → Contains args read → read < length old.nets) → HasBits old.nets args high low
        → HasBits new.nets (map place args) high low
    bits-moved args high low st below h = record {
      ordered = h.ordered;
      within = λ k read net at is.
          let m = map_there place args k read at in
          let c = stands args k m.0 m.1 in
          let w = word-at m.0 net (st m.0 c) (subst (λ (j : ℕ). slice_get new.nets j ≡ Some net) (sym m.2) is) in
          let b = h.within k m.0 (net_at old.nets m.0) m.1 (slice_get-get_or old.nets m.0 no_net (below m.0 c)) in
          subst (λ (w : ℕ). high < w) (sym w.0) b;
    }

    parts-moved : (args : List ℕ) (op : NetOp) → ((read : ℕ) → Contains args read → IsStanding old place kept read)
        → ((read : ℕ) → Contains args read → read < length old.nets) → HasParts old.nets (length old.inputs) args op
        → HasParts new.nets (length new.inputs) (map place args) op
    parts-moved args (Input number) st below h = subst (λ (n : ℕ). number < n) (sym (length-map old.inputs (moved_port place))) h
    parts-moved args (Const value) st below h = tt
    parts-moved args Resize st below h = tt
    parts-moved args (ShiftUp places) st below h = tt
    parts-moved args (ShiftDown places) st below h = tt
    parts-moved args Add st below h = tt
    parts-moved args Subtract st below h = tt
    parts-moved args Negate st below h = tt
    parts-moved args Multiply st below h = tt
    parts-moved args And st below h = tt
    parts-moved args Or st below h = tt
    parts-moved args Xor st below h = tt
    parts-moved args Not st below h = tt
    parts-moved args Less st below h = tt
    parts-moved args Equal st below h = tt
    parts-moved args Choose st below h = tt
    parts-moved args (Slice high low) st below h = bits-moved args high low st below h

    holds-moved : (l r w : ℕ) (s : Bool) → IsStanding old place kept l → IsStanding old place kept r
        → l < length old.nets → r < length old.nets → HoldsProducts old.nets l r w s
        → HoldsProducts new.nets (place l) (place r) w s
    holds-moved l r w s sl sr bl br h = record {
      holds = λ one other is other-is x y in-one in-other.
          let a = word-at l one sl is in
          let b = word-at r other sr other-is in
          h.holds (net_at old.nets l) (net_at old.nets r) (slice_get-get_or old.nets l no_net bl) (slice_get-get_or old.nets r no_net br) x y
          (subst (λ (s : Bool). InWord (net_at old.nets l).width s x) a.1 (subst (λ (w : ℕ). InWord w one.signed x) a.0 in-one))
          (subst (λ (s : Bool). InWord (net_at old.nets r).width s y) b.1 (subst (λ (w : ℕ). InWord w other.signed y) b.0 in-other));
    }

    kind-moved : (w : ℕ) (s : Bool) (kind : NetKind)
        → ((read : ℕ) → Contains (reads kind) read → IsStanding old place kept read)
        → ((read : ℕ) → Contains (reads kind) read → read < length old.nets)
        → IsKind old.nets old.cycles (length old.inputs) w s kind
        → IsKind new.nets new.cycles (length new.inputs) w s (redirected place kind)
    kind-moved w s (Comb op args) st below h = (length-map args place ∙ h.0, parts-moved args op st below h.1)
    kind-moved w s (Reg frame slot first from) st below h = (h.0, word-moved from w s (st from (0, omega arith, refl)) h.1, h.2)
    kind-moved w s (EnReg frame enable reset first from) st below h = (h.0, word-moved from w s (st from (1, omega arith, refl)) h.1, h.2)
    kind-moved w s (Acc frame enable from) st below h = (h.0, word-moved from w s (st from (1, omega arith, refl)) h.1, h.2)
    kind-moved w s (Bridge frame live from) st below h = (h.0, h.1, word-moved from w s (st from (0, omega arith, refl)) h.2)
    kind-moved w s (Unit left right) st below h =
        holds-moved left right w s (st left (0, omega arith, refl)) (st right (1, omega arith, refl))
        (below left (0, omega arith, refl)) (below right (1, omega arith, refl)) h
    kind-moved w s (Counter frame) st below h = h

    read-below : (i b read : ℕ) → slice_get kept i ≡ Some b → Contains (reads (net_at old.nets b).kind) read → read < length old.nets
    read-below i b read is c = all-in (λ (r : ℕ). r < length old.nets) (reads (net_at old.nets b).kind)
        (all-at (λ (n : Net). All (λ (r : ℕ). r < length old.nets) (reads n.kind)) old.nets runs.there b
        (net_at old.nets b) (was-there i b is)) read c

    pub sound : IsNetlist new
    sound = record {
      cycles = runs.cycles;
      words = all-from (λ (n : Net). IsWord n.width n.signed) new.nets (each-new (λ (n : Net). IsWord n.width n.signed)
          (λ i b is. all-at (λ (n : Net). IsWord n.width n.signed) old.nets runs.words b (net_at old.nets b) (was-there i b is)));
      kinds = all-from (λ (n : Net). IsKind new.nets new.cycles (length new.inputs) n.width n.signed n.kind)
          new.nets (each-new (λ (n : Net). IsKind new.nets new.cycles (length new.inputs) n.width n.signed n.kind)
          (λ i b is. kind-moved (net_at old.nets b).width (net_at old.nets b).signed (net_at old.nets b).kind (λ read c. can.reads i b read is c) (λ read c. read-below i b read is c)
          (all-at (λ (n : Net). IsKind old.nets old.cycles (length old.inputs) n.width n.signed n.kind) old.nets runs.kinds b (net_at old.nets b) (was-there i b is))));
      there = all-from (λ (n : Net). All (λ (r : ℕ). r < length new.nets) (reads n.kind)) new.nets (each-new (λ (n : Net). All (λ (r : ℕ). r < length new.nets) (reads n.kind))
          (λ i b is. subst (All (λ (r : ℕ). r < length new.nets)) (sym (reads-moved place (net_at old.nets b).kind))
          (all-from (λ (r : ℕ). r < length new.nets) (map place (reads (net_at old.nets b).kind)) (λ k r at.
          let m = map_there place (reads (net_at old.nets b).kind) k r at in
          subst (λ (r : ℕ). r < length new.nets) m.2 (placed m.0 (can.reads i b m.0 is (stands (reads (net_at old.nets b).kind) k m.0 m.1)))))));
      ranked = (
        can.rank,
        record {
          falls = λ i net is.
              let f = map_there moved kept i net is in
              subst (λ (n : Net). All (λ (r : ℕ). can.rank r < can.rank i) (reads_now n.kind)) f.2
              (subst (All (λ (r : ℕ). can.rank r < can.rank i)) (sym (reads-now-moved place (net_at old.nets f.0).kind))
              (all-from (λ (r : ℕ). can.rank r < can.rank i) (map place (reads_now (net_at old.nets f.0).kind)) (λ k r at.
              let m = map_there place (reads_now (net_at old.nets f.0).kind) k r at in
              subst (λ (r : ℕ). can.rank r < can.rank i) m.2 (can.falls i f.0 m.0 f.1 (stands (reads_now (net_at old.nets f.0).kind) k m.0 m.1)))));
        },
      );
      inputs = λ k port is.
          let p = map_there (moved_port place) old.inputs k port is in
          let c = can.inputs k p.0 p.1 in
          record {
            net = moved c.other;
            is = subst (λ (q : NetPort). slice_get new.nets q.net ≡ Some (moved c.other)) p.2 (at-new (place p.0.net) c.other c.at);
            shows = ap (redirected place) c.shows;
          };
      outputs = all-from (λ (port : NetPort). port.net < length new.nets) new.outputs (λ k port is.
          let p = map_there (moved_port place) old.outputs k port is in
          subst (λ (q : NetPort). q.net < length new.nets) p.2 (placed p.0.net (can.outputs p.0 (stands old.outputs k p.0 p.1))));
    }

  module _ (emits : IsEmittable old) where
    together : new.inputs ++ new.outputs ≡ map (moved_port place) (old.inputs ++ old.outputs)
    together = sym (map-append (moved_port place) old.inputs old.outputs)

    -- what the ports keep holds of the moved ports
    of-ports : (P : NetPort → Type 0) → ((port : NetPort) → Contains (old.inputs ++ old.outputs) port
        → P (moved_port place port)) → (port : NetPort) → Contains (new.inputs ++ new.outputs) port → P port
    of-ports P h port c = (let m = image (moved_port place) (old.inputs ++ old.outputs) port (subst (λ (xs : List NetPort). Contains xs port) together c) in subst P m.2 (h m.0 m.1))

    ports-moved : ArePorts new.inputs new.outputs
    ports-moved = record {
      names = of-ports (λ (port : NetPort). IsPortName port.name) (λ port c. emits.ports.names port c);
      differ = subst (AllPairs (λ (one other : NetPort). one.name ≢ other.name)) (sym together)
          (pairs-map (moved_port place) (λ (one other : NetPort). one.name ≢ other.name)
          (old.inputs ++ old.outputs) emits.ports.differ);
      periods = of-ports (λ (port : NetPort). IsPeriod port.period) (λ port c. emits.ports.periods port c);
      latencies = λ port c. (let m = image (moved_port place) old.outputs port c in subst (λ (q : NetPort). q.latency ≤ most_latency) m.2 (emits.ports.latencies m.0 m.1));
    }

    labels-moved : AreLabels (length new.nets) new.labels
    labels-moved = record {
      there = λ label c. (let m = image (moved_label place) old.labels label c in subst (λ (q : NetLabel). q.net < length new.nets) m.2 (placed m.0.net (can.labels m.0 m.1)));
      names = λ label c. (let m = image (moved_label place) old.labels label c in subst (λ (q : NetLabel). IsLabelName q.name) m.2 (emits.labels.names m.0 m.1));
      nets_differ = pairs-map (moved_label place) (λ (one other : NetLabel). one.net ≢ other.net) old.labels can.labels_differ;
      names_differ = pairs-map (moved_label place) (λ (one other : NetLabel). one.name ≢ other.name) old.labels emits.labels.names_differ;
    }

    counters-moved : (i : ℕ) (net : Net) (frame : Frame) → slice_get new.nets i ≡ Some net → frame_of net.kind ≡ Some frame → IsSome (counter_of new.nets frame)
    counters-moved i net frame is named =
        let f = map_there moved kept i net is in
        let was : frame_of (net_at old.nets f.0).kind ≡ Some frame = sym (frame-moved place (net_at old.nets f.0).kind) ∙ ap (λ (n : Net). frame_of n.kind) f.2 ∙ named in
        let c = can.counters i f.0 frame f.1 was in
        counter-found new.nets 0 c.place (moved c.number) frame (at-new c.place c.number c.at) (counted-moved place (net_at old.nets c.number).kind ∙ c.counts)

    pub emittable : IsEmittable new
    emittable = record {
      cycles = emits.cycles;
      counters = record { each = counters-moved };
      ports = ports-moved;
      labels = labels-moved;
    }

pub renumbered-runs : RenumberedRuns
renumbered-runs netlist place kept can runs = sound netlist place kept can runs

pub renumbered-emits : RenumberedEmits
renumbered-emits netlist place kept can emits = emittable netlist place kept can emits
