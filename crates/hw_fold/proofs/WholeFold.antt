-- The netlist whose nets read what stands for what they read stands in the place of the other.
use Rattle.std.proofs.Common.{◌≡◌, ℕ, ◌<◌, ◌≤◌, inl, inr, List, [], ◌∷◌, map, flat_map, length, All, Contains, Option, None, Some, IsSome, slice_get, slice_index_or, refl, ap, sym, ◌∙◌, subst, arith}
use Rattle.std.specs.List.{AllZip}
use Rattle.std.proofs.lemmas.Option.{get_or_from_slice_get, slice_get-get_or, slice_get_within}
use Rattle.math_num.specs.Word.{IsWord}
use Rattle.hw_net.specs.declared.netlist.Frame.{Frame}
use Rattle.hw_net.specs.declared.netlist.Net.{Net}
use Rattle.hw_net.specs.declared.netlist.NetLabel.{NetLabel}
use Rattle.hw_net.specs.declared.netlist.NetPort.{NetPort}
use Rattle.hw_net.specs.declared.netlist.NetOp.TheVariants.{Input}
use Rattle.hw_net.specs.declared.netlist.NetKind.{NetKind}
use Rattle.hw_net.specs.declared.netlist.NetKind.TheVariants.{Comb, Reg, EnReg, Acc, Bridge, Unit, Counter}
use Rattle.hw_net.specs.Circuit.{Circuit}
use Rattle.hw_net.specs.Emittable.{IsEmittable}
use Rattle.hw_net.specs.Frames.{counted_frame, counter_of, frame_of}
use Rattle.hw_net.specs.Netlist.{IsKind, IsNetlist, reads, reads_now}
use Rattle.hw_net.specs.NetRows.{Inputs, NetRows, NetShows, Rows}
use Rattle.hw_net.specs.Products.{Product, net_at, no_net, places, products_of}
use Rattle.hw_refine.specs.Redirects.{redirected}
use Rattle.hw_refine.specs.Refines.{IsReadBy, KeepsLabel, face, held_count}
use Rattle.hw_refine.specs.Represents.{HoldsAtRoots, IsRepresented, Represents}
use Rattle.hw_refine.proofs.Lists.{by-place, combs-in, products-are, units-in}
use Rattle.math_list.proofs.Elements.{found, stands, all-at, all-in, from-map}
use Rattle.math_list.proofs.Places.{map_there, there_map}
use Rattle.math_list.proofs.Zips.{zip-append}
use Rattle.hw_renumber.specs.Renumbered.{moved_label, moved_net, moved_nets, moved_port, place_in, renumbered}
use Rattle.hw_renumber.specs.Sound.{CanStay, IsCounted, IsStanding}
use Rattle.hw_renumber.proofs.Products.{comb-zip, counter-at, further, held-moved, now-read, ones, unit-zip, zip-map}
use Rattle.hw_renumber.proofs.Sound.{reads-moved}
use Rattle.hw_fold.specs.inner.Fold.{IsFolded}
use Rattle.hw_fold.specs.inner.Roots.{CanShow, IsAlone, IsPassed}
use Rattle.hw_fold.proofs.Constants.{reads-something}
use Rattle.hw_fold.proofs.Numbers.{places-at, places-below, places-is}

-- only an input is redirected to an input
input-of : (root : ℕ → ℕ) (kind : NetKind) (k : ℕ) → redirected root kind ≡ Comb (Input k) [] → kind ≡ Comb (Input k) []
input-of root (Comb op []) k e = e
input-of root (Comb op (x ∷ args)) k e = absurd (cc e)
input-of root (Reg frame slot first from) k e = absurd (cc e)
input-of root (EnReg frame enable reset first from) k e = absurd (cc e)
input-of root (Acc frame enable from) k e = absurd (cc e)
input-of root (Bridge frame live from) k e = absurd (cc e)
input-of root (Unit left right) k e = absurd (cc e)
input-of root (Counter frame) k e = absurd (cc e)

module _ (old : Circuit) (runs : IsNetlist old) (emits : IsEmittable old) (roots : List ℕ) (folded : IsFolded old roots) where
  abbrev count : ℕ
  count = length old.nets

  abbrev root : ℕ → ℕ
  root k = place_in roots k

  abbrev new : Circuit
  new = renumbered old root (places count)

  abbrev moved : ℕ → Net
  moved k = moved_net root (net_at old.nets k)

  net-there : (k : ℕ) → k < count → slice_get old.nets k ≡ Some (net_at old.nets k)
  net-there k below = slice_get-get_or old.nets k no_net below

  reads-below : (k read : ℕ) → k < count → Contains (reads (net_at old.nets k).kind) read → read < count
  reads-below k read below c = all-in (λ (r : ℕ). r < count) (reads (net_at old.nets k).kind)
      (all-at (λ (n : Net). All (λ (r : ℕ). r < count) (reads n.kind)) old.nets runs.there k (net_at old.nets k)
      (net-there k below)) read c

  standing : (k : ℕ) → k < count → IsStanding old root (places count) k
  standing k below = record { other = root k; at = places-at count (root k) (folded.folding.inside k below); wide = folded.folding.wide k below; sign = folded.folding.sign k below }

  label-own : (label : NetLabel) → Contains old.labels label → root label.net ≡ label.net
  label-own label c = folded.pinned.each label.net (emits.labels.there label c) (folded.labels label c).own_mark

  -- an input is an input still
  input-same : (k input : ℕ) → k < count → (net_at old.nets k).kind ≡ Comb (Input input) [] → (net_at old.nets (root k)).kind ≡ Comb (Input input) []
  input-same k input below is = elim (folded.folding.same k below) [
    | inl e ↦ input-of root (net_at old.nets (root k)).kind input (e ∙ ap (redirected root) is)
    | inr p ↦ absurd (let r = reads-something old.nets root k (root k) p (Input input) [] is in omega (arith, r))
  ]

  frame-kept : (i b : ℕ) (frame : Frame) → slice_get (places count) i ≡ Some b → frame_of (net_at old.nets b).kind ≡ Some frame → IsCounted old (places count) frame
  frame-kept i b frame is named = by (counter_of old.nets frame) refl (emits.counters.each b (net_at old.nets b) frame (net-there b (places-is count i b is).0) named)
    where
      by : (o : Option ℕ) → counter_of old.nets frame ≡ o → IsSome o → IsCounted old (places count) frame
      by None e some = absurd (cc some)
      by (Some j) e some =
          let r = counter-at old.nets 0 j frame e in
          let same : j ≡ r.0 = (let a = r.2 in omega (arith, a)) in
          let at : slice_get old.nets j ≡ Some r.1 = ap (slice_get old.nets) same ∙ r.3 in
          record {
            place = j;
            number = j;
            at = places-at count j (slice_get_within old.nets j r.1 at);
            counts = ap (λ (n : Net). counted_frame n.kind) (get_or_from_slice_get old.nets j r.1 no_net at) ∙ r.4;
          }

  pub can : CanStay old root (places count)
  can = record {
    there = λ i b is. (places-is count i b is).0;
    reads = λ i b read is c. standing read (reads-below b read (places-is count i b is).0 c);
    rank = folded.rank;
    falls = λ i b read is c.
        let p = places-is count i b is in
        let below = reads-below b read p.0 (now-read (net_at old.nets b).kind read c) in
        let low = all-in (λ (r : ℕ). folded.rank r < folded.rank b) (reads_now (net_at old.nets b).kind) (folded.ranked.falls b (net_at old.nets b) (net-there b p.0)) read c in
        let lower = folded.folding.low read below in
        let e = ap folded.rank p.1 in
        omega (arith, low, lower, e);
    inputs = λ k port is.
        let shown = runs.inputs k port is in
        let below = slice_get_within old.nets port.net shown.net shown.is in
        record {
          other = root port.net;
          at = places-at count (root port.net) (folded.folding.inside port.net below);
          wide = folded.folding.wide port.net below;
          sign = folded.folding.sign port.net below;
          shows = input-same port.net k below (ap (λ (n : Net). n.kind) (get_or_from_slice_get old.nets port.net shown.net no_net shown.is) ∙ shown.shows);
        };
    outputs = λ port c. standing port.net (all-in (λ (p : NetPort). p.net < count) old.outputs runs.outputs port c);
    labels = λ label c. standing label.net (emits.labels.there label c);
    labels_differ = λ i j d less within e.
        let one = stands old.labels i (slice_index_or old.labels i d) (slice_get-get_or old.labels i d (omega (arith, less, within))) in
        let two = stands old.labels j (slice_index_or old.labels j d) (slice_get-get_or old.labels j d within) in
        emits.labels.nets_differ i j d less within (sym (label-own (slice_index_or old.labels i d) one) ∙ e ∙ label-own (slice_index_or old.labels j d) two);
    counters = frame-kept;
  }

  -- ---- what is kept

  at-new : (k : ℕ) → k < count → slice_get new.nets k ≡ Some (moved k)
  at-new k below = there_map moved (places count) k k (places-at count k below)

  net-new : (k : ℕ) → k < count → net_at new.nets k ≡ moved k
  net-new k below = get_or_from_slice_get new.nets k (moved k) no_net (at-new k below)

  -- what stands for a net is there, in its word
  root-below : (k : ℕ) → k < count → root k < count
  root-below k below = folded.folding.inside k below

  wide-at : (k : ℕ) → k < count → (net_at new.nets (root k)).width ≡ (net_at old.nets k).width
  wide-at k below = ap (λ (n : Net). n.width) (net-new (root k) (root-below k below)) ∙ folded.folding.wide k below

  sign-at : (k : ℕ) → k < count → (net_at new.nets (root k)).signed ≡ (net_at old.nets k).signed
  sign-at k below = ap (λ (n : Net). n.signed) (net-new (root k) (root-below k below)) ∙ folded.folding.sign k below

  outputs-below : (port : NetPort) → Contains old.outputs port → port.net < count
  outputs-below port c = all-in (λ (p : NetPort). p.net < count) old.outputs runs.outputs port c

  inputs-below : (port : NetPort) → Contains old.inputs port → port.net < count
  inputs-below port c = (let shown = runs.inputs c.0 port (found old.inputs port c) in slice_get_within old.nets port.net shown.net shown.is)

  face-same : (port : NetPort) → port.net < count → face new (moved_port root port) ≡ face old port
  face-same port below = (let w = wide-at port.net below in let s = sign-at port.net below in λ i. record { name = port.name; width = w i; signed = s i; period = port.period; latency = port.latency })

  faces-same : (ports : List NetPort) → ((port : NetPort) → Contains ports port → port.net < count) → map (face new) (map (moved_port root) ports) ≡ map (face old) ports
  faces-same [] below = refl
  faces-same (p ∷ ports) below = (let a = face-same p (below p (0, omega arith, refl)) in let b = faces-same ports (λ q c. below q (further p q ports c)) in λ i. a i ∷ b i)

  -- what the new nets show, the old ones can show
  can-show : (n : ℕ) (inputs : Inputs) (rows : Rows) → NetRows new n inputs rows → (c : ℕ) → c < n → CanShow old.nets (λ j. rows j c)
  can-show n inputs rows are c within = record {
    words = λ j below. all-at (λ (net : Net). IsWord net.width net.signed) old.nets runs.words j (net_at old.nets j) (net-there j below);
    in_word = λ j below. are.in_word j (moved j) (at-new j below) c within;
    constants = λ j value args below is.
        (subst (λ (kind : NetKind). NetShows old.cycles n inputs rows (moved j).width (moved j).signed kind (rows j)) (ap (redirected root) is)
        (are.shows j (moved j) (at-new j below))) c within;
  }

  holds : (k : ℕ) (was : Net) → slice_get old.nets k ≡ Some was → IsPassed old.nets root k (root k) → HoldsAtRoots new root k was
  holds k was is p n inputs rows are =
      subst (λ (net : Net). NetShows old.cycles n inputs (λ j. rows (root j)) net.width net.signed net.kind (rows (root k))) (get_or_from_slice_get old.nets k was no_net is)
      (subst (λ (kind : NetKind). NetShows old.cycles n inputs (λ j. rows (root j)) (net_at old.nets k).width (net_at old.nets k).signed kind (rows (root k))) (sym p.is)
      (λ c within. p.gives (λ number. inputs number c) (λ j. rows j c) (can-show n inputs rows are c within)))

  represented : (k : ℕ) (was : Net) → slice_get old.nets k ≡ Some was → IsRepresented new root k was
  represented k was is =
      let below = slice_get_within old.nets k was is in
      let e : net_at old.nets k ≡ was = get_or_from_slice_get old.nets k was no_net is in
      record {
        is = moved (root k);
        there = at-new (root k) (root-below k below);
        wide = folded.folding.wide k below ∙ ap (λ (n : Net). n.width) e;
        sign = folded.folding.sign k below ∙ ap (λ (n : Net). n.signed) e;
        kind = elim (folded.folding.same k below) [
          | inl h ↦ inl (h ∙ ap (λ (n : Net). redirected root n.kind) e)
          | inr p ↦ inr (holds k was is p)
        ];
      }

  -- ---- labels

  module _ (label : NetLabel) (c : Contains old.labels label) where
    below : label.net < count
    below = emits.labels.there label c

    own : root label.net ≡ label.net
    own = label-own label c

    kind-at : (net_at new.nets (root label.net)).kind ≡ redirected root (net_at old.nets label.net).kind
    kind-at = ap (λ (k : ℕ). (net_at new.nets k).kind) own ∙ ap (λ (n : Net). n.kind) (net-new label.net below)

    module _ (from : ℕ) (from-below : from < count) (alone : IsAlone roots count from) where
      alone-still : IsReadBy old from label.net → IsReadBy new (root from) (root label.net)
      alone-still b = record {
        alone = λ k new-below read-here.
            let f = map_there moved (places count) k (net_at new.nets k) (slice_get-get_or new.nets k no_net new-below) in
            let p = places-is count k f.0 f.1 in
            let here = subst (λ (xs : List ℕ). Contains xs (root from)) (reads-moved root (net_at old.nets f.0).kind) (subst (λ (n : Net). Contains (reads n.kind) (root from)) (sym f.2) read-here) in
            let m = from-map root (reads (net_at old.nets f.0).kind) (root from) here in
            let same : m.0 ≡ from = alone.only m.0 (reads-below f.0 m.0 p.0 m.1) (m.2 ∙ alone.own) in
            let e : f.0 ≡ label.net = b.alone f.0 p.0 (subst (Contains (reads (net_at old.nets f.0).kind)) same m.1) in
            sym p.1 ∙ e ∙ sym own;
        unshown = λ port shown e.
            let m = from-map (moved_port root) old.outputs port shown in
            let same : m.0.net ≡ from = alone.only m.0.net (outputs-below m.0 m.1) (ap (λ (p : NetPort). p.net) m.2 ∙ e ∙ alone.own) in
            b.unshown m.0 m.1 same;
      }

    label-kept : KeepsLabel old new root label
    label-kept = record {
      there = stands new.labels c.0 (moved_label root label) (there_map (moved_label root) old.labels c.0 label (found old.labels label c));
      wide = wide-at label.net below;
      sign = sign-at label.net below;
      multiplies = λ m. record { args = map root m.args; is = kind-at ∙ ap (redirected root) m.is };
      takes = λ frame slot first from is.
          let from-below = reads-below label.net from below (subst (λ (kind : NetKind). Contains (reads kind) from) (sym is) (0, omega arith, refl)) in
          let alone = folded.folding.alone from from-below ((folded.labels label c).wire frame slot first from is) in
          record {
            frame = frame;
            slot = slot;
            first = first;
            kind = kind-at ∙ ap (redirected root) is;
            wire = λ w. record {
              op = w.op;
              args = map root w.args;
              is = ap (λ (k : ℕ). (net_at new.nets k).kind) alone.own ∙ ap (λ (n : Net). n.kind) (net-new from from-below) ∙ ap (redirected root) w.is;
            };
            alone = alone-still from from-below alone;
          };
    }

  -- ---- registers and multiplications

  held-same : (ks : List ℕ) → held_count (moved_nets old.nets root ks) ≡ held_count (flat_map (λ (k : ℕ). net_at old.nets k ∷ []) ks)
  held-same [] = refl
  held-same (k ∷ ks) = (let a = held-moved root (net_at old.nets k).kind in let b = held-same ks in omega (arith, a, b))

  few : held_count new.nets ≤ held_count old.nets
  few =
      let a = held-same (places count) in
      let b = ap held_count (by-place (λ (net : Net). net ∷ []) old.nets ∙ ones old.nets) in
      omega (arith, a, b)

  abbrev Both : Product → Product → Type 0
  Both was is = (root was.left ≡ is.left) × (root was.right ≡ is.right)

  module _ (f : Net → List Product) (each : (k : ℕ) → k < count → AllZip Both (f (net_at old.nets k)) (f (moved k))) where
    zip-each : (ks : List ℕ) → ((k : ℕ) → Contains ks k → k < count) → AllZip Both (flat_map (λ k. f (net_at old.nets k)) ks) (flat_map f (moved_nets old.nets root ks))
    zip-each [] below = tt
    zip-each (k ∷ ks) below = zip-append Both (f (net_at old.nets k)) (f (moved k)) _ _ (each k (below k (0, omega arith, refl))) (zip-each ks (λ j c. below j (further k j ks c)))

  factors : AllZip Both (products_of old) (products_of new)
  factors =
      let units = zip-each units-in (λ k below. unit-zip root (λ a b. root a ≡ b) (net_at old.nets k).width
      (net_at old.nets k).width (net_at old.nets k).kind (λ read c. refl)) (places count)
      (places-below count) in
      let combs = zip-each combs-in (λ k below. comb-zip root (λ a b. root a ≡ b) (net_at old.nets k).width
      (net_at old.nets k).width old.nets old.cycles (length old.inputs) (net_at old.nets k).width
      (net_at old.nets k).signed (net_at old.nets k).kind
      (all-at (λ (n : Net). IsKind old.nets old.cycles (length old.inputs) n.width n.signed n.kind) old.nets
      runs.kinds k (net_at old.nets k) (net-there k below)) (λ read c. refl)) (places count)
      (places-below count) in
      subst (AllZip Both (products_of old)) (sym (products-are new)) (zip-append Both _ (flat_map units-in new.nets) _ (flat_map combs-in new.nets) units combs)

  pub represents : Represents old new root
  represents = record {
    cycles = refl;
    inputs = faces-same old.inputs inputs-below;
    outputs = faces-same old.outputs outputs-below;
    few = few;
    nets = represented;
    outputs_kept = zip-map (λ (was is : NetPort). root was.net ≡ is.net) (moved_port root) old.outputs (λ port c. refl);
    factors_kept = factors;
    labels = label-kept;
  }
