-- The netlist of what must stay stands in the place of the whole.
use Rattle.std.proofs.Common.{◌≡◌, ℕ, zero, suc, ◌+◌, ◌<◌, ◌≤◌, List, [], ◌∷◌, ◌++◌, map, flat_map, length, All, Contains, Option, None, Some, IsSome, Bool, true, false, slice_get, slice_index}
use Rattle.std.proofs.Common.{slice_index_or, append-nil, refl, ap, sym, ◌∙◌, subst, arith}
use Rattle.std.specs.List.{AllZip}
use Rattle.std.proofs.lemmas.Grind.{flat_map-append}
use Rattle.std.proofs.lemmas.List.{map-append}
use Rattle.std.proofs.lemmas.Option.{get_or_from_slice_get, slice_get-get_or, slice_get_within}
use Rattle.hw_net.specs.declared.netlist.Frame.{Frame}
use Rattle.hw_net.specs.declared.netlist.Net.{Net}
use Rattle.hw_net.specs.declared.netlist.NetLabel.{NetLabel}
use Rattle.hw_net.specs.declared.netlist.NetPort.{NetPort}
use Rattle.hw_net.specs.declared.netlist.NetKind.{NetKind}
use Rattle.hw_net.specs.Circuit.{Circuit}
use Rattle.hw_net.specs.Emittable.{IsEmittable}
use Rattle.hw_net.specs.Frames.{counted_frame, counter_of, frame_of}
use Rattle.hw_net.specs.Netlist.{IsKind, IsNetlist, reads, reads_now}
use Rattle.hw_net.specs.Products.{Product, net_at, no_net, places, products_of}
use Rattle.hw_refine.specs.Drops.{Drops, IsKept}
use Rattle.hw_refine.specs.Redirects.{redirected}
use Rattle.hw_refine.specs.Refines.{IsReadBy, KeepsLabel, face, held, held_count}
use Rattle.hw_refine.proofs.Lists.{by-place, combs-in, products-are, units-in}
use Rattle.math_list.proofs.Elements.{found, stands, all-at, all-in, from-map}
use Rattle.math_list.proofs.Places.{map_there, there_map}
use Rattle.math_list.proofs.Zips.{zip-append}
use Rattle.hw_renumber.specs.Renumbered.{moved_label, moved_net, moved_nets, moved_port, renumbered}
use Rattle.hw_renumber.specs.Sound.{CanStay, IsCounted, IsStanding}
use Rattle.hw_renumber.proofs.Sound.{reads-moved}
use Rattle.hw_renumber.proofs.Products.{comb-zip, counter-at, further, held-append, held-moved, now-read, ones, unit-zip, zip-map}
use Rattle.hw_trim.specs.inner.MarkPlaces.{kept_of}
use Rattle.hw_trim.specs.inner.Marks.{IsNeeded, is_marked, multiplies}
use Rattle.hw_trim.proofs.NoProducts.{no-unit, no-comb}
use Rattle.hw_trim.proofs.MarkCounts.{kept-at, kept-is, kept-no, kept-yes}

module _ (old : Circuit) (runs : IsNetlist old) (emits : IsEmittable old) (marks : List Bool)
    (needed : IsNeeded old marks) (place : ℕ → ℕ)
    (counted : (k : ℕ) → k < length old.nets → place k ≡ length (kept_of marks k)) where
  abbrev kept : List ℕ
  kept = kept_of marks (length old.nets)

  abbrev new : Circuit
  new = renumbered old place kept

  abbrev back : ℕ → ℕ
  back i = slice_index kept i

  abbrev moved : ℕ → Net
  moved b = moved_net place (net_at old.nets b)

  abbrev On : ℕ → Type 0
  On k = (k < length old.nets) × (is_marked marks k ≡ true)

  placed : (k : ℕ) → On k → slice_get kept (place k) ≡ Some k
  placed k on = ap (slice_get kept) (counted k on.0) ∙ kept-at marks (length old.nets) k on.0 on.1

  back-again : (k : ℕ) → On k → back (place k) ≡ k
  back-again k on = get_or_from_slice_get kept (place k) k 0 (placed k on)

  same-place : (j k : ℕ) → On j → On k → place j ≡ place k → j ≡ k
  same-place j k one two e = sym (back-again j one) ∙ ap back e ∙ back-again k two

  stays : (i b : ℕ) → slice_get kept i ≡ Some b → On b × (place b ≡ i)
  stays i b is = (let r = kept-is marks (length old.nets) i b is in ((r.0, r.1), counted b r.0 ∙ r.2))

  net-there : (b : ℕ) → On b → slice_get old.nets b ≡ Some (net_at old.nets b)
  net-there b on = slice_get-get_or old.nets b no_net on.0

  reads-on : (b read : ℕ) → On b → Contains (reads (net_at old.nets b).kind) read → On read
  reads-on b read on c = (
    all-in (λ (r : ℕ). r < length old.nets) (reads (net_at old.nets b).kind)
        (all-at (λ (n : Net). All (λ (r : ℕ). r < length old.nets) (reads n.kind)) old.nets runs.there b
        (net_at old.nets b) (net-there b on)) read c,
    all-in (λ (r : ℕ). is_marked marks r ≡ true) (reads (net_at old.nets b).kind) (needed.served.each b (net_at old.nets b) (net-there b on) on.1).reads read c,
  )

  outputs-on : (port : NetPort) → Contains old.outputs port → On port.net
  outputs-on port c = (
    all-in (λ (p : NetPort). p.net < length old.nets) old.outputs runs.outputs port c,
    all-in (λ (p : NetPort). is_marked marks p.net ≡ true) old.outputs needed.rooted.outputs port c,
  )

  labels-on : (label : NetLabel) → Contains old.labels label → On label.net
  labels-on label c = (emits.labels.there label c, all-in (λ (l : NetLabel). is_marked marks l.net ≡ true) old.labels needed.rooted.labels label c)

  inputs-on : (port : NetPort) → Contains old.inputs port → On port.net
  inputs-on port c = (let shown = runs.inputs c.0 port (found old.inputs port c) in (
    slice_get_within old.nets port.net shown.net shown.is,
    all-in (λ (p : NetPort). is_marked marks p.net ≡ true) old.inputs needed.rooted.inputs port c,
  ))

  standing : (k : ℕ) → On k → IsStanding old place kept k
  standing k on = record { other = k; at = placed k on; wide = refl; sign = refl }

  frame-kept : (i b : ℕ) (frame : Frame) → slice_get kept i ≡ Some b → frame_of (net_at old.nets b).kind ≡ Some frame → IsCounted old kept frame
  frame-kept i b frame is named = by (counter_of old.nets frame) refl (emits.counters.each b (net_at old.nets b) frame (net-there b (stays i b is).0) named)
    where
      by : (o : Option ℕ) → counter_of old.nets frame ≡ o → IsSome o → IsCounted old kept frame
      by None e some = absurd (cc some)
      by (Some j) e some =
          let on = (stays i b is).0 in
          let r = counter-at old.nets 0 j frame e in
          let same : j ≡ r.0 = (let a = r.2 in omega (arith, a)) in
          let at : slice_get old.nets j ≡ Some r.1 = ap (slice_get old.nets) same ∙ r.3 in
          let marked = (needed.served.each b (net_at old.nets b) (net-there b on) on.1).counter frame j named e in
          record {
            place = place j;
            number = j;
            at = placed j (slice_get_within old.nets j r.1 at, marked);
            counts = ap (λ (n : Net). counted_frame n.kind) (get_or_from_slice_get old.nets j r.1 no_net at) ∙ r.4;
          }

  pub can : CanStay old place kept
  can = record {
    there = λ i b is. (stays i b is).0.0;
    reads = λ i b read is c. standing read (reads-on b read (stays i b is).0 c);
    rank = λ i. runs.ranked.0 (back i);
    falls = λ i b read is c.
        let on = (stays i b is).0 in
        let low = all-in (λ (r : ℕ). runs.ranked.0 r < runs.ranked.0 b) (reads_now (net_at old.nets b).kind) (runs.ranked.1.falls b (net_at old.nets b) (net-there b on)) read c in
        let one = back-again read (reads-on b read on (now-read (net_at old.nets b).kind read c)) in
        let two : back i ≡ b = get_or_from_slice_get kept i b 0 is in
        subst (λ (k : ℕ). runs.ranked.0 (back (place read)) < runs.ranked.0 k) (sym two) (subst (λ (k : ℕ). runs.ranked.0 k < runs.ranked.0 b) (sym one) low);
    inputs = λ k port is.
        let shown = runs.inputs k port is in
        record {
          other = port.net;
          at = placed port.net (inputs-on port (stands old.inputs k port is));
          wide = refl;
          sign = refl;
          shows = ap (λ (n : Net). n.kind) (get_or_from_slice_get old.nets port.net shown.net no_net shown.is) ∙ shown.shows;
        };
    outputs = λ port c. standing port.net (outputs-on port c);
    labels = λ label c. standing label.net (labels-on label c);
    labels_differ = λ i j d less within e.
        let one = stands old.labels i (slice_index_or old.labels i d) (slice_get-get_or old.labels i d (omega (arith, less, within))) in
        let two = stands old.labels j (slice_index_or old.labels j d) (slice_get-get_or old.labels j d within) in
        emits.labels.nets_differ i j d less within
        (same-place (slice_index_or old.labels i d).net (slice_index_or old.labels j d).net
        (labels-on (slice_index_or old.labels i d) one) (labels-on (slice_index_or old.labels j d) two) e);
    counters = frame-kept;
  }

  -- ---- what stays

  at-place : (k : ℕ) → On k → net_at new.nets (place k) ≡ moved k
  at-place k on = get_or_from_slice_get new.nets (place k) (moved k) no_net (there_map moved kept (place k) k (placed k on))

  kept-on : (k : ℕ) → On k → IsKept new place back k (place k)
  kept-on k on = record {
    there = slice_get_within new.nets (place k) (moved k) (there_map moved kept (place k) k (placed k on));
    placed = refl;
    back_again = back-again k on;
  }

  face-same : (port : NetPort) → On port.net → face new (moved_port place port) ≡ face old port
  face-same port on = (let e = at-place port.net on in λ i. record { name = port.name; width = (e i).width; signed = (e i).signed; period = port.period; latency = port.latency })

  faces-same : (ports : List NetPort) → ((port : NetPort) → Contains ports port → On port.net) → map (face new) (map (moved_port place) ports) ≡ map (face old) ports
  faces-same [] on = refl
  faces-same (p ∷ ports) on = (let a = face-same p (on p (0, omega arith, refl)) in let b = faces-same ports (λ q c. on q (further p q ports c)) in λ i. a i ∷ b i)

  -- ---- registers

  abbrev front : ℕ → List Net
  front n = flat_map (λ k. net_at old.nets k ∷ []) (places n)

  front-more : (n : ℕ) → held_count (front (suc n)) ≡ held_count (front n) + held (net_at old.nets n).kind
  front-more n = ap held_count (flat_map-append (λ (k : ℕ). net_at old.nets k ∷ []) (places n) (n ∷ [])) ∙ held-append (front n) (net_at old.nets n ∷ []) ∙ omega arith

  held-until : (n : ℕ) → held_count (moved_nets old.nets place (kept_of marks n)) ≤ held_count (front n)
  held-until zero = omega arith
  held-until (suc n) = by (held-until n) (is_marked marks n) refl
    where
      by : held_count (moved_nets old.nets place (kept_of marks n)) ≤ held_count (front n) → (b : Bool)
          → is_marked marks n ≡ b
          → held_count (moved_nets old.nets place (kept_of marks (suc n))) ≤ held_count (front (suc n))
      by rest true marked =
          let more = front-more n in
          let own = held-moved place (net_at old.nets n).kind in
          let e : held_count (moved_nets old.nets place (kept_of marks (suc n))) ≡ held_count (moved_nets old.nets place (kept_of marks n)) + held (moved n).kind
          = ap (λ (xs : List ℕ). held_count (map moved xs)) (kept-yes marks n marked)
          ∙ ap held_count (map-append moved (kept_of marks n) (n ∷ []))
          ∙ held-append (map moved (kept_of marks n)) (moved n ∷ []) ∙ omega arith in
          omega (arith, rest, more, own, e)
      by rest false absent =
          let more = front-more n in
          let e = ap (λ (xs : List ℕ). held_count (moved_nets old.nets place xs)) (kept-no marks n absent) in
          omega (arith, rest, more, e)

  few : held_count new.nets ≤ held_count old.nets
  few =
      let rest = held-until (length old.nets) in
      let e = ap held_count (by-place (λ (net : Net). net ∷ []) old.nets ∙ ones old.nets) in
      omega (arith, rest, e)

  -- ---- multiplications

  abbrev Both : Product → Product → Type 0
  Both was is = IsKept new place back was.left is.left × IsKept new place back was.right is.right

  module _ (f : Net → List Product) (each : (k : ℕ) → On k → AllZip Both (f (net_at old.nets k)) (f (moved k)))
      (none : (k : ℕ) → k < length old.nets → is_marked marks k ≡ false → f (net_at old.nets k) ≡ []) where
    abbrev before : ℕ → List Product
    before n = flat_map (λ k. f (net_at old.nets k)) (places n)

    abbrev after : ℕ → List Product
    after n = flat_map f (moved_nets old.nets place (kept_of marks n))

    zip-until : (n : ℕ) → n ≤ length old.nets → AllZip Both (before n) (after n)
    zip-until zero low = tt
    zip-until (suc n) low = by (zip-until n (omega (arith, low))) (is_marked marks n) refl
      where
        by : AllZip Both (before n) (after n) → (b : Bool) → is_marked marks n ≡ b → AllZip Both (before (suc n)) (after (suc n))
        by rest true marked =
            let a : before (suc n) ≡ before n ++ (f (net_at old.nets n) ++ []) = flat_map-append (λ (k : ℕ). f (net_at old.nets k)) (places n) (n ∷ []) in
            let b : after (suc n) ≡ after n ++ (f (moved n) ++ [])
            = ap (λ (xs : List ℕ). flat_map f (map moved xs)) (kept-yes marks n marked)
            ∙ ap (flat_map f) (map-append moved (kept_of marks n) (n ∷ []))
            ∙ flat_map-append f (map moved (kept_of marks n)) (moved n ∷ []) in
            let one = zip-append Both (f (net_at old.nets n)) (f (moved n)) [] [] (each n (omega (arith, low), marked)) tt in
            let both = zip-append Both (before n) (after n) (f (net_at old.nets n) ++ []) (f (moved n) ++ []) rest one in
            subst (λ (xs : List Product). AllZip Both xs (after (suc n))) (sym a) (subst (AllZip Both (before n ++ (f (net_at old.nets n) ++ []))) (sym b) both)
        by rest false absent =
            let a : before (suc n) ≡ before n
            = flat_map-append (λ (k : ℕ). f (net_at old.nets k)) (places n) (n ∷ [])
            ∙ ap (λ (xs : List Product). before n ++ (xs ++ [])) (none n (omega (arith, low)) absent)
            ∙ append-nil (before n) in
            let b : after (suc n) ≡ after n = ap (λ (xs : List ℕ). flat_map f (map moved xs)) (kept-no marks n absent) in
            subst (λ (xs : List Product). AllZip Both xs (after (suc n))) (sym a) (subst (AllZip Both (before n)) (sym b) rest)

  no-multiply : (k : ℕ) → k < length old.nets → is_marked marks k ≡ false → multiplies (net_at old.nets k).kind ≡ false
  no-multiply k below absent = by (multiplies (net_at old.nets k).kind) refl
    where
      by : (b : Bool) → multiplies (net_at old.nets k).kind ≡ b → multiplies (net_at old.nets k).kind ≡ false
      by true multiply = absurd (let e : false ≡ true = sym absent ∙ needed.rooted.products k (net_at old.nets k) (slice_get-get_or old.nets k no_net below) multiply in cc e)
      by false none = none

  factors : AllZip Both (products_of old) (products_of new)
  factors =
      let units = zip-until units-in (λ k on. unit-zip place (IsKept new place back) (net_at old.nets k).width
      (net_at old.nets k).width (net_at old.nets k).kind (λ read c. kept-on read (reads-on k read on c)))
      (λ k below absent. no-unit (net_at old.nets k).width (net_at old.nets k).kind (no-multiply k below absent)) (length old.nets) (omega arith) in
      let combs = zip-until combs-in (λ k on. comb-zip place (IsKept new place back) (net_at old.nets k).width
      (net_at old.nets k).width old.nets old.cycles (length old.inputs) (net_at old.nets k).width
      (net_at old.nets k).signed (net_at old.nets k).kind
      (all-at (λ (n : Net). IsKind old.nets old.cycles (length old.inputs) n.width n.signed n.kind) old.nets
      runs.kinds k (net_at old.nets k) (net-there k on)) (λ read c. kept-on read (reads-on k read on c)))
      (λ k below absent. no-comb (net_at old.nets k).width (net_at old.nets k).kind (no-multiply k below absent)) (length old.nets) (omega arith) in
      subst (AllZip Both (products_of old)) (sym (products-are new)) (zip-append Both _ (flat_map units-in new.nets) _ (flat_map combs-in new.nets) units combs)

  -- ---- labels

  module _ (label : NetLabel) (c : Contains old.labels label) where
    on : On label.net
    on = labels-on label c

    kind-at : (k : ℕ) → On k → (net_at new.nets (place k)).kind ≡ redirected place (net_at old.nets k).kind
    kind-at k stays-on = ap (λ (n : Net). n.kind) (at-place k stays-on)

    module _ (from : ℕ) (from-on : On from) where
      alone-still : IsReadBy old from label.net → IsReadBy new (place from) (place label.net)
      alone-still b = record {
        alone = λ k below read-here.
            let f = map_there moved kept k (net_at new.nets k) (slice_get-get_or new.nets k no_net below) in
            let s = stays k f.0 f.1 in
            let here = subst (λ (xs : List ℕ). Contains xs (place from))
            (reads-moved place (net_at old.nets f.0).kind)
            (subst (λ (n : Net). Contains (reads n.kind) (place from)) (sym f.2) read-here) in
            let m = from-map place (reads (net_at old.nets f.0).kind) (place from) here in
            let same : m.0 ≡ from = same-place m.0 from (reads-on f.0 m.0 s.0 m.1) from-on m.2 in
            let e : f.0 ≡ label.net = b.alone f.0 s.0.0 (subst (Contains (reads (net_at old.nets f.0).kind)) same m.1) in
            sym s.1 ∙ ap place e;
        unshown = λ port shown e.
            let m = from-map (moved_port place) old.outputs port shown in
            let same : m.0.net ≡ from = same-place m.0.net from (outputs-on m.0 m.1) from-on (ap (λ (p : NetPort). p.net) m.2 ∙ e) in
            b.unshown m.0 m.1 same;
      }

    label-kept : KeepsLabel old new place label
    label-kept = record {
      there = stands new.labels c.0 (moved_label place label) (there_map (moved_label place) old.labels c.0 label (found old.labels label c));
      wide = ap (λ (n : Net). n.width) (at-place label.net on);
      sign = ap (λ (n : Net). n.signed) (at-place label.net on);
      multiplies = λ m. record { args = map place m.args; is = kind-at label.net on ∙ ap (redirected place) m.is };
      takes = λ frame slot first from is.
          let from-on = reads-on label.net from on (subst (λ (kind : NetKind). Contains (reads kind) from) (sym is) (0, omega arith, refl)) in
          record {
            frame = frame;
            slot = slot;
            first = first;
            kind = kind-at label.net on ∙ ap (redirected place) is;
            wire = λ w. record { op = w.op; args = map place w.args; is = kind-at from from-on ∙ ap (redirected place) w.is };
            alone = alone-still from from-on;
          };
    }

  pub drops : Drops old new place back
  drops = record {
    cycles = refl;
    inputs = faces-same old.inputs inputs-on;
    outputs = faces-same old.outputs outputs-on;
    few = few;
    nets = λ k is at.
        let f = map_there moved kept k is at in
        let s = stays k f.0 f.1 in
        record {
          was = net_at old.nets f.0;
          there = ap (slice_get old.nets) (get_or_from_slice_get kept k f.0 0 f.1) ∙ net-there f.0 s.0;
          wide = ap (λ (n : Net). n.width) (sym f.2);
          sign = ap (λ (n : Net). n.signed) (sym f.2);
          kind = ap (λ (n : Net). n.kind) (sym f.2);
          reads_kept = λ read c. back-again read (reads-on f.0 read s.0 c);
        };
    outputs_kept = zip-map (λ (was is : NetPort). IsKept new place back was.net is.net) (moved_port place) old.outputs (λ port c. kept-on port.net (outputs-on port c));
    factors_kept = factors;
    labels = label-kept;
    labels_kept = λ label c. kept-on label.net (labels-on label c);
  }
