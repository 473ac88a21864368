-- Netlists with nets behind their own: what stood stands, and no frame gets a second Counter.
use Rattle.std.proofs.Common.{◌≡◌, ℕ, zero, suc, append-nil, append_assoc, ◌+◌, ◌<◌, ◌≤◌, ◌⊎◌, inl, inr, List, [], ◌∷◌, ◌++◌, length, Option, None, Some, IsSome, slice_get, Bool, true, false}
use Rattle.std.proofs.Common.{if◌then◌else◌, ap, sym, ◌∙◌, arith, refl, length-append, get_or}
use Rattle.std.proofs.lemmas.Option.{none-some, same_Some, slice_get_within, slice_get_read}
use Rattle.math_list.proofs.Places.{get_front as front-of, get_left as front-some, get_left}
use Rattle.hw_net.specs.declared.netlist.Frame.{Frame}
use Rattle.hw_net.specs.declared.netlist.Net.{Net}
use Rattle.hw_net.specs.Circuit.{Circuit}
use Rattle.hw_net.specs.Frames.{is_frame, counted_frame, counter_from, counter_of, register_count, IsCounterAt, IsCounter, CountersDiffer}
use Rattle.hw_net.specs.Netlist.{HasWord}
use Rattle.hw_net.specs.Growing.{Extends, with_net}
use Rattle.hw_net.proofs.Index.{same-self}
use Rattle.math_list.proofs.Places.{split-last}

pub count-append : (xs ys : List Net) → register_count (xs ++ ys) ≡ register_count xs + register_count ys
count-append [] ys = omega arith
count-append (x ∷ xs) ys = omega (arith, count-append xs ys)

-- Netlists that grow.

pub extends-self : (net : Circuit) → Extends net net
extends-self net = record { added = []; nets = sym (append-nil net.nets); cycles = refl; inputs = refl; outputs = refl; labels = refl }

pub extends-trans : (a b c : Circuit) → Extends a b → Extends b c → Extends a c
extends-trans a b c p q = record {
  added = p.added ++ q.added;
  nets = q.nets ∙ ap (λ (xs : List Net). xs ++ q.added) p.nets ∙ append_assoc a.nets p.added q.added;
  cycles = q.cycles ∙ p.cycles;
  inputs = q.inputs ∙ p.inputs;
  outputs = q.outputs ∙ p.outputs;
  labels = q.labels ∙ p.labels;
}

pub extends-one : (net new : Circuit) (one : Net) → new ≡ with_net net one → Extends net new
extends-one net new one grown = record {
  added = one ∷ [];
  nets = ap (λ (x : Circuit). x.nets) grown;
  cycles = ap (λ (x : Circuit). x.cycles) grown;
  inputs = ap (λ (x : Circuit). x.inputs) grown;
  outputs = ap (λ (x : Circuit). x.outputs) grown;
  labels = ap (λ (x : Circuit). x.labels) grown;
}

pub longer : (a b : Circuit) → Extends a b → length a.nets ≤ length b.nets
longer a b p = omega (arith, ap length p.nets, length-append a.nets p.added)

pub one-longer : (net new : Circuit) (one : Net) → new ≡ with_net net one → length new.nets ≡ length net.nets + 1
one-longer net new one grown = ap (λ (x : Circuit). length x.nets) grown ∙ length-append net.nets (one ∷ []) ∙ omega arith

-- a net that stood stands later
pub still-there : (a b : Circuit) (k : ℕ) (net : Net) → Extends a b → slice_get a.nets k ≡ Some net → slice_get b.nets k ≡ Some net
still-there a b k net p there = ap (λ (xs : List Net). slice_get xs k) p.nets ∙ get_left a.nets p.added k net there

-- a net of the later netlist at a number of the former stood there
pub stood-there : (a b : Circuit) (k : ℕ) (net : Net) → Extends a b → k < length a.nets → slice_get b.nets k ≡ Some net → slice_get a.nets k ≡ Some net
stood-there a b k net p inside there = sym (front-of a.nets p.added k inside) ∙ ap (λ (xs : List Net). slice_get xs k) (sym p.nets) ∙ there

pub word-stays : (a b : Circuit) (k width : ℕ) (signed : Bool) → Extends a b → HasWord a.nets k width signed → HasWord b.nets k width signed
word-stays a b k width signed p has = record { net = has.net; is = still-there a b k has.net p has.is; wide = has.wide; sign = has.sign }

-- Counters.

pub counter-front : (xs ys : List Net) (start k : ℕ) (frame : Frame) → counter_from xs start frame ≡ Some k → counter_from (xs ++ ys) start frame ≡ Some k
counter-front [] ys start k frame e = absurd (none-some k e)
counter-front (x ∷ xs) ys start k frame e = by (is_frame frame (counted_frame x.kind)) (counter-front xs ys (start + 1) k frame) e
  where
    by : (is : Bool) → (counter_from xs (start + 1) frame ≡ Some k → counter_from (xs ++ ys) (start + 1) frame ≡ Some k)
        → (if is then Some start else counter_from xs (start + 1) frame) ≡ Some k → (if is then Some start else counter_from (xs ++ ys) (start + 1) frame) ≡ Some k
    by true rest f = f
    by false rest f = rest f

counter-there : (xs ys : List Net) (frame : Frame) (found : Option ℕ) → counter_of xs frame ≡ found → IsSome found → IsSome (counter_of (xs ++ ys) frame)
counter-there xs ys frame None e some = absurd (let f : false ≡ true = some in cc)
counter-there xs ys frame (Some k) e some = rw (counter-front xs ys 0 k frame e) refl

pub counter-stays : (a b : Circuit) (frame : Frame) → Extends a b → IsSome (counter_of a.nets frame) → IsSome (counter_of b.nets frame)
counter-stays a b frame p some = rw p.nets (counter-there a.nets p.added frame (counter_of a.nets frame) refl some)

counter-at-stays : (a b : Circuit) (k : ℕ) (frame : Frame) → Extends a b → IsCounterAt a.nets k frame → IsCounterAt b.nets k frame
counter-at-stays a b k frame p at = record { net = at.net; is = still-there a b k at.net p at.is; counts = at.counts }

pub is-counter-stays : (a b : Circuit) (k : ℕ) → Extends a b → IsCounter a.nets k → IsCounter b.nets k
is-counter-stays a b k p is = record { frame = is.frame; at = counter-at-stays a b k is.frame p is.at }

-- no net is a Counter of a frame that has none
counter-absent : (nets : List Net) (start k : ℕ) (net : Net) (frame : Frame) → counter_from nets start frame ≡ None → slice_get nets k ≡ Some net → counted_frame net.kind ≡ Some frame → ⊥
counter-absent [] start k net frame none there counts = none-some net there
counter-absent (one ∷ nets) start zero net frame none there counts =
    let same : one ≡ net = same_Some one net there in
    let is : is_frame frame (counted_frame one.kind) ≡ true = ap (λ (x : Net). is_frame frame (counted_frame x.kind)) same ∙ ap (is_frame frame) counts ∙ same-self frame in
    none-some start (sym none ∙ ap (λ (found : Bool). if found then Some start else counter_from nets (start + 1) frame) is)
counter-absent (one ∷ nets) start (suc k) net frame none there counts = by (λ e. counter-absent nets (start + 1) k net frame e there counts) (is_frame frame (counted_frame one.kind)) none
  where
    by : (counter_from nets (start + 1) frame ≡ None → ⊥) → (is : Bool) → (if is then Some start else counter_from nets (start + 1) frame) ≡ None → ⊥
    by rest true e = none-some start (sym e)
    by rest false e = rest e

module _ (nets : List Net) (net : Net) (differ : CountersDiffer nets) where
  -- a Counter among the nets or the one put behind them
  counter-split : (k : ℕ) (frame : Frame) → IsCounterAt (nets ++ net ∷ []) k frame → IsCounterAt nets k frame ⊎ ((k ≡ length nets) × (counted_frame net.kind ≡ Some frame))
  counter-split k frame at =
      elim (split-last nets net at.net k at.is) [
        | inl front ↦ inl (record { net = at.net; is = front.1; counts = at.counts })
        | inr last ↦ inr (last.0, ap (λ (x : Net). counted_frame x.kind) last.1 ∙ at.counts)
      ]

  -- there is no second Counter of a frame, if the net is no Counter of one that has one
  pub differ-more : ((k : ℕ) (frame : Frame) → IsCounterAt nets k frame → counted_frame net.kind ≡ Some frame → ⊥) → CountersDiffer (nets ++ net ∷ [])
  differ-more new = record {
    same = λ i j frame p q.
        elim (counter-split i frame p) [
          | inl front ↦ elim (counter-split j frame q) [
            | inl also ↦ differ.same i j frame front also
            | inr last ↦ absurd (new i frame front last.1)
          ]
          | inr last ↦ elim (counter-split j frame q) [
            | inl front ↦ absurd (new j frame front last.1)
            | inr also ↦ last.0 ∙ sym also.0
          ]
        ];
  }

pub differ-other : (nets : List Net) (net : Net) → counted_frame net.kind ≡ None → CountersDiffer nets → CountersDiffer (nets ++ net ∷ [])
differ-other nets net none differ = differ-more nets net differ (λ k frame at counts. none-some frame (sym none ∙ counts))

pub differ-counter : (nets : List Net) (net : Net) (frame : Frame) → counted_frame net.kind ≡ Some frame → counter_of nets frame ≡ None → CountersDiffer nets → CountersDiffer (nets ++ net ∷ [])
differ-counter nets net frame counts absent differ =
    differ-more nets net differ (λ k other at also.
    let same : frame ≡ other = same_Some frame other (sym counts ∙ also) in
    counter-absent nets 0 k at.net other (ap (counter_of nets) (sym same) ∙ absent) at.is at.counts)

-- a net that was read by its number is the net that is there
pub read-net : (nets read : List Net) (from : ℕ) (source result : Net) → read ≡ nets → slice_get nets from ≡ Some source → result ≡ get_or read from result → result ≡ source
read-net nets read from source result same there is =
    same_Some result source (sym (slice_get_read nets (length nets) from result refl (slice_get_within nets from source there) (rw same at is)) ∙ there)
