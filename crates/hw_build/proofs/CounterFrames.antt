-- A netlist has no more Counters than the frames among which they stand.
use Rattle.std.proofs.Common.{◌≡◌, ℕ, zero, suc, ◌≤◌, Bool, true, false, cond, filter, List, [], ◌∷◌, length, Some, ap, sym, ◌∙◌, subst, refl, arith}
use Rattle.std.specs.Prelude.{◌≢◌, slice_get}
use Rattle.std.proofs.lemmas.Option.{none-some, same_Some}
use Rattle.hw_net.specs.declared.netlist.Frame.{Frame}
use Rattle.hw_net.specs.declared.netlist.Net.{Net}
use Rattle.hw_net.specs.declared.netlist.NetKind.{NetKind}
use Rattle.hw_net.specs.declared.netlist.NetKind.TheVariants.{Comb, Reg, EnReg, Acc, Bridge, Unit, Counter}
use Rattle.hw_net.specs.Frames.{counted_frame, IsCounterAt, CountersDiffer}
use Rattle.hw_build.specs.Built.{counts, counter_count}

-- an element stands in a list
pub record Stands {A : Type 0} (xs : List A) (x : A) : Type 0 where
  pub place : ℕ
  pub at : slice_get xs place ≡ Some x

-- and among those that pass a test, if it does
pub filter_stands : {A : Type 0} (p : A → Bool) (xs : List A) (k : ℕ) (x : A) → slice_get xs k ≡ Some x → p x ≡ true → Stands (filter p xs) x
filter_stands p [] k x at is = absurd (none-some x at)
filter_stands p (y ∷ xs) zero x at is =
    subst (λ (b : Bool). Stands (cond b (y ∷ filter p xs) (filter p xs)) x) (sym (ap p (same_Some y x at) ∙ is)) (record { place = 0; at = at })
filter_stands {A = A} p (y ∷ xs) (suc k) x at is = go (p y) (filter_stands p xs k x at is)
  where
    go : (b : Bool) → Stands {A = A} (filter p xs) x → Stands {A = A} (cond b (y ∷ filter p xs) (filter p xs)) x
    go true rest = record { place = suc rest.place; at = rest.at }
    go false rest = rest

abbrev pub without : {A : Type 0} → List A → ℕ → List A
without [] k = []
without (x ∷ xs) zero = xs
without (x ∷ xs) (suc k) = x ∷ without xs k

pub one_less : {A : Type 0} (xs : List A) (k : ℕ) (x : A) → slice_get xs k ≡ Some x → length xs ≡ suc (length (without xs k))
one_less [] k x at = absurd (none-some x at)
one_less (y ∷ xs) zero x at = refl
one_less (y ∷ xs) (suc k) x at = ap suc (one_less xs k x at)

pub still_stands : {A : Type 0} (xs : List A) (k j : ℕ) (x y : A) → slice_get xs k ≡ Some x → slice_get xs j ≡ Some y → x ≢ y → Stands (without xs k) y
still_stands [] k j x y at there differs = absurd (none-some x at)
still_stands (z ∷ xs) zero zero x y at there differs = absurd (differs (sym (same_Some z x at) ∙ same_Some z y there))
still_stands (z ∷ xs) zero (suc j) x y at there differs = record { place = j; at = there }
still_stands (z ∷ xs) (suc k) zero x y at there differs = record { place = 0; at = there }
still_stands (z ∷ xs) (suc k) (suc j) x y at there differs = let more = still_stands xs k j x y at there differs in record { place = suc more.place; at = more.at }

rest_differ : (net : Net) (nets : List Net) → CountersDiffer (net ∷ nets) → CountersDiffer nets
rest_differ net nets differ = record {
  same = λ i j frame one other.
      let e = differ.same (suc i) (suc j) frame (record { net = one.net; is = one.is; counts = one.counts }) (record { net = other.net; is = other.is; counts = other.counts }) in
      omega (arith, e);
}

-- one net more
few_with : (net : Net) (nets : List Net) (frames : List Frame) → ((k : ℕ) (frame : Frame) → IsCounterAt (net ∷ nets) k frame → Stands frames frame) → CountersDiffer (net ∷ nets)
    → ((rest : List Frame) → ((k : ℕ) (frame : Frame) → IsCounterAt nets k frame → Stands rest frame) → counter_count nets ≤ length rest) → counter_count (net ∷ nets) ≤ length frames
few_with net nets frames stand differ few = go net.kind refl
  where
    later : (k : ℕ) (frame : Frame) → IsCounterAt nets k frame → IsCounterAt (net ∷ nets) (suc k) frame
    later k frame at = record { net = at.net; is = at.is; counts = at.counts }

    plain : counts net.kind ≡ 0 → counter_count (net ∷ nets) ≤ length frames
    plain none = let more = few frames (λ k frame at. stand (suc k) frame (later k frame at)) in omega (arith, none, more)

    one : (own : Frame) → counted_frame net.kind ≡ Some own → counts net.kind ≡ 1 → counter_count (net ∷ nets) ≤ length frames
    one own is counted =
        let here : IsCounterAt (net ∷ nets) 0 own = record { net = net; is = refl; counts = is } in
        let own_stands = stand 0 own here in
        let more = few (without frames own_stands.place)
        (λ k frame at.
        let there = stand (suc k) frame (later k frame at) in
        still_stands frames own_stands.place there.place own frame own_stands.at there.at
        (λ e. let same = differ.same 0 (suc k) own here (subst (IsCounterAt (net ∷ nets) (suc k)) (sym e) (later k frame at)) in absurd (omega (arith, same)))) in
        let less = one_less frames own_stands.place own own_stands.at in
        omega (arith, counted, more, less)

    go : (kind : NetKind) → net.kind ≡ kind → counter_count (net ∷ nets) ≤ length frames
    go (Comb op args) e = plain (ap counts e)
    go (Reg frame slot first from) e = plain (ap counts e)
    go (EnReg frame enable reset first from) e = plain (ap counts e)
    go (Acc frame enable from) e = plain (ap counts e)
    go (Bridge frame live from) e = plain (ap counts e)
    go (Unit left right) e = plain (ap counts e)
    go (Counter frame) e = one frame (ap counted_frame e) (ap counts e)

pub few_counters : (nets : List Net) (frames : List Frame) → ((k : ℕ) (frame : Frame) → IsCounterAt nets k frame → Stands frames frame) → CountersDiffer nets → counter_count nets ≤ length frames
few_counters [] frames stand differ = omega arith
few_counters (net ∷ nets) frames stand differ = few_with net nets frames stand differ (λ rest stands. few_counters nets rest stands (rest_differ net nets differ))
