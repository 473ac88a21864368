-- The Counter of a frame, and a test for a clock of the frame by it.
use Rattle.std.proofs.Common.{◌≡◌, ℕ, suc, ◌+◌, ◌-◌, ◌<◌, inl, inr, Bool, true, false, if◌then◌else◌, List, [], ◌∷◌, Option, None, Some, slice_get, pos, ap, sym, ◌∙◌, subst, arith, refl, true≢false}
use Rattle.std.specs.Ordering.{int_eq}
use Rattle.std.proofs.lemmas.Option.{slice_get_within, none-some, same_Some}
use Rattle.hw_net.specs.declared.netlist.Frame.{Frame}
use Rattle.hw_net.specs.declared.netlist.Net.{Net}
use Rattle.hw_net.specs.declared.netlist.NetKind.{NetKind}
use Rattle.hw_net.specs.declared.netlist.NetKind.TheVariants.{Comb, Reg, EnReg, Acc, Bridge, Unit, Counter}
use Rattle.hw_net.specs.Circuit.{Circuit}
use Rattle.math_num.specs.Bits.{truth}
use Rattle.hw_net.specs.Closed.{CounterTells}
use Rattle.hw_net.specs.Frames.{is_frame, counted_frame, counter_from, counter_of, IsCounterAt}
use Rattle.hw_net.specs.Registers.{Wave, Span, IsCounter}
use Rattle.hw_net.specs.NetRows.{NetShows, span_of}
use Rattle.hw_net.specs.Growing.{Extends, InRows, IsCounted}
use Rattle.hw_net.proofs.Index.{same-is}
use Rattle.hw_lines.proofs.Parts.{counter-part, counter-count}
use Rattle.hw_net.proofs.Growth.{still-there, appends-counter}
use Rattle.hw_share.specs.inner.Parts.{Grows}
use Rattle.hw_share.specs.inner.Choices.{Tests}
use Rattle.math_num.proofs.Residues.{is-same, not-same}

-- the number that is found is that of a Counter of the frame
pub counter-at : (nets : List Net) (start k : ℕ) (frame : Frame) → counter_from nets start frame ≡ Some k → (i : ℕ) × (k ≡ start + i) × IsCounterAt nets i frame
counter-at [] start k frame found = absurd (none-some k found)
counter-at (net ∷ nets) start k frame found = by (is_frame frame (counted_frame net.kind)) refl (counter-at nets (start + 1) k frame) found
  where
    counts : (own : Option Frame) → is_frame frame own ≡ true → own ≡ Some frame
    counts None e = absurd (true≢false (sym e))
    counts (Some one) e = ap Some (same-is one frame e)

    by : (is : Bool) → is_frame frame (counted_frame net.kind) ≡ is → (counter_from nets (start + 1) frame ≡ Some k → (i : ℕ) × (k ≡ start + 1 + i) × IsCounterAt nets i frame)
        → (if is then Some start else counter_from nets (start + 1) frame) ≡ Some k → (i : ℕ) × (k ≡ start + i) × IsCounterAt (net ∷ nets) i frame
    by true e rest f =
        let same : start ≡ k = same_Some start k f in
        (0, omega (arith, same), record { net = net; is = refl; counts = counts (counted_frame net.kind) e })
    by false e rest f =
        let found_later = rest f in
        let at = found_later.2 in
        (suc found_later.0, omega (arith, found_later.1), record { net = at.net; is = at.is; counts = at.counts })

pub counter-of-at : (nets : List Net) (k : ℕ) (frame : Frame) → counter_of nets frame ≡ Some k → IsCounterAt nets k frame
counter-of-at nets k frame found =
    let at = counter-at nets 0 k frame found in
    let e : at.0 ≡ k = omega (arith, at.1) in
    subst (λ (i : ℕ). IsCounterAt nets i frame) e at.2

pub counter-kind : (kind : NetKind) (frame : Frame) → counted_frame kind ≡ Some frame → kind ≡ Counter frame
counter-kind (Comb op args) frame e = absurd (none-some frame e)
counter-kind (Reg own slot first from) frame e = absurd (none-some frame e)
counter-kind (EnReg own enable reset first from) frame e = absurd (none-some frame e)
counter-kind (Acc own enable from) frame e = absurd (none-some frame e)
counter-kind (Bridge own live from) frame e = absurd (none-some frame e)
counter-kind (Unit left right) frame e = absurd (none-some frame e)
counter-kind (Counter own) frame e = ap Counter (same_Some own frame e)

-- in every later netlist it counts the frame
pub counter-shows : (a b : Circuit) (frame : Frame) (k : ℕ) → Extends a b → counter_of b.nets frame ≡ Some k → InRows a b (λ n rows. IsCounter n (span_of a.cycles frame) (rows k))
counter-shows a b frame k p found = record {
  holds = λ later keeps n inputs rows is.
      let at : IsCounterAt b.nets k frame = counter-of-at b.nets k frame found in
      let there : slice_get later.nets k ≡ Some at.net =
      elim (keeps.nets k (slice_get_within b.nets k at.net at.is)) [
        | inl kept ↦ kept ∙ at.is
        | inr changed ↦
            let was = changed.1 in
            let same : was.was ≡ at.net = same_Some was.was at.net (sym (still-there a b k was.was p was.there) ∙ at.is) in
            absurd (none-some frame (ap counted_frame (sym was.old_kind) ∙ ap (λ (x : Net). counted_frame x.kind) same ∙ at.counts))
      ] in
      let cycles : later.cycles ≡ a.cycles = keeps.cycles ∙ p.cycles in
      let shown : NetShows later.cycles n inputs rows at.net.width at.net.signed at.net.kind (rows k) = is.shows k at.net there in
      let counts : NetShows later.cycles n inputs rows at.net.width at.net.signed (Counter frame) (rows k) =
      subst (λ (x : NetKind). NetShows later.cycles n inputs rows at.net.width at.net.signed x (rows k)) (counter-kind at.net.kind frame at.counts) shown in
      subst (λ (x : ℕ). IsCounter n (span_of x frame) (rows k)) cycles counts;
}

-- what a Counter adds, if one is put in
pub counter-grows : (a b : Circuit) (frame : Frame) → 0 < frame.period → IsCounted a b frame → (named : List ℕ) (part : NetKind → Type 0) → part (Counter frame) → Grows a b named part 0
counter-grows a b frame some counted named part own =
    let same = counter-count a b frame some counted in
    record {
      appends = appends-counter a b named frame some counted;
      parts = counter-part a b frame some counted part own;
      registers = omega (arith, same);
    }

-- in the clock of the slot the counter has as many clocks to come
pub tests-of : (n : ℕ) (span : Span) (slot : ℕ) (counter literal test : Wave) → slot < span.length → CounterTells n span counter → ((c : ℕ) → c < n → literal c ≡ pos (span.length - 1 - slot))
    → ((c : ℕ) → c < n → test c ≡ truth (int_eq (counter c) (literal c))) → Tests n span slot test
tests-of n span slot counter literal test inside tells left same = record {
  on = λ c h takes. same c h ∙ ap truth (is-same (counter c) (literal c) ((tells.takes slot c inside h).0 takes ∙ sym (left c h)));
  off = λ c h not. same c h ∙ ap truth (not-same (counter c) (literal c) (λ e. not ((tells.takes slot c inside h).1 (e ∙ left c h))));
}
