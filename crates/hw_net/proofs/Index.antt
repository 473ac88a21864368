-- The index of Counters, as nets and ports are put in.
use Rattle.std.proofs.Common.{◌≡◌, ℕ, zero, suc, Result, Ok, Err, IfOk, OnOk, take, drop, slice_index_or, length-set, IsSome, subst, slice_get, set, ◌+◌, ◌==◌, nat_lt, List, [], ◌∷◌, ◌++◌, length}
use Rattle.std.proofs.Common.{Option, None, Some, Bool, true, false, refl, if◌then◌else◌, ap, sym, ◌∙◌, arith}
use Rattle.std.proofs.lemmas.Bool.{eqb-true, eqb-false, and_parts, and_from}
use Rattle.std.specs.Ordering.{nat_cmp, is_eq}
use Rattle.std.specs.Cmp.{tied_then}
use Rattle.hw_net.specs.declared.netlist.Frame.{Frame}
use Rattle.std.specs.List.{refill}
use Rattle.std.proofs.Math.Seq.{take-append_seam}
use Rattle.std.proofs.lemmas.Option.{same_Some, get_or_from_slice_get}
use Rattle.hw_net.specs.declared.netlist.NetKind.{NetKind}
use Rattle.hw_net.specs.Circuit.{Circuit}
use Rattle.hw_net.specs.Growing.{with_net}
use Rattle.hw_net.specs.declared.netlist.Net.{Net}
use Rattle.hw_net.specs.Frames.{is_frame, counted_frame, counter_from, counter_of}
use Rattle.hw_net.specs.ByFrame.{is_same_frame, compare_frames, number_at_frame}
use Rattle.hw_net.specs.inner.Index.{IsIndex, IsKnown}
use Rattle.math_list.proofs.Tests.{tied}

-- the index tells frames apart as they are
pub same-frame : (one other : Frame) → is_eq (compare_frames one other) ≡ is_same_frame one other
same-frame one other =
    let p = tied one.period other.period (nat_lt one.period other.period) (one.period == other.period) refl refl in
    let q = tied one.latency other.latency (nat_lt one.latency other.latency) (one.latency == other.latency) refl refl in
    sym (tied_then (nat_cmp one.period other.period) (nat_cmp one.latency other.latency)) ∙ rw (p, q) refl

pub same-is : (one other : Frame) → is_same_frame one other ≡ true → one ≡ other
same-is one other h =
    let parts = and_parts (one.period == other.period) (one.latency == other.latency) h in
    let p = eqb-true one.period other.period parts.0 in
    let q = eqb-true one.latency other.latency parts.1 in
    λ i. record { period = p i; latency = q i }

-- the first of two that is there
abbrev or_else : Option ℕ → Option ℕ → Option ℕ
or_else None other = other
or_else (Some k) other = Some k

or-none : (found : Option ℕ) → or_else found None ≡ found
or-none None = refl
or-none (Some k) = refl

-- what a net adds as Counter of a frame
abbrev own_number : Net → ℕ → Frame → Option ℕ
own_number net number frame = if is_frame frame (counted_frame net.kind) then Some number else None

counter-one : (net : Net) (start : ℕ) (frame : Frame) → counter_from (net ∷ []) start frame ≡ own_number net start frame
counter-one net start frame = refl

counter-behind : (nets : List Net) (net : Net) (start : ℕ) (frame : Frame)
    → counter_from (nets ++ net ∷ []) start frame
    ≡ or_else (counter_from nets start frame) (own_number net (start + length nets) frame)
counter-behind [] net start frame = ap (λ (k : ℕ). own_number net k frame) (omega arith)
counter-behind (one ∷ nets) net start frame = by (is_frame frame (counted_frame one.kind)) (counter-behind nets net (start + 1) frame)
  where
    by : (is : Bool) → counter_from (nets ++ net ∷ []) (start + 1) frame ≡ or_else (counter_from nets (start + 1) frame) (own_number net (start + 1 + length nets) frame)
        → (if is then Some start else counter_from (nets ++ net ∷ []) (start + 1) frame)
        ≡ or_else (if is then Some start else counter_from nets (start + 1) frame)
        (own_number net (start + suc (length nets)) frame)
    by true rest = refl
    by false rest =
        let e : start + 1 + length nets ≡ start + suc (length nets) = omega arith in
        rest ∙ ap (λ (k : ℕ). or_else (counter_from nets (start + 1) frame) (own_number net k frame)) e

module _ (nets : List Net) (entries : List (Frame × ℕ)) (net : Net) (index : IsIndex nets entries) where
  behind : (frame : Frame) → counter_of (nets ++ net ∷ []) frame ≡ or_else (counter_of nets frame) (own_number net (length nets) frame)
  behind frame = counter-behind nets net 0 frame ∙ ap (λ (k : ℕ). or_else (counter_of nets frame) (own_number net k frame)) (omega arith)

  -- a net that is no Counter
  pub index-other : counted_frame net.kind ≡ None → IsIndex (nets ++ net ∷ []) entries
  index-other none = record {
    each = λ frame.
        let e : own_number net (length nets) frame ≡ None = ap (λ (found : Option Frame). if is_frame frame found then Some (length nets) else None) none in
        index.each frame ∙ sym (behind frame ∙ ap (or_else (counter_of nets frame)) e ∙ or-none (counter_of nets frame));
  }

  -- a Counter of a frame that has one, or of one that has none
  module _ (own : Frame) (counts : counted_frame net.kind ≡ Some own) where
    adds : (frame : Frame) → own_number net (length nets) frame ≡ (if is_same_frame own frame then Some (length nets) else None)
    adds frame = ap (λ (found : Option Frame). if is_frame frame found then Some (length nets) else None) counts

    pub index-known : IsSome (counter_of nets own) → IsIndex (nets ++ net ∷ []) entries
    index-known there = record {
      each = λ frame. index.each frame ∙ sym (behind frame ∙ ap (or_else (counter_of nets frame)) (adds frame) ∙ by frame (is_same_frame own frame) refl);
    }
      where
        known : (found : Option ℕ) (other : Option ℕ) → IsSome found → or_else found other ≡ found
        known None other h = let e : false ≡ true = h in cc
        known (Some k) other h = refl

        by : (frame : Frame) (is : Bool) → is_same_frame own frame ≡ is → or_else (counter_of nets frame) (if is then Some (length nets) else None) ≡ counter_of nets frame
        by frame true e = known (counter_of nets frame) (Some (length nets)) (subst (λ (one : Frame). IsSome (counter_of nets one)) (same-is own frame e) there)
        by frame false e = or-none (counter_of nets frame)

    pub index-new : (later : List (Frame × ℕ)) (number : ℕ) → number ≡ length nets → number_at_frame entries own ≡ None
        → ((other : Frame) → number_at_frame later other ≡ (if is_same_frame own other then Some number else number_at_frame entries other))
        → IsIndex (nets ++ net ∷ []) later
    index-new later number at absent found = record {
      each = λ frame. found frame ∙ ap (λ (k : ℕ). if is_same_frame own frame then Some k else number_at_frame entries frame) at
          ∙ by frame (is_same_frame own frame) refl
          ∙ sym (behind frame ∙ ap (or_else (counter_of nets frame)) (adds frame));
    }
      where
        by : (frame : Frame) (is : Bool) → is_same_frame own frame ≡ is
            → (if is then Some (length nets) else number_at_frame entries frame)
            ≡ or_else (counter_of nets frame) (if is then Some (length nets) else None)
        by frame true e =
            let none : counter_of nets frame ≡ None = sym (index.each frame) ∙ ap (number_at_frame entries) (sym (same-is own frame e)) ∙ absent in
            rw none refl
        by frame false e = index.each frame ∙ sym (or-none (counter_of nets frame))

  -- a net that is no first Counter of a frame
  pub index-kept : IsKnown entries (counted_frame net.kind) → IsIndex (nets ++ net ∷ []) entries
  index-kept known = go (counted_frame net.kind) refl known
    where
      go : (found : Option Frame) → counted_frame net.kind ≡ found → IsKnown entries found → IsIndex (nets ++ net ∷ []) entries
      go None counts known = index-other counts
      go (Some own) counts known = index-known own counts (subst IsSome (index.each own) known)

-- a net in place of one that counts the same
pub counter-set : (nets : List Net) (k start : ℕ) (was is : Net) (frame : Frame) → slice_get nets k ≡ Some was
    → counted_frame is.kind ≡ counted_frame was.kind
    → counter_from (set nets k is) start frame ≡ counter_from nets start frame
counter-set [] k start was is frame there same = refl
counter-set (net ∷ nets) zero start was is frame there same =
    let e : net ≡ was = same_Some net was there in
    let f : counted_frame is.kind ≡ counted_frame net.kind = same ∙ ap (λ (one : Net). counted_frame one.kind) (sym e) in
    ap (λ (found : Option Frame). if is_frame frame found then Some start else counter_from nets (start + 1) frame) f
counter-set (net ∷ nets) (suc k) start was is frame there same =
    ap (λ (found : Option ℕ). if is_frame frame (counted_frame net.kind) then Some start else found) (counter-set nets k (start + 1) was is frame there same)

eqb-self : (n : ℕ) → (n == n) ≡ true
eqb-self n = by (n == n) refl
  where
    by : (same : Bool) → (n == n) ≡ same → same ≡ true
    by true e = refl
    by false e = absurd (eqb-false n n e refl)

pub same-self : (frame : Frame) → is_same_frame frame frame ≡ true
same-self frame = and_from (frame.period == frame.period) (frame.latency == frame.latency) (eqb-self frame.period) (eqb-self frame.latency)

-- a Counter put behind nets that have none of its frame
pub counter-added : (nets : List Net) (net : Net) (frame : Frame) → counter_of nets frame ≡ None → counted_frame net.kind ≡ Some frame → counter_of (nets ++ net ∷ []) frame ≡ Some (length nets)
counter-added nets net frame none counts =
    counter-behind nets net 0 frame ∙ ap (λ (found : Option ℕ). or_else found (own_number net (0 + length nets) frame)) none
    ∙ ap (λ (found : Option Frame). if is_frame frame found then Some (0 + length nets) else None) counts
    ∙ ap (λ (is : Bool). if is then Some (0 + length nets) else None) (same-self frame)
    ∙ ap Some (omega arith)

pub counter-found : {E : Type 0} (result : Result ℕ E) (before after : Circuit) (net : Net) (frame : Frame)
    → counter_of before.nets frame ≡ None → counted_frame net.kind ≡ Some frame
    → IfOk result (λ number. number ≡ length before.nets) → OnOk result (after ≡ with_net before net)
    → IfOk result (λ number. counter_of after.nets frame ≡ Some number)
counter-found (Ok number) before after net frame none counts at grown =
    ap (λ (x : Circuit). counter_of x.nets frame) grown ∙ counter-added before.nets net frame none counts ∙ ap Some (sym at)
counter-found (Err e) before after net frame none counts at grown = tt

refilled : {A : Type 0} (xs ys : List A) → length ys ≡ length xs → refill (length xs) xs ys ≡ ys
refilled xs ys e = ap (λ (n : ℕ). take n (ys ++ drop (length ys) xs)) (sym e) ∙ take-append_seam ys (drop (length ys) xs)

-- a net gets another kind in place
pub in-place : (inside now : List Net) (number : ℕ) (default net : Net) (kind : NetKind) → now ≡ inside → slice_get inside number ≡ Some net
    → refill (length inside) inside (set now number (record { signed = (slice_index_or now number default).signed; width = (slice_index_or now number default).width; kind = kind }))
    ≡ set inside number (record net { kind = kind })
in-place inside now number default net kind same there =
    let one : slice_index_or inside number default ≡ net = get_or_from_slice_get inside number net default there in
    let e : set now number (record {
      signed = (slice_index_or now number default).signed;
      width =
          (slice_index_or now number default).width;
      kind = kind;
    }) ≡ set inside number (record net { kind = kind }) =
    ap (λ (xs : List Net). set xs number (record { signed = (slice_index_or xs number default).signed; width = (slice_index_or xs number default).width; kind = kind })) same
    ∙ ap (λ (x : Net). set inside number (record { signed = x.signed; width = x.width; kind = kind })) one in
    ap (refill (length inside) inside) e ∙ refilled inside (set inside number (record net { kind = kind })) (length-set inside number (record net { kind = kind }))

-- the index stays where a net that is no Counter gets a kind that is none
pub index-set : (nets : List Net) (entries : List (Frame × ℕ)) (number : ℕ) (net : Net) (kind : NetKind) → IsIndex nets entries → slice_get nets number ≡ Some net
    → counted_frame net.kind ≡ None → counted_frame kind ≡ None → IsIndex (set nets number (record net { kind = kind })) entries
index-set nets entries number net kind index there none other = record {
  each = λ frame. index.each frame ∙ sym (counter-set nets number 0 net (record net { kind = kind }) frame there (other ∙ sym none));
}
