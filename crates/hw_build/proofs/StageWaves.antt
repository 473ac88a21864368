-- What the registers of a plan behind an element show, and what they leave as it was.
use Rattle.std.proofs.Common.{◌≡◌, ℕ, zero, suc, ◌+◌, ◌-◌, ◌*◌, ◌<◌, ◌≤◌, ◌++◌, inl, inr, List, [], ◌∷◌, length, Contains, Some, IsSome, ap, sym, ◌∙◌, subst, refl, append_assoc, append-nil}
use Rattle.std.proofs.Common.{length-append, arith}
use Rattle.std.specs.Prelude.{slice_get}
use Rattle.std.proofs.lemmas.Bool.{cases_lt}
use Rattle.std.proofs.lemmas.Option.{none-some, same_Some}
use Rattle.math_num.specs.Word.{IsWord}
use Rattle.fx_type.specs.declared.kind.FxType.{FxType}
use Rattle.fx_type.specs.FxType.{is_signed, width_of}
use Rattle.hw_net.specs.declared.netlist.Frame.{Frame}
use Rattle.hw_net.specs.declared.netlist.Net.{Net}
use Rattle.hw_net.specs.Circuit.{Circuit}
use Rattle.hw_net.specs.Frames.{counter_of}
use Rattle.hw_net.specs.Growing.{with_net, Appends, Extends, MayRead, MayReadNow}
use Rattle.hw_net.specs.Netlist.{HasWord}
use Rattle.hw_net.proofs.Growth.{extends-trans, extends-one, longer, word-stays, counter-stays, differ-other, appends-counter, appends-one, appends-trans}
use Rattle.math_list.proofs.Places.{last_at, get_front}
use Rattle.hw_shows.specs.Timing.{Timing}
use Rattle.hw_build.specs.inner.PipelineNets.{own_frame, wire_of, stage_net, stage_nets, stage_labels, AddsPipeline}
use Rattle.hw_build.proofs.Stages.{with_nets, count_stages}
use Rattle.hw_share.proofs.Numbers.{zero-in}
use Rattle.hw_lines.proofs.Parts.{one-all}

pub sole : (x read : ℕ) → Contains (x ∷ []) read → read ≡ x
sole x read (zero, within, same) = sym same
sole x read (suc i, within, same) = absurd (omega (arith, within))

-- ---- the nets one by one

-- of nets with registers behind them
at_stage : (nets : List Net) (type : FxType) (frame : Frame) (slot begin count k : ℕ) → k < count
    → slice_get (nets ++ stage_nets type frame slot begin count) (length nets + k)
    ≡ Some (stage_net type frame slot (begin + k))
at_stage nets type frame slot begin zero k below = absurd (omega (arith, below))
at_stage nets type frame slot begin (suc count) k below =
    let own : List Net = stage_nets type frame slot begin count in
    let one : Net = stage_net type frame slot (begin + count) in
    let split : (nets ++ own) ++ one ∷ [] ≡ nets ++ (own ++ one ∷ []) = append_assoc nets own (one ∷ []) in
    let sum : length (nets ++ own) ≡ length nets + count = length-append nets own ∙ ap (λ (n : ℕ). length nets + n) (count_stages type frame slot begin count) in
    ap (λ (all : List Net). slice_get all (length nets + k)) (sym split)
    ∙ elim (cases_lt k count) [
      | inl less ↦ get_front (nets ++ own) (one ∷ []) (length nets + k) (omega (arith, sum, less)) ∙ at_stage nets type frame slot begin count k less
      | inr past ↦
          let e : count ≡ k = omega (arith, past, below) in
          let place : length nets + k ≡ length (nets ++ own) = omega (arith, sum, e) in
          ap (slice_get ((nets ++ own) ++ one ∷ [])) place ∙ last_at (nets ++ own) one ∙ ap (λ (n : ℕ). Some (stage_net type frame slot (begin + n))) e
    ]

module _ (timing : Timing) (before after : Circuit) (type : FxType) (block element period entry begin : ℕ) (adds : AddsPipeline timing before after type block element period entry begin)
    (word : IsWord (width_of type) (is_signed type)) (some : 0 < period) (there : entry < length before.nets) where
  abbrev frame : Frame
  frame = own_frame timing period block

  abbrev slot : ℕ
  slot = period * timing.cycles - 1

  abbrev wired : Circuit
  wired = with_net adds.counted (wire_of type entry)

  abbrev staged : ℕ → Circuit
  staged count = with_nets wired (stage_nets type frame slot begin count)

  -- without the names
  abbrev pub bare : Circuit
  bare = staged (timing.stages block)

  pub bare_nets : after.nets ≡ bare.nets
  bare_nets = ap (λ (c : Circuit). c.nets) adds.grown

  pub bare_cycles : after.cycles ≡ bare.cycles
  bare_cycles = ap (λ (c : Circuit). c.cycles) adds.grown

  pub bare_labels : after.labels ≡ bare.labels ++ stage_labels begin block element (timing.stages block)
  bare_labels = ap (λ (c : Circuit). c.labels) adds.grown

  wired_size : length wired.nets ≡ suc begin
  wired_size = let sum = length-append adds.counted.nets (wire_of type entry ∷ []) in let e = adds.begins in omega (arith, sum, e)

  staged_size : (count : ℕ) → length (staged count).nets ≡ suc (begin + count)
  staged_size count =
      let sum = length-append wired.nets (stage_nets type frame slot begin count) in
      let own = count_stages type frame slot begin count in
      let size = wired_size in
      omega (arith, sum, own, size)

  pub bare_size : length bare.nets ≡ suc (begin + timing.stages block)
  bare_size = staged_size (timing.stages block)

  pub wire_at : slice_get bare.nets begin ≡ Some (wire_of type entry)
  wire_at =
      let size = wired_size in
      get_front wired.nets (stage_nets type frame slot begin (timing.stages block)) begin (omega (arith, size)) ∙ ap (slice_get wired.nets) adds.begins ∙ last_at adds.counted.nets (wire_of type entry)

  pub stage_at : (k : ℕ) → k < timing.stages block → slice_get bare.nets (begin + suc k) ≡ Some (stage_net type frame slot (begin + k))
  stage_at k below =
      let size = wired_size in
      let place : begin + suc k ≡ length wired.nets + k = omega (arith, size) in
      ap (slice_get bare.nets) place ∙ at_stage wired.nets type frame slot begin (timing.stages block) k below

  -- ---- a call that appends

  staged_next : (count : ℕ) → staged (suc count) ≡ with_net (staged count) (stage_net type frame slot (begin + count))
  staged_next count = ap (λ (nets : List Net). record wired { nets = nets }) (sym (append_assoc wired.nets (stage_nets type frame slot begin count) (stage_net type frame slot (begin + count) ∷ [])))

  staged_none : staged 0 ≡ wired
  staged_none = ap (λ (nets : List Net). record wired { nets = nets }) (append-nil wired.nets)

  counting : Appends before adds.counted (entry ∷ [])
  counting = appends-counter before adds.counted (entry ∷ []) frame some adds.is_counted

  wired_extends : Extends adds.counted wired
  wired_extends = extends-one adds.counted wired (wire_of type entry) refl

  wired_appends : Appends before wired (entry ∷ [])
  wired_appends =
      let more = longer before adds.counted counting.extends in
      let size = wired_size in
      let e = adds.begins in
      appends-trans before adds.counted wired (entry ∷ []) (entry ∷ []) (λ read is. inl is) counting
      (appends-one adds.counted wired (wire_of type entry) (entry ∷ []) refl
      (record {
        word = word;
        kind = (refl, tt);
        there = one-all (λ read. read < length wired.nets) entry (omega (arith, there, more, size, e));
        allowed = one-all (MayRead adds.counted wired (entry ∷ [])) entry (inl (0, omega arith, refl));
        now = one-all (MayReadNow adds.counted wired (entry ∷ []) (length adds.counted.nets)) entry (inl (0, omega arith, refl));
        counted = λ other names. absurd (none-some other names);
      })
      (differ-other adds.counted.nets (wire_of type entry) refl))

  staged_extends : (count : ℕ) → Extends (staged count) (staged (suc count))
  staged_extends count = extends-one (staged count) (staged (suc count)) (stage_net type frame slot (begin + count)) (staged_next count)

  staged_word : (count : ℕ) → HasWord (staged count).nets (begin + count) (width_of type) (is_signed type)
  staged_word zero =
      let size = wired_size in
      let place : begin + 0 ≡ begin = omega arith in
      record {
        net = wire_of type entry;
        is = ap (slice_get (staged 0).nets) place ∙ get_front wired.nets [] begin (omega (arith, size)) ∙ ap (slice_get wired.nets) adds.begins ∙ last_at adds.counted.nets (wire_of type entry);
        wide = refl;
        sign = refl;
      }
  staged_word (suc count) =
      let one : Net = stage_net type frame slot (begin + count) in
      let size = staged_size count in
      let place : begin + suc count ≡ length (staged count).nets = omega (arith, size) in
      record {
        net = one;
        is = ap (λ (c : Circuit). slice_get c.nets (begin + suc count)) (staged_next count) ∙ ap (slice_get (with_net (staged count) one).nets) place ∙ last_at (staged count).nets one;
        wide = refl;
        sign = refl;
      }

  staged_found : (count : ℕ) → IsSome (counter_of (staged count).nets frame)
  staged_found count =
      counter-stays adds.counted (staged count) frame
      (extends-trans adds.counted wired (staged count) wired_extends
      (record {
        added = stage_nets type frame slot begin count;
        nets =
            refl;
        cycles = refl;
        inputs = refl;
        outputs = refl;
        labels = refl;
      }))
      adds.found

  staged_more : (count : ℕ) → length before.nets ≤ begin + count
  staged_more count = let more = longer before adds.counted counting.extends in let e = adds.begins in omega (arith, more, e)

  staged_one : (count : ℕ) → Appends (staged count) (staged (suc count)) ((begin + count) ∷ [])
  staged_one count =
      let one : Net = stage_net type frame slot (begin + count) in
      let size = staged_size count in
      let next = staged_size (suc count) in
      appends-one (staged count) (staged (suc count)) one ((begin + count) ∷ []) (staged_next count)
      (record {
        word = word;
        kind = (
          some,
          word-stays (staged count) (staged (suc count)) (begin + count) (width_of type)
              (is_signed type) (staged_extends count) (staged_word count),
          zero-in (width_of type) (is_signed type) word,
        );
        there = one-all (λ read. read < length (staged (suc count)).nets) (begin + count) (omega (arith, next));
        allowed = one-all (MayRead (staged count) (staged (suc count)) ((begin + count) ∷ [])) (begin + count) (inl (0, omega arith, refl));
        now = λ i d within. absurd (omega (arith, within));
        counted = λ other names. subst (λ (f : Frame). IsSome (counter_of (staged (suc count)).nets f)) (same_Some frame other names) (staged_found (suc count));
      })
      (differ-other (staged count).nets one refl)

  staged_appends : (count : ℕ) → Appends before (staged count) (entry ∷ [])
  staged_appends zero = subst (λ (c : Circuit). Appends before c (entry ∷ [])) (sym staged_none) wired_appends
  staged_appends (suc count) =
      appends-trans before (staged count) (staged (suc count)) (entry ∷ []) ((begin + count) ∷ [])
      (λ read is. let e = sole (begin + count) read is in let more = staged_more count in let size = staged_size count in inr (omega (arith, e, more), omega (arith, e, size)))
      (staged_appends count) (staged_one count)

  pub bare_appends : Appends before bare (entry ∷ [])
  bare_appends = staged_appends (timing.stages block)

  pub begin_new : length before.nets ≤ begin
  begin_new = let more = longer before adds.counted counting.extends in let e = adds.begins in omega (arith, more, e)
  -- ---- which nets none but the next one reads
