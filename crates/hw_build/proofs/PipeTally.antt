-- What a pipeline adds to the registers of a netlist, that it adds no multiplication, and that none but the next one reads its nets.
use Rattle.std.proofs.Common.{◌≡◌, ℕ, zero, suc, ◌+◌, ◌-◌, ◌*◌, ◌<◌, ◌≤◌, ◌⊎◌, ◌++◌, inl, inr, [], ◌∷◌, length, Option, Some, None, ap, sym, ◌∙◌, refl, length-append, arith}
use Rattle.std.specs.Prelude.{slice_get}
use Rattle.std.proofs.lemmas.Bool.{cases_lt}
use Rattle.std.proofs.lemmas.Option.{none-some, same_Some, slice_get_within}
use Rattle.math_num.specs.Word.{IsWord}
use Rattle.fx_type.specs.declared.kind.FxType.{FxType}
use Rattle.fx_type.specs.FxType.{is_signed, width_of}
use Rattle.hw_net.specs.declared.netlist.Frame.{Frame}
use Rattle.hw_net.specs.declared.netlist.Net.{Net}
use Rattle.hw_net.specs.declared.netlist.NetKind.{NetKind}
use Rattle.hw_net.specs.declared.netlist.NetKind.TheVariants.{Counter}
use Rattle.hw_net.specs.Circuit.{Circuit}
use Rattle.hw_net.specs.Frames.{counter_of, register_count}
use Rattle.hw_net.specs.Growing.{with_net, IsCounted}
use Rattle.hw_net.specs.Netlist.{reads}
use Rattle.hw_net.proofs.Growth.{count-append, stood-there}
use Rattle.math_list.proofs.Places.{get_front, split-last}
use Rattle.hw_shows.specs.Timing.{Timing}
use Rattle.hw_build.specs.Serving.{own_factors, unit_factors}
use Rattle.hw_build.specs.inner.PipelineNets.{own_frame, wire_of, stage_net, stage_nets, AddsPipeline}
use Rattle.hw_build.specs.inner.Tally.{ReadThere}
use Rattle.hw_build.specs.inner.Unread.{AreReadInTurn}
use Rattle.hw_build.proofs.StageWaves.{bare, bare_size, wire_at, stage_at, bare_appends, begin_new}

-- a netlist that has a Counter of a frame is the one before, or that with the Counter
pub record IsCountedNet (before after : Circuit) : Type 0 where
  pub net : Net
  pub frame : Frame
  pub kind : net.kind ≡ Counter frame
  pub grown : after ≡ with_net before net

counted_ways : (before after : Circuit) (frame : Frame) → IsCounted before after frame → (after ≡ before) ⊎ IsCountedNet before after
counted_ways before after frame is = by (counter_of before.nets frame) refl
  where
    by : (found : Option ℕ) → counter_of before.nets frame ≡ found → (after ≡ before) ⊎ IsCountedNet before after
    by (Some k) e = inl (is.stays (rw e refl))
    by None e = let added = is.grows e in inr (record { net = added.net; frame = frame; kind = added.counter.kind; grown = added.grown })

counted_registers : (before after : Circuit) (frame : Frame) → IsCounted before after frame → register_count after.nets ≡ register_count before.nets
counted_registers before after frame is = elim (counted_ways before after frame is) [
  | inl same ↦ ap (λ (c : Circuit). register_count c.nets) same
  | inr added ↦
      let sum = count-append before.nets (added.net ∷ []) in
      let none : register_count (added.net ∷ []) ≡ 0 = rw added.kind refl in
      let grown : register_count after.nets ≡ register_count (before.nets ++ added.net ∷ []) = ap (λ (c : Circuit). register_count c.nets) added.grown in
      omega (arith, sum, none, grown)
]

stage_registers : (type : FxType) (frame : Frame) (slot begin count : ℕ) → register_count (stage_nets type frame slot begin count) ≡ count
stage_registers type frame slot begin zero = refl
stage_registers type frame slot begin (suc count) =
    let before = stage_registers type frame slot begin count in
    let sum = count-append (stage_nets type frame slot begin count) (stage_net type frame slot (begin + count) ∷ []) in
    let one : register_count (stage_net type frame slot (begin + count) ∷ []) ≡ 1 = refl in
    omega (arith, before, sum, one)

module _ (timing : Timing) (before after : Circuit) (type : FxType) (block element period entry begin : ℕ)
    (adds : AddsPipeline timing before after type block element period entry begin)
    (word : IsWord (width_of type) (is_signed type)) (some : 0 < period)
    (there : entry < length before.nets) where
  abbrev piped_net : Circuit
  piped_net = bare timing before after type block element period entry begin adds word some there

  pub bare_registers : register_count piped_net.nets ≡ register_count before.nets + timing.stages block
  bare_registers =
      let frame : Frame = own_frame timing period block in
      let slot : ℕ = period * timing.cycles - 1 in
      let counter = counted_registers before adds.counted (own_frame timing period block) adds.is_counted in
      let wired = count-append adds.counted.nets (wire_of type entry ∷ []) in
      let none : register_count (wire_of type entry ∷ []) ≡ 0 = refl in
      let all = count-append (adds.counted.nets ++ wire_of type entry ∷ []) (stage_nets type (own_frame timing period block) (period * timing.cycles - 1) begin (timing.stages block)) in
      let own = stage_registers type (own_frame timing period block) (period * timing.cycles - 1) begin (timing.stages block) in
      omega (arith, counter, wired, none, all, own)

  -- ---- the nets behind those before

  -- a Counter, the wire, or a register
  pub record IsPipeNet (k : ℕ) (net : Net) : Type 0 where
    pub counts : (k < begin) → (frame : Frame) × (net.kind ≡ Counter frame)
    pub passes : (k ≡ begin) → ◌≡◌ {A = Net} net (wire_of type entry)
    pub takes : (j : ℕ) → k ≡ begin + suc j → ◌≡◌ {A = Net} net (stage_net type (own_frame timing period block) (period * timing.cycles - 1) (begin + j))

  bare_net : (k : ℕ) (net : Net) → length before.nets ≤ k → slice_get piped_net.nets k ≡ Some net → IsPipeNet k net
  bare_net k net past at = record {
    counts = λ early. counter early (counted_ways before adds.counted (own_frame timing period block) adds.is_counted);
    passes = λ e. same_Some net (wire_of type entry) (sym at ∙ ap (slice_get piped_net.nets) e ∙ wire_at timing before after type block element period entry begin adds word some there);
    takes = λ j e.
        let size = bare_size timing before after type block element period entry begin adds word some there in
        let inside = slice_get_within piped_net.nets k net at in
        same_Some net (stage_net type (own_frame timing period block) (period * timing.cycles - 1) (begin + j))
        (sym at ∙ ap (slice_get piped_net.nets) e ∙ stage_at timing before after type block element period entry begin adds word some there j (omega (arith, e, size, inside)));
  }
    where
      there_counted : k < begin → slice_get adds.counted.nets k ≡ Some net
      there_counted early =
          let e = adds.begins in
          let sum = length-append adds.counted.nets (wire_of type entry ∷ []) in
          sym (get_front (adds.counted.nets ++ wire_of type entry ∷ [])
          (stage_nets type (own_frame timing period block) (period * timing.cycles - 1) begin
          (timing.stages block)) k (omega (arith, early, e, sum))
          ∙ get_front adds.counted.nets (wire_of type entry ∷ []) k (omega (arith, early, e)))
          ∙ at

      counter : k < begin → (adds.counted ≡ before) ⊎ IsCountedNet before adds.counted → (frame : Frame) × (net.kind ≡ Counter frame)
      counter early (inl same) = let e : length adds.counted.nets ≡ length before.nets = ap (λ (c : Circuit). length c.nets) same in let b = adds.begins in absurd (omega (arith, e, b, early, past))
      counter early (inr added) = elim (split-last before.nets added.net net k (ap (λ (c : Circuit). slice_get c.nets k) (sym added.grown) ∙ there_counted early)) [
        | inl front ↦ let f = front.0 in absurd (omega (arith, f, past))
        | inr last ↦ (added.frame, ap (λ (n : Net). n.kind) (sym last.1) ∙ added.kind)
      ]

  -- ---- reads

  only_one : (i argument read : ℕ) → slice_get (argument ∷ []) i ≡ Some read → read ≡ argument
  only_one zero argument read at = sym (same_Some argument read at)
  only_one (suc i) argument read at = absurd (none-some read at)

  -- none but the next one reads one of them
  pub bare_turn : ReadThere before.nets → AreReadInTurn piped_net.nets begin (begin + timing.stages block)
  bare_turn read_there = record {
    by = λ k net i read at reads_it low high.
        let new = begin_new timing before after type block element period entry begin adds word some there in
        elim (cases_lt k (length before.nets)) [
          | inl old ↦
              let r = read_there.each k net i read
              (stood-there before piped_net k net
              (bare_appends timing before after type block element period entry begin adds word some
              there).extends old at) reads_it in
              absurd (omega (arith, r, new, low))
          | inr past ↦
              let is = bare_net k net past at in
              elim (cases_lt k begin) [
                | inl early ↦
                    let counts = is.counts early in
                    absurd (none-some read (ap (λ (kind : NetKind). slice_get (reads kind) i) (sym counts.1) ∙ reads_it))
                | inr on ↦ elim (cases_lt begin k) [
                  | inl later ↦
                      let j : ℕ = k - suc begin in
                      let place : k ≡ begin + suc j = omega (arith, later) in
                      let same = is.takes j place in
                      let reads_stage : slice_get ((begin + j) ∷ []) i ≡ Some read = ap (λ (n : Net). slice_get (reads n.kind) i) (sym same) ∙ reads_it in
                      let e : read ≡ begin + j = only_one i (begin + j) read reads_stage in
                      omega (arith, e, place)
                  | inr first ↦
                      let place : k ≡ begin = omega (arith, on, first) in
                      let same = is.passes place in
                      let reads_wire : slice_get (entry ∷ []) i ≡ Some read = ap (λ (n : Net). slice_get (reads n.kind) i) (sym same) ∙ reads_it in
                      let e : read ≡ entry = only_one i entry read reads_wire in
                      absurd (omega (arith, e, there, new, low))
                ]
              ]
        ];
  }

  -- ---- multiplications

  -- none of them multiplies
  pub bare_none : (k : ℕ) (net : Net) → length before.nets ≤ k → slice_get piped_net.nets k ≡ Some net → (own_factors net.kind ≡ []) × (unit_factors net.kind ≡ [])
  bare_none k net past at =
      let is = bare_net k net past at in
      elim (cases_lt k begin) [
        | inl early ↦
            let counts = is.counts early in
            (ap own_factors counts.1, ap unit_factors counts.1)
        | inr on ↦ elim (cases_lt begin k) [
          | inl later ↦
              let same = is.takes (k - suc begin) (omega (arith, later)) in
              (ap (λ (n : Net). own_factors n.kind) same, ap (λ (n : Net). unit_factors n.kind) same)
          | inr first ↦
              let same = is.passes (omega (arith, on, first)) in
              (ap (λ (n : Net). own_factors n.kind) same, ap (λ (n : Net). unit_factors n.kind) same)
        ]
      ]
