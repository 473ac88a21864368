-- What a net shows at a clock, of two rows that are the same where it reads.
use Rattle.std.proofs.Common.{◌≡◌, ◌≢◌, ℕ, zero, suc, ◌+◌, ◌*◌, ◌<◌, ◌≤◌, ◌⊎◌, inl, inr, Bool, List, length, Option, None, Some, slice_get, slice_index, slice_index_or, set, All, ℤ, pos, ap, sym, ◌∙◌}
use Rattle.std.proofs.Common.{subst, arith, refl}
use Rattle.math_num.specs.Word.{IsWrapped}
use Rattle.hw_net.specs.declared.netlist.Net.{Net}
use Rattle.hw_net.specs.declared.netlist.NetKind.{NetKind}
use Rattle.hw_net.specs.declared.netlist.NetKind.TheVariants.{Comb, Reg, EnReg, Acc, Bridge, Unit, Counter}
use Rattle.hw_net.specs.Operation.{Operands, given_by}
use Rattle.hw_net.specs.Netlist.{reads_now}
use Rattle.hw_net.specs.NetRows.{number_at, operands_at, span_of}
use Rattle.hw_net.specs.Step.{Row, NetStarts, NetSteps, NetGoes, BridgeSteps}
use Rattle.std.proofs.lemmas.Bool.{cases_lt}
use Rattle.std.proofs.lemmas.List.{get_or-set_same, get_or-set_other}
use Rattle.std.proofs.lemmas.Option.{slice_get_within}
use Rattle.math_list.proofs.Places.{held}

-- where two rows have the same numbers at the nets that a net reads in the same clock, it shows the same
module _ (row other : Row) where
  abbrev pub Agree : List ℕ → Type 0
  Agree nets = All (λ net. row net ≡ other net) nets

  same-number : (args : List ℕ) (i : ℕ) (found : Option ℕ) → slice_get args i ≡ found → Agree args → number_at row found ≡ number_at other found
  same-number args i None e agree = refl
  same-number args i (Some net) e agree = held (λ (net : ℕ). row net ≡ other net) args i net agree e

  pub same-operands : (args : List ℕ) → Agree args → operands_at row args ≡ operands_at other args
  same-operands args agree =
      let a = same-number args 0 (slice_get args 0) refl agree in
      let b = same-number args 1 (slice_get args 1) refl agree in
      let c = same-number args 2 (slice_get args 2) refl agree in
      cc

  starts-same : (cycles : ℕ) (inputs : Row) (width : ℕ) (signed : Bool) (kind : NetKind) (v : ℤ)
      → Agree (reads_now kind) → NetStarts cycles inputs row width signed kind v
      → NetStarts cycles inputs other width signed kind v
  starts-same cycles inputs width signed (Comb op args) v agree h = subst (λ (of : Operands). IsWrapped (given_by op inputs of) width signed v) (same-operands args agree) h
  starts-same cycles inputs width signed (Reg frame slot first from) v agree h = h
  starts-same cycles inputs width signed (EnReg frame enable reset first from) v agree h = h
  starts-same cycles inputs width signed (Acc frame enable from) v agree h = h
  starts-same cycles inputs width signed (Bridge frame live from) v agree h = h ∙ agree 0 0 (omega arith)
  starts-same cycles inputs width signed (Unit left right) v agree h =
      let a : row left ≡ other left = agree 0 0 (omega arith) in
      let b : row right ≡ other right = agree 1 0 (omega arith) in
      rw (← a, ← b) h
  starts-same cycles inputs width signed (Counter frame) v agree h = h

  steps-same : (cycles clock : ℕ) (inputs now : Row) (width : ℕ) (signed : Bool) (kind : NetKind) (old v : ℤ)
      → Agree (reads_now kind) → NetSteps cycles clock inputs now row width signed kind old v
      → NetSteps cycles clock inputs now other width signed kind old v
  steps-same cycles clock inputs now width signed (Comb op args) old v agree h = subst (λ (of : Operands). IsWrapped (given_by op inputs of) width signed v) (same-operands args agree) h
  steps-same cycles clock inputs now width signed (Reg frame slot first from) old v agree h = h
  steps-same cycles clock inputs now width signed (EnReg frame enable reset first from) old v agree h = h
  steps-same cycles clock inputs now width signed (Acc frame enable from) old v agree h = h
  steps-same cycles clock inputs now width signed (Bridge frame live from) old v agree h =
      subst (λ (z : ℤ). BridgeSteps (span_of cycles frame) (live * cycles) (clock + 1) z old v)
      (agree 0 0 (omega arith)) h
  steps-same cycles clock inputs now width signed (Unit left right) old v agree h =
      let a : row left ≡ other left = agree 0 0 (omega arith) in
      let b : row right ≡ other right = agree 1 0 (omega arith) in
      rw (← a, ← b) h
  steps-same cycles clock inputs now width signed (Counter frame) old v agree h = h

  pub goes-same : (cycles clock : ℕ) (inputs now : Row) (width : ℕ) (signed : Bool) (kind : NetKind) (old v : ℤ)
      → Agree (reads_now kind) → NetGoes cycles clock inputs now row width signed kind old v
      → NetGoes cycles clock inputs now other width signed kind old v
  goes-same cycles zero inputs now width signed kind old v agree h = starts-same cycles inputs width signed kind v agree h
  goes-same cycles (suc clock) inputs now width signed kind old v agree h = steps-same cycles clock inputs now width signed kind old v agree h
