-- There are rows of every netlist that can be run.
use Rattle.std.proofs.Common.{◌≡◌, ◌≢◌, ℕ, zero, suc, ◌+◌, ◌-◌, ◌*◌, ◌/◌, ◌^◌, ◌<◌, ◌≤◌, ◌⊎◌, inl, inr, Bool, true, false, if◌then◌else◌, Option, None, Some, slice_get, slice_index_or, ℤ, pos, negsuc}
use Rattle.std.proofs.Common.{◌<ℤ◌, ◌≤ℤ◌, ◌+ℤ◌, ◌-ℤ◌, ◌*ℤ◌, ap, subst, arith, refl, pow_pos, mod-lt}
use Rattle.std.proofs.lemmas.Int.{ints}
use Rattle.std.proofs.lemmas.Nat.{div-add-mod'}
use Rattle.std.proofs.lemmas.Bool.{cases_lt}
use Rattle.math_num.specs.Word.{IsWord, IsCongruent, IsWrapped}
use Rattle.math_num.proofs.Arithmetic.{double, add-scaled, scaled-neg}
use Rattle.hw_net.specs.declared.netlist.Net.{Net}
use Rattle.hw_net.specs.declared.netlist.NetKind.{NetKind}
use Rattle.hw_net.specs.declared.netlist.NetKind.TheVariants.{Comb, Reg, EnReg, Acc, Bridge, Unit, Counter}
use Rattle.hw_net.specs.Circuit.{Circuit}
use Rattle.hw_net.specs.Operation.{given_by}
use Rattle.math_num.specs.Bits.{low_bits}
use Rattle.hw_net.specs.Registers.{Span, Takes, IsLive}
use Rattle.hw_net.specs.NetRows.{Inputs, RowsAreThere, span_of, operands_at}
use Rattle.hw_net.specs.Netlist.{IsNetlist, reads_now}
use Rattle.hw_net.specs.Step.{Row, NetStarts, NetSteps, NetGoes, Goes, RegSteps, EnRegSteps, AccSteps, BridgeSteps, CounterSteps}
use Rattle.math_num.proofs.Shifts.{remainder_congruent}
use Rattle.math_list.proofs.Places.{held}
use Rattle.hw_net.proofs.Words.{takes-or-not, lives-or-not, zero-or-not, some-or-none}
use Rattle.hw_order.proofs.Same.{Agree, same-operands, goes-same}
use Rattle.hw_net.proofs.Steps.{steps-give-rows}

low-below : (width : ℕ) (v : ℤ) → low_bits width v < 2 ^ width
low-below width (pos n) = mod-lt n (pow_pos width)
low-below width (negsuc n) = omega (arith, pow_pos width)

low-congruent : (width : ℕ) (v : ℤ) → IsCongruent (pos (low_bits width v)) v (2 ^ width)
low-congruent width (pos n) = remainder_congruent n (2 ^ width)
low-congruent width (negsuc n) = record {
  turns = pos (n / 2 ^ width + 1);
  equal =
      let split = div-add-mod' n (2 ^ width) in
      let below = mod-lt n (pow_pos width) in
      let part = add-scaled (pos (n / 2 ^ width)) (pos 1) (2 ^ width) in
      omega (arith, ints, split, below, part);
}

-- one of two numbers, by what is decided
abbrev pick : {A B : Type 0} → A ⊎ B → ℤ → ℤ → ℤ
pick (inl is) x y = x
pick (inr apart) x y = y

-- the number of a word that is congruent to another
abbrev wrapped : ℕ → Bool → ℤ → ℤ
wrapped width false v = pos (low_bits width v)
wrapped width true v = pick (cases_lt (low_bits width v) (2 ^ (width - 1))) (pos (low_bits width v)) (pos (low_bits width v) -ℤ pos (2 ^ width))

is-wrapped : (width : ℕ) (signed : Bool) (v : ℤ) → IsWord width signed → IsWrapped v width signed (wrapped width signed v)
is-wrapped width false v word = record {
  in_word = record { low = omega (arith, ints); high = omega (arith, ints, low-below width v) };
  congruent = low-congruent width v;
}
is-wrapped width true v word = by (cases_lt (low_bits width v) (2 ^ (width - 1)))
  where
    by : (side : (low_bits width v < 2 ^ (width - 1)) ⊎ (2 ^ (width - 1) ≤ low_bits width v)) → IsWrapped v width true (pick side (pos (low_bits width v)) (pos (low_bits width v) -ℤ pos (2 ^ width)))
    by (inl below) = record {
      in_word = record { low = omega (arith, ints); high = omega (arith, ints, below) };
      congruent = low-congruent width v;
    }
    by (inr above) =
        let most = low-below width v in
        let twice = double width (omega (arith, word.0)) in
        let is = low-congruent width v in
        record {
          in_word = record { low = omega (arith, ints, above, most, twice); high = omega (arith, ints, above, most, twice) };
          congruent = record {
            turns = is.turns +ℤ negsuc 0;
            equal =
                let part = add-scaled is.turns (negsuc 0) (2 ^ width) in
                let one = scaled-neg (pos 1) (2 ^ width) in
                omega (arith, ints, is.equal, part, one);
          };
        }

-- what a net shows at clock 0, and after a clock
abbrev started : ℕ → Row → Row → ℕ → Bool → NetKind → ℤ
started cycles inputs row width signed (Comb op args) = wrapped width signed (given_by op inputs (operands_at row args))
started cycles inputs row width signed (Reg frame slot first from) = first
started cycles inputs row width signed (EnReg frame enable reset first from) = first
started cycles inputs row width signed (Acc frame enable from) = pos 0
started cycles inputs row width signed (Bridge frame live from) = row from
started cycles inputs row width signed (Unit left right) = wrapped width signed (row left *ℤ row right)
started cycles inputs row width signed (Counter frame) = pos ((span_of cycles frame).start + (span_of cycles frame).length - 1)

abbrev stepped : ℕ → ℕ → Row → Row → Row → ℕ → Bool → NetKind → ℤ → ℤ
stepped cycles clock inputs now next width signed (Comb op args) old = wrapped width signed (given_by op inputs (operands_at next args))
stepped cycles clock inputs now next width signed (Reg frame slot first from) old = pick (takes-or-not (span_of cycles frame) slot clock) (now from) old
stepped cycles clock inputs now next width signed (EnReg frame enable reset first from) old =
    pick (takes-or-not (span_of cycles frame) ((span_of cycles frame).length - 1) clock) (pick (zero-or-not (now enable)) (if reset then first else old) (now from)) old
stepped cycles clock inputs now next width signed (Acc frame enable from) old =
    pick (takes-or-not (span_of cycles frame) ((span_of cycles frame).length - 1) clock) (pos 0) (pick (zero-or-not (now enable)) old (wrapped width signed (old +ℤ now from)))
stepped cycles clock inputs now next width signed (Bridge frame live from) old = pick (lives-or-not (span_of cycles frame) (live * cycles) (clock + 1)) (next from) old
stepped cycles clock inputs now next width signed (Unit left right) old = wrapped width signed (next left *ℤ next right)
stepped cycles clock inputs now next width signed (Counter frame) old = pick (some-or-none old) (pos ((span_of cycles frame).length - 1)) (old +ℤ negsuc 0)

abbrev gone : ℕ → ℕ → Row → Row → Row → ℕ → Bool → NetKind → ℤ → ℤ
gone cycles zero inputs now next width signed kind old = started cycles inputs next width signed kind
gone cycles (suc clock) inputs now next width signed kind old = stepped cycles clock inputs now next width signed kind old

starts : (cycles : ℕ) (inputs row : Row) (width : ℕ) (signed : Bool) (kind : NetKind) → IsWord width signed
    → NetStarts cycles inputs row width signed kind (started cycles inputs row width signed kind)
starts cycles inputs row width signed (Comb op args) word = is-wrapped width signed (given_by op inputs (operands_at row args)) word
starts cycles inputs row width signed (Reg frame slot first from) word = refl
starts cycles inputs row width signed (EnReg frame enable reset first from) word = refl
starts cycles inputs row width signed (Acc frame enable from) word = refl
starts cycles inputs row width signed (Bridge frame live from) word = refl
starts cycles inputs row width signed (Unit left right) word = is-wrapped width signed (row left *ℤ row right) word
starts cycles inputs row width signed (Counter frame) word = refl

reg-steps : (span : Span) (slot clock : ℕ) (from now : ℤ) (is : Takes span slot clock ⊎ (¬ Takes span slot clock)) → RegSteps span slot clock from now (pick is from now)
reg-steps span slot clock from now (inl t) = record { takes = λ _. refl; keeps = λ not. absurd (not t) }
reg-steps span slot clock from now (inr t) = record { takes = λ is. absurd (t is); keeps = λ _. refl }

enabled-steps : (span : Span) (reset : Bool) (first : ℤ) (clock : ℕ) (enable from now : ℤ)
    (is : Takes span (span.length - 1) clock ⊎ (¬ Takes span (span.length - 1) clock))
    (off : (enable ≡ pos 0) ⊎ (enable ≢ pos 0))
    → EnRegSteps span reset first clock enable from now (pick is (pick off (if reset then first else now) from) now)
enabled-steps span true first clock enable from now (inl t) (inl off) =
    record {
      takes = λ _ on. absurd (on off);
      resets =
          λ _ _ _. refl;
      stays = λ _ _ e. absurd (let f : true ≡ false = e in cc);
      keeps = λ not. absurd (not t);
    }
enabled-steps span false first clock enable from now (inl t) (inl off) =
    record {
      takes = λ _ on. absurd (on off);
      resets =
          λ _ _ e. absurd (let f : false ≡ true = e in cc);
      stays = λ _ _ _. refl;
      keeps = λ not. absurd (not t);
    }
enabled-steps span reset first clock enable from now (inl t) (inr on) =
    record {
      takes = λ _ _. refl;
      resets =
          λ _ off. absurd (on off);
      stays = λ _ off. absurd (on off);
      keeps = λ not. absurd (not t);
    }
enabled-steps span reset first clock enable from now (inr t) off = record { takes = λ is. absurd (t is); resets = λ is. absurd (t is); stays = λ is. absurd (t is); keeps = λ _. refl }

acc-steps : (span : Span) (width : ℕ) (signed : Bool) (clock : ℕ) (enable from now : ℤ) → IsWord width signed
    → (is : Takes span (span.length - 1) clock ⊎ (¬ Takes span (span.length - 1) clock))
    (off : (enable ≡ pos 0) ⊎ (enable ≢ pos 0))
    → AccSteps span width signed clock enable from now (pick is (pos 0) (pick off now (wrapped width signed (now +ℤ from))))
acc-steps span width signed clock enable from now word (inl t) off = record { clears = λ _. refl; adds = λ not. absurd (not t); keeps = λ not. absurd (not t) }
acc-steps span width signed clock enable from now word (inr t) (inl off) = record { clears = λ is. absurd (t is); adds = λ _ on. absurd (on off); keeps = λ _ _. refl }
acc-steps span width signed clock enable from now word (inr t) (inr on) =
    record { clears = λ is. absurd (t is); adds = λ _ _. is-wrapped width signed (now +ℤ from) word; keeps = λ _ off. absurd (on off) }

bridge-steps : (span : Span) (live clock : ℕ) (from now : ℤ) (is : IsLive span live clock ⊎ (¬ IsLive span live clock)) → BridgeSteps span live clock from now (pick is from now)
bridge-steps span live clock from now (inl l) = record { passes = λ _. refl; holds = λ not. absurd (not l) }
bridge-steps span live clock from now (inr l) = record { passes = λ is. absurd (l is); holds = λ _. refl }

counter-steps : (span : Span) (now : ℤ) (is : (now ≤ℤ pos 0) ⊎ (pos 0 <ℤ now)) → CounterSteps span now (pick is (pos (span.length - 1)) (now +ℤ negsuc 0))
counter-steps span now (inl none) = record { falls = λ some. absurd (omega (arith, ints, none, some)); wraps = λ _. refl }
counter-steps span now (inr some) = record { falls = λ _. omega (arith, ints); wraps = λ none. absurd (omega (arith, ints, none, some)) }

steps : (cycles clock : ℕ) (inputs now next : Row) (width : ℕ) (signed : Bool) (kind : NetKind) (old : ℤ) → IsWord width signed
    → NetSteps cycles clock inputs now next width signed kind old (stepped cycles clock inputs now next width signed kind old)
steps cycles clock inputs now next width signed (Comb op args) old word = is-wrapped width signed (given_by op inputs (operands_at next args)) word
steps cycles clock inputs now next width signed (Reg frame slot first from) old word = reg-steps (span_of cycles frame) slot clock (now from) old (takes-or-not (span_of cycles frame) slot clock)
steps cycles clock inputs now next width signed (EnReg frame enable reset first from) old word =
    enabled-steps (span_of cycles frame) reset first clock (now enable) (now from) old (takes-or-not (span_of cycles frame) ((span_of cycles frame).length - 1) clock) (zero-or-not (now enable))
steps cycles clock inputs now next width signed (Acc frame enable from) old word =
    acc-steps (span_of cycles frame) width signed clock (now enable) (now from) old word (takes-or-not (span_of cycles frame) ((span_of cycles frame).length - 1) clock) (zero-or-not (now enable))
steps cycles clock inputs now next width signed (Bridge frame live from) old word =
    bridge-steps (span_of cycles frame) (live * cycles) (clock + 1) (next from) old
    (lives-or-not (span_of cycles frame) (live * cycles) (clock + 1))
steps cycles clock inputs now next width signed (Unit left right) old word = is-wrapped width signed (next left *ℤ next right) word
steps cycles clock inputs now next width signed (Counter frame) old word = counter-steps (span_of cycles frame) old (some-or-none old)

goes-gone : (cycles clock : ℕ) (inputs now next : Row) (width : ℕ) (signed : Bool) (kind : NetKind) (old : ℤ) → IsWord width signed
    → NetGoes cycles clock inputs now next width signed kind old (gone cycles clock inputs now next width signed kind old)
goes-gone cycles zero inputs now next width signed kind old word = starts cycles inputs next width signed kind word
goes-gone cycles (suc clock) inputs now next width signed kind old word = steps cycles clock inputs now next width signed kind old word

-- it looks only at the nets that a net reads in the same clock
started-same : (row other : Row) (cycles : ℕ) (inputs : Row) (width : ℕ) (signed : Bool) (kind : NetKind)
    → Agree row other (reads_now kind) → started cycles inputs row width signed kind
    ≡ started cycles inputs other width signed kind
started-same row other cycles inputs width signed (Comb op args) agree = ap (λ of. wrapped width signed (given_by op inputs of)) (same-operands row other args agree)
started-same row other cycles inputs width signed (Reg frame slot first from) agree = refl
started-same row other cycles inputs width signed (EnReg frame enable reset first from) agree = refl
started-same row other cycles inputs width signed (Acc frame enable from) agree = refl
started-same row other cycles inputs width signed (Bridge frame live from) agree = agree 0 0 (omega arith)
started-same row other cycles inputs width signed (Unit left right) agree =
    let a : row left ≡ other left = agree 0 0 (omega arith) in
    let b : row right ≡ other right = agree 1 0 (omega arith) in
    λ i. wrapped width signed (a i *ℤ b i)
started-same row other cycles inputs width signed (Counter frame) agree = refl

stepped-same : (row other : Row) (cycles clock : ℕ) (inputs now : Row) (width : ℕ) (signed : Bool) (kind : NetKind) (old : ℤ) → Agree row other (reads_now kind)
    → stepped cycles clock inputs now row width signed kind old ≡ stepped cycles clock inputs now other width signed kind old
stepped-same row other cycles clock inputs now width signed (Comb op args) old agree = ap (λ of. wrapped width signed (given_by op inputs of)) (same-operands row other args agree)
stepped-same row other cycles clock inputs now width signed (Reg frame slot first from) old agree = refl
stepped-same row other cycles clock inputs now width signed (EnReg frame enable reset first from) old agree = refl
stepped-same row other cycles clock inputs now width signed (Acc frame enable from) old agree = refl
stepped-same row other cycles clock inputs now width signed (Bridge frame live from) old agree =
    ap (λ (z : ℤ). pick (lives-or-not (span_of cycles frame) (live * cycles) (clock + 1)) z old) (agree 0 0 (omega arith))
stepped-same row other cycles clock inputs now width signed (Unit left right) old agree =
    let a : row left ≡ other left = agree 0 0 (omega arith) in
    let b : row right ≡ other right = agree 1 0 (omega arith) in
    λ i. wrapped width signed (a i *ℤ b i)
stepped-same row other cycles clock inputs now width signed (Counter frame) old agree = refl

gone-same : (row other : Row) (cycles clock : ℕ) (inputs now : Row) (width : ℕ) (signed : Bool) (kind : NetKind) (old : ℤ) → Agree row other (reads_now kind)
    → gone cycles clock inputs now row width signed kind old ≡ gone cycles clock inputs now other width signed kind old
gone-same row other cycles zero inputs now width signed kind old agree = started-same row other cycles inputs width signed kind agree
gone-same row other cycles (suc clock) inputs now width signed kind old agree = stepped-same row other cycles clock inputs now width signed kind old agree

-- a net's number, worked out so many nets deep
abbrev found_number : Circuit → ℕ → Row → Row → ℕ → (ℕ → ℤ) → Option Net → ℤ
found_number netlist clock inputs now k given None = pos 0
found_number netlist clock inputs now k given (Some net) = gone netlist.cycles clock inputs now given net.width net.signed net.kind (now k)

abbrev number_within : Circuit → ℕ → Row → Row → ℕ → ℕ → ℤ
number_within netlist clock inputs now zero k = pos 0
number_within netlist clock inputs now (suc fuel) k = found_number netlist clock inputs now k (number_within netlist clock inputs now fuel) (slice_get netlist.nets k)

module _ (netlist : Circuit) (well : IsNetlist netlist) where
  -- past the rank of the net the depth has no say
  stable : (clock : ℕ) (inputs now : Row) (fuel more k : ℕ) → well.ranked.0 k < fuel → well.ranked.0 k < more
      → number_within netlist clock inputs now fuel k ≡ number_within netlist clock inputs now more k
  stable clock inputs now zero more k less also = absurd (omega arith)
  stable clock inputs now (suc fuel) zero k less also = absurd (omega arith)
  stable clock inputs now (suc fuel) (suc more) k less also =
      by (λ read below. stable clock inputs now fuel more read (omega (arith, below, less))
      (omega (arith, below, also))) (slice_get netlist.nets k) refl
    where
      by : ((read : ℕ) → well.ranked.0 read < well.ranked.0 k → number_within netlist clock inputs now fuel read ≡ number_within netlist clock inputs now more read)
          → (found : Option Net) → slice_get netlist.nets k ≡ found
          → found_number netlist clock inputs now k (number_within netlist clock inputs now fuel) found ≡ found_number netlist clock inputs now k (number_within netlist clock inputs now more) found
      by deeper None e = refl
      by deeper (Some net) e =
          gone-same (number_within netlist clock inputs now fuel) (number_within netlist clock inputs now more) netlist.cycles clock inputs now net.width net.signed net.kind (now k)
          (λ i d within. deeper (slice_index_or (reads_now net.kind) i d) (well.ranked.1.falls k net e i d within))

  abbrev row_after : ℕ → Row → Row → Row
  row_after clock inputs now k = number_within netlist clock inputs now (suc (well.ranked.0 k)) k

  goes-after : (clock : ℕ) (inputs now : Row) → Goes netlist clock inputs now (row_after clock inputs now)
  goes-after clock inputs now = record {
    each = λ k net there.
        let given : Row = number_within netlist clock inputs now (well.ranked.0 k) in
        let word = held (λ (one : Net). IsWord one.width one.signed) netlist.nets k net well.words there in
        let goes = goes-gone netlist.cycles clock inputs now given net.width net.signed net.kind (now k) word in
        let is : row_after clock inputs now k ≡ gone netlist.cycles clock inputs now given net.width net.signed net.kind (now k) = ap (found_number netlist clock inputs now k given) there in
        rw is (goes-same given (row_after clock inputs now) netlist.cycles clock inputs now net.width net.signed
        net.kind (now k) (gone netlist.cycles clock inputs now given net.width net.signed net.kind (now k))
        (λ i d within.
        let read : ℕ = slice_index_or (reads_now net.kind) i d in
        stable clock inputs now (well.ranked.0 k) (suc (well.ranked.0 read)) read (well.ranked.1.falls k net there i d within) (omega arith))
        goes);
  }

  abbrev history : Inputs → ℕ → Row
  history inputs zero = row_after 0 (λ number. inputs number 0) (λ net. pos 0)
  history inputs (suc c) = row_after (suc c) (λ number. inputs number (suc c)) (history inputs c)

  history-goes : (inputs : Inputs) (c : ℕ) → Goes netlist c (λ number. inputs number c) (λ net. history inputs (c - 1) net) (λ net. history inputs c net)
  history-goes inputs zero = record { each = λ k net there. (goes-after 0 (λ number. inputs number 0) (λ net. pos 0)).each k net there }
  history-goes inputs (suc c) =
      let e : c ≡ suc c - 1 = omega arith in
      subst (λ (x : ℕ). Goes netlist (suc c) (λ number. inputs number (suc c)) (λ net. history inputs x net) (λ net. history inputs (suc c) net)) e
      (goes-after (suc c) (λ number. inputs number (suc c)) (history inputs c))

pub rows-are-there : RowsAreThere
rows-are-there netlist n inputs well = record {
  rows = λ net c. history netlist well inputs c net;
  are = steps-give-rows netlist n inputs (λ net c. history netlist well inputs c net) well (λ c h. history-goes netlist well inputs c);
}
