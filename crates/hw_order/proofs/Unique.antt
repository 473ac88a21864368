-- Two functions that are rows of one netlist under the same inputs are one.
use Rattle.std.proofs.Common.{◌≡◌, ℕ, zero, suc, ◌+◌, ◌-◌, ◌*◌, ◌%◌, ◌<◌, inl, inr, Bool, length, Option, None, Some, slice_get, slice_index_or, List, All, ℤ, ◌+ℤ◌, sym, ◌∙◌, subst, arith, refl}
use Rattle.std.proofs.lemmas.Int.{ints}
use Rattle.std.proofs.lemmas.Nat.{mul-lt}
use Rattle.std.proofs.lemmas.Bool.{cases_Bool, cases_lt}
use Rattle.math_num.specs.Word.{IsWord, IsWrapped}
use Rattle.math_num.proofs.Residues.{one-wrapped}
use Rattle.hw_net.proofs.Words.{takes-or-not, zero-or-not}
use Rattle.hw_net.specs.declared.netlist.Net.{Net}
use Rattle.hw_net.specs.declared.netlist.NetKind.{NetKind}
use Rattle.hw_net.specs.declared.netlist.NetKind.TheVariants.{Comb, Reg, EnReg, Acc, Bridge, Unit, Counter}
use Rattle.hw_net.specs.Circuit.{Circuit}
use Rattle.hw_net.specs.Operation.{Operands, given_by}
use Rattle.hw_net.specs.Registers.{Wave, Span, IsReg, IsEnReg, IsAcc, IsBridge, IsCounter}
use Rattle.hw_net.specs.NetRows.{Inputs, Rows, NetRows, NetShows, RowsAreOne, span_of, operands_at}
use Rattle.hw_net.specs.Netlist.{IsNetlist, IsKind, reads, reads_now}
use Rattle.math_list.proofs.Places.{held as at-place, slice_get_inside}
use Rattle.hw_order.proofs.NetOrder.{now-there}
use Rattle.hw_order.proofs.Same.{same-operands}

module _ (n : ℕ) (span : Span) where
  same-reg : (slot : ℕ) (first : ℤ) (from wave of other : Wave) → IsReg n span slot first from wave → IsReg n span slot first of other
      → (c : ℕ) → c < n → ((b : ℕ) → b < c → from b ≡ of b) → ((b : ℕ) → b < c → wave b ≡ other b) → wave c ≡ other c
  same-reg slot first from wave of other p q zero h feeds own = p.begins h ∙ sym (q.begins h)
  same-reg slot first from wave of other p q (suc c) h feeds own =
      let e : suc c ≡ c + 1 = omega arith in
      let below : c + 1 < n = omega arith in
      rw e (elim (takes-or-not span slot c) [
        | inl t ↦ p.takes c below t ∙ feeds c (omega arith) ∙ sym (q.takes c below t)
        | inr t ↦ p.keeps c below t ∙ own c (omega arith) ∙ sym (q.keeps c below t)
      ])

  same-enabled : (reset : Bool) (first : ℤ) (enable from wave allow of other : Wave) → IsEnReg n span reset first enable from wave → IsEnReg n span reset first allow of other
      → (c : ℕ) → c < n → ((b : ℕ) → b < c → enable b ≡ allow b) → ((b : ℕ) → b < c → from b ≡ of b) → ((b : ℕ) → b < c → wave b ≡ other b) → wave c ≡ other c
  same-enabled reset first enable from wave allow of other p q zero h gates feeds own = p.begins h ∙ sym (q.begins h)
  same-enabled reset first enable from wave allow of other p q (suc c) h gates feeds own =
      let e : suc c ≡ c + 1 = omega arith in
      let below : c + 1 < n = omega arith in
      let gate : enable c ≡ allow c = gates c (omega arith) in
      rw e (elim (takes-or-not span (span.length - 1) c) [
        | inl t ↦ elim (zero-or-not (enable c)) [
          | inl off ↦ elim (cases_Bool reset) [
            | inl does ↦ p.resets c below t off does ∙ sym (q.resets c below t (sym gate ∙ off) does)
            | inr stays ↦ p.stays c below t off stays ∙ own c (omega arith) ∙ sym (q.stays c below t (sym gate ∙ off) stays)
          ]
          | inr on ↦ p.takes c below t on ∙ feeds c (omega arith) ∙ sym (q.takes c below t (λ z. on (gate ∙ z)))
        ]
        | inr t ↦ p.keeps c below t ∙ own c (omega arith) ∙ sym (q.keeps c below t)
      ])

  same-acc : (width : ℕ) (signed : Bool) (enable from wave allow of other : Wave) → IsWord width signed → IsAcc n span width signed enable from wave → IsAcc n span width signed allow of other
      → (c : ℕ) → c < n → ((b : ℕ) → b < c → enable b ≡ allow b) → ((b : ℕ) → b < c → from b ≡ of b) → ((b : ℕ) → b < c → wave b ≡ other b) → wave c ≡ other c
  same-acc width signed enable from wave allow of other word p q zero h gates feeds own = p.begins h ∙ sym (q.begins h)
  same-acc width signed enable from wave allow of other word p q (suc c) h gates feeds own =
      let e : suc c ≡ c + 1 = omega arith in
      let below : c + 1 < n = omega arith in
      let gate : enable c ≡ allow c = gates c (omega arith) in
      let feed : from c ≡ of c = feeds c (omega arith) in
      let same : wave c ≡ other c = own c (omega arith) in
      rw e (elim (takes-or-not span (span.length - 1) c) [
        | inl t ↦ p.clears c below t ∙ sym (q.clears c below t)
        | inr t ↦ elim (zero-or-not (enable c)) [
          | inl off ↦ p.keeps c below t off ∙ same ∙ sym (q.keeps c below t (sym gate ∙ off))
          | inr on ↦ one-wrapped (other c +ℤ of c) width signed (wave (c + 1)) (other (c + 1)) word
              (rw (← same, ← feed) (p.adds c below t on)) (q.adds c below t (λ z. on (gate ∙ z)))
        ]
      ])

  same-bridge : (live : ℕ) (from wave of other : Wave) → 0 < live → IsBridge n span live from wave → IsBridge n span live of other
      → (c : ℕ) → c < n → ((b : ℕ) → b < c → from b ≡ of b) → from c ≡ of c → wave c ≡ other c
  same-bridge live from wave of other some p q c h feeds now =
      elim (cases_lt c span.start) [
        | inl early ↦ p.before c h early ∙ now ∙ sym (q.before c h early)
        | inr begun ↦ elim (cases_lt ((c - span.start) % span.length) live) [
          | inl lives ↦ p.passes c h begun lives ∙ now ∙ sym (q.passes c h begun lives)
          | inr held ↦ p.holds c h begun held ∙ feeds (c - (c - span.start) % span.length + live - 1) (omega arith) ∙ sym (q.holds c h begun held)
        ]
      ]

  same-counter : (wave other : Wave) → IsCounter n span wave → IsCounter n span other → (c : ℕ) → c < n → ((b : ℕ) → b < c → wave b ≡ other b) → wave c ≡ other c
  same-counter wave other p q zero h own = p.begins h ∙ sym (q.begins h)
  same-counter wave other p q (suc c) h own =
      let e : suc c ≡ c + 1 = omega arith in
      let below : c + 1 < n = omega arith in
      let same : wave c ≡ other c = own c (omega arith) in
      rw e (elim (zero-or-not (wave c)) [
        | inl none ↦ p.wraps c below none ∙ sym (q.wraps c below (sym same ∙ none))
        | inr some ↦ omega (arith, ints, p.falls c below some, q.falls c below (λ z. some (same ∙ z)), same)
      ])

module _ (nets : List Net) (cycles many n bound : ℕ) (inputs : Inputs) (rows other : Rows) (some : 0 < cycles) where
  -- where all agree before a clock, and at it the nets that a net reads in the same clock, the net agrees too
  same-net : (k width : ℕ) (signed : Bool) (kind : NetKind) → IsWord width signed → IsKind nets cycles many width signed kind → All (λ read. read < bound) (reads kind) → k < bound
      → NetShows cycles n inputs rows width signed kind (rows k) → NetShows cycles n inputs other width signed kind (other k)
      → (c : ℕ) → c < n → ((net b : ℕ) → net < bound → b < c → rows net b ≡ other net b) → All (λ read. rows read c ≡ other read c) (reads_now kind) → rows k c ≡ other k c
  same-net k width signed (Comb op args) word has there inside p q c h before now =
      one-wrapped (given_by op (λ number. inputs number c) (operands_at (λ net. other net c) args)) width signed (rows k c) (other k c) word
      (subst (λ (of : Operands). IsWrapped (given_by op (λ number. inputs number c) of) width signed (rows k c)) (same-operands (λ net. rows net c) (λ net. other net c) args now) (p c h)) (q c h)
  same-net k width signed (Reg frame slot first from) word has there inside p q c h before now =
      same-reg n (span_of cycles frame) slot first (rows from) (rows k) (other from) (other k) p q c h (λ b less. before from b (there 0 0 (omega arith)) less) (λ b less. before k b inside less)
  same-net k width signed (EnReg frame enable reset first from) word has there inside p q c h before now =
      same-enabled n (span_of cycles frame) reset first (rows enable) (rows from) (rows k) (other enable) (other from) (other k) p q c h
      (λ b less. before enable b (there 0 0 (omega arith)) less) (λ b less. before from b (there 1 0 (omega arith)) less) (λ b less. before k b inside less)
  same-net k width signed (Acc frame enable from) word has there inside p q c h before now =
      same-acc n (span_of cycles frame) width signed (rows enable) (rows from) (rows k) (other enable) (other from) (other k) word p q c h
      (λ b less. before enable b (there 0 0 (omega arith)) less) (λ b less. before from b (there 1 0 (omega arith)) less) (λ b less. before k b inside less)
  same-net k width signed (Bridge frame live from) word has there inside p q c h before now =
      same-bridge n (span_of cycles frame) (live * cycles) (rows from) (rows k) (other from) (other k) (mul-lt 0 0 live cycles has.1 some) p q c h
      (λ b less. before from b (there 0 0 (omega arith)) less) (now 0 0 (omega arith))
  same-net k width signed (Unit left right) word has there inside p q c h before now =
      let a : rows left c ≡ other left c = now 0 0 (omega arith) in
      let b : rows right c ≡ other right c = now 1 0 (omega arith) in
      p c h ∙ rw (a, b) refl ∙ sym (q c h)
  same-net k width signed (Counter frame) word has there inside p q c h before now =
      same-counter n (span_of cycles frame) (rows k) (other k) p q c h (λ b less. before k b inside less)

module _ (netlist : Circuit) (n : ℕ) (inputs : Inputs) (rows other : Rows) (well : IsNetlist netlist) (p : NetRows netlist n inputs rows) (q : NetRows netlist n inputs other) where
  -- in one clock, along the ranks
  in-clock : (c : ℕ) → c < n → ((net b : ℕ) → net < length netlist.nets → b < c → rows net b ≡ other net b) → (fuel k : ℕ) → well.ranked.0 k < fuel → k < length netlist.nets → rows k c ≡ other k c
  in-clock c h before zero k less inside = absurd (omega arith)
  in-clock c h before (suc fuel) k less inside = by-net (λ read below known. in-clock c h before fuel read below known) (slice_get netlist.nets k) refl
    where
      by-net : ((read : ℕ) → well.ranked.0 read < fuel → read < length netlist.nets → rows read c ≡ other read c) → (found : Option Net) → slice_get netlist.nets k ≡ found → rows k c ≡ other k c
      by-net more None e = absurd (slice_get_inside netlist.nets k inside e)
      by-net more (Some net) e =
          let there = at-place (λ (one : Net). All (λ (r : ℕ). r < length netlist.nets) (reads one.kind)) netlist.nets k net well.there e in
          same-net netlist.nets netlist.cycles (length netlist.inputs) n (length netlist.nets) inputs rows other well.cycles k net.width net.signed net.kind
          (at-place (λ (one : Net). IsWord one.width one.signed) netlist.nets k net well.words e)
          (at-place (λ (one : Net). IsKind netlist.nets netlist.cycles (length netlist.inputs) one.width one.signed one.kind) netlist.nets k net well.kinds e)
          there inside (p.shows k net e) (q.shows k net e) c h before
          (λ i d within. more (slice_index_or (reads_now net.kind) i d) (omega (arith, well.ranked.1.falls k net e i d within)) (now-there (length netlist.nets) net.kind there i d within))

  -- clock after clock
  up-to : (limit c : ℕ) → c < limit → c < n → (k : ℕ) → k < length netlist.nets → rows k c ≡ other k c
  up-to zero c less h k inside = absurd (omega arith)
  up-to (suc limit) c less h k inside =
      in-clock c h (λ net b known earlier. up-to limit b (omega arith) (omega arith) net known) (suc (well.ranked.0 k)) k (omega arith) inside

pub rows-are-one : RowsAreOne
rows-are-one netlist n inputs rows other well p q k c inside h = up-to netlist n inputs rows other well p q (suc c) c (omega arith) h k inside
