-- Waves written out as numbers are tried by computation.
use Rattle.std.proofs.Common.{◌≡◌, ◌≢◌, ℕ, zero, suc, ◌+◌, ◌-◌, ◌*◌, ◌%◌, ◌<◌, ◌≤◌, ◌⊎◌, inl, inr, ◌==◌, ◌&&◌, Bool, true, false, true≢false, ℤ, pos, List, slice_index_or, Option, Some, min, ap, sym}
use Rattle.std.proofs.Common.{◌∙◌, ◌*ℤ◌, arith, eq-or-lt_of_le, le_of_suc-le-suc, mul-le-mul_left}
use Rattle.std.specs.Prelude.{nat_le, nat_lt}
use Rattle.std.specs.Ordering.{int_eq}
use Rattle.std.proofs.lemmas.Bool.{and_parts, and_from, le-leb, lt-ltb, eq-eqb, eqb-true, leb-true, cases_Bool}
use Rattle.std.proofs.lemmas.Bool.Decides.{Decides-int_eq}
use Rattle.fx_type.specs.declared.kind.FxType.{FxType}
use Rattle.fx_type.specs.FxType.{InRange}
use Rattle.fx_type.specs.StoredOf.{is_in_range}
use Rattle.fx_type.proofs.Decimals.{Decides-in_range}
use Rattle.dg_model.specs.Hits.{last_hit}
use Rattle.hw_net.specs.Registers.{Wave, Span, Takes, IsReg, IsEnReg}
use Rattle.hw_net.specs.Closed.{frame_start}
use Rattle.hw_lines.specs.Line.{Line, own_end, IsLine}
use Rattle.hw_shows.specs.Shows.{Shows}
use Rattle.hw_shows.specs.Series.{AreSame, IsProductAt}

-- the wave with these numbers, and 0 after them
abbrev pub wave_of : List ℤ → Wave
wave_of numbers = λ c. slice_index_or numbers c (pos 0)

abbrev pub each_below : ℕ → (ℕ → Bool) → Bool
each_below zero test = true
each_below (suc k) test = test k && each_below k test

pub each_holds : (k : ℕ) (test : ℕ → Bool) → each_below k test ≡ true → (i : ℕ) → i < k → test i ≡ true
each_holds zero test e i below = absurd (omega arith)
each_holds (suc k) test e i below =
    let parts = and_parts (test k) (each_below k test) e in
    go parts.0 (each_holds k test parts.1 i) (eq-or-lt_of_le (le_of_suc-le-suc below))
  where
    go : test k ≡ true → (i < k → test i ≡ true) → (i ≡ k) ⊎ (i < k) → test i ≡ true
    go last rest (inl same) = ap test same ∙ last
    go last rest (inr less) = rest less

-- where the first test holds the second does
abbrev pub if_so : Bool → Bool → Bool
if_so true test = test
if_so false test = true

pub so : (a b : Bool) → a ≡ true → if_so a b ≡ true → b ≡ true
so true b e h = h
so false b e h = absurd (true≢false (sym e))

same_number : (a b : ℤ) → int_eq a b ≡ true → a ≡ b
same_number a b h = (Decides-int_eq a b).0 h

-- ---- what is shown
abbrev pub is_seen : ℕ → ℕ → ℕ → ℕ → ℕ → ℕ → Bool
is_seen cycles period latency ready t c = ((t % period) == 0) && (nat_le ((t + latency) * cycles + ready) c && nat_lt c ((t + latency + period) * cycles))

abbrev pub shows_test : ℕ → ℕ → ℕ → ℕ → ℕ → ℕ → (ℕ → ℤ) → Wave → Bool
shows_test clocks n cycles period latency ready entry wave =
    each_below n (λ t. each_below clocks (λ c. if_so (is_seen cycles period latency ready t c) (int_eq (wave c) (entry t))))

pub tried_shows : (clocks n cycles period latency ready : ℕ) (entry : ℕ → ℤ) (wave : Wave)
    → shows_test clocks n cycles period latency ready entry wave ≡ true
    → Shows clocks n cycles (Some period) latency ready entry wave
tried_shows clocks n cycles period latency ready entry wave e = record {
  at = λ t c below early seen.
      let hit = each_holds n (λ t. each_below clocks (λ c. if_so (is_seen cycles period latency ready t c) (int_eq (wave c) (entry t)))) e t below in
      let clock = each_holds clocks (λ c. if_so (is_seen cycles period latency ready t c) (int_eq (wave c) (entry t))) hit c early in
      let is : is_seen cycles period latency ready t c ≡ true =
      and_from ((t % period) == 0) (nat_le ((t + latency) * cycles + ready) c && nat_lt c ((t + latency + period) * cycles)) (eq-eqb (t % period) 0 seen.is_hit)
      (and_from (nat_le ((t + latency) * cycles + ready) c) (nat_lt c ((t + latency + period) * cycles))
      (le-leb ((t + latency) * cycles + ready) c seen.from)
      (lt-ltb c ((t + latency + period) * cycles) seen.until)) in
      same_number (wave c) (entry t) (so (is_seen cycles period latency ready t c) (int_eq (wave c) (entry t)) is clock);
}

-- ---- what stays between hits
pub tried_stays : (n : ℕ) (period : Option ℕ) (entry : ℕ → ℤ) → each_below n (λ t. int_eq (entry t) (entry (last_hit period t))) ≡ true → (t : ℕ) → t < n → entry t ≡ entry (last_hit period t)
tried_stays n period entry e t below = same_number (entry t) (entry (last_hit period t)) (each_holds n (λ t. int_eq (entry t) (entry (last_hit period t))) e t below)

pub tried_same : (clocks : ℕ) (wave other : Wave) → each_below clocks (λ c. int_eq (wave c) (other c)) ≡ true → AreSame clocks wave other
tried_same clocks wave other e = record { at = λ c below. same_number (wave c) (other c) (each_holds clocks (λ c. int_eq (wave c) (other c)) e c below) }

-- ---- what is in range
abbrev pub are_within : FxType → ℕ → (ℕ → ℤ) → Bool
are_within type n entry = each_below n (λ t. is_in_range type (entry t))

pub tried_range : (type : FxType) (n : ℕ) (entry : ℕ → ℤ) → are_within type n entry ≡ true → (t : ℕ) → t < n → InRange type (entry t)
tried_range type n entry e t below = (Decides-in_range type (entry t)).0 (each_holds n (λ t. is_in_range type (entry t)) e t below)

-- ---- registers
abbrev pub takes_at : Span → ℕ → ℕ → Bool
takes_at span slot c = nat_le span.start c && (((c - span.start) % span.length) == slot)

does_take : (span : Span) (slot c : ℕ) → Takes span slot c → takes_at span slot c ≡ true
does_take span slot c takes = and_from (nat_le span.start c) (((c - span.start) % span.length) == slot) (le-leb span.start c takes.begun) (eq-eqb ((c - span.start) % span.length) slot takes.at_slot)

no_take : (span : Span) (slot c : ℕ) → ¬ Takes span slot c → takes_at span slot c ≡ false
no_take span slot c misses = go (cases_Bool (takes_at span slot c))
  where
    go : (takes_at span slot c ≡ true) ⊎ (takes_at span slot c ≡ false) → takes_at span slot c ≡ false
    go (inr e) = e
    go (inl e) =
        let parts = and_parts (nat_le span.start c) (((c - span.start) % span.length) == slot) e in
        absurd (misses (record { begun = leb-true span.start c parts.0; at_slot = eqb-true ((c - span.start) % span.length) slot parts.1 }))

-- what a register has at the next clock
abbrev pub next_of : Bool → ℤ → ℤ → ℤ
next_of true from own = from
next_of false from own = own

abbrev pub reg_test : ℕ → Span → ℕ → ℤ → Wave → Wave → Bool
reg_test last span slot first from wave =
    int_eq (wave 0) first && each_below last (λ c. int_eq (wave (c + 1)) (next_of (takes_at span slot c) (from c) (wave c)))

pub tried_reg : (last : ℕ) (span : Span) (slot : ℕ) (first : ℤ) (from wave : Wave) → reg_test last span slot first from wave ≡ true → IsReg (suc last) span slot first from wave
tried_reg last span slot first from wave e =
    let parts = and_parts (int_eq (wave 0) first) (each_below last (λ c. int_eq (wave (c + 1)) (next_of (takes_at span slot c) (from c) (wave c)))) e in
    let step : (c : ℕ) → c + 1 < suc last → wave (c + 1) ≡ next_of (takes_at span slot c) (from c) (wave c) =
    λ c below. same_number (wave (c + 1)) (next_of (takes_at span slot c) (from c) (wave c))
    (each_holds last (λ c. int_eq (wave (c + 1)) (next_of (takes_at span slot c) (from c) (wave c))) parts.1 c
    (omega arith)) in
    record {
      begins = λ some. same_number (wave 0) first parts.0;
      takes = λ c below takes. step c below ∙ ap (λ (b : Bool). next_of b (from c) (wave c)) (does_take span slot c takes);
      keeps = λ c below misses. step c below ∙ ap (λ (b : Bool). next_of b (from c) (wave c)) (no_take span slot c misses);
    }

-- ---- registers that are enabled
abbrev pub rest_of : Bool → ℤ → ℤ → ℤ
rest_of true own first = first
rest_of false own first = own

abbrev pub choice_of : Bool → Bool → ℤ → ℤ → ℤ → ℤ
choice_of true reset from own first = rest_of reset own first
choice_of false reset from own first = from

abbrev pub en_test : ℕ → Span → Bool → ℤ → Wave → Wave → Wave → Bool
en_test last span reset first enable from wave =
    int_eq (wave 0) first && each_below last (λ c. int_eq (wave (c + 1)) (next_of (takes_at span (span.length - 1) c) (choice_of (int_eq (enable c) (pos 0)) reset (from c) (wave c) first) (wave c)))

pub tried_en : (last : ℕ) (span : Span) (reset : Bool) (first : ℤ) (enable from wave : Wave)
    → en_test last span reset first enable from wave ≡ true → IsEnReg (suc last) span reset first enable from wave
tried_en last span reset first enable from wave e =
    let test : ℕ → Bool = λ c. int_eq (wave (c + 1)) (next_of (takes_at span (span.length - 1) c) (choice_of (int_eq (enable c) (pos 0)) reset (from c) (wave c) first) (wave c)) in
    let parts = and_parts (int_eq (wave 0) first) (each_below last test) e in
    let step : (c : ℕ) → c + 1 < suc last → wave (c + 1) ≡ next_of (takes_at span (span.length - 1) c) (choice_of (int_eq (enable c) (pos 0)) reset (from c) (wave c) first) (wave c) =
    λ c below. same_number (wave (c + 1))
    (next_of (takes_at span (span.length - 1) c)
    (choice_of (int_eq (enable c) (pos 0)) reset (from c) (wave c) first) (wave c))
    (each_holds last test parts.1 c (omega arith)) in
    let taken : (c : ℕ) → c + 1 < suc last → Takes span (span.length - 1) c → wave (c + 1) ≡ choice_of (int_eq (enable c) (pos 0)) reset (from c) (wave c) first =
    λ c below takes. step c below ∙ ap (λ (b : Bool). next_of b (choice_of (int_eq (enable c) (pos 0)) reset (from c) (wave c) first) (wave c)) (does_take span (span.length - 1) c takes) in
    record {
      begins = λ some. same_number (wave 0) first parts.0;
      takes = λ c below takes on. taken c below takes ∙ ap (λ (b : Bool). choice_of b reset (from c) (wave c) first) (not_same (enable c) on);
      resets = λ c below takes off is. taken c below takes
          ∙ ap (λ (b : Bool). choice_of b reset (from c) (wave c) first) ((Decides-int_eq (enable c) (pos 0)).1 off)
          ∙ ap (λ (b : Bool). rest_of b (wave c) first) is;
      stays = λ c below takes off is. taken c below takes
          ∙ ap (λ (b : Bool). choice_of b reset (from c) (wave c) first) ((Decides-int_eq (enable c) (pos 0)).1 off)
          ∙ ap (λ (b : Bool). rest_of b (wave c) first) is;
      keeps = λ c below misses. step c below ∙ ap (λ (b : Bool). next_of b (choice_of (int_eq (enable c) (pos 0)) reset (from c) (wave c) first) (wave c)) (no_take span (span.length - 1) c misses);
    }
  where
    not_same : (v : ℤ) → v ≢ pos 0 → int_eq v (pos 0) ≡ false
    not_same v on = go (cases_Bool (int_eq v (pos 0)))
      where
        go : (int_eq v (pos 0) ≡ true) ⊎ (int_eq v (pos 0) ≡ false) → int_eq v (pos 0) ≡ false
        go (inr h) = h
        go (inl h) = absurd (on (same_number v (pos 0) h))

-- ---- lines and products
abbrev pub line_test : ℕ → ℕ → Line → Wave → Wave → Bool
line_test clocks n line source result =
    each_below n (λ t. each_below clocks (λ c. if_so (is_seen line.cycles line.reader.period line.reader.latency 0 t c) (int_eq (result c) (source (min c (own_end line t))))))

-- the hits of a reader that are seen below a clock stand below it
pub tried_line : (clocks : ℕ) (line : Line) (source result : Wave) → line_test clocks clocks line source result ≡ true → (0 < line.cycles) → IsLine clocks line source result
tried_line clocks line source result e some = record {
  shows = λ t c sees.
      let low : t * 1 ≤ t * line.cycles = mul-le-mul_left t some in
      let from : (t + line.reader.latency) * line.cycles ≤ c = sees.from in
      let until : c < (t + line.reader.latency) * line.cycles + line.reader.period * line.cycles = sees.until in
      let hit = each_holds clocks (λ t. each_below clocks
      (λ c. if_so (is_seen line.cycles line.reader.period line.reader.latency 0 t c)
      (int_eq (result c) (source (min c (own_end line t)))))) e t (omega (arith, sees.below)) in
      let clock = each_holds clocks (λ c. if_so (is_seen line.cycles line.reader.period line.reader.latency 0 t c) (int_eq (result c) (source (min c (own_end line t))))) hit c sees.below in
      let is : is_seen line.cycles line.reader.period line.reader.latency 0 t c ≡ true =
      and_from ((t % line.reader.period) == 0)
      (nat_le ((t + line.reader.latency) * line.cycles + 0) c
      && nat_lt c ((t + line.reader.latency + line.reader.period) * line.cycles))
      (eq-eqb (t % line.reader.period) 0 sees.is_hit)
      (and_from (nat_le ((t + line.reader.latency) * line.cycles + 0) c)
      (nat_lt c ((t + line.reader.latency + line.reader.period) * line.cycles))
      (le-leb ((t + line.reader.latency) * line.cycles + 0) c (omega arith))
      (lt-ltb c ((t + line.reader.latency + line.reader.period) * line.cycles) (omega arith))) in
      same_number (result c) (source (min c (own_end line t))) (so (is_seen line.cycles line.reader.period line.reader.latency 0 t c) (int_eq (result c) (source (min c (own_end line t)))) is clock);
}

abbrev pub is_held : Span → ℕ → ℕ → ℕ → Bool
is_held span slot k c = nat_lt (frame_start span k + slot) c && nat_lt c (frame_start span k + span.length)

abbrev pub product_test : ℕ → Span → ℕ → Wave → Wave → Wave → Bool
product_test clocks span slot left right product =
    each_below clocks (λ k. each_below clocks (λ c. if_so (is_held span slot k c) (int_eq (product c) (left (frame_start span k + slot) *ℤ right (frame_start span k + slot)))))

pub tried_product : (clocks : ℕ) (span : Span) (slot : ℕ) (left right product : Wave)
    → product_test clocks span slot left right product ≡ true → 0 < span.length
    → IsProductAt clocks span slot left right product
tried_product clocks span slot left right product e some = record {
  holds = λ k c below from until.
      let low : k * 1 ≤ k * span.length = mul-le-mul_left k some in
      let frame = each_holds clocks (λ k. each_below clocks
      (λ c. if_so (is_held span slot k c)
      (int_eq (product c) (left (frame_start span k + slot) *ℤ right (frame_start span k + slot))))) e k
      (omega arith) in
      let clock = each_holds clocks (λ c. if_so (is_held span slot k c) (int_eq (product c) (left (frame_start span k + slot) *ℤ right (frame_start span k + slot)))) frame c below in
      let is = and_from (nat_lt (frame_start span k + slot) c) (nat_lt c (frame_start span k + span.length))
      (lt-ltb (frame_start span k + slot) c from) (lt-ltb c (frame_start span k + span.length) until) in
      same_number (product c) (left (frame_start span k + slot) *ℤ right (frame_start span k + slot))
      (so (is_held span slot k c) (int_eq (product c)
      (left (frame_start span k + slot) *ℤ right (frame_start span k + slot))) is clock);
}
