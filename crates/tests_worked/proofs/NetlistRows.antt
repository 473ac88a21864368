-- The rows of the netlist over six clocks, two of which make a base sample, by hand.
use Rattle.std.proofs.Common.{◌≡◌, ◌≢◌, ℕ, zero, suc, ◌+◌, ◌-◌, ◌%◌, ◌≤◌, ◌<◌, ℤ, pos, negsuc, ◌*ℤ◌, ◌+ℤ◌, ◌^◌, Bool, true, false, true≢false, ◌&&◌, if◌then◌else◌, List, [], ◌∷◌, get_or, refl, sym}
use Rattle.std.proofs.Common.{subst, arith}
use Rattle.std.specs.Prelude.{◌==◌}
use Rattle.std.proofs.Math.Dec.{T, lit<, lit≤}
use Rattle.std.proofs.lemmas.Bool.{and_parts}
use Rattle.std.proofs.lemmas.Int.{ints}
use lib.Signed.{le_z, le_z_yes}
use Rattle.math_num.specs.Word.{InWord, IsWrapped, word_lowest, word_highest}
use Rattle.hw_net.specs.declared.netlist.Net.{Net}
use Rattle.hw_net.specs.declared.netlist.NetKind.TheVariants.{Reg}
use Rattle.hw_net.specs.declared.netlist.NetOp.TheVariants.{Add, Choose, Equal, Input, Less, Not, ShiftDown, Slice}
use Rattle.hw_net.specs.declared.netlist.NetOp.{NetOp}
use Rattle.hw_net.specs.NetRows.{Inputs, NetRows, NetShows, Rows, operands_at}
use Rattle.hw_net.specs.Operation.{given_by}
use Rattle.hw_net.specs.Registers.{IsBridge, IsCounter, IsEnReg, IsReg, Span, Takes}
use Rattle.hw_shows.proofs.Small.{each_by}
use Rattle.tests_worked.proofs.Netlists.{circuit, each_sample, net, nets}
use Rattle.tests_worked.proofs.Paths.{below_by, each_below}

-- ---- by net and clock
abbrev table : List (List ℤ)
table = (pos 1 ∷ pos 1 ∷ negsuc 1 ∷ negsuc 1 ∷ negsuc 0 ∷ negsuc 0 ∷ [])
    ∷ (negsuc 1 ∷ negsuc 1 ∷ pos 0 ∷ pos 0 ∷ pos 1 ∷ pos 1 ∷ [])
    -- the last clock of each base sample has none left
    ∷ (pos 1 ∷ pos 0 ∷ pos 1 ∷ pos 0 ∷ pos 1 ∷ pos 0 ∷ [])
    -- the first input, then the second
    ∷ (pos 1 ∷ negsuc 1 ∷ negsuc 1 ∷ pos 0 ∷ negsuc 0 ∷ pos 1 ∷ [])
    -- times the first input
    ∷ (pos 1 ∷ negsuc 1 ∷ pos 4 ∷ pos 0 ∷ pos 1 ∷ negsuc 0 ∷ [])
    -- the product of the first clock of each base sample
    ∷ (pos 7 ∷ pos 1 ∷ pos 1 ∷ pos 4 ∷ pos 4 ∷ pos 1 ∷ [])
    -- held from the second base sample of its frame on, which begins with clock 2
    ∷ (pos 7 ∷ pos 1 ∷ pos 1 ∷ pos 4 ∷ pos 4 ∷ pos 4 ∷ [])
    -- the first input of the base sample before, where the second wasn't 0: else -1, or what was there
    ∷ (negsuc 0 ∷ negsuc 0 ∷ pos 1 ∷ pos 1 ∷ negsuc 0 ∷ negsuc 0 ∷ [])
    ∷ (negsuc 0 ∷ negsuc 0 ∷ pos 1 ∷ pos 1 ∷ pos 1 ∷ pos 1 ∷ [])
    ∷ (pos 0 ∷ pos 0 ∷ pos 1 ∷ pos 1 ∷ pos 1 ∷ pos 1 ∷ [])
    -- the first frame has a base sample before it
    ∷ (pos 3 ∷ pos 2 ∷ pos 1 ∷ pos 0 ∷ pos 1 ∷ pos 0 ∷ [])
    -- 2, -4 and -2 in two bits
    ∷ (negsuc 1 ∷ negsuc 1 ∷ pos 0 ∷ pos 0 ∷ negsuc 1 ∷ negsuc 1 ∷ []) ∷ []

abbrev rows_of : List (List ℤ) → Rows
rows_of table net clock = get_or (get_or table net []) clock (pos 0)

abbrev rows : Rows
rows = rows_of table

abbrev inputs : Inputs
inputs number clock = rows number clock

-- ---- what holds at each clock, and at each edge between two
six : (P : ℕ → Type 0) → P 0 → P 1 → P 2 → P 3 → P 4 → P 5 → (c : ℕ) → c < 6 → P c
six P a b c d e f zero below = a
six P a b c d e f (suc zero) below = b
six P a b c d e f (suc (suc zero)) below = c
six P a b c d e f (suc (suc (suc zero))) below = d
six P a b c d e f (suc (suc (suc (suc zero)))) below = e
six P a b c d e f (suc (suc (suc (suc (suc zero))))) below = f
six P a b c d e f (suc (suc (suc (suc (suc (suc k)))))) below = absurd (omega (arith, below))

five : (P : ℕ → Type 0) → P 0 → P 1 → P 2 → P 3 → P 4 → (c : ℕ) → c + 1 < 6 → P c
five P a b c d e zero below = a
five P a b c d e (suc zero) below = b
five P a b c d e (suc (suc zero)) below = c
five P a b c d e (suc (suc (suc zero))) below = d
five P a b c d e (suc (suc (suc (suc zero)))) below = e
five P a b c d e (suc (suc (suc (suc (suc k))))) below = absurd (omega (arith, below))

wrapped : (v : ℤ) (width : ℕ) (signed : Bool) (r turns : ℤ) → T (le_z (word_lowest width signed) r)
    → T (le_z r (word_highest width signed)) → r ≡ v +ℤ turns *ℤ pos (2 ^ width) → IsWrapped v width signed r
wrapped v width signed r turns low high is = record { in_word = record { low = le_z_yes low; high = le_z_yes high }; congruent = record { turns = turns; equal = is } }

abbrev Shows : ℕ → Net → Type 0
Shows k net = NetShows 2 6 inputs rows net.width net.signed net.kind (rows k)

-- a frame of two clocks from the first on
abbrev whole : Span
whole = record { start = 0; length = 2 }

-- one that begins a base sample later, and one of two base samples
abbrev late : Span
late = record { start = 2; length = 2 }

abbrev twofold : Span
twofold = record { start = 2; length = 4 }

-- ---- operations
abbrev Wraps : NetOp → List ℕ → ℕ → Bool → ℕ → ℕ → Type 0
Wraps op args width signed k c = IsWrapped (given_by op (λ number. inputs number c) (operands_at (λ net. rows net c) args)) width signed (rows k c)

first_input : (c : ℕ) → c < 6 → Wraps (Input 0) [] 2 true 0 c
first_input = six (Wraps (Input 0) [] 2 true 0)
    (wrapped (pos 1) 2 true (pos 1) (pos 0) tt tt refl) (wrapped (pos 1) 2 true (pos 1) (pos 0) tt tt refl) (wrapped (negsuc 1) 2 true (negsuc 1) (pos 0) tt tt refl)
    (wrapped (negsuc 1) 2 true (negsuc 1) (pos 0) tt tt refl) (wrapped (negsuc 0) 2 true (negsuc 0) (pos 0) tt tt refl) (wrapped (negsuc 0) 2 true (negsuc 0) (pos 0) tt tt refl)

second_input : (c : ℕ) → c < 6 → Wraps (Input 1) [] 2 true 1 c
second_input = six (Wraps (Input 1) [] 2 true 1)
    (wrapped (negsuc 1) 2 true (negsuc 1) (pos 0) tt tt refl) (wrapped (negsuc 1) 2 true (negsuc 1) (pos 0) tt tt refl) (wrapped (pos 0) 2 true (pos 0) (pos 0) tt tt refl)
    (wrapped (pos 0) 2 true (pos 0) (pos 0) tt tt refl) (wrapped (pos 1) 2 true (pos 1) (pos 0) tt tt refl) (wrapped (pos 1) 2 true (pos 1) (pos 0) tt tt refl)

chosen : (c : ℕ) → c < 6 → Wraps Choose (2 ∷ 0 ∷ 1 ∷ []) 2 true 3 c
chosen = six (Wraps Choose (2 ∷ 0 ∷ 1 ∷ []) 2 true 3)
    (wrapped (pos 1) 2 true (pos 1) (pos 0) tt tt refl) (wrapped (negsuc 1) 2 true (negsuc 1) (pos 0) tt tt refl) (wrapped (negsuc 1) 2 true (negsuc 1) (pos 0) tt tt refl)
    (wrapped (pos 0) 2 true (pos 0) (pos 0) tt tt refl) (wrapped (negsuc 0) 2 true (negsuc 0) (pos 0) tt tt refl) (wrapped (pos 1) 2 true (pos 1) (pos 0) tt tt refl)

less : (c : ℕ) → c < 6 → Wraps Less (0 ∷ 1 ∷ []) 1 false 9 c
less = six (Wraps Less (0 ∷ 1 ∷ []) 1 false 9)
    (wrapped (pos 0) 1 false (pos 0) (pos 0) tt tt refl) (wrapped (pos 0) 1 false (pos 0) (pos 0) tt tt refl) (wrapped (pos 1) 1 false (pos 1) (pos 0) tt tt refl)
    (wrapped (pos 1) 1 false (pos 1) (pos 0) tt tt refl) (wrapped (pos 1) 1 false (pos 1) (pos 0) tt tt refl) (wrapped (pos 1) 1 false (pos 1) (pos 0) tt tt refl)

doubled : (c : ℕ) → c < 6 → Wraps Add (0 ∷ 0 ∷ []) 2 true 11 c
doubled = six (Wraps Add (0 ∷ 0 ∷ []) 2 true 11)
    (wrapped (pos 2) 2 true (negsuc 1) (negsuc 0) tt tt refl) (wrapped (pos 2) 2 true (negsuc 1) (negsuc 0) tt tt refl) (wrapped (negsuc 3) 2 true (pos 0) (pos 1) tt tt refl)
    (wrapped (negsuc 3) 2 true (pos 0) (pos 1) tt tt refl) (wrapped (negsuc 1) 2 true (negsuc 1) (pos 0) tt tt refl) (wrapped (negsuc 1) 2 true (negsuc 1) (pos 0) tt tt refl)

multiplied : (c : ℕ) → c < 6 → rows 4 c ≡ rows 3 c *ℤ rows 0 c
multiplied = six (λ c. rows 4 c ≡ rows 3 c *ℤ rows 0 c) refl refl refl refl refl refl

-- ---- registers
taken : IsReg 6 whole 0 (pos 7) (rows 4) (rows 5)
taken = record {
  begins = λ some. refl;
  takes = five (λ c. Takes whole 0 c → rows 5 (c + 1) ≡ rows 4 c) (λ t. refl) (λ t. absurd (omega (arith, t.at_slot))) (λ t. refl) (λ t. absurd (omega (arith, t.at_slot))) (λ t. refl);
  keeps = five (λ c. ¬ Takes whole 0 c → rows 5 (c + 1) ≡ rows 5 c)
      (λ not. absurd (not (record { begun = lit≤ tt; at_slot = refl }))) (λ not. refl)
      (λ not. absurd (not (record { begun = lit≤ tt; at_slot = refl }))) (λ not. refl)
      (λ not. absurd (not (record { begun = lit≤ tt; at_slot = refl })));
}

held : IsBridge 6 twofold 2 (rows 5) (rows 6)
held = record {
  before = six (λ c. c < 2 → rows 6 c ≡ rows 5 c) (λ l. refl) (λ l. refl) (λ l. absurd (omega (arith, l)))
      (λ l. absurd (omega (arith, l))) (λ l. absurd (omega (arith, l))) (λ l. absurd (omega (arith, l)));
  passes = six (λ c. 2 ≤ c → (c - 2) % 4 < 2 → rows 6 c ≡ rows 5 c)
      (λ begun l. absurd (omega (arith, begun))) (λ begun l. absurd (omega (arith, begun))) (λ begun l. refl)
      (λ begun l. refl) (λ begun l. absurd (omega (arith, l))) (λ begun l. absurd (omega (arith, l)));
  holds = six (λ c. 2 ≤ c → 2 ≤ (c - 2) % 4 → rows 6 c ≡ rows 5 (c - (c - 2) % 4 + 2 - 1))
      (λ begun l. absurd (omega (arith, begun))) (λ begun l. absurd (omega (arith, begun)))
      (λ begun l. absurd (omega (arith, l))) (λ begun l. absurd (omega (arith, l))) (λ begun l. refl)
      (λ begun l. refl);
}

-- with reset values, and with values that are kept
module _ (reset : Bool) (wave : ℕ → ℤ) where
  abbrev IsEnabled : Type 0
  IsEnabled = IsEnReg 6 whole reset (negsuc 0) (rows 1) (rows 0) wave

starts_anew : IsEnabled true (rows 7)
starts_anew = record {
  begins = λ some. refl;
  takes = five (λ c. Takes whole 1 c → rows 1 c ≢ pos 0 → rows 7 (c + 1) ≡ rows 0 c)
      (λ t e. absurd (omega (arith, t.at_slot))) (λ t e. refl) (λ t e. absurd (omega (arith, t.at_slot))) (λ t e. absurd (e refl)) (λ t e. absurd (omega (arith, t.at_slot)));
  resets = five (λ c. Takes whole 1 c → rows 1 c ≡ pos 0 → true ≡ true → rows 7 (c + 1) ≡ negsuc 0)
      (λ t e r. absurd (omega (arith, t.at_slot))) (λ t e r. absurd (omega (arith, ints, e))) (λ t e r. absurd (omega (arith, t.at_slot))) (λ t e r. refl) (λ t e r. absurd (omega (arith, t.at_slot)));
  stays = λ c below t e r. absurd (true≢false r);
  keeps = five (λ c. ¬ Takes whole 1 c → rows 7 (c + 1) ≡ rows 7 c)
      (λ not. refl) (λ not. absurd (not (record { begun = lit≤ tt; at_slot = refl }))) (λ not. refl) (λ not. absurd (not (record { begun = lit≤ tt; at_slot = refl }))) (λ not. refl);
}

goes_on : IsEnabled false (rows 8)
goes_on = record {
  begins = λ some. refl;
  takes = five (λ c. Takes whole 1 c → rows 1 c ≢ pos 0 → rows 8 (c + 1) ≡ rows 0 c)
      (λ t e. absurd (omega (arith, t.at_slot))) (λ t e. refl) (λ t e. absurd (omega (arith, t.at_slot))) (λ t e. absurd (e refl)) (λ t e. absurd (omega (arith, t.at_slot)));
  resets = λ c below t e r. absurd (true≢false (sym r));
  stays = five (λ c. Takes whole 1 c → rows 1 c ≡ pos 0 → false ≡ false → rows 8 (c + 1) ≡ rows 8 c)
      (λ t e r. absurd (omega (arith, t.at_slot))) (λ t e r. absurd (omega (arith, ints, e))) (λ t e r. absurd (omega (arith, t.at_slot))) (λ t e r. refl) (λ t e r. absurd (omega (arith, t.at_slot)));
  keeps = five (λ c. ¬ Takes whole 1 c → rows 8 (c + 1) ≡ rows 8 c)
      (λ not. refl) (λ not. absurd (not (record { begun = lit≤ tt; at_slot = refl }))) (λ not. refl) (λ not. absurd (not (record { begun = lit≤ tt; at_slot = refl }))) (λ not. refl);
}

counted : IsCounter 6 whole (rows 2)
counted = record {
  begins = λ some. refl;
  falls = five (λ c. rows 2 c ≢ pos 0 → rows 2 (c + 1) +ℤ pos 1 ≡ rows 2 c) (λ n. refl) (λ n. absurd (n refl)) (λ n. refl) (λ n. absurd (n refl)) (λ n. refl);
  wraps = five (λ c. rows 2 c ≡ pos 0 → rows 2 (c + 1) ≡ pos 1) (λ e. absurd (omega (arith, ints, e))) (λ e. refl)
      (λ e. absurd (omega (arith, ints, e))) (λ e. refl) (λ e. absurd (omega (arith, ints, e)));
}

counted_late : IsCounter 6 late (rows 10)
counted_late = record {
  begins = λ some. refl;
  falls = five (λ c. rows 10 c ≢ pos 0 → rows 10 (c + 1) +ℤ pos 1 ≡ rows 10 c) (λ n. refl) (λ n. refl) (λ n. refl) (λ n. absurd (n refl)) (λ n. refl);
  wraps = five (λ c. rows 10 c ≡ pos 0 → rows 10 (c + 1) ≡ pos 1) (λ e. absurd (omega (arith, ints, e)))
      (λ e. absurd (omega (arith, ints, e))) (λ e. absurd (omega (arith, ints, e))) (λ e. refl)
      (λ e. absurd (omega (arith, ints, e)));
}

-- ---- all of it
abbrev Fits : ℕ → Net → Type 0
Fits k net = (c : ℕ) → c < 6 → InWord net.width net.signed (rows k c)

fits : (k width : ℕ) (signed : Bool) → each_below
    (λ c. le_z (word_lowest width signed) (rows k c) && le_z (rows k c) (word_highest width signed)) 6 ≡ true
    → (c : ℕ) → c < 6 → InWord width signed (rows k c)
fits k width signed is c below =
    let parts = and_parts (le_z (word_lowest width signed) (rows k c)) (le_z (rows k c) (word_highest width signed))
    (below_by (λ c. le_z (word_lowest width signed) (rows k c) && le_z (rows k c) (word_highest width signed)) 6
    is c below) in
    record { low = le_z_yes (subst T (sym parts.0) tt); high = le_z_yes (subst T (sym parts.1) tt) }

pub are_rows : NetRows (circuit nets) 6 inputs rows
are_rows = record {
  shows = each_by Shows nets first_input second_input counted chosen multiplied taken held starts_anew goes_on less counted_late doubled;
  in_word = each_by Fits nets (fits 0 2 true refl) (fits 1 2 true refl) (fits 2 1 false refl) (fits 3 2 true refl)
      (fits 4 4 true refl) (fits 5 4 true refl) (fits 6 4 true refl) (fits 7 2 true refl) (fits 8 2 true refl)
      (fits 9 1 false refl) (fits 10 2 false refl) (fits 11 2 true refl);
}

-- ---- none: a register that takes a clock late, and a bridge that goes on
abbrev changed : ℕ → List ℤ → Rows
changed changed_net wave net clock = if net == changed_net then get_or wave clock (pos 0) else rows net clock

takes_late : ¬ NetRows (circuit nets) 6 inputs (changed 5 (pos 7 ∷ pos 7 ∷ pos 1 ∷ pos 1 ∷ pos 4 ∷ pos 4 ∷ []))
takes_late are =
    let first : pos 7 ≡ pos 1 = (are.shows 5 (net true 4 (Reg each_sample 0 (pos 7) 4)) refl).takes 0 (lit< tt) (record { begun = lit≤ tt; at_slot = refl }) in
    absurd (omega (arith, ints, first))

-- ---- operations at their bounds
abbrev Of : NetOp → ℤ → ℤ → ℤ → ℤ → Type 0
Of op first second third r = given_by op (λ number. pos 0) (record { first = first; second = second; third = third }) ≡ r

comparisons : Of Less (negsuc 0) (pos 0) (pos 0) (pos 1) × Of Less (pos 0) (pos 0) (pos 0) (pos 0)
    × Of Less (pos 1) (pos 0) (pos 0) (pos 0) × Of Equal (negsuc 0) (pos 0) (pos 0) (pos 0)
    × Of Equal (pos 0) (pos 0) (pos 0) (pos 1) × Of Equal (pos 1) (pos 0) (pos 0) (pos 0)
comparisons = (refl, refl, refl, refl, refl, refl)

choices : Of Choose (pos 0) (pos 7) (pos 9) (pos 9) × Of Choose (pos 1) (pos 7) (pos 9) (pos 7) × Of Choose (negsuc 0) (pos 7) (pos 9) (pos 7) × Of Choose (pos 2) (pos 7) (pos 9) (pos 7)
choices = (refl, refl, refl, refl)

bits : Of (ShiftDown 1) (negsuc 2) (pos 0) (pos 0) (negsuc 1) × Of (ShiftDown 1) (pos 3) (pos 0) (pos 0) (pos 1)
    × Of Not (pos 0) (pos 0) (pos 0) (negsuc 0) × Of (Slice 2 1) (pos 13) (pos 0) (pos 0) (pos 2)
    × Of (Slice 0 0) (negsuc 0) (pos 0) (pos 0) (pos 1)
bits = (refl, refl, refl, refl, refl)
