-- The places that an operation reads, and the operations in another order.
use Rattle.std.specs.Prelude.{◌≡◌, ℕ, ◌+◌, ◌-◌, ◌*◌, ◌%◌, ◌^◌, ◌<◌, ◌≤◌, nat_lt, if◌then◌else◌, List, length, map, slice_index, slice_index_or, ⊤}
use Rattle.vl_eval.specs.declared.arranging.Arranged.{Arranged}
use Rattle.vl_eval.specs.declared.ops.Op.{Op}
use Rattle.vl_eval.specs.declared.ops.Op.TheVariants.{Constant, One, Two, Beside, Choose, Next}
use Rattle.vl_eval.specs.declared.plan.Capture.{Capture}
use Rattle.vl_eval.specs.inner.Ops.{IsOrdered, IsSettled}

-- each place that an operation reads
abbrev pub each_of : (ℕ → Type 0) → Op → Type 0
each_of P (Constant bits) = ⊤
each_of P (One op part) = P part
each_of P (Two op left right) = P left × P right
each_of P (Beside left right places) = P left × P right
each_of P (Choose test chosen other) = P test × P chosen × P other
each_of P (Next register) = P register.reset × P register.test × P register.value × P register.kept

-- the same operation over other places
abbrev pub renamed : (ℕ → ℕ) → Op → Op
renamed f (Constant bits) = Constant bits
renamed f (One op part) = One op (f part)
renamed f (Two op left right) = Two op (f left) (f right)
renamed f (Beside left right places) = Beside (f left) (f right) places
renamed f (Choose test chosen other) = Choose (f test) (f chosen) (f other)
renamed f (Next register) =
    Next (record {
      reset = f register.reset;
      first = register.first;
      test = f register.test;
      value = f register.value;
      kept = f register.kept;
    })

-- a place is fixed, or that of an operation below this level
abbrev pub IsAbove : ℕ → List ℕ → ℕ → ℕ → Type 0
IsAbove base levels level place =
    (j : ℕ) → place ≡ base + j → (j < length levels) × (slice_index levels j < level)

-- each level is at most its place
pub record AreLow (levels : List ℕ) : Type 0 where
  pub at : (k : ℕ) → k < length levels → slice_index levels k ≤ k

-- a level, a kind and a number
pub record IsEntry (level number entry : ℕ) : Type 0 where
  pub kind : ℕ
  pub few : kind < 32
  pub is : entry ≡ (level * 32 + kind) * 2 ^ 29 + number

-- each operation's level is above those of the operations that it reads, and has its entry
pub record AreEntered (base : ℕ) (ops : List Op) (levels entries : List ℕ) : Type 0 where
  pub levels_long : length levels ≡ length ops
  pub long : length entries ≡ length ops
  pub low : AreLow levels
  pub each : (k : ℕ) → k < length ops → IsEntry (slice_index levels k) k (slice_index entries k)
  pub rises : (k : ℕ) (d : Op) → k < length ops
      → each_of (IsAbove base levels (slice_index levels k)) (slice_index_or ops k d)

pub record AreEntries (base : ℕ) (ops : List Op) (entries : List ℕ) : Type 0 where
  pub levels : List ℕ
  pub are : AreEntered base ops levels entries

-- the number of an entry
abbrev pub number_of : ℕ → ℕ
number_of entry = entry % 2 ^ 29

-- where the numbers of the first so many entries stand
pub record ArePlaces (base : ℕ) (entries : List ℕ) (count : ℕ) (places : List ℕ) : Type 0 where
  pub long : length places ≡ length entries
  pub at : (i : ℕ) → i < count → (p : ℕ) × (p < count)
      × (slice_index places (number_of (slice_index entries i)) ≡ base + p)
      × (number_of (slice_index entries p) ≡ number_of (slice_index entries i))

-- the place of what stood at a place
abbrev pub moved : ℕ → List ℕ → ℕ → ℕ
moved base places place = if nat_lt place base then place else slice_index places (place - base)

abbrev pub moved_capture : (ℕ → ℕ) → Capture → Capture
moved_capture f capture = record { from = f capture.from; to = f capture.to }

-- the operation of an entry over the new places
abbrev pub op_at : ℕ → List ℕ → List Op → ℕ → Op
op_at base places ops entry =
    renamed (moved base places) (slice_index_or ops (number_of entry) (Constant 0))

-- the same operations in another order, without some that do what others do, and the places of names
-- and captures in it
pub record IsArranged (base : ℕ) (built arranged : Arranged) : Type 0 where
  pub move : ℕ → ℕ
  pub fixed : (k : ℕ) → k < base → move k ≡ k
  pub within : (k : ℕ) → base ≤ k → k < base + length built.ops → (base ≤ move k)
      × (move k < base + length arranged.ops)
  pub few : length arranged.ops ≤ length built.ops
  pub ordered : IsOrdered base arranged.ops
  pub settled : (values : ℕ → ℕ) → IsSettled base arranged.ops values
      → IsSettled base built.ops (λ place. values (move place))
  pub slots_are : arranged.slots.items ≡ map move built.slots.items
  pub captures_are : arranged.captures.items ≡ map (moved_capture move) built.captures.items
