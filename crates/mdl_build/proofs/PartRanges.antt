-- Gates have as many inputs as they may, and Mux and Demux as many parts.
use Rattle.std.proofs.Common.{◌≡◌, ℕ, zero, suc, ◌≤◌, Bool, true, false, cond, List, [], ◌∷◌, length, replicate, Option, Some, None, refl, sym, ◌∙◌, ap, subst, inl, inr, arith}
use Rattle.std.specs.Prelude.{◌⊎◌, MatchBool, codes, bytes_eq, All}
use Rattle.std.specs.List.{AllZip}
use Rattle.std.proofs.lemmas.List.{length-replicate}
use Rattle.std.proofs.lemmas.List.Elements.{All-replicate}
use Rattle.std.proofs.lemmas.Slice.Eq.{bytes_eq-Decides}
use Rattle.dg_model.specs.KindRow.{IsBetween, Only, HasOperands, HasParts}
use Rattle.dg_model.specs.declared.kind.Gate.{Gate}
use Rattle.dg_model.specs.declared.kind.Gate.TheVariants.{And, Or, Nand, Nor, Xor, Nxor, Not}
use Rattle.mdl_values.specs.Numbers.{IsNumberText}
use Rattle.mdl_values.specs.Words.{gate_of}
use Rattle.mdl_build.specs.Parts.{open_sizes}
use Rattle.mdl_build.specs.Settings.{IsOperands, IsPartsText}

-- ---- gates

some_gate : (a b : Gate) → ◌≡◌ {A = Option Gate} (Some a) (Some b) → a ≡ b
some_gate a b e = cc

-- one of two gates, where both may have so many inputs
of_two : (number : ℕ) (b : Bool) (one : Gate) (other : Option Gate) → HasOperands one number
    → ((gate : Gate) → other ≡ Some gate → HasOperands gate number) → (gate : Gate)
    → cond b (Some one) other ≡ Some gate → HasOperands gate number
of_two number true one other has rest gate e = subst (λ (g : Gate). HasOperands g number) (some_gate one gate e) has
of_two number false one other has rest gate e = rest gate e

-- the last of them is none where its test fails
of_none : (number : ℕ) (b : Bool) → b ≡ false → (gate : Gate) → cond b (Some Not) None ≡ Some gate → HasOperands gate number
of_none number true e gate found = let bad : true ≡ false = e in absurd (cc)
of_none number false e gate found = let bad : ◌≡◌ {A = Option Gate} None (Some gate) = found in absurd (cc)

-- a gate but NOT has 2 to 32 inputs, and NOT one
pub operands_are : (text counted : List ℕ) (gate : Gate) (number : ℕ) → gate_of text ≡ Some gate → IsOperands text counted number → HasOperands gate number
operands_are text counted gate number read operands = by_word (bytes_eq text (codes "NOT")) refl operands
  where
    by_word : (b : Bool) → bytes_eq text (codes "NOT") ≡ b → MatchBool b (number ≡ 1) (IsNumberText 2 32 counted number) → HasOperands gate number
    by_word true e one =
        let word : text ≡ codes "NOT" = (bytes_eq-Decides text (codes "NOT")).0 e in
        let is_not : gate_of (codes "NOT") ≡ Some gate = ap gate_of (sym word) ∙ read in
        subst (λ (g : Gate). HasOperands g number) (some_gate Not gate is_not) one
    by_word false e many =
        let range : IsBetween 2 32 number = many.in_range in
        of_two number (bytes_eq text (codes "AND")) And _ range
        (of_two number (bytes_eq text (codes "OR")) Or _ range
        (of_two number (bytes_eq text (codes "NAND")) Nand _ range
        (of_two number (bytes_eq text (codes "NOR")) Nor _ range
        (of_two number (bytes_eq text (codes "XOR")) Xor _ range
        (of_two number (bytes_eq text (codes "NXOR")) Nxor _ range
        (of_none number (bytes_eq text (codes "NOT")) e)))))) gate read

-- ---- parts

-- sizes that are read are from 1 to 1024
each_size : (texts : List (List ℕ)) (sizes : List ℕ) → AllZip (IsNumberText 1 1024) texts sizes → All (IsBetween 1 1024) sizes
each_size [] [] read k d below = absurd (omega arith)
each_size [] (y ∷ ys) read k d below = absurd read
each_size (x ∷ xs) [] read k d below = absurd read
each_size (x ∷ xs) (y ∷ ys) read zero d below = read.0.in_range
each_size (x ∷ xs) (y ∷ ys) read (suc k) d below = each_size xs ys read.1 k d (omega arith)

has_parts : (sizes : List ℕ) (count : ℕ) → 1 ≤ length sizes → count ≡ length sizes → HasParts sizes count
has_parts [] count some is = absurd (omega arith)
has_parts (size ∷ sizes) count some is = is

pub mux_parts : (text : List ℕ) (count : ℕ) (sizes : List ℕ) → IsPartsText text count sizes → HasParts sizes count × IsBetween 0 1024 (length sizes) × All (IsBetween 1 1024) sizes
mux_parts text count sizes read = elim read [
  | inl number ↦ let none = number.1 in rw none (number.0.in_range, (omega arith, omega arith), λ k d below. absurd (omega arith))
  | inr list ↦ (has_parts sizes count list.0.size.0 list.1, (omega arith, list.0.size.1), each_size list.0.texts sizes list.0.read)
]

-- sizes that are there stay
open_some : (sizes : List ℕ) (count : ℕ) → 1 ≤ length sizes → open_sizes count sizes ≡ sizes
open_some [] count some = absurd (omega arith)
open_some (size ∷ sizes) count some = refl

pub demux_parts : (text : List ℕ) (count : ℕ) (sizes : List ℕ) → IsPartsText text count sizes
    → (count ≡ length (open_sizes count sizes)) × IsBetween 1 1024 (length (open_sizes count sizes))
    × (All (IsBetween 1 1024) (open_sizes count sizes) ⊎ All (Only 0) (open_sizes count sizes))
demux_parts text count sizes read = elim read [
  | inl number ↦
      let none = number.1 in
      let zero_number : ℕ = 0 in
      let long : length (replicate count zero_number) ≡ count = length-replicate count zero_number in
      let zeros : All (Only zero_number) (replicate count zero_number) = All-replicate (Only zero_number) count zero_number refl in
      rw none (sym long, (rw long (number.0.in_range.0), rw long (number.0.in_range.1)), inr zeros)
  | inr list ↦ let same = open_some sizes count list.0.size.0 in rw same (list.1, list.0.size, inl (each_size list.0.texts sizes list.0.read))
]
