-- What the step of shared multipliers leaves is what it owes.
use Rattle.std.proofs.Common.{◌≡◌, ℕ, zero, suc, ◌+◌, ◌≤◌, inl, inr, ◌⊎◌, ℤ, false, List, [], ◌∷◌, ◌++◌, length, Some, ap, sym, ◌∙◌, subst, refl, arith}
use Rattle.std.specs.Prelude.{slice_get, nat_lt}
use Rattle.std.specs.List.{flat_map}
use Rattle.std.proofs.lemmas.Bool.{cases_lt, cases_Bool, cond-false, le-ltb}
use Rattle.std.proofs.lemmas.Option.{none-some, same_Some, get_or_from_slice_get}
use Rattle.hw_net.specs.declared.netlist.Frame.{Frame}
use Rattle.hw_net.specs.declared.netlist.Net.{Net}
use Rattle.hw_net.specs.declared.netlist.NetKind.{NetKind}
use Rattle.hw_net.specs.declared.netlist.NetKind.TheVariants.{Comb, Reg, EnReg, Acc, Bridge, Unit, Counter}
use Rattle.hw_net.specs.declared.netlist.NetOp.{NetOp}
use Rattle.hw_net.specs.declared.netlist.NetOp.TheVariants.{Const, Multiply}
use Rattle.hw_net.specs.Circuit.{Circuit}
use Rattle.hw_net.specs.Frames.{counted_frame, IsCounterAt}
use Rattle.hw_net.specs.Growing.{Extends}
use Rattle.hw_net.specs.Netlist.{reads_now}
use Rattle.hw_net.proofs.Growth.{stood-there}
use Rattle.hw_share.specs.declared.operation.Operation.{Operation as Asked}
use Rattle.hw_share.specs.Operations.{operands_of, unit_count}
use Rattle.hw_share.specs.Shared.{IsChoosingOp, IsPart, IsFrameOf, AreShared, is_unit}
use Rattle.hw_build.specs.Serving.{unit_factors, op_factors, own_factors, others}
use Rattle.hw_build.specs.inner.Factors.{AddsConstants}
use Rattle.hw_build.specs.inner.Levels.{level_behind, level_of, net_at}
use Rattle.hw_build.specs.inner.MultiplierStep.{HasNoUnits}
use Rattle.math_list.proofs.Places.{get_right}
use Rattle.hw_build.proofs.UnitCalls.{no_factors}

-- ---- kinds of nets

constant_factors : (kind : NetKind) → ((value : ℤ) × (kind ≡ Comb (Const value) [])) → unit_factors kind ≡ []
constant_factors kind is = ap unit_factors is.1

no_unit : (kind : NetKind) → unit_factors kind ≡ [] → is_unit kind ≡ false
no_unit (Comb op args) e = refl
no_unit (Reg frame slot first from) e = refl
no_unit (EnReg frame enable reset first from) e = refl
no_unit (Acc frame enable from) e = refl
no_unit (Bridge frame live from) e = refl
no_unit (Unit left right) e = absurd (one_some (ap length e))
  where
    one_some : ◌≡◌ {A = ℕ} 1 0 → ⊥
    one_some e = omega (arith, e)
no_unit (Counter frame) e = refl

choosing_factors : (op : NetOp) (args : List ℕ) → IsChoosingOp op → op_factors args op ≡ []
choosing_factors Multiply args is = absurd is
choosing_factors _ args is = refl

part_factors : (frames : Frame → Type 0) (kind : NetKind) → IsPart frames kind → own_factors kind ≡ []
part_factors frames (Comb op args) is = choosing_factors op args is
part_factors frames (Reg frame slot first from) is = refl
part_factors frames (EnReg frame enable reset first from) is = refl
part_factors frames (Acc frame enable from) is = refl
part_factors frames (Bridge frame live from) is = refl
part_factors frames (Unit left right) is = refl
part_factors frames (Counter frame) is = refl

part_frame : (frames : Frame → Type 0) (kind : NetKind) (frame : Frame) → IsPart frames kind → counted_frame kind ≡ Some frame → frames frame
part_frame frames (Comb op args) frame is e = absurd (none-some frame e)
part_frame frames (Reg other slot first from) frame is e = absurd (none-some frame e)
part_frame frames (EnReg other enable reset first from) frame is e = absurd (none-some frame e)
part_frame frames (Acc other enable from) frame is e = absurd (none-some frame e)
part_frame frames (Bridge other live from) frame is e = absurd (none-some frame e)
part_frame frames (Unit left right) frame is e = absurd (none-some frame e)
part_frame frames (Counter other) frame is e = subst frames (same_Some other frame e) is

-- ---- lists of what nets have

module _ {B : Type 0} (f : NetKind → List B) where
  none_listed : (xs ys : List Net) → ((k : ℕ) (net : Net) → slice_get ys k ≡ Some net → f net.kind ≡ []) → flat_map (λ (net : Net). f net.kind) (xs ++ ys) ≡ flat_map (λ (net : Net). f net.kind) xs
  none_listed [] ys none = all_none ys none
    where
      all_none : (zs : List Net) → ((k : ℕ) (net : Net) → slice_get zs k ≡ Some net → f net.kind ≡ []) → flat_map (λ (net : Net). f net.kind) zs ≡ []
      all_none [] each = refl
      all_none (z ∷ zs) each = ap (λ (bs : List B). bs ++ flat_map (λ (net : Net). f net.kind) zs) (each 0 z refl) ∙ all_none zs (λ k net at. each (suc k) net at)
  none_listed (x ∷ xs) ys none = ap (λ (bs : List B). f x.kind ++ bs) (none_listed xs ys none)

  -- nets that have none leave the list as it is
  pub same_listed : (a b : Circuit) → Extends a b
      → ((k : ℕ) (net : Net) → length a.nets ≤ k → slice_get b.nets k ≡ Some net → f net.kind ≡ [])
      → flat_map (λ (net : Net). f net.kind) b.nets ≡ flat_map (λ (net : Net). f net.kind) a.nets
  same_listed a b grown none =
      ap (flat_map (λ (net : Net). f net.kind)) grown.nets
      ∙ none_listed a.nets grown.added (λ k net at. none (length a.nets + k) net (omega arith)
      (ap (λ (xs : List Net). slice_get xs (length a.nets + k)) grown.nets ∙ get_right a.nets grown.added k
      ∙ at))

-- ---- what was put in

module _ (before mid after : Circuit) (operations : List Asked) (results : List ℕ) (constants : AddsConstants before mid) (shared : AreShared mid after operations results) where
  pub no_units_mid : HasNoUnits before → (k : ℕ) (net : Net) → slice_get mid.nets k ≡ Some net → is_unit net.kind ≡ false
  no_units_mid none k net at = elim (cases_lt k (length before.nets)) [
    | inl inside ↦ no_unit net.kind (none k net (stood-there before mid k net constants.appends.extends inside at))
    | inr past ↦ no_unit net.kind (constant_factors net.kind (constants.each k net past at))
  ]

  -- no product of its own
  pub same_others : length (others after) ≡ length (others before)
  same_others =
      ap length (same_listed own_factors mid after shared.appends.extends (λ k net past at. part_factors (IsFrameOf operations) net.kind (shared.parts k net past at)))
      ∙ ap length (same_listed own_factors before mid constants.appends.extends (λ k net past at. ap own_factors (constants.each k net past at).1))

  -- no multiplier but the Unit nets
  pub none_behind : (k : ℕ) (net : Net) → length mid.nets ≤ k → shared.first + unit_count operations ≤ k → slice_get after.nets k ≡ Some net → unit_factors net.kind ≡ []
  none_behind k net past behind at = elim (cases_Bool (is_unit net.kind)) [
    | inl unit ↦ let high = ((shared.units.are k net past at).0 unit).1 in absurd (omega (arith, behind, high))
    | inr other ↦ no_factors net.kind other
  ]

  -- Counters of the operations' frames
  pub counter_frame : (k : ℕ) (frame : Frame) → length before.nets ≤ k → IsCounterAt after.nets k frame → IsFrameOf operations frame
  counter_frame k frame past counter = elim (cases_lt k (length mid.nets)) [
    | inl inside ↦
        let constant = constants.each k counter.net past (stood-there mid after k counter.net shared.appends.extends inside counter.is) in
        absurd (none-some frame (ap counted_frame (sym constant.1) ∙ counter.counts))
    | inr more ↦ part_frame (IsFrameOf operations) counter.net.kind frame (shared.parts k counter.net more counter.is) counter.counts
  ]

-- a net that was put in and reads nothing in its clock stands below all
pub quiet_low : (before after : Circuit) (level : ℕ → ℕ) (own number : ℕ) (net : Net)
    → slice_get after.nets number ≡ Some net → length before.nets ≤ number → reads_now net.kind ≡ []
    → level_behind before after level own number ≡ 0
quiet_low before after level own number net at new quiet =
    cond-false {A = ℕ} (nat_lt number (length before.nets)) (level number) (level_of own (reads_now (net_at after.nets number).kind)) (le-ltb number (length before.nets) new)
    ∙ ap (λ (n : Net). level_of own (reads_now n.kind)) (get_or_from_slice_get after.nets number net _ at)
    ∙ ap (level_of own) quiet

-- what is named of operations is an operand
pub operand_of : (operations : List Asked) (place read : ℕ) → slice_get (operands_of operations) place ≡ Some read
    → (k : ℕ) × (one : Asked) × (slice_get operations k ≡ Some one) × ((read ≡ one.left) ⊎ (read ≡ one.right))
operand_of [] place read at = absurd (none-some read at)
operand_of (one ∷ operations) zero read at = (0, one, refl, inl (sym (same_Some one.left read at)))
operand_of (one ∷ operations) (suc zero) read at = (0, one, refl, inr (sym (same_Some one.right read at)))
operand_of (one ∷ operations) (suc (suc place)) read at =
    let rest = operand_of operations place read at in
    (suc rest.0, rest.1, rest.2, rest.3)
