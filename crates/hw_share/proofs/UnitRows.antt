-- What chains, multipliers and registers give together.
use Rattle.std.proofs.Common.{◌≡◌, ℕ, ◌+◌, ◌*◌, ◌<◌, ◌≤◌, ◌||◌, inl, inr, true, List, length, All, Option, Some, None, slice_get, slice_index_or, pos, ◌*ℤ◌, ap, sym, ◌∙◌, subst}
use Rattle.std.proofs.Common.{arith, refl, true≢false}
use Rattle.std.proofs.lemmas.Bool.{cases_lt}
use Rattle.std.proofs.lemmas.Option.{slice_get_within, get_or_from_slice_get, slice_get-get_or}
use Rattle.std.proofs.Math.Nat.{mul-le-mul}
use Rattle.hw_net.specs.declared.netlist.NetKind.{NetKind}
use Rattle.hw_net.specs.declared.netlist.NetKind.TheVariants.{Comb, Reg, EnReg, Acc, Bridge, Unit, Counter}
use Rattle.hw_net.specs.Circuit.{Circuit}
use Rattle.hw_net.specs.Closed.{RegisterIsClosed, RegShows, frame_start}
use Rattle.hw_net.specs.Registers.{Wave, Span, IsReg}
use Rattle.hw_net.specs.Netlist.{HasWord}
use Rattle.hw_net.specs.NetRows.{span_of}
use Rattle.hw_net.specs.Growing.{Extends, InRows}
use Rattle.hw_net.proofs.Clocks.{takes-at}
use Rattle.hw_net.proofs.Growth.{longer, still-there, stood-there, extends-trans, in-rows-first, in-rows-last, in-rows-both}
use Rattle.hw_share.specs.declared.operation.Operation.{Operation}
use Rattle.hw_share.specs.declared.joining.Ends.{Ends}
use Rattle.hw_share.specs.Operations.{IsOperation, CanShare, operands_of, unit_count}
use Rattle.hw_share.specs.Serving.{Serves}
use Rattle.hw_share.specs.Shared.{IsServed, IsPart, IsFrameOf, AreUnits, AreShared, SharesUnits, is_unit}
use Rattle.hw_lines.specs.Register.{IsHeld}
use Rattle.hw_share.specs.inner.Parts.{IsNamed, Grows, IsChoosing, IsMultiplying, IsKeeping}
use Rattle.hw_share.specs.inner.ChainEnds.{Offers, AreEnds, ends_at}
use Rattle.hw_share.specs.inner.Steps.{Multiplies, IsMultiplier, AreMultipliers, AreResults, CanKeep, reads_of}
use Rattle.hw_share.proofs.Growth.{grows-then, grows-wider}
use Rattle.hw_share.proofs.OperationLists.{unit-below}
use Rattle.hw_share.proofs.Ready.{ends-of-unit}
use Rattle.hw_share.proofs.Multipliers.{all-reads}

-- what a multiplier is offered, its product, and the register that keeps that
serves-of : RegisterIsClosed → (n : ℕ) (span : Span) (slot : ℕ) (left right first second unit result : Wave) → slot < span.length
    → Offers n span slot left right first second → Multiplies n first second unit → IsReg n span slot (pos 0) unit result → Serves n span slot left right first second result
serves-of closed n span slot left right first second unit result inside offers multiplies reg =
    let shows : RegShows n span slot (pos 0) unit result = closed n span slot (pos 0) unit result inside reg in
    record {
      has_left = record { holds = λ k h. offers.left_is (frame_start span k + slot) h (takes-at span slot k inside) };
      has_right = record { holds = λ k h. offers.right_is (frame_start span k + slot) h (takes-at span slot k inside) };
      has_product = record {
        holds = λ k c h low high.
            let a : ℕ = frame_start span k + slot in
            let before : frame_start span k + slot < n = omega arith in
            let first_is = offers.left_is (frame_start span k + slot) before (takes-at span slot k inside) in
            let second_is = offers.right_is (frame_start span k + slot) before (takes-at span slot k inside) in
            shows.taken k c h low (omega arith) ∙ multiplies.at (frame_start span k + slot) before
            ∙ (λ j. first_is j *ℤ second_is j);
      };
    }

module _ (closed : RegisterIsClosed) (a b c d : Circuit) (operations : List Operation) (ends : List (Option Ends)) (numbers results : List ℕ) (can : CanShare a operations)
    (are : AreEnds a b operations ends (length operations)) (made : AreMultipliers b c ends numbers (length ends)) (kept : AreResults c d operations numbers results (length operations)) where
  ab : Extends a b
  ab = are.grown.appends.extends

  bc : Extends b c
  bc = made.grown.appends.extends

  cd : Extends c d
  cd = kept.grown.appends.extends

  abbrev first : ℕ
  first = length b.nets

  module _ (k : ℕ) (one : Operation) (result : ℕ) (at : slice_get operations k ≡ Some one) (there : slice_get results k ≡ Some result) where
    abbrev own : Ends
    own = (ends-of-unit a b operations ends can are k one at).0

    known : ends_at ends one.unit ≡ Some own
    known = (ends-of-unit a b operations ends can are k one at).1

    inside : one.unit < length ends
    inside = omega (arith, unit-below operations k one at, are.size)

    number-is : slice_index_or numbers one.unit 0 ≡ length b.nets + one.unit
    number-is = get_or_from_slice_get numbers one.unit (length b.nets + one.unit) 0 (made.placed one.unit inside)

    unit-is : IsMultiplier b c own (length b.nets + one.unit)
    unit-is = made.each one.unit own inside (slice_get-get_or ends one.unit None inside ∙ ap Some known)

    held : IsHeld c d (length b.nets + one.unit) one.frame one.slot (pos 0) result
    held = subst (λ (x : ℕ). IsHeld c d x one.frame one.slot (pos 0) result) number-is (kept.each k one result at there)

    product-shows : InRows a d (λ n rows. Multiplies n (rows own.left) (rows own.right)
        (rows (length b.nets + one.unit)) × IsReg n (span_of a.cycles one.frame) one.slot (pos 0)
        (rows (length b.nets + one.unit)) (rows result))
    product-shows = in-rows-both a d
        (λ n rows. Multiplies n (rows own.left) (rows own.right) (rows (length b.nets + one.unit)))
        (λ n rows. IsReg n (span_of a.cycles one.frame) one.slot (pos 0) (rows (length b.nets + one.unit)) (rows result))
        (λ n rows. Multiplies n (rows own.left) (rows own.right) (rows (length b.nets + one.unit))
        × IsReg n (span_of a.cycles one.frame) one.slot (pos 0) (rows (length b.nets + one.unit)) (rows result))
        (in-rows-first a c d (λ n rows. Multiplies n (rows own.left) (rows own.right) (rows (length b.nets + one.unit))) cd
        (in-rows-last a b c (λ n rows. Multiplies n (rows own.left) (rows own.right) (rows (length b.nets + one.unit))) ab unit-is.shows))
        (in-rows-last a c d (λ n rows. IsReg n (span_of a.cycles one.frame) one.slot (pos 0) (rows (length b.nets + one.unit)) (rows result)) (extends-trans a b c ab bc)
        (subst (λ (x : ℕ). InRows c d (λ n rows. IsReg n (span_of x one.frame) one.slot (pos 0) (rows (length b.nets + one.unit)) (rows result))) (bc.cycles ∙ ab.cycles) held.shows))
        (λ n rows p q. (p, q))

    pub served : IsServed a d one (length b.nets + one.unit) result
    served = record {
      left = own.left;
      right = own.right;
      multiplies = record { net = unit-is.unit.net; is = still-there c d (length b.nets + one.unit) unit-is.unit.net cd unit-is.unit.is; multiplies = unit-is.unit.multiplies };
      serves = in-rows-both a d
          (λ n rows. Offers n (span_of a.cycles one.frame) one.slot (rows one.left) (rows one.right) (rows own.left) (rows own.right))
          (λ n rows. Multiplies n (rows own.left) (rows own.right) (rows (length b.nets + one.unit))
          × IsReg n (span_of a.cycles one.frame) one.slot (pos 0) (rows (length b.nets + one.unit))
          (rows result))
          (λ n rows. Serves n (span_of a.cycles one.frame) one.slot (rows one.left) (rows one.right) (rows own.left) (rows own.right) (rows result))
          (in-rows-first a b d (λ n rows. Offers n (span_of a.cycles one.frame) one.slot (rows one.left) (rows one.right) (rows own.left) (rows own.right)) (extends-trans b c d bc cd)
          (are.offered k one own (slice_get_within operations k one at) at known))
          product-shows
          (λ n rows offers shows. serves-of closed n (span_of a.cycles one.frame) one.slot (rows one.left)
          (rows one.right) (rows own.left) (rows own.right) (rows (length b.nets + one.unit)) (rows result)
          (can.each k one at).inside offers shows.0 shows.1);
      word = λ net other p q.
          let left : HasWord b.nets own.left net.width net.signed = are.left_word k one own at known net p in
          let right : HasWord b.nets own.right other.width other.signed = are.right_word k one own at known other q in
          let unit : HasWord c.nets (length b.nets + one.unit) (left.net.width + right.net.width) (left.net.signed || right.net.signed) = unit-is.word left.net right.net left.is right.is in
          let last : HasWord d.nets result unit.net.width unit.net.signed = held.word unit.net unit.is in
          let wide_left : left.net.width ≡ net.width = left.wide in
          let wide_right : right.net.width ≡ other.width = right.wide in
          let sign_left : left.net.signed ≡ net.signed = left.sign in
          let sign_right : right.net.signed ≡ other.signed = right.sign in
          record {
            net = last.net;
            is = last.is;
            wide = last.wide ∙ unit.wide ∙ (λ j. wide_left j + wide_right j);
            sign = last.sign ∙ unit.sign ∙ (λ j. sign_left j || sign_right j);
          };
      holds = record {
        frame = held.new.frame;
        slot = held.new.slot;
        first = held.new.first;
        from = held.new.from;
        net = held.new.net;
        is = held.new.is;
        holds = held.new.holds;
        new = omega (arith, held.new.new, longer a b ab, longer b c bc);
      };
    }

  choosing-part : (kind : NetKind) → IsChoosing (IsFrameOf operations) kind → IsPart (IsFrameOf operations) kind
  choosing-part (Comb op args) is = is
  choosing-part (Reg frame slot from to) is = tt
  choosing-part (EnReg frame enable reset from to) is = is
  choosing-part (Acc frame enable to) is = is
  choosing-part (Bridge frame live from) is = is
  choosing-part (Unit left right) is = tt
  choosing-part (Counter frame) is = is

  multiplying-part : (kind : NetKind) → IsMultiplying kind → IsPart (IsFrameOf operations) kind
  multiplying-part (Comb op args) is = absurd is
  multiplying-part (Reg frame slot from to) is = tt
  multiplying-part (EnReg frame enable reset from to) is = is
  multiplying-part (Acc frame enable to) is = is
  multiplying-part (Bridge frame live from) is = is
  multiplying-part (Unit left right) is = tt
  multiplying-part (Counter frame) is = absurd is

  keeping-part : (kind : NetKind) → IsKeeping (IsFrameOf operations) kind → IsPart (IsFrameOf operations) kind
  keeping-part (Comb op args) is = absurd is
  keeping-part (Reg frame slot from to) is = tt
  keeping-part (EnReg frame enable reset from to) is = is
  keeping-part (Acc frame enable to) is = is
  keeping-part (Bridge frame live from) is = is
  keeping-part (Unit left right) is = tt
  keeping-part (Counter frame) is = is

  -- all that was put in
  reads-known : All (IsNamed a b (operands_of operations)) (reads_of ends)
  reads-known = all-reads (IsNamed a b (operands_of operations)) ends (λ unit own there. are.named unit own (get_or_from_slice_get ends unit (Some own) None there))

  numbers-known : All (IsNamed a c (operands_of operations)) numbers
  numbers-known k d within =
      let less : k < length ends = omega (arith, within, made.size) in
      let is : slice_index_or numbers k d ≡ length b.nets + k = get_or_from_slice_get numbers k (length b.nets + k) d (made.placed k less) in
      rw is (inr (omega (arith, longer a b ab), omega (arith, made.long)))

  whole : Grows a d (operands_of operations) (IsPart (IsFrameOf operations)) (0 + 0 + length operations)
  whole =
      grows-then a c d (operands_of operations) numbers (IsPart (IsFrameOf operations)) (IsKeeping (IsFrameOf operations)) (0 + 0) (length operations) numbers-known keeping-part
      (grows-then a b c (operands_of operations) (reads_of ends) (IsPart (IsFrameOf operations)) IsMultiplying 0 0 reads-known multiplying-part
      (grows-wider a b (operands_of operations) (IsChoosing (IsFrameOf operations)) (IsPart (IsFrameOf operations)) 0 choosing-part are.grown) made.grown)
      kept.grown

  not-choosing : (kind : NetKind) → IsChoosing (IsFrameOf operations) kind → is_unit kind ≡ true → ⊥
  not-choosing (Unit left right) is e = absurd is
  not-choosing _ is e = true≢false (sym e)

  not-keeping : (kind : NetKind) → IsKeeping (IsFrameOf operations) kind → is_unit kind ≡ true → ⊥
  not-keeping (Unit left right) is e = absurd is
  not-keeping _ is e = true≢false (sym e)

  is-multiplying : (kind : NetKind) → IsMultiplying kind → is_unit kind ≡ true
  is-multiplying (Comb op args) is = absurd is
  is-multiplying (Reg frame slot from to) is = absurd is
  is-multiplying (EnReg frame enable reset from to) is = absurd is
  is-multiplying (Acc frame enable to) is = absurd is
  is-multiplying (Bridge frame live from) is = absurd is
  is-multiplying (Unit left right) is = refl
  is-multiplying (Counter frame) is = absurd is

  long : length c.nets ≡ length b.nets + unit_count operations
  long = made.long ∙ ap (λ (x : ℕ). length b.nets + x) are.size

  units-are : AreUnits a d (length b.nets) (unit_count operations)
  units-are = record {
    new = longer a b ab;
    room = omega (arith, long, longer c d cd);
    are = λ k net past there. (
      λ is. elim (cases_lt k (length b.nets)) [
        | inl early ↦ absurd (not-choosing net.kind (are.grown.parts k net past (stood-there b c k net bc early (stood-there c d k net cd (omega (arith, early, longer b c bc)) there))) is)
        | inr begun ↦ elim (cases_lt k (length c.nets)) [
          | inl within ↦ (begun, omega (arith, long, within))
          | inr beyond ↦ absurd (not-keeping net.kind (kept.grown.parts k net beyond there) is)
        ]
      ],
      λ within. is-multiplying net.kind (made.grown.parts k net within.0 (stood-there c d k net cd (omega (arith, long, within.1)) there)),
    );
  }

  shares : AreShared a d operations results
  shares = record {
    first = length b.nets;
    count = kept.size;
    served = λ k one result at there. served k one result at there;
    appends = whole.appends;
    parts = whole.parts;
    units = units-are;
    registers = omega (arith, whole.registers);
  }

  pub all-shared : SharesUnits a d operations (record { numbers = numbers; results = results })
  unfolding shares
  all-shared = record {
    owed = shares;
    numbers = λ unit below. made.placed unit (omega (arith, below, are.size));
  }

-- the registers can be put behind the multipliers
pub can-keep : (a b c : Circuit) (operations : List Operation) (ends : List (Option Ends)) (numbers : List ℕ)
    → a.cycles ≤ 1024 → CanShare a operations → AreEnds a b operations ends (length operations)
    → AreMultipliers b c ends numbers (length ends) → CanKeep c operations numbers
can-keep a b c operations ends numbers high can are made = record {
  inside = λ k one at. omega (arith, unit-below operations k one at, are.size, made.size);
  there = λ k one at.
      let inside : one.unit < length ends = omega (arith, unit-below operations k one at, are.size) in
      let of_unit = ends-of-unit a b operations ends can are k one at in
      let own : Ends = of_unit.0 in
      let is : IsOperation a one = can.each k one at in
      let unit : IsMultiplier b c of_unit.0 (length b.nets + one.unit) = made.each one.unit of_unit.0 inside (slice_get-get_or ends one.unit None inside ∙ ap Some of_unit.1) in
      let left : HasWord b.nets own.left is.left.width is.left.signed = are.left_word k one of_unit.0 at of_unit.1 is.left is.left_is in
      let right : HasWord b.nets own.right is.right.width is.right.signed = are.right_word k one of_unit.0 at of_unit.1 is.right is.right_is in
      let word : HasWord c.nets (length b.nets + one.unit) (left.net.width + right.net.width) (left.net.signed || right.net.signed) = unit.word left.net right.net left.is right.is in
      let number : slice_index_or numbers one.unit 0 ≡ length b.nets + one.unit = get_or_from_slice_get numbers one.unit (length b.nets + one.unit) 0 (made.placed one.unit inside) in
      rw number (record { net = word.net; is = word.is; word = rw (word.wide, word.sign, left.wide, left.sign, right.wide, right.sign) is.product });
  some = λ k one at. (can.each k one at).some;
  low = λ k one at.
      let is : IsOperation a one = can.each k one at in
      let most : one.frame.period * a.cycles ≤ 4096 * 1024 = mul-le is.most high in
      omega (arith, is.inside, most);
}
  where
    mul-le : {p q m n : ℕ} → p ≤ m → q ≤ n → p * q ≤ m * n
    mul-le {p} {q} {m} {n} h k = mul-le-mul h k
