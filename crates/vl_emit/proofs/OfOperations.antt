-- The expression of each operation has the bits of its number.
use Rattle.std.proofs.Common.{max, ◌≡◌, ℕ, ◌+◌, ◌-◌, ◌*◌, ◌/◌, ◌%◌, ◌^◌, ◌<◌, ◌≤◌, ◌==◌, nat_le, nat_lt, Bool, true, false, not, if◌then◌else◌, List, [], ◌∷◌, ℤ, pos, negsuc, ◌*ℤ◌, int_lt, ap, sym}
use Rattle.std.proofs.Common.{◌∙◌, subst, refl, arith, pow_pos, pow_mono, mul_assoc}
use Rattle.std.proofs.lemmas.Int.{ints}
use Rattle.std.proofs.lemmas.Bool.{or_parts, cond_both, eqb-true, eqb-false, leb-true, leb-false, ltb-false}
use Rattle.std.proofs.lemmas.Bool.Decides.{Decides-int_eq}
use Rattle.std.proofs.lemmas.Nat.{pow-add, shr_high}
use Rattle.std.proofs.Math.Nat.{mod-eq_of_lt, div-eq_of_lt, mul-mod_left}
use Rattle.vl_ast.specs.declared.expressions.ShiftOp.TheVariants.{Left}
use Rattle.std.specs.Ordering.{int_eq}
use Rattle.math_num.specs.Word.{InWord, IsWord}
use Rattle.math_num.proofs.Arithmetic.{double}
use Rattle.vl_ast.specs.declared.expressions.BinOp.TheVariants as binary
use Rattle.vl_ast.specs.declared.expressions.Expr.{Expr}
use Rattle.vl_ast.specs.declared.expressions.Expr.TheVariants as expression
use Rattle.vl_ast.specs.Context.{Net}
use Rattle.vl_ast.specs.Value.{number_of, truth}
use Rattle.vl_ast.specs.Value.{bits_of}
use Rattle.hw_net.specs.declared.netlist.NetOp.{NetOp}
use Rattle.hw_net.specs.declared.netlist.NetOp.TheVariants.{Input, Const, Resize, ShiftUp, ShiftDown, Add, Subtract, Negate, Multiply, And, Or, Xor, Not, Less, Equal, Choose, Slice}
use Rattle.hw_net.specs.Operation.{Operands, arity, given_by}
use Rattle.math_num.specs.Bits.{shifted_down, low_bits, truth as truth_number}
use Rattle.vl_emit.specs.inner.Spoken.{IsWithin}
use Rattle.vl_emit.specs.Names.{Wire}
use Rattle.vl_emit.specs.inner.Pieces.{zeros, piece, at_width}
use Rattle.vl_emit.specs.inner.Operators.{widened, signed_width, by_sign, compared, common_width, test_of, in_width, slice_at, expression_of}
use Rattle.vl_emit.specs.inner.AtWidth.{IsWritten, Shows}
use Rattle.vl_emit.proofs.Bitwise.{low-bits, and-written, or-written, xor-written, invert-written}
use Rattle.vl_ast.proofs.Forms.{by_itself}
use Rattle.math_num.proofs.Words.{size-below, size-half, size_of}
use Rattle.vl_emit.proofs.AtWidth.{piece-plain, as-name, split-bits, zeros-written, beside-written, piece-written, operand-written, alone-written, cut-bits}
use Rattle.vl_emit.proofs.Operations.{shift-bits, number-back, less_plain-written, add-written, subtract-written, negate-written, shift-written, literal-written, choose-written, equal-written}
use Rattle.vl_emit.proofs.Operations.{not_equal-written, less-written, same-bits}
use Rattle.vl_ast.proofs.SomeInputs.{bits-fit}

pub truth-number : (t : Bool) → pos (truth t) ≡ truth_number t
truth-number true = refl
truth-number false = refl

-- the width at which a net's numbers have a sign bit
pub fits-signed : (signed : Bool) (width : ℕ) (z : ℤ) → IsWord width signed → InWord width signed z
    → (1 ≤ (if signed then width else width + 1)) × (size_of z < 2 ^ ((if signed then width else width + 1) - 1))
fits-signed true width z w r = (omega (arith, w.0), size-half width z r)
fits-signed false width z w r =
    let e : width + 1 - 1 ≡ width = omega arith in
    (omega arith, rw e (size-below width false z w r))

-- the bits between two places
slice-low : (high low : ℕ) (z : ℤ) → low ≤ high → low_bits (high + 1) z / 2 ^ low ≡ bits_of (high + 1 - low) (shifted_down z low)
slice-low high low z h =
    let e : high + 1 ≡ high + 1 - low + low = omega arith in
    ap (λ (n : ℕ). n / 2 ^ low) (low-bits (high + 1) z ∙ ap (λ (v : ℕ). bits_of v z) e ∙ split-bits (high + 1 - low) low z)
    ∙ shr_high (bits_of (high + 1 - low) (shifted_down z low)) low (bits_of low z) (bits-fit low z)

-- a shift of all places
all-out : (w k : ℕ) (z : ℤ) → w ≤ k → bits_of w (z *ℤ pos (2 ^ k)) ≡ 0
all-out w k z h =
    let e : k ≡ k - w + w = omega arith in
    let p : 2 ^ k ≡ 2 ^ (k - w) * 2 ^ w = ap (λ (i : ℕ). 2 ^ i) e ∙ pow-add 2 (k - w) w in
    let q : bits_of w z * 2 ^ k ≡ bits_of w z * 2 ^ (k - w) * 2 ^ w = ap (λ (i : ℕ). bits_of w z * i) p ∙ sym (mul_assoc (bits_of w z) (2 ^ (k - w)) (2 ^ w)) in
    sym (shift-bits w k z) ∙ ap (λ (n : ℕ). n % 2 ^ w) q ∙ mul-mod_left (bits_of w z * 2 ^ (k - w)) (2 ^ w)

turned : (t : Bool) (a b : ℤ) → (if t then b else a) ≡ (if not t then a else b)
turned true a b = refl
turned false a b = refl

-- a number without sign that is longer or shorter than its bits
low-of-field : (w n : ℕ) (y : ℤ) → w ≤ n → bits_of w y ≡ bits_of w (pos (bits_of n y))
low-of-field w n y h = sym (cut-bits w n y h)

pub width-at-least : (signed : Bool) (width : ℕ) → IsWord width signed → 1 ≤ width
width-at-least true width w = omega (arith, w.0)
width-at-least false width w = w.0

-- bits without sign give the number of a net without sign
pub plain-back : (signed : Bool) (v c : ℕ) (z : ℤ) → signed ≡ false → IsWord v signed → InWord v signed z → v ≤ c → number_of (record { width = c; signed = false; bits = bits_of c z }) ≡ z
plain-back true v c z e w r h = absurd (cc e)
plain-back false v c (pos n) e w r h =
    let small = size-below v false (pos n) w r in
    let p : 2 ^ v ≤ 2 ^ c = pow_mono h in
    ap pos (mod-eq_of_lt (omega (arith, small, p)))
plain-back false v c (negsuc n) e w r h = absurd (omega (arith, ints, r.low))

same-test : (n : ℕ) (z : ℤ) → (n ≡ 0 → z ≡ pos 0) → (z ≡ pos 0 → n ≡ 0) → (n == 0) ≡ int_eq z (pos 0)
same-test n z f g = by (n == 0) (int_eq z (pos 0)) refl refl where
  by : (x y : Bool) → (n == 0) ≡ x → int_eq z (pos 0) ≡ y → x ≡ y
  by true true e k = refl
  by false false e k = refl
  by false true e k = absurd (eqb-false n 0 e (g ((Decides-int_eq z (pos 0)).0 k)))
  by true false e k = let yes : int_eq z (pos 0) ≡ true = (Decides-int_eq z (pos 0)).1 (f (eqb-true n 0 e)) in sym yes ∙ k

-- a number of a word is 0 where its bits are
zero-bits : (signed : Bool) (width : ℕ) (z : ℤ) → IsWord width signed → InWord width signed z → (bits_of width z == 0) ≡ int_eq z (pos 0)
zero-bits signed width (pos n) w r =
    let e : n % 2 ^ width ≡ n = mod-eq_of_lt (size-below width signed (pos n) w r) in
    same-test (n % 2 ^ width) (pos n) (λ h. ap pos (sym e ∙ h)) (λ h. e ∙ omega (arith, ints, h))
zero-bits true width (negsuc n) w r =
    let half : n < 2 ^ (width - 1) = size-half width (negsuc n) r in
    let whole : n < 2 ^ width = size-below width true (negsuc n) w r in
    let e : n % 2 ^ width ≡ n = mod-eq_of_lt whole in
    let h : 2 ^ width ≡ 2 * 2 ^ (width - 1) = double width (omega (arith, w.0)) in
    same-test (2 ^ width - 1 - n % 2 ^ width) (negsuc n) (λ k. absurd (omega (arith, e, h, half, k))) (λ k. absurd (omega (arith, ints, k)))
zero-bits false width (negsuc n) w r = absurd (omega (arith, ints, r.low))

pub not-truth : (t : Bool) → (bits_of 1 (pos (truth (not t))) == 0) ≡ t
not-truth true = refl
not-truth false = refl

module _ (nets : List ℕ → Net) (row : List ℕ → ℕ) where
  abbrev Written : ℕ → ℤ → Expr → Type 0
  Written = IsWritten nets row

  pub renumbered : (w : ℕ) (a b : ℤ) (e : Expr) → bits_of w a ≡ bits_of w b → Written w a e → Written w b e
  renumbered w a b e same p = record { length = p.length; value = λ signed. p.value signed ∙ same }

  -- zeros before what is written without sign
  pub zeros-before : (w n m : ℕ) (e : Expr) → n < w → m < 2 ^ n → Written n (pos m) e → Written w (pos m) (expression.Concat (zeros (w - n) ∷ e ∷ []))
  zeros-before w n m e h k p =
      let all : w - n + n ≡ w = omega arith in
      let none : shifted_down (pos m) n ≡ pos 0 = ap pos (div-eq_of_lt k) in
      subst (λ (i : ℕ). Written i (pos m) (expression.Concat (zeros (w - n) ∷ e ∷ []))) all
      (beside-written nets row (w - n) n (pos m) (zeros (w - n)) e
      (subst (λ (z : ℤ). Written (w - n) z (zeros (w - n))) (sym none) (zeros-written nets row (w - n))) p)

  truth-below : (t : Bool) → truth t < 2 ^ 1
  truth-below true = omega arith
  truth-below false = omega arith

  pub widened-written : (w : ℕ) (t : Bool) (e : Expr) → 1 ≤ w → Written 1 (pos (truth t)) e → Written w (truth_number t) (widened w e)
  widened-written w t e h p =
      subst (λ (z : ℤ). Written w z (widened w e)) (truth-number t)
      (cond_both (w == 1) e (expression.Concat (zeros (w - 1) ∷ e ∷ [])) (Written w (pos (truth t)))
      (λ is. let one : w ≡ 1 = eqb-true w 1 is in rw one p)
      (λ is. let more : 1 < w = (let other = eqb-false w 1 is in omega (arith, other)) in zeros-before w 1 (truth t) e more (truth-below t) p))

  -- a test is 0 where the net is
  pub test-tells : (wire : Wire) (z : ℤ) → Shows nets row wire z → ((by_itself nets row (test_of wire)).bits == 0) ≡ int_eq z (pos 0)
  test-tells wire z s =
      let name : Expr = expression.Name wire.name in
      let zero_bits = zero-bits wire.signed wire.width z s.word s.in_word in
      let none : bits_of wire.width (pos 0) ≡ 0 = mod-eq_of_lt (pow_pos wire.width) in
      let e : Expr = expression.Binary binary.NotEqual name (zeros wire.width) in
      cond_both (wire.width == 1) name e (λ (test : Expr). ((by_itself nets row test).bits == 0) ≡ int_eq z (pos 0))
      (λ is. ap (λ (b : ℕ). b == 0) (alone-written nets row wire.width z name (as-name nets row wire z s)) ∙ zero_bits)
      (λ is.
      let p = not_equal-written nets row wire.width z (pos 0) name (zeros wire.width) (as-name nets row wire z s) (zeros-written nets row wire.width) in
      ap (λ (b : ℕ). b == 0) (alone-written nets row 1 (pos (truth (not (bits_of wire.width z == bits_of wire.width (pos 0))))) e p)
      ∙ not-truth (bits_of wire.width z == bits_of wire.width (pos 0)) ∙ ap (λ (b : ℕ). bits_of wire.width z == b) none ∙ zero_bits)

  pub slice-written : (wire : Wire) (z : ℤ) (w low count : ℕ) → 1 ≤ w → 1 ≤ count → Shows nets row wire z
      → Written w (pos (bits_of count (shifted_down z low))) (slice_at w wire low count)
  slice-written wire z w low count some h s =
      let y : ℤ = shifted_down z low in
      cond_both (nat_le w count) (piece wire low w) (expression.Concat (zeros (w - count) ∷ piece wire low count ∷ [])) (Written w (pos (bits_of count y)))
      (λ is. renumbered w y (pos (bits_of count y)) (piece wire low w) (low-of-field w count y (leb-true w count is)) (piece-written nets row low w wire z some s))
      (λ is. zeros-before w count (bits_of count y) (piece wire low count) (leb-false w count is) (bits-fit count y)
      (renumbered count y (pos (bits_of count y)) (piece wire low count) (low-of-field count count y (omega arith)) (piece-written nets row low count wire z h s)))

  module _ (ports : ℕ → Wire) (given : ℕ → ℤ) (a : ℕ → Wire) (z : ℕ → ℤ) (w : ℕ) (some : 1 ≤ w) (most : w ≤ 128) where
    abbrev Known : ℕ → Type 0
    Known j = Shows nets row (a j) (z j)

    at : (j : ℕ) → Known j → Written w (z j) (at_width w (a j))
    at j s = operand-written nets row w (a j) (z j) some s

    abbrev pub operands : Operands
    operands = record { first = z 0; second = z 1; third = z 2 }

    module _ (s : Known 0) (t : Known 1) where
      abbrev long : ℕ
      long = max (signed_width (a 0)) (signed_width (a 1))

      abbrev short : ℕ
      short = max (a 0).width (a 1).width

      fit : (i : ℕ) → Known i → signed_width (a i) ≤ long → (1 ≤ long) × (size_of (z i) < 2 ^ (long - 1))
      fit i known most =
          let f = fits-signed (a i).signed (a i).width (z i) known.word known.in_word in
          let k : signed_width (a i) - 1 ≤ long - 1 = omega (arith, most) in
          let p : 2 ^ (signed_width (a i) - 1) ≤ 2 ^ (long - 1) = pow_mono k in
          (omega (arith, f.0, most), omega (arith, f.1, p))

      fit0 : (1 ≤ long) × (size_of (z 0) < 2 ^ (long - 1))
      fit0 = fit 0 s (omega arith)

      fit1 : (1 ≤ long) × (size_of (z 1) < 2 ^ (long - 1))
      fit1 = fit 1 t (omega arith)

      some-short : 1 ≤ short
      some-short = let e = width-at-least (a 0).signed (a 0).width s.word in omega (arith, e)

      -- where neither is signed
      module _ (plain : by_sign (a 0) (a 1) ≡ false) where
        abbrev neither : ((a 0).signed ≡ false) × ((a 1).signed ≡ false)
        neither = or_parts (a 0).signed (a 1).signed plain

        back0 : number_of (record { width = short; signed = false; bits = bits_of short (z 0) }) ≡ z 0
        back0 = plain-back (a 0).signed (a 0).width short (z 0) neither.0 s.word s.in_word (omega arith)

        back1 : number_of (record { width = short; signed = false; bits = bits_of short (z 1) }) ≡ z 1
        back1 = plain-back (a 1).signed (a 1).width short (z 1) neither.1 t.word t.in_word (omega arith)

      less-by : (b : Bool) → by_sign (a 0) (a 1) ≡ b
          → (let common : ℕ = (if b then long else short) in
          Written 1 (pos (truth (int_lt (z 0) (z 1))))
          (expression.Binary binary.Less (compared b (at_width common (a 0)))
          (compared b (at_width common (a 1)))))
      less-by true is =
          less-written nets row long (z 0) (z 1) (at_width long (a 0)) (at_width long (a 1))
          (operand-written nets row long (a 0) (z 0) fit0.0 s) (operand-written nets row long (a 1) (z 1) fit0.0 t) fit0.0 fit0.1 fit1.1
      less-by false is =
          less_plain-written nets row short (z 0) (z 1) (at_width short (a 0)) (at_width short (a 1))
          (operand-written nets row short (a 0) (z 0) some-short s) (operand-written nets row short (a 1) (z 1) some-short t)
          (piece-plain nets row 0 short (a 0) (neither is).0 s.declared) (piece-plain nets row 0 short (a 1) (neither is).1 t.declared) (back0 is) (back1 is)

      equal-by : (b : Bool) → by_sign (a 0) (a 1) ≡ b
          → (let common : ℕ = (if b then long else short) in Written 1 (pos (truth (int_eq (z 0) (z 1)))) (in_width binary.Equal common a))
      equal-by true is =
          subst (λ (b : Bool). Written 1 (pos (truth b)) (in_width binary.Equal long a))
          (same-bits long true (z 0) (z 1) (number-back long (z 0) fit0.0 fit0.1) (number-back long (z 1) fit0.0 fit1.1))
          (equal-written nets row long (z 0) (z 1) (at_width long (a 0)) (at_width long (a 1))
          (operand-written nets row long (a 0) (z 0) fit0.0 s)
          (operand-written nets row long (a 1) (z 1) fit0.0 t))
      equal-by false is =
          subst (λ (b : Bool). Written 1 (pos (truth b)) (in_width binary.Equal short a)) (same-bits short false (z 0) (z 1) (back0 is) (back1 is))
          (equal-written nets row short (z 0) (z 1) (at_width short (a 0)) (at_width short (a 1))
          (operand-written nets row short (a 0) (z 0) some-short s)
          (operand-written nets row short (a 1) (z 1) some-short t))

      less-op : Written w (given_by Less given operands) (expression_of Less ports a w)
      less-op =
          let c : ℕ = common_width (a 0) (a 1) in
          let b : Bool = by_sign (a 0) (a 1) in
          widened-written w (int_lt (z 0) (z 1)) (expression.Binary binary.Less (compared b (at_width c (a 0))) (compared b (at_width c (a 1)))) some (less-by b refl)

      equal-op : Written w (given_by Equal given operands) (expression_of Equal ports a w)
      equal-op = widened-written w (int_eq (z 0) (z 1)) (in_width binary.Equal (common_width (a 0) (a 1)) a) some (equal-by (by_sign (a 0) (a 1)) refl)

    -- an operation that isn't a Multiply
    pub op-written : (op : NetOp) → ((j : ℕ) → j < arity op → Known j)
        → ((port : ℕ) → op ≡ Input port → Shows nets row (ports port) (given port)) → IsWithin op (a 0).width
        → ¬ (op ≡ Multiply) → Written w (given_by op given operands) (expression_of op ports a w)
    op-written (Input port) known input bounds other = operand-written nets row w (ports port) (given port) some (input port refl)
    op-written (Const number) known input bounds other = literal-written nets row w number
    op-written Resize known input bounds other = at 0 (known 0 (omega arith))
    op-written (ShiftUp places) known input bounds other =
        cond_both (nat_lt places w) (expression.Shift Left (at_width w (a 0)) (record { width = 8; signed = false; bits = places })) (zeros w) (Written w (z 0 *ℤ pos (2 ^ places)))
        (λ is. shift-written nets row w (z 0) (at_width w (a 0)) (record { width = 8; signed = false; bits = places }) (at 0 (known 0 (omega arith))))
        (λ is. renumbered w (pos 0) (z 0 *ℤ pos (2 ^ places)) (zeros w) (mod-eq_of_lt (pow_pos w) ∙ sym (all-out w places (z 0) (ltb-false places w is))) (zeros-written nets row w))
    op-written (ShiftDown places) known input bounds other = piece-written nets row places w (a 0) (z 0) some (known 0 (omega arith))
    op-written Add known input bounds other = add-written nets row w (z 0) (z 1) (at_width w (a 0)) (at_width w (a 1)) (at 0 (known 0 (omega arith))) (at 1 (known 1 (omega arith)))
    op-written Subtract known input bounds other = subtract-written nets row w (z 0) (z 1) (at_width w (a 0)) (at_width w (a 1)) (at 0 (known 0 (omega arith))) (at 1 (known 1 (omega arith)))
    op-written Negate known input bounds other = negate-written nets row w (z 0) (at_width w (a 0)) (at 0 (known 0 (omega arith)))
    op-written Multiply known input bounds other = absurd (other refl)
    op-written And known input bounds other = and-written nets row w (z 0) (z 1) (at_width w (a 0)) (at_width w (a 1)) most (at 0 (known 0 (omega arith))) (at 1 (known 1 (omega arith)))
    op-written Or known input bounds other = or-written nets row w (z 0) (z 1) (at_width w (a 0)) (at_width w (a 1)) most (at 0 (known 0 (omega arith))) (at 1 (known 1 (omega arith)))
    op-written Xor known input bounds other = xor-written nets row w (z 0) (z 1) (at_width w (a 0)) (at_width w (a 1)) most (at 0 (known 0 (omega arith))) (at 1 (known 1 (omega arith)))
    op-written Not known input bounds other = invert-written nets row w (z 0) (at_width w (a 0)) (at 0 (known 0 (omega arith)))
    op-written Less known input bounds other = less-op (known 0 (omega arith)) (known 1 (omega arith))
    op-written Equal known input bounds other = equal-op (known 0 (omega arith)) (known 1 (omega arith))
    op-written Choose known input bounds other =
        subst (λ (y : ℤ). Written w y (expression.Choose (test_of (a 0)) (at_width w (a 1)) (at_width w (a 2)))) (turned (int_eq (z 0) (pos 0)) (z 1) (z 2))
        (choose-written nets row w (z 1) (z 2) (int_eq (z 0) (pos 0)) (test_of (a 0)) (at_width w (a 1)) (at_width w (a 2))
        (test-tells (a 0) (z 0) (known 0 (omega arith))) (at 1 (known 1 (omega arith))) (at 2 (known 2 (omega arith))))
    op-written (Slice high low) known input bounds other =
        let e = slice-low high low (z 0) bounds.0 in
        subst (λ (n : ℕ). Written w (pos n) (slice_at w (a 0) low (high + 1 - low))) (sym e)
        (slice-written (a 0) (z 0) w low (high + 1 - low) some (omega (arith, bounds.0)) (known 0 (omega arith)))
