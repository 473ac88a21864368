-- What is emitted nests a few levels deep, and has no empty concatenation.
use Rattle.std.proofs.Common.{◌≡◌, ℕ, ◌+◌, ◌-◌, ◌*◌, ◌≤◌, ◌==◌, nat_le, nat_lt, min, Bool, true, false, ◌&&◌, if◌then◌else◌, List, [], ◌∷◌, refl, sym, ◌∙◌, subst, arith}
use Rattle.std.proofs.lemmas.Bool.{cond_both, and_from}
use Rattle.vl_ast.specs.declared.expressions.UnOp.{UnOp}
use Rattle.vl_ast.specs.declared.expressions.UnOp.TheVariants as unary
use Rattle.vl_ast.specs.declared.expressions.BinOp.{BinOp}
use Rattle.vl_ast.specs.declared.expressions.BinOp.TheVariants as binary
use Rattle.vl_ast.specs.declared.expressions.ShiftOp.{ShiftOp}
use Rattle.vl_ast.specs.declared.expressions.ShiftOp.TheVariants.{Left}
use Rattle.vl_ast.specs.declared.expressions.Sized.{Sized}
use Rattle.vl_ast.specs.declared.expressions.Expr.{Expr}
use Rattle.vl_ast.specs.declared.expressions.Expr.TheOpen.{Expr-F}
use Rattle.vl_ast.specs.declared.expressions.Expr.TheViews.{roll-Expr}
use Rattle.vl_ast.specs.declared.expressions.Expr.TheFolds.{map-Expr, fold-roll-Expr}
use Rattle.vl_ast.specs.declared.expressions.Expr.TheVariants.{Name, Bit, Part, Literal, Concat, Repeat, AsSigned, Unary, Binary, Shift, Choose, rolls-Name, rolls-Bit, rolls-Part, rolls-Literal}
use Rattle.vl_ast.specs.declared.expressions.Expr.TheVariants.{rolls-Concat, rolls-Repeat, rolls-AsSigned, rolls-Unary, rolls-Binary, rolls-Shift, rolls-Choose}
use Rattle.vl_ast.specs.Grammar.{depth, depth_step, is_filled, is_filled_step}
use Rattle.hw_net.specs.declared.netlist.Frame.{Frame}
use Rattle.hw_net.specs.declared.netlist.NetOp.{NetOp}
use Rattle.hw_net.specs.declared.netlist.NetOp.TheVariants as operation
use Rattle.vl_emit.specs.Names.{Wire}
use Rattle.vl_emit.specs.inner.NetItems.{counts, plain_number, slot_test, live_test}
use Rattle.vl_emit.specs.inner.Operators.{by_sign, common_width, compared, expression_of, factor, in_width, product, product_signed, shifted_up, signed_width, slice_at, test_of, widened}
use Rattle.vl_emit.specs.inner.Pieces.{zeros, fill, inside, piece, at_width}

-- the expression nests at most so deep, and has no empty concatenation
pub record IsShort (most : ℕ) (e : Expr) : Type 0 where
  pub deep : depth e ≤ most
  pub filled : is_filled e ≡ true

pub deeper : (n k : ℕ) (e : Expr) → n ≤ k → IsShort n e → IsShort k e
deeper n k e h s = let d = s.deep in record { deep = omega (arith, d, h); filled = s.filled }

-- by the layer of an expression
rolled : (most : ℕ) (x : Expr-F Expr) (e : Expr) → roll-Expr x ≡ e → depth_step (map-Expr Expr ℕ depth x) ≤ most → is_filled_step (map-Expr Expr Bool is_filled x) ≡ true → IsShort most e
rolled most x e same d f = subst (IsShort most) same (record {
  deep = subst (λ (n : ℕ). n ≤ most) (sym (fold-roll-Expr ℕ depth_step x)) d;
  filled = fold-roll-Expr Bool is_filled_step x ∙ f;
})

pub short-name : (name : List ℕ) → IsShort 0 (Name name)
short-name name = rolled 0 (Expr-F.Name name) (Name name) (rolls-Name name) (omega arith) refl

short-bit : (name : List ℕ) (place : ℕ) → IsShort 0 (Bit name place)
short-bit name place = rolled 0 (Expr-F.Bit name place) (Bit name place) (rolls-Bit name place) (omega arith) refl

short-part : (name : List ℕ) (high low : ℕ) → IsShort 0 (Part name high low)
short-part name high low = rolled 0 (Expr-F.Part name high low) (Part name high low) (rolls-Part name high low) (omega arith) refl

pub short-literal : (number : Sized) → IsShort 0 (Literal number)
short-literal number = rolled 0 (Expr-F.Literal number) (Literal number) (rolls-Literal number) (omega arith) refl

short-beside : (n : ℕ) (left right : Expr) → IsShort n left → IsShort n right → IsShort (n + 1) (Concat (left ∷ right ∷ []))
short-beside n left right l r =
    let a = l.deep in
    let b = r.deep in
    rolled (n + 1) (Expr-F.Concat (left ∷ right ∷ [])) (Concat (left ∷ right ∷ [])) (rolls-Concat (left ∷ right ∷ [])) (omega (arith, a, b))
    (and_from (is_filled left) (is_filled right && true) l.filled (and_from (is_filled right) true r.filled refl))

short-repeat : (n count : ℕ) (part : Expr) → IsShort n part → IsShort (n + 1) (Repeat count part)
short-repeat n count part p = let a = p.deep in rolled (n + 1) (Expr-F.Repeat count part) (Repeat count part) (rolls-Repeat count part) (omega (arith, a)) p.filled

short-signed : (n : ℕ) (part : Expr) → IsShort n part → IsShort (n + 1) (AsSigned part)
short-signed n part p = let a = p.deep in rolled (n + 1) (Expr-F.AsSigned part) (AsSigned part) (rolls-AsSigned part) (omega (arith, a)) p.filled

short-unary : (n : ℕ) (op : UnOp) (part : Expr) → IsShort n part → IsShort (n + 1) (Unary op part)
short-unary n op part p = let a = p.deep in rolled (n + 1) (Expr-F.Unary op part) (Unary op part) (rolls-Unary op part) (omega (arith, a)) p.filled

short-shift : (n : ℕ) (op : ShiftOp) (part : Expr) (amount : Sized) → IsShort n part → IsShort (n + 1) (Shift op part amount)
short-shift n op part amount p = let a = p.deep in rolled (n + 1) (Expr-F.Shift op part amount) (Shift op part amount) (rolls-Shift op part amount) (omega (arith, a)) p.filled

pub short-binary : (n : ℕ) (op : BinOp) (left right : Expr) → IsShort n left → IsShort n right → IsShort (n + 1) (Binary op left right)
short-binary n op left right l r =
    let a = l.deep in
    let b = r.deep in
    rolled (n + 1) (Expr-F.Binary op left right) (Binary op left right) (rolls-Binary op left right) (omega (arith, a, b)) (and_from (is_filled left) (is_filled right) l.filled r.filled)

pub short-choose : (n : ℕ) (test chosen other : Expr) → IsShort n test → IsShort n chosen → IsShort n other → IsShort (n + 1) (Choose test chosen other)
short-choose n test chosen other t c o =
    let a = t.deep in
    let b = c.deep in
    let d = o.deep in
    rolled (n + 1) (Expr-F.Choose test chosen other) (Choose test chosen other) (rolls-Choose test chosen other) (omega (arith, a, b, d))
    (and_from (is_filled test && is_filled chosen) (is_filled other) (and_from (is_filled test) (is_filled chosen) t.filled c.filled) o.filled)

-- ---- pieces of nets

short-zeros : (width : ℕ) → IsShort 0 (zeros width)
short-zeros width = short-literal (record { width = width; signed = false; bits = 0 })

short-fill : (wire : Wire) (count : ℕ) → IsShort 1 (fill wire count)
short-fill wire count =
    cond_both wire.signed (Repeat count (Bit wire.name (wire.width - 1))) (zeros count) (IsShort 1)
    (λ is. short-repeat 0 count (Bit wire.name (wire.width - 1)) (short-bit wire.name (wire.width - 1)))
    (λ is. deeper 0 1 (zeros count) (omega arith) (short-zeros count))

short-inside : (wire : Wire) (low width : ℕ) → IsShort 0 (inside wire low width)
short-inside wire low width =
    cond_both (width == wire.width) (Name wire.name) (Part wire.name (low + width - 1) low) (IsShort 0)
    (λ is. short-name wire.name) (λ is. short-part wire.name (low + width - 1) low)

short-piece : (wire : Wire) (low width : ℕ) → IsShort 2 (piece wire low width)
short-piece wire low width =
    cond_both (nat_le wire.width low) (fill wire width)
    (if nat_le (low + width) wire.width then inside wire low width else Concat (fill wire (low + width - wire.width) ∷ inside wire low (wire.width - low) ∷ [])) (IsShort 2)
    (λ is. deeper 1 2 (fill wire width) (omega arith) (short-fill wire width))
    (λ is. cond_both (nat_le (low + width) wire.width) (inside wire low width) (Concat (fill wire (low + width - wire.width) ∷ inside wire low (wire.width - low) ∷ [])) (IsShort 2)
    (λ near. deeper 0 2 (inside wire low width) (omega arith) (short-inside wire low width))
    (λ far. short-beside 1 (fill wire (low + width - wire.width)) (inside wire low (wire.width - low)) (short-fill wire (low + width - wire.width))
    (deeper 0 1 (inside wire low (wire.width - low)) (omega arith) (short-inside wire low (wire.width - low)))))

pub short-at : (width : ℕ) (wire : Wire) → IsShort 2 (at_width width wire)
short-at width wire = short-piece wire 0 width

pub short-test : (wire : Wire) → IsShort 1 (test_of wire)
short-test wire =
    cond_both (wire.width == 1) (Name wire.name) (Binary binary.NotEqual (Name wire.name) (zeros wire.width)) (IsShort 1)
    (λ is. deeper 0 1 (Name wire.name) (omega arith) (short-name wire.name))
    (λ is. short-binary 0 binary.NotEqual (Name wire.name) (zeros wire.width) (short-name wire.name) (short-zeros wire.width))

short-widened : (width : ℕ) (bit : Expr) → IsShort 4 bit → IsShort 5 (widened width bit)
short-widened width bit b =
    cond_both (width == 1) bit (Concat (zeros (width - 1) ∷ bit ∷ [])) (IsShort 5)
    (λ is. deeper 4 5 bit (omega arith) b)
    (λ is. short-beside 4 (zeros (width - 1)) bit (deeper 0 4 (zeros (width - 1)) (omega arith) (short-zeros (width - 1))) b)

short-compared : (signed : Bool) (e : Expr) → IsShort 2 e → IsShort 3 (compared signed e)
short-compared true e s = short-signed 2 e s
short-compared false e s = deeper 2 3 e (omega arith) s

short-two : (op : BinOp) (width : ℕ) (a : ℕ → Wire) → IsShort 3 (in_width op width a)
short-two op width a = short-binary 2 op (at_width width (a 0)) (at_width width (a 1)) (short-at width (a 0)) (short-at width (a 1))

short-factor : (signed : Bool) (width : ℕ) (wire : Wire) → IsShort 3 (factor signed width wire)
short-factor true width wire =
    let e : Expr = at_width (min (signed_width wire) width) wire in
    cond_both (wire.signed && nat_le wire.width width) (Name wire.name) (AsSigned e) (IsShort 3)
    (λ is. deeper 0 3 (Name wire.name) (omega arith) (short-name wire.name))
    (λ is. short-signed 2 e (short-at (min (signed_width wire) width) wire))
short-factor false width wire = deeper 2 3 _ (omega arith) (short-at (if wire.signed then width else min wire.width width) wire)

pub short-product : (width : ℕ) (x y : Wire) → IsShort 4 (product width x y)
short-product width x y =
    let signed : Bool = product_signed x y in
    short-binary 3 binary.Multiply (factor signed width x) (factor signed width y) (short-factor signed width x) (short-factor signed width y)

short-slice : (width : ℕ) (wire : Wire) (low count : ℕ) → IsShort 3 (slice_at width wire low count)
short-slice width wire low count =
    cond_both (nat_le width count) (piece wire low width) (Concat (zeros (width - count) ∷ piece wire low count ∷ [])) (IsShort 3)
    (λ is. deeper 2 3 (piece wire low width) (omega arith) (short-piece wire low width))
    (λ is. short-beside 2 (zeros (width - count)) (piece wire low count) (deeper 0 2 (zeros (width - count)) (omega arith) (short-zeros (width - count))) (short-piece wire low count))

short-up : (wire : Wire) (places width : ℕ) → IsShort 3 (shifted_up wire places width)
short-up wire places width =
    cond_both (nat_lt places width) (Shift Left (at_width width wire) (record { width = 8; signed = false; bits = places })) (zeros width) (IsShort 3)
    (λ is. short-shift 2 Left (at_width width wire) (record { width = 8; signed = false; bits = places }) (short-at width wire))
    (λ is. deeper 0 3 (zeros width) (omega arith) (short-zeros width))

-- ---- operations and tests

module _ (ports a : ℕ → Wire) (width : ℕ) where
  at-most : (e : Expr) → IsShort 3 e → IsShort 5 e
  at-most e s = deeper 3 5 e (omega arith) s

  at-two : (e : Expr) → IsShort 2 e → IsShort 5 e
  at-two e s = deeper 2 5 e (omega arith) s

  pub short-operation : (op : NetOp) → IsShort 5 (expression_of op ports a width)
  short-operation (operation.Input port) = at-two _ (short-at width (ports port))
  short-operation (operation.Const number) = deeper 0 5 _ (omega arith) (short-literal _)
  short-operation operation.Resize = at-two _ (short-at width (a 0))
  short-operation (operation.ShiftUp places) = at-most _ (short-up (a 0) places width)
  short-operation (operation.ShiftDown places) = at-two _ (short-piece (a 0) places width)
  short-operation operation.Add = at-most _ (short-two binary.Add width a)
  short-operation operation.Subtract = at-most _ (short-two binary.Subtract width a)
  short-operation operation.Negate = at-most _ (short-unary 2 unary.Negate (at_width width (a 0)) (short-at width (a 0)))
  short-operation operation.Multiply = deeper 4 5 _ (omega arith) (short-product width (a 0) (a 1))
  short-operation operation.And = at-most _ (short-two binary.And width a)
  short-operation operation.Or = at-most _ (short-two binary.Or width a)
  short-operation operation.Xor = at-most _ (short-two binary.Xor width a)
  short-operation operation.Not = at-most _ (short-unary 2 unary.Invert (at_width width (a 0)) (short-at width (a 0)))
  short-operation operation.Less =
      let c : ℕ = common_width (a 0) (a 1) in
      let b : Bool = by_sign (a 0) (a 1) in
      short-widened width (Binary binary.Less (compared b (at_width c (a 0))) (compared b (at_width c (a 1))))
      (short-binary 3 binary.Less (compared b (at_width c (a 0))) (compared b (at_width c (a 1)))
      (short-compared b (at_width c (a 0)) (short-at c (a 0)))
      (short-compared b (at_width c (a 1)) (short-at c (a 1))))
  short-operation operation.Equal = short-widened width (in_width binary.Equal (common_width (a 0) (a 1)) a) (deeper 3 4 _ (omega arith) (short-two binary.Equal (common_width (a 0) (a 1)) a))
  short-operation operation.Choose =
      at-most _ (short-choose 2 (test_of (a 0)) (at_width width (a 1)) (at_width width (a 2))
      (deeper 1 2 (test_of (a 0)) (omega arith) (short-test (a 0))) (short-at width (a 1))
      (short-at width (a 2)))
  short-operation (operation.Slice high low) = at-most _ (short-slice width (a 0) low (high + 1 - low))

pub short-slot : (cycles : ℕ) (frame : Frame) (counter : Wire) (slot : ℕ) → IsShort 1 (slot_test cycles frame counter slot)
short-slot cycles frame counter slot =
    cond_both (nat_lt slot (frame.period * cycles)) (counts counter (frame.period * cycles - 1 - slot)) (zeros 1) (IsShort 1)
    (λ is. short-binary 0 binary.Equal (Name counter.name) (Literal (plain_number counter.width (frame.period * cycles - 1 - slot))) (short-name counter.name) (short-literal _))
    (λ is. deeper 0 1 (zeros 1) (omega arith) (short-zeros 1))

pub short-live : (cycles : ℕ) (frame : Frame) (counter : Wire) (live : ℕ) → IsShort 1 (live_test cycles frame counter live)
short-live cycles frame counter live =
    short-binary 0 binary.GreaterEqual (Name counter.name) (Literal (plain_number counter.width ((frame.period - live) * cycles))) (short-name counter.name) (short-literal _)
