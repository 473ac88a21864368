-- An expression looks at no more operands than its operation has.
use Rattle.std.proofs.Common.{◌≡◌, ℕ, ◌<◌, ap, arith, refl}
use Rattle.hw_net.specs.declared.netlist.NetOp.{NetOp}
use Rattle.hw_net.specs.declared.netlist.NetOp.TheVariants.{Input, Const, Resize, ShiftUp, ShiftDown, Add, Subtract, Negate, Multiply, And, Or, Xor, Not, Less, Equal, Choose, Slice}
use Rattle.hw_net.specs.Operation.{arity}
use Rattle.vl_emit.specs.Names.{Wire}
use Rattle.vl_emit.specs.inner.Operators.{expression_of}
use Rattle.vl_emit.specs.inner.Pieces.{at_width}
use Rattle.vl_emit.specs.inner.Spoken.{IsWithin, triple}

module _ (w : ℕ) (ports : ℕ → Wire) (own : Wire) (a : ℕ → Wire) (x y z : Wire) where
  abbrev Same : NetOp → Type 0
  Same op = expression_of op (λ place. own) (triple x y z) w ≡ expression_of op ports a w

  pub same-expression : (op : NetOp) → ((port : ℕ) → op ≡ Input port → own ≡ ports port) → (0 < arity op → x ≡ a 0) → (1 < arity op → y ≡ a 1) → (2 < arity op → z ≡ a 2) → Same op
  same-expression (Input port) p f g h = ap (at_width w) (p port refl)
  same-expression (Const value) p f g h = refl
  same-expression Resize p f g h = (let e = f (omega arith) in (λ i. expression_of Resize ports (triple (e i) y z) w))
  same-expression (ShiftUp places) p f g h = (let e = f (omega arith) in (λ i. expression_of (ShiftUp places) ports (triple (e i) y z) w))
  same-expression (ShiftDown places) p f g h = (let e = f (omega arith) in (λ i. expression_of (ShiftDown places) ports (triple (e i) y z) w))
  same-expression Add p f g h = (let e = f (omega arith) in let k = g (omega arith) in (λ i. expression_of Add ports (triple (e i) (k i) z) w))
  same-expression Subtract p f g h = (let e = f (omega arith) in let k = g (omega arith) in (λ i. expression_of Subtract ports (triple (e i) (k i) z) w))
  same-expression Negate p f g h = (let e = f (omega arith) in (λ i. expression_of Negate ports (triple (e i) y z) w))
  same-expression Multiply p f g h = (let e = f (omega arith) in let k = g (omega arith) in (λ i. expression_of Multiply ports (triple (e i) (k i) z) w))
  same-expression And p f g h = (let e = f (omega arith) in let k = g (omega arith) in (λ i. expression_of And ports (triple (e i) (k i) z) w))
  same-expression Or p f g h = (let e = f (omega arith) in let k = g (omega arith) in (λ i. expression_of Or ports (triple (e i) (k i) z) w))
  same-expression Xor p f g h = (let e = f (omega arith) in let k = g (omega arith) in (λ i. expression_of Xor ports (triple (e i) (k i) z) w))
  same-expression Not p f g h = (let e = f (omega arith) in (λ i. expression_of Not ports (triple (e i) y z) w))
  same-expression Less p f g h = (let e = f (omega arith) in let k = g (omega arith) in (λ i. expression_of Less ports (triple (e i) (k i) z) w))
  same-expression Equal p f g h = (let e = f (omega arith) in let k = g (omega arith) in (λ i. expression_of Equal ports (triple (e i) (k i) z) w))
  same-expression Choose p f g h = (let e = f (omega arith) in let k = g (omega arith) in let l = h (omega arith) in (λ i. expression_of Choose ports (triple (e i) (k i) (l i)) w))
  same-expression (Slice high low) p f g h = (let e = f (omega arith) in (λ i. expression_of (Slice high low) ports (triple (e i) y z) w))

-- a slice lies within its operand
pub within-first : (op : NetOp) (width own : ℕ) → (0 < arity op → width ≡ own) → IsWithin op own → IsWithin op width
within-first (Slice high low) width own e w = (let same = e (omega arith) in (w.0, omega (arith, same, w.1)))
within-first _ width own e w = tt
