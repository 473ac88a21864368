-- What doesn't multiply has no product.
use Rattle.std.proofs.Common.{◌≡◌, ℕ, List, [], false, refl}
use Rattle.hw_net.specs.declared.netlist.NetOp.{NetOp}
use Rattle.hw_net.specs.declared.netlist.NetOp.TheVariants.{Input, Const, Resize, ShiftUp, ShiftDown, Add, Subtract, Negate, Multiply, And, Or, Xor, Not, Less, Equal, Choose, Slice}
use Rattle.hw_net.specs.declared.netlist.NetKind.{NetKind}
use Rattle.hw_net.specs.declared.netlist.NetKind.TheVariants.{Comb, Reg, EnReg, Acc, Bridge, Unit, Counter}
use Rattle.hw_net.specs.Products.{comb_product, op_product, unit_product}
use Rattle.hw_trim.specs.inner.Marks.{is_product, multiplies}

pub no-unit : (w : ℕ) (kind : NetKind) → multiplies kind ≡ false → unit_product w kind ≡ []
no-unit w (Comb op args) e = refl
no-unit w (Reg frame slot first from) e = refl
no-unit w (EnReg frame enable reset first from) e = refl
no-unit w (Acc frame enable from) e = refl
no-unit w (Bridge frame live from) e = refl
no-unit w (Unit left right) e = absurd (cc e)
no-unit w (Counter frame) e = refl

pub no-product : (w : ℕ) (args : List ℕ) (op : NetOp) → is_product op ≡ false → op_product w args op ≡ []
no-product w args (Input number) e = refl
no-product w args (Const value) e = refl
no-product w args Resize e = refl
no-product w args (ShiftUp places) e = refl
no-product w args (ShiftDown places) e = refl
no-product w args Add e = refl
no-product w args Subtract e = refl
no-product w args Negate e = refl
no-product w args Multiply e = absurd (cc e)
no-product w args And e = refl
no-product w args Or e = refl
no-product w args Xor e = refl
no-product w args Not e = refl
no-product w args Less e = refl
no-product w args Equal e = refl
no-product w args Choose e = refl
no-product w args (Slice high low) e = refl

pub no-comb : (w : ℕ) (kind : NetKind) → multiplies kind ≡ false → comb_product w kind ≡ []
no-comb w (Comb op args) e = no-product w args op e
no-comb w (Reg frame slot first from) e = refl
no-comb w (EnReg frame enable reset first from) e = refl
no-comb w (Acc frame enable from) e = refl
no-comb w (Bridge frame live from) e = refl
no-comb w (Unit left right) e = refl
no-comb w (Counter frame) e = refl
