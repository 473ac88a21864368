-- What stands for a constant is that constant; and an operation on nets that show the same.
use Rattle.std.proofs.Common.{◌≡◌, inl, inr, ℕ, zero, suc, ◌<◌, List, [], ◌∷◌, map, Contains, slice_get, refl, ap, sym, ◌∙◌, arith, ℤ}
use Rattle.hw_net.specs.declared.netlist.Net.{Net}
use Rattle.hw_net.specs.declared.netlist.NetKind.{NetKind}
use Rattle.hw_net.specs.declared.netlist.NetKind.TheVariants.{Comb, Reg, EnReg, Acc, Bridge, Unit, Counter}
use Rattle.hw_net.specs.declared.netlist.NetOp.{NetOp}
use Rattle.hw_net.specs.declared.netlist.NetOp.TheVariants.{Const, Resize}
use Rattle.hw_net.specs.NetRows.{number_at, operands_at}
use Rattle.hw_net.specs.Operation.{arity}
use Rattle.hw_net.specs.Products.{net_at}
use Rattle.hw_refine.specs.Redirects.{redirected}
use Rattle.math_list.proofs.Elements.{tail-in}
use Rattle.hw_fold.specs.inner.Roots.{DoesSame, IsPassed}

-- the operation of a net that has one
abbrev op-of : NetKind → NetOp
op-of (Comb op args) = op
op-of (Reg frame slot first from) = Resize
op-of (EnReg frame enable reset first from) = Resize
op-of (Acc frame enable from) = Resize
op-of (Bridge frame live from) = Resize
op-of (Unit left right) = Resize
op-of (Counter frame) = Resize

-- what is passed on is the number of an operation that reads something
pub reads-something : (nets : List Net) (root : ℕ → ℕ) (k other : ℕ) → IsPassed nets root k other → (op : NetOp) (args : List ℕ) → (net_at nets k).kind ≡ Comb op args → 0 < arity op
reads-something nets root k other p op args is =
    let e = ap arity (ap op-of (sym p.is ∙ is)) in
    let r = p.reads in omega (arith, e, r)

abbrev pub IsConst : NetKind → ℤ → Type 0
IsConst kind value = (args : List ℕ) × (kind ≡ Comb (Const value) args)

-- only a constant is redirected to a constant
const-from : (root : ℕ → ℕ) (kind : NetKind) (value : ℤ) (args : List ℕ) → redirected root kind ≡ Comb (Const value) args → IsConst kind value
const-from root (Comb op xs) value args e = (xs, ap (λ (o : NetOp). Comb o xs) (ap op-of e))
const-from root (Reg frame slot first from) value args e = absurd (cc e)
const-from root (EnReg frame enable reset first from) value args e = absurd (cc e)
const-from root (Acc frame enable from) value args e = absurd (cc e)
const-from root (Bridge frame live from) value args e = absurd (cc e)
const-from root (Unit left right) value args e = absurd (cc e)
const-from root (Counter frame) value args e = absurd (cc e)

pub const-same : (nets : List Net) (root : ℕ → ℕ) (k other : ℕ) → DoesSame nets root k other
    → (value : ℤ) (args : List ℕ) → (net_at nets k).kind ≡ Comb (Const value) args → IsConst (net_at nets other).kind value
const-same nets root k other (inl e) value args is = const-from root (net_at nets other).kind value (map root args) (e ∙ ap (redirected root) is)
const-same nets root k other (inr p) value args is = absurd (let r = reads-something nets root k other p (Const value) args is in omega (arith, r))

number-same : (f g : ℕ → ℤ) (args : List ℕ) (i : ℕ) → ((read : ℕ) → Contains args read → f read ≡ g read) → number_at f (slice_get args i) ≡ number_at g (slice_get args i)
number-same f g [] i same = refl
number-same f g (x ∷ args) zero same = same x (0, omega arith, refl)
number-same f g (x ∷ args) (suc i) same = number-same f g args i (λ read c. same read (tail-in x read args c))

pub operands-same : (f g : ℕ → ℤ) (args : List ℕ) → ((read : ℕ) → Contains args read → f read ≡ g read) → operands_at f args ≡ operands_at g args
operands-same f g args same =
    let a = number-same f g args 0 same in
    let b = number-same f g args 1 same in
    let c = number-same f g args 2 same in
    λ i. record { first = a i; second = b i; third = c i }
