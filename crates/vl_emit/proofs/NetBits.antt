-- What a run of a netlist's module gives of a net: its bits after assignments, after `reset` and after edges.
use Rattle.std.proofs.Common.{◌≡◌, ℕ, suc, ◌+◌, ◌^◌, ◌<◌, Bool, List, length, Contains, ℤ, Option, codes, ap, sym, ◌∙◌, subst, arith}
use Rattle.math_num.specs.Word.{InWord, IsWord, IsWrapped}
use Rattle.vl_ast.specs.declared.expressions.Sized.{Sized}
use Rattle.vl_ast.specs.declared.expressions.Expr.{Expr}
use Rattle.vl_ast.specs.declared.modules.ModItem.{ModItem}
use Rattle.vl_ast.specs.declared.modules.ModItem.TheVariants as item
use Rattle.vl_ast.specs.declared.modules.Module.{Module}
use Rattle.vl_ast.specs.Context.{Net as DeclaredNet}
use Rattle.vl_ast.specs.Value.{assigned}
use Rattle.vl_ast.specs.Nets.{nets_of}
use Rattle.vl_ast.specs.Value.{bits_of}
use Rattle.vl_ast.specs.Runs.{Runs, next_bits}
use Rattle.hw_net.specs.declared.netlist.NetKind.{NetKind}
use Rattle.hw_net.specs.Circuit.{Circuit}
use Rattle.vl_emit.specs.Names.{Wire, shown}
use Rattle.hw_net.specs.Products.{net_at}
use Rattle.vl_emit.specs.Shown.{IsReset}
use Rattle.vl_emit.specs.inner.AtWidth.{Shows}
use Rattle.vl_emit.specs.inner.NetItems.{plain_number, drivers, naming_of}
use Rattle.vl_emit.specs.inner.Sound.{IsSoundKind, IsSound, HasNets}
use Rattle.vl_emit.proofs.Sections.{Run, run_of}
use Rattle.vl_emit.proofs.Numbers.{number-in_word, number-bits, number-wrapped, number-is, declaration-there}
use Rattle.vl_emit.proofs.OfOperations.{width-at-least}
use Rattle.vl_emit.proofs.Registers.{reset-bits}
use Rattle.vl_ast.proofs.SomeInputs.{bits-fit}

-- a name that is declared with a word shows its number
pub wire-shows : (m : Module) (total : ℕ) (start : List ℕ → ℕ) (inputs rows : ℕ → List ℕ → ℕ) → Runs m total start inputs rows → (k : ℕ) → k < total → (wire : Wire)
    → nets_of m wire.name ≡ record { width = wire.width; signed = wire.signed } → IsWord wire.width wire.signed → Shows (nets_of m) (rows k) wire (shown (rows k) wire)
wire-shows m total start inputs rows runs k below wire declared word =
    let d = declaration-there m wire.name wire.width wire.signed declared (width-at-least wire.signed wire.width word) in
    let fits : rows k wire.name < 2 ^ wire.width =
    subst (λ (n : DeclaredNet). rows k wire.name < 2 ^ n.width) d.net_is
    (subst (λ (name : List ℕ). rows k name < 2 ^ d.declared.net.width) d.name_is (runs.fits k below d.declared d.there)) in
    record {
      declared = declared;
      word = word;
      bits = sym (number-bits wire.width wire.signed (rows k wire.name) word fits);
      in_word = number-in_word wire.width wire.signed (rows k wire.name) word fits;
    }

-- a run of a netlist's module with `reset` and then none
pub record Running (netlist : Circuit) (rank : ℕ → ℕ) (m : Module) (total last : ℕ) (start : List ℕ → ℕ) (inputs rows : ℕ → List ℕ → ℕ) : Type 0 where
  pub sound : IsSound netlist.cycles (length netlist.nets) (naming_of netlist) (net_at netlist.nets) rank
  pub has : HasNets netlist.cycles (length netlist.nets) (naming_of netlist) (net_at netlist.nets) m
  pub reset : IsReset m total last start inputs rows

module _ {netlist : Circuit} {rank : ℕ → ℕ} {m : Module} {total last : ℕ} {start : List ℕ → ℕ} {inputs rows : ℕ → List ℕ → ℕ}
    (run : Running netlist rank m total last start inputs rows) where
  abbrev parts : Run
  parts = run_of netlist total last rows

  open parts use {cycles, count, net, naming, wire, clocks, row, value}

  in-run : (clock : ℕ) → clock < clocks → last + 1 + clock < total
  in-run clock h = omega (arith, h)

  pub known : (clock k : ℕ) → clock < clocks → k < count → Shows (nets_of m) (row clock) (wire k) (value k clock)
  known clock k below h = wire-shows m total start inputs rows run.reset.runs (last + 1 + clock) (in-run clock below) (wire k) (run.has.declared k h) (run.sound.word k h)

  pub bits-of-value : (clock k : ℕ) → clock < clocks → k < count → row clock (naming.net k) ≡ bits_of (net k).width (value k clock)
  bits-of-value clock k below h = (known clock k below h).bits

  -- a number of the word that the bits are those of
  pub value-is : (clock k : ℕ) (z : ℤ) → k < count → InWord (net k).width (net k).signed z → row clock (naming.net k) ≡ bits_of (net k).width z → value k clock ≡ z
  value-is clock k z h within e = number-is (net k).width (net k).signed (row clock (naming.net k)) z (run.sound.word k h) within e

  pub value-wrapped : (clock k : ℕ) (z : ℤ) → clock < clocks → k < count → row clock (naming.net k) ≡ bits_of (net k).width z → IsWrapped z (net k).width (net k).signed (value k clock)
  value-wrapped clock k z below h e =
      number-wrapped (net k).width (net k).signed (row clock (naming.net k)) z (run.sound.word k h)
      (subst (λ (n : ℕ). n < 2 ^ (net k).width) (sym e) (bits-fit (net k).width z)) e

  -- what an assignment gives
  pub assigned-bits : (clock k : ℕ) (e : Expr) (z : ℤ) → k < count → clock < clocks → Contains m.items (item.Assign (naming.net k) e)
      → assigned (nets_of m) (row clock) (net k).width e ≡ bits_of (net k).width z → row clock (naming.net k) ≡ bits_of (net k).width z
  assigned-bits clock k e z h below c p =
      run.reset.runs.assigns (last + 1 + clock) (in-run clock below) (naming.net k) e c
      ∙ ap (λ (n : DeclaredNet). assigned (nets_of m) (row clock) n.width e) (run.has.declared k h)
      ∙ p

  -- a register after the edge of reset, and after a later one
  pub first-bits : (name : List ℕ) (w bits : ℕ) (signed : Bool) (condition : Option Expr) (e : Expr) → nets_of m name ≡ record { width = w; signed = signed } → bits < 2 ^ w → 0 < clocks
      → Contains m.items (item.Always name (plain_number w bits) condition e) → row 0 name ≡ bits
  first-bits name w bits signed condition e d small below c =
      let same : last + 1 ≡ last + 1 + 0 = omega arith in
      subst (λ (r : ℕ). rows r name ≡ bits) same
      (run.reset.runs.steps last (omega (arith, below)) name (plain_number w bits) condition e c
      ∙ reset-bits m (rows last) name w signed d bits condition e small run.reset.reset)

  pub released : (clock : ℕ) → suc clock < clocks → row clock (codes "reset") ≡ 0
  released clock below = run.reset.released (last + 1 + clock) (omega arith) (omega (arith, below))

  pub edge : (clock : ℕ) (name : List ℕ) (first : Sized) (condition : Option Expr) (e : Expr) → suc clock < clocks
      → Contains m.items (item.Always name first condition e) → row (suc clock) name ≡ next_bits m (row clock) name first condition e
  edge clock name first condition e below c =
      let same : last + 1 + clock + 1 ≡ last + 1 + suc clock = omega arith in
      subst (λ (r : ℕ). rows r name ≡ next_bits m (row clock) name first condition e) same
      (run.reset.runs.steps (last + 1 + clock) (omega (arith, below)) name first condition e c)

  module _ (k : ℕ) (h : k < count) where
    pub item-of : (kind : NetKind) → (net k).kind ≡ kind → (i : ModItem) → Contains (drivers cycles naming net k kind) i → Contains m.items i
    item-of kind is i c = run.has.items k h i (subst (λ (t : NetKind). Contains (drivers cycles naming net k t) i) (sym is) c)

    pub names-of : (kind : NetKind) → (net k).kind ≡ kind → IsSoundKind cycles count naming net rank k kind
    names-of kind is = subst (IsSoundKind cycles count naming net rank k) is (run.sound.names k h)
