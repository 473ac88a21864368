-- What the items of the module of a netlist read.
use Rattle.std.proofs.Common.{◌≡◌, ◌⊎◌, inl, inr, ℕ, ◌^◌, ◌<◌, List, ◌∷◌, ◌++◌, length, Contains, Option, Some, None, codes, ℤ, refl, ap, sym, ◌∙◌, subst}
use Rattle.std.proofs.lemmas.List.Elements.{Contains-append_right}
use Rattle.vl_ast.specs.declared.expressions.BinOp.TheVariants.{Both}
use Rattle.vl_ast.specs.declared.expressions.Sized.{Sized}
use Rattle.vl_ast.specs.declared.expressions.Expr.{Expr}
use Rattle.vl_ast.specs.declared.expressions.Expr.TheOpen.{Expr-F}
use Rattle.vl_ast.specs.declared.expressions.Expr.TheFolds.{fold-roll-Expr}
use Rattle.vl_ast.specs.declared.expressions.Expr.TheVariants as expression
use Rattle.vl_ast.specs.declared.modules.ModItem.{ModItem}
use Rattle.vl_ast.specs.declared.modules.ModItem.TheVariants as item
use Rattle.vl_ast.specs.Conditions.{item_name}
use Rattle.vl_ast.specs.Gated.{gated_condition, gated_item, shows_enable}
use Rattle.vl_ast.specs.Nets.{names_read, names_step, condition_names}
use Rattle.vl_ast.proofs.GatesSound.{enable-reads}
use Rattle.hw_net.specs.declared.netlist.Frame.{Frame}
use Rattle.hw_net.specs.declared.netlist.NetPort.{NetPort}
use Rattle.hw_net.specs.declared.netlist.NetKind.TheVariants.{Reg}
use Rattle.hw_net.specs.Circuit.{Circuit}
use Rattle.hw_net.specs.Netlist.{IsNetlist}
use Rattle.hw_net.specs.Emittable.{IsEmittable}
use Rattle.vl_emit.specs.Names.{name_of}
use Rattle.hw_net.specs.Products.{net_at}
use Rattle.vl_emit.specs.Reads.{item_reads, MayRead, ReadsOnly}
use Rattle.vl_emit.specs.inner.NetItems.{items_of, naming_of, module_of, output_item}
use Rattle.vl_emit.proofs.ModuleNets.{first-or-later}
use Rattle.vl_emit.proofs.EnablePorts.{IsGated, IsOf, gated-name, item-where, net-differs}
use Rattle.vl_emit.proofs.Origins.{Origin, Declaring, Driving, Showing, origin, declarer-of, driver-of, reads-of, register-by, output-by}

abbrev enable : List ℕ
enable = codes "clk_enable"

condition-reads : (condition : Option Expr) → names_read (gated_condition condition) ≡ codes "clk_enable" ∷ condition_names condition
condition-reads None = enable-reads
condition-reads (Some condition) =
    ap names_read (sym (expression.rolls-Binary Both (expression.Name enable) condition))
    ∙ fold-roll-Expr (List (List ℕ)) names_step (Expr-F.Binary Both (expression.Name enable) condition)
    ∙ ap (λ (ns : List (List ℕ)). ns ++ names_read condition) enable-reads

-- a gated item reads the clock enable and what it read
gated-reads : (i : ModItem) (read : List ℕ) → Contains (item_reads (gated_item i)) read → (read ≡ codes "clk_enable") ⊎ Contains (item_reads i) read
gated-reads (item.Wire signed width name) read c = inr c
gated-reads (item.Reg signed width name) read c = inr c
gated-reads (item.Assign name value) read c = inr c
gated-reads (item.Always name first condition value) read c =
    elim (first-or-later enable read (condition_names condition ++ names_read value) (subst (λ (ns : List (List ℕ)). Contains (ns ++ names_read value) read) (condition-reads condition) c)) [
      | inl e ↦ inl (sym e)
      | inr after ↦ inr after
    ]

module _ (netlist : Circuit) (runs : IsNetlist netlist) (emits : IsEmittable netlist) (few : length netlist.nets < 2 ^ 64) where
  was-of : (k : ℕ) (i was : ModItem) → gated_item was ≡ i → IsOf netlist runs emits few k (item_name i) → IsOf netlist runs emits few k (item_name was)
  was-of k i was e (inl f) = inl (sym (gated-name was) ∙ ap item_name e ∙ f)
  was-of k i was e (inr f) = inr (sym (gated-name was) ∙ ap item_name e ∙ f)

  abbrev MayReadHere : ℕ → List ℕ → Type 0
  MayReadHere k read = MayRead netlist k (net_at netlist.nets k).kind read ⊎ (read ≡ codes "clk_enable")

  read-by : (k : ℕ) → k < length netlist.nets → (i : ModItem) → IsGated netlist runs emits few i ⊎ (shows_enable ≡ i) → IsOf netlist runs emits few k (item_name i)
      → (read : List ℕ) → Contains (item_reads i) read → MayReadHere k read
  read-by k h i (inl g) of read r =
      elim (gated-reads g.was read (subst (λ (x : ModItem). Contains (item_reads x) read) (sym g.is) r)) [
        | inl e ↦ inr e
        | inr c ↦ inl (reads-of netlist runs emits few k h g.was (origin netlist runs emits few g.was g.there) (was-of k i g.was g.is of) read c)
      ]
  read-by k h i (inr e) of read r = absurd (net-differs netlist runs emits few (codes "ce_out") refl k (item_name i) of (sym (ap item_name e)))

  register-was : (k from : ℕ) (value : Expr) (reset_value : Sized) (condition : Option Expr)
      → k < length netlist.nets → (frame : Frame) (slot : ℕ) (start : ℤ)
      → (net_at netlist.nets k).kind ≡ Reg frame slot start from
      → (i : ModItem) → Contains (items_of netlist) i → gated_item i ≡ item.Always (name_of netlist k) reset_value condition value → value ≡ expression.Name (name_of netlist from)
  register-was k from value reset_value condition h frame slot start is (item.Wire signed width name) c e = absurd (cc e)
  register-was k from value reset_value condition h frame slot start is (item.Reg signed width name) c e = absurd (cc e)
  register-was k from value reset_value condition h frame slot start is (item.Assign name own) c e = absurd (cc e)
  register-was k from value reset_value condition h frame slot start is (item.Always name first was own) c e =
      let a : name ≡ name_of netlist k = cc e in
      let b : own ≡ value = cc e in
      sym b ∙ register-by netlist runs emits few k from name first was own a h frame slot start is (origin netlist runs emits few (item.Always name first was own) c)

  register-from : (k from : ℕ) (value : Expr) (reset_value : Sized) (condition : Option Expr)
      → k < length netlist.nets → (frame : Frame) (slot : ℕ) (start : ℤ)
      → (net_at netlist.nets k).kind ≡ Reg frame slot start from
      → IsGated netlist runs emits few (item.Always (name_of netlist k) reset_value condition value) ⊎ (shows_enable ≡ item.Always (name_of netlist k) reset_value condition value)
      → value ≡ expression.Name (name_of netlist from)
  register-from k from value reset_value condition h frame slot start is (inl g) = register-was k from value reset_value condition h frame slot start is g.was g.there g.is
  register-from k from value reset_value condition h frame slot start is (inr e) = absurd (cc e)

  not-enabled : (output : NetPort) → Contains netlist.outputs output → output.name ≡ codes "ce_out" → ⊥
  not-enabled output c e = (emits.ports.names output (Contains-append_right netlist.inputs netlist.outputs output c)).no_enabled e

  shown-by : (output : NetPort) → Contains netlist.outputs output → (i : ModItem) → IsGated netlist runs emits few i ⊎ (shows_enable ≡ i) → item_name i ≡ output.name
      → i ≡ output_item (naming_of netlist) output
  shown-by output c i (inl g) e =
      sym g.is ∙ ap gated_item (output-by netlist runs emits few output c g.was (origin netlist runs emits few g.was g.there) (sym (gated-name g.was) ∙ ap item_name g.is ∙ e))
  shown-by output c i (inr f) e = absurd (not-enabled output c (sym e ∙ sym (ap item_name f)))

  not-own : (i : ModItem) → Origin netlist runs emits few i → item_name i ≡ codes "ce_out" → ⊥
  not-own i (Declaring k h c) e = net-differs netlist runs emits few (codes "ce_out") refl k (item_name i) (declarer-of netlist runs emits few k (net_at netlist.nets k).kind i c).0 e
  not-own i (Driving k h c) e = net-differs netlist runs emits few (codes "ce_out") refl k (item_name i) (driver-of netlist runs emits few k (net_at netlist.nets k).kind i c) e
  not-own i (Showing output c f) e = not-enabled output c (ap item_name f ∙ e)

  enable-by : (i : ModItem) → IsGated netlist runs emits few i ⊎ (shows_enable ≡ i) → item_name i ≡ codes "ce_out" → i ≡ shows_enable
  enable-by i (inl g) e = absurd (not-own g.was (origin netlist runs emits few g.was g.there) (sym (gated-name g.was) ∙ ap item_name g.is ∙ e))
  enable-by i (inr f) e = sym f

  pub reads-only : ReadsOnly netlist (module_of netlist)
  reads-only = record {
    nets = λ k h i c of read r. read-by k h i (item-where netlist runs emits few i c) of read r;
    registers = λ k h frame slot first from is reset_value condition value c.
        register-from k from value reset_value condition h frame slot first is (item-where netlist runs emits few (item.Always (name_of netlist k) reset_value condition value) c);
    outputs = λ output c i d e. shown-by output c i (item-where netlist runs emits few i d) e;
    enable = λ i c e. enable-by i (item-where netlist runs emits few i c) e;
  }
