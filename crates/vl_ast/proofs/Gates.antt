-- Of a module whose registers are gated by `clk_enable`: they keep their bits without it, a run with it in
-- every row is a run of the module that isn't gated, and no condition is broken by it.
use Rattle.std.proofs.Common.{◌≡◌, ◌<◌, ℕ, Bool, true, false, not, ◌&&◌, if◌then◌else◌, ◌==◌, List, [], ◌∷◌, ◌++◌, map, flat_map, find, Contains, bytes_eq, codes, Option, Some, None, refl, sym, ap}
use Rattle.std.proofs.Common.{subst, ◌∙◌, arith}
use Rattle.std.proofs.lemmas.List.Concat.{flat_map-append}
use Rattle.vl_ast.specs.declared.expressions.BinOp.TheVariants.{Both}
use Rattle.vl_ast.specs.declared.expressions.Sized.{Sized}
use Rattle.vl_ast.specs.declared.expressions.Expr.{Expr}
use Rattle.vl_ast.specs.declared.expressions.Expr.TheOpen.{Expr-F}
use Rattle.vl_ast.specs.declared.expressions.Expr.TheViews.{roll-Expr}
use Rattle.vl_ast.specs.declared.expressions.Expr.TheVariants.{Name, Binary, rolls-Name, rolls-Binary}
use Rattle.vl_ast.specs.declared.modules.ModItem.{ModItem}
use Rattle.vl_ast.specs.declared.modules.ModItem.TheVariants.{Wire, Reg, Assign, Always}
use Rattle.vl_ast.specs.declared.modules.Module.{Module}
use Rattle.vl_ast.specs.Context.{Net, own_length, is_signed}
use Rattle.vl_ast.specs.Gated.{gated, gated_item, gated_condition}
use Rattle.vl_ast.specs.Stalls.{KeepsBits}
use Rattle.vl_ast.specs.Nets.{Declared, Mention, Reads, port_declared, Declares, item_mentions, declared_by, declarations, net_or_none, nets_of, condition_names, names_read}
use Rattle.vl_ast.specs.Runs.{Row, Rows, Runs, next_bits, takes_value}
use Rattle.vl_ast.specs.Value.{extended, truth, is_true, assigned, assigned_number}
use Rattle.vl_ast.proofs.Layers.{value_by_layer}
use Rattle.vl_ast.proofs.Values.{is_signed-roll}
use Rattle.math_list.proofs.Elements.{map-in, from-map}

-- ---- conditions

abbrev pub enable : List ℕ
enable = codes "clk_enable"

pub truth-is : (b : Bool) → not (truth b == 0) ≡ b
truth-is true = refl
truth-is false = refl

and-true : (b : Bool) → (b && true) ≡ b
and-true true = refl
and-true false = refl

both-rolled : (nets : List ℕ → Net) (row : Row) (left right : Expr)
    → is_true nets row (roll-Expr (Expr-F.Binary Both left right)) ≡ (is_true nets row left && is_true nets row right)
both-rolled nets row left right =
    let e : Expr = roll-Expr (Expr-F.Binary Both left right) in
    ap (λ v. not (v == 0)) (value_by_layer nets row (own_length nets e) (is_signed nets e) (Expr-F.Binary Both left right))
    ∙ truth-is (is_true nets row left && is_true nets row right)

both-true : (nets : List ℕ → Net) (row : Row) (left right : Expr) → is_true nets row (Binary Both left right) ≡ (is_true nets row left && is_true nets row right)
both-true nets row left right = ap (is_true nets row) (sym (rolls-Binary Both left right)) ∙ both-rolled nets row left right

name-rolled : (nets : List ℕ → Net) (row : Row) (name : List ℕ) → (nets name).signed ≡ false → is_true nets row (roll-Expr (Expr-F.Name name)) ≡ not (row name == 0)
name-rolled nets row name plain =
    let e : Expr = roll-Expr (Expr-F.Name name) in
    let sign : is_signed nets e ≡ false = is_signed-roll nets (Expr-F.Name name) ∙ plain in
    ap (λ v. not (v == 0)) (value_by_layer nets row (own_length nets e) (is_signed nets e) (Expr-F.Name name))
    ∙ ap (λ s. not (extended (record { width = (nets name).width; signed = s; bits = row name }) (own_length nets e) == 0)) sign

name-true : (nets : List ℕ → Net) (row : Row) (name : List ℕ) → (nets name).signed ≡ false → is_true nets row (Name name) ≡ not (row name == 0)
name-true nets row name plain = ap (is_true nets row) (sym (rolls-Name name)) ∙ name-rolled nets row name plain

gated-true : (m : Module) (row : Row) (condition : Option Expr) → (nets_of m enable).signed ≡ false
    → is_true (nets_of m) row (gated_condition condition) ≡ (not (row enable == 0) && takes_value m row condition)
gated-true m row None plain = name-true (nets_of m) row enable plain ∙ sym (and-true (not (row enable == 0)))
gated-true m row (Some condition) plain =
    both-true (nets_of m) row (Name enable) condition ∙ ap (λ b. b && is_true (nets_of m) row condition) (name-true (nets_of m) row enable plain)

-- ---- declarations

none-of-reads : (names : List (List ℕ)) → flat_map declared_by (map Reads names) ≡ []
none-of-reads [] = refl
none-of-reads (name ∷ names) = none-of-reads names

item-declares : (item : ModItem) → flat_map declared_by (item_mentions (gated_item item)) ≡ flat_map declared_by (item_mentions item)
item-declares (Wire signed width name) = refl
item-declares (Reg signed width name) = refl
item-declares (Assign name value) = refl
item-declares (Always name first condition value) =
    none-of-reads (names_read (gated_condition condition) ++ names_read value) ∙ sym (none-of-reads (condition_names condition ++ names_read value))

items-declare : (items : List ModItem) → flat_map declared_by (flat_map item_mentions (map gated_item items)) ≡ flat_map declared_by (flat_map item_mentions items)
items-declare [] = refl
items-declare (item ∷ items) =
    flat_map-append declared_by (item_mentions (gated_item item)) (flat_map item_mentions (map gated_item items))
    ∙ (λ i. item-declares item i ++ items-declare items i)
    ∙ sym (flat_map-append declared_by (item_mentions item) (flat_map item_mentions items))

pub gated-declares : (m : Module) → declarations (gated m) ≡ declarations m
gated-declares m =
    let ports : List Mention = map (λ port. Declares (port_declared port)) m.ports in
    flat_map-append declared_by ports (flat_map item_mentions (map gated_item m.items))
    ∙ ap (λ ds. flat_map declared_by ports ++ ds) (items-declare m.items)
    ∙ sym (flat_map-append declared_by ports (flat_map item_mentions m.items))

pub gated-nets : (m : Module) → nets_of (gated m) ≡ nets_of m
gated-nets m = ap {B = List ℕ → Net} (λ (ds : List Declared) (name : List ℕ). net_or_none (find (λ declared. bytes_eq declared.name name) ds)) (gated-declares m)

-- ---- rows

abbrev next-by : (List ℕ → Net) → Row → List ℕ → Sized → Bool → Expr → ℕ
next-by nets row name first takes value =
    if row (codes "reset") == 1 then assigned_number (nets name).width first
    else (if takes then assigned nets row (nets name).width value else row name)

gated-next : (m : Module) (row : Row) (name : List ℕ) (first : Sized) (condition : Option Expr) (value : Expr) → (nets_of m enable).signed ≡ false
    → next_bits (gated m) row name first (Some (gated_condition condition)) value
    ≡ next-by (nets_of m) row name first (not (row enable == 0) && takes_value m row condition) value
gated-next m row name first condition value plain =
    ap (λ (nets : List ℕ → Net). next-by nets row name first (is_true nets row (gated_condition condition)) value) (gated-nets m)
    ∙ ap (λ t. next-by (nets_of m) row name first t value) (gated-true m row condition plain)

record OfAlways (item : ModItem) (name : List ℕ) (first : Sized) (condition : Option Expr) (value : Expr) : Type 0 where
  was : Option Expr
  item_is : item ≡ Always name first was value
  is : condition ≡ Some (gated_condition was)

of-always : (item : ModItem) (name : List ℕ) (first : Sized) (condition : Option Expr) (value : Expr) → gated_item item ≡ Always name first condition value
    → OfAlways item name first condition value
of-always (Wire signed width n) name first condition value e = absurd (cc e)
of-always (Reg signed width n) name first condition value e = absurd (cc e)
of-always (Assign n v) name first condition value e = absurd (cc e)
of-always (Always n f c v) name first condition value e =
    let a : n ≡ name = cc e in
    let b : f ≡ first = cc e in
    let d : v ≡ value = cc e in
    let g : Some (gated_condition c) ≡ condition = cc e in
    record { was = c; item_is = λ i. Always (a i) (b i) c (d i); is = sym g }

module _ (m : Module) (plain : (nets_of m enable).signed ≡ false) where
  pub gated-keeps : KeepsBits (gated m)
  gated-keeps = record {
    at = λ inputs row is released off name first condition value h.
        let i = from-map gated_item m.items (Always name first condition value) h in
        let o = of-always i.0 name first condition value i.2 in
        ap (λ c. next_bits (gated m) row name first c value) o.is
        ∙ gated-next m row name first o.was value plain
        ∙ ap (λ r. if r == 1 then assigned_number (nets_of m name).width first else
        (if not (row enable == 0) && takes_value m row o.was then assigned (nets_of m) row
        (nets_of m name).width value else row name)) released
        ∙ ap (λ e. if not (e == 0) && takes_value m row o.was then assigned (nets_of m) row (nets_of m name).width value else row name) off;
  }

  pub gated-runs : (count : ℕ) (start : Row) (inputs rows : Rows) → Runs (gated m) count start inputs rows → ((k : ℕ) → k < count → rows k enable ≡ 1)
      → Runs m count start inputs rows
  gated-runs count start inputs rows runs on = record {
    fits = λ k below d h. runs.fits k below d (subst (λ ds. Contains ds d) (sym (gated-declares m)) h);
    starts = λ some signed width name h. runs.starts some signed width name (map-in gated_item m.items (Reg signed width name) h);
    driven = λ k below port h input. runs.driven k below port h input;
    assigns = λ k below name value h.
        runs.assigns k below name value (map-in gated_item m.items (Assign name value) h)
        ∙ ap (λ (nets : List ℕ → Net). assigned nets (rows k) (nets name).width value) (gated-nets m);
    steps = λ k below name first condition value h.
        runs.steps k below name first (Some (gated_condition condition)) value (map-in gated_item m.items (Always name first condition value) h)
        ∙ gated-next m (rows k) name first condition value plain
        ∙ ap (λ e. next-by (nets_of m) (rows k) name first (not (e == 0) && takes_value m (rows k) condition) value) (on k (omega (arith, below)));
  }
