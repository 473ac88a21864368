-- The rows of a module that has the core in it are, by the names that the core's have there, rows of the core.
use Rattle.std.proofs.Common.{◌≡◌, ℕ, ◌^◌, ◌<◌, ◌==◌, Bool, true, false, if◌then◌else◌, List, ◌++◌, Contains, codes, Option, Some, None, refl, sym, ap, subst, ◌∙◌}
use Rattle.std.proofs.lemmas.List.Elements.{Contains-append_left, Contains-append_right}
use Rattle.vl_ast.specs.declared.expressions.Sized.{Sized}
use Rattle.vl_ast.specs.declared.expressions.Expr.{Expr}
use Rattle.vl_ast.specs.declared.modules.ModItem.{ModItem}
use Rattle.vl_ast.specs.declared.modules.ModItem.TheVariants.{Assign, Always}
use Rattle.vl_ast.specs.declared.modules.Module.{Module}
use Rattle.vl_ast.specs.Conditions.{IsAcyclic}
use Rattle.vl_ast.specs.Context.{Net}
use Rattle.vl_ast.specs.Nets.{Declared, Declares, Drives, Reads, condition_names, declarations, mentions, names_read, net_or_none, nets_of}
use Rattle.vl_ast.specs.Runs.{Row, Rows, Runs, takes_value}
use Rattle.vl_ast.specs.Value.{assigned, assigned_number}
use Rattle.vl_ast.proofs.Facts.{always-drives, assign-drives, driven-declared, is-declared, listed-mention, mention-listed, read-declared, reads-of-always, reads-of-assign}
use Rattle.st_wrap.specs.inner.Names.{inner_name}
use Rattle.st_wrap.specs.inner.CoreNames.{renamed, renamed_condition, renamed_item}
use Rattle.st_wrap.proofs.Meanings.{assigned-renamed, true-renamed}

-- what the core declares is declared under its name there, with its width and sign
pub record IsThere (o : Module) (d : Declared) : Type 0 where
  pub other : Declared
  pub listed : Contains (declarations o) other
  pub name : other.name ≡ inner_name d.name
  pub net : other.net ≡ d.net

-- a module has the core in it
pub record Embeds (core o : Module) : Type 0 where
  pub items : (i : ModItem) → Contains core.items i → Contains o.items (renamed_item i)
  pub declared : (d : Declared) → Contains (declarations core) d → IsThere o d

-- rows by the names that the core's have there
abbrev pub inside : Rows → Rows
inside rows k name = rows k (inner_name name)

abbrev next-by : Row → List ℕ → ℕ → Sized → Bool → ℕ → ℕ
next-by row name width first takes given = if row (codes "reset") == 1 then assigned_number width first else (if takes then given else row name)

module _ (core o : Module) (small : IsAcyclic core) (large : IsAcyclic o) (has : Embeds core o) where
  declared-net : (d : Declared) → Contains (mentions core) (Declares d) → nets_of o (inner_name d.name) ≡ nets_of core d.name
  declared-net d h =
      let t = has.declared d (mention-listed core small.driven small.once d h) in
      let there : nets_of o t.other.name ≡ t.other.net = ap net_or_none (is-declared o large.driven large.once t.other (listed-mention o large.driven large.once t.other t.listed)) in
      let here : nets_of core d.name ≡ d.net = ap net_or_none (is-declared core small.driven small.once d h) in
      ap (nets_of o) (sym t.name) ∙ there ∙ t.net ∙ sym here

  pub read-net : (name : List ℕ) → Contains (mentions core) (Reads name) → nets_of o (inner_name name) ≡ nets_of core name
  read-net name h = let d = read-declared core small.driven small.once name h in subst (λ n. nets_of o (inner_name n) ≡ nets_of core n) d.2 (declared-net d.0 d.1)

  driven-net : (clocked : Bool) (name : List ℕ) → Contains (mentions core) (Drives clocked name) → nets_of o (inner_name name) ≡ nets_of core name
  driven-net clocked name h = let d = driven-declared core small.driven small.once clocked name h in subst (λ n. nets_of o (inner_name n) ≡ nets_of core n) d.2 (declared-net d.0 d.1)

  takes-same : (row : Row) (condition : Option Expr) → ((x : List ℕ) → Contains (condition_names condition) x → nets_of o (inner_name x) ≡ nets_of core x)
      → takes_value o row (renamed_condition condition) ≡ takes_value core (λ name. row (inner_name name)) condition
  takes-same row None same = refl
  takes-same row (Some condition) same = true-renamed (nets_of o) (nets_of core) row condition same

  pub core-runs : (count : ℕ) (start : Row) (inputs rows : Rows) → Runs o count start inputs rows
      → Runs core count (inside rows 0) (inside rows) (inside rows)
  core-runs count start inputs rows runs = record {
    fits = λ k below d h.
        let t = has.declared d h in
        subst (λ n. rows k n < 2 ^ d.net.width) t.name (subst (λ (n : Net). rows k t.other.name < 2 ^ n.width) t.net (runs.fits k below t.other t.listed));
    starts = λ some signed width name h. refl;
    driven = λ k below port h input. refl;
    assigns = λ k below name value h.
        runs.assigns k below (inner_name name) (renamed value) (has.items (Assign name value) h)
        ∙ ap (λ (net : Net). assigned (nets_of o) (rows k) net.width (renamed value)) (driven-net false name (assign-drives core small.driven small.once name value h))
        ∙ assigned-renamed (nets_of o) (nets_of core) (rows k) (nets_of core name).width value
        (λ x c. read-net x (reads-of-assign core small.driven small.once name x value h c));
    steps = λ k below name first condition value h.
        let read : (x : List ℕ) → Contains (condition_names condition ++ names_read value) x → nets_of o (inner_name x) ≡ nets_of core x =
        λ x c. read-net x (reads-of-always core small.driven small.once name x first condition value h c) in
        let width : (nets_of o (inner_name name)).width ≡ (nets_of core name).width =
        ap (λ (net : Net). net.width) (driven-net true name (always-drives core small.driven small.once name first condition value h)) in
        let takes = takes-same (rows k) condition (λ x c. read x (Contains-append_left (condition_names condition) (names_read value) x c)) in
        let gives = assigned-renamed (nets_of o) (nets_of core) (rows k) (nets_of core name).width value
        (λ x c. read x (Contains-append_right (condition_names condition) (names_read value) x c)) in
        runs.steps k below (inner_name name) first (renamed_condition condition) (renamed value) (has.items (Always name first condition value) h)
        ∙ ap (λ w. next-by (rows k) (inner_name name) w first (takes_value o (rows k) (renamed_condition condition)) (assigned (nets_of o) (rows k) w (renamed value))) width
        ∙ (λ i. next-by (rows k) (inner_name name) (nets_of core name).width first (takes i) (gives i));
  }
