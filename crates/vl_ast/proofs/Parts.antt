-- The rows of a module are rows of one that has some of its ports and items.
use Rattle.std.proofs.Common.{◌≡◌, ⊎_elim, ℕ, Bool, true, false, if◌then◌else◌, ◌==◌, List, ◌++◌, map, flat_map, Contains, codes, Option, Some, None, refl, sym, ap, subst, ◌∙◌}
use Rattle.std.proofs.lemmas.List.Elements.{Contains-append_left, Contains-append_right, Contains-append_cases}
use Rattle.vl_ast.specs.declared.expressions.Sized.{Sized}
use Rattle.vl_ast.specs.declared.expressions.Expr.{Expr}
use Rattle.vl_ast.specs.declared.modules.ModItem.TheVariants.{Reg, Assign, Always}
use Rattle.vl_ast.specs.declared.modules.Port.{Port}
use Rattle.vl_ast.specs.declared.modules.Module.{Module}
use Rattle.vl_ast.specs.Conditions.{IsAcyclic}
use Rattle.vl_ast.specs.Gated.{HasAllOf}
use Rattle.vl_ast.specs.Context.{Net}
use Rattle.vl_ast.specs.Nets.{Declared, Mention, Declares, Drives, Reads, port_declared, item_mentions, mentions, nets_of, names_read, condition_names}
use Rattle.vl_ast.specs.Runs.{Row, Rows, Runs, takes_value}
use Rattle.vl_ast.specs.Value.{assigned, assigned_number}
use Rattle.vl_ast.proofs.Agree.{ByLayer}
use Rattle.vl_ast.proofs.Facts.{in-item, listed-mention, mention-listed, read-declared, driven-declared, assign-drives, always-drives, reads-of-assign, reads-of-always}
use Rattle.vl_ast.proofs.NetsAgree.{assigned-same, true-same}
use Rattle.math_list.proofs.Elements.{map-in, from-map, from-flat}
use Rattle.vl_ast.proofs.OneRun.{net-is}

abbrev next-by : Row → List ℕ → ℕ → Sized → Bool → ℕ → ℕ
next-by row name width first takes given = if row (codes "reset") == 1 then assigned_number width first else (if takes then given else row name)

module _ (by_layer : ByLayer) (m o : Module) (small : IsAcyclic m) (large : IsAcyclic o) (has : HasAllOf m o) where
  abbrev declares : Port → Mention
  declares port = Declares (port_declared port)

  mention-there : (x : Mention) → Contains (mentions m) x → Contains (mentions o) x
  mention-there x h = ⊎_elim
      (λ p.
      let r = from-map declares m.ports x p in
      Contains-append_left (map declares o.ports) (flat_map item_mentions o.items) x
      (subst (λ z. Contains (map declares o.ports) z) r.2 (map-in declares o.ports r.0 (has.ports r.0 r.1))))
      (λ q. let r = from-flat item_mentions m.items x q in in-item o large.driven large.once r.0 x (has.items r.0 r.1) r.2)
      (Contains-append_cases (map declares m.ports) (flat_map item_mentions m.items) x h)

  -- what is declared of a name that is declared in the small module
  same-net : (d : Declared) → Contains (mentions m) (Declares d) → nets_of o d.name ≡ nets_of m d.name
  same-net d h =
      net-is by_layer o large.driven large.once large.acyclic d (mention-there (Declares d) h)
      ∙ sym (net-is by_layer m small.driven small.once small.acyclic d h)

  pub read-net : (name : List ℕ) → Contains (mentions m) (Reads name) → nets_of o name ≡ nets_of m name
  read-net name h = let d = read-declared m small.driven small.once name h in subst (λ n. nets_of o n ≡ nets_of m n) d.2 (same-net d.0 d.1)

  driven-net : (clocked : Bool) (name : List ℕ) → Contains (mentions m) (Drives clocked name) → nets_of o name ≡ nets_of m name
  driven-net clocked name h = let d = driven-declared m small.driven small.once clocked name h in subst (λ n. nets_of o n ≡ nets_of m n) d.2 (same-net d.0 d.1)

  takes-same : (row : Row) (condition : Option Expr) → ((x : List ℕ) → Contains (condition_names condition) x → nets_of o x ≡ nets_of m x)
      → takes_value o row condition ≡ takes_value m row condition
  takes-same row None same = refl
  takes-same row (Some condition) same = true-same by_layer (nets_of o) (nets_of m) row condition same

  pub part-runs : (count : ℕ) (start : Row) (inputs rows : Rows) → Runs o count start inputs rows → Runs m count start inputs rows
  part-runs count start inputs rows runs = record {
    fits = λ k below d h. runs.fits k below d
        (mention-listed o large.driven large.once d (mention-there (Declares d) (listed-mention m small.driven small.once d h)));
    starts = λ some signed width name h. runs.starts some signed width name (has.items (Reg signed width name) h);
    driven = λ k below port h input. runs.driven k below port (has.ports port h) input;
    assigns = λ k below name value h.
        runs.assigns k below name value (has.items (Assign name value) h)
        ∙ ap (λ (net : Net). assigned (nets_of o) (rows k) net.width value) (driven-net false name (assign-drives m small.driven small.once name value h))
        ∙ assigned-same by_layer (nets_of o) (nets_of m) (rows k) (nets_of m name).width value
        (λ x c. read-net x (reads-of-assign m small.driven small.once name x value h c));
    steps = λ k below name first condition value h.
        let read : (x : List ℕ) → Contains (condition_names condition ++ names_read value) x → nets_of o x ≡ nets_of m x =
        λ x c. read-net x (reads-of-always m small.driven small.once name x first condition value h c) in
        let width : (nets_of o name).width ≡ (nets_of m name).width =
        ap (λ (net : Net). net.width) (driven-net true name (always-drives m small.driven small.once name first condition value h)) in
        let takes = takes-same (rows k) condition (λ x c. read x (Contains-append_left (condition_names condition) (names_read value) x c)) in
        let gives = assigned-same by_layer (nets_of o) (nets_of m) (rows k) (nets_of m name).width value
        (λ x c. read x (Contains-append_right (condition_names condition) (names_read value) x c)) in
        runs.steps k below name first condition value (has.items (Always name first condition value) h)
        ∙ ap (λ w. next-by (rows k) name w first (takes_value o (rows k) condition) (assigned (nets_of o) (rows k) w value)) width
        ∙ (λ i. next-by (rows k) name (nets_of m name).width first (takes i) (gives i));
  }
