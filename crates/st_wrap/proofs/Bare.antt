-- The wrapper's own items multiply nothing, so it has as many multiplications as the core.
use Rattle.std.proofs.Common.{◌≡◌, ℕ, ◌+◌, max, Bool, true, false, ◌&&◌, if◌then◌else◌, List, [], ◌∷◌, ◌++◌, map, flat_map, length, codes, Some, refl, sym, ap, ◌∙◌}
use Rattle.std.specs.List.{range_with_len}
use Rattle.std.proofs.lemmas.List.{append-nil}
use Rattle.std.proofs.lemmas.List.Concat.{flat_map-append}
use Rattle.std.proofs.lemmas.List.Folds.{flat_map-map}
use Rattle.vl_ast.specs.declared.expressions.UnOp.{UnOp}
use Rattle.vl_ast.specs.declared.expressions.UnOp.TheVariants.{IsZero}
use Rattle.vl_ast.specs.declared.expressions.BinOp.{BinOp}
use Rattle.vl_ast.specs.declared.expressions.BinOp.TheVariants.{Add, Subtract, Equal, Both, Either}
use Rattle.vl_ast.specs.declared.expressions.Sized.{Sized}
use Rattle.vl_ast.specs.declared.expressions.Expr.{Expr}
use Rattle.vl_ast.specs.declared.expressions.Expr.TheOpen.{Expr-F}
use Rattle.vl_ast.specs.declared.expressions.Expr.TheVariants.{Name, Literal, Unary, Binary, Choose, rolls-Name, rolls-Literal, rolls-Unary, rolls-Binary, rolls-Choose}
use Rattle.vl_ast.specs.declared.expressions.Expr.TheViews.{roll-Expr}
use Rattle.vl_ast.specs.declared.expressions.Expr.TheFolds.{map-Expr, para-Expr, para-roll-Expr}
use Rattle.vl_ast.specs.declared.modules.ModItem.{ModItem}
use Rattle.vl_ast.specs.declared.modules.ModItem.TheVariants.{Wire, Assign, Always}
use Rattle.vl_ast.specs.declared.modules.Port.{Port}
use Rattle.vl_ast.specs.declared.modules.Module.{Module}
use Rattle.vl_ast.specs.Context.{Net, Place, InWhole, Together, Alone, Operand, operand_at, unary_place, binary_place, own_length, is_signed}
use Rattle.vl_ast.specs.Multiplications.{Multiplication, item_multiplications, multiplications, multiplications_in, multiplications_step, product_of}
use Rattle.vl_ast.specs.Nets.{nets_of}
use Rattle.st_wrap.specs.declared.columns.Column.{Column}
use Rattle.st_wrap.specs.declared.pace.Counters.{Counters}
use Rattle.st_wrap.specs.inner.Columns.{held_declared, held_driven, late_declared, late_driven, moving, plain, stage_declared, stage_driven, stage_name}
use Rattle.st_wrap.specs.inner.Control.{both, control_declared, control_driven, is_due_now, is_last, is_zero, next_phase, next_wait, number, unless}
use Rattle.st_wrap.specs.inner.Names.{begin_name, end_name, due_name, fed_name, open_name, enable_name, held_name, inner_name, is_shared, late_name, phase_name, wait_name}
use Rattle.st_wrap.specs.inner.CoreNames.{core_items, wires_for, wires_of}
use Rattle.st_wrap.specs.inner.Wrapper.{declared_items, driven_items, items_of, made_of}
use Rattle.st_wrap.proofs.Products.{items-alike}

-- nothing in one part and nothing in another
none-both : {A : Type 0} (a b : List A) → a ≡ [] → b ≡ [] → a ++ b ≡ []
none-both a b e f = (λ i. e i ++ f i)

-- nothing for each of a list
flat-none : {A B : Type 0} (f : A → List B) (xs : List A) → ((x : A) → f x ≡ []) → flat_map f xs ≡ []
flat-none f [] none = refl
flat-none f (x ∷ xs) none = none-both (f x) (flat_map f xs) (none x) (flat-none f xs none)

module _ (nets : List ℕ → Net) where
  abbrev of : Expr → Operand (List Multiplication)
  of e = (e, para-Expr (ℕ → Bool → List Multiplication) (multiplications_step nets) e)

  roll-by : (layer : Expr-F Expr) (width : ℕ) (signed : Bool)
      → multiplications_in nets width signed (roll-Expr layer) ≡ multiplications_step nets (map-Expr Expr (Operand (List Multiplication)) of layer) width signed
  roll-by layer width signed = ap (λ (f : ℕ → Bool → List Multiplication). f width signed) (para-roll-Expr (ℕ → Bool → List Multiplication) (multiplications_step nets) layer)

  -- an expression without multiplications
  record IsBare (e : Expr) : Type 0 where
    none : (w : ℕ) (s : Bool) → multiplications_in nets w s e ≡ []

  bare-Name : (x : List ℕ) → IsBare (Name x)
  bare-Name x = record { none = λ w s. ap (multiplications_in nets w s) (sym (rolls-Name x)) ∙ roll-by (Expr-F.Name x) w s }

  bare-Literal : (n : Sized) → IsBare (Literal n)
  bare-Literal n = record { none = λ w s. ap (multiplications_in nets w s) (sym (rolls-Literal n)) ∙ roll-by (Expr-F.Literal n) w s }

  at-place : (place : Place) (w : ℕ) (s : Bool) (a b : Expr) → IsBare a → operand_at nets place w s (of a) (of b) ≡ []
  at-place InWhole w s a b p = p.none w s
  at-place Together w s a b p = p.none (max (own_length nets a) (own_length nets b)) (is_signed nets a && is_signed nets b)
  at-place Alone w s a b p = p.none (own_length nets a) (is_signed nets a)

  bare-Unary : (op : UnOp) (e : Expr) → IsBare e → IsBare (Unary op e)
  bare-Unary op e p = record { none = λ w s. ap (multiplications_in nets w s) (sym (rolls-Unary op e)) ∙ roll-by (Expr-F.Unary op e) w s ∙ at-place (unary_place op) w s e e p }

  bare-Binary : (op : BinOp) (l r : Expr) → ((p : Multiplication) → product_of op p ≡ []) → IsBare l → IsBare r → IsBare (Binary op l r)
  bare-Binary op l r nothing p q = record {
    none = λ w s.
        let here : Multiplication = record { left = l; right = r; width = w; signed = s } in
        ap (multiplications_in nets w s) (sym (rolls-Binary op l r)) ∙ roll-by (Expr-F.Binary op l r) w s
        ∙ (λ i. at-place (binary_place op) w s l r p i ++ (nothing here i ++ at-place (binary_place op) w s r l q i));
  }

  bare-Choose : (t c o : Expr) → IsBare t → IsBare c → IsBare o → IsBare (Choose t c o)
  bare-Choose t c o p q r = record {
    none = λ w s.
        ap (multiplications_in nets w s) (sym (rolls-Choose t c o)) ∙ roll-by (Expr-F.Choose t c o) w s
        ∙ (λ i. p.none (own_length nets t) (is_signed nets t) i ++ (q.none w s i ++ r.none w s i));
  }

  bare-zero : (x : List ℕ) → IsBare (is_zero x)
  bare-zero x = bare-Unary IsZero (Name x) (bare-Name x)

  bare-both : (x y : List ℕ) → IsBare (both x y)
  bare-both x y = bare-Binary Both (Name x) (Name y) (λ p. refl) (bare-Name x) (bare-Name y)

  assign-none : (name : List ℕ) (e : Expr) → IsBare e → item_multiplications nets (Assign name e) ≡ []
  assign-none name e p = p.none (max (nets name).width (own_length nets e)) (is_signed nets e)

  always-none : (name : List ℕ) (first : Sized) (c e : Expr) → IsBare c → IsBare e → item_multiplications nets (Always name first (Some c) e) ≡ []
  always-none name first c e p q = (λ i. p.none (own_length nets c) (is_signed nets c) i ++ q.none (max (nets name).width (own_length nets e)) (is_signed nets e) i)

  control-none : (counters : Counters) → flat_map (item_multiplications nets) (control_driven counters) ≡ []
  control-none counters =
      let a1 = assign-none begin_name (is_zero phase_name) (bare-zero phase_name) in
      let a2 = assign-none end_name (is_last counters.phase)
      (bare-Binary Equal (Name phase_name) (number counters.phase.width counters.phase.most) (λ p. refl) (bare-Name phase_name) (bare-Literal (plain counters.phase.width counters.phase.most))) in
      let a3 = assign-none due_name is_due_now (bare-Binary Both (Name end_name) (is_zero wait_name) (λ p. refl) (bare-Name end_name) (bare-zero wait_name)) in
      let a4 = assign-none fed_name (unless begin_name (codes "in_valid"))
      (bare-Binary Either (is_zero begin_name) (Name (codes "in_valid")) (λ p. refl) (bare-zero begin_name)
      (bare-Name (codes "in_valid"))) in
      let a5 = assign-none open_name (unless due_name (codes "out_ready"))
      (bare-Binary Either (is_zero due_name) (Name (codes "out_ready")) (λ p. refl) (bare-zero due_name)
      (bare-Name (codes "out_ready"))) in
      let a6 = assign-none enable_name (both fed_name open_name) (bare-both fed_name open_name) in
      let a7 = assign-none (codes "in_ready") (both begin_name open_name) (bare-both begin_name open_name) in
      let a8 = assign-none (codes "out_valid") (both due_name fed_name) (bare-both due_name fed_name) in
      let more = bare-Binary Add (Name phase_name) (number counters.phase.width 1) (λ p. refl) (bare-Name phase_name) (bare-Literal (plain counters.phase.width 1)) in
      let fewer = bare-Binary Subtract (Name wait_name) (number counters.wait.width 1) (λ p. refl) (bare-Name wait_name) (bare-Literal (plain counters.wait.width 1)) in
      let a9 = always-none phase_name (plain counters.phase.width 0) (Name enable_name) (next_phase counters.phase) (bare-Name enable_name)
      (bare-Choose (Name end_name) (number counters.phase.width 0)
      (Binary Add (Name phase_name) (number counters.phase.width 1)) (bare-Name end_name)
      (bare-Literal (plain counters.phase.width 0)) more) in
      let a10 = always-none wait_name (plain counters.wait.width counters.wait.most) (moving end_name) (next_wait counters.wait) (bare-both enable_name end_name)
      (bare-Choose (Name wait_name) (Binary Subtract (Name wait_name) (number counters.wait.width 1))
      (number counters.wait.width 0) (bare-Name wait_name) fewer
      (bare-Literal (plain counters.wait.width 0))) in
      (λ i. a1 i ++ (a2 i ++ (a3 i ++ (a4 i ++ (a5 i ++ (a6 i ++ (a7 i ++ (a8 i ++ (a9 i ++ (a10 i ++ []))))))))))

  held-none : (column : Column) → flat_map (item_multiplications nets) (held_driven column) ≡ []
  held-none column =
      let a = assign-none (inner_name column.inner) (Choose (Name begin_name) (Name column.name) (Name (held_name column.name)))
      (bare-Choose (Name begin_name) (Name column.name) (Name (held_name column.name)) (bare-Name begin_name) (bare-Name column.name) (bare-Name (held_name column.name))) in
      let b = always-none (held_name column.name) (plain column.width 0) (moving begin_name) (Name column.name) (bare-both enable_name begin_name) (bare-Name column.name) in
      (λ i. a i ++ (b i ++ []))

  stage-none : (column : Column) (place : ℕ) → item_multiplications nets (stage_driven column place) ≡ []
  stage-none column place =
      always-none (late_name column.name (place + 1)) (plain column.width 0) (moving end_name) (Name (stage_name column place)) (bare-both enable_name end_name) (bare-Name (stage_name column place))

  late-none : (column : Column) → flat_map (item_multiplications nets) (late_driven column) ≡ []
  late-none column =
      let stages : List ModItem = map (stage_driven column) (range_with_len 0 column.late) in
      let shown : ModItem = Assign column.name (Name (stage_name column column.late)) in
      flat_map-append (item_multiplications nets) stages (shown ∷ [])
      ∙ none-both (flat_map (item_multiplications nets) stages) (item_multiplications nets shown ++ [])
      (flat_map-map (item_multiplications nets) (stage_driven column) (range_with_len 0 column.late)
      ∙ flat-none (λ place. item_multiplications nets (stage_driven column place))
      (range_with_len 0 column.late) (stage-none column))
      (none-both (item_multiplications nets shown) [] (assign-none column.name (Name (stage_name column column.late)) (bare-Name (stage_name column column.late))) refl)

  -- nothing for each of a list of lists
  nested-none : {A : Type 0} (f : A → List ModItem) (xs : List A) → ((x : A) → flat_map (item_multiplications nets) (f x) ≡ []) → flat_map (item_multiplications nets) (flat_map f xs) ≡ []
  nested-none f [] none = refl
  nested-none f (x ∷ xs) none =
      flat_map-append (item_multiplications nets) (f x) (flat_map f xs)
      ∙ none-both (flat_map (item_multiplications nets) (f x)) (flat_map (item_multiplications nets) (flat_map f xs)) (none x) (nested-none f xs none)

  wire-none : (port : Port) → flat_map (item_multiplications nets) (wires_for port) ≡ []
  wire-none port = by (is_shared port.name) where
    by : (b : Bool) → flat_map (item_multiplications nets) (if b then [] else Wire port.signed port.width (inner_name port.name) ∷ []) ≡ []
    by true = refl
    by false = refl

  late-declared-none : (column : Column) → flat_map (item_multiplications nets) (late_declared column) ≡ []
  late-declared-none column =
      flat_map-map (item_multiplications nets) (stage_declared column) (range_with_len 0 column.late)
      ∙ flat-none (λ place. item_multiplications nets (stage_declared column place)) (range_with_len 0 column.late) (λ place. refl)

  two-none : (xs ys : List ModItem) → flat_map (item_multiplications nets) xs ≡ [] → flat_map (item_multiplications nets) ys ≡ [] → flat_map (item_multiplications nets) (xs ++ ys) ≡ []
  two-none xs ys e f = flat_map-append (item_multiplications nets) xs ys ∙ none-both (flat_map (item_multiplications nets) xs) (flat_map (item_multiplications nets) ys) e f

  module _ (core : Module) (counters : Counters) (inputs outputs : List Column) where
    declared-none : flat_map (item_multiplications nets) (declared_items core counters inputs outputs) ≡ []
    declared-none =
        two-none (wires_of core) (control_declared counters ++ (flat_map held_declared inputs ++ flat_map late_declared outputs)) (nested-none wires_for core.ports wire-none)
        (two-none (control_declared counters) (flat_map held_declared inputs ++ flat_map late_declared outputs) refl
        (two-none (flat_map held_declared inputs) (flat_map late_declared outputs)
        (nested-none held_declared inputs (λ column. refl)) (nested-none late_declared outputs late-declared-none)))

    driven-none : flat_map (item_multiplications nets) (driven_items counters inputs outputs) ≡ []
    driven-none =
        two-none (control_driven counters) (flat_map held_driven inputs ++ flat_map late_driven outputs) (control-none counters)
        (two-none (flat_map held_driven inputs) (flat_map late_driven outputs) (nested-none held_driven inputs held-none) (nested-none late_driven outputs late-none))

    pub items-are : flat_map (item_multiplications nets) (items_of core counters inputs outputs) ≡ flat_map (item_multiplications nets) (core_items core)
    items-are =
        flat_map-append (item_multiplications nets) (declared_items core counters inputs outputs) (core_items core ++ driven_items counters inputs outputs)
        ∙ (λ i. declared-none i ++ flat_map-append (item_multiplications nets) (core_items core) (driven_items counters inputs outputs) i)
        ∙ ap (λ xs. flat_map (item_multiplications nets) (core_items core) ++ xs) driven-none
        ∙ append-nil (flat_map (item_multiplications nets) (core_items core))

pub same-products : (core : Module) (counters : Counters) (inputs outputs : List Column) → length (multiplications (made_of core counters inputs outputs)) ≡ length (multiplications core)
same-products core counters inputs outputs =
    let m : Module = made_of core counters inputs outputs in
    ap length (items-are (nets_of m) core counters inputs outputs) ∙ items-alike (nets_of m) (nets_of core) core.items
