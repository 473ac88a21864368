-- The names that the wrapper's expressions read, and the places of names in its own items.
use Rattle.std.proofs.Common.{◌≡◌, ℕ, ◌+◌, true, false, List, [], ◌∷◌, ◌++◌, map, flat_map, codes, Option, Some, None, refl, sym, ap, subst, ◌∙◌}
use Rattle.std.proofs.lemmas.List.{map-append}
use Rattle.vl_ast.specs.declared.expressions.UnOp.{UnOp}
use Rattle.vl_ast.specs.declared.expressions.BinOp.{BinOp}
use Rattle.vl_ast.specs.declared.expressions.UnOp.TheVariants.{IsZero}
use Rattle.vl_ast.specs.declared.expressions.BinOp.TheVariants.{Add, Subtract, Equal, Both, Either}
use Rattle.vl_ast.specs.declared.expressions.Sized.{Sized}
use Rattle.vl_ast.specs.declared.expressions.Expr.{Expr}
use Rattle.vl_ast.specs.declared.expressions.Expr.TheOpen.{Expr-F}
use Rattle.vl_ast.specs.declared.expressions.Expr.TheVariants.{Name, Literal, Unary, Binary, Choose, rolls-Name, rolls-Literal, rolls-Unary}
use Rattle.vl_ast.specs.declared.expressions.Expr.TheViews.{roll-Expr}
use Rattle.vl_ast.specs.declared.expressions.Expr.TheFolds.{map-Expr, fold-roll-Expr, ind-Expr}
use Rattle.vl_ast.specs.declared.modules.ModItem.{ModItem}
use Rattle.vl_ast.specs.declared.modules.ModItem.TheVariants.{Wire, Reg, Assign, Always}
use Rattle.vl_ast.specs.Nets.{Mention, Declares, Drives, Reads, Clocks, condition_names, item_mentions, names_read, names_step}
use Rattle.st_wrap.specs.declared.columns.Column.{Column}
use Rattle.st_wrap.specs.declared.pace.Counters.{Counters}
use Rattle.st_wrap.specs.inner.Columns.{held_driven, plain, stage_driven, stage_name}
use Rattle.st_wrap.specs.inner.Control.{both, control_driven, is_due_now, is_zero, number, unless}
use Rattle.st_wrap.specs.inner.Names.{begin_name, end_name, due_name, fed_name, open_name, enable_name, held_name, inner_name, late_name, phase_name, wait_name}
use Rattle.st_wrap.specs.inner.CoreNames.{renamed, renamed_condition, renamed_item}
use Rattle.vl_ast.proofs.Copies.{reads-Name}
use Rattle.st_wrap.proofs.Meanings.{relabelled, renamed-rolls}
use Rattle.vl_check.proofs.ExpressionNames.{names-binary, names-choose}

abbrev Names : Type 0
Names = List (List ℕ)

pub reads-Literal : (n : Sized) → names_read (Literal n) ≡ []
reads-Literal n = ap names_read (sym (rolls-Literal n)) ∙ fold-roll-Expr (List (List ℕ)) names_step (Expr-F.Literal n)

pub reads-Unary : (op : UnOp) (e : Expr) → names_read (Unary op e) ≡ names_read e
reads-Unary op e = ap names_read (sym (rolls-Unary op e)) ∙ fold-roll-Expr (List (List ℕ)) names_step (Expr-F.Unary op e)

pub reads-zero : (x : List ℕ) → names_read (is_zero x) ≡ x ∷ []
reads-zero x = reads-Unary IsZero (Name x) ∙ reads-Name x

pub reads-both : (x y : List ℕ) → names_read (both x y) ≡ x ∷ y ∷ []
reads-both x y = names-binary Both (Name x) (Name y) ∙ (λ i. reads-Name x i ++ reads-Name y i)

pub reads-unless : (x y : List ℕ) → names_read (unless x y) ≡ x ∷ y ∷ []
reads-unless x y = names-binary Either (is_zero x) (Name y) ∙ (λ i. reads-zero x i ++ reads-Name y i)

pub reads-counted : (op : BinOp) (x : List ℕ) (w b : ℕ) → names_read (Binary op (Name x) (number w b)) ≡ x ∷ []
reads-counted op x w b = names-binary op (Name x) (number w b) ∙ (λ i. reads-Name x i ++ reads-Literal (plain w b) i)

pub reads-chosen : (t x y : List ℕ) → names_read (Choose (Name t) (Name x) (Name y)) ≡ t ∷ x ∷ y ∷ []
reads-chosen t x y = names-choose (Name t) (Name x) (Name y) ∙ (λ i. reads-Name t i ++ (reads-Name x i ++ reads-Name y i))

-- ---- the core's expressions

abbrev Known : Type 0
Known = (e : Expr) × (names_read (renamed e) ≡ map inner_name (names_read e))

each : (parts : List Known) → flat_map (λ part. part) (map names_read (map renamed (map (λ p. p.0) parts)))
    ≡ map inner_name (flat_map (λ part. part) (map names_read (map (λ p. p.0) parts)))
each [] = refl
each (part ∷ parts) =
    let rest = flat_map (λ part. part) (map names_read (map (λ (p : Known). p.0) parts)) in
    (λ i. part.1 i ++ each parts i) ∙ sym (map-append inner_name (names_read part.0) rest)

two : (a b : Known) → names_read (renamed a.0) ++ names_read (renamed b.0) ≡ map inner_name (names_read a.0 ++ names_read b.0)
two a b = (λ i. a.1 i ++ b.1 i) ∙ sym (map-append inner_name (names_read a.0) (names_read b.0))

step : (y : Expr-F Known)
    → names_step (map-Expr Expr (List (List ℕ)) names_read (relabelled (map-Expr Expr Expr renamed (map-Expr Known Expr (λ p. p.0) y))))
    ≡ map inner_name (names_step (map-Expr Expr (List (List ℕ)) names_read (map-Expr Known Expr (λ p. p.0) y)))
step (Expr-F.Name name) = refl
step (Expr-F.Bit name place) = refl
step (Expr-F.Part name high low) = refl
step (Expr-F.Literal number) = refl
step (Expr-F.Concat parts) = each parts
step (Expr-F.Repeat count part) = part.1
step (Expr-F.AsSigned part) = part.1
step (Expr-F.AsUnsigned part) = part.1
step (Expr-F.Unary op part) = part.1
step (Expr-F.Binary op left right) = two left right
step (Expr-F.Shift op part amount) = part.1
step (Expr-F.Choose test chosen other) =
    (λ i. test.1 i ++ two chosen other i) ∙ sym (map-append inner_name (names_read test.0) (names_read chosen.0 ++ names_read other.0))

layer-reads : (y : Expr-F Known) → names_read (renamed (roll-Expr (map-Expr Known Expr (λ p. p.0) y))) ≡ map inner_name (names_read (roll-Expr (map-Expr Known Expr (λ p. p.0) y)))
layer-reads y =
    let x : Expr-F Expr = map-Expr Known Expr (λ p. p.0) y in
    ap names_read (renamed-rolls x) ∙ fold-roll-Expr (List (List ℕ)) names_step (relabelled (map-Expr Expr Expr renamed x)) ∙ step y
    ∙ ap (map inner_name) (sym (fold-roll-Expr (List (List ℕ)) names_step x))

pub reads-renamed : (e : Expr) → names_read (renamed e) ≡ map inner_name (names_read e)
reads-renamed = ind-Expr (λ e. names_read (renamed e) ≡ map inner_name (names_read e))
    (λ x y shown. subst (λ z. names_read (renamed (roll-Expr z)) ≡ map inner_name (names_read (roll-Expr z))) shown (layer-reads y))

-- a place of a name in the core is one of its name in the wrapper
abbrev pub renamed_mention : Mention → Mention
renamed_mention (Declares d) = Declares (record { name = inner_name d.name; kind = d.kind; net = d.net })
renamed_mention (Drives clocked name) = Drives clocked (inner_name name)
renamed_mention (Reads name) = Reads (inner_name name)
renamed_mention Clocks = Clocks

reads-mentions : (names : List (List ℕ)) → map Reads (map inner_name names) ≡ map renamed_mention (map Reads names)
reads-mentions [] = refl
reads-mentions (name ∷ names) = ap (λ xs. Reads (inner_name name) ∷ xs) (reads-mentions names)

condition-renamed : (condition : Option Expr) → condition_names (renamed_condition condition) ≡ map inner_name (condition_names condition)
condition-renamed None = refl
condition-renamed (Some condition) = reads-renamed condition

pub item-renamed : (i : ModItem) → item_mentions (renamed_item i) ≡ map renamed_mention (item_mentions i)
item-renamed (Wire signed width name) = refl
item-renamed (Reg signed width name) = refl
item-renamed (Assign name value) = ap (λ xs. Drives false (inner_name name) ∷ xs) (ap (map Reads) (reads-renamed value) ∙ reads-mentions (names_read value))
item-renamed (Always name first condition value) =
    let names = condition_names condition ++ names_read value in
    ap (λ xs. Clocks ∷ Drives true (inner_name name) ∷ xs)
    (ap (map Reads) ((λ i. condition-renamed condition i ++ reads-renamed value i) ∙ sym (map-append inner_name (condition_names condition) (names_read value))) ∙ reads-mentions names)

-- ---- the wrapper's own items

abbrev pub control_mentions : List Mention
control_mentions =
    Drives false begin_name ∷ Reads phase_name
    ∷ Drives false end_name ∷ Reads phase_name
    ∷ Drives false due_name ∷ Reads end_name ∷ Reads wait_name
    ∷ Drives false fed_name ∷ Reads begin_name ∷ Reads (codes "in_valid")
    ∷ Drives false open_name ∷ Reads due_name ∷ Reads (codes "out_ready")
    ∷ Drives false enable_name ∷ Reads fed_name ∷ Reads open_name
    ∷ Drives false (codes "in_ready") ∷ Reads begin_name ∷ Reads open_name
    ∷ Drives false (codes "out_valid") ∷ Reads due_name ∷ Reads fed_name
    ∷ Clocks ∷ Drives true phase_name ∷ Reads enable_name ∷ Reads end_name ∷ Reads phase_name
    ∷ Clocks ∷ Drives true wait_name ∷ Reads enable_name ∷ Reads end_name ∷ Reads wait_name ∷ Reads wait_name ∷ []

pub reads-due : names_read is_due_now ≡ end_name ∷ wait_name ∷ []
reads-due = names-binary Both (Name end_name) (is_zero wait_name) ∙ (λ i. reads-Name end_name i ++ reads-zero wait_name i)

pub control-mentions : (counters : Counters) → flat_map item_mentions (control_driven counters) ≡ control_mentions
control-mentions counters =
    let w = counters.phase.width in
    let v = counters.wait.width in
    let up = names-choose (Name end_name) (number counters.phase.width 0) (Binary Add (Name phase_name) (number counters.phase.width 1))
    ∙ (λ i. reads-Name end_name i ++ (reads-Literal (plain counters.phase.width 0) i ++ reads-counted Add phase_name counters.phase.width 1 i)) in
    let down = names-choose (Name wait_name) (Binary Subtract (Name wait_name) (number counters.wait.width 1)) (number counters.wait.width 0)
    ∙ (λ i. reads-Name wait_name i ++ (reads-counted Subtract wait_name counters.wait.width 1 i ++ reads-Literal (plain counters.wait.width 0) i)) in
    (λ i.
    (Drives false begin_name ∷ map Reads (reads-zero phase_name i))
    ++ ((Drives false end_name ∷ map Reads (reads-counted Equal phase_name counters.phase.width counters.phase.most i))
    ++ ((Drives false due_name ∷ map Reads (reads-due i))
    ++ ((Drives false fed_name ∷ map Reads (reads-unless begin_name (codes "in_valid") i))
    ++ ((Drives false open_name ∷ map Reads (reads-unless due_name (codes "out_ready") i))
    ++ ((Drives false enable_name ∷ map Reads (reads-both fed_name open_name i))
    ++ ((Drives false (codes "in_ready") ∷ map Reads (reads-both begin_name open_name i))
    ++ ((Drives false (codes "out_valid") ∷ map Reads (reads-both due_name fed_name i))
    ++ ((Clocks ∷ Drives true phase_name ∷ map Reads (reads-Name enable_name i ++ up i))
    ++ ((Clocks ∷ Drives true wait_name ∷ map Reads (reads-both enable_name end_name i ++ down i)) ++ []))))))))))

abbrev pub held_mentions : Column → List Mention
held_mentions column =
    Drives false (inner_name column.inner) ∷ Reads begin_name ∷ Reads column.name ∷ Reads (held_name column.name)
    ∷ Clocks ∷ Drives true (held_name column.name) ∷ Reads enable_name ∷ Reads begin_name ∷ Reads column.name ∷ []

pub held-mentions : (column : Column) → flat_map item_mentions (held_driven column) ≡ held_mentions column
held-mentions column = (λ i.
    (Drives false (inner_name column.inner) ∷ map Reads (reads-chosen begin_name column.name (held_name column.name) i))
    ++ ((Clocks ∷ Drives true (held_name column.name) ∷ map Reads (reads-both enable_name begin_name i ++ reads-Name column.name i)) ++ []))

abbrev pub stage_mentions : Column → ℕ → List Mention
stage_mentions column place =
    Clocks ∷ Drives true (late_name column.name (place + 1)) ∷ Reads enable_name ∷ Reads end_name ∷ Reads (stage_name column place) ∷ []

pub stage-mentions : (column : Column) (place : ℕ) → item_mentions (stage_driven column place) ≡ stage_mentions column place
stage-mentions column place = (λ i.
    Clocks ∷ Drives true (late_name column.name (place + 1)) ∷ map Reads (reads-both enable_name end_name i ++ reads-Name (stage_name column place) i))

pub shown-mentions : (column : Column) → item_mentions (Assign column.name (Name (stage_name column column.late)))
    ≡ Drives false column.name ∷ Reads (stage_name column column.late) ∷ []
shown-mentions column = (λ i. Drives false column.name ∷ map Reads (reads-Name (stage_name column column.late) i))
