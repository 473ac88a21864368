-- The wrapper's expressions are of the grammar, where the core's are.
use Rattle.std.proofs.Common.{◌≡◌, ℕ, ◌+◌, ◌≤◌, max, Bool, true, false, ◌&&◌, if◌then◌else◌, List, [], ◌∷◌, map, Contains, codes, Option, Some, None, refl, sym, ap, subst, ◌∙◌, arith}
use Rattle.std.specs.Prelude.{fold}
use Rattle.std.specs.List.{list_all, range_with_len}
use Rattle.vl_ast.specs.declared.expressions.UnOp.TheVariants.{IsZero}
use Rattle.vl_ast.specs.declared.expressions.BinOp.{BinOp}
use Rattle.vl_ast.specs.declared.expressions.BinOp.TheVariants.{Add, Subtract, Equal, Both, Either}
use Rattle.vl_ast.specs.declared.expressions.Sized.{Sized}
use Rattle.vl_ast.specs.declared.expressions.Expr.{Expr}
use Rattle.vl_ast.specs.declared.expressions.Expr.TheOpen.{Expr-F}
use Rattle.vl_ast.specs.declared.expressions.Expr.TheVariants.{Name, Literal, Binary, Choose, rolls-Name, rolls-Literal, rolls-Unary, rolls-Binary, rolls-Choose}
use Rattle.vl_ast.specs.declared.expressions.Expr.TheViews.{roll-Expr}
use Rattle.vl_ast.specs.declared.expressions.Expr.TheFolds.{map-Expr, fold-roll-Expr, ind-Expr}
use Rattle.vl_ast.specs.declared.modules.ModItem.{ModItem}
use Rattle.vl_ast.specs.declared.modules.ModItem.TheVariants.{Wire, Reg, Assign, Always}
use Rattle.vl_ast.specs.declared.modules.Port.{Port}
use Rattle.vl_ast.specs.declared.modules.Module.{Module}
use Rattle.vl_ast.specs.Grammar.{IsCondition, IsExpr, depth, depth_step, is_filled, is_filled_step}
use Rattle.vl_ast.specs.Spellable.{HasExprs}
use Rattle.st_wrap.specs.declared.columns.Column.{Column}
use Rattle.st_wrap.specs.declared.pace.Counters.{Counters}
use Rattle.st_wrap.specs.inner.Columns.{held_driven, late_driven, moving, plain, stage_declared, stage_driven, stage_name}
use Rattle.st_wrap.specs.inner.Control.{both, control_driven, is_due_now, is_last, is_zero, next_phase, next_wait, number, unless}
use Rattle.st_wrap.specs.inner.Names.{begin_name, end_name, due_name, fed_name, open_name, enable_name, held_name, inner_name, is_shared, phase_name, wait_name}
use Rattle.st_wrap.specs.inner.CoreNames.{renamed, renamed_condition, renamed_item, wires_for}
use Rattle.st_wrap.specs.inner.Wrapper.{items_of}
use Rattle.st_wrap.proofs.EachItem.{EachHas, declared-have, have-append, have-at, have-flat, have-map, items-have}
use Rattle.st_wrap.proofs.Meanings.{relabelled, renamed-rolls}

-- ---- the core's expressions

record Alike (e : Expr) : Type 0 where
  deep : depth (renamed e) ≡ depth e
  filled : is_filled (renamed e) ≡ is_filled e

abbrev Known : Type 0
Known = (e : Expr) × Alike e

depths : (parts : List Known) → map depth (map renamed (map (λ p. p.0) parts)) ≡ map depth (map (λ p. p.0) parts)
depths [] = refl
depths (part ∷ parts) = (λ i. part.1.deep i ∷ depths parts i)

fillings : (parts : List Known) → map is_filled (map renamed (map (λ p. p.0) parts)) ≡ map is_filled (map (λ p. p.0) parts)
fillings [] = refl
fillings (part ∷ parts) = (λ i. part.1.filled i ∷ fillings parts i)

depth-layer : (y : Expr-F Known) → depth_step
    (map-Expr Expr ℕ depth (relabelled (map-Expr Expr Expr renamed (map-Expr Known Expr (λ p. p.0) y))))
    ≡ depth_step (map-Expr Expr ℕ depth (map-Expr Known Expr (λ p. p.0) y))
depth-layer (Expr-F.Name name) = refl
depth-layer (Expr-F.Bit name place) = refl
depth-layer (Expr-F.Part name high low) = refl
depth-layer (Expr-F.Literal number) = refl
depth-layer (Expr-F.Concat parts) = ap (λ (ns : List ℕ). fold max 0 ns + 1) (depths parts)
depth-layer (Expr-F.Repeat count part) = ap (λ n. n + 1) part.1.deep
depth-layer (Expr-F.AsSigned part) = ap (λ n. n + 1) part.1.deep
depth-layer (Expr-F.AsUnsigned part) = ap (λ n. n + 1) part.1.deep
depth-layer (Expr-F.Unary op part) = ap (λ n. n + 1) part.1.deep
depth-layer (Expr-F.Binary op left right) = (λ i. max (left.1.deep i) (right.1.deep i) + 1)
depth-layer (Expr-F.Shift op part amount) = ap (λ n. n + 1) part.1.deep
depth-layer (Expr-F.Choose test chosen other) = (λ i. max (test.1.deep i) (max (chosen.1.deep i) (other.1.deep i)) + 1)

filled-layer : (y : Expr-F Known) → is_filled_step
    (map-Expr Expr Bool is_filled (relabelled (map-Expr Expr Expr renamed (map-Expr Known Expr (λ p. p.0) y))))
    ≡ is_filled_step (map-Expr Expr Bool is_filled (map-Expr Known Expr (λ p. p.0) y))
filled-layer (Expr-F.Name name) = refl
filled-layer (Expr-F.Bit name place) = refl
filled-layer (Expr-F.Part name high low) = refl
filled-layer (Expr-F.Literal number) = refl
filled-layer (Expr-F.Concat []) = refl
filled-layer (Expr-F.Concat (part ∷ parts)) = (λ i. part.1.filled i && list_all (λ more. more) (fillings parts i))
filled-layer (Expr-F.Repeat count part) = part.1.filled
filled-layer (Expr-F.AsSigned part) = part.1.filled
filled-layer (Expr-F.AsUnsigned part) = part.1.filled
filled-layer (Expr-F.Unary op part) = part.1.filled
filled-layer (Expr-F.Binary op left right) = (λ i. left.1.filled i && right.1.filled i)
filled-layer (Expr-F.Shift op part amount) = part.1.filled
filled-layer (Expr-F.Choose test chosen other) = (λ i. test.1.filled i && chosen.1.filled i && other.1.filled i)

layer-alike : (y : Expr-F Known) → Alike (roll-Expr (map-Expr Known Expr (λ p. p.0) y))
layer-alike y =
    let x : Expr-F Expr = map-Expr Known Expr (λ p. p.0) y in
    let z : Expr-F Expr = relabelled (map-Expr Expr Expr renamed x) in
    record {
      deep = ap depth (renamed-rolls x) ∙ fold-roll-Expr ℕ depth_step z ∙ depth-layer y ∙ sym (fold-roll-Expr ℕ depth_step x);
      filled = ap is_filled (renamed-rolls x) ∙ fold-roll-Expr Bool is_filled_step z ∙ filled-layer y ∙ sym (fold-roll-Expr Bool is_filled_step x);
    }

alike : (e : Expr) → Alike e
alike = ind-Expr Alike (λ x y shown. subst (λ z. Alike (roll-Expr z)) shown (layer-alike y))

expr-renamed : (e : Expr) → IsExpr e → IsExpr (renamed e)
expr-renamed e p = let a = alike e in (subst (λ n. n ≤ 256) (sym a.deep) p.0, a.filled ∙ p.1)

condition-renamed : (condition : Option Expr) → IsCondition condition → IsCondition (renamed_condition condition)
condition-renamed None p = tt
condition-renamed (Some condition) p = expr-renamed condition p

item-renamed : (i : ModItem) → HasExprs i → HasExprs (renamed_item i)
item-renamed (Wire signed width name) p = tt
item-renamed (Reg signed width name) p = tt
item-renamed (Assign name value) p = expr-renamed value p
item-renamed (Always name first condition value) p = (condition-renamed condition p.0, expr-renamed value p.1)

-- ---- the wrapper's own

record IsShallow (n : ℕ) (e : Expr) : Type 0 where
  deep : depth e ≡ n
  filled : is_filled e ≡ true

name-shallow : (x : List ℕ) → IsShallow 0 (Name x)
name-shallow x = record {
  deep = ap depth (sym (rolls-Name x)) ∙ fold-roll-Expr ℕ depth_step (Expr-F.Name x);
  filled = ap is_filled (sym (rolls-Name x)) ∙ fold-roll-Expr Bool is_filled_step (Expr-F.Name x);
}

literal-shallow : (n : Sized) → IsShallow 0 (Literal n)
literal-shallow n = record {
  deep = ap depth (sym (rolls-Literal n)) ∙ fold-roll-Expr ℕ depth_step (Expr-F.Literal n);
  filled = ap is_filled (sym (rolls-Literal n)) ∙ fold-roll-Expr Bool is_filled_step (Expr-F.Literal n);
}

zero-shallow : (x : List ℕ) → IsShallow 1 (is_zero x)
zero-shallow x = let s = name-shallow x in record {
  deep = ap depth (sym (rolls-Unary IsZero (Name x))) ∙ fold-roll-Expr ℕ depth_step (Expr-F.Unary IsZero (Name x)) ∙ ap (λ n. n + 1) s.deep;
  filled = ap is_filled (sym (rolls-Unary IsZero (Name x))) ∙ fold-roll-Expr Bool is_filled_step (Expr-F.Unary IsZero (Name x)) ∙ s.filled;
}

binary-shallow : (op : BinOp) (l r : Expr) (a b n : ℕ) → max a b + 1 ≡ n → IsShallow a l → IsShallow b r → IsShallow n (Binary op l r)
binary-shallow op l r a b n e s t = record {
  deep = ap depth (sym (rolls-Binary op l r)) ∙ fold-roll-Expr ℕ depth_step (Expr-F.Binary op l r) ∙ (λ i. max (s.deep i) (t.deep i) + 1) ∙ e;
  filled = ap is_filled (sym (rolls-Binary op l r)) ∙ fold-roll-Expr Bool is_filled_step (Expr-F.Binary op l r) ∙ (λ i. s.filled i && t.filled i);
}

choose-shallow : (x y z : Expr) (a b c n : ℕ) → max a (max b c) + 1 ≡ n → IsShallow a x → IsShallow b y → IsShallow c z → IsShallow n (Choose x y z)
choose-shallow x y z a b c n e s t u = record {
  deep = ap depth (sym (rolls-Choose x y z)) ∙ fold-roll-Expr ℕ depth_step (Expr-F.Choose x y z) ∙ (λ i. max (s.deep i) (max (t.deep i) (u.deep i)) + 1) ∙ e;
  filled = ap is_filled (sym (rolls-Choose x y z)) ∙ fold-roll-Expr Bool is_filled_step (Expr-F.Choose x y z) ∙ (λ i. s.filled i && t.filled i && u.filled i);
}

both-shallow : (x y : List ℕ) → IsShallow 1 (both x y)
both-shallow x y = binary-shallow Both (Name x) (Name y) 0 0 1 refl (name-shallow x) (name-shallow y)

expr-of : (n : ℕ) (e : Expr) → n ≤ 256 → IsShallow n e → IsExpr e
expr-of n e low s = (subst (λ k. k ≤ 256) (sym s.deep) low, s.filled)

abbrev HaveExprs : List ModItem → Type 0
HaveExprs items = EachHas HasExprs items

control-exprs : (counters : Counters) → HaveExprs (control_driven counters)
control-exprs counters =
    let w = counters.phase.width in
    let v = counters.wait.width in
    let up = choose-shallow (Name end_name) (number counters.phase.width 0)
    (Binary Add (Name phase_name) (number counters.phase.width 1)) 0 0 1 2 refl (name-shallow end_name)
    (literal-shallow (plain counters.phase.width 0))
    (binary-shallow Add (Name phase_name) (number counters.phase.width 1) 0 0 1 refl (name-shallow phase_name) (literal-shallow (plain counters.phase.width 1))) in
    let down = choose-shallow (Name wait_name) (Binary Subtract (Name wait_name) (number counters.wait.width 1)) (number counters.wait.width 0) 0 1 0 2 refl (name-shallow wait_name)
    (binary-shallow Subtract (Name wait_name) (number counters.wait.width 1) 0 0 1 refl (name-shallow wait_name)
    (literal-shallow (plain counters.wait.width 1))) (literal-shallow (plain counters.wait.width 0)) in (
      expr-of 1 (is_zero phase_name) (omega arith) (zero-shallow phase_name),
      (
        expr-of 1 (is_last counters.phase) (omega arith)
            (binary-shallow Equal (Name phase_name) (number counters.phase.width counters.phase.most) 0 0 1 refl
            (name-shallow phase_name) (literal-shallow (plain counters.phase.width counters.phase.most))),
        (
          expr-of 2 is_due_now (omega arith) (binary-shallow Both (Name end_name) (is_zero wait_name) 0 1 2 refl (name-shallow end_name) (zero-shallow wait_name)),
          (
            expr-of 2 (unless begin_name (codes "in_valid")) (omega arith)
                (binary-shallow Either (is_zero begin_name) (Name (codes "in_valid")) 1 0 2 refl
                (zero-shallow begin_name) (name-shallow (codes "in_valid"))),
            (
              expr-of 2 (unless due_name (codes "out_ready")) (omega arith)
                  (binary-shallow Either (is_zero due_name) (Name (codes "out_ready")) 1 0 2 refl
                  (zero-shallow due_name) (name-shallow (codes "out_ready"))),
              (
                expr-of 1 (both fed_name open_name) (omega arith) (both-shallow fed_name open_name),
                (
                  expr-of 1 (both begin_name open_name) (omega arith) (both-shallow begin_name open_name),
                  (
                    expr-of 1 (both due_name fed_name) (omega arith) (both-shallow due_name fed_name),
                    (
                      (expr-of 0 (Name enable_name) (omega arith) (name-shallow enable_name), expr-of 2 (next_phase counters.phase) (omega arith) up),
                      (
                        (expr-of 1 (moving end_name) (omega arith) (both-shallow enable_name end_name), expr-of 2 (next_wait counters.wait) (omega arith) down),
                        tt,
                      ),
                    ),
                  ),
                ),
              ),
            ),
          ),
        ),
      ),
    )

held-exprs : (column : Column) → HaveExprs (held_driven column)
held-exprs column = (
  expr-of 1 (Choose (Name begin_name) (Name column.name) (Name (held_name column.name))) (omega arith)
      (choose-shallow (Name begin_name) (Name column.name) (Name (held_name column.name)) 0 0 0 1 refl (name-shallow begin_name) (name-shallow column.name) (name-shallow (held_name column.name))),
  ((expr-of 1 (moving begin_name) (omega arith) (both-shallow enable_name begin_name), expr-of 0 (Name column.name) (omega arith) (name-shallow column.name)), tt),
)

late-exprs : (column : Column) → HaveExprs (late_driven column)
late-exprs column =
    have-append HasExprs (map (stage_driven column) (range_with_len 0 column.late)) (Assign column.name (Name (stage_name column column.late)) ∷ [])
    (have-map HasExprs (stage_driven column) (range_with_len 0 column.late)
    (λ place h. (expr-of 1 (moving end_name) (omega arith) (both-shallow enable_name end_name), expr-of 0 (Name (stage_name column place)) (omega arith) (name-shallow (stage_name column place)))))
    (expr-of 0 (Name (stage_name column column.late)) (omega arith) (name-shallow (stage_name column column.late)), tt)

wire-exprs : (port : Port) → HaveExprs (wires_for port)
wire-exprs port = by (is_shared port.name) where
  by : (b : Bool) → HaveExprs (if b then [] else Wire port.signed port.width (inner_name port.name) ∷ [])
  by true = tt
  by false = (tt, tt)

pub items-exprs : (core : Module) (counters : Counters) (inputs outputs : List Column) → ((i : ModItem) → Contains core.items i → HasExprs i)
    → (i : ModItem) → Contains (items_of core counters inputs outputs) i → HasExprs i
items-exprs core counters inputs outputs each = have-at HasExprs (items_of core counters inputs outputs)
    (items-have HasExprs core counters inputs outputs
    (declared-have HasExprs core counters inputs outputs (have-flat HasExprs wires_for core.ports (λ port h. wire-exprs port)) (tt, (tt, (tt, (tt, (tt, (tt, (tt, tt)))))))
    (λ column h. (tt, tt)) (λ column h. have-map HasExprs (stage_declared column) (range_with_len 0 column.late) (λ place h. tt)))
    (have-map HasExprs renamed_item core.items (λ i h. item-renamed i (each i h))) (control-exprs counters) (λ column h. held-exprs column) (λ column h. late-exprs column))
