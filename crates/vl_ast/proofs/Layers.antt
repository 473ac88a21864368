-- The value of an expression from the values of its operands.
use Rattle.std.proofs.Common.{◌≡◌, ℕ, Bool, List, sym, ap, subst, ◌∙◌}
use Rattle.vl_ast.specs.declared.expressions.Expr.{Expr}
use Rattle.vl_ast.specs.declared.expressions.Expr.TheOpen.{Expr-F}
use Rattle.vl_ast.specs.declared.expressions.Expr.TheViews.{roll-Expr, out-Expr, roll-out-Expr}
use Rattle.vl_ast.specs.declared.expressions.Expr.TheFolds.{map-Expr, para-Expr}
use Rattle.vl_ast.specs.Context.{Net, Operand, in_context}
use Rattle.vl_ast.specs.Value.{Bits, bits_step, meaning_step, value_in, bits_in, operand_of}
use Rattle.vl_ast.proofs.Values.{meaning-roll, value_in-roll}

abbrev meaning : (List ℕ → Net) → (List ℕ → ℕ) → Expr → ℕ → Bool → Bits
meaning nets row e width signed = para-Expr (ℕ → Bool → Bits) (meaning_step nets row) e width signed

meaning-rolled : (nets : List ℕ → Net) (row : List ℕ → ℕ) (layer : Expr-F Expr) (width : ℕ) (signed : Bool) →
    meaning nets row (roll-Expr layer) width signed ≡ bits_in nets row width signed (roll-Expr layer)
meaning-rolled nets row layer width signed =
    let e = meaning-roll nets row layer width signed in
    let remade : Bits → Bits = λ b. record { width = width; signed = signed; bits = b.bits } in
    e ∙ ap remade (sym e)

meaning-bits_in : (nets : List ℕ → Net) (row : List ℕ → ℕ) (e : Expr) (width : ℕ) (signed : Bool) → meaning nets row e width signed ≡ bits_in nets row width signed e
meaning-bits_in nets row e width signed =
    let P : Expr → Type 0 = λ f. meaning nets row f width signed ≡ bits_in nets row width signed f in
    subst P (roll-out-Expr e) (meaning-rolled nets row (out-Expr e) width signed)

pub value_by_layer : (nets : List ℕ → Net) (row : List ℕ → ℕ) (width : ℕ) (signed : Bool) (layer : Expr-F Expr) →
    value_in nets row width signed (roll-Expr layer)
    ≡ bits_step nets row width signed (in_context nets width signed (map-Expr Expr (Operand Bits) (operand_of nets row) layer))
value_by_layer nets row width signed layer =
    value_in-roll nets row width signed layer
    ∙ (λ i. bits_step nets row width signed (in_context nets width signed (map-Expr Expr (Operand Bits) (λ e. (e, λ v t. meaning-bits_in nets row e v t i)) layer)))
