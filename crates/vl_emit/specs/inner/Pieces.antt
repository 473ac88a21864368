-- How a piece of a net is written as an expression, at the width at which it is used. A select is
-- of a net of at least two bits.
use Rattle.std.specs.Prelude.{ℕ, ◌+◌, ◌-◌, ◌==◌, nat_le, false, if◌then◌else◌, [], ◌∷◌}
use Rattle.vl_emit.specs.Names.{Wire}
use Rattle.vl_ast.specs.declared.expressions.Expr.{Expr}
use Rattle.vl_ast.specs.declared.expressions.Expr.TheVariants.{Name, Bit, Part, Literal, Concat}
use Rattle.vl_ast.specs.declared.expressions.Expr.TheVariants.{Repeat}

abbrev pub zeros : ℕ → Expr
zeros width = Literal (record { width = width; signed = false; bits = 0 })

-- what stands on the left of a net: copies of its sign bit, or zeros
abbrev pub fill : Wire → ℕ → Expr
fill wire count =
    if wire.signed then Repeat count (Bit wire.name (wire.width - 1)) else zeros count

-- so many bits of a net, from a place up
abbrev pub inside : Wire → ℕ → ℕ → Expr
inside wire low width =
    if width == wire.width then Name wire.name else Part wire.name (low + width - 1) low

-- the same where the bits may go past the net
abbrev pub piece : Wire → ℕ → ℕ → Expr
piece wire low width =
    if nat_le wire.width low then fill wire width
    else (if nat_le (low + width) wire.width then inside wire low width
    else Concat (fill wire (low + width - wire.width) ∷ inside wire low (wire.width - low) ∷ []))

-- a net written at a width
abbrev pub at_width : ℕ → Wire → Expr
at_width width wire = piece wire 0 width
