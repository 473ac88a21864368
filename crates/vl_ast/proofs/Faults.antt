-- The six conditions on variants of one small module, worked out by hand.
use Rattle.std.specs.Prelude.{◌≡◌, ℕ, Bool, true, false, List, [], ◌∷◌, codes, Some, None, refl}
use Rattle.vl_ast.specs.declared.expressions.BinOp.TheVariants.{Multiply}
use Rattle.vl_ast.specs.declared.expressions.Sized.{Sized}
use Rattle.vl_ast.specs.declared.expressions.Expr.{Expr}
use Rattle.vl_ast.specs.declared.expressions.Expr.TheOpen.{Expr-F}
use Rattle.vl_ast.specs.declared.expressions.Expr.TheViews.{roll-Expr}
use Rattle.vl_ast.specs.declared.expressions.Expr.TheFolds.{map-Expr, para-Expr, para-roll-Expr, fold-roll-Expr}
use Rattle.vl_ast.specs.declared.modules.Attr.{Attr}
use Rattle.vl_ast.specs.declared.modules.Port.{Port}
use Rattle.vl_ast.specs.declared.modules.ModItem.{ModItem}
use Rattle.vl_ast.specs.declared.modules.ModItem.TheVariants.{Wire, Reg, Assign, Always}
use Rattle.vl_ast.specs.declared.modules.Module.{Module}
use Rattle.vl_ast.specs.Conditions.{undriven, doubly, too_wide, no_reset, no_attribute, is_sound_step}
use Rattle.vl_ast.specs.Context.{Net}
use Rattle.vl_ast.specs.Nets.{names_read, names_step}
use Rattle.vl_ast.proofs.Values.{own_length-roll}

names_read-roll : (x : Expr-F Expr) → names_read (roll-Expr x) ≡ names_step (map-Expr Expr (List (List ℕ)) names_read x)
names_read-roll x = fold-roll-Expr (List (List ℕ)) names_step x

sound-roll : (nets : List ℕ → Net) (x : Expr-F Expr) →
    para-Expr Bool (is_sound_step nets) (roll-Expr x) ≡ is_sound_step nets (map-Expr Expr (Expr × Bool) (λ e. (e, para-Expr Bool (is_sound_step nets) e)) x)
sound-roll nets x = para-roll-Expr Bool (is_sound_step nets) x

abbrev name : List ℕ → Expr
name bytes = roll-Expr (Expr-F.Name bytes)

abbrev attr : List ℕ → ℕ → Attr
attr bytes value = record { name = bytes; value = value }

abbrev port : Bool → Bool → ℕ → List ℕ → List Attr → Port
port input signed width bytes attrs = record { attrs = attrs; input = input; signed = signed; width = width; name = bytes }

abbrev clk : Port
clk = port true false 1 (codes "clk") []

abbrev reset : Port
reset = port true false 1 (codes "reset") []

abbrev input_a : Port
input_a = port true true 8 (codes "a") (attr (codes "fx_period") 1 ∷ [])

abbrev output_y : Port
output_y = port false true 16 (codes "y") (attr (codes "fx_period") 1 ∷ attr (codes "fx_latency") 1 ∷ [])

abbrev number : Bool → ℕ → ℕ → Sized
number signed width bits = record { width = width; signed = signed; bits = bits }

abbrev reg_q : ModItem
reg_q = Reg true 16 (codes "q")

abbrev takes : Sized → Expr → ModItem
takes first value = Always (codes "q") first None value

abbrev square : ModItem
square = takes (number true 16 7) (roll-Expr (Expr-F.Binary Multiply (name (codes "a")) (name (codes "a"))))

abbrev assign_y : Expr → ModItem
assign_y value = Assign (codes "y") value

abbrev shows : ModItem
shows = assign_y (name (codes "q"))

abbrev of : List Port → List ModItem → Module
of ports items = record { name = codes "m"; attrs = attr (codes "fx_cycles") 1 ∷ []; ports = ports; items = items }

abbrev with : List ModItem → Module
with items = of (clk ∷ reset ∷ input_a ∷ output_y ∷ []) items

undriven_names :
    undriven (with (reg_q ∷ square ∷ shows ∷ [])) ∷ undriven (with (reg_q ∷ shows ∷ [])) ∷ undriven (with (square ∷ reg_q ∷ shows ∷ []))
    ∷ undriven (with (reg_q ∷ square ∷ [])) ∷ undriven (with (reg_q ∷ square ∷ assign_y (name (codes "w")) ∷ Wire false 1 (codes "w") ∷ [])) ∷ []
    ≡ None ∷ Some (codes "q") ∷ Some (codes "q") ∷ Some (codes "y") ∷ Some (codes "w") ∷ []
undriven_names = simp names_read-roll

doubled_names :
    doubly (with (reg_q ∷ square ∷ shows ∷ [])) ∷ doubly (with (reg_q ∷ square ∷ shows ∷ Assign (codes "q") (name (codes "a")) ∷ []))
    ∷ doubly (with (reg_q ∷ square ∷ shows ∷ Assign (codes "a") (name (codes "q")) ∷ [])) ∷ doubly (with (reg_q ∷ square ∷ shows ∷ shows ∷ []))
    ∷ doubly (with (reg_q ∷ square ∷ shows ∷ Wire false 1 (codes "a") ∷ [])) ∷ doubly (with (Wire true 16 (codes "q") ∷ square ∷ shows ∷ [])) ∷ []
    ≡ None ∷ Some (codes "q") ∷ Some (codes "a") ∷ Some (codes "y") ∷ Some (codes "a") ∷ Some (codes "q") ∷ []
doubled_names = simp names_read-roll

wide_names :
    too_wide (with (reg_q ∷ square ∷ shows ∷ [])) ∷ too_wide (with (reg_q ∷ takes (number false 0 0) (name (codes "a")) ∷ shows ∷ []))
    ∷ too_wide (with (reg_q ∷ takes (number false 9 512) (name (codes "a")) ∷ shows ∷ [])) ∷ too_wide (with (reg_q ∷ square ∷ assign_y (roll-Expr (Expr-F.Bit (codes "clk") 0)) ∷ []))
    ∷ too_wide (with (reg_q ∷ square ∷ assign_y (roll-Expr (Expr-F.Bit (codes "q") 16)) ∷ [])) ∷ too_wide (with (reg_q ∷ square ∷ assign_y (roll-Expr (Expr-F.Part (codes "q") 0 1)) ∷ []))
    ∷ too_wide (with (reg_q ∷ square ∷ assign_y (roll-Expr (Expr-F.Repeat 17 (name (codes "a")))) ∷ []))
    ∷ too_wide (with (reg_q ∷ square ∷ assign_y (roll-Expr (Expr-F.Repeat 16 (name (codes "a")))) ∷ []))
    ∷ too_wide (with (Reg true 129 (codes "q") ∷ square ∷ shows ∷ [])) ∷ too_wide (with (reg_q ∷ square ∷ assign_y (roll-Expr (Expr-F.Repeat 0 (name (codes "a")))) ∷ [])) ∷ []
    ≡ None ∷ Some (codes "q") ∷ Some (codes "q") ∷ Some (codes "y") ∷ Some (codes "y") ∷ Some (codes "y") ∷ Some (codes "y") ∷ None ∷ Some (codes "q") ∷ Some (codes "y") ∷ []
wide_names = simp (names_read-roll, sound-roll, own_length-roll)

unclocked_names :
    no_reset (with (shows ∷ [])) ∷ no_reset (with (assign_y (name (codes "clk")) ∷ [])) ∷ no_reset (of (clk ∷ output_y ∷ []) []) ∷ no_reset (of (reset ∷ output_y ∷ []) [])
    ∷ no_reset (of (output_y ∷ []) []) ∷ no_reset (of (port true true 1 (codes "reset") [] ∷ output_y ∷ []) [])
    ∷ no_reset (of (port true true 1 (codes "reset") [] ∷ clk ∷ output_y ∷ [])
    (assign_y (name (codes "clk")) ∷ [])) ∷ []
    ≡ None ∷ Some (codes "clk") ∷ Some (codes "reset") ∷ Some (codes "clk") ∷ Some (codes "clk") ∷ Some (codes "reset") ∷ Some (codes "reset") ∷ []
unclocked_names = simp names_read-roll

bare_names :
    no_attribute (with []) ∷ no_attribute (of (clk ∷ reset ∷ port true true 8 (codes "a") [] ∷ output_y ∷ []) [])
    ∷ no_attribute (of (port true true 8 (codes "a") (attr (codes "fx_period") 4097 ∷ []) ∷ []) [])
    ∷ no_attribute (of (port false true 8 (codes "y") (attr (codes "fx_period") 1 ∷ []) ∷ []) [])
    ∷ no_attribute (record { name = codes "m"; attrs = attr (codes "fx_cycles") 0 ∷ attr (codes "fx_cycles") 1 ∷ []; ports = []; items = [] }) ∷ []
    ≡ None ∷ Some (codes "a") ∷ Some (codes "a") ∷ Some (codes "y") ∷ Some (codes "m") ∷ []
bare_names = refl
