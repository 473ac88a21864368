-- A text that a file can hold has few items, since each takes six bytes at least.
use Rattle.std.proofs.Common.{ℕ, ◌+◌, ◌*◌, ◌≤◌, List, [], ◌∷◌, ◌++◌, length, map, subst, codes, arith, length-append}
use Rattle.std.specs.List.{flat_map}
use Rattle.laws_commands.specs.Laws.{BadSimulatedIsReplayedOfFiles, HeldModulesAreRead, SimulatedIsReplayedOfFiles, SimulationsAreReplaysOfFiles}
use Rattle.laws_commands.specs.inner.LawsBelow.{AreKnown}
use Rattle.laws_commands.proofs.Replays.{bad-simulated-is-replayed, simulated-is-replayed, simulations-are-replays}
use Rattle.cmd_generate.specs.Generated.{IsVerilogOf}
use Rattle.fx_top.specs.Call.{file_limit}
use Rattle.vl_ast.specs.declared.modules.ModItem.{ModItem}
use Rattle.vl_ast.specs.declared.modules.ModItem.TheVariants.{Wire, Reg, Assign, Always}
use Rattle.vl_ast.specs.declared.modules.Module.{Module}
use Rattle.vl_ast.specs.Grammar.{most_items}
use Rattle.vl_ast.specs.Spelling.{attrs_text, condition_text, expr_text, item_text, joined, port_text, range_text, signed_text, sized_text, spelling}

five-long : (a b c d e : List ℕ) → length a + length e ≤ length (a ++ b ++ c ++ d ++ e)
five-long a b c d e = simp length-append (omega arith)

ten-long : (a b c d e f g h i j : List ℕ) → length a ≤ length (a ++ b ++ c ++ d ++ e ++ f ++ g ++ h ++ i ++ j)
ten-long a b c d e f g h i j = simp length-append (omega arith)

seventh-long : (a b c d e f g h : List ℕ) → length g ≤ length (a ++ b ++ c ++ d ++ e ++ f ++ g ++ h)
seventh-long a b c d e f g h = simp length-append (omega arith)

item-long : (item : ModItem) → 6 ≤ length (item_text item)
item-long (Wire signed width name) =
    let least : 7 ≤ length (item_text (Wire signed width name)) = five-long (codes "wire ") (signed_text signed) (range_text width) name (codes ";\n") in
    omega (arith, least)
item-long (Reg signed width name) = five-long (codes "reg ") (signed_text signed) (range_text width) name (codes ";\n")
item-long (Assign name value) =
    let least : 9 ≤ length (item_text (Assign name value)) = five-long (codes "assign ") name (codes " = ") (expr_text value) (codes ";\n") in
    omega (arith, least)
item-long (Always name first condition value) =
    let least : 40 ≤ length (item_text (Always name first condition value)) =
    ten-long (codes "always @ (posedge clk) begin if (reset) ") name
    (codes " <= ") (sized_text first)
    (codes "; else ") (condition_text condition) name (codes " <= ") (expr_text value) (codes "; end\n") in
    omega (arith, least)

items-long : (items : List ModItem) → 6 * length items ≤ length (flat_map item_text items)
items-long [] = omega arith
items-long (item ∷ items) = let here = item-long item in let later = items-long items in simp length-append (omega (arith, here, later))

spelling-long : (made : Module) → 6 * length made.items ≤ length (spelling made)
spelling-long made =
    let items = items-long made.items in
    let whole : length (flat_map item_text made.items) ≤ length (spelling made) =
    seventh-long (attrs_text [] made.attrs)
    (codes "module ") made.name (codes " (\n") (joined (codes ",\n") (map port_text made.ports))
    (codes "\n);\n") (flat_map item_text made.items) (codes "endmodule\n") in
    omega (arith, items, whole)

pub held-are-read : HeldModulesAreRead
held-are-read made short = let least = spelling-long made in omega (arith, short, least)

module _ {model plan verilog : List ℕ} (generated : IsVerilogOf model plan verilog) (short : length verilog ≤ file_limit) where
  few : length generated.written.made.items ≤ most_items
  few = held-are-read generated.written.made (subst (λ (text : List ℕ). length text ≤ file_limit) generated.written.spelled short)

pub simulations-of-files : AreKnown → SimulationsAreReplaysOfFiles
simulations-of-files known model plan verilog stimulus response generated short = simulations-are-replays known model plan verilog stimulus response generated (few generated short)

pub simulated-of-files : AreKnown → SimulatedIsReplayedOfFiles
simulated-of-files known model plan verilog stimulus generated short = simulated-is-replayed known model plan verilog stimulus generated (few generated short)

pub bad-simulated-of-files : AreKnown → BadSimulatedIsReplayedOfFiles
bad-simulated-of-files known model plan verilog stimulus line cause generated short = bad-simulated-is-replayed known model plan verilog stimulus line cause generated (few generated short)
