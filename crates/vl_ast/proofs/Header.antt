-- The written text of a small module, worked out by hand.
use Rattle.std.specs.Prelude.{◌≡◌, ℕ, true, false, List, [], ◌∷◌, codes, refl}
use Rattle.vl_ast.specs.declared.modules.Module.{Module}
use Rattle.vl_ast.specs.declared.modules.Attr.{Attr}
use Rattle.std.specs.Fmt.{digits}
use Rattle.vl_ast.specs.Spelling.{spelling}

abbrev pub attr : List ℕ → ℕ → Attr
attr name value = record { name = name; value = value }

abbrev pub one_delay : Module
one_delay = record {
  name = codes "fx_model";
  attrs = attr (codes "fx_cycles") 1 ∷ [];
  ports =
      record { attrs = []; input = true; signed = false; width = 1; name = codes "clk" }
      ∷ record { attrs = []; input = true; signed = false; width = 1; name = codes "reset" }
      ∷ record { attrs = attr (codes "fx_period") 1 ∷ []; input = true; signed = true; width = 8; name = codes "u" }
      ∷ record { attrs = attr (codes "fx_period") 1 ∷ attr (codes "fx_latency") 0 ∷ []; input = false; signed = true; width = 8; name = codes "y" }
      ∷ [];
  items = [];
}

pub spelling-one_delay :
    spelling one_delay
    ≡ codes
    "(* fx_cycles = 1 *)\nmodule fx_model (\n  input wire clk,\n  input wire reset,\n  (* fx_period = 1 *)\n  input wire signed [7:0] u,\n  (* fx_period = 1, fx_latency = 0 *)\n  output wire signed [7:0] y\n);\nendmodule\n"
unfolding digits
spelling-one_delay = refl
