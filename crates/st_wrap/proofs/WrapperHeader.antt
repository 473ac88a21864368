-- The wrapper's name, attribute and ports.
use Rattle.std.proofs.Common.{ℕ, List, ◌∷◌, ◌++◌, codes, refl}
use Rattle.std.proofs.lemmas.Simd.{map-map}
use Rattle.vl_ast.specs.declared.modules.Module.{Module}
use Rattle.vl_ast.specs.Header.{bit_input, input_port, output_port}
use Rattle.vl_ast.specs.Attributes.{clocks_of}
use Rattle.st_wrap.specs.declared.pace.Counters.{Counters}
use Rattle.st_wrap.specs.Header.{HasStreamHeader, flag, named_inputs, named_outputs}
use Rattle.st_wrap.specs.Pace.{latest_in}
use Rattle.st_wrap.specs.inner.Columns.{column_port, input_column, output_column}
use Rattle.st_wrap.specs.inner.Wrapper.{wrapped}

pub has-header : (core : Module) (names : List (List ℕ)) (counters : Counters) → HasStreamHeader core names (wrapped core names counters)
has-header core names counters =
    let ins = map-map (λ column. input_port (column_port column)) input_column (named_inputs core names) in
    let outs = map-map (λ column. output_port (column_port column)) (output_column (clocks_of core) (latest_in core)) (named_outputs core names) in
    record {
      name = refl;
      attrs = refl;
      ports = (λ i. bit_input (codes "clk") ∷ bit_input (codes "reset") ∷ input_port (flag (codes "in_valid"))
          ∷ (ins i ++ input_port (flag (codes "out_ready")) ∷ output_port (flag (codes "in_ready")) ∷ output_port (flag (codes "out_valid")) ∷ outs i));
    }
