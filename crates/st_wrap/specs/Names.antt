-- The names of the ports of a module with valid and ready (own).
use Rattle.std.specs.Prelude.{◌≡◌, ℕ, ◌+◌, nat_eq, false, true, List, [], ◌∷◌, All, Contains, bytes_eq, codes, length}
use Rattle.std.specs.List.{IsDistinct, starts_with}
use Rattle.vl_ast.specs.declared.modules.Module.{Module}
use Rattle.vl_ast.specs.Driven.{output_ports, stimulus_ports}
use Rattle.vl_names.specs.Identifiers.{is_identifier}

-- the names that no column may have
abbrev pub own_names : List (List ℕ)
own_names =
    codes "clk" ∷ codes "reset" ∷ codes "clk_enable" ∷ codes "ce_out" ∷ codes "in_valid"
    ∷ codes "out_ready"
    ∷ codes "in_ready" ∷ codes "out_valid" ∷ []

-- a name that a column may have
pub record IsColumnName (name : List ℕ) : Type 0 where
  pub identifier : is_identifier name ≡ true
  pub plain : starts_with nat_eq name (codes "fx_") ≡ false
  pub free : ¬ Contains own_names name

-- a name for each input and then each output of the module that carries numbers
pub record AreColumnNames (core : Module) (names : List (List ℕ)) : Type 0 where
  pub count : length names ≡ length (stimulus_ports core) + length (output_ports core)
  pub each : All IsColumnName names
  pub differ : IsDistinct bytes_eq names
