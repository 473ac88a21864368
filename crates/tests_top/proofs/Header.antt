-- The module of one delay breaks no condition.
use Rattle.std.proofs.Common.{◌≡◌, ◌&&◌, ◌||◌, Bool, true, false, None, codes, bytes_eq, find, option_map, refl, ap, ◌∙◌}
use Rattle.vl_ast.specs.declared.modules.Port.{Port}
use Rattle.vl_ast.specs.Conditions.{BreaksNone, undriven, doubly, too_wide, no_reset, lacks_attribute, no_attribute}
use Rattle.vl_ast.specs.Control.{is_stallable}
use Rattle.tests_top.proofs.DelayModule.{OneDelay, delay_module}
use Rattle.vl_ast.proofs.Copies.{reads-Name}
use Rattle.tests_top.proofs.Names.{AreDifferent, sound-name, own_length-name}
use Rattle.tests_top.proofs.Bits.{bits-are_number}
use Rattle.tests_top.proofs.Loop.{no-loop}

-- neither a signed input nor an output is a clock enable
pub unstallable : (d : OneDelay) → is_stallable (delay_module d) ≡ false
unstallable d = neither (bytes_eq d.input (codes "clk_enable")) (bytes_eq d.output (codes "clk_enable")) where
  neither : (input output : Bool) → ((input && true && false && false) || ((output && false && false && false) || false)) ≡ false
  neither true true = refl
  neither true false = refl
  neither false true = refl
  neither false false = refl

undriven-none : (d : OneDelay) → AreDifferent d.input d.output → undriven (delay_module d) ≡ None
undriven-none d n = simp (
  reads-Name,
  sound-name,
  own_length-name,
  n.clk-u.0,
  n.clk-u.1,
  n.reset-u.0,
  n.reset-u.1,
  n.register-u.0,
  n.register-u.1,
  n.clk-y.0,
  n.clk-y.1,
  n.reset-y.0,
  n.reset-y.1,
  n.register-y.0,
  n.register-y.1,
  n.u-y.0,
  n.u-y.1,
  n.u-u,
  n.y-y,
)

doubly-none : (d : OneDelay) → AreDifferent d.input d.output → doubly (delay_module d) ≡ None
doubly-none d n = simp (
  reads-Name,
  sound-name,
  own_length-name,
  n.clk-u.0,
  n.clk-u.1,
  n.reset-u.0,
  n.reset-u.1,
  n.register-u.0,
  n.register-u.1,
  n.clk-y.0,
  n.clk-y.1,
  n.reset-y.0,
  n.reset-y.1,
  n.register-y.0,
  n.register-y.1,
  n.u-y.0,
  n.u-y.1,
  n.u-u,
  n.y-y,
)

too_wide-none : (d : OneDelay) → AreDifferent d.input d.output → too_wide (delay_module d) ≡ None
too_wide-none d n = simp (
  bits-are_number d.initial,
  reads-Name,
  sound-name,
  own_length-name,
  n.clk-u.0,
  n.clk-u.1,
  n.reset-u.0,
  n.reset-u.1,
  n.register-u.0,
  n.register-u.1,
  n.clk-y.0,
  n.clk-y.1,
  n.reset-y.0,
  n.reset-y.1,
  n.register-y.0,
  n.register-y.1,
  n.u-y.0,
  n.u-y.1,
  n.u-u,
  n.y-y,
)

no_reset-none : (d : OneDelay) → AreDifferent d.input d.output → no_reset (delay_module d) ≡ None
no_reset-none d n = simp (
  reads-Name,
  sound-name,
  own_length-name,
  n.clk-u.0,
  n.clk-u.1,
  n.reset-u.0,
  n.reset-u.1,
  n.register-u.0,
  n.register-u.1,
  n.clk-y.0,
  n.clk-y.1,
  n.reset-y.0,
  n.reset-y.1,
  n.register-y.0,
  n.register-y.1,
  n.u-y.0,
  n.u-y.1,
  n.u-u,
  n.y-y,
)

no_attribute-none : (d : OneDelay) → AreDifferent d.input d.output → no_attribute (delay_module d) ≡ None
no_attribute-none d n =
    ap (λ stalls. option_map (λ (port : Port). port.name) (find (lacks_attribute stalls) (delay_module d).ports))
    (unstallable d) ∙ simp (
      reads-Name,
      sound-name,
      own_length-name,
      n.clk-u.0,
      n.clk-u.1,
      n.reset-u.0,
      n.reset-u.1,
      n.register-u.0,
      n.register-u.1,
      n.clk-y.0,
      n.clk-y.1,
      n.reset-y.0,
      n.reset-y.1,
      n.register-y.0,
      n.register-y.1,
      n.u-y.0,
      n.u-y.1,
      n.u-u,
      n.y-y,
    )

pub breaks-none : (d : OneDelay) → AreDifferent d.input d.output → BreaksNone (delay_module d)
breaks-none d n = record {
  acyclic = record { driven = undriven-none d n; once = doubly-none d n; acyclic = no-loop d n };
  narrow = too_wide-none d n;
  clocked = no_reset-none d n;
  attributed = no_attribute-none d n;
}
