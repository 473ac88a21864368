-- A text that stands for a tree has a diagram, or breaks a rule.
use Rattle.std.proofs.Common.{inl, inr, [], refl}
use Rattle.std.specs.Prelude.{map}
use Rattle.mdl_build.specs.Laws.{NestedIsThere}
use Rattle.dg_flat.specs.Laws.{FlatIsThere}
use Rattle.dg_rules.specs.Laws.{RuleIsThere}
use Rattle.cmd_model.specs.Laws.{ModelIsThere}
use Rattle.cmd_model.specs.Model.{IsDiagramOf}

pub some_model : NestedIsThere → FlatIsThere → RuleIsThere → ModelIsThere
some_model some_nested some_flat some_rule bytes tree stands not none =
    some_nested tree
    (λ nested built sound. some_flat nested sound
    (λ diagram wiring enables flat wired.
    let is : IsDiagramOf tree diagram = record { nested = nested; built = built; wiring = wiring; enables = enables; flat = flat; wired = wired } in
    some_rule diagram wired (λ checked. not diagram (record { tree = tree; stands = stands; flat = is; checked = checked }))
    (λ fault broken. none fault (map (λ block. block.path) diagram.blocks)
    (record {
      tree = tree;
      stands = stands;
      broken =
          inr (inr (record { diagram = diagram; flat = is; broken = broken; paths_are = refl }));
    })))
    (λ fault broken. none fault [] (record { tree = tree; stands = stands; broken = inr (inl (record { nested = nested; built = built; broken = broken; none = refl })) })))
    (λ fault broken. none fault [] (record { tree = tree; stands = stands; broken = inl (record { broken = broken; none = refl }) }))
