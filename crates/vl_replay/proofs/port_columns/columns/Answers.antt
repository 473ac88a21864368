use Rattle.std.proofs.Common.{List, Contains, subst, ap, ◌∙◌}
use Rattle.vl_ast.specs.declared.modules.Port.{Port}
use Rattle.vl_ast.specs.declared.modules.Module.{Module}
use Rattle.vl_eval.specs.Machine.{source_of}
use Rattle.vl_eval.proofs.Sounds.{port-narrow}
use Rattle.vl_replay.proofs.port_columns.columns.Goals as goal

pub columns_where-requires : goal.columns_where-requires
columns_where-requires c =
    let ports = c.as_slice-ports.ensures ∙ ap (λ (m : Module). m.ports) c.module-source.ensures in
    λ port there. port-narrow (source_of c.args.machine.now) c.requires.sound.narrow port (subst (λ (xs : List Port). Contains xs port) ports there)

pub columns_where-requires-2 : goal.columns_where-requires-2
columns_where-requires-2 c =
    let ports = c.as_slice-ports.ensures ∙ ap (λ (m : Module). m.ports) c.module-source.ensures in
    λ port there. port-narrow (source_of c.args.machine.now) c.requires.sound.narrow port (subst (λ (xs : List Port). Contains xs port) ports there)
