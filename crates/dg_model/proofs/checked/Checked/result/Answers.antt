use Rattle.std.proofs.Common.{arith}
use Rattle.std.proofs.lemmas.List.{length-map}
use Rattle.dg_model.specs.Attributes.{or_logical}
use Rattle.dg_model.specs.TypeRounds.{types_of}
use Rattle.dg_model.proofs.Propagation.{type_stands, length_types}
use Rattle.dg_model.proofs.checked.Checked.result.Goals as goal

pub bounds-as_slice-block : goal.bounds-as_slice-block
bounds-as_slice-block c =
    let within = rw (← c.self.view_is) at c.requires in
    rw (c.as_slice.ensures, c.self.invariant.1.types) (omega (arith, within, length_types c.self.inside.diagram, length-map (types_of c.self.inside.diagram) or_logical))

pub returns : goal.returns
returns c =
    let within = rw (← c.self.view_is) at c.requires in
    rw (c.as_slice.ensures, c.self.invariant.1.types, ← c.self.view_is) (λ port. type_stands c.self.inside.diagram c.args.block _ within)
