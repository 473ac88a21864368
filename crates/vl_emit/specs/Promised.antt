-- What `emit` promises of the module that it gives, each a clause of its own.
pub use Rattle.vl_ast.specs.Conditions.{BreaksNone}
pub use Rattle.vl_ast.specs.Grammar.{Spells}
pub use Rattle.vl_ast.specs.Spelling.{spelling}
pub use Rattle.vl_ast.specs.Stalls.{KeepsBits}
pub use Rattle.vl_emit.specs.Header.{HasHeader}
pub use Rattle.vl_emit.specs.Items.{ItemsAre, NamesDiffer}
pub use Rattle.vl_emit.specs.Labelled.{LabelsAreNames}
pub use Rattle.vl_emit.specs.Products.{ProductsAre}
pub use Rattle.vl_emit.specs.Reads.{ReadsOnly}
pub use Rattle.vl_emit.specs.Registers.{RegistersAre}
pub use Rattle.vl_emit.specs.Shown.{NetsAreShown, NetsFit, OutputsAreShown}
