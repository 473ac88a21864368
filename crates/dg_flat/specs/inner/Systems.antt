-- Tables with an entry for each System (own).
use Rattle.std.specs.Prelude.{suc, List, length}
use Rattle.dg_model.specs.declared.nested.NestedBlock.{NestedBlock}
use Rattle.dg_flat.specs.declared.systems.Systems.{Systems}
use Rattle.dg_flat.specs.declared.numbering.Side.TheVariants.{In, Out}
use Rattle.dg_flat.specs.Parts.{enable_port, control_of}
use Rattle.dg_flat.specs.inner.PortNumbers.{IsNumbering}
use Rattle.dg_flat.specs.inner.Slots.{system_of}
use Rattle.dg_flat.specs.inner.Tables.{IsTable}

-- the tables of the Systems
pub record AreSystems (blocks : List NestedBlock) (systems : Systems) : Type 0 where
  pub ins : IsNumbering blocks In systems.ins
  pub outs : IsNumbering blocks Out systems.outs
  pub enables : IsTable (suc (length blocks))
      (λ slot. enable_port blocks (system_of slot)) systems.enables.items
  pub controls : IsTable (suc (length blocks))
      (λ slot. control_of blocks (system_of slot)) systems.controls.items
