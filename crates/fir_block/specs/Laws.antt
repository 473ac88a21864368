-- What the blocks that a filter stands for have in common (own).
use Rattle.std.specs.Prelude.{◌≡◌, ◌≢◌, suc, List, [], ◌∷◌, ◌++◌, All, AllPairs, length, codes}
use Rattle.fx_type.specs.declared.decimal.Decimal.{Decimal}
use Rattle.dg_model.specs.declared.row.Role.{Role}
use Rattle.dg_model.specs.KindRow.{IsChoice, IsSpec, MayDeclare}
use Rattle.dg_model.specs.Library.{row_of}
use Rattle.dg_model.specs.Readable.{IsReadable}
use Rattle.fir_block.specs.declared.filter.Fir.{Fir}
use Rattle.fir_block.specs.declared.filter.FirBlock.{FirBlock}
use Rattle.fir_block.specs.Expanded.{IsFir, blocks_of, extent, port_block}

-- a filter is such as its text in a model can be
pub record IsReadableFir (fir : Fir) : Type 0 where
  pub is_fir : IsFir fir
  pub param : IsChoice fir.param × IsSpec fir.param
  pub result : IsChoice fir.result × IsSpec fir.result
  pub period : MayDeclare fir.period

-- the blocks of a filter, of which a list past its end gives the other
pub record AreSound (other : Decimal) (fir : Fir) : Type 0 where
  -- they are such as their text in a model could be
  pub readable : All (λ inner. IsReadable inner.block) (blocks_of other fir)
  -- the first is the Inport and the last the Outport; those between are no ports
  pub between : List FirBlock
  pub ends : blocks_of other fir
      ≡ port_block (codes "in") ∷ (between ++ port_block (codes "out") ∷ [])
  pub plain : All (λ inner. (row_of inner.block.kind).place.role ≡ Role.Plain) between

-- these blocks and the subsystem are as many as the filter's extent
abbrev pub BlocksAreCounted : Type 0
BlocksAreCounted =
    (other : Decimal) (fir : Fir) → IsFir fir
    → suc (length (blocks_of other fir)) ≡ extent (length fir.coefficients)

-- each of them is well formed
abbrev pub AreSoundBlocks : Type 0
AreSoundBlocks = (other : Decimal) (fir : Fir) → IsReadableFir fir → AreSound other fir

-- no two of them have one name
abbrev pub NamesDiffer : Type 0
NamesDiffer =
    (other : Decimal) (fir : Fir) → IsFir fir
    → AllPairs (λ inner later. inner.name ≢ later.name) (blocks_of other fir)
