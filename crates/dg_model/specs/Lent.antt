-- The columns of a kind's row that hold lists, as the code lends them (own).
use Rattle.dg_model.specs.declared.lent.Shape.{Shape as LentShape}
use Rattle.dg_model.specs.declared.lent.Shape.TheVariants.{Elementwise, Joined, Parted, Single}
use Rattle.dg_model.specs.declared.lent.FullRule.{FullRule as LentFullRule}
use Rattle.dg_model.specs.declared.lent.FullRule.TheVariants.{NoFull, FullSum, FullScaled, FullProduct, UnionOfTwo, UnionOfEnds}
use Rattle.dg_model.specs.KindRow.{Shape, FullRule}

-- the shape whose lists are lent
abbrev pub lent_shape : LentShape → Shape
lent_shape Elementwise = Shape.Elementwise
lent_shape (Joined sizes) = Shape.Joined sizes.now
lent_shape (Parted sizes) = Shape.Parted sizes.now
lent_shape Single = Shape.Single

-- the full type or union whose lists are lent
abbrev pub lent_full : LentFullRule → FullRule
lent_full NoFull = FullRule.NoFull
lent_full (FullSum negative accum) = FullRule.FullSum negative.now accum
lent_full (FullScaled value param) = FullRule.FullScaled value.now param
lent_full FullProduct = FullRule.FullProduct
lent_full UnionOfTwo = FullRule.UnionOfTwo
lent_full UnionOfEnds = FullRule.UnionOfEnds
