use Rattle.std.proofs.Common.{◌≡◌, ◌∙◌, to_z, of_z}
use Rattle.std.specs.Int.{w16}
use Rattle.std.proofs.lemmas.Int.{to_z-of_z}
use Rattle.fx_type.specs.FxType.{InRange, frac_of, aligned}
use Rattle.fx_type.proofs.Ranges.{frac_bounds, type-word}
use Rattle.hw_lower.proofs.StepChains.{made-map}
use Rattle.hw_lower.proofs.Unions.{held-is}
use Rattle.hw_lower.proofs.relating.widen.Goals as goal
use Rattle.hw_lower.proofs.relating.widen.Goals.{After-frac}

-- the frac as 16 bits have it
frac_is : (c : After-frac) → to_z w16 (of_z w16 c.frac.result) ≡ frac_of c.args.holder
frac_is c = to_z-of_z w16 c.frac.result (record { sfits = c.frac.type_inv }) ∙ c.frac.ensures

pub align-requires : goal.align-requires
align-requires c =
    rw (c.word_of.ensures, frac_is (goal.at.align-requires c).After-frac) (record {
      at = c.requires.at;
      kind = c.requires.kind;
      above = c.requires.above;
      high = (frac_bounds c.args.holder c.requires.valid).1;
      word = type-word c.args.holder c.requires.valid;
    })

pub returns : goal.returns
returns c =
    let f = frac_is (goal.at.returns c).After-frac in
    made-map (λ numbers. InRange c.args.side.kind (numbers c.args.side.from.place)
    → numbers c.align.result.place ≡ aligned (frac_of c.args.holder) c.args.side.kind
    (numbers c.args.side.from.place)) (rw (c.word_of.ensures, f) at c.align.ensures)
    (λ numbers has p range. held-is c.args.holder c.args.side.kind (numbers c.args.side.from.place) (numbers c.align.result.place) c.requires.valid c.requires.holds p range)
