use Rattle.dg_flat.proofs.blocks.placed_under.Goals as goal

pub returns-in-None : goal.returns-in-None
returns-in-None c = rw c.in-None.is c.placed_block.ensures

pub returns-in-Some : goal.returns-in-Some
returns-in-Some c =
    let there = rw c.in-Some.is at c.requires.inside in
    rw (c.in-Some.is, ← c.resets_at-resets.ensures, ← c.requires.places.at c.in-Some.control 0 there) c.placed_block-in-Some.ensures
