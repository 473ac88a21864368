use Rattle.std.proofs.Common.{◌≡◌, ◌++◌, ℕ, Option, OnOk, sym, subst}
use Rattle.hw_build.specs.Multiplied.{multiplication_name}
use Rattle.hw_build.specs.inner.Tally.{product_labels}
use Rattle.hw_build.proofs.blocks.name_product.Goals as goal

pub returns : goal.returns
returns c =
    let name : c.in_ok-name.name ≡ multiplication_name c.args.block c.args.element = c.in_ok-name.ensures in
    subst (λ (multiply : Option ℕ). OnOk c.add_label.result
    (c.add_label.new.self ≡ record c.args.net.now
    { labels = c.args.net.now.labels ++ product_labels c.args.block c.args.element multiply }))
    (sym c.in-Some.is)
    (rw name at c.add_label.ensures.grown)
