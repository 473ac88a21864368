use Rattle.std.proofs.Common.{◌≡◌, ℕ, List, sym, subst, ap, ◌∙◌}
use Rattle.mdl_build.specs.Extents.{starts}
use Rattle.mdl_build.specs.inner.Sketch.{AreNumbersOf}
use Rattle.mdl_build.proofs.ModelNumbers.{are_numbers}
use Rattle.mdl_build.proofs.Sound.{drawn_model}
use Rattle.mdl_build.proofs.building.put_by_drawn.Goals as goal

pub put_expanded-requires-clause-numbers : goal.put_expanded-requires-clause-numbers
put_expanded-requires-clause-numbers c =
    let items = c.args.known.now.layout.items.now in
    let extents = c.args.known.now.extents.items in
    let lines = c.args.lines.now in
    let model = drawn_model c.values_are_one.ensures items extents c.args.blocks lines c.requires.known.extents c.requires.drawn in
    let numbers : c.deref-2.result.now ≡ starts 0 extents = c.deref-2.ensures.value ∙ c.in_ok-numbers.ensures ∙ ap (starts 0) c.deref.ensures.value in
    subst (λ (ns : List ℕ). AreNumbersOf ns c.args.blocks lines) (sym numbers) (are_numbers extents c.args.blocks lines model)
