use Rattle.std.proofs.Common.{◌≡◌, true, false, refl, ap, sym, ◌∙◌, arith}
use Rattle.std.specs.Prelude.{slice_get, Some}
use Rattle.std.proofs.lemmas.Option.{slice_get-get_or}
use Rattle.dg_model.specs.declared.diagram.Block.{Block}
use Rattle.dg_types.proofs.ScanFacts.{ends_there}
use Rattle.dg_types.proofs.Verdicts.{breaks_at, breaks_bounds, keeps_all}
use Rattle.dg_types.proofs.dimensions.widths_in.Goals as goal

pub returns-in-Some-clause-refused : goal.returns-in-Some-clause-refused
returns-in-Some-clause-refused c =
    let diagram = c.args.diagram.now in
    let place = c.in-Some.place in
    let block = c.index-as_slice-place.result in
    let at : slice_get diagram.blocks place ≡ Some block = slice_get-get_or diagram.blocks place block c.in-Some.ensures.there ∙ ap Some (sym (rw c.as_slice.ensures at c.index-as_slice-place.is)) in
    let path : c.in_ok-path.path ≡ block.path = c.in_ok-path.ensures ∙ ap (λ (b : Block). b.path) (sym c.index-as_slice-place.is) in
    breaks_at diagram place block c.in_ok-path.path c.fault_at.result at (c.in-Some.ensures.broken block at) c.in-Some.ensures.before path c.fault_at.ensures

pub is_bounded-requires-clause-from : goal.is_bounded-requires-clause-from
is_bounded-requires-clause-from c =
    rw c.as_slice-2.ensures (λ k edge inside. (ends_there c.args.diagram.now c.args.scan.now.widths c.requires.wired c.requires.scan.size k edge inside).0)

pub returns-then-not-is_bounded-clause-refused : goal.returns-then-not-is_bounded-clause-refused
returns-then-not-is_bounded-clause-refused c =
    let no : c.is_bounded.result ≡ false = grind arith in
    breaks_bounds c.args.diagram.now c.as_slice-2.result.now c.fault_at-then-not-is_bounded.result (c.in_default.ensures.none refl) (c.as_slice-2.ensures ∙ c.requires.scan.widths)
    (λ bounded. let yes = c.is_bounded.ensures.1 bounded in cc) (rw c.new.ensures at c.fault_at-then-not-is_bounded.ensures)

pub returns-clause-kept : goal.returns-clause-kept
returns-clause-kept c =
    let yes : c.is_bounded.result ≡ true = grind arith in
    keeps_all c.args.diagram.now c.as_slice-2.result.now (c.in_default.ensures.none refl) (c.as_slice-2.ensures ∙ c.requires.scan.widths) (c.is_bounded.ensures.0 yes)
