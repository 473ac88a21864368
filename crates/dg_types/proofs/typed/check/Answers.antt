use Rattle.std.proofs.Common.{◌≡◌, ℕ, List, Some, ap, sym, refl, ◌∙◌}
use Rattle.std.specs.Prelude.{slice_get}
use Rattle.std.proofs.lemmas.Option.{slice_get_within, slice_get-get_or}
use Rattle.dg_model.specs.declared.diagram.Block.{Block}
use Rattle.dg_model.specs.declared.fault.Shown.TheVariants.{Word}
use Rattle.dg_model.specs.declared.rule.Rule.{Rule}
use Rattle.dg_model.specs.Faults.{fault_of, path_of}
use Rattle.dg_types.specs.inner.TypeScan.{word_of}
use Rattle.dg_types.proofs.typed.check.Goals as goal

pub returns-in_default-clause-kept : goal.returns-in_default-clause-kept
returns-in_default-clause-kept c = λ place block at. c.first_broken.ensures.none c.in_default.is place block (slice_get_within _ place block at) at

pub returns-clause-refused : goal.returns-clause-refused
returns-clause-refused c =
    let diagram = c.args.typed.diagram.now in
    let place = c.in-Some.place in
    let block = c.index-as_slice-place.result in
    let at : slice_get diagram.blocks place ≡ Some block = slice_get-get_or diagram.blocks place block c.in-Some.ensures.there ∙ ap Some (sym (rw c.as_slice.ensures at c.index-as_slice-place.is)) in
    let told : path_of diagram place ≡ block.path = rw at refl in
    let path = ap (λ (b : Block). b.path) (sym c.index-as_slice-place.is) ∙ sym told in
    record {
      place = place;
      block = block;
      first = record { there = at; broken = c.in-Some.ensures.broken block at; before = c.in-Some.ensures.before };
      fault_is = c.in_ok-fault.ensures ∙ ap (λ (p : List ℕ). fault_of Rule.Type p (Word (word_of c.args.part))) path;
    }
