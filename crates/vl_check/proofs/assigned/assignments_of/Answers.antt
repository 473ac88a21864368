use Rattle.std.proofs.Common.{◌≡◌, ◌≤◌, ◌+◌, ◌++◌, ◌∷◌, [], ℕ, List, Option, None, length, replicate, slice_index_or, take, sym, ap, subst, ◌∙◌, arith, rules}
use Rattle.std.proofs.lemmas.List.{length-replicate, length-take-le, take_all, take_more}
use Rattle.fx_io.specs.Rows.{row_at}
use Rattle.vl_check.specs.inner.Assignments.{IsNoted, places_after}
use Rattle.vl_check.proofs.ItemNotes.{noted-none, noted-step, replicated}
use Rattle.vl_check.proofs.assigned.assignments_of.Goals as goal

pub loop-at-preserved : goal.loop-at-preserved
loop-at-preserved c =
    let scope = c.args.scope.now in
    let items = c.args.items.now in
    let at = c.loop-at.at in
    let item = c.index-items-at.result in
    let below = c.loop-at-test.true in
    let more : take (at + 1) items ≡ take at items ++ item ∷ [] = take_more items at item below ∙ ap (λ x. take at items ++ x ∷ []) (sym c.index-items-at.is) in
    let long : length (take at items) ≡ at = length-take-le at items (omega (arith, below)) in
    let step = noted-step scope (take at items) item c.loop-at.places.items c.loop-at.reads.items c.loop-at.invariant in
    subst (λ xs. IsNoted scope xs c.note.new.places.items c.note.new.reads.items) (sym more)
    (subst (λ ps. IsNoted scope (take at items ++ item ∷ []) ps c.note.new.reads.items) (sym (c.in_ok-note.ensures.places ∙ ap (λ n. places_after scope c.loop-at.places.items n item) (sym long)))
    (subst (λ rs. IsNoted scope (take at items ++ item ∷ []) (places_after scope c.loop-at.places.items (length (take at items)) item) rs) (sym c.in_ok-note.ensures.reads) step))

pub loop-at-init : goal.loop-at-init
loop-at-init c =
    let count = c.count.result in
    let places : c.in_ok-places.places.items ≡ replicate count None = c.in_ok-places.ensures.items_if_clones_equal (search rules) in
    let reads : c.in_ok-reads.reads.items ≡ replicate c.count-2.result [] = c.in_ok-reads.ensures in
    noted-none c.args.scope.now c.in_ok-places.places.items c.in_ok-reads.reads.items
    (sym c.in_ok-places.places.ok.0 ∙ c.in_ok-places.ensures.len ∙ c.count.ensures) (ap length reads ∙ length-replicate c.count-2.result [] ∙ c.count-2.ensures)
    (λ v. ap (λ (ps : List (Option ℕ)). slice_index_or ps v None) places ∙ replicated None count v) (λ v. ap (λ (rs : List (List ℕ)). row_at rs v) reads ∙ replicated [] c.count-2.result v)

pub returns : goal.returns
returns c =
    let items = c.args.items.now in
    let past : length items ≤ c.loop-at.at = c.loop-at-test.false in
    subst (λ xs. IsNoted c.args.scope.now xs c.loop-at.places.items c.loop-at.reads.items) (take_all c.loop-at.at items past) c.loop-at.invariant
