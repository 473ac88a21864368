use Rattle.std.proofs.Common.{◌≡◌, ◌++◌, ◌∙◌, [], List, append_assoc, flat_map}
use Rattle.vl_ast.specs.declared.designs.Instance.{Instance}
use Rattle.vl_ast.specs.declared.modules.ModItem.{ModItem}
use Rattle.vl_ast.proofs.Listings.{has-more, holds-as}
use Rattle.vl_hier.specs.Flat.{declaring, drivers_by, driving, nets_by}
use Rattle.vl_hier.specs.inner.Tables.{module_by}
use Rattle.vl_hier.specs.declared.items.Part.TheVariants.{Drivers, Nets}
use Rattle.vl_hier.proofs.Filters.{part-kept}
use Rattle.vl_hier.proofs.TableTests.{module-is}
use Rattle.vl_hier.proofs.flattening.flat_items.Goals as goal

four : (a b c d : List ModItem) → (([] ++ a ++ b) ++ c) ++ d ≡ a ++ (b ++ (c ++ d))
four a b c d = simp append_assoc

pub returns : goal.returns
returns c =
    let modules = c.in_ok-modules.modules in
    let items = c.as_slice-items.result.now in
    let nets = flat_map (λ (i : Instance). nets_by i.name (module_by modules i.of)) c.args.instances.now in
    let drivers = flat_map (λ (i : Instance). drivers_by i (module_by modules i.of)) c.args.instances.now in
    let same = c.renamed_is_same.ensures in
    let first = holds-as (λ k. [] ++ part-kept same Nets items k) (has-more c.begin-out.ensures c.put_part.ensures) in
    let second = has-more first c.put_all_nets.ensures in
    let third = holds-as (λ k. ([] ++ declaring items ++ nets) ++ part-kept same Drivers items k) (has-more second c.put_part-2.ensures) in
    let last = has-more third c.put_all_drivers.ensures in
    let each = module-is c.args.below.now modules c.in_ok-modules.ensures in
    let are = four (declaring items) nets (driving items) drivers
    ∙ (λ k. declaring (c.as_slice-items.ensures k)
    ++ (flat_map (λ (i : Instance). nets_by i.name (each i.of k)) c.args.instances.now
    ++ (driving (c.as_slice-items.ensures k)
    ++ flat_map (λ (i : Instance). drivers_by i (each i.of k)) c.args.instances.now))) in
    c.finish.ensures _ (holds-as are last)
