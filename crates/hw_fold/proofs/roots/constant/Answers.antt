use Rattle.std.proofs.Common.{◌≡◌, inr, length, refl, sym, subst}
use Rattle.std.proofs.lemmas.Option.{get_or_from_slice_get, slice_get_read}
use Rattle.hw_net.specs.declared.netlist.Net.{Net}
use Rattle.hw_net.specs.Products.{net_at, no_net}
use Rattle.hw_renumber.specs.Renumbered.{place_in}
use Rattle.hw_fold.specs.inner.Passing.{IsBitNet, IsKnown}
use Rattle.hw_fold.specs.inner.Roots.{Fold, IsRoot, fold_of}
use Rattle.hw_fold.proofs.Rules.{known}
use Rattle.hw_fold.proofs.roots.constant.Goals as goal

pub returns-then-is_bit : goal.returns-then-is_bit
returns-then-is_bit c =
    let nets = c.args.nets.now in
    let k = c.args.k in
    let bit = c.in-Some.bit in
    let other = c.in-Some-copied.other in
    let fold : Fold = fold_of nets c.args.alone.now c.args.roots.now c.args.done.now in
    let net : Net = c.index-nets-k.result in
    let here : net_at nets k ≡ net = get_or_from_slice_get nets k net no_net (slice_get_read nets (length nets) k net refl c.requires.inside c.index-nets-k.is) in
    let root : IsRoot fold k other = c.if-can_stand.ensures refl in
    let constant : IsBitNet (net_at nets other) bit = c.if-is_bit.ensures refl in
    let shows : IsKnown nets (place_in c.args.roots.now) (net_at nets k) bit =
    subst (λ (one : Net). IsKnown nets (place_in c.args.roots.now) one bit) (sym here) c.in-Some.ensures in
    record { root = root; same = inr (known nets (place_in c.args.roots.now) k other bit root.inside root.wide root.sign constant shows) }
