use Rattle.std.proofs.Common.{◌≡◌, inr, length, refl, sym, subst}
use Rattle.std.proofs.lemmas.Option.{get_or_from_slice_get, slice_get_read}
use Rattle.hw_net.specs.declared.netlist.Net.{Net}
use Rattle.hw_net.specs.Products.{net_at, no_net}
use Rattle.hw_renumber.specs.Renumbered.{place_in}
use Rattle.hw_fold.specs.inner.Passing.{Passes}
use Rattle.hw_fold.specs.inner.Roots.{Fold, IsFound, IsRoot, fold_of}
use Rattle.hw_fold.proofs.Rules.{passes}
use Rattle.hw_fold.proofs.roots.shown.Goals as goal

pub returns-then-can_stand : goal.returns-then-can_stand
returns-then-can_stand c =
    let nets = c.args.nets.now in
    let k = c.args.k in
    let read = c.in-Some.read in
    let fold : Fold = fold_of nets c.args.alone.now c.args.roots.now c.args.done.now in
    let net : Net = c.index-nets-k.result in
    let here : net_at nets k ≡ net = get_or_from_slice_get nets k net no_net (slice_get_read nets (length nets) k net refl c.requires.inside c.index-nets-k.is) in
    let e = c.root_of-other.ensures in
    let root : IsRoot fold k (place_in c.args.roots.now read) = subst (IsRoot fold k) e (c.if-can_stand.ensures refl) in
    let shown : Passes nets (place_in c.args.roots.now) (net_at nets k) read =
    subst (λ (one : Net). Passes nets (place_in c.args.roots.now) one read) (sym here) c.in-Some.ensures in
    subst (IsFound fold k) (sym e) (record {
      root = root;
      same = inr (passes nets (place_in c.args.roots.now) k read root.inside root.wide root.sign shown);
    })
