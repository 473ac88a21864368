use Rattle.std.proofs.Common.{◌≡◌, ◌≤◌, ◌++◌, ◌∷◌, [], length, ap, sym, ◌∙◌, List, ℕ, get_or, take, arith}
use Rattle.std.proofs.lemmas.List.{append_assoc, take_all, take_more}
use Rattle.dg_model.proofs.Flat.{parts_grown, starts_grown}
use Rattle.dg_model.proofs.port_widths.put_part.Goals as goal

pub loop-width-preserved : goal.loop-width-preserved
loop-width-preserved c =
    let part = c.args.part.now in
    let i = c.loop-width.width-index in
    let width = get_or part i 0 in
    c.in_ok-push.ensures.appended
    ∙ ap (λ (all : List ℕ). all ++ width ∷ []) c.loop-width.invariant
    ∙ append_assoc c.args.all.now (take i part) (width ∷ [])
    ∙ ap (λ (put : List ℕ). c.args.all.now ++ put) (sym (take_more part i 0 c.loop-width-test.true))

-- all parts have been put
whole : (old all part : List ℕ) (i : ℕ) → all ≡ old ++ take i part → length part ≤ i → all ≡ old ++ part
whole old all part i put end = put ∙ ap (λ (xs : List ℕ). old ++ xs) (take_all i part end)

pub returns-clause-grown : goal.returns-clause-grown
returns-clause-grown c =
    let here : c.in-Ok.start ≡ length c.args.all.now = omega (arith, c.in-Ok.ensures, ap (λ (xs : List ℕ). length xs) c.as_slice.ensures) in
    let put = whole c.args.all.now c.loop-width.all c.args.part.now c.loop-width.width-index c.loop-width.invariant c.loop-width-test.false in
    rw (c.in_ok-push-2.ensures.appended, put, here) (parts_grown c.args.starts.now c.args.all.now c.args.part.now c.requires)

pub returns-clause-starts : goal.returns-clause-starts
returns-clause-starts c =
    let here : c.in-Ok.start ≡ length c.args.all.now = omega (arith, c.in-Ok.ensures, ap (λ (xs : List ℕ). length xs) c.as_slice.ensures) in
    let put = whole c.args.all.now c.loop-width.all c.args.part.now c.loop-width.width-index c.loop-width.invariant c.loop-width-test.false in
    rw (c.in_ok-push-2.ensures.appended, put, here) (starts_grown c.args.starts.now c.args.all.now c.args.part.now c.requires)
