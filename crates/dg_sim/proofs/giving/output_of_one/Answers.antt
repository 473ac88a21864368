use Rattle.std.proofs.Common.{◌≡◌, ◌<◌, ℕ, zero, suc, ℤ, List, [], ◌∷◌, map, length, slice_index_or, ap, sym, ◌∙◌, subst, refl, arith}
use Rattle.std.specs.Prelude.{IfSome}
use Rattle.std.specs.Int.{w128}
use Rattle.std.proofs.lemmas.Int.{to_z-of_z}
use Rattle.dg_model.specs.Operation.{CanCarryOut, OpGives}
use Rattle.dg_sim.specs.Program.{part, value_at, operation_at}
use Rattle.dg_sim.proofs.giving.output_of_one.Goals as goal

-- the value of the one argument
one_looked : (args : List ℕ) (first : ℕ) (look : ℕ → ℤ) → first < length args → map look (part args first 1) ≡ look (slice_index_or args first 0) ∷ []
one_looked [] first look h = absurd (omega (arith, h))
one_looked (x ∷ args) zero look h = refl
one_looked (x ∷ args) (suc first) look h = one_looked args first look (omega (arith, h))

-- of which the number that was read is
read_is : (args shared : List ℕ) (first : ℕ) (look : ℕ → ℤ) (v : ℤ) → shared ≡ args → first < length args → v ≡ look (slice_index_or shared first 0) → map look (part args first 1) ≡ v ∷ []
read_is args shared first look v same h is =
    one_looked args first look h ∙ ap (λ (u : ℤ). u ∷ []) (ap (λ (xs : List ℕ). look (slice_index_or xs first 0)) (sym same) ∙ sym is)

pub alone-requires : goal.alone-requires
alone-requires c =
    let work = c.args.work.now in
    let program = c.args.program.now in
    let e = to_z-of_z w128 c.read.result (record { sfits = c.read.type_inv }) in
    let inputs = read_is program.args c.as_slice.result.now work.first (value_at c.args.row.now) c.read.result c.as_slice.ensures (omega (arith, c.requires.args)) c.read.ensures in
    (operation_at program work, c.requires.ready, rw e (subst (λ (xs : List ℤ). CanCarryOut (operation_at program work) xs) inputs c.requires.can))

pub returns : goal.returns
returns c =
    let work = c.args.work.now in
    let program = c.args.program.now in
    let e = to_z-of_z w128 c.read.result (record { sfits = c.read.type_inv }) in
    let inputs = read_is program.args c.as_slice.result.now work.first (value_at c.args.row.now) c.read.result c.as_slice.ensures (omega (arith, c.requires.args)) c.read.ensures in
    let can = subst (λ (xs : List ℤ). CanCarryOut (operation_at program work) xs) inputs c.requires.can in
    let gives = rw e at (c.alone.ensures (operation_at program work) c.requires.ready) in
    subst (λ (xs : List ℤ). IfSome c.alone.result (λ value. OpGives (operation_at program work) xs value)) (sym inputs) (gives can)
