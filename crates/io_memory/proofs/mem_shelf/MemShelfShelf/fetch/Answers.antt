use Rattle.std.proofs.Common.{◌≡◌, ◌≤◌, ℕ, All, subst, sym, refl, inl, arith}
use Rattle.io_memory.specs.Memory.{IsSteady, ShelfState}
use Rattle.io_memory.proofs.mem_shelf.MemShelfShelf.fetch.Goals as goal

-- no later fetch fails by its number where none did before
steady_on : (shelf own : ShelfState) (fetches : ℕ) → own ≡ shelf → own.fetches ≤ fetches → IsSteady shelf → All (λ number. number ≤ fetches) own.failing
steady_on shelf own fetches is later steady k d below =
    let before = subst (λ (state : ShelfState). IsSteady state) (sym is) steady k d below in
    omega (arith, before, later)

pub returns-clause-stays_steady : goal.returns-clause-stays_steady
returns-clause-stays_steady c = steady_on _ _ c.saturating_add-self-inside.result c.self.view_is (omega (arith, c.saturating_add-self-inside.ensures))

pub returns-then-fails-clause-stays_steady : goal.returns-then-fails-clause-stays_steady
returns-then-fails-clause-stays_steady c = steady_on _ _ c.saturating_add-self-inside.result c.self.view_is (omega (arith, c.saturating_add-self-inside.ensures))

pub returns-in_default-clause-stays_steady : goal.returns-in_default-clause-stays_steady
returns-in_default-clause-stays_steady c = steady_on _ _ c.saturating_add-self-inside.result c.self.view_is (omega (arith, c.saturating_add-self-inside.ensures))

pub returns-then-length-limit-clause-stays_steady : goal.returns-then-length-limit-clause-stays_steady
returns-then-length-limit-clause-stays_steady c = steady_on _ _ c.saturating_add-self-inside.result c.self.view_is (omega (arith, c.saturating_add-self-inside.ensures))

pub returns-in_err-copy-clause-stays_steady : goal.returns-in_err-copy-clause-stays_steady
returns-in_err-copy-clause-stays_steady c = steady_on _ _ c.saturating_add-self-inside.result c.self.view_is (omega (arith, c.saturating_add-self-inside.ensures))

pub returns-clause-too_long : goal.returns-clause-too_long
returns-clause-too_long c = λ reported e. absurd cc

pub returns-then-fails-clause-too_long : goal.returns-then-fails-clause-too_long
returns-then-fails-clause-too_long c = λ reported e. absurd cc

pub returns-in_default-clause-too_long : goal.returns-in_default-clause-too_long
returns-in_default-clause-too_long c = λ reported e. absurd cc

pub returns-then-fails-clause-faultless : goal.returns-then-fails-clause-faultless
returns-then-fails-clause-faultless c = λ other. absurd (other refl)

pub returns-in_default-clause-faultless : goal.returns-in_default-clause-faultless
returns-in_default-clause-faultless c = λ other. absurd (other refl)

pub returns-then-fails-clause-exactly_failed : goal.returns-then-fails-clause-exactly_failed
returns-then-fails-clause-exactly_failed c = (λ is. inl (c.fails_by_number-fails.ensures.0 c.if-fails.true), λ fails. refl)
