use Rattle.std.proofs.Common.{◌≡◌, ℕ, zero, suc, ◌<◌, Bool, false, List, [], ◌∷◌, Result, IfOk, arith, subst}
use Rattle.std.specs.Prelude.{All}
use Rattle.fx_type.specs.FullType.{IsFullSum}
use Rattle.fx_type.specs.declared.full.TooWide.{TooWide}
use Rattle.fx_type.specs.declared.kind.FxType.{FxType}
use Rattle.tests_numbers.proofs.accumulated.accumulated.Goals as goal

-- what holds of three terms holds of all of them
of_all : (P : Bool × FxType → Type 0) (a b c : Bool × FxType) → P a → P b → P c → All P (a ∷ b ∷ c ∷ [])
of_all P a b c first second third zero d low = first
of_all P a b c first second third (suc zero) d low = second
of_all P a b c first second third (suc (suc zero)) d low = third
of_all P a b c first second third (suc (suc (suc k))) d low = absurd (omega arith)

pub of_three-requires-clause-full_type : goal.of_three-requires-clause-full_type
of_three-requires-clause-full_type c =
    of_all (λ term. (full : FxType) × IsFullSum ((false, c.in_ok-own.own) ∷ term ∷ []) full)
    (c.in_ok-p.p, c.in_ok-p.a.kind) (c.in_ok-q.q, c.in_ok-q.b.kind) (c.in_ok-r.r, c.in_ok-r.c.kind) (
      c.in-Ok-Ok-Ok.field-0-0,
      subst (λ (r : Result FxType TooWide). IfOk r
          (λ full. IsFullSum ((false, c.in_ok-own.own) ∷ (c.in_ok-p.p, c.in_ok-p.a.kind) ∷ []) full))
          c.in-Ok-Ok-Ok.is-0 c.full_sum-first.ensures.ok,
    ) (
      c.in-Ok-Ok-Ok.field-0-1,
      subst (λ (r : Result FxType TooWide). IfOk r
          (λ full. IsFullSum ((false, c.in_ok-own.own) ∷ (c.in_ok-q.q, c.in_ok-q.b.kind) ∷ []) full))
          c.in-Ok-Ok-Ok.is-1 c.full_sum-second.ensures.ok,
    ) (
      c.in-Ok-Ok-Ok.field-0-2,
      subst (λ (r : Result FxType TooWide). IfOk r
          (λ full. IsFullSum ((false, c.in_ok-own.own) ∷ (c.in_ok-r.r, c.in_ok-r.c.kind) ∷ []) full))
          c.in-Ok-Ok-Ok.is-2 c.full_sum-third.ensures.ok,
    )
