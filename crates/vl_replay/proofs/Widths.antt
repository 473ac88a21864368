-- The columns of ports.
use Rattle.std.proofs.Common.{◌≡◌, ℕ, zero, suc, ◌<◌, ◌≤◌, ◌-◌, ◌/◌, ◌^◌, ◌==◌, ◌⊎◌, inl, inr, Bool, true, false, ◌||◌, if◌then◌else◌, neg_ℤ, negsuc, pos, List, [], ◌∷◌, All, refl, ap, ◌∙◌, arith}
use Rattle.std.proofs.Common.{pow-suc}
use Rattle.std.proofs.lemmas.Nat.{pow_pos}
use Rattle.std.proofs.lemmas.Bool.{eqb-true}
use Rattle.std.proofs.lemmas.List.Elements.{All-cons, All-nil}
use Rattle.fx_tables.specs.declared.table.Column.{Column}
use Rattle.vl_ast.specs.declared.modules.Port.{Port}
use Rattle.vl_replay.specs.Columns.{column_of, columns_of, has_sign}
use Rattle.vl_ast.proofs.Ranges.{step-some}
use Rattle.vl_ast.specs.Attributes.{step_of}

-- of a port without sign and of another width than 128
pub plain-column : (port : Port) → port.signed ≡ false → (port.width ≡ 128 → ⊥) → column_of port ≡ record { low = pos 0; high = pos (2 ^ port.width - 1); period = step_of port }
plain-column port s other = by port.signed (port.width == 128) s (λ t. other (eqb-true port.width 128 t)) where
  plain : (wide : Bool) → (wide ≡ true → ⊥)
      → ◌≡◌ {A = Column} (record {
        low = if wide then neg_ℤ (pos (2 ^ (port.width - 1))) else pos 0;
        high =
            if wide then pos (2 ^ (port.width - 1) - 1) else pos (2 ^ port.width - 1);
        period = step_of port;
      })
      (record { low = pos 0; high = pos (2 ^ port.width - 1); period = step_of port })
  plain true never = absurd (never refl)
  plain false never = refl

  by : (signed wide : Bool) → signed ≡ false → (wide ≡ true → ⊥)
      → ◌≡◌ {A = Column} (record {
        low = if signed || wide then neg_ℤ (pos (2 ^ (port.width - 1))) else pos 0;
        high = if signed || wide then pos (2 ^ (port.width - 1) - 1) else pos (2 ^ port.width - 1);
        period =
            step_of port;
      })
      (record { low = pos 0; high = pos (2 ^ port.width - 1); period = step_of port })
  by true wide e never = absurd (cc e)
  by false wide e never = plain wide never

-- of a port with sign, or of 128 bits
pub signed-column : (port : Port) → (port.signed ≡ true) ⊎ ((port.signed ≡ false) × (port.width ≡ 128))
    → column_of port ≡ record { low = neg_ℤ (pos (2 ^ (port.width - 1))); high = pos (2 ^ (port.width - 1) - 1); period = step_of port }
signed-column port either = ap (λ (sign : Bool).
    record {
      low = if sign then neg_ℤ (pos (2 ^ (port.width - 1))) else pos 0;
      high =
          if sign then pos (2 ^ (port.width - 1) - 1) else pos (2 ^ port.width - 1);
      period = step_of port;
    })
    (sign either) where
      sign : (port.signed ≡ true) ⊎ ((port.signed ≡ false) × (port.width ≡ 128)) → has_sign port ≡ true
      sign (inl signed) = ap (λ (b : Bool). b || (port.width == 128)) signed
      sign (inr wide) = ap (λ (b : Bool). b || (port.width == 128)) wide.0 ∙ ap (λ (n : ℕ). n == 128) wide.1

-- what is below 0, by its distance
pub below-zero : (n : ℕ) → 1 ≤ n → neg_ℤ (pos n) ≡ negsuc (n - 1)
below-zero zero some = elim some [ ]
below-zero (suc n) some = let before : n ≡ suc n - 1 = omega arith in ap negsuc before

-- the number whose lowest bits are set has all but the highest of them in its half
pub half-of-mask : (width mask : ℕ) → 1 ≤ width → mask ≡ 2 ^ width - 1 → mask / 2 ≡ 2 ^ (width - 1) - 1
half-of-mask zero mask some is = elim some [ ]
half-of-mask (suc w) mask some is =
    let twice = pow-suc 2 w in
    let one = pow_pos w in
    let before : suc w - 1 ≡ w = omega arith in
    let same = ap (λ (n : ℕ). 2 ^ n) before in
    omega (arith, is, twice, one, same)

-- each column has a period
pub all-periods : (ports : List Port) → All (λ (column : Column). 0 < column.period) (columns_of ports)
all-periods [] = All-nil (λ (column : Column). 0 < column.period)
all-periods (port ∷ ports) = All-cons (λ (column : Column). 0 < column.period) (column_of port) (columns_of ports) (let s = (step-some port).0 in omega (arith, s)) (all-periods ports)
