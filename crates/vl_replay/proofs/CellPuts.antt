-- One more output whose number is put into its cell where it is due.
use Rattle.std.proofs.Common.{◌≡◌, ◌<◌, ◌+◌, ◌-◌, ◌*◌, ◌%◌, ◌==◌, ◌⊎◌, inl, inr, ⊎_elim, ℕ, Bool, true, false, if◌then◌else◌, List, length, slice_get, Some, ℤ, pos, refl, sym, ap, subst, ◌∙◌, arith}
use Rattle.std.specs.Prelude.{slice_index_or, slice_set}
use Rattle.std.proofs.lemmas.Bool.{cases_lt, eqb-true}
use Rattle.std.proofs.lemmas.Nat.{mod_below}
use Rattle.std.proofs.lemmas.List.{get_or-set_same, get_or-set_other, length-set}
use Rattle.vl_ast.specs.declared.modules.Port.{Port}
use Rattle.vl_ast.specs.declared.modules.Module.{Module}
use Rattle.vl_ast.specs.Driven.{output_ports, port_number}
use Rattle.vl_ast.specs.Runs.{Row}
use Rattle.vl_replay.specs.declared.samplers.Sampler.{Sampler}
use Rattle.vl_replay.specs.Sampled.{hit_at}
use Rattle.vl_replay.specs.inner.Samplers.{ArePut, cell_of, number_at, number_or_zero}
use Rattle.math_list.proofs.Places.{there_within}
use Rattle.vl_replay.proofs.Cells.{eqb-refl, port-at}
use Rattle.vl_replay.proofs.Times.{row-room, same-told}

-- what an output shows is the number at its place
pub number-shown : (m : Module) (row : Row) (place : ℕ) (result : ℤ) → place < length (output_ports m)
    → ((port : Port) → slice_get (output_ports m) place ≡ Some port → result ≡ port_number port (row port.name))
    → result ≡ number_at m row place
number-shown m row place result below shows = let port = port-at (output_ports m) place below in shows port.0 port.1 ∙ sym (ap (number_or_zero row) port.1)

pub equal-test : (a b : ℕ) → a ≡ b → (a == b) ≡ true
equal-test a b e = ap (λ n. n == b) e ∙ eqb-refl b

pub unequal-test : (a b : ℕ) → (a ≡ b → ⊥) → (a == b) ≡ false
unequal-test a b ne = by (a == b) refl where
  by : (t : Bool) → (a == b) ≡ t → t ≡ false
  by true e = absurd (ne (eqb-true a b e))
  by false e = refl

module _ (numbers : ℕ → ℤ) (samplers : List Sampler) (samples window sample phase place : ℕ) (before cells : List ℤ) (own : Sampler) (there : slice_get samplers place ≡ Some own)
    (put : ArePut numbers samplers samples window sample phase place before cells) where
  abbrev outputs : ℕ
  outputs = length samplers

  cases : (p : ℕ) → p < place + 1 → (p < place) ⊎ (p ≡ place)
  cases p low = ⊎_elim (λ l. inl l) (λ g. inr (omega (arith, low, g))) (cases_lt p place)

  one : (p : ℕ) (sampler : Sampler) → slice_get samplers p ≡ Some sampler → p ≡ place → own ≡ sampler
  one p sampler e same = cc (sym there ∙ ap (slice_get samplers) (sym same) ∙ e)

  -- no sample of it is due
  module _ (never : (t : ℕ) → t < samples → (own.phase ≡ phase) → (t + own.delay ≡ sample) → ⊥) where
    pub put-undue : ArePut numbers samplers samples window sample phase (place + 1) before cells
    put-undue = record {
      long = put.long;
      put = λ p sampler t e low below ep ed. by p sampler t e below ep ed (cases p low);
      kept = λ p sampler row e other. put.kept p sampler row e (λ t below low ep ed is. other t below (omega (arith, low)) ep ed is);
    }
      where
        by : (p : ℕ) (sampler : Sampler) (t : ℕ) → slice_get samplers p ≡ Some sampler → t < samples → sampler.phase ≡ phase → t + sampler.delay ≡ sample → (p < place) ⊎ (p ≡ place)
            → slice_index_or cells (cell_of window outputs p t) (pos 0)
            ≡ (if hit_at sampler.period t == t then numbers p else slice_index_or before (cell_of window outputs p (t - 1)) (pos 0))
        by p sampler t e below ep ed (inl less) = put.put p sampler t e less below ep ed
        by p sampler t e below ep ed (inr same) =
            let s = one p sampler e same in
            absurd (never t below (ap (λ (x : Sampler). x.phase) s ∙ ep) (ap (λ (x : Sampler). t + x.delay) s ∙ ed))

  -- a sample of it is due, and its number is put
  module _ (now : ℕ) (now-below : now < samples) (own-phase : own.phase ≡ phase) (own-delay : now + own.delay ≡ sample) (some : 0 < window) (room : length cells ≡ window * outputs) where
    abbrev value : ℤ
    value = if hit_at own.period now == now then numbers place else slice_index_or cells (cell_of window outputs place (now - 1)) (pos 0)

    abbrev later : List ℤ
    later = slice_set cells (cell_of window outputs place now) value

    within : cell_of window outputs place now < length cells
    within =
        let p = there_within samplers place own there in
        let r = row-room window outputs (now % window) (mod_below now window some) in
        omega (arith, p, r, room)

    elsewhere : (row p : ℕ) → p < outputs → (row ≡ now % window → p ≡ place → ⊥) → slice_index_or later (row * outputs + p) (pos 0) ≡ slice_index_or cells (row * outputs + p) (pos 0)
    elsewhere row p low other = get_or-set_other cells (cell_of window outputs place now) (row * outputs + p) value (pos 0) (λ e.
        let told = same-told row outputs p (now % window) place low (there_within samplers place own there) e in other told.0 told.1)

    here : slice_index_or later (cell_of window outputs place now) (pos 0)
        ≡ (if hit_at own.period now == now then numbers place else slice_index_or before (cell_of window outputs place (now - 1)) (pos 0))
    here =
        get_or-set_same cells (cell_of window outputs place now) value (pos 0) within
        ∙ ap (λ (z : ℤ). if hit_at own.period now == now then numbers place else z) (put.kept place own ((now - 1) % window) there (λ t below low ep ed is. absurd (omega (arith, low))))

    pub put-due : ArePut numbers samplers samples window sample phase (place + 1) before later
    put-due = record {
      long = length-set cells (cell_of window outputs place now) value ∙ put.long;
      put = λ p sampler t e low below ep ed. by p sampler t e below ep ed (cases p low);
      kept = λ p sampler row e other.
          elsewhere row p (there_within samplers p sampler e) (λ r same.
          let s = one p sampler e same in
          other now now-below (omega (arith, same)) (ap (λ (x : Sampler). x.phase) (sym s) ∙ own-phase) (ap (λ (x : Sampler). now + x.delay) (sym s) ∙ own-delay) (sym r))
          ∙ put.kept p sampler row e (λ t below low ep ed is. other t below (omega (arith, low)) ep ed is);
    }
      where
        by : (p : ℕ) (sampler : Sampler) (t : ℕ) → slice_get samplers p ≡ Some sampler → t < samples → sampler.phase ≡ phase → t + sampler.delay ≡ sample → (p < place) ⊎ (p ≡ place)
            → slice_index_or later (cell_of window outputs p t) (pos 0)
            ≡ (if hit_at sampler.period t == t then numbers p else slice_index_or before (cell_of window outputs p (t - 1)) (pos 0))
        by p sampler t e below ep ed (inl less) = elsewhere (t % window) p (there_within samplers p sampler e) (λ r same. absurd (omega (arith, less, same))) ∙ put.put p sampler t e less below ep ed
        by p sampler t e below ep ed (inr same) =
            let s = one p sampler e same in
            let d : t + own.delay ≡ sample = ap (λ (x : Sampler). t + x.delay) s ∙ ed in
            let moment : t ≡ now = omega (arith, d, own-delay) in
            subst (λ (n : ℕ). slice_index_or later (cell_of window outputs n t) (pos 0)
            ≡ (if hit_at sampler.period t == t then numbers n else slice_index_or before (cell_of window outputs n (t - 1)) (pos 0))) (sym same)
            (subst (λ (x : Sampler). slice_index_or later (cell_of window outputs place t) (pos 0)
            ≡ (if hit_at x.period t == t then numbers place else slice_index_or before (cell_of window outputs place (t - 1)) (pos 0))) s
            (subst (λ (n : ℕ). slice_index_or later (cell_of window outputs place n) (pos 0)
            ≡ (if hit_at own.period n == n then numbers place else slice_index_or before (cell_of window outputs place (n - 1)) (pos 0))) (sym moment) here))
