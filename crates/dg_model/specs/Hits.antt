-- When a block takes a value (Simulink reference, discrete sample time; constant sample time).
use Rattle.std.specs.Prelude.{◌≡◌, ℕ, zero, suc, ◌-◌, ◌%◌, pos, Bool, true, false, ◌==◌, if◌then◌else◌, List, [], ◌∷◌, Option, Some, None, filter, nat_lt}
use Rattle.std.specs.Ordering.{int_eq}
use Rattle.dg_model.specs.Signals.{Table}

-- a block of this period takes a value at base sample t: its period divides t, or its value never
-- changes and t is the first
abbrev pub Hits : Option ℕ → ℕ → Type 0
Hits None t = t ≡ 0
Hits (Some period) t = t % period ≡ 0

-- the same, as a test
abbrev pub is_hit : Option ℕ → ℕ → Bool
is_hit None t = t == 0
is_hit (Some period) t = (t % period) == 0

-- the last hit up to t
abbrev pub last_hit : Option ℕ → ℕ → ℕ
last_hit None t = 0
last_hit (Some period) t = t - t % period

-- the hits before t, the latest first
abbrev pub hits_before : Option ℕ → ℕ → List ℕ
hits_before period zero = []
hits_before period (suc t) =
    if is_hit period t then t ∷ hits_before period t else hits_before period t

-- the enabled subsystem of this EnableTest is enabled at t (Simulink reference, enabled subsystems)
abbrev pub IsEnabledAt : Table → ℕ → ℕ → Type 0
IsEnabledAt table enable t = table enable 1 0 t ≡ pos 1

-- the same, as a test
abbrev pub is_enabled_at : Table → ℕ → ℕ → Bool
is_enabled_at table enable t = int_eq (table enable 1 0 t) (pos 1)

-- the hits before t from which on every hit before t is enabled, the latest first
abbrev pub hits_since_enabled : Table → ℕ → Option ℕ → ℕ → List ℕ
hits_since_enabled table enable period zero = []
hits_since_enabled table enable period (suc t) =
    if is_hit period t
    then (if is_enabled_at table enable t
    then t ∷ hits_since_enabled table enable period t else [])
    else hits_since_enabled table enable period t

-- the hits before t at which a Delay of this period moved its values on, the latest first: outside
-- enabled subsystems all its hits, in one with held states the enabled hits, and in one with reset
-- states those since it was last enabled anew (Simulink reference, `StatesWhenEnabling`; what a
-- reset counts is own)
abbrev pub counted_hits : Table → Option ℕ → Bool → Option ℕ → ℕ → List ℕ
counted_hits table None reset period t = hits_before period t
counted_hits table (Some enable) false period t =
    filter (is_enabled_at table enable) (hits_before period t)
counted_hits table (Some enable) true period t = hits_since_enabled table enable period t

-- from the longer period of a driver to the shorter of its reader
abbrev pub is_slow_to_fast : Option ℕ → Option ℕ → Bool
is_slow_to_fast None own = false
is_slow_to_fast (Some driver) None = false
is_slow_to_fast (Some driver) (Some own) = nat_lt own driver
