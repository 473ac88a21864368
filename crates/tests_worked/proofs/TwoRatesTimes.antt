-- The times of the worked design: what is fed, depths and least latencies, by hand.
use Rattle.std.proofs.Common.{◌≡◌, ℕ, zero, suc, ◌+◌, ◌≤◌, ◌<◌, Bool, true, false, true≢false, ◌&&◌, List, [], ◌∷◌, length, Some, slice_get, refl, sym, subst, arith}
use Rattle.std.specs.Prelude.{nat_le}
use Rattle.std.proofs.Math.Dec.{lit<}
use Rattle.std.proofs.lemmas.Bool.{and_parts, leb-true}
use Rattle.std.proofs.lemmas.Option.{none-some, same_Some}
use Rattle.dg_model.specs.declared.resolved.Resolved.{Resolved}
use Rattle.dg_model.specs.Signals.{Attributes}
use Rattle.hw_arcs.specs.declared.arc.Arc.{Arc}
use Rattle.hw_arcs.specs.Latencies.{IsFeasible, IsLeast, KeepsArc, latency_at}
use Rattle.hw_latency.specs.Cone.{AreFed, IsFed, is_marked}
use Rattle.hw_latency.specs.Shared.{is_shared}
use Rattle.hw_latency.specs.Weight.{arcs_with}
use Rattle.hw_sched.specs.Level.{AreDepths, IsDepth, depth_at, shared_on}
use Rattle.hw_sched.specs.Scheduled.{IsTimingOf}
use Rattle.tests_worked.proofs.Paths.{are_marked, are_heights, depth_by, is_path, marked, most_shared, path_by}
use Rattle.tests_worked.proofs.TwoRates.{attributes, depths, diagram, fed, known, plan_in, timing}

-- ---- arcs and latencies
abbrev pub arc : ℕ → ℕ → ℕ → ℕ → Arc
arc from to gain slack = record { from = from; to = to; counts = true; gain = gain; slack = slack }

-- the register behind Q makes R later; D makes up for a period of S, and takes one as its reserve, since S is shared
abbrev arcs : List Arc
arcs = arc 0 2 0 0 ∷ arc 1 2 0 0 ∷ arc 2 3 0 0 ∷ arc 1 3 0 0 ∷ arc 3 4 1 0 ∷ arc 6 5 2 2 ∷ arc 4 6 0 0 ∷ arc 5 6 0 0 ∷ arc 6 7 0 0 ∷ arc 5 8 0 0 ∷ []

abbrev pub keeps_all : List ℕ → List Arc → Bool
keeps_all lat [] = true
keeps_all lat (a ∷ arcs) = nat_le (latency_at lat a.from + a.gain) (latency_at lat a.to + a.slack) && keeps_all lat arcs

pub feasible_by : (lat : List ℕ) (all : List Arc) → keeps_all lat all ≡ true → IsFeasible all lat
feasible_by lat all is = record { keeps = go all is } where
  go : (arcs : List Arc) → keeps_all lat arcs ≡ true → (number : ℕ) (a : Arc) → slice_get arcs number ≡ Some a → KeepsArc lat a
  go [] is number a at = absurd (none-some a at)
  go (b ∷ arcs) is zero a at =
      let first = (and_parts (nat_le (latency_at lat b.from + b.gain) (latency_at lat b.to + b.slack)) (keeps_all lat arcs) is).0 in
      subst (KeepsArc lat) (same_Some b a at) (λ counts. leb-true (latency_at lat b.from + b.gain) (latency_at lat b.to + b.slack) first)
  go (b ∷ arcs) is (suc number) a at = go arcs (and_parts (nat_le (latency_at lat b.from + b.gain) (latency_at lat b.to + b.slack)) (keeps_all lat arcs) is).1 number a at

-- S is late by R, and D by S
at_least : (other : List ℕ) → IsFeasible arcs other → (block : ℕ) → latency_at timing.lat block ≤ latency_at other block
at_least other feasible = by where
  of_r : latency_at other 3 + 1 ≤ latency_at other 4 + 0
  of_r = feasible.keeps 4 (arc 3 4 1 0) refl refl

  of_d : latency_at other 6 + 2 ≤ latency_at other 5 + 2
  of_d = feasible.keeps 5 (arc 6 5 2 2) refl refl

  of_s : latency_at other 4 + 0 ≤ latency_at other 6 + 0
  of_s = feasible.keeps 6 (arc 4 6 0 0) refl refl

  of_y : latency_at other 6 + 0 ≤ latency_at other 7 + 0
  of_y = feasible.keeps 8 (arc 6 7 0 0) refl refl

  of_z : latency_at other 5 + 0 ≤ latency_at other 8 + 0
  of_z = feasible.keeps 9 (arc 5 8 0 0) refl refl

  by : (block : ℕ) → latency_at timing.lat block ≤ latency_at other block
  by zero = omega arith
  by (suc zero) = omega arith
  by (suc (suc zero)) = omega arith
  by (suc (suc (suc zero))) = omega arith
  by (suc (suc (suc (suc zero)))) = omega (arith, of_r)
  by (suc (suc (suc (suc (suc zero))))) = omega (arith, of_r, of_s, of_d)
  by (suc (suc (suc (suc (suc (suc zero)))))) = omega (arith, of_r, of_s)
  by (suc (suc (suc (suc (suc (suc (suc zero))))))) = omega (arith, of_r, of_s, of_y)
  by (suc (suc (suc (suc (suc (suc (suc (suc zero)))))))) = omega (arith, of_r, of_s, of_d, of_z)
  by (suc (suc (suc (suc (suc (suc (suc (suc (suc block))))))))) = omega arith

least : IsLeast arcs timing.lat
least = record { feasible = feasible_by timing.lat arcs refl; least = at_least }

-- one base sample less doesn't do, and one more isn't least
too_early : ¬ IsFeasible arcs (0 ∷ 0 ∷ 0 ∷ 0 ∷ 1 ∷ 0 ∷ 1 ∷ 1 ∷ 1 ∷ [])
too_early feasible = let behind = feasible.keeps 5 (arc 6 5 2 2) refl refl in absurd (omega (arith, behind))

too_late : ¬ IsLeast arcs (0 ∷ 0 ∷ 0 ∷ 0 ∷ 1 ∷ 1 ∷ 1 ∷ 1 ∷ 2 ∷ [])
too_late is = let less : 2 ≤ 1 = is.least timing.lat least.feasible 8 in absurd (omega (arith, less))

-- ---- what is fed, and depths
-- heights that count the shared products of period 1 on paths, and those of period 2
abbrev fast : List ℕ
fast = 0 ∷ 0 ∷ 1 ∷ 2 ∷ 2 ∷ 0 ∷ 2 ∷ 2 ∷ 0 ∷ []

abbrev slow : List ℕ
slow = 0 ∷ 0 ∷ 0 ∷ 0 ∷ 0 ∷ 0 ∷ 1 ∷ 1 ∷ 0 ∷ []

-- what is worked out of a plan that shares all products
pub record SharesAll (plan : Resolved) : Type 0 where
  pub marks : are_marked diagram attributes plan fed ≡ true
  pub heights : (are_heights diagram attributes plan (Some 1) fast ≡ true) × (are_heights diagram attributes plan (Some 2) slow ≡ true)
  pub shared : (is_shared diagram attributes plan 2 ≡ true) × (is_shared diagram attributes plan 3 ≡ true) × (is_shared diagram attributes plan 6 ≡ true)
  pub on_inputs : (shared_on diagram attributes plan (Some 1) (0 ∷ []) ≡ 0) × (shared_on diagram attributes plan (Some 1) (1 ∷ []) ≡ 0)
  pub on_fast : (shared_on diagram attributes plan (Some 1) (2 ∷ []) ≡ 1) × (shared_on diagram attributes plan (Some 1) (2 ∷ 3 ∷ []) ≡ 2)
  pub on_slow : (shared_on diagram attributes plan (Some 2) (4 ∷ []) ≡ 0) × (shared_on diagram attributes plan (Some 2) (5 ∷ []) ≡ 0) × (shared_on diagram attributes plan (Some 2) (6 ∷ []) ≡ 1)
  pub on_outputs : (shared_on diagram attributes plan (Some 2) (6 ∷ 7 ∷ []) ≡ 1) × (shared_on diagram attributes plan (Some 2) (8 ∷ []) ≡ 0)

module _ (plan : Resolved) (all : SharesAll plan) where
  fed_from : (path : List ℕ) (source place last : ℕ) → is_path diagram attributes path ≡ true
      → slice_get path 0 ≡ Some source → slice_get path last ≡ Some place
      → is_shared diagram attributes plan source ≡ true → IsFed diagram attributes plan place
  fed_from path source place last is begins ends shared =
      record { source = source; cone = record { path = path; leads = path_by diagram attributes path is; begins = begins; last = last; ends = ends }; shared = shared }

  sound : (place : ℕ) → is_marked fed place ≡ true → IsFed diagram attributes plan place
  sound zero marked = absurd (true≢false (sym marked))
  sound (suc zero) marked = absurd (true≢false (sym marked))
  sound (suc (suc zero)) marked = fed_from (2 ∷ []) 2 2 0 refl refl refl all.shared.0
  sound (suc (suc (suc zero))) marked = fed_from (3 ∷ []) 3 3 0 refl refl refl all.shared.1
  sound (suc (suc (suc (suc zero)))) marked = fed_from (3 ∷ 4 ∷ []) 3 4 1 refl refl refl all.shared.1
  sound (suc (suc (suc (suc (suc zero))))) marked = absurd (true≢false (sym marked))
  sound (suc (suc (suc (suc (suc (suc zero)))))) marked = fed_from (6 ∷ []) 6 6 0 refl refl refl all.shared.2
  sound (suc (suc (suc (suc (suc (suc (suc zero))))))) marked = fed_from (6 ∷ 7 ∷ []) 6 7 1 refl refl refl all.shared.2
  sound (suc (suc (suc (suc (suc (suc (suc (suc zero)))))))) marked = absurd (true≢false (sym marked))
  sound (suc (suc (suc (suc (suc (suc (suc (suc (suc place))))))))) marked = absurd (true≢false (sym marked))

  pub are_fed : AreFed diagram attributes plan fed
  are_fed = record { size = refl; sound = sound; whole = λ place below is. marked diagram attributes plan fed all.marks place is }

  abbrev HasDepth : ℕ → Type 0
  HasDepth place = IsDepth diagram attributes plan place (depth_at depths place)

  deep : (place : ℕ) → place < 9 → HasDepth place
  deep zero below = depth_by diagram attributes plan 0 0 (0 ∷ []) fast refl refl refl all.heights.0 all.on_inputs.0
  deep (suc zero) below = depth_by diagram attributes plan 1 0 (1 ∷ []) fast refl refl refl all.heights.0 all.on_inputs.1
  deep (suc (suc zero)) below = depth_by diagram attributes plan 2 0 (2 ∷ []) fast refl refl refl all.heights.0 all.on_fast.0
  deep (suc (suc (suc zero))) below = depth_by diagram attributes plan 3 1 (2 ∷ 3 ∷ []) fast refl refl refl all.heights.0 all.on_fast.1
  deep (suc (suc (suc (suc zero)))) below = depth_by diagram attributes plan 4 0 (4 ∷ []) slow refl refl refl all.heights.1 all.on_slow.0
  deep (suc (suc (suc (suc (suc zero))))) below = depth_by diagram attributes plan 5 0 (5 ∷ []) slow refl refl refl all.heights.1 all.on_slow.1
  deep (suc (suc (suc (suc (suc (suc zero)))))) below = depth_by diagram attributes plan 6 0 (6 ∷ []) slow refl refl refl all.heights.1 all.on_slow.2
  deep (suc (suc (suc (suc (suc (suc (suc zero))))))) below = depth_by diagram attributes plan 7 1 (6 ∷ 7 ∷ []) slow refl refl refl all.heights.1 all.on_outputs.0
  deep (suc (suc (suc (suc (suc (suc (suc (suc zero)))))))) below = depth_by diagram attributes plan 8 0 (8 ∷ []) slow refl refl refl all.heights.1 all.on_outputs.1
  deep (suc (suc (suc (suc (suc (suc (suc (suc (suc place))))))))) below = absurd (omega arith)

  pub are_depths : AreDepths diagram attributes plan depths
  are_depths = record { size = refl; are = deep }

  -- with latencies that are least for its arcs
  pub timed_by : (lat : List ℕ) (own : List Arc) → length lat ≡ 9 → arcs_with diagram attributes plan fed ≡ own
      → IsLeast own lat → IsTimingOf diagram plan (record { lat = lat; fed = fed; depths = depths })
  timed_by lat own size is least = record {
    fed = subst (λ (a : Attributes). AreFed diagram a plan fed) (sym known) are_fed;
    depths = subst (λ (a : Attributes). AreDepths diagram a plan depths) (sym known) are_depths;
    size = size;
    lat = subst (λ (a : Attributes). IsLeast (arcs_with diagram a plan fed) lat) (sym known) (subst (λ (xs : List Arc). IsLeast xs lat) (sym is) least);
  }

-- ---- by five clocks and by four
five_share : SharesAll (plan_in 5)
five_share = record { marks = refl; heights = (refl, refl); shared = (refl, refl, refl); on_inputs = (refl, refl); on_fast = (refl, refl); on_slow = (refl, refl, refl); on_outputs = (refl, refl) }

four_share : SharesAll (plan_in 4)
four_share = record { marks = refl; heights = (refl, refl); shared = (refl, refl, refl); on_inputs = (refl, refl); on_fast = (refl, refl); on_slow = (refl, refl, refl); on_outputs = (refl, refl) }

pub timed_in_five : IsTimingOf diagram (plan_in 5) timing
timed_in_five = timed_by (plan_in 5) five_share timing.lat arcs refl refl least

pub timed_in_four : IsTimingOf diagram (plan_in 4) timing
timed_in_four = timed_by (plan_in 4) four_share timing.lat arcs refl refl least

-- a mark more or less, or a depth more, isn't so
not_fed : (¬ AreFed diagram attributes (plan_in 5) (false ∷ false ∷ true ∷ true ∷ true ∷ true ∷ true ∷ true ∷ true ∷ []))
    × (¬ AreFed diagram attributes (plan_in 5) (false ∷ false ∷ true ∷ true ∷ false ∷ false ∷ true ∷ true ∷ false ∷ []))
not_fed = (
  λ are. absurd (true≢false (sym (marked diagram attributes (plan_in 5) fed five_share.marks 5 (are.sound 5 refl)))),
  λ are. absurd (true≢false (sym (are.whole 4 (lit< tt) (sound (plan_in 5) five_share 4 refl)))),
)

not_deep : ¬ IsDepth diagram attributes (plan_in 5) 4 2
not_deep is =
    let most : shared_on diagram attributes (plan_in 5) (Some 2) is.path ≤ 0 = most_shared diagram attributes (plan_in 5) (Some 2) slow five_share.heights.1 is.path 4 is.ends in
    absurd (omega (arith, is.reached, most))
