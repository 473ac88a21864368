-- A netlist under way stays so as an element is put in, and its net stands below the one that readers name.
use Rattle.std.proofs.Common.{◌≡◌, ℕ, zero, suc, ◌+◌, ◌<◌, ◌≤◌, ◌⊎◌, List, [], ◌∷◌, length, Contains, ap, ◌∙◌, arith}
use Rattle.std.specs.Prelude.{slice_index_or, nat_lt}
use Rattle.std.proofs.lemmas.Bool.{cond-false, le-ltb}
use Rattle.std.proofs.lemmas.Option.{get_or_from_slice_get}
use Rattle.dg_model.specs.declared.diagram.Diagram.{Diagram}
use Rattle.dg_model.specs.Attributes.{attributes_of}
use Rattle.dg_model.specs.RootElements.{root_inputs}
use Rattle.hw_net.specs.declared.netlist.Net.{Net}
use Rattle.hw_net.specs.Circuit.{Circuit}
use Rattle.hw_net.specs.Growing.{Appends}
use Rattle.hw_net.specs.Netlist.{reads_now}
use Rattle.hw_shows.specs.Timing.{Timing}
use Rattle.hw_build.specs.Places.{Places}
use Rattle.hw_build.specs.inner.Entries.{IsHeldAt}
use Rattle.hw_build.specs.inner.Levels.{level_behind, level_of, net_at}
use Rattle.hw_build.specs.inner.UnderWay.{IsUnderWay}
use Rattle.hw_build.proofs.Levels.{result_level}
use Rattle.hw_build.proofs.UnderWay.{by_call}

-- what is put in and reads nothing in its clock stands on the lowest level
pub held_level : (before after : Circuit) (level : ℕ → ℕ) (own number : ℕ) → IsHeldAt before after number → level_behind before after level own number ≡ 0
held_level before after level own number is =
    cond-false {A = ℕ} (nat_lt number (length before.nets)) (level number) (level_of own (reads_now (net_at after.nets number).kind)) (le-ltb number (length before.nets) is.new)
    ∙ ap (λ (n : Net). level_of own (reads_now n.kind)) (get_or_from_slice_get after.nets number is.net _ is.is) ∙ ap (level_of own) is.alone

-- a level that is above some
abbrev pub most_of : (ℕ → ℕ) → List ℕ → ℕ
most_of level [] = 1
most_of level (read ∷ reads) = level read + most_of level reads

pub most_above : (level : ℕ → ℕ) (reads : List ℕ) → 1 ≤ most_of level reads
most_above level [] = omega arith
most_above level (read ∷ reads) = let more = most_above level reads in omega (arith, more)

pub most_at : (level : ℕ → ℕ) (reads : List ℕ) (k d : ℕ) → k < length reads → level (slice_index_or reads k d) ≤ most_of level reads
most_at level [] k d below = absurd (omega (arith, below))
most_at level (read ∷ reads) zero d below = omega arith
most_at level (read ∷ reads) (suc k) d below = let more = most_at level reads k d (omega (arith, below)) in omega (arith, more)

module _ (diagram : Diagram) (timing : Timing) (places : Places) (place_of : ℕ → ℕ) (closed hubs count : ℕ)
    (before after : Circuit) (level : ℕ → ℕ) (named : List ℕ) (number : ℕ)
    (way : IsUnderWay diagram timing places place_of closed hubs before level count)
    (few : length before.inputs ≤ length (root_inputs diagram (attributes_of diagram))) (appends : Appends before after named)
  where
    few_after : length after.inputs ≤ length (root_inputs diagram (attributes_of diagram))
    few_after = let same : length after.inputs ≡ length before.inputs = ap length appends.extends.inputs in omega (arith, same, few)

    -- a call all of whose nets stand on a level at the most
    pub goes_on : (own : ℕ) → 1 ≤ own → ((read : ℕ) → Contains named read → (read < length before.nets) × (level read ≤ own)) → Contains named number ⊎ (length before.nets ≤ number)
        → IsUnderWay diagram timing places place_of closed hubs after (level_behind before after level own) count × (level_behind before after level own number ≤ own)
    goes_on own some low stands = (
      by_call diagram timing places place_of hubs closed count own before after level
          named way appends few_after some low,
      result_level before after level own number named low stands,
    )

-- an element that reads in its own clock what stands no higher than it, and one whose net is a register
