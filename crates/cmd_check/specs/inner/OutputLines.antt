-- The lines of the first outputs (own).
use Rattle.std.specs.Prelude.{◌≡◌, ℕ, List, [], ◌∷◌, ◌++◌, Option, take}
use Rattle.std.specs.List.{flat_map}
use Rattle.dg_model.specs.declared.diagram.Diagram.{Diagram}
use Rattle.dg_model.specs.declared.resolved.Resolved.{Resolved}
use Rattle.hw_sched.specs.Slots.{Timing}
use Rattle.cmd_check.specs.declared.pending.Pending.{Pending}
use Rattle.cmd_check.specs.Handed.{Adds}
use Rattle.cmd_check.specs.CheckText.{AreOutputs, Output, output_line}

-- the lines of the first so many outputs are added
pub record AddsOutputs (diagram : Diagram) (plan : Resolved) (timing : Timing)
    (names : List (List ℕ)) (blocks : List ℕ) (count : ℕ) (earlier later : List ℕ) : Type 0 where
  pub outputs : List Output
  pub are : AreOutputs diagram plan timing (take count names) (take count blocks) outputs
  pub text_is : later ≡ earlier ++ flat_map (output_line diagram plan timing) outputs

-- the line of one is
pub record AddsOutput (diagram : Diagram) (plan : Resolved) (timing : Timing) (name : List ℕ)
    (block : ℕ) (earlier later : List ℕ) : Type 0 where
  pub output : Output
  pub are : AreOutputs diagram plan timing (name ∷ []) (block ∷ []) (output ∷ [])
  pub text_is : later ≡ earlier ++ output_line diagram plan timing output

-- it is put
pub record PutsOutput (diagram : Diagram) (plan : Resolved) (timing : Timing) (name : List ℕ)
    (block : ℕ) {K : Type 0} (taken : K → Option (List ℕ))
    (faults : K → ℕ) (old : K) (waited : Pending) (new : K) (waits : Pending) : Type 0 where
  pub bytes : List ℕ
  pub line : (earlier : List ℕ)
      → AddsOutput diagram plan timing name block earlier (earlier ++ bytes)
  pub puts : Adds taken faults old waited new waits bytes

-- those of the first so many are
pub record PutsOutputs (diagram : Diagram) (plan : Resolved) (timing : Timing)
    (names : List (List ℕ)) (blocks : List ℕ) (count : ℕ) {K : Type 0}
    (taken : K → Option (List ℕ)) (faults : K → ℕ) (old : K) (waited : Pending) (new : K)
    (waits : Pending) : Type 0 where
  pub bytes : List ℕ
  pub lines : (earlier : List ℕ)
      → AddsOutputs diagram plan timing names blocks count earlier (earlier ++ bytes)
  pub puts : Adds taken faults old waited new waits bytes
