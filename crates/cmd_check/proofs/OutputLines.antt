-- The lines of outputs are added one after another.
use Rattle.std.proofs.Common.{◌≡◌, ◌⊎◌, inl, inr, ℕ, zero, suc, ◌+◌, ◌<◌, List, [], ◌∷◌, ◌++◌, length, take, Option, Some, ap, sym, ◌∙◌, subst, refl, arith}
use Rattle.std.specs.Prelude.{codes, slice_get, slice_index_or}
use Rattle.std.specs.List.{flat_map}
use Rattle.std.proofs.Math.Seq.{take-suc}
use Rattle.std.proofs.lemmas.List.{append_assoc, map-append}
use Rattle.std.proofs.lemmas.Option.{none-some, same_Some}
use Rattle.dg_model.specs.declared.diagram.Diagram.{Diagram}
use Rattle.dg_model.specs.declared.resolved.Resolved.{Resolved}
use Rattle.hw_latency.specs.Weight.{latency_arcs}
use Rattle.hw_sched.specs.Slots.{Timing}
use Rattle.cmd_check.specs.CheckText.{Output, head_text, output_line, steps_text}
use Rattle.cmd_check.specs.Gathered.{clocks_at}
use Rattle.cmd_check.specs.declared.pending.Pending.{Pending}
use Rattle.cmd_check.specs.Paths.{IsTightPath}
use Rattle.cmd_check.specs.inner.OutputLines.{AddsOutput, AddsOutputs, PutsOutput, PutsOutputs}
use Rattle.cmd_check.proofs.PieceBytes.{both, none_added}
use Rattle.cmd_check.proofs.Lines.{append_map, line_more}

own_or_last : {A : Type 0} (xs : List A) (x : A) (k : ℕ) (y : A) → slice_get (xs ++ x ∷ []) k ≡ Some y → (slice_get xs k ≡ Some y) ⊎ (x ≡ y)
own_or_last [] x zero y at = inr (same_Some x y at)
own_or_last [] x (suc k) y at = absurd (none-some y at)
own_or_last (z ∷ xs) x zero y at = inl at
own_or_last (z ∷ xs) x (suc k) y at = own_or_last xs x k y at

pub take_next : {A : Type 0} (xs : List A) (k : ℕ) (d x : A) → k < length xs → x ≡ slice_index_or xs k d → take k xs ++ x ∷ [] ≡ take (k + 1) xs
take_next xs k d x below is =
    let one : k + 1 ≡ suc k = omega arith in
    ap (λ (y : _). take k xs ++ y ∷ []) is ∙ sym (take-suc xs k d below) ∙ sym (ap (λ (n : ℕ). take n xs) one)

-- the next of a list
pub next_of : (f : ℕ → List ℕ) (xs : List ℕ) (k d : ℕ) → k < length xs → flat_map f (take k xs) ++ f (slice_index_or xs k d) ≡ flat_map f (take (k + 1) xs)
next_of f xs k d below = sym (append_map f (take k xs) (slice_index_or xs k d)) ∙ ap (flat_map f) (take_next xs k d (slice_index_or xs k d) below refl)

module _ (diagram : Diagram) (plan : Resolved) (timing : Timing) where
  pub one_output : (name : List ℕ) (block : ℕ) (path earlier later : List ℕ) → IsTightPath (latency_arcs diagram plan timing.fed) timing.lat block path
      → later ≡ earlier ++ output_line diagram plan timing (record { name = name; block = block; path = path }) → AddsOutput diagram plan timing name block earlier later
  one_output name block path earlier later tight is = record {
    output = record { name = name; block = block; path = path };
    are = record { names_are = refl; blocks_are = refl; tight = λ k output at. only k output at };
    text_is = is;
  } where
    only : (k : ℕ) (output : Output) → slice_get (record { name = name; block = block; path = path } ∷ []) k
        ≡ Some output → IsTightPath (latency_arcs diagram plan timing.fed) timing.lat output.block output.path
    only zero output at = subst (λ (o : Output). IsTightPath (latency_arcs diagram plan timing.fed) timing.lat o.block o.path) (same_Some _ output at) tight
    only (suc k) output at = absurd (none-some output at)

  pub no_outputs : (names : List (List ℕ)) (blocks earlier later : List ℕ) → later ≡ earlier ++ [] → AddsOutputs diagram plan timing names blocks 0 earlier later
  no_outputs names blocks earlier later is = record {
    outputs = [];
    are = record { names_are = refl; blocks_are = refl; tight = λ k output at. absurd (none-some output at) };
    text_is = is;
  }

  pub outputs_more : (names : List (List ℕ)) (blocks : List ℕ) (k : ℕ) (name d : List ℕ) (block e : ℕ)
      (old text new : List ℕ) → AddsOutputs diagram plan timing names blocks k old text → k < length blocks
      → length names ≡ length blocks
      → name ≡ slice_index_or names k d → block ≡ slice_index_or blocks k e → AddsOutput diagram plan timing name block text new → AddsOutputs diagram plan timing names blocks (k + 1) old new
  outputs_more names blocks k name d block e old text new adds below size name_is block_is one = record {
    outputs = adds.outputs ++ one.output ∷ [];
    are = record {
      names_are = map-append (λ output. output.name) adds.outputs (one.output ∷ [])
          ∙ ap (λ (ns : List (List ℕ)). ns ++ one.output.name ∷ []) adds.are.names_are
          ∙ ap (λ (ns : List (List ℕ)). take k names ++ ns) one.are.names_are
          ∙ take_next names k d name (omega (arith, below, size)) name_is;
      blocks_are = map-append (λ output. output.block) adds.outputs (one.output ∷ [])
          ∙ ap (λ (bs : List ℕ). bs ++ one.output.block ∷ []) adds.are.blocks_are
          ∙ ap (λ (bs : List ℕ). take k blocks ++ bs) one.are.blocks_are
          ∙ take_next blocks k e block below block_is;
      tight = λ j output at. elim (own_or_last adds.outputs one.output j output at) [
        | inl before ↦ adds.are.tight j output before
        | inr same ↦ subst (λ (o : Output). IsTightPath (latency_arcs diagram plan timing.fed) timing.lat o.block o.path) same (one.are.tight 0 one.output refl)
      ];
    };
    text_is = line_more (output_line diagram plan timing) adds.outputs one.output old text new adds.text_is one.text_is;
  }

  -- the line, piece by piece
  pub output_is : (name path : List ℕ) (block clocks : ℕ) → clocks ≡ clocks_at diagram plan timing block
      → (head_text name clocks ++ steps_text diagram path) ++ codes "\n"
      ≡ output_line diagram plan timing (record { name = name; block = block; path = path })
  unfolding output_line
  output_is name path block clocks clocks_is = ap (λ (n : ℕ). (head_text name n ++ steps_text diagram path) ++ codes "\n") clocks_is

  module _ {K : Type 0} {taken : K → Option (List ℕ)} {faults : K → ℕ} where
    pub puts_none : (names : List (List ℕ)) (blocks : List ℕ) (out : K) (pending : Pending) → PutsOutputs diagram plan timing names blocks 0 taken faults out pending out pending
    puts_none names blocks out pending = record {
      bytes = [];
      lines = λ earlier. no_outputs names blocks earlier (earlier ++ []) refl;
      puts = none_added out pending;
    }

    pub puts_more : (names : List (List ℕ)) (blocks : List ℕ) (k : ℕ) (name d : List ℕ) (block e : ℕ) (old mid new : K) (waited middle waits : Pending)
        → PutsOutputs diagram plan timing names blocks k taken faults old waited mid middle → k < length blocks
        → length names ≡ length blocks → name ≡ slice_index_or names k d → block ≡ slice_index_or blocks k e
        → PutsOutput diagram plan timing name block taken faults mid middle new waits → PutsOutputs diagram plan timing names blocks (k + 1) taken faults old waited new waits
    puts_more names blocks k name d block e old mid new waited middle waits before below size name_is block_is one = record {
      bytes = before.bytes ++ one.bytes;
      lines = λ earlier.
          subst (λ (text : List ℕ). AddsOutputs diagram plan timing names blocks (k + 1) earlier text) (append_assoc earlier before.bytes one.bytes)
          (outputs_more names blocks k name d block e earlier (earlier ++ before.bytes)
          ((earlier ++ before.bytes) ++ one.bytes) (before.lines earlier) below size name_is block_is
          (one.line (earlier ++ before.bytes)));
      puts = both before.puts one.puts;
    }
