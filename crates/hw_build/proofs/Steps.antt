-- What the steps of a building owe is carried on, and grows block by block.
use Rattle.std.proofs.Common.{◌≡◌, ℕ, ◌≤◌, inl, inr, Bool, true, false, pos, Option, Some, None, ap, sym, ◌∙◌, subst}
use Rattle.std.specs.Prelude.{slice_get}
use Rattle.std.proofs.lemmas.Bool.{false≢true}
use Rattle.std.proofs.lemmas.Option.{same_Some, slice_get_within}
use Rattle.dg_model.specs.declared.diagram.Diagram.{Diagram}
use Rattle.dg_model.specs.declared.nested.Target.TheVariants.{Port, Enable}
use Rattle.dg_model.specs.Attributes.{attributes_of}
use Rattle.dg_model.specs.Wires.{repeated}
use Rattle.hw_net.specs.declared.netlist.Net.{Net}
use Rattle.hw_net.specs.declared.netlist.NetKind.{NetKind}
use Rattle.hw_net.specs.declared.netlist.NetKind.TheVariants.{Comb, Reg, EnReg, Acc, Bridge, Unit, Counter}
use Rattle.hw_net.specs.declared.netlist.NetOp.{NetOp}
use Rattle.hw_net.specs.declared.netlist.NetOp.TheVariants.{Input, Const, Resize, ShiftUp, ShiftDown, Add, Subtract, Negate, Multiply, And, Or, Xor, Not, Less, Equal, Choose, Slice}
use Rattle.hw_net.specs.Circuit.{Circuit}
use Rattle.hw_net.specs.Growing.{IsReopened}
use Rattle.hw_shows.specs.Timing.{Timing}
use Rattle.hw_shows.specs.Timed.{lag_into}
use Rattle.hw_shows.specs.Series.{AreSame, span_at, IsSeries, IsOffered}
use Rattle.hw_shows.specs.Waves.{IsMadeAs, IsPiped}
use Rattle.hw_build.specs.Places.{Places, waves_of}
use Rattle.hw_build.specs.inner.Growth.{GoesOn, InLater}
use Rattle.hw_build.specs.inner.Facts.{IsElementPiped, HaveInputs, HaveFacts}
use Rattle.hw_build.proofs.Growth.{later_on}

-- ---- inputs

abbrev is_resize_op : NetOp → Bool
is_resize_op (Input number) = false
is_resize_op (Const value) = false
is_resize_op Resize = true
is_resize_op (ShiftUp places) = false
is_resize_op (ShiftDown places) = false
is_resize_op Add = false
is_resize_op Subtract = false
is_resize_op Negate = false
is_resize_op Multiply = false
is_resize_op And = false
is_resize_op Or = false
is_resize_op Xor = false
is_resize_op Not = false
is_resize_op Less = false
is_resize_op Equal = false
is_resize_op Choose = false
is_resize_op (Slice high low) = false

abbrev is_resize : NetKind → Bool
is_resize (Comb op args) = is_resize_op op
is_resize (Reg frame slot first from) = false
is_resize (EnReg frame enable reset first from) = false
is_resize (Acc frame enable from) = false
is_resize (Bridge frame live from) = false
is_resize (Unit left right) = false
is_resize (Counter frame) = false

-- a net that is no Resize stays for good
pub stays : (closed hubs : ℕ) (now later : Circuit) (number : ℕ) (net : Net) → GoesOn closed hubs now later
    → slice_get now.nets number ≡ Some net → is_resize net.kind ≡ false → slice_get later.nets number ≡ Some net
stays closed hubs now later number net goes at other = elim (goes.nets number (slice_get_within now.nets number net at)) [
  | inl kept ↦ kept ∙ at
  | inr changed ↦
      let is : IsReopened now.nets later.nets number = changed.2 in
      let same : ◌≡◌ {A = Net} is.was net = same_Some is.was net (sym is.there ∙ at) in
      absurd (false≢true (sym other ∙ ap (λ (n : Net). is_resize n.kind) (sym same) ∙ ap is_resize is.old_kind))
]

pub inputs_later : (diagram : Diagram) (places : Places) (closed hubs : ℕ) (now later : Circuit) → GoesOn closed hubs now later → HaveInputs diagram places now → HaveInputs diagram places later
inputs_later diagram places closed hubs now later goes have = record {
  each = λ port e at.
      let is = have.each port e at in
      record { net = is.net; is = stays closed hubs now later (places.input e.number e.element) is.net goes is.is (ap is_resize is.kind); kind = is.kind; wide = is.wide; sign = is.sign };
}

-- ---- all facts

pub facts_later : (diagram : Diagram) (timing : Timing) (places : Places) (closed more hubs : ℕ)
    (now later : Circuit) (count : ℕ) → closed ≤ more → GoesOn closed hubs now later
    → HaveFacts diagram timing places closed hubs now count
    → HaveFacts diagram timing places more hubs later count
facts_later diagram timing places closed more hubs now later count less goes facts = record {
  cycles = goes.cycles ∙ facts.cycles;
  spread = facts.spread;
  inputs = inputs_later diagram places closed hubs now later goes facts.inputs;
  lines = record {
    each = λ block b port element edge at showing from to drives below.
        later_on closed more hubs now later
        (λ n rows. IsOffered n timing edge.from ((attributes_of diagram).period_at edge.from) block
        ((attributes_of diagram).period_at block) (lag_into diagram (attributes_of diagram) block b (Port port))
        (places.first block element)
        (rows (places.after edge.from edge.from_port (repeated ((attributes_of diagram).width_at edge.from edge.from_port) element))) (rows (places.offered block port element)))
        less goes (facts.lines.each block b port element edge at showing from to drives below);
  };
  enables = record {
    each = λ block b control at feeds.
        later_on closed more hubs now later
        (λ n rows. IsOffered n timing control ((attributes_of diagram).period_at control) block
        ((attributes_of diagram).period_at block) (lag_into diagram (attributes_of diagram) block b Enable)
        (pos 0) (rows (places.after control 1 0)) (rows (places.enable block)))
        less goes (facts.enables.each block b control at feeds);
  };
  elements = record {
    made = λ block b port element early shown. later_on closed more hubs now later
        (λ n rows. IsMadeAs diagram (attributes_of diagram) timing n
        (waves_of places rows) b.kind block b port element) less goes
        (facts.elements.made block b port element early shown);
    piped = λ block b port element early shown.
        later_on closed more hubs now later (λ n rows. IsPiped diagram (attributes_of diagram) timing n
        (waves_of places rows) ((attributes_of diagram).period_at block) block port element) less goes
        (facts.elements.piped block b port element early shown);
  };
}

-- ---- pipelines

module _ (diagram : Diagram) (timing : Timing) (places : Places) (closed hubs : ℕ) (now : Circuit) (block port element : ℕ) where
  pub piped_some : (period : ℕ) → (attributes_of diagram).period_at block ≡ Some period
      → InLater closed hubs now (λ n rows. AreSame n (rows (places.after block port element)) (rows (places.stage block port element (timing.stages block))))
      → InLater closed hubs now (λ n rows. IsSeries n (span_at timing period block) (timing.stages block) (pos 0)
      (rows (places.entry block port element)) (λ k. rows (places.stage block port element k)))
      → IsElementPiped diagram timing places closed hubs now block port element
  piped_some period is same series = record {
    holds = λ later goes n inputs rows are.
        subst (λ (p : Option ℕ). IsPiped diagram (attributes_of diagram) timing n
        (waves_of places rows) p block port element) (sym is)
        (same.holds later goes n inputs rows are, series.holds later goes n inputs rows are);
  }

  pub piped_none : (attributes_of diagram).period_at block ≡ None
      → InLater closed hubs now (λ n rows. AreSame n (rows (places.after block port element))
      (rows (places.entry block port element)))
      → IsElementPiped diagram timing places closed hubs now block port element
  piped_none is same = record {
    holds = λ later goes n inputs rows are. subst
        (λ (p : Option ℕ). IsPiped diagram (attributes_of diagram) timing n
        (waves_of places rows) p block port element) (sym is) (same.holds later goes n inputs rows are);
  }
