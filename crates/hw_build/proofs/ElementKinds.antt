-- An element of a block by its kind, from what was put in for it.
use Rattle.std.proofs.Common.{◌≡◌, ℕ, Bool, true, false, ℤ, List, Option, Some, None, ap, sym, ◌∙◌, subst}
use Rattle.fx_type.specs.declared.decimal.Decimal.{Decimal}
use Rattle.fx_type.specs.declared.spec.TypeSpec.{TypeSpec}
use Rattle.dg_model.specs.declared.diagram.Diagram.{Diagram}
use Rattle.dg_model.specs.declared.diagram.Block.{Block}
use Rattle.dg_model.specs.declared.kind.Kind.{Kind}
use Rattle.dg_model.specs.declared.kind.Kind.TheVariants.{Gain, Product, Delay, EnOut}
use Rattle.dg_model.specs.Attributes.{attributes_of}
use Rattle.dg_model.specs.Equation.{StoresEntry}
use Rattle.dg_model.specs.Operation.{type_of}
use Rattle.dg_model.specs.Wires.{types_into, period_into}
use Rattle.hw_net.specs.Circuit.{Circuit}
use Rattle.hw_shows.specs.Timing.{Timing}
use Rattle.hw_shows.specs.Series.{AreSame, steady, span_at, IsSeries, IsEnabledSeries, IsChosen}
use Rattle.hw_shows.specs.Waves.{IsMadeAs, IsCarriedOut, IsServed, IsScaled, IsMultiplied, IsDelayed}
use Rattle.hw_build.specs.Places.{Places, waves_of}
use Rattle.hw_build.specs.inner.Growth.{InLater}
use Rattle.hw_build.specs.inner.Facts.{IsElementMade}

module _ (diagram : Diagram) (timing : Timing) (places : Places) (closed hubs : ℕ) (now : Circuit) (block : ℕ) (b : Block) (port element : ℕ) where
  abbrev pub IsMadeLater : Kind → Type 0
  IsMadeLater kind = InLater closed hubs now (λ n rows. IsMadeAs diagram (attributes_of diagram) timing n (waves_of places rows) kind block b port element)

  -- by the kind of the block
  pub made_kind : (kind : Kind) → b.kind ≡ kind → IsMadeLater kind → IsElementMade diagram timing places closed hubs now block b port element
  made_kind kind is made = subst (λ (k : Kind). IsMadeLater k) (sym is) made

  -- a Gain that isn't shared, and one that is
  pub gain_alone : (value : List Decimal) (spec : TypeSpec) → timing.slot block element ≡ None
      → InLater closed hubs now (λ n rows. IsCarriedOut diagram (attributes_of diagram) timing n
      (waves_of places rows) block b port element) → IsMadeLater (Gain value spec)
  gain_alone value spec none made = record {
    holds = λ later goes n inputs rows are. subst
        (λ (s : Option ℕ). IsScaled diagram (attributes_of diagram) timing n
        (waves_of places rows) block b port element value s) (sym none)
        (made.holds later goes n inputs rows are);
  }

  pub gain_shared : (value : List Decimal) (spec : TypeSpec) (slot : ℕ) (coefficient : ℤ)
      → timing.slot block element ≡ Some slot
      → StoresEntry value element ((attributes_of diagram).param_at block) coefficient
      → InLater closed hubs now (λ n rows. IsServed diagram (attributes_of diagram) timing n
      (waves_of places rows) block b port element slot (rows (places.offered block 1 element))
      (steady coefficient) (type_of (types_into diagram (attributes_of diagram) block b.inputs) 0)
      ((attributes_of diagram).param_at block))
      → IsMadeLater (Gain value spec)
  gain_shared value spec slot coefficient told stored made = record {
    holds = λ later goes n inputs rows are.
        subst (λ (s : Option ℕ). IsScaled diagram (attributes_of diagram) timing n
        (waves_of places rows) block b port element value s) (sym told)
        (coefficient, stored, made.holds later goes n inputs rows are);
  }

  -- the same of a Product
  pub product_alone : timing.slot block element ≡ None
      → InLater closed hubs now (λ n rows. IsCarriedOut diagram (attributes_of diagram) timing n
      (waves_of places rows) block b port element) → IsMadeLater Product
  product_alone none made = record {
    holds = λ later goes n inputs rows are. subst
        (λ (s : Option ℕ). IsMultiplied diagram (attributes_of diagram) timing n
        (waves_of places rows) block b port element s) (sym none) (made.holds later goes n inputs rows are);
  }

  pub product_shared : (slot : ℕ) → timing.slot block element ≡ Some slot
      → InLater closed hubs now (λ n rows. IsServed diagram (attributes_of diagram) timing n
      (waves_of places rows) block b port element slot (rows (places.offered block 1 element))
      (rows (places.offered block 2 element))
      (type_of (types_into diagram (attributes_of diagram) block b.inputs) 0)
      (type_of (types_into diagram (attributes_of diagram) block b.inputs) 1))
      → IsMadeLater Product
  product_shared slot told made = record {
    holds = λ later goes n inputs rows are. subst
        (λ (s : Option ℕ). IsMultiplied diagram (attributes_of diagram) timing n
        (waves_of places rows) block b port element s) (sym told) (made.holds later goes n inputs rows are);
  }

  -- a Delay whose line has its registers: the net that is offered
  pub delay_on_line : (delay source : ℕ) (initial : List Decimal) (reset : Bool) → b.enable ≡ None
      → period_into diagram (attributes_of diagram) block 1 ≡ Some source
      → places.entry block port element ≡ places.offered block 1 element
      → StoresEntry initial element ((attributes_of diagram).type_at block 1) (places.first block element)
      → IsMadeLater (Delay delay initial reset)
  delay_on_line delay source initial reset free moves same stored = record {
    holds = λ later goes n inputs rows are. (
      stored,
      subst (λ (e : Option ℕ). IsDelayed diagram (attributes_of diagram) timing n
          (waves_of places rows) block b port element delay reset e
          (period_into diagram (attributes_of diagram) block 1)) (sym free)
          (subst (λ (p : Option ℕ). IsDelayed diagram (attributes_of diagram) timing n
          (waves_of places rows) block b port element delay reset None p) (sym moves)
          (record { at = λ c below. ap (λ (k : ℕ). rows k c) same })),
    );
  }

  -- one whose source never changes, and one in an enabled subsystem: the last of its own registers
  pub delay_alone : (delay : ℕ) (initial : List Decimal) (reset : Bool) → b.enable ≡ None
      → period_into diagram (attributes_of diagram) block 1 ≡ None
      → places.entry block port element ≡ places.state block element delay
      → StoresEntry initial element ((attributes_of diagram).type_at block 1) (places.first block element)
      → ((period : ℕ) → (attributes_of diagram).period_at block ≡ Some period
      → InLater closed hubs now (λ n rows. IsSeries n (span_at timing period block) delay
      (places.first block element) (rows (places.offered block 1 element))
      (λ k. rows (places.state block element k))))
      → IsMadeLater (Delay delay initial reset)
  delay_alone delay initial reset free still same stored series = record {
    holds = λ later goes n inputs rows are. (
      stored,
      subst (λ (e : Option ℕ). IsDelayed diagram (attributes_of diagram) timing n
          (waves_of places rows) block b port element delay reset e
          (period_into diagram (attributes_of diagram) block 1)) (sym free)
          (subst (λ (p : Option ℕ). IsDelayed diagram (attributes_of diagram) timing n (waves_of places rows) block b port element delay reset None p) (sym still)
          (record { at = λ c below. ap (λ (k : ℕ). rows k c) same }, λ period is. (series period is).holds later goes n inputs rows are)),
    );
  }

  pub delay_enabled : (delay control : ℕ) (initial : List Decimal) (reset : Bool) → b.enable ≡ Some control
      → places.entry block port element ≡ places.state block element delay
      → StoresEntry initial element ((attributes_of diagram).type_at block 1) (places.first block element)
      → ((period : ℕ) → (attributes_of diagram).period_at block ≡ Some period
      → InLater closed hubs now (λ n rows. IsEnabledSeries n (span_at timing period block) delay reset
      (places.first block element) (rows (places.enable block)) (rows (places.offered block 1 element))
      (λ k. rows (places.state block element k))))
      → IsMadeLater (Delay delay initial reset)
  delay_enabled delay control initial reset inside same stored series = record {
    holds = λ later goes n inputs rows are. (
      stored,
      subst (λ (e : Option ℕ). IsDelayed diagram (attributes_of diagram) timing n
          (waves_of places rows) block b port element delay reset e
          (period_into diagram (attributes_of diagram) block 1)) (sym inside)
          (record { at = λ c below. ap (λ (k : ℕ). rows k c) same }, λ period is. (series period is).holds later goes n inputs rows are),
    );
  }

  -- an output port of an enabled subsystem, with held and with reset output
  pub out_held : (initial : List Decimal) → StoresEntry initial element ((attributes_of diagram).type_at block 1) (places.first block element)
      → InLater closed hubs now (λ n rows. IsChosen n (rows (places.enable block))
      (rows (places.offered block 1 element)) (rows (places.state block element 1))
      (rows (places.entry block port element)))
      → ((period : ℕ) → (attributes_of diagram).period_at block ≡ Some period
      → InLater closed hubs now (λ n rows. IsEnabledSeries n (span_at timing period block) 1 false
      (places.first block element) (rows (places.enable block)) (rows (places.offered block 1 element))
      (λ k. rows (places.state block element k))))
      → IsMadeLater (EnOut false initial)
  out_held initial stored chosen series = record {
    holds = λ later goes n inputs rows are. (stored, (chosen.holds later goes n inputs rows are, λ period is. (series period is).holds later goes n inputs rows are));
  }

  pub out_reset : (initial : List Decimal) (constant : ℕ)
      → StoresEntry initial element ((attributes_of diagram).type_at block 1) (places.first block element)
      → InLater closed hubs now (λ n rows. AreSame n (rows constant) (steady (places.first block element)))
      → InLater closed hubs now (λ n rows. IsChosen n (rows (places.enable block))
      (rows (places.offered block 1 element)) (rows constant) (rows (places.entry block port element)))
      → IsMadeLater (EnOut true initial)
  out_reset initial constant stored same chosen = record {
    holds = λ later goes n inputs rows are.
        let is = chosen.holds later goes n inputs rows are in
        let equal = same.holds later goes n inputs rows are in
        (stored, record { on = is.on; off = λ c below none. is.off c below none ∙ equal.at c below });
  }
