-- A netlist goes on while elements are put in: by calls, by names, and by a pipeline with the net that its readers name.
use Rattle.std.proofs.Common.{◌≡◌, ℕ, suc, ◌<◌, ◌≤◌, inl, inr, List, [], length, Contains, Some, ap, sym, ◌∙◌, subst, refl, arith}
use Rattle.std.specs.Prelude.{slice_get}
use Rattle.std.proofs.lemmas.Bool.{cases_lt}
use Rattle.std.proofs.lemmas.Option.{same_Some, slice_get_within}
use Rattle.math_num.specs.Word.{IsWord}
use Rattle.fx_type.specs.FxType.{is_signed, width_of}
use Rattle.dg_model.specs.declared.diagram.Diagram.{Diagram}
use Rattle.dg_model.specs.declared.diagram.Block.{Block}
use Rattle.dg_model.specs.Attributes.{attributes_of}
use Rattle.dg_model.specs.RootElements.{root_inputs}
use Rattle.dg_model.specs.Solves.{IsShown}
use Rattle.hw_net.specs.declared.netlist.Net.{Net}
use Rattle.hw_net.specs.declared.netlist.NetKind.TheVariants.{Comb}
use Rattle.hw_net.specs.declared.netlist.NetOp.TheVariants.{Resize}
use Rattle.hw_net.specs.Circuit.{Circuit}
use Rattle.hw_net.specs.Frames.{CountersDiffer}
use Rattle.hw_net.specs.Growing.{Appends, IsConnected}
use Rattle.hw_net.specs.Netlist.{HasWord}
use Rattle.hw_net.proofs.Growth.{still-there}
use Rattle.hw_shows.specs.Timing.{Timing}
use Rattle.hw_shows.specs.Series.{AreSame}
use Rattle.hw_shows.specs.Waves.{IsMadeAs, IsPiped}
use Rattle.hw_build.specs.Places.{Places, waves_of}
use Rattle.hw_build.specs.inner.Facts.{IsElementMade, IsElementPiped}
use Rattle.hw_build.specs.inner.Growth.{GoesOn, InLater}
use Rattle.hw_build.specs.inner.HubPlaces.{hub_of}
use Rattle.hw_build.specs.inner.Levels.{IsLevelled, level_behind}
use Rattle.hw_build.specs.inner.Spots.{IsGoing}
use Rattle.hw_build.specs.inner.UnderWay.{IsUnderWay, own_level, hub_level}
use Rattle.hw_build.proofs.Growth.{goes_appended, goes_narrow, goes_then, later_on, still_within, word_later}
use Rattle.hw_build.proofs.Levels.{given, connected_here, connected_elsewhere, goes_connected, level_stays}
use Rattle.hw_build.proofs.Nets.{resized}
use Rattle.hw_build.proofs.Soundness.{sound_later}
use Rattle.hw_build.proofs.Steps.{facts_later}
use Rattle.hw_build.proofs.UnderWay.{hubs_later, operands_later, by_call, by_connect}

module _ (diagram : Diagram) (timing : Timing) (places : Places) (place_of : ℕ → ℕ) (hubs begun : ℕ) (start : Circuit) where
  -- ---- what is made goes on

  pub made_later : (closed more : ℕ) (now later : Circuit) (block : ℕ) (b : Block) (port element : ℕ)
      → closed ≤ more → GoesOn closed hubs now later
      → IsElementMade diagram timing places closed hubs now block b port element
      → IsElementMade diagram timing places more hubs later block b port element
  made_later closed more now later block b port element less goes made =
      later_on closed more hubs now later (λ n rows. IsMadeAs diagram (attributes_of diagram) timing n
      (waves_of places rows) b.kind block b port element) less goes made

  pub piped_later : (closed more : ℕ) (now later : Circuit) (block port element : ℕ) → closed ≤ more
      → GoesOn closed hubs now later → IsElementPiped diagram timing places closed hubs now block port element
      → IsElementPiped diagram timing places more hubs later block port element
  piped_later closed more now later block port element less goes piped =
      later_on closed more hubs now later (λ n rows. IsPiped diagram (attributes_of diagram) timing n
      (waves_of places rows) ((attributes_of diagram).period_at block) block port element) less goes piped

  low_later : (closed : ℕ) (now later : Circuit) (level : ℕ → ℕ) → GoesOn closed hubs now later → IsGoing diagram timing places place_of begun start closed hubs now level
      → (block : ℕ) (b : Block) (element slot : ℕ) → slice_get diagram.blocks block ≡ Some b
      → element < (attributes_of diagram).width_at block 1 → timing.slot block element ≡ Some slot
      → (places.product block element < length later.nets) × (level (places.product block element) ≡ 0)
  low_later closed now later level goes going block b element slot at below told =
      let is = going.low block b element slot at below told in
      (still_within closed hubs now later goes (places.product block element) is.0, is.1)

  -- ---- another netlist of the same nets

  same_goes : (closed : ℕ) (now later : Circuit) → later.nets ≡ now.nets → later.cycles ≡ now.cycles → GoesOn closed hubs now later
  same_goes closed now later nets cycles = record { cycles = cycles; nets = λ k inside. inl (ap (λ (all : List Net). slice_get all k) nets) }

  pub way_same : (closed count : ℕ) (now later : Circuit) (level : ℕ → ℕ) → later.nets ≡ now.nets
      → later.cycles ≡ now.cycles → IsUnderWay diagram timing places place_of closed hubs now level count
      → IsUnderWay diagram timing places place_of closed hubs later level count
  way_same closed count now later level nets cycles way =
      let goes = same_goes closed now later nets cycles in
      let size : length later.nets ≡ length now.nets = ap length nets in
      record {
        facts = facts_later diagram timing places closed closed hubs now later count (omega arith) goes way.facts;
        hubs_are = hubs_later diagram timing places place_of hubs closed now later level level goes (omega (arith, size)) (λ k inside. refl) way.hubs_are;
        operands = operands_later diagram timing places place_of hubs closed now later level level goes (λ k inside. refl) way.operands;
        sound = record {
          each = λ k net at. elim (way.sound.each k net (sym (ap (λ (all : List Net). slice_get all k) nets) ∙ at)) [
            | inl waits ↦ inl waits
            | inr is ↦ inr (sound_later closed hubs now later goes (length (root_inputs diagram (attributes_of diagram))) net is)
          ];
        };
        levelled = subst (λ (all : List Net). IsLevelled all level) (sym nets) way.levelled;
        differ = subst CountersDiffer (sym nets) way.differ;
      }

  -- ---- a call

  pub going_by_call : (closed own : ℕ) (before after : Circuit) (level : ℕ → ℕ) (named : List ℕ)
      → IsGoing diagram timing places place_of begun start closed hubs before level → Appends before after named
      → 1 ≤ own → ((read : ℕ) → Contains named read → (read < length before.nets) × (level read ≤ own))
      → IsGoing diagram timing places place_of begun start closed hubs after (level_behind before after level own)
  going_by_call closed own before after level named going appends some low =
      let goes = goes_appended closed hubs before after appends.extends in
      let few = going.few in
      let inputs : length after.inputs ≡ length before.inputs = ap length appends.extends.inputs in
      let on = going.on in
      record {
        since = goes_then begun hubs start before after going.since (goes_narrow begun closed hubs before after on goes);
        on = on;
        way = by_call diagram timing places place_of hubs closed 0 own before after level named going.way appends (omega (arith, few, inputs)) some low;
        few = omega (arith, few, inputs);
        late = λ block b port element edge source lag at showing from to drives below is_source is_lag.
            let word = going.way.operands.there block b port element edge at showing from to drives below in
            level_stays before after level own (places.offered block port element) (slice_get_within before.nets (places.offered block port element) word.net word.is)
            ∙ going.late block b port element edge source lag at showing from to drives below is_source is_lag;
        low = λ block b element slot at below told.
            let is = going.low block b element slot at below told in
            (still_within closed hubs before after goes (places.product block element) is.0, level_stays before after level own (places.product block element) is.0 ∙ is.1);
        waits = λ block b port element shown past.
            let is = going.waits block b port element shown past in
            record {
              at = still-there before after (places.after block port element) _ appends.extends is.at;
              level_is = level_stays before after level own (places.after block port element) (slice_get_within before.nets (places.after block port element) _ is.at) ∙ is.level_is;
            };
        made = λ block b port element shown early. made_later closed closed before after block b port element (omega arith) goes (going.made block b port element shown early);
        piped = λ block b port element shown early. piped_later closed closed before after block port element (omega arith) goes (going.piped block b port element shown early);
      }

  -- ---- names

  pub going_same : (closed : ℕ) (now later : Circuit) (level : ℕ → ℕ) → later.nets ≡ now.nets
      → later.cycles ≡ now.cycles → later.inputs ≡ now.inputs
      → IsGoing diagram timing places place_of begun start closed hubs now level
      → IsGoing diagram timing places place_of begun start closed hubs later level
  going_same closed now later level nets cycles inputs going =
      let goes = same_goes closed now later nets cycles in
      let few = going.few in
      let count : length later.inputs ≡ length now.inputs = ap length inputs in
      let on = going.on in
      record {
        since = goes_then begun hubs start now later going.since (goes_narrow begun closed hubs now later on goes);
        on = on;
        way = way_same closed 0 now later level nets cycles going.way;
        few = omega (arith, few, count);
        late = going.late;
        low = low_later closed now later level goes going;
        waits = λ block b port element shown past.
            let is = going.waits block b port element shown past in
            record { at = ap (λ (all : List Net). slice_get all (places.after block port element)) nets ∙ is.at; level_is = is.level_is };
        made = λ block b port element shown early. made_later closed closed now later block b port element (omega arith) goes (going.made block b port element shown early);
        piped = λ block b port element shown early. piped_later closed closed now later block port element (omega arith) goes (going.piped block b port element shown early);
      }

  -- ---- the next net that readers name gets its argument

  module _ (closed argument : ℕ) (before after : Circuit) (level : ℕ → ℕ) (block : ℕ) (b : Block) (port element : ℕ)
      (going : IsGoing diagram timing places place_of begun start closed hubs before level)
      (shown : IsShown diagram (attributes_of diagram) block b port element)
      (here : places.after block port element ≡ closed) (high : closed < hubs)
      (typed : IsWord (width_of ((attributes_of diagram).type_at block 1))
      (is_signed ((attributes_of diagram).type_at block 1)))
      (is : IsConnected before after closed argument) where
    waiting : slice_get before.nets closed ≡ Some (hub_of ((attributes_of diagram).type_at block 1))
    waiting = let waits = going.waits block b port element shown (omega (arith, here)) in ap (slice_get before.nets) (sym here) ∙ waits.at

    net_is : ◌≡◌ {A = Net} (hub_of ((attributes_of diagram).type_at block 1)) is.net
    net_is = same_Some (hub_of ((attributes_of diagram).type_at block 1)) is.net (sym waiting ∙ is.was)

    kind_is : is.net.kind ≡ Comb Resize []
    kind_is = ap (λ (n : Net). n.kind) (sym net_is)

    pub connected_goes : GoesOn closed hubs before after
    connected_goes = goes_connected closed hubs before after closed argument [] is kind_is (omega arith) high

    -- it passes that on
    pub connected_same : HasWord before.nets argument (width_of ((attributes_of diagram).type_at block 1))
        (is_signed ((attributes_of diagram).type_at block 1))
        → InLater (suc closed) hubs after (λ n rows. AreSame n (rows closed) (rows argument))
    connected_same has =
        resized (suc closed) hubs after closed argument (width_of ((attributes_of diagram).type_at block 1)) (is_signed ((attributes_of diagram).type_at block 1)) (given is.net argument)
        (record { at = connected_here before after closed argument is; settled = inl (omega arith) }) refl (ap (λ (n : Net). n.width) (sym net_is)) (ap (λ (n : Net). n.signed) (sym net_is)) typed
        (word_later closed hubs before after argument _ _ connected_goes has)

    pub going_by_connect : argument < length before.nets → level argument ≤ own_level (place_of block)
        → ((other : ℕ) (q : Block) (outer member : ℕ) → IsShown diagram (attributes_of diagram) other q outer member
        → places.after other outer member ≡ closed → (block ≡ other) × (port ≡ outer) × (element ≡ member))
        → IsElementMade diagram timing places closed hubs before block b port element
        → IsElementPiped diagram timing places (suc closed) hubs after block port element
        → IsGoing diagram timing places place_of begun start (suc closed) hubs after level
    going_by_connect there low alone made piped =
        let waits = going.waits block b port element shown (omega (arith, here)) in
        let level_is : level closed ≡ hub_level (place_of block) = ap level (sym here) ∙ waits.level_is in
        let few = going.few in
        let inputs : length after.inputs ≡ length before.inputs = ap (λ (c : Circuit). length c.inputs) is.is in
        let on = going.on in
        record {
          since = goes_then begun hubs start before after going.since (goes_narrow begun closed hubs before after on connected_goes);
          on = omega (arith, on);
          way = by_connect diagram timing places place_of hubs closed 0 argument before after level [] is kind_is
              (subst (λ (n : Net). IsWord n.width n.signed) net_is typed) high there
              (omega (arith, level_is, low)) going.way;
          few = omega (arith, few, inputs);
          late = going.late;
          low = low_later closed before after level connected_goes going;
          waits = λ other q outer member also past.
              let own = going.waits other q outer member also (omega (arith, past)) in
              record {
                at = connected_elsewhere before after closed argument (places.after other outer member) is (λ e. absurd (omega (arith, past, e))) ∙ own.at;
                level_is = own.level_is;
              };
          made = λ other q outer member also early. elim (cases_lt (places.after other outer member) closed) [
            | inl before_it ↦ made_later closed (suc closed) before after other q outer member (omega arith) connected_goes (going.made other q outer member also before_it)
            | inr past ↦
                moved other q outer member also (alone other q outer member also (omega (arith, early, past))) (λ x y z w. IsElementMade diagram timing places (suc closed) hubs after x y z w)
                (made_later closed (suc closed) before after block b port element (omega arith) connected_goes made)
          ];
          piped = λ other q outer member also early. elim (cases_lt (places.after other outer member) closed) [
            | inl before_it ↦ piped_later closed (suc closed) before after other outer member (omega arith) connected_goes (going.piped other q outer member also before_it)
            | inr past ↦ moved other q outer member also
                (alone other q outer member also (omega (arith, early, past)))
                (λ x y z w. IsElementPiped diagram timing places (suc closed) hubs after x z w) piped
          ];
        }
      where
        moved : (other : ℕ) (q : Block) (outer member : ℕ)
            → IsShown diagram (attributes_of diagram) other q outer member
            → (block ≡ other) × (port ≡ outer) × (element ≡ member) → (P : ℕ → Block → ℕ → ℕ → Type 0)
            → P block b port element → P other q outer member
        moved other q outer member also same P h =
            let own : ◌≡◌ {A = Block} b q = same_Some b q (sym shown.block_is ∙ ap (slice_get diagram.blocks) same.0 ∙ also.block_is) in
            subst (λ (x : ℕ). P x q outer member) same.0
            (subst (λ (y : Block). P block y outer member) own
            (subst (λ (x : ℕ). P block b x member) same.1 (subst (λ (x : ℕ). P block b port x) same.2 h)))
