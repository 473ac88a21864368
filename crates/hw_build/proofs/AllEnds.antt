-- Ends are put behind others one by one.
use Rattle.std.proofs.Common.{◌≡◌, ℕ, ◌+◌, ◌<◌, ◌≤◌, inl, inr, ◌++◌, ◌∷◌, Bool, true, false, cond, List, [], length, length-append, map, drop, Option, None, Some, ap, sym, ◌∙◌, subst, refl, arith}
use Rattle.std.specs.Prelude.{slice_get}
use Rattle.std.specs.List.{flat_map}
use Rattle.std.proofs.lemmas.Bool.{cases_lt}
use Rattle.std.proofs.lemmas.List.{append_assoc, drop_all}
use Rattle.std.proofs.lemmas.Option.{none-some, same_Some}
use Rattle.math_list.proofs.Places.{get_left, last_at}
use Rattle.dg_model.specs.declared.diagram.Diagram.{Diagram}
use Rattle.dg_model.specs.declared.diagram.Block.{Block}
use Rattle.dg_model.specs.declared.diagram.Edge.{Edge}
use Rattle.dg_model.specs.declared.nested.Target.TheVariants.{Enable}
use Rattle.dg_model.specs.declared.resolved.Resolved.{Resolved}
use Rattle.dg_model.specs.LatencyEdges.{LatencyEdge, signal_edge, asks_ever, enable_edge, enable_edges_from, latency_edges}
use Rattle.dg_model.specs.Library.{row_of}
use Rattle.dg_model.specs.Wired.{IsWired}
use Rattle.dg_sort.proofs.Lines.{lines_from, controls_from}
use Rattle.hw_latency.specs.Control.{control_ever}
use Rattle.hw_sched.specs.Slots.{Timing as Times}
use Rattle.hw_shows.specs.Timed.{Feeds}
use Rattle.hw_build.specs.declared.asks.Ask.{Ask}
use Rattle.hw_build.specs.declared.asks.Asks.{Asks}
use Rattle.hw_build.specs.declared.operands.Span.{Span}
use Rattle.hw_build.specs.declared.wants.Want.{Want}
use Rattle.hw_build.specs.inner.EndAsks.{IsAskAt, edge_wants, IsEndPut, IsEndAt, AreEnds, AreEndsFor, control_edge, controls_left, lines_left, IsSpan, IsLinePut, IsControlEnd, IsControlPut}
use Rattle.hw_build.specs.inner.EndSearch.{IsNumber, AsksGrow}
use Rattle.hw_build.specs.inner.Wants.{AreWants}
use Rattle.hw_build.proofs.AskLists.{ask_stays}
use Rattle.hw_build.proofs.LineSearch.{line_into_is}

module _ (diagram : Diagram) (plan : Resolved) (times : Times) (firsts : List (List ℕ)) where
  -- ---- one end

  ask_later : (old new : List Ask) (wants more : List Want) (b : Block) (edge : LatencyEdge) (place element : ℕ)
      → AsksGrow old new wants more → IsAskAt diagram plan times firsts old wants b edge place element
      → IsAskAt diagram plan times firsts new more b edge place element
  ask_later old new wants more b edge place element grow (inl still) = inl (still.0, ask_stays old new wants more place _ None grow still.1)
  ask_later old new wants more b edge place element grow (inr late) =
      inr (record {
        p = late.p;
        moves = late.moves;
        want = late.want;
        asked =
            ask_stays old new wants more place _ (Some late.want) grow late.asked;
        is = late.is;
      })

  end_later : (old new : List Ask) (wants more : List Want) (spans : List Span) (last : Span) (number : ℕ)
      (b : Block) (edge : LatencyEdge) → AsksGrow old new wants more
      → IsEndAt diagram plan times firsts old wants spans number b edge
      → IsEndAt diagram plan times firsts new more (spans ++ last ∷ []) number b edge
  end_later old new wants more spans last number b edge grow is = record {
    span = is.span;
    is = get_left spans (last ∷ []) number is.span is.is;
    count = is.count;
    each = λ element below. ask_later old new wants more b edge (is.span.first + element) element grow (is.each element below);
  }

  end_kept : (old new : List Ask) (wants more : List Want) (spans : List Span) (number : ℕ) (b : Block)
      (edge : LatencyEdge) → AsksGrow old new wants more
      → IsEndAt diagram plan times firsts old wants spans number b edge
      → IsEndAt diagram plan times firsts new more spans number b edge
  end_kept old new wants more spans number b edge grow is = record {
    span = is.span;
    is = is.is;
    count = is.count;
    each = λ element below. ask_later old new wants more b edge (is.span.first + element) element grow (is.each element below);
  }

  end_last : (old new : List Ask) (wants more : List Want) (spans : List Span) (last : Span) (number : ℕ)
      (b : Block) (edge : LatencyEdge) → number ≡ length spans → IsSpan (length old) (length new) last
      → IsEndPut diagram plan times firsts old new wants more b edge
      → IsEndAt diagram plan times firsts new more (spans ++ last ∷ []) number b edge
  end_last old new wants more spans last number b edge at span put =
      let begins = span.0 in
      let ends = span.1 in
      let size = put.size in
      record {
        span = last;
        is = ap (slice_get (spans ++ last ∷ [])) at ∙ last_at spans last;
        count = omega (arith, ends, size);
        each = λ element below. subst (λ (n : ℕ). IsAskAt diagram plan times firsts new more b edge (n + element) element) (sym begins) (put.each element below);
      }

  -- ---- all

  pub ends_begin : AreEnds diagram plan times firsts [] [] [] [] 0 0 (lines_left diagram 0)
  ends_begin = record {
    line_count_is = refl;
    control_count_is = refl;
    each_line = λ number edge b below at there. absurd (omega (arith, below));
    each_control = λ block b control below at feeds. absurd (omega (arith, below));
    numbered = record { each = λ k ask at. absurd (none-some ask at) };
    whole = refl;
    allowed = λ net words. record { each = λ k want at. absurd (none-some want at) };
  }

  wants_left : (wants more : List Want) (edge : LatencyEdge) (left rest : List LatencyEdge) (all : List Want)
      → left ≡ edge ∷ rest → more ≡ wants ++ edge_wants diagram plan times firsts edge
      → wants ++ flat_map (edge_wants diagram plan times firsts) left ≡ all
      → more ++ flat_map (edge_wants diagram plan times firsts) rest ≡ all
  wants_left wants more edge left rest all split added whole =
      ap (λ (xs : List Want). xs ++ flat_map (edge_wants diagram plan times firsts) rest) added
      ∙ append_assoc wants (edge_wants diagram plan times firsts edge)
      (flat_map (edge_wants diagram plan times firsts) rest)
      ∙ sym (ap (λ (es : List LatencyEdge). wants ++ flat_map (edge_wants diagram plan times firsts) es) split) ∙ whole

  pub lines_more : IsWired diagram → (old new : Asks) (lines : List Span) (span : Span) (number : ℕ) (edge : Edge)
      → AreEndsFor diagram plan times firsts old lines [] number 0 (lines_left diagram number)
      → slice_get diagram.edges number ≡ Some edge → IsLinePut diagram plan times firsts old new edge
      → IsSpan (length old.list.items) (length new.list.items) span → AreEndsFor diagram plan times firsts new (lines ++ span ∷ []) [] (number + 1) 0 (lines_left diagram (number + 1))
  lines_more wired old new lines span number edge are at put is =
      let into = line_into_is diagram number edge wired at in
      let own = put.end into.block into.is in
      record {
        line_count_is = length-append lines (span ∷ []) ∙ omega (arith, are.line_count_is);
        control_count_is = refl;
        each_line = λ k line b below there block. elim (cases_lt k number) [
          | inl less ↦ end_later old.list.items new.list.items old.wants.items new.wants.items lines span k b (signal_edge line) own.grow (are.each_line k line b less there block)
          | inr past ↦
              let here : number ≡ k = omega (arith, below, past) in
              let same : ◌≡◌ {A = Edge} edge line = same_Some edge line (sym at ∙ ap (slice_get diagram.edges) here ∙ there) in
              let end = put.end b (ap (λ (e : Edge). slice_get diagram.blocks e.to) same ∙ block) in
              let size = are.line_count_is in
              subst (λ (e : Edge). IsEndAt diagram plan times firsts new.list.items new.wants.items (lines ++ span ∷ []) k b (signal_edge e)) same
              (end_last old.list.items new.list.items old.wants.items new.wants.items lines span k b (signal_edge edge) (omega (arith, here, size)) is end)
        ];
        each_control = λ block b control below there feeds. absurd (omega (arith, below));
        numbered = own.grow.numbered are.numbered;
        whole = wants_left old.wants.items new.wants.items (signal_edge edge) (lines_left diagram number)
            (lines_left diagram (number + 1)) (flat_map (edge_wants diagram plan times firsts)
            (latency_edges diagram))
            (lines_from diagram number edge (controls_left diagram 0) at) own.added are.whole;
        allowed = λ net words. own.allowed net words (are.allowed net words);
      }

  -- none is taken away
  pub line_longer : (old new : Asks) (number : ℕ) (edge : Edge) → IsWired diagram
      → slice_get diagram.edges number ≡ Some edge → IsLinePut diagram plan times firsts old new edge
      → length old.list.items ≤ length new.list.items
  line_longer old new number edge wired at put =
      let into = line_into_is diagram number edge wired at in
      let size = (put.end into.block into.is).size in
      omega (arith, size)

  pub control_longer : (old new : Asks) (block : ℕ) (b : Block) → slice_get diagram.blocks block ≡ Some b
      → IsControlPut diagram plan times firsts old new block → length old.list.items ≤ length new.list.items
  control_longer old new block b at put = go (control_ever b) (put.end b at)
    where
      go : (o : Option ℕ) → IsControlEnd diagram plan times firsts old new block b o → length old.list.items ≤ length new.list.items
      go None end = let same : length new.list.items ≡ length old.list.items = ap (λ (xs : List Ask). length xs) end.0 in omega (arith, same)
      go (Some control) end = let size = end.size in omega (arith, size)

  pub lines_end : (asks : Asks) (lines : List Span) (number : ℕ) → number ≤ length diagram.edges
      → length diagram.edges ≤ number → AreEndsFor diagram plan times firsts asks lines [] number 0
      (lines_left diagram number) → AreEndsFor diagram plan times firsts asks lines [] (length diagram.edges) 0
      (controls_left diagram 0)
  lines_end asks lines number low high are =
      let here : number ≡ length diagram.edges = omega (arith, low, high) in
      let none : drop (length diagram.edges) diagram.edges ≡ [] = drop_all (length diagram.edges) diagram.edges (omega arith) in
      subst (AreEndsFor diagram plan times firsts asks lines [] (length diagram.edges) 0) (ap (λ (es : List Edge). map signal_edge es ++ controls_left diagram 0) none)
      (subst (λ (n : ℕ). AreEndsFor diagram plan times firsts asks lines [] n 0 (lines_left diagram n)) here are)

  -- ---- controls

  feeds_control : (block : ℕ) (b : Block) (control : ℕ) → Feeds diagram block b Enable control → control_ever b ≡ Some control
  feeds_control block b control feeds = ap (λ (flag : Bool). cond flag b.enable None) feeds.1 ∙ feeds.0

  no_edge : (place : ℕ) (asks : Bool) (enable : Option ℕ) → cond asks enable None ≡ None → enable_edge place asks enable ≡ []
  no_edge place true None e = refl
  no_edge place true (Some control) e = absurd (none-some control (sym e))
  no_edge place false None e = refl
  no_edge place false (Some control) e = refl

  one_edge : (place control : ℕ) (asks : Bool) (enable : Option ℕ) → cond asks enable None ≡ Some control → enable_edge place asks enable ≡ control_edge control place ∷ []
  one_edge place control true None e = absurd (none-some control e)
  one_edge place control true (Some other) e = ap (λ (n : ℕ). control_edge n place ∷ []) (same_Some other control e)
  one_edge place control false enable e = absurd (none-some control e)

  module _ (old new : Asks) (lines controls : List Span) (span : Span) (lined number : ℕ) (b : Block)
      (at : slice_get diagram.blocks number ≡ Some b)
      (are : AreEndsFor diagram plan times firsts old lines controls lined number
      (controls_left diagram number))
      (is : IsSpan (length old.list.items) (length new.list.items) span)
    where
      abbrev Next : Type 0
      Next = AreEndsFor diagram plan times firsts new lines (controls ++ span ∷ []) lined (number + 1) (controls_left diagram (number + 1))

      same_block : (k : ℕ) (x : Block) → k < number + 1 → number ≤ k → slice_get diagram.blocks k ≡ Some x → (number ≡ k) × (◌≡◌ {A = Block} b x)
      same_block k x below past there = let here : number ≡ k = omega (arith, below, past) in (here, same_Some b x (sym at ∙ ap (slice_get diagram.blocks) here ∙ there))

      without : control_ever b ≡ None → (new.list.items ≡ old.list.items) → (new.wants.items ≡ old.wants.items) → Next
      without none list wants =
          let grow : AsksGrow old.list.items new.list.items old.wants.items new.wants.items = record {
            list = λ k ask here. ap (λ (xs : List Ask). slice_get xs k) list ∙ here;
            wants_stay = λ k want here. ap (λ (xs : List Want). slice_get xs k) wants ∙ here;
            numbered = λ numbered. record {
              each =
                  λ k ask here. subst (λ (xs : List Want). IsNumber (length xs) ask.want) (sym wants)
                  (numbered.each k ask (sym (ap (λ (xs : List Ask). slice_get xs k) list) ∙ here));
            };
          } in
          record {
            line_count_is = are.line_count_is;
            control_count_is = length-append controls (span ∷ []) ∙ omega (arith, are.control_count_is);
            each_line = λ k line x below there block. end_kept old.list.items new.list.items old.wants.items
                new.wants.items lines k x (signal_edge line) grow (are.each_line k line x below there block);
            each_control = λ k x control below there feeds. elim (cases_lt k number) [
              | inl less ↦ end_later old.list.items new.list.items old.wants.items new.wants.items controls span k x (control_edge control k) grow (are.each_control k x control less there feeds)
              | inr past ↦
                  let same = same_block k x below past there in
                  absurd (none-some control (sym none ∙ ap (λ (y : Block). control_ever y) same.1 ∙ feeds_control k x control feeds))
            ];
            numbered = grow.numbered are.numbered;
            whole =
                let left : controls_left diagram number ≡ controls_left diagram (number + 1) =
                controls_from diagram number b at
                ∙ ap (λ (es : List LatencyEdge). es ++ controls_left diagram (number + 1))
                (no_edge number (asks_ever (row_of b.kind).timing.asks) b.enable none) in
                ap (λ (xs : List Want). xs ++ flat_map (edge_wants diagram plan times firsts)
                (controls_left diagram (number + 1))) wants
                ∙ sym (ap (λ (es : List LatencyEdge). old.wants.items
                ++ flat_map (edge_wants diagram plan times firsts) es) left) ∙ are.whole;
            allowed = λ net words. subst (AreWants net) (sym wants) (are.allowed net words);
          }

      having : (control : ℕ) → control_ever b ≡ Some control → IsEndPut diagram plan times firsts old.list.items new.list.items old.wants.items new.wants.items b (control_edge control number) → Next
      having control some put = record {
        line_count_is = are.line_count_is;
        control_count_is = length-append controls (span ∷ []) ∙ omega (arith, are.control_count_is);
        each_line = λ k line x below there block. end_kept old.list.items new.list.items old.wants.items
            new.wants.items lines k x (signal_edge line) put.grow (are.each_line k line x below there block);
        each_control = λ k x other below there feeds. elim (cases_lt k number) [
          | inl less ↦ end_later old.list.items new.list.items old.wants.items new.wants.items controls span k x (control_edge other k) put.grow (are.each_control k x other less there feeds)
          | inr past ↦
              let same = same_block k x below past there in
              let own : control ≡ other = same_Some control other (sym some ∙ ap (λ (y : Block). control_ever y) same.1 ∙ feeds_control k x other feeds) in
              let size = are.control_count_is in
              let here = same.0 in
              subst (λ (n : ℕ). IsEndAt diagram plan times firsts new.list.items new.wants.items (controls ++ span ∷ []) n x (control_edge other n)) here
              (subst (λ (c : ℕ). IsEndAt diagram plan times firsts new.list.items new.wants.items (controls ++ span ∷ []) number x (control_edge c number)) own
              (subst (λ (y : Block). IsEndAt diagram plan times firsts new.list.items new.wants.items (controls ++ span ∷ []) number y (control_edge control number)) same.1
              (end_last old.list.items new.list.items old.wants.items new.wants.items controls span number b (control_edge control number) (sym size) is put)))
        ];
        numbered = put.grow.numbered are.numbered;
        whole =
            let left : controls_left diagram number
            ≡ control_edge control number ∷ controls_left diagram (number + 1) =
            controls_from diagram number b at
            ∙ ap (λ (es : List LatencyEdge). es ++ controls_left diagram (number + 1))
            (one_edge number control (asks_ever (row_of b.kind).timing.asks) b.enable some) in
            wants_left old.wants.items new.wants.items (control_edge control number) (controls_left diagram number)
            (controls_left diagram (number + 1))
            (flat_map (edge_wants diagram plan times firsts) (latency_edges diagram)) left put.added
            are.whole;
        allowed = λ net words. put.allowed net words (are.allowed net words);
      }

      pub controls_more : IsControlPut diagram plan times firsts old new number → Next
      controls_more put = go (control_ever b) refl (put.end b at)
        where
          go : (o : Option ℕ) → control_ever b ≡ o → IsControlEnd diagram plan times firsts old new number b o → Next
          go None e end = without e end.0 end.1
          go (Some control) e end = having control e end

  pub controls_end : (asks : Asks) (lines controls : List Span) (lined number : ℕ) → number ≡ length diagram.blocks
      → AreEndsFor diagram plan times firsts asks lines controls lined number (controls_left diagram number)
      → AreEndsFor diagram plan times firsts asks lines controls lined (length diagram.blocks) []
  controls_end asks lines controls lined number here are =
      let none : controls_left diagram (length diagram.blocks) ≡ [] = ap (enable_edges_from (length diagram.blocks)) (drop_all (length diagram.blocks) diagram.blocks (omega arith)) in
      subst (AreEndsFor diagram plan times firsts asks lines controls lined (length diagram.blocks)) none
      (subst (λ (n : ℕ). AreEndsFor diagram plan times firsts asks lines controls lined n
      (controls_left diagram n)) here are)
