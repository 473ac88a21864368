-- Registers one behind another, as they are put in.
use Rattle.std.proofs.Common.{◌≡◌, ℕ, zero, suc, ◌+◌, ◌<◌, ◌≤◌, inl, inr, Bool, true, ℤ, List, [], ◌∷◌, ◌++◌, length, All, Contains, Option, None, Some, IsSome, sym, ◌∙◌, subst, arith, refl}
use Rattle.std.specs.Prelude.{slice_get, slice_index_or}
use Rattle.std.proofs.lemmas.Bool.{cases_lt}
use Rattle.std.proofs.lemmas.List.Elements.{All-contains, Contains-append_left, Contains-get_or, Contains-push, Contains-push_cases}
use Rattle.std.proofs.lemmas.Option.{same_Some, slice_get_within}
use Rattle.math_num.specs.Word.{IsWord, InWord}
use Rattle.hw_net.specs.declared.netlist.Frame.{Frame}
use Rattle.hw_net.specs.declared.netlist.Net.{Net}
use Rattle.hw_net.specs.declared.netlist.NetKind.{NetKind}
use Rattle.hw_net.specs.Circuit.{Circuit}
use Rattle.hw_net.specs.Frames.{frame_of, counted_frame, counter_of, is_register}
use Rattle.hw_net.specs.Netlist.{IsKind, HasWord, reads, reads_now}
use Rattle.hw_net.specs.Growing.{IsCounted, with_net}
use Rattle.hw_net.proofs.Growth.{longer, still-there, word-stays, counter-stays, one-longer}
use Rattle.hw_share.proofs.Counters.{counter-grows}
use Rattle.hw_build.specs.declared.parts.Word.{Word}
use Rattle.hw_build.specs.declared.states.Enabled.{Enabled}
use Rattle.hw_share.specs.inner.Parts.{Grows, IsNamed}
use Rattle.hw_build.specs.inner.Series.{enables_by, register_of, taken_by, IsOfFrame, AreSeries}
use Rattle.hw_build.proofs.MoreParts.{grows_then, put_word}
use Rattle.hw_share.proofs.OneNet.{put-extends, put-there, put-grows}

-- ---- what is put in of one form

-- registers of a frame that read one net and these others, none of them in their own clock
pub record IsForm (make : ℕ → NetKind) (frame : Frame) (others : List ℕ) (width : ℕ) (signed : Bool) : Type 0 where
  pub frame_is : (x : ℕ) → frame_of (make x) ≡ Some frame
  pub counts : (x : ℕ) → counted_frame (make x) ≡ None
  pub holds : (x : ℕ) → is_register (make x) ≡ true
  pub part : (x : ℕ) → IsOfFrame frame (make x)
  pub reading : (x : ℕ) → reads (make x) ≡ others ++ x ∷ []
  pub alone : (x : ℕ) → reads_now (make x) ≡ []
  pub fits : (c : Circuit) (x : ℕ) → HasWord c.nets x width signed → IsKind c.nets c.cycles (length c.inputs) width signed (make x)

pub register_form : (enabled : Option Enabled) (frame : Frame) (slot : ℕ) (first : ℤ) (width : ℕ) (signed : Bool)
    → 0 < frame.period → InWord width signed first
    → IsForm (register_of enabled frame slot first) frame (enables_by enabled) width signed
register_form None frame slot first width signed some has =
    record {
      frame_is = λ x. refl;
      counts = λ x. refl;
      holds =
          λ x. refl;
      part = λ x. refl;
      reading = λ x. refl;
      alone = λ x. refl;
      fits = λ c x word. (some, word, has);
    }
register_form (Some by) frame slot first width signed some has =
    record {
      frame_is = λ x. refl;
      counts = λ x. refl;
      holds =
          λ x. refl;
      part = λ x. refl;
      reading = λ x. refl;
      alone = λ x. refl;
      fits = λ c x word. (some, word, has);
    }

module _ (make : ℕ → NetKind) (frame : Frame) (others : List ℕ) (word : Word) (from : ℕ) (form : IsForm make frame others word.width word.signed) (is_word : IsWord word.width word.signed) where
  abbrev Named : List ℕ
  Named = others ++ from ∷ []

  -- none yet
  pub series_begun : (a b : Circuit) (number begin : ℕ) → 0 < frame.period → IsCounted a b frame
      → counter_of b.nets frame ≡ Some number → HasWord a.nets from word.width word.signed → begin ≡ length b.nets
      → AreSeries make a b Named frame word from begin 0
  series_begun a b number begin some counted found has is =
      let grows = counter-grows a b frame some counted Named (IsOfFrame frame) refl in
      record {
        grows = grows;
        each = λ k below. absurd (omega (arith, below));
        size = omega (arith, is);
        new = let more = longer a b grows.appends.extends in omega (arith, is, more);
        counted = rw found refl;
        last = word-stays a b from word.width word.signed grows.appends.extends has;
      }

  -- one more
  pub series_more : (a b c : Circuit) (begin count last : ℕ) → All (λ read. read < length a.nets) others → AreSeries make a b Named frame word from begin count → last ≡ taken_by from begin count
      → c ≡ with_net b (record { signed = word.signed; width = word.width; kind = make last }) → AreSeries make a c Named frame word from begin (suc count)
  series_more a b c begin count last there are same grown =
      let one : Net = record { signed = word.signed; width = word.width; kind = make last } in
      let extends = put-extends b c one grown in
      let at = put-there b c one grown in
      let size = one-longer b c one grown in
      let was = are.size in
      let old = longer a b are.grows.appends.extends in
      let last_word = subst (λ (x : ℕ). HasWord b.nets x word.width word.signed) (sym same) are.last in
      let inside = slice_get_within b.nets last last_word.net last_word.is in
      let low : (read : ℕ) → Contains (reads (make last)) read → read < length b.nets = λ read reads_it.
      elim (Contains-push_cases others last read (subst (λ (list : List ℕ). Contains list read) (form.reading last) reads_it)) [
        | inl other ↦ let less = All-contains (λ (x : ℕ). x < length a.nets) others read there other in omega (arith, less, old)
        | inr own ↦ omega (arith, own, inside)
      ] in
      let step : Grows b c (reads (make last)) (IsOfFrame frame) 1 =
      put-grows b c one grown (reads (make last)) (IsOfFrame frame) 1 (record {
        word = is_word;
        kind = form.fits c last (word-stays b c last word.width word.signed extends last_word);
        there = λ i d within. let less = low (slice_index_or (reads (make last)) i d) (Contains-get_or (reads (make last)) i d within) in omega (arith, less, size);
        allowed = λ i d within. inl (Contains-get_or (reads (make last)) i d within);
        now = rw (form.alone last) (λ i d within. absurd (omega (arith, within)));
        counted = λ other is.
            subst (λ (x : Frame). IsSome (counter_of c.nets x)) (same_Some frame other (sym (form.frame_is last) ∙ is)) (counter-stays b c frame extends are.counted);
      }) (form.counts last) (form.part last) (rw (form.holds last) refl) in
      let named : (read : ℕ) → Contains (reads (make last)) read → IsNamed a b Named read = λ read reads_it.
      elim (Contains-push_cases others last read (subst (λ (list : List ℕ). Contains list read) (form.reading last) reads_it)) [
        | inl other ↦ inl (Contains-append_left others (from ∷ []) read other)
        | inr own ↦ subst (IsNamed a b Named) own (subst (IsNamed a b Named) (sym same) (taken count are.new was))
      ] in
      record {
        grows = grown_by (grows_then a b c Named (reads (make last)) (IsOfFrame frame) (IsOfFrame frame) count 1 named (λ kind is. is) are.grows step);
        each = λ k below. elim (cases_lt k count) [
          | inl early ↦ still-there b c (begin + k) _ extends (are.each k early)
          | inr past ↦
              let e : k ≡ count = omega (arith, past, below) in
              subst (λ (j : ℕ). slice_get c.nets (begin + j) ≡ Some (record { signed = word.signed; width = word.width; kind = make (taken_by from begin j) })) (sym e)
              (subst (λ (n : ℕ). slice_get c.nets n ≡ Some (record { signed = word.signed; width = word.width; kind = make (taken_by from begin count) })) was
              (subst (λ (x : ℕ). slice_get c.nets (length b.nets) ≡ Some (record { signed = word.signed; width = word.width; kind = make x })) same at))
        ];
        size = omega (arith, size, was);
        new = are.new;
        counted = counter-stays b c frame extends are.counted;
        last = subst (λ (n : ℕ). HasWord c.nets n word.width word.signed) was (put_word b c one grown);
      }
    where
      taken : (n : ℕ) → length a.nets ≤ begin → length b.nets ≡ begin + n → IsNamed a b Named (taken_by from begin n)
      taken zero low size = inl (Contains-push others from)
      taken (suc n) low size = inr (omega (arith, low), omega (arith, size))

      grown_by : Grows a c Named (IsOfFrame frame) (count + 1) → Grows a c Named (IsOfFrame frame) (suc count)
      grown_by is = let e : count + 1 ≡ suc count = omega arith in subst (Grows a c Named (IsOfFrame frame)) e is
