-- A register or a bridge that is put behind a net, after the Counter of its frame.
use Rattle.std.proofs.Common.{◌≡◌, ℕ, zero, suc, Result, Ok, Err, IfOk, OnOk, ℤ, ◌+◌, ◌*◌, ◌<◌, ◌≤◌, inl, inr, [], ◌∷◌, ◌++◌, length, All, Contains, Option, None, Some, IsSome, slice_get}
use Rattle.std.proofs.Common.{slice_index_or, true, false, ap, sym, ◌∙◌, subst, arith, refl}
use Rattle.std.proofs.lemmas.Bool.{cases_lt}
use Rattle.std.proofs.lemmas.Option.{slice_get_within}
use Rattle.std.specs.Prelude.{⊤}
use Rattle.hw_net.specs.Registers.{IsReg, IsBridge}
use Rattle.math_num.specs.Word.{IsWord, InWord}
use Rattle.hw_net.specs.declared.netlist.Frame.{Frame}
use Rattle.hw_net.specs.declared.netlist.Net.{Net}
use Rattle.hw_net.specs.declared.netlist.NetKind.{NetKind}
use Rattle.hw_net.specs.declared.netlist.NetKind.TheVariants.{Reg, Bridge, Counter}
use Rattle.hw_net.specs.Circuit.{Circuit}
use Rattle.hw_net.specs.Frames.{frame_of, counted_frame, counter_of, is_register, register_count}
use Rattle.hw_net.specs.Netlist.{IsKind, HasWord, reads, reads_now}
use Rattle.hw_net.specs.NetRows.{Inputs, Rows, NetShows, span_of}
use Rattle.hw_net.specs.Growing.{Extends, MayRead, MayReadNow, InRows, Appends, IsCounted, AddsCounter, with_net}
use Rattle.hw_net.proofs.Growth.{longer, extends-one, still-there, stood-there, in-rows-one, in-rows-last, differ-other, appends-one, appends-trans, appends-counter, counter-stays, count-append}
use Rattle.math_list.proofs.Places.{last_at, split-last}
use Rattle.hw_lines.specs.Chain.{IsPart}
use Rattle.hw_lines.specs.Register.{Adds, Grows, SameWord, IsHeld}
use Rattle.hw_lines.specs.inner.Parts.{IsBridged}

-- what the Counter adds
module _ (a b : Circuit) (frame : Frame) (some : 0 < frame.period) (counted : IsCounted a b frame) where
  -- an appended net is the Counter
  pub counter-part : (part : NetKind → Type 0) → part (Counter frame) → (k : ℕ) (net : Net) → length a.nets ≤ k → slice_get b.nets k ≡ Some net → part net.kind
  counter-part part own k net past there = by (counter_of a.nets frame) refl
    where
      by : (found : Option ℕ) → counter_of a.nets frame ≡ found → part net.kind
      by (Some number) e =
          let same : b ≡ a = counted.stays (rw e refl) in
          absurd (omega (arith, past, slice_get_within a.nets k net (ap (λ (x : Circuit). slice_get x.nets k) (sym same) ∙ there)))
      by None e =
          let added : AddsCounter a b frame = counted.grows e in
          elim (split-last a.nets added.net net k (ap (λ (x : Circuit). slice_get x.nets k) (sym added.grown) ∙ there)) [
            | inl front ↦ absurd (omega (arith, front.0, past))
            | inr last ↦
                let kind : Counter frame ≡ net.kind = sym added.counter.kind ∙ ap (λ (x : Net). x.kind) last.1 in
                subst part kind own
          ]

  pub counter-count : register_count b.nets ≡ register_count a.nets
  counter-count = by (counter_of a.nets frame) refl
    where
      by : (found : Option ℕ) → counter_of a.nets frame ≡ found → register_count b.nets ≡ register_count a.nets
      by (Some number) e = ap (λ (x : Circuit). register_count x.nets) (counted.stays (rw e refl))
      by None e =
          let added : AddsCounter a b frame = counted.grows e in
          let none : is_register added.net.kind ≡ false = ap is_register added.counter.kind in
          ap (λ (x : Circuit). register_count x.nets) added.grown ∙ count-append a.nets (added.net ∷ []) ∙ rw none (omega arith)

  module _ (c : Circuit) (from number : ℕ) (source : Net) (kind : NetKind) (there : slice_get a.nets from ≡ Some source) (word : IsWord source.width source.signed)
      (at : number ≡ length b.nets) (has : IsSome (counter_of b.nets frame)) (grown : c ≡ with_net b (record { signed = source.signed; width = source.width; kind = kind })) where
    abbrev one : Net
    one = record { signed = source.signed; width = source.width; kind = kind }

    counter-grows : Appends a b (from ∷ [])
    counter-grows = appends-counter a b (from ∷ []) frame some counted

    pub part-extends : Extends b c
    part-extends = extends-one b c one grown

    pub part-there : slice_get c.nets number ≡ Some one
    part-there = ap (λ (x : Circuit). slice_get x.nets number) grown ∙ ap (slice_get (b.nets ++ one ∷ [])) at ∙ last_at b.nets one

    source-there : slice_get c.nets from ≡ Some source
    source-there = still-there b c from source part-extends (still-there a b from source counter-grows.extends there)

    pub source-word : HasWord c.nets from source.width source.signed
    source-word = record { net = source; is = source-there; wide = refl; sign = refl }

    pub part-word : SameWord a c from number
    part-word net is =
        let same : source ≡ net = same-net (sym there ∙ is) in
        subst (λ (x : Net). HasWord c.nets number x.width x.signed) same (record { net = one; is = part-there; wide = refl; sign = refl })
      where
        same-net : {x y : Net} → Some x ≡ Some y → x ≡ y
        same-net e = cc

    pub part-new : length a.nets ≤ number
    part-new = omega (arith, at, longer a b counter-grows.extends)

    pub part-count : is_register kind ≡ true → register_count c.nets ≡ register_count a.nets + 1
    part-count is = ap (λ (x : Circuit). register_count x.nets) grown ∙ count-append b.nets (one ∷ []) ∙ rw is (omega (arith, counter-count))

    module _ (names : frame_of kind ≡ Some frame) (counts : counted_frame kind ≡ None) (all : (P : ℕ → Type 0) → P from → All P (reads kind)) (now : (P : ℕ → Type 0) → P from → All P (reads_now kind))
        (fits : HasWord c.nets from source.width source.signed → IsKind c.nets c.cycles (length c.inputs) source.width source.signed kind) where
      part-appends : Appends b c (from ∷ [])
      part-appends = appends-one b c one (from ∷ []) grown (record {
        word = word;
        kind = fits source-word;
        there = all (λ read. read < length c.nets) (slice_get_within c.nets from source source-there);
        allowed = all (MayRead b c (from ∷ [])) (inl named);
        now = now (MayReadNow b c (from ∷ []) (length b.nets)) (inl named);
        counted = λ other is.
            let same : frame ≡ other = same-frame (sym names ∙ is) in
            subst (λ (x : Frame). IsSome (counter_of c.nets x)) same (stays has);
      }) (differ-other b.nets one counts)
        where
          named : Contains (from ∷ []) from
          named = (0, omega arith, refl)

          same-frame : {x y : Frame} → Some x ≡ Some y → x ≡ y
          same-frame e = cc

          stays : IsSome (counter_of b.nets frame) → IsSome (counter_of c.nets frame)
          stays = counter-stays b c frame part-extends

      pub part-grows : (bridges : Type 0) → IsPart bridges (λ other. other ≡ frame) kind → Grows a c from bridges (λ other. other ≡ frame)
      part-grows bridges is = record {
        appends = appends-trans a b c (from ∷ []) (from ∷ []) (λ read named. inl named) counter-grows part-appends;
        parts = λ k net past stands.
            elim (cases_lt k (length b.nets)) [
              | inl less ↦ counter-part (IsPart bridges (λ other. other ≡ frame)) refl k net past (stood-there b c k net part-extends less stands)
              | inr more ↦ elim (split-last b.nets one net k (ap (λ (x : Circuit). slice_get x.nets k) (sym grown) ∙ stands)) [
                | inl front ↦ absurd (omega (arith, front.0, more))
                | inr last ↦ subst (IsPart bridges (λ other. other ≡ frame)) (ap (λ (x : Net). x.kind) last.1) is
              ]
            ];
      }

    -- what the net shows
    pub part-shows : (P : ℕ → Rows → Type 0) → ((n : ℕ) (inputs : Inputs) (rows : Rows) → NetShows a.cycles n inputs rows source.width source.signed kind (rows number) → P n rows) → InRows a c P
    part-shows P shows =
        in-rows-last a b c P counter-grows.extends
        (in-rows-one b c one number P at grown
        (λ n inputs rows is. shows n inputs rows
        (subst (λ (x : ℕ). NetShows x n inputs rows source.width source.signed kind (rows number))
        counter-grows.extends.cycles is)))

same-net : {x y : Net} → Some x ≡ Some y → x ≡ y
same-net e = cc

pub one-all : (P : ℕ → Type 0) (from : ℕ) → P from → All P (from ∷ [])
one-all P from p k d within =
    let e : from ≡ slice_index_or (from ∷ []) k d = first-of k d within in
    subst P e p
  where
    first-of : (k d : ℕ) → k < length (from ∷ []) → from ≡ slice_index_or (from ∷ []) k d
    first-of zero d h = refl
    first-of (suc k) d h = absurd (omega arith)

none-all : (P : ℕ → Type 0) → All P []
none-all P k d within = absurd (omega arith)

module _ (a b : Circuit) (frame : Frame) (some : 0 < frame.period) (counted : IsCounted a b frame)
    (found : (number : ℕ) × (counter_of b.nets frame ≡ Some number)) (c : Circuit) (from : ℕ) (source : Net)
    (there : slice_get a.nets from ≡ Some source) (word : IsWord source.width source.signed) where
  has : IsSome (counter_of b.nets frame)
  has = rw found.1 refl

  pub register-part : {E : Type 0} (result : Result ℕ E) (slot : ℕ) (first : ℤ) → InWord source.width source.signed first
      → IfOk result (λ number. number ≡ length b.nets) → OnOk result (c ≡ with_net b (record { signed = source.signed; width = source.width; kind = Reg frame slot first from }))
      → IfOk result (λ number. Adds a c from frame ⊥ (IsHeld a c from frame slot first number))
  register-part (Ok number) slot first fits at grown =
      let kind : NetKind = Reg frame slot first from in
      record {
        is = record {
          shows = part-shows a b frame some counted c from number source kind there word at has grown
              (λ n rows. IsReg n (span_of a.cycles frame) slot first (rows from) (rows number))
              (λ n inputs rows is. is);
          word = part-word a b frame some counted c from number source kind there word at has grown;
          new = record {
            frame = frame;
            slot = slot;
            first = first;
            from = from;
            net = record { signed = source.signed; width = source.width; kind = kind };
            is = part-there a b frame some counted c from number source kind there word at has grown;
            holds = refl;
            new = part-new a b frame some counted c from number source kind there word at has grown;
          };
        };
        grown = part-grows a b frame some counted c from number source kind there word at has grown refl refl (λ P p. one-all P from p) (λ P p. none-all P) (λ is. (some, is, fits)) ⊥ tt;
        few = part-count a b frame some counted c from number source kind there word at has grown refl;
      }
  register-part (Err e) slot first fits at grown = tt

  pub bridge-part : {E : Type 0} (result : Result ℕ E) (live : ℕ) → 0 < live
      → IfOk result (λ number. number ≡ length b.nets) → OnOk result (c ≡ with_net b (record { signed = source.signed; width = source.width; kind = Bridge frame live from }))
      → IfOk result (λ number. Adds a c from frame ⊤ (IsBridged a c from frame live number))
  bridge-part (Ok number) live lives at grown =
      let kind : NetKind = Bridge frame live from in
      record {
        is = record {
          shows = part-shows a b frame some counted c from number source kind there word at has grown
              (λ n rows. IsBridge n (span_of a.cycles frame) (live * a.cycles) (rows from) (rows number))
              (λ n inputs rows is. is);
          word = part-word a b frame some counted c from number source kind there word at has grown;
          new = part-new a b frame some counted c from number source kind there word at has grown;
        };
        grown = part-grows a b frame some counted c from number source kind there word at has grown refl refl (λ P p. one-all P from p) (λ P p. one-all P from p) (λ is. (some, lives, is)) ⊤ tt;
        few = part-count a b frame some counted c from number source kind there word at has grown refl;
      }
  bridge-part (Err e) live lives at grown = tt
