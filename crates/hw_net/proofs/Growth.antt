-- What is said of a netlist is carried along as it grows.
pub use Rattle.hw_net.proofs.Extends.{count-append, extends-self, extends-trans, extends-one, longer, one-longer, still-there, stood-there, word-stays, counter-front, counter-stays, is-counter-stays}
pub use Rattle.hw_net.proofs.Extends.{differ-more, differ-other, differ-counter}
use Rattle.math_list.proofs.Places.{last_at, get_front, split-last, held as at-place}
use Rattle.std.proofs.Common.{◌≡◌, ℕ, ◌<◌, ◌≤◌, ◌⊎◌, inl, inr, List, [], ◌∷◌, ◌++◌, length, All, Contains, Option, None, Some, slice_get, slice_index_or, Bool, ap, sym, ◌∙◌, subst, arith, refl}
use Rattle.std.proofs.lemmas.Bool.{cases_lt}
use Rattle.std.proofs.lemmas.Option.{none-some, slice_get_within}
use Rattle.hw_net.specs.declared.netlist.Frame.{Frame}
use Rattle.hw_net.specs.declared.netlist.Net.{Net}
use Rattle.hw_net.specs.declared.netlist.NetOp.{NetOp}
use Rattle.hw_net.specs.declared.netlist.NetOp.TheVariants.{Input, Const, Resize, ShiftUp, ShiftDown, Add, Subtract, Negate, Multiply, And, Or, Xor, Not, Less, Equal, Choose, Slice}
use Rattle.hw_net.specs.declared.netlist.NetKind.{NetKind}
use Rattle.hw_net.specs.declared.netlist.NetKind.TheVariants.{Comb, Reg, EnReg, Acc, Bridge, Unit, Counter}
use Rattle.hw_net.specs.Circuit.{Circuit}
use Rattle.hw_net.specs.Frames.{IsCounter, frame_of, counted_frame, counter_of, CountersDiffer}
use Rattle.hw_net.specs.Netlist.{IsKind, HasBits, HasParts, reads, reads_now}
use Rattle.hw_net.specs.NetRows.{Inputs, Rows, NetShows}
use Rattle.hw_net.specs.Growing.{Extends, Keeps, IsReopened, InRows, Appends, IsAppended, IsCounted, with_net}

-- What later netlists keep.

pub keeps-first : (a b c later : Circuit) → Extends b c → Keeps a c later → Keeps a b later
keeps-first a b c later p keeps = record {
  cycles = keeps.cycles ∙ p.cycles;
  nets = λ k inside.
      let more = longer b c p in
      let same : slice_get c.nets k ≡ slice_get b.nets k = ap (λ (xs : List Net). slice_get xs k) p.nets ∙ get_front b.nets p.added k inside in
      elim (keeps.nets k (omega arith)) [
        | inl kept ↦ inl (kept ∙ same)
        | inr changed ↦ inr changed
      ];
}

pub keeps-last : (a b c later : Circuit) → Extends a b → Keeps a c later → Keeps b c later
keeps-last a b c later p keeps = record {
  cycles = keeps.cycles;
  nets = λ k inside.
      elim (keeps.nets k inside) [
        | inl kept ↦ inl kept
        | inr changed ↦
            let more = longer a b p in
            let is : IsReopened a.nets later.nets k = changed.1 in
            inr (
              omega (arith, changed.0),
              record {
                was = is.was;
                is = is.is;
                old_args = is.old_args;
                new_args = is.new_args;
                there = still-there a b k is.was p is.there;
                later_there = is.later_there;
                old_kind = is.old_kind;
                new_kind = is.new_kind;
                wide = is.wide;
                sign = is.sign;
              },
            )
      ];
}

pub in-rows-first : (a b c : Circuit) (P : ℕ → Rows → Type 0) → Extends b c → InRows a b P → InRows a c P
in-rows-first a b c P p held = record { holds = λ later keeps n inputs rows is. held.holds later (keeps-first a b c later p keeps) n inputs rows is }

pub in-rows-last : (a b c : Circuit) (P : ℕ → Rows → Type 0) → Extends a b → InRows b c P → InRows a c P
in-rows-last a b c P p held = record { holds = λ later keeps n inputs rows is. held.holds later (keeps-last a b c later p keeps) n inputs rows is }

pub in-rows-map : (a b : Circuit) (P Q : ℕ → Rows → Type 0) → InRows a b P → ((n : ℕ) (rows : Rows) → P n rows → Q n rows) → InRows a b Q
in-rows-map a b P Q held gives = record { holds = λ later keeps n inputs rows is. gives n rows (held.holds later keeps n inputs rows is) }

pub in-rows-both : (a b : Circuit) (P Q R : ℕ → Rows → Type 0) → InRows a b P → InRows a b Q → ((n : ℕ) (rows : Rows) → P n rows → Q n rows → R n rows) → InRows a b R
in-rows-both a b P Q R held also gives = record { holds = λ later keeps n inputs rows is. gives n rows (held.holds later keeps n inputs rows is) (also.holds later keeps n inputs rows is) }

pub in-rows-all : (a b : Circuit) (P : ℕ → Rows → Type 0) → ((n : ℕ) (rows : Rows) → P n rows) → InRows a b P
in-rows-all a b P p = record { holds = λ later keeps n inputs rows is. p n rows }

-- a net that was put behind the others shows what its kind says
pub in-rows-one : (net new : Circuit) (one : Net) (number : ℕ) (P : ℕ → Rows → Type 0) → number ≡ length net.nets → new ≡ with_net net one
    → ((n : ℕ) (inputs : Inputs) (rows : Rows) → NetShows net.cycles n inputs rows one.width one.signed one.kind (rows number) → P n rows)
    → InRows net new P
in-rows-one net new one number P at grown shows = record {
  holds = λ later keeps n inputs rows is.
      let size = one-longer net new one grown in
      let last : slice_get new.nets (length net.nets) ≡ Some one = ap (λ (x : Circuit). slice_get x.nets (length net.nets)) grown ∙ last_at net.nets one in
      let there : slice_get later.nets (length net.nets) ≡ Some one =
      elim (keeps.nets (length net.nets) (omega arith)) [
        | inl kept ↦ kept ∙ last
        | inr changed ↦ absurd (omega (arith, changed.0))
      ] in
      let cycles : later.cycles ≡ net.cycles = keeps.cycles ∙ ap (λ (x : Circuit). x.cycles) grown in
      let shown : NetShows later.cycles n inputs rows one.width one.signed one.kind (rows (length net.nets)) = is.shows (length net.nets) one there in
      shows n inputs rows (subst (λ (x : ℕ). NetShows net.cycles n inputs rows one.width one.signed one.kind (rows x)) (sym at)
      (subst (λ (x : ℕ). NetShows x n inputs rows one.width one.signed one.kind (rows (length net.nets))) cycles shown));
}

-- Appended nets.

bits-stay : (a b : Circuit) (args : List ℕ) (high low : ℕ) → Extends a b → All (λ read. read < length a.nets) args → HasBits a.nets args high low → HasBits b.nets args high low
bits-stay a b args high low p there has = record {
  ordered = has.ordered;
  within = λ k read net at is. has.within k read net at (stood-there a b read net p (at-place (λ (x : ℕ). x < length a.nets) args k read there at) is);
}

parts-stay : (a b : Circuit) (inputs : ℕ) (args : List ℕ) (op : NetOp) → Extends a b → All (λ read. read < length a.nets) args → HasParts a.nets inputs args op → HasParts b.nets inputs args op
parts-stay a b inputs args (Input number) p there has = has
parts-stay a b inputs args (Const value) p there has = tt
parts-stay a b inputs args Resize p there has = tt
parts-stay a b inputs args (ShiftUp places) p there has = tt
parts-stay a b inputs args (ShiftDown places) p there has = tt
parts-stay a b inputs args Add p there has = tt
parts-stay a b inputs args Subtract p there has = tt
parts-stay a b inputs args Negate p there has = tt
parts-stay a b inputs args Multiply p there has = tt
parts-stay a b inputs args And p there has = tt
parts-stay a b inputs args Or p there has = tt
parts-stay a b inputs args Xor p there has = tt
parts-stay a b inputs args Not p there has = tt
parts-stay a b inputs args Less p there has = tt
parts-stay a b inputs args Equal p there has = tt
parts-stay a b inputs args Choose p there has = tt
parts-stay a b inputs args (Slice high low) p there has = bits-stay a b args high low p there has

kind-stays : (a b : Circuit) (cycles inputs width : ℕ) (signed : Bool) (kind : NetKind) → Extends a b → All (λ read. read < length a.nets) (reads kind)
    → IsKind a.nets cycles inputs width signed kind → IsKind b.nets cycles inputs width signed kind
kind-stays a b cycles inputs width signed (Comb op args) p there has = (has.0, parts-stay a b inputs args op p there has.1)
kind-stays a b cycles inputs width signed (Reg frame slot first from) p there has = (has.0, word-stays a b from width signed p has.1, has.2)
kind-stays a b cycles inputs width signed (EnReg frame enable reset first from) p there has = (has.0, word-stays a b from width signed p has.1, has.2)
kind-stays a b cycles inputs width signed (Acc frame enable from) p there has = (has.0, word-stays a b from width signed p has.1, has.2)
kind-stays a b cycles inputs width signed (Bridge frame live from) p there has = (has.0, has.1, word-stays a b from width signed p has.2)
kind-stays a b cycles inputs width signed (Unit left right) p there has = record {
  holds = λ one other e f. has.holds one other (stood-there a b left one p (there 0 0 (omega arith)) e) (stood-there a b right other p (there 1 0 (omega arith)) f);
}
kind-stays a b cycles inputs width signed (Counter frame) p there has = has

-- what may be read as named, appended or a Counter may be so in a longer netlist
still-read : (b c : Circuit) (named : List ℕ) (Appended : Type 0) (read : ℕ) → Extends b c
    → Contains named read ⊎ Appended ⊎ IsCounter b.nets read
    → Contains named read ⊎ Appended ⊎ IsCounter c.nets read
still-read b c named Appended read p may =
    elim may [
      | inl names ↦ inl names
      | inr rest ↦ elim rest [
        | inl appended ↦ inr (inl appended)
        | inr counter ↦ inr (inr (is-counter-stays b c read p counter))
      ]
    ]

-- a net that was appended is so in a longer netlist
pub appended-stays : (a b c : Circuit) (named : List ℕ) (k : ℕ) (net : Net) → Extends b c → IsAppended a b named k net → IsAppended a c named k net
appended-stays a b c named k net p is = record {
  word = is.word;
  kind = rw (p.cycles, p.inputs) (kind-stays b c b.cycles (length b.inputs) net.width net.signed net.kind p is.there is.kind);
  there = λ i d within. omega (arith, is.there i d within, longer b c p);
  allowed = λ i d within. let read = slice_index_or (reads net.kind) i d in still-read b c named (length a.nets ≤ read) read p (is.allowed i d within);
  now = λ i d within. let read = slice_index_or (reads_now net.kind) i d in still-read b c named ((length a.nets ≤ read) × (read < k)) read p (is.now i d within);
  counted = λ frame names. counter-stays b c frame p (is.counted frame names);
}

-- what a second call names was named by the first or appended in it
abbrev pub IsNamed : Circuit → Circuit → List ℕ → ℕ → Type 0
IsNamed a b named read = Contains named read ⊎ ((length a.nets ≤ read) × (read < length b.nets))

-- what a second call may read, the two may
wider-read : (a b : Circuit) (named more : List ℕ) (nets : List Net) (Later Own : Type 0) (read : ℕ)
    → (Contains more read → IsNamed a b named read) → ((length a.nets ≤ read) × (read < length b.nets) → Own)
    → (Later → Own)
    → Contains more read ⊎ Later ⊎ IsCounter nets read → Contains named read ⊎ Own ⊎ IsCounter nets read
wider-read a b named more nets Later Own read wider early late may =
    elim may [
      | inl names ↦ elim (wider names) [
        | inl first ↦ inl first
        | inr appended ↦ inr (inl (early appended))
      ]
      | inr rest ↦ elim rest [
        | inl appended ↦ inr (inl (late appended))
        | inr counter ↦ inr (inr counter)
      ]
    ]

pub appended-wider : (a b c : Circuit) (named more : List ℕ) (k : ℕ) (net : Net) → Extends a b → length b.nets ≤ k → ((read : ℕ) → Contains more read → IsNamed a b named read)
    → IsAppended b c more k net → IsAppended a c named k net
appended-wider a b c named more k net p past wider is = record {
  word = is.word;
  kind = is.kind;
  there = is.there;
  allowed = λ i d within.
      let read = slice_index_or (reads net.kind) i d in
      let more_nets = longer a b p in
      wider-read a b named more c.nets (length b.nets ≤ read) (length a.nets ≤ read) read (wider read) (λ early. early.0) (λ late. omega (arith, late, more_nets)) (is.allowed i d within);
  now = λ i d within.
      let read = slice_index_or (reads_now net.kind) i d in
      let more_nets = longer a b p in
      wider-read a b named more c.nets ((length b.nets ≤ read) × (read < k)) ((length a.nets ≤ read) × (read < k)) read (wider read)
      (λ early. (early.0, omega (arith, early.1, past))) (λ late. (omega (arith, late.0, more_nets), late.1)) (is.now i d within);
  counted = is.counted;
}

pub appends-self : (net : Circuit) (named : List ℕ) → Appends net net named
appends-self net named = record {
  extends = extends-self net;
  each = λ k one past there. absurd (omega (arith, slice_get_within net.nets k one there, past));
  differ = λ differ. differ;
}

pub appends-trans : (a b c : Circuit) (named more : List ℕ) → ((read : ℕ) → Contains more read → IsNamed a b named read) → Appends a b named → Appends b c more → Appends a c named
appends-trans a b c named more wider p q = record {
  extends = extends-trans a b c p.extends q.extends;
  each = λ k net past there.
      elim (cases_lt k (length b.nets)) [
        | inl less ↦ appended-stays a b c named k net q.extends (p.each k net past (stood-there b c k net q.extends less there))
        | inr more_nets ↦ appended-wider a b c named more k net p.extends more_nets wider (q.each k net more_nets there)
      ];
  differ = λ differ. q.differ (p.differ differ);
}

pub appends-one : (net new : Circuit) (one : Net) (named : List ℕ) → new ≡ with_net net one → IsAppended net new named (length net.nets) one
    → (CountersDiffer net.nets → CountersDiffer (net.nets ++ one ∷ [])) → Appends net new named
appends-one net new one named grown is differ = record {
  extends = extends-one net new one grown;
  each = λ k other past there.
      elim (split-last net.nets one other k (ap (λ (x : Circuit). slice_get x.nets k) (sym grown) ∙ there)) [
        | inl front ↦ absurd (omega (arith, front.0, past))
        | inr last ↦ subst (IsAppended net new named k) last.1 (subst (λ (i : ℕ). IsAppended net new named i one) (sym last.0) is)
      ];
  differ = λ before. rw (ap (λ (x : Circuit). x.nets) grown) (differ before);
}

-- a Counter that is put in where there is none
pub appends-counter : (a b : Circuit) (named : List ℕ) (frame : Frame) → 0 < frame.period → IsCounted a b frame → Appends a b named
appends-counter a b named frame some is = by (counter_of a.nets frame) refl
  where
    by : (found : Option ℕ) → counter_of a.nets frame ≡ found → Appends a b named
    by (Some k) e = rw (is.stays (rw e refl)) (appends-self a named)
    by None e =
        let added = is.grows e in
        let one : Net = added.net in
        let kind : one.kind ≡ Counter frame = added.counter.kind in
        let grown : b ≡ with_net a one = added.grown in
        let cycles : b.cycles ≡ a.cycles = ap (λ (x : Circuit). x.cycles) grown in
        appends-one a b one named grown (record {
          word = added.counter.word;
          kind = rw (kind, cycles) (some, added.counter.room);
          there = rw kind (λ i d within. absurd (omega arith));
          allowed = rw kind (λ i d within. absurd (omega arith));
          now = rw kind (λ i d within. absurd (omega arith));
          counted = λ other names. absurd (none-some other (ap frame_of (sym kind) ∙ names));
        })
        (differ-counter a.nets one frame (ap counted_frame kind) e)
