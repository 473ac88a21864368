-- A netlist without the nets that nothing reaches stands in the place of what it was made from.
use Rattle.std.proofs.Common.{◌≡◌, ℕ, zero, suc, ◌+◌, ◌-◌, ◌*◌, ◌%◌, ◌<◌, Bool, List, [], ◌∷◌, map, Contains, Some, slice_get, refl, ap, sym, ◌∙◌, subst, arith, ℤ, ◌+ℤ◌, ◌*ℤ◌}
use Rattle.std.proofs.Math.Nat.{mod-le}
use Rattle.math_num.specs.Word.{InWord, IsWrapped}
use Rattle.hw_net.specs.declared.netlist.NetPort.{NetPort}
use Rattle.hw_net.specs.declared.netlist.NetKind.{NetKind}
use Rattle.hw_net.specs.declared.netlist.NetKind.TheVariants.{Comb, Reg, EnReg, Acc, Bridge, Unit, Counter}
use Rattle.hw_net.specs.Circuit.{Circuit}
use Rattle.hw_net.specs.Netlist.{IsNetlist, reads}
use Rattle.hw_net.specs.NetRows.{Inputs, Rows, NetRows, NetShows, RowsAreOne, RowsAreThere, number_at, operands_at, span_of}
use Rattle.hw_net.specs.Operation.{Operands, given_by}
use Rattle.hw_net.specs.Products.{Product, products_of}
use Rattle.hw_net.specs.Registers.{Wave}
use Rattle.hw_refine.specs.Drops.{Drops, DropsRefine, IsKept}
use Rattle.hw_refine.specs.Redirects.{redirected}
use Rattle.hw_refine.specs.Refines.{Agree, Reflects, Refines}
use Rattle.math_list.proofs.Elements.{stands}
use Rattle.math_list.proofs.Zips.{zip-length, zip-weaker}

-- what a net of old numbers shows in one function's rows, it shows by its new numbers in another's
module _ (place : ℕ → ℕ) (n : ℕ) (whole rows : Rows) where
  abbrev Same : ℕ → Type 0
  Same a = Agree n whole rows a (place a)

  number-over : (c : ℕ) → c < n → (args : List ℕ) → ((i a : ℕ) → slice_get args i ≡ Some a → Same a) → (i : ℕ)
      → number_at (λ net. whole net c) (slice_get args i)
      ≡ number_at (λ net. rows net c) (slice_get (map place args) i)
  number-over c below [] same i = refl
  number-over c below (x ∷ args) same zero = same 0 x refl c below
  number-over c below (x ∷ args) same (suc i) = number-over c below args (λ j a is. same (suc j) a is) i

  operands-over : (c : ℕ) → c < n → (args : List ℕ) → ((i a : ℕ) → slice_get args i ≡ Some a → Same a) → operands_at (λ net. whole net c) args ≡ operands_at (λ net. rows net c) (map place args)
  operands-over c below args same = (let a = number-over c below args same 0 in let b =
      number-over c below args same 1 in let d =
      number-over c below args same 2 in λ i. record { first = a i; second = b i; third = d i })

  shows-over : (cycles : ℕ) (inputs : Inputs) (w : ℕ) (s : Bool) (kind : NetKind) (wave : Wave)
      → ((a : ℕ) → Contains (reads kind) a → Same a) → NetShows cycles n inputs whole w s kind wave
      → NetShows cycles n inputs rows w s (redirected place kind) wave
  shows-over cycles inputs w s (Comb op args) wave same h =
      λ c below. subst (λ (o : Operands). IsWrapped (given_by op (λ number. inputs number c) o) w s (wave c))
      (operands-over c below args (λ i a is. same a (stands args i a is))) (h c below)
  shows-over cycles inputs w s (Reg frame slot first from) wave same h = record {
    begins = h.begins;
    takes = λ c below t. h.takes c below t ∙ same from (0, omega arith, refl) c (omega (arith, below));
    keeps = h.keeps;
  }
  shows-over cycles inputs w s (EnReg frame enable reset first from) wave same h = record {
    begins = h.begins;
    takes = λ c below t on. h.takes c below t (λ e. on (sym (same enable (0, omega arith, refl) c (omega (arith, below))) ∙ e)) ∙ same from (1, omega arith, refl) c (omega (arith, below));
    resets = λ c below t off r. h.resets c below t (same enable (0, omega arith, refl) c (omega (arith, below)) ∙ off) r;
    stays = λ c below t off r. h.stays c below t (same enable (0, omega arith, refl) c (omega (arith, below)) ∙ off) r;
    keeps = h.keeps;
  }
  shows-over cycles inputs w s (Acc frame enable from) wave same h = record {
    begins = h.begins;
    clears = h.clears;
    adds = λ c below t on. subst (λ (v : ℤ). IsWrapped (wave c +ℤ v) w s (wave (c + 1))) (same from (1, omega arith, refl) c (omega (arith, below)))
        (h.adds c below t (λ e. on (sym (same enable (0, omega arith, refl) c (omega (arith, below))) ∙ e)));
    keeps = λ c below t off. h.keeps c below t (same enable (0, omega arith, refl) c (omega (arith, below)) ∙ off);
  }
  shows-over cycles inputs w s (Bridge frame live from) wave same h = record {
    before = λ c below early. h.before c below early ∙ same from (0, omega arith, refl) c below;
    passes = λ c below late within. h.passes c below late within ∙ same from (0, omega arith, refl) c below;
    holds = λ c below late past.
        let span = span_of cycles frame in
        let r = mod-le (c - span.start) span.length in
        h.holds c below late past ∙ same from (0, omega arith, refl) (c - (c - span.start) % span.length + live * cycles - 1) (omega (arith, below, late, past, r));
  }
  shows-over cycles inputs w s (Unit left right) wave same h =
      λ c below. h c below ∙ (let a = same left (0, omega arith, refl) c below in let b =
      same right (1, omega arith, refl) c below in λ i. a i *ℤ b i)
  shows-over cycles inputs w s (Counter frame) wave same h = h

module _ (there : RowsAreThere) (one : RowsAreOne) {old new : Circuit} {place back : ℕ → ℕ} (was_runs : IsNetlist old) (runs : IsNetlist new) (d : Drops old new place back) where
  module _ (n : ℕ) (inputs : Inputs) (rows : Rows) (are : NetRows new n inputs rows) where
    abbrev whole : Rows
    whole = (there old n inputs was_runs).rows

    abbrev pulled : Rows
    pulled k c = whole (back k) c

    pulled-are : NetRows new n inputs pulled
    pulled-are = record {
      shows = λ k is at.
          let x = d.nets k is at in
          let full = (there old n inputs was_runs).are in
          let h = full.shows (back k) x.was x.there in
          let same : (a : ℕ) → Contains (reads x.was.kind) a → Agree n whole pulled a (place a) = λ a c clock below. ap (λ (j : ℕ). whole j clock) (sym (x.reads_kept a c)) in
          let a = subst (λ (cycles : ℕ). NetShows cycles n inputs whole x.was.width x.was.signed x.was.kind (whole (back k))) (sym d.cycles) h in
          let b = shows-over place n whole pulled new.cycles inputs x.was.width x.was.signed x.was.kind (whole (back k)) same a in
          let e = subst (λ (w : ℕ). NetShows new.cycles n inputs pulled w x.was.signed (redirected place x.was.kind) (whole (back k))) (sym x.wide) b in
          let f = subst (λ (s : Bool). NetShows new.cycles n inputs pulled is.width s (redirected place x.was.kind) (whole (back k))) (sym x.sign) e in
          subst (λ (kind : NetKind). NetShows new.cycles n inputs pulled is.width is.signed kind (whole (back k))) (sym x.kind) f;
      in_word = λ k is at c below.
          let x = d.nets k is at in
          let h = (there old n inputs was_runs).are.in_word (back k) x.was x.there c below in
          subst (λ (s : Bool). InWord is.width s (whole (back k) c)) (sym x.sign) (subst (λ (w : ℕ). InWord w x.was.signed (whole (back k) c)) (sym x.wide) h);
    }

    kept-agrees : (was is : ℕ) → IsKept new place back was is → Agree n whole rows was is
    kept-agrees was is kept c below = ap (λ (j : ℕ). whole j c) (sym kept.back_again) ∙ one new n inputs pulled rows runs pulled-are are is c kept.there below

    reflects : Reflects old new place n inputs rows
    reflects = record {
      before = whole;
      are = (there old n inputs was_runs).are;
      outputs = zip-weaker (λ (was is : NetPort). IsKept new place back was.net is.net)
          (λ (was is : NetPort). Agree n whole rows was.net is.net)
          (λ was is k. kept-agrees was.net is.net k) old.outputs new.outputs d.outputs_kept;
      factors = zip-weaker (λ (was is : Product). IsKept new place back was.left is.left
          × IsKept new place back was.right is.right)
          (λ (was is : Product). Agree n whole rows was.left is.left × Agree n whole rows was.right is.right)
          (λ was is k. (kept-agrees was.left is.left k.0, kept-agrees was.right is.right k.1)) (products_of old) (products_of new) d.factors_kept;
      labels = λ label at. kept-agrees label.net (place label.net) (d.labels_kept label at);
    }

  pub refines : Refines old new
  refines = record {
    cycles = d.cycles;
    inputs = d.inputs;
    outputs = d.outputs;
    products = sym (zip-length (λ (was is : Product). IsKept new place back was.left is.left × IsKept new place back was.right is.right) (products_of old) (products_of new) d.factors_kept);
    few = d.few;
    place = place;
    labels = d.labels;
    rows = reflects;
  }

pub drops : DropsRefine
drops old new place back there one was_runs runs d = refines there one was_runs runs d
