-- What is said of a netlist under way is carried to the one that it becomes.
use Rattle.std.proofs.Common.{◌≡◌, ℕ, ◌<◌, ◌≤◌, ◌⊎◌, inl, inr, List, [], length, Some, ap, sym, ◌∙◌, subst, arith, refl}
use Rattle.std.specs.Prelude.{slice_get, get_or, Bool, false}
use Rattle.std.proofs.lemmas.Option.{same_Some, slice_get_within, slice_get-get_or}
use Rattle.hw_net.specs.declared.netlist.Net.{Net}
use Rattle.hw_net.specs.declared.netlist.NetKind.TheVariants.{Comb}
use Rattle.hw_net.specs.declared.netlist.NetOp.TheVariants.{Resize}
use Rattle.hw_net.specs.Circuit.{Circuit}
use Rattle.hw_net.specs.Netlist.{HasWord}
use Rattle.hw_net.specs.NetRows.{Inputs, Rows, NetShows}
use Rattle.hw_net.specs.Growing.{Extends, Keeps, InRows, IsReopened}
use Rattle.math_list.proofs.Places.{get_front}
use Rattle.hw_build.specs.inner.Growth.{GoesOn, InLater}

abbrev no_net : Net
no_net = record { signed = false; width = 0; kind = Comb Resize [] }

-- ---- the relation

pub goes_same : (closed hubs : ℕ) (now : Circuit) → GoesOn closed hubs now now
goes_same closed hubs now = record { cycles = refl; nets = λ k inside. inl refl }

pub goes_appended : (closed hubs : ℕ) (now later : Circuit) → Extends now later → GoesOn closed hubs now later
goes_appended closed hubs now later grown = record {
  cycles = grown.cycles;
  nets = λ k inside. inl (ap (λ (nets : List Net). slice_get nets k) grown.nets ∙ get_front now.nets grown.added k inside);
}

-- of a netlist with fewer nets open
pub goes_narrow : (closed more hubs : ℕ) (now later : Circuit) → closed ≤ more → GoesOn more hubs now later → GoesOn closed hubs now later
goes_narrow closed more hubs now later less goes = record {
  cycles = goes.cycles;
  nets = λ k inside. elim (goes.nets k inside) [
    | inl kept ↦ inl kept
    | inr changed ↦ let low = changed.0 in inr (omega (arith, less, low), changed.1, changed.2)
  ];
}

-- a Resize that gets one argument, and another later
reopened_twice : (a b c : List Net) (k : ℕ) → IsReopened a b k → IsReopened b c k → IsReopened a c k
reopened_twice a b c k one two =
    let same : ◌≡◌ {A = Net} one.is two.was = same_Some one.is two.was (sym one.later_there ∙ two.there) in
    let wide : two.is.width ≡ one.was.width = two.wide ∙ sym (ap (λ (n : Net). n.width) same) ∙ one.wide in
    let sign : two.is.signed ≡ one.was.signed = two.sign ∙ sym (ap (λ (n : Net). n.signed) same) ∙ one.sign in
    record {
      was = one.was;
      is = two.is;
      old_args = one.old_args;
      new_args = two.new_args;
      there =
          one.there;
      later_there = two.later_there;
      old_kind =
          one.old_kind;
      new_kind = two.new_kind;
      wide = wide;
      sign = sign;
    }

-- of the nets that stand at this place
reopened_at : (a b c d : List Net) (k : ℕ) → slice_get c k ≡ slice_get a k → slice_get d k ≡ slice_get b k → IsReopened a b k → IsReopened c d k
reopened_at a b c d k before after is = record {
  was = is.was;
  is = is.is;
  old_args = is.old_args;
  new_args = is.new_args;
  there = before ∙ is.there;
  later_there = after ∙ is.later_there;
  old_kind = is.old_kind;
  new_kind = is.new_kind;
  wide = is.wide;
  sign = is.sign;
}

-- a net that stands stands later, as it was or with another argument
pub still_within : (closed hubs : ℕ) (now later : Circuit) → GoesOn closed hubs now later → (k : ℕ) → k < length now.nets → k < length later.nets
still_within closed hubs now later goes k inside = elim (goes.nets k inside) [
  | inl kept ↦ slice_get_within later.nets k (get_or now.nets k no_net) (kept ∙ slice_get-get_or now.nets k no_net inside)
  | inr changed ↦ slice_get_within later.nets k changed.2.is changed.2.later_there
]

pub goes_then : (closed hubs : ℕ) (a b c : Circuit) → GoesOn closed hubs a b → GoesOn closed hubs b c → GoesOn closed hubs a c
goes_then closed hubs a b c one two = record {
  cycles = two.cycles ∙ one.cycles;
  nets = λ k inside. elim (two.nets k (still_within closed hubs a b one k inside)) [
    | inl kept ↦ elim (one.nets k inside) [
      | inl same ↦ inl (kept ∙ same)
      | inr changed ↦ inr (changed.0, changed.1, reopened_at a.nets b.nets a.nets c.nets k refl kept changed.2)
    ]
    | inr changed ↦ elim (one.nets k inside) [
      | inl same ↦ inr (changed.0, changed.1, reopened_at b.nets c.nets a.nets c.nets k (sym same) refl changed.2)
      | inr before ↦ inr (changed.0, changed.1, reopened_twice a.nets b.nets c.nets k before.2 changed.2)
    ]
  ];
}

-- what a call leaves is kept by each netlist that goes on from there
pub goes_keeps : (closed hubs : ℕ) (before after later : Circuit) → hubs ≤ length before.nets → Extends before after → GoesOn closed hubs after later → Keeps before after later
goes_keeps closed hubs before after later small grown goes = record {
  cycles = goes.cycles;
  nets = λ k inside. elim (goes.nets k inside) [
    | inl kept ↦ inl kept
    | inr changed ↦
        let high = changed.1 in
        let early : k < length before.nets = omega (arith, small, high) in
        let same : slice_get after.nets k ≡ slice_get before.nets k = ap (λ (nets : List Net). slice_get nets k) grown.nets ∙ get_front before.nets grown.added k early in
        inr (early, reopened_at after.nets later.nets before.nets later.nets k (sym same) refl changed.2)
  ];
}

-- ---- facts of rows

-- what a call says of rows
pub in_call : (closed hubs : ℕ) (before after : Circuit) (P : ℕ → Rows → Type 0) → hubs ≤ length before.nets → Extends before after → InRows before after P → InLater closed hubs after P
in_call closed hubs before after P small grown held = record { holds = λ later goes n inputs rows is. held.holds later (goes_keeps closed hubs before after later small grown goes) n inputs rows is }

pub later_on : (closed more hubs : ℕ) (now later : Circuit) (P : ℕ → Rows → Type 0) → closed ≤ more → GoesOn closed hubs now later → InLater closed hubs now P → InLater more hubs later P
later_on closed more hubs now later P less goes held = record {
  holds = λ other onward n inputs rows is. held.holds other (goes_then closed hubs now later other goes (goes_narrow closed more hubs later other less onward)) n inputs rows is;
}

-- ---- facts of nets

-- words stay
pub word_later : (closed hubs : ℕ) (now later : Circuit) (number width : ℕ) (signed : Bool)
    → GoesOn closed hubs now later → HasWord now.nets number width signed → HasWord later.nets number width signed
word_later closed hubs now later number width signed goes word = elim (goes.nets number (slice_get_within now.nets number word.net word.is)) [
  | inl kept ↦ record { net = word.net; is = kept ∙ word.is; wide = word.wide; sign = word.sign }
  | inr changed ↦
      let same : ◌≡◌ {A = Net} changed.2.was word.net = same_Some changed.2.was word.net (sym changed.2.there ∙ word.is) in
      record {
        net = changed.2.is;
        is = changed.2.later_there;
        wide = changed.2.wide ∙ ap (λ (n : Net). n.width) same ∙ word.wide;
        sign = changed.2.sign ∙ ap (λ (n : Net). n.signed) same ∙ word.sign;
      }
]

-- a net that isn't open stays
pub net_later : (closed hubs : ℕ) (now later : Circuit) (number : ℕ) (net : Net) → GoesOn closed hubs now later
    → slice_get now.nets number ≡ Some net → (number < closed) ⊎ (hubs ≤ number)
    → slice_get later.nets number ≡ Some net
net_later closed hubs now later number net goes at settled = elim (goes.nets number (slice_get_within now.nets number net at)) [
  | inl kept ↦ kept ∙ at
  | inr changed ↦
      let low = changed.0 in
      let high = changed.1 in
      elim settled [
        | inl before ↦ absurd (omega (arith, low, before))
        | inr past ↦ absurd (omega (arith, high, past))
      ]
]

-- it shows what its kind says
pub shown_later : (closed hubs : ℕ) (now : Circuit) (number : ℕ) (net : Net) → slice_get now.nets number ≡ Some net → (number < closed) ⊎ (hubs ≤ number)
    → (P : ℕ → Rows → Type 0) → ((n : ℕ) (inputs : Inputs) (rows : Rows) → NetShows now.cycles n inputs rows net.width net.signed net.kind (rows number) → P n rows) → InLater closed hubs now P
shown_later closed hubs now number net at settled P gives = record {
  holds = λ later goes n inputs rows is.
      gives n inputs rows (subst (λ (cycles : ℕ). NetShows cycles n inputs rows net.width net.signed net.kind
      (rows number)) goes.cycles
      (is.shows number net (net_later closed hubs now later number net goes at settled)));
}
