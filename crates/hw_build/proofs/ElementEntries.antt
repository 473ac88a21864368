-- Elements that are put in: what holds of them all, by what was put behind the nets.
use Rattle.std.proofs.Common.{◌≡◌, ℕ, ◌+◌, ◌≤◌, ◌⊎◌, inl, inr, true, ℤ, List, [], length, Contains, None, ap, sym, ◌∙◌, subst, refl, arith}
use Rattle.std.specs.Prelude.{◌≢◌, ⊤}
use Rattle.std.proofs.lemmas.Option.{none-some}
use Rattle.fx_type.specs.FxType.{IsType, InRange, is_signed, width_of}
use Rattle.fx_type.specs.declared.kind.FxType.{FxType}
use Rattle.dg_model.specs.declared.diagram.Diagram.{Diagram}
use Rattle.dg_model.specs.declared.diagram.Block.{Block}
use Rattle.dg_model.specs.declared.kind.Kind.{Kind}
use Rattle.dg_model.specs.Attributes.{attributes_of}
use Rattle.dg_model.specs.Wires.{period_into}
use Rattle.hw_net.specs.declared.netlist.Net.{Net}
use Rattle.hw_net.specs.declared.netlist.NetKind.{NetKind}
use Rattle.hw_net.specs.declared.netlist.NetKind.TheVariants.{Comb, Reg, EnReg, Acc, Bridge, Unit, Counter}
use Rattle.hw_net.specs.declared.netlist.NetOp.TheVariants.{Const, Multiply}
use Rattle.hw_net.specs.Circuit.{Circuit}
use Rattle.hw_net.specs.Growing.{with_net}
use Rattle.hw_net.specs.Netlist.{HasWord}
use Rattle.hw_shows.specs.Timing.{Timing}
use Rattle.hw_shows.specs.Series.{AreSame, steady}
use Rattle.hw_build.specs.declared.entry.Entry.{Entry}
use Rattle.hw_build.specs.declared.parts.Word.{Word}
use Rattle.hw_build.specs.inner.Entries.{IsEntryPart, IsOwnMultiply, IsHeldAt, IsMadeBy, PutsEntry, kept_each, keeps_entry, multiply_at}
use Rattle.hw_share.specs.inner.Parts.{Grows}
use Rattle.hw_build.specs.inner.Growth.{InLater}
use Rattle.hw_build.proofs.MoreParts.{comb_grows, grows_then, put_word}
use Rattle.hw_build.proofs.Nets.{constant}
use Rattle.fx_type.proofs.Ranges.{type-word, range-word}
use Rattle.hw_share.proofs.Growth.{grows-self}
use Rattle.hw_share.proofs.OneNet.{put-there}

-- ---- no multiplication

abbrev pub NotMultiply : NetKind → Type 0
NotMultiply (Comb op args) = op ≢ Multiply
NotMultiply (Reg frame slot first from) = ⊤
NotMultiply (EnReg frame enable reset first from) = ⊤
NotMultiply (Acc frame enable from) = ⊤
NotMultiply (Bridge frame live from) = ⊤
NotMultiply (Unit left right) = ⊤
NotMultiply (Counter frame) = ⊤

-- a part of an element that is no multiplication
abbrev pub IsQuiet : Diagram → Timing → ℕ → NetKind → Type 0
IsQuiet diagram timing block kind = IsEntryPart diagram timing block kind × NotMultiply kind

pub quiet_multiply : (diagram : Diagram) (timing : Timing) (block : ℕ) (before after : Circuit) (named : List ℕ)
    (count : ℕ) → Grows before after named (IsQuiet diagram timing block) count → IsOwnMultiply before after None
quiet_multiply diagram timing block before after named count grows = record {
  one = λ k e. absurd (none-some k e);
  no_other = λ k past comb. absurd (subst NotMultiply comb.kind (grows.parts k comb.net past comb.is).1 refl);
}

-- what a call names may be more
pub grows_naming : (before after : Circuit) (named more : List ℕ) (part : NetKind → Type 0) (count : ℕ)
    → ((read : ℕ) → Contains named read → Contains more read) → Grows before after named part count
    → Grows before after more part count
grows_naming before after named more part count names grows =
    subst (Grows before after more part) e (grows_then before before after more named part part 0 count (λ read is. inl (names read is)) (λ kind is. is) (grows-self before more part) grows)
  where
    e : 0 + count ≡ count
    e = omega arith

pub none_named : (more : List ℕ) (read : ℕ) → Contains [] read → Contains more read
none_named more read is = absurd (omega (arith, is.1))

-- ---- an element without a multiplication

module _ (diagram : Diagram) (timing : Timing) (before after : Circuit) (block : ℕ) (b : Block) (port element : ℕ) (operands : List ℕ) (entry : Entry) where
  pub quiet_entry : (kind : Kind) (count : ℕ) → b.kind ≡ kind
      → Grows before after operands (IsQuiet diagram timing block) count → count ≤ kept_each diagram block b
      → entry.multiply ≡ None → multiply_at (length before.nets) kind ≡ None
      → HasWord after.nets entry.net (width_of ((attributes_of diagram).type_at block port))
      (is_signed ((attributes_of diagram).type_at block port))
      → Contains operands entry.net ⊎ (length before.nets ≤ entry.net)
      → (keeps_entry b.enable (period_into diagram (attributes_of diagram) block 1) kind ≡ true
      → IsHeldAt before after entry.net)
      → IsMadeBy diagram timing before after block b port element operands entry
      → PutsEntry diagram timing before after block b port element operands entry
  quiet_entry kind count is grows few none absent word stands held made = record {
    count = count;
    grows = record { appends = grows.appends; parts = λ k net past at. (grows.parts k net past at).0; registers = grows.registers };
    few = few;
    multiply = none ∙ sym absent ∙ ap (multiply_at (length before.nets)) (sym is);
    multiplies = subst (IsOwnMultiply before after) (sym none) (quiet_multiply diagram timing block before after operands count grows);
    word = word;
    stands = stands;
    held = subst (λ (k : Kind). keeps_entry b.enable (period_into diagram (attributes_of diagram) block 1) k ≡ true → IsHeldAt before after entry.net) (sym is) held;
    made = made;
  }

-- a net in the word of a type
pub typed_net : (before after : Circuit) (word : Word) (type : FxType) (kind : NetKind)
    → word ≡ record { signed = is_signed type; width = width_of type }
    → after ≡ with_net before (record { signed = word.signed; width = word.width; kind = kind })
    → after ≡ with_net before (record { signed = is_signed type; width = width_of type; kind = kind })
typed_net before after word type kind is grown = subst (λ (w : Word). after ≡ with_net before (record { signed = w.signed; width = w.width; kind = kind })) is grown

-- ---- a constant

module _ (before after : Circuit) (type : FxType) (value : ℤ) (is_type : IsType type) (range : InRange type value) where
  abbrev pub const_net : Net
  const_net = record { signed = is_signed type; width = width_of type; kind = Comb (Const value) [] }

  module _ (grown : after ≡ with_net before (record { signed = is_signed type; width = width_of type; kind = Comb (Const value) [] })) where
    pub const_grows : (diagram : Diagram) (timing : Timing) (block : ℕ) (operands : List ℕ) → Grows before after operands (IsQuiet diagram timing block) 0
    const_grows diagram timing block operands =
        grows_naming before after [] operands (IsQuiet diagram timing block) 0 (none_named operands)
        (comb_grows before after (Const value) [] (is_signed type) (width_of type)
        (IsQuiet diagram timing block) grown (type-word type is_type) (refl, tt)
        (λ read is. absurd (omega (arith, is.1))) (tt, λ e. cc))

    pub const_word : (number : ℕ) → number ≡ length before.nets → HasWord after.nets number (width_of type) (is_signed type)
    const_word number at = subst (λ (n : ℕ). HasWord after.nets n (width_of type) (is_signed type)) (sym at) (put_word before after const_net grown)

    pub const_shows : (closed hubs number : ℕ) → number ≡ length before.nets → hubs ≤ length before.nets → InLater closed hubs after (λ n rows. AreSame n (rows number) (steady value))
    const_shows closed hubs number at small =
        subst (λ (k : ℕ). InLater closed hubs after (λ n rows. AreSame n (rows k) (steady value))) (sym at)
        (constant closed hubs after (length before.nets) value const_net
        (record { at = put-there before after const_net grown; settled = inr small }) refl
        (type-word type is_type) (range-word type value range))
