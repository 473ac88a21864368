-- Elements of blocks that show what they are offered.
use Rattle.std.proofs.Common.{◌≡◌, ℕ, suc, ◌+◌, ◌-◌, ◌<◌, inl, true, false, not, List, [], ◌∷◌, length, map, sum, Contains, Option, None, Some, ap, sym, ◌∙◌, subst, refl, arith}
use Rattle.std.specs.Prelude.{slice_index_or}
use Rattle.std.proofs.lemmas.Bool.{false≢true, not-true}
use Rattle.std.proofs.lemmas.List.Elements.{Contains-get_or}
use Rattle.fx_type.specs.declared.kind.FxType.{FxType}
use Rattle.fx_type.specs.FxType.{is_signed, width_of}
use Rattle.math_list.specs.Numbers.{numbers_from}
use Rattle.dg_model.specs.declared.diagram.Diagram.{Diagram}
use Rattle.dg_model.specs.declared.diagram.Block.{Block}
use Rattle.dg_model.specs.declared.kind.Kind.{Kind}
use Rattle.dg_model.specs.declared.kind.Kind.TheVariants.{Inport, Delay, Mux, Demux, RateTransition}
use Rattle.dg_model.specs.Attributes.{attributes_of}
use Rattle.dg_model.specs.Wires.{period_into}
use Rattle.hw_net.specs.Circuit.{Circuit}
use Rattle.hw_net.specs.Netlist.{HasWord}
use Rattle.hw_lower.specs.Lowered.{AreArgs}
use Rattle.hw_sched.specs.Storage.{keeps_own}
use Rattle.hw_shows.specs.Timing.{Timing}
use Rattle.hw_build.specs.Places.{Places}
use Rattle.hw_build.specs.declared.entry.Entry.{Entry}
use Rattle.hw_build.specs.inner.Entries.{AreOffered, HasFirst, PutsEntry, enable_types, hands_on, keeps_entry, multiply_at, operand_types}
use Rattle.hw_build.proofs.ElementEntries.{IsQuiet, quiet_entry}
use Rattle.hw_build.proofs.StateEntries.{first_operand}
use Rattle.hw_build.proofs.ElementKinds.{IsMadeLater, delay_on_line, made_kind}
use Rattle.hw_share.proofs.Growth.{grows-self}

-- a Delay whose line has its registers
pub free_is : (enable driver : Option ℕ) → not (keeps_own enable driver) ≡ true → (enable ≡ None) × (source : ℕ) × (driver ≡ Some source)
free_is (Some control) driver hands = absurd (false≢true hands)
free_is None None hands = absurd (false≢true hands)
free_is None (Some source) hands = (refl, source, refl)

hands_types : (diagram : Diagram) (block : ℕ) (b : Block) (port : ℕ) (kind : Kind)
    → hands_on b.enable (period_into diagram (attributes_of diagram) block 1) kind ≡ true
    → operand_types diagram (attributes_of diagram) block b port kind
    ≡ (attributes_of diagram).type_at block port ∷ []
hands_types diagram block b port (Inport number width) hands = refl
hands_types diagram block b port (Delay delay initial reset) hands =
    ap (λ (e : Option ℕ). (attributes_of diagram).type_at block port ∷ enable_types (attributes_of diagram) e)
    (free_is b.enable (period_into diagram (attributes_of diagram) block 1) hands).0
hands_types diagram block b port (Mux sizes) hands = refl
hands_types diagram block b port (Demux sizes) hands = refl
hands_types diagram block b port (RateTransition period initial) hands = refl
hands_types diagram block b port _ hands = absurd (false≢true hands)

hands_multiply : (first : ℕ) (enable driver : Option ℕ) (kind : Kind) → hands_on enable driver kind ≡ true → multiply_at first kind ≡ None
hands_multiply first enable driver (Inport number width) hands = refl
hands_multiply first enable driver (Delay delay initial reset) hands = refl
hands_multiply first enable driver (Mux sizes) hands = refl
hands_multiply first enable driver (Demux sizes) hands = refl
hands_multiply first enable driver (RateTransition period initial) hands = refl
hands_multiply first enable driver _ hands = absurd (false≢true hands)

hands_keeps : (enable driver : Option ℕ) (kind : Kind) → hands_on enable driver kind ≡ true → keeps_entry enable driver kind ≡ false
hands_keeps enable driver (Inport number width) hands = refl
hands_keeps enable driver (Delay delay initial reset) hands = not-true (keeps_own enable driver) hands
hands_keeps enable driver (Mux sizes) hands = refl
hands_keeps enable driver (Demux sizes) hands = refl
hands_keeps enable driver (RateTransition period initial) hands = refl
hands_keeps enable driver _ hands = absurd (false≢true hands)

module _ (diagram : Diagram) (timing : Timing) (places : Places) (closed hubs : ℕ) (now : Circuit) (block : ℕ)
    (b : Block) (port element first : ℕ) (operands : List ℕ) (head : slice_index_or operands 0 0 ≡ first)
    (same : places.entry block port element ≡ first) where
  handed_made : (kind : Kind) → hands_on b.enable (period_into diagram (attributes_of diagram) block 1) kind ≡ true
      → AreOffered diagram places block b port element kind operands
      → HasFirst diagram block element kind (places.first block element)
      → IsMadeLater diagram timing places closed hubs now block b port element kind
  handed_made (Inport number width) hands offered has =
      let e : places.entry block port element ≡ places.input number element = same ∙ sym head ∙ ap (λ (l : List ℕ). slice_index_or l 0 0) offered in
      record { holds = λ later goes n inputs rows are. record { at = λ c below. ap (λ (k : ℕ). rows k c) e } }
  handed_made (Delay delay initial reset) hands offered has =
      let e : places.entry block port element ≡ places.offered block 1 element = same ∙ sym head ∙ ap (λ (l : List ℕ). slice_index_or l 0 0) offered in
      let free = free_is b.enable (period_into diagram (attributes_of diagram) block 1) hands in
      delay_on_line diagram timing places closed hubs now block b port element delay free.1 initial reset free.0 free.2 e has
  handed_made (Mux sizes) hands offered has =
      let e : places.entry block port element ≡ places.offered block (suc offered.signal) offered.place = same ∙ sym head ∙ ap (λ (l : List ℕ). slice_index_or l 0 0) offered.is in
      record { holds = λ later goes n inputs rows are. record { signal = offered.signal; place = offered.place; part = offered.part; same = record { at = λ c below. ap (λ (k : ℕ). rows k c) e } } }
  handed_made (Demux sizes) hands offered has =
      let e : places.entry block port element
      ≡ places.offered block 1 (sum (map ((attributes_of diagram).width_at block) (numbers_from 1 (port - 1)))
      + element) = same ∙ sym head ∙ ap (λ (l : List ℕ). slice_index_or l 0 0) offered in
      record { holds = λ later goes n inputs rows are. record { at = λ c below. ap (λ (k : ℕ). rows k c) e } }
  handed_made (RateTransition period initial) hands offered has =
      let e : places.entry block port element ≡ places.offered block 1 element = same ∙ sym head ∙ ap (λ (l : List ℕ). slice_index_or l 0 0) offered in
      record { holds = λ later goes n inputs rows are. (has, record { at = λ c below. ap (λ (k : ℕ). rows k c) e }) }
  handed_made _ hands offered has = absurd (false≢true hands)

-- an element that is what is offered
pub handed_entry : (diagram : Diagram) (timing : Timing) (net : Circuit) (block : ℕ) (b : Block) (port element : ℕ)
    (operands : List ℕ) (entry : Entry)
    → hands_on b.enable (period_into diagram (attributes_of diagram) block 1) b.kind ≡ true
    → AreArgs net (operand_types diagram (attributes_of diagram) block b port b.kind) operands
    → entry.net ≡ slice_index_or operands 0 0 → entry.multiply ≡ None
    → PutsEntry diagram timing net net block b port element operands entry
handed_entry diagram timing net block b port element operands entry hands args head none =
    let own : AreArgs net ((attributes_of diagram).type_at block port ∷ []) operands =
    subst (λ (types : List FxType). AreArgs net types operands)
    (hands_types diagram block b port b.kind hands) args in
    let count = own.count in
    quiet_entry diagram timing net net block b port element operands entry b.kind 0 refl (grows-self net operands (IsQuiet diagram timing block)) (omega arith) none
    (hands_multiply (length net.nets) b.enable (period_into diagram (attributes_of diagram) block 1) b.kind hands)
    (subst (λ (n : ℕ). HasWord net.nets n (width_of ((attributes_of diagram).type_at block port))
    (is_signed ((attributes_of diagram).type_at block port))) (sym head)
    (first_operand net ((attributes_of diagram).type_at block port) [] operands own))
    (inl (subst (Contains operands) (sym head) (Contains-get_or operands 0 0 (omega (arith, count)))))
    (λ keeps. absurd (false≢true (sym (hands_keeps b.enable (period_into diagram (attributes_of diagram) block 1) b.kind hands) ∙ keeps)))
    (λ closed hubs places small cycles offered at first slot.
    made_kind diagram timing places closed hubs net block b port element b.kind refl
    (handed_made diagram timing places closed hubs net block b port element entry.net operands
    (sym head) at.net b.kind hands offered first))

-- there is one
pub one_there : (diagram : Diagram) (net : Circuit) (block : ℕ) (b : Block) (port : ℕ) (operands : List ℕ)
    → hands_on b.enable (period_into diagram (attributes_of diagram) block 1) b.kind ≡ true
    → AreArgs net (operand_types diagram (attributes_of diagram) block b port b.kind) operands
    → 0 < length operands
one_there diagram net block b port operands hands args =
    let own : AreArgs net ((attributes_of diagram).type_at block port ∷ []) operands =
    subst (λ (types : List FxType). AreArgs net types operands)
    (hands_types diagram block b port b.kind hands) args in
    let count = own.count in
    omega (arith, count)
