-- The operations of shared blocks, gathered block by block, are such as can share multipliers.
use Rattle.std.proofs.Common.{◌≡◌, ℕ, ◌+◌, ◌<◌, ◌≤◌, inl, inr, true, List, [], ◌∷◌, ◌++◌, length, Option, Some, ap, sym, ◌∙◌, subst, refl, arith, length-append}
use Rattle.std.specs.Prelude.{slice_get}
use Rattle.std.proofs.lemmas.Bool.{cases_lt, and_parts}
use Rattle.std.proofs.lemmas.Option.{same_Some, slice_get_within}
use Rattle.fx_round.specs.Laws.{StoringGivesOne}
use Rattle.fx_type.specs.declared.kind.FxType.{FxType}
use Rattle.fx_type.specs.FxType.{IsType, is_signed, width_of}
use Rattle.fx_type.specs.FullType.{IsFullProduct}
use Rattle.dg_model.specs.declared.diagram.Diagram.{Diagram}
use Rattle.dg_model.specs.declared.diagram.Block.{Block}
use Rattle.dg_model.specs.declared.resolved.Resolved.{Resolved}
use Rattle.dg_model.specs.Attributes.{attributes_of}
use Rattle.dg_model.specs.Checked.{IsChecked}
use Rattle.dg_model.specs.KindRow.{FullRule}
use Rattle.dg_model.specs.Library.{row_of}
use Rattle.dg_model.specs.Readable.{HasPorts, IsReadable}
use Rattle.dg_model.specs.Wires.{type_into}
use Rattle.dg_tables.specs.Laws.{IsOrdered, OperationsPrepare, TypesAreValid}
use Rattle.hw_latency.specs.Shared.{is_shared, multiplies, multiplies_if, shares}
use Rattle.hw_net.specs.Circuit.{Circuit}
use Rattle.hw_net.specs.Growing.{Extends}
use Rattle.hw_net.specs.Netlist.{HasWord}
use Rattle.hw_net.proofs.Growth.{word-stays, extends-self}
use Rattle.math_list.proofs.Places.{last_at, get_front, split-last, held, get_some}
use Rattle.hw_sched.specs.Laws.{IsOperation}
use Rattle.hw_sched.specs.Slots.{Timing as Times, Operation as Shared, right_type, right_of, shared_operations}
use Rattle.hw_share.specs.declared.operation.Operation.{Operation}
use Rattle.hw_build.specs.inner.Factors.{AddsConstants, OffersWords, IsSecond, IsGathered, GathersMore, AreFirsts, if_shared, constant_net}
use Rattle.hw_build.specs.inner.Owed.{IsMade, AreMade}
use Rattle.hw_build.specs.inner.ResultNets.{first_operation}
use Rattle.hw_build.proofs.Constants.{adds_none, adds_then, coefficient_stays}
use Rattle.hw_build.proofs.FullTypes.{full_is_there, second_is_valid}
use Rattle.hw_build.proofs.OperationNumbers.{operations_in_all}
use Rattle.hw_build.proofs.Operations.{of_shared}
use Rattle.hw_build.proofs.Multipliers.{is_product, multiplies_input, product_inputs}

-- ---- what was gathered stays

second_stays : (diagram : Diagram) (offered : ℕ → ℕ → ℕ → ℕ) (a b c d : Circuit) (block element number : ℕ)
    (rule : FullRule) → Extends a b → Extends c d → IsSecond diagram offered b c block element rule number
    → IsSecond diagram offered a d block element rule number
second_stays diagram offered a b c d block element number FullRule.NoFull before after is = is
second_stays diagram offered a b c d block element number (FullRule.FullSum negative accum) before after is = is
second_stays diagram offered a b c d block element number (FullRule.FullScaled value spec) before after is =
    coefficient_stays a b c d value element ((attributes_of diagram).param_at block) number before after is
second_stays diagram offered a b c d block element number FullRule.FullProduct before after is = is
second_stays diagram offered a b c d block element number FullRule.UnionOfTwo before after is = is
second_stays diagram offered a b c d block element number FullRule.UnionOfEnds before after is = is

module _ (diagram : Diagram) (plan : Resolved) (times : Times) (offered : ℕ → ℕ → ℕ → ℕ) where
  gathered_stays : (a b c d : Circuit) (number : ℕ) (o : Shared) (one : Operation) → Extends a b → Extends c d
      → IsGathered diagram plan times offered b c number o one
      → IsGathered diagram plan times offered a d number o one
  gathered_stays a b c d number o one before after is = record {
    frame = is.frame;
    slot = is.slot;
    unit = is.unit;
    left = is.left;
    right = λ block at. second_stays diagram offered a b c d o.block o.element one.right (row_of block.kind).types.full before after (is.right block at);
  }

  pub gathers_none : (net : Circuit) (old : List Operation) (count : ℕ) → length old ≡ count → GathersMore diagram plan times offered net net old old count 0
  gathers_none net old count size = record {
    adds = adds_none net;
    size = omega (arith, size);
    kept = λ k below. refl;
    each = λ k o one past is at. let inside = slice_get_within old k one at in absurd (omega (arith, past, inside, size));
  }

  pub gathers_one : (a b : Circuit) (old : List Operation) (count : ℕ) (o : Shared) (one : Operation)
      → length old ≡ count → IsOperation diagram (attributes_of diagram) plan count o → AddsConstants a b
      → IsGathered diagram plan times offered a b count o one
      → GathersMore diagram plan times offered a b old (old ++ one ∷ []) count 1
  gathers_one a b old count o one size is adds gathered = record {
    adds = adds;
    size = let e = length-append old (one ∷ []) in omega (arith, e, size);
    kept = λ k below. get_front old (one ∷ []) k (omega (arith, below, size));
    each = λ k other found past there at. elim (split-last old one found k at) [
      | inl front ↦ let inside = front.0 in absurd (omega (arith, inside, past, size))
      | inr last ↦
          let place : count ≡ k = let e = last.0 in omega (arith, e, size) in
          let same : ◌≡◌ {A = Shared} o other = same_Some o other (sym is ∙ ap (slice_get (shared_operations diagram (attributes_of diagram) plan)) place ∙ there) in
          subst (λ (x : Operation). IsGathered diagram plan times offered a b k other x) last.1
          (subst (λ (x : Shared). IsGathered diagram plan times offered a b k x one) same
          (subst (λ (n : ℕ). IsGathered diagram plan times offered a b n o one) place gathered))
    ];
  }

  pub gathers_then : (a b c : Circuit) (old mid new : List Operation) (count more rest : ℕ)
      → GathersMore diagram plan times offered a b old mid count more
      → GathersMore diagram plan times offered b c mid new (count + more) rest
      → GathersMore diagram plan times offered a c old new count (more + rest)
  gathers_then a b c old mid new count more rest p q = record {
    adds = adds_then a b c p.adds q.adds;
    size = let e = q.size in omega (arith, e);
    kept = λ k below. q.kept k (omega (arith, below)) ∙ p.kept k below;
    each = λ k o one past is at. elim (cases_lt k (count + more)) [
      | inl less ↦ gathered_stays a a b c k o one (extends-self a) q.adds.appends.extends (p.each k o one past is (sym (q.kept k less) ∙ at))
      | inr beyond ↦ gathered_stays a b c c k o one p.adds.appends.extends (extends-self c) (q.each k o one beyond is at)
    ];
  }

-- ---- the first operations of blocks

pub firsts_none : (diagram : Diagram) (plan : Resolved) → AreFirsts diagram plan [] 0
firsts_none diagram plan = record { size = refl; each = λ block below. absurd (omega (arith, below)) }

pub firsts_more : (diagram : Diagram) (plan : Resolved) (firsts : List (Option ℕ)) (count : ℕ) (first : Option ℕ)
    → AreFirsts diagram plan firsts count → first
    ≡ if_shared (is_shared diagram (attributes_of diagram) plan count) (first_operation diagram plan count)
    → AreFirsts diagram plan (firsts ++ first ∷ []) (count + 1)
firsts_more diagram plan firsts count first are is = record {
  size = let e = length-append firsts (first ∷ []) in let size = are.size in omega (arith, e, size);
  each = λ block below. elim (cases_lt block count) [
    | inl less ↦ let size = are.size in get_front firsts (first ∷ []) block (omega (arith, less, size)) ∙ are.each block less
    | inr past ↦
        let size = are.size in
        let place : block ≡ length firsts = omega (arith, below, past, size) in
        let same : count ≡ block = omega (arith, below, past) in
        ap (slice_get (firsts ++ first ∷ [])) place ∙ last_at firsts first ∙ ap Some is
        ∙ ap (λ (n : ℕ). Some (if_shared (is_shared diagram (attributes_of diagram) plan n) (first_operation diagram plan n))) same
  ];
}

-- ---- blocks that multiply

-- a shared block multiplies
pub shared_multiplies : (diagram : Diagram) (plan : Resolved) (block : ℕ) (b : Block)
    → slice_get diagram.blocks block ≡ Some b → is_shared diagram (attributes_of diagram) plan block ≡ true
    → (row_of b.kind).hardware.multiplies ≡ true
shared_multiplies diagram plan block b at shared = ap multiplies_if (sym at) ∙ (and_parts (multiplies diagram block) (shares plan ((attributes_of diagram).period_at block)) shared).0

-- ---- the words of their operands

module _ (diagram : Diagram) (checked : IsChecked diagram) (plan : Resolved) (offered : ℕ → ℕ → ℕ → ℕ)
    (before after : Circuit) (words : OffersWords diagram plan offered before) (grown : Extends before after)
    (block : ℕ) (b : Block) (element number : ℕ) (at : slice_get diagram.blocks block ≡ Some b)
    (shared : is_shared diagram (attributes_of diagram) plan block ≡ true)
    (below : element < (attributes_of diagram).width_at block 1)
  where
    ports : HasPorts b.kind b.inputs b.outputs
    ports = (held IsReadable diagram.blocks block b checked.wired.blocks at).ports

    pub left_word : HasWord after.nets (offered block 1 element) (width_of (type_into diagram (attributes_of diagram) block 1)) (is_signed (type_into diagram (attributes_of diagram) block 1))
    left_word = word-stays before after (offered block 1 element) _ _ grown
        (words.each block b 1 element at shared (omega arith)
        (multiplies_input b.kind b.inputs b.outputs ports (shared_multiplies diagram plan block b at shared))
        below)

    right_by : (rule : FullRule) → (is_product rule ≡ true → 2 ≤ b.inputs) → IsSecond diagram offered before after block element rule number
        → HasWord after.nets number (width_of (right_type diagram (attributes_of diagram) block rule)) (is_signed (right_type diagram (attributes_of diagram) block rule))
    right_by FullRule.NoFull two second = absurd second
    right_by (FullRule.FullSum negative accum) two second = absurd second
    right_by (FullRule.FullScaled value spec) two second = record { net = constant_net ((attributes_of diagram).param_at block) second.value; is = second.is; wide = refl; sign = refl }
    right_by FullRule.FullProduct two second =
        subst (λ (n : ℕ). HasWord after.nets n (width_of (type_into diagram (attributes_of diagram) block 2)) (is_signed (type_into diagram (attributes_of diagram) block 2))) (sym second)
        (word-stays before after (offered block 2 element) _ _ grown (words.each block b 2 element at shared (omega arith) (two refl) below))
    right_by FullRule.UnionOfTwo two second = absurd second
    right_by FullRule.UnionOfEnds two second = absurd second

    pub right_word : IsSecond diagram offered before after block element (row_of b.kind).types.full number
        → HasWord after.nets number (width_of (right_of diagram (attributes_of diagram) block (Some b))) (is_signed (right_of diagram (attributes_of diagram) block (Some b)))
    right_word second = right_by (row_of b.kind).types.full (product_inputs b.kind b.inputs b.outputs ports) second

-- so operations can share multipliers
module _ (storing : StoringGivesOne) (prepare : OperationsPrepare) (valid : TypesAreValid) (diagram : Diagram)
    (order : List ℕ) (ordered : IsOrdered diagram order) (plan : Resolved) (times : Times) (offered : ℕ → ℕ → ℕ → ℕ)
    (before after : Circuit) (words : OffersWords diagram plan offered before) (operations : List Operation)
    (gathered : GathersMore diagram plan times offered before after [] operations 0 (first_operation diagram plan (length diagram.blocks)))
  where
    one_made : (number : ℕ) (o : Shared) (one : Operation)
        → IsOperation diagram (attributes_of diagram) plan number o → slice_get operations number ≡ Some one
        → IsMade diagram plan times after number o one
    one_made number o one is at =
        let g = gathered.each number o one (omega arith) is at in
        let of = of_shared diagram (attributes_of diagram) plan number o is in
        let b = get_some diagram.blocks o.block of.there in
        let grown = gathered.adds.appends.extends in
        let second = g.right b.0 b.1 in
        let right : ◌≡◌ {A = FxType} (right_of diagram (attributes_of diagram) o.block (Some b.0))
        (right_of diagram (attributes_of diagram) o.block (slice_get diagram.blocks o.block)) =
        ap (right_of diagram (attributes_of diagram) o.block) (sym b.1) in
        let multiplies = shared_multiplies diagram plan o.block b.0 b.1 of.shared in
        let full = full_is_there storing prepare valid diagram order ordered o.block b.0 b.1 multiplies in
        record {
          frame = g.frame;
          slot = g.slot;
          unit = g.unit;
          left = subst (λ (n : ℕ). HasWord after.nets n (width_of (type_into diagram (attributes_of diagram) o.block 1)) (is_signed (type_into diagram (attributes_of diagram) o.block 1))) (sym g.left)
              (left_word diagram ordered.checked plan offered before after words grown o.block b.0 o.element one.right b.1 of.shared of.element);
          right = subst (λ (t : FxType). HasWord after.nets one.right (width_of t) (is_signed t)) right
              (right_word diagram ordered.checked plan offered before after words grown o.block b.0 o.element
              one.right b.1 of.shared of.element second);
          left_type = (valid diagram order o.block b.0 ordered b.1).2 1;
          right_type = subst IsType right (second_is_valid storing prepare valid diagram order ordered o.block b.0 b.1 multiplies);
          full = full.0;
          is_full = subst (λ (t : FxType). IsFullProduct (type_into diagram (attributes_of diagram) o.block 1) t full.0) right full.1;
        }

    pub are_made : AreMade diagram plan times after operations
    are_made = record {
      size = let size = gathered.size in let all = operations_in_all diagram plan in omega (arith, size, all);
      each = one_made;
    }
