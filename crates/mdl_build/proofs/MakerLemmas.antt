-- The tables that blocks are made by, and the blocks that are made.
use Rattle.std.proofs.Common.{◌≡◌, ◌≢◌, ℕ, zero, suc, ◌+◌, ◌<◌, ◌≤◌, ⊎_elim, Bool, true, false, cond, List, [], ◌∷◌, ◌++◌, length, filter, set, get_or, Option, Some, None, refl, sym, ap, subst, ◌∙◌}
use Rattle.std.proofs.Common.{true≢false, arith}
use Rattle.std.specs.Prelude.{slice_get, is_some}
use Rattle.std.specs.List.{range_with_len, AllZip}
use Rattle.std.specs.Option.{unwrap_or}
use Rattle.std.proofs.lemmas.Bool.{cases_lt, cases_eq}
use Rattle.std.proofs.lemmas.List.{get_or-set_same, get_or-set_other, get_or_default, length-set, length-append}
use Rattle.std.proofs.lemmas.Option.{none-some, same_Some, slice_get_within}
use Rattle.dg_model.specs.declared.fault.RuleFault.{RuleFault}
use Rattle.mdl_text.specs.declared.tree.Item.{Item}
use Rattle.mdl_build.specs.declared.expanding.DrawnBlock.{DrawnBlock}
use Rattle.mdl_build.specs.declared.library.BlockType.{BlockType}
use Rattle.mdl_build.specs.declared.parts.Standing.{Standing}
use Rattle.mdl_build.specs.Blocks.{number_at, has_enable, standing_in}
use Rattle.mdl_build.specs.Nested.{IsDrawnAt}
use Rattle.mdl_build.specs.Roles.{role_of, is_block, blocks_of}
use Rattle.mdl_build.specs.Rules.{IsWrongFirst, AllRead, type_at}
use Rattle.mdl_build.specs.Sections.{holder_of}
use Rattle.mdl_build.specs.inner.ItemFacts.{AreEnabled, AreNumbersTo, AreNumbers, IsWrongAt}
use Rattle.mdl_build.specs.inner.Makers.{AreMade}
use Rattle.mdl_build.proofs.BlockPlaces.{block_of}
use Rattle.mdl_build.proofs.ParameterLemmas.{read_each}
use Rattle.mdl_build.proofs.RoleLemmas.{holder_before}
use Rattle.math_list.proofs.Places.{last_at}

-- ---- numbers by place

module _ (items : List Item) where
  pub numbers_next : (count place : ℕ) (numbers : List ℕ) → slice_get (blocks_of items) count ≡ Some place → AreNumbersTo items count numbers → AreNumbersTo items (count + 1) (set numbers place count)
  numbers_next count place numbers at before = record {
    long = length-set numbers place count ∙ before.long;
    each = λ k other less there.
        let own = block_of items count place at in
        let inside : place < length numbers = omega (arith, own.within, before.long) in
        ⊎_elim
        (λ (below : k < count).
        let apart : other ≢ place = λ same. let e : k ≡ count = sym (block_of items k other there).number_is ∙ ap (number_at items) same ∙ own.number_is in omega (arith, e, below) in
        get_or-set_other numbers place other count 0 apart ∙ before.each k other below there)
        (λ (above : count ≤ k).
        let last : k ≡ count = omega (arith, above, less) in
        let same : other ≡ place = same_Some other place (sym there ∙ ap (slice_get (blocks_of items)) last ∙ at) in
        ap (λ (p : ℕ). get_or (set numbers place count) p 0) same ∙ get_or-set_same numbers place count 0 inside ∙ sym last)
        (cases_lt k count);
  }

  kept_there : (p : ℕ → Bool) (a n place : ℕ) → a ≤ place → place < a + n → p place ≡ true → (k : ℕ) × (slice_get (filter p (range_with_len a n)) k ≡ Some place)
  kept_there p a zero place low high passes = absurd (omega (arith, low, high))
  kept_there p a (suc n) place low high passes = ⊎_elim
      (λ (same : a ≡ place). (0, ap (λ (b : Bool). slice_get (cond b (a ∷ filter p (range_with_len (a + 1) n)) (filter p (range_with_len (a + 1) n))) 0) (ap p same ∙ passes) ∙ ap Some same))
      (λ (other : a ≢ place).
      let less : a + 1 ≤ place = omega (arith, low, other) in
      by (p a) (kept_there p (a + 1) n place less (omega (arith, high)) passes))
      (cases_eq a place)
    where
      by : (b : Bool) → (k : ℕ) × (slice_get (filter p (range_with_len (a + 1) n)) k ≡ Some place)
          → (k : ℕ) × (slice_get (cond b (a ∷ filter p (range_with_len (a + 1) n)) (filter p (range_with_len (a + 1) n))) k ≡ Some place)
      by true h = (suc h.0, h.1)
      by false h = h

  -- a block has a number
  pub numbered : (place : ℕ) → place < length items → is_block (role_of items place) ≡ true → (k : ℕ) × (slice_get (blocks_of items) k ≡ Some place)
  numbered place below counts = kept_there (λ (other : ℕ). is_block (role_of items other)) 0 (length items) place (omega arith) (omega (arith, below)) counts

  pub numbers_all : (count : ℕ) (numbers : List ℕ) → length (blocks_of items) ≤ count → AreNumbersTo items count numbers → AreNumbers items numbers
  numbers_all count numbers all to = record {
    long = to.long;
    each = λ place below counts.
        let h = numbered place below counts in
        to.each h.0 place (omega (arith, slice_get_within (blocks_of items) h.0 place h.1, all)) h.1 ∙ sym (block_of items h.0 place h.1).number_is;
  }

-- ---- where a block stands

standing_is : (items : List Item) (parent found : Option ℕ) (system : ℕ) (b : Bool) → is_some parent ≡ true
    → found ≡ Some system → has_enable items system ≡ b
    → standing_in items parent found ≡ cond b Standing.Enabled Standing.Plain
standing_is items None found system b e there is = absurd (true≢false (sym e))
standing_is items (Some parent) found system b e there is =
    ap (standing_in items (Some parent)) there ∙ ap (λ (c : Bool). cond c Standing.Enabled Standing.Plain) is

-- by what is read of the System that holds it
pub standing_read : (items : List Item) (place : ℕ) (parent : Option ℕ) (system : ℕ) (enabled : List Bool)
    (own b : Bool) → is_some parent ≡ true → holder_of items place ≡ Some system → place < length items
    → AreEnabled items (blocks_of items) enabled → own ≡ get_or enabled system own → own ≡ b
    → standing_in items parent (holder_of items place) ≡ cond b Standing.Enabled Standing.Plain
standing_read items place parent system enabled own b inner there within are read is =
    let before = holder_before items place system there in
    let below : system < length items = omega (arith, before, within) in
    let inside : system < length enabled = omega (arith, below, are.long) in
    standing_is items parent (holder_of items place) system b inner there (sym (read ∙ get_or_default enabled system own false inside ∙ are.each system below) ∙ is)

-- ---- the name of a block

pub some_text : (found : Option (List ℕ)) (text : List ℕ) → is_some found ≡ true → text ≡ unwrap_or found [] → found ≡ Some text
some_text None text e is = absurd (true≢false (sym e))
some_text (Some other) text e is = ap Some (sym is)

-- ---- blocks that are made

push_before : {X : Type 0} (xs : List X) (y : X) (k : ℕ) (x : X) → slice_get xs k ≡ Some x → slice_get (xs ++ y ∷ []) k ≡ Some x
push_before [] y k x at = absurd (none-some x at)
push_before (z ∷ zs) y zero x at = at
push_before (z ∷ zs) y (suc k) x at = push_before zs y k x at

module _ (items : List Item) where
  pub none_made : AreMade items 0 []
  none_made = record { long = refl; each = λ k place less there. absurd (omega (arith, less)) }

  pub made_next : (count place : ℕ) (blocks : List DrawnBlock) (block : DrawnBlock)
      → slice_get (blocks_of items) count ≡ Some place → AreMade items count blocks → IsDrawnAt items place block
      → AreMade items (count + 1) (blocks ++ block ∷ [])
  made_next count place blocks block at before is = record {
    long = length-append blocks (block ∷ []) ∙ ap (λ (n : ℕ). n + 1) before.long;
    each = λ k other less there.
        ⊎_elim
        (λ (below : k < count). let h = before.each k other below there in (h.0, push_before blocks block k h.0 h.1, h.2))
        (λ (above : count ≤ k).
        let last : k ≡ count = omega (arith, above, less) in
        let same : place ≡ other = same_Some place other (sym at ∙ ap (slice_get (blocks_of items)) (sym last) ∙ there) in
        let end : length blocks ≡ k = before.long ∙ sym last in
        (block, subst (λ (n : ℕ). slice_get (blocks ++ block ∷ []) n ≡ Some block) end (last_at blocks block), subst (λ (p : ℕ). IsDrawnAt items p block) same is))
        (cases_lt k count);
  }

  -- one that can't be made is the first with a wrong parameter
  pub wrong_first : (count place : ℕ) (block_type : BlockType) (blocks : List DrawnBlock) (fault : RuleFault)
      → slice_get (blocks_of items) count ≡ Some place → type_at items place ≡ Some block_type
      → AreMade items count blocks
      → IsWrongAt items block_type place fault → IsWrongFirst items fault
  wrong_first count place block_type blocks fault at typed before wrong = record {
    number = count;
    place = place;
    there = at;
    before = λ k other kind less there is.
        let h = before.each k other less there in
        let made = h.2.block in
        let own : made.block_type ≡ kind = same_Some made.block_type kind (sym made.type_is ∙ is) in
        subst (λ (t : BlockType). AllRead items t other) own (read_each items made.block_type other made.settings made.has);
    block_type = block_type;
    type_is = typed;
    name = wrong.name;
    wrong = wrong.wrong;
    fault_is = wrong.fault_is;
  }

pub zipped : {X Y : Type 0} (R : X → Y → Type 0) (xs : List X) (ys : List Y) → length ys ≡ length xs
    → ((k : ℕ) (x : X) → slice_get xs k ≡ Some x → (y : Y) × (slice_get ys k ≡ Some y) × R x y) → AllZip R xs ys
zipped R [] [] long each = tt
zipped R [] (y ∷ ys) long each = absurd (omega (arith, long))
zipped R (x ∷ xs) [] long each = absurd (omega (arith, long))
zipped {X} {Y} R (x ∷ xs) (y ∷ ys) long each =
    let h = each 0 x refl in
    (subst (R x) (sym (same_Some y h.0 h.1)) h.2, zipped R xs ys (omega (arith, long)) (λ k z there. each (suc k) z there))

pub made_all : (items : List Item) (count : ℕ) (blocks : List DrawnBlock) → count ≡ length (blocks_of items) → AreMade items count blocks → AllZip (IsDrawnAt items) (blocks_of items) blocks
made_all items count blocks all made = zipped (IsDrawnAt items) (blocks_of items) blocks (made.long ∙ all)
    (λ k place there. made.each k place (omega (arith, slice_get_within (blocks_of items) k place there, all)) there)
