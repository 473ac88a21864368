-- What the tables say of the rule of wiring.
use Rattle.std.proofs.Common.{◌≡◌, ℕ, ◌<◌, ◌≤◌, Bool, true, false, ◌&&◌, ◌||◌, eqb, not, IsSome, List, length, min, get_or, Option, Some, None, refl, sym, ap, subst, ◌∙◌, inl, inr, arith}
use Rattle.std.specs.Prelude.{slice_get}
use Rattle.std.specs.List.{list_any, position, position_or_len, Any}
use Rattle.std.specs.Option.{is_some}
use Rattle.std.proofs.lemmas.Bool.{cases_lt, eq-eqb, eqb-true, false_from_ne_true, true≢false, false≢true, lt-ltb, or_parts, or_cases, and_parts}
use Rattle.std.proofs.lemmas.Bool.Decides.{nat_tests}
use Rattle.std.proofs.lemmas.List.Folds.{list_any_at, Any-from_list_any}
use Rattle.std.proofs.lemmas.List.Quantifiers.{position-Some}
use Rattle.std.proofs.lemmas.List.Sums.{position_or_len_is}
use Rattle.std.proofs.lemmas.Option.{slice_get-get_or, get_or_from_slice_get, none-some}
use Rattle.dg_model.specs.declared.nested.Nested.{Nested}
use Rattle.dg_model.specs.declared.nested.NestedBlock.{NestedBlock}
use Rattle.dg_model.specs.declared.nested.NestedLine.{NestedLine}
use Rattle.dg_model.specs.declared.nested.Target.{Target}
use Rattle.dg_model.specs.declared.nested.Target.TheVariants.{Port, Enable as ToEnable}
use Rattle.dg_flat.specs.declared.numbering.Side.{Side}
use Rattle.dg_flat.specs.Parts.{inputs_of, outputs_of, enable_port, same_system, is_number, count_in, first_in}
use Rattle.dg_flat.specs.Rules.{HasEnd, KeepsWiring, IsNumbered, drivers, is_port}
use Rattle.dg_flat.specs.inner.PortNumbers.{number_on, count_at, numbered_at, IsNumberedAt}
use Rattle.dg_flat.specs.inner.Ports.{inputs_at, outputs_at, is_past, is_lacking, lacks_output, lacks_input, lacks_end, port_drivers}
use Rattle.dg_flat.specs.inner.Slots.{slot_of}
use Rattle.dg_flat.specs.inner.Tables.{HasCell, IsTable, IsRowTable, cell_at}
use Rattle.dg_flat.specs.inner.Verdict.{MeetsPorts}
use Rattle.dg_flat.proofs.PortReads.{inputs_is, outputs_is}
use Rattle.dg_flat.proofs.Firsts.{slot_back, same_system_eq, same_self}

-- ---- tests

and_here : (a b : Bool) → a ≡ true → (a && b) ≡ false → b ≡ false
and_here true b here is = is
and_here false b here is = absurd (true≢false (sym here))

any_none : {X : Type 0} (p : X → Bool) (xs : List X) → list_any p xs ≡ false → (k : ℕ) (d : X) → k < length xs → p (get_or xs k d) ≡ false
any_none p xs none k d inside = false_from_ne_true (p (get_or xs k d)) (λ t. true≢false (sym (list_any_at p xs k d inside t) ∙ none))

past_no : (number count : ℕ) → is_past number count ≡ false → (1 ≤ number) × (number ≤ count)
past_no number count is = grind (arith, nat_tests)

past_yes : (number count : ℕ) → is_past number count ≡ true → (1 ≤ number) × (number ≤ count) → ⊥
past_yes number count is has = grind (arith, nat_tests)

-- ---- ports

end_no : (blocks : List NestedBlock) (place : ℕ) (block : NestedBlock) (target : Target)
    → slice_get blocks place ≡ Some block → lacks_end blocks place target ≡ false
    → HasEnd blocks place block.part target
end_no blocks place block (Port port) at is = rw (inputs_is blocks place block at) at (past_no port (inputs_at blocks place) is)
end_no blocks place block ToEnable at is = go (enable_port blocks (Some place)) is where
  go : (o : Option ℕ) → not (is_some o) ≡ false → IsSome o
  go None none = absurd (true≢false none)
  go (Some port) some = refl

end_yes : (blocks : List NestedBlock) (place : ℕ) (block : NestedBlock) (target : Target)
    → slice_get blocks place ≡ Some block → lacks_end blocks place target ≡ true
    → HasEnd blocks place block.part target → ⊥
end_yes blocks place block (Port port) at is has = past_yes port (inputs_at blocks place) is (rw (sym (inputs_is blocks place block at)) at has)
end_yes blocks place block ToEnable at is has = go (enable_port blocks (Some place)) is has where
  go : (o : Option ℕ) → not (is_some o) ≡ true → IsSome o → ⊥
  go None none some = false≢true some
  go (Some port) some has = absurd (true≢false (sym some))

abbrev meets_none : List NestedBlock → ℕ → NestedLine → Bool
meets_none blocks place line = (eqb line.from place && lacks_output blocks line) || (eqb line.to place && lacks_input blocks line)

outputs_from : (blocks : List NestedBlock) (place : ℕ) (block : NestedBlock) (line : NestedLine) → slice_get blocks place ≡ Some block → line.from ≡ place →
    lacks_output blocks line ≡ is_past line.from_port (outputs_of blocks place block.part)
outputs_from blocks place block line at from = ap (λ (n : ℕ). is_past line.from_port n) (ap (outputs_at blocks) from ∙ outputs_is blocks place block at)

pub meets : (nested : Nested) (place : ℕ) (block : NestedBlock) → slice_get nested.blocks place ≡ Some block → is_lacking nested.blocks nested.lines place ≡ false → MeetsPorts nested place block
meets nested place block at none = record {
  leaving = λ k d inside from.
      let line : NestedLine = get_or nested.lines k d in
      let parts = or_parts (eqb line.from place && lacks_output nested.blocks line)
      (eqb line.to place && lacks_input nested.blocks line)
      (any_none (meets_none nested.blocks place) nested.lines none k d inside) in
      let not = and_here (eqb line.from place) (lacks_output nested.blocks line) (eq-eqb line.from place from) parts.0 in
      past_no line.from_port (outputs_of nested.blocks place block.part) (sym (outputs_from nested.blocks place block line at from) ∙ not);
  ending = λ k d inside to.
      let line : NestedLine = get_or nested.lines k d in
      let parts = or_parts (eqb line.from place && lacks_output nested.blocks line)
      (eqb line.to place && lacks_input nested.blocks line)
      (any_none (meets_none nested.blocks place) nested.lines none k d inside) in
      let has : lacks_end nested.blocks line.to line.target ≡ false = and_here (eqb line.to place) (lacks_input nested.blocks line) (eq-eqb line.to place to) parts.1 in
      end_no nested.blocks place block line.target at (ap (λ (p : ℕ). lacks_end nested.blocks p line.target) (sym to) ∙ has);
}

pub meets_not : (nested : Nested) (place : ℕ) (block : NestedBlock) → slice_get nested.blocks place ≡ Some block
    → is_lacking nested.blocks nested.lines place ≡ true → MeetsPorts nested place block → ⊥
meets_not nested place block at some meets = go (Any-from_list_any (meets_none nested.blocks place) nested.lines some) where
  go : Any (λ line. meets_none nested.blocks place line ≡ true) nested.lines → ⊥
  go (k, line, inside, there, hit) =
      elim (or_cases (eqb line.from place && lacks_output nested.blocks line) (eqb line.to place && lacks_input nested.blocks line) hit) [
        | inl e ↦
            let both = and_parts (eqb line.from place) (lacks_output nested.blocks line) e in
            let from = eqb-true line.from place both.0 in
            let has : (1 ≤ line.from_port) × (line.from_port ≤ outputs_of nested.blocks place block.part) =
            subst (λ (l : NestedLine). l.from ≡ place → (1 ≤ l.from_port) × (l.from_port ≤ outputs_of nested.blocks place block.part)) there (meets.leaving k line inside) from in
            past_yes line.from_port (outputs_of nested.blocks place block.part) (sym (outputs_from nested.blocks place block line at from) ∙ both.1) has
        | inr e ↦
            let both = and_parts (eqb line.to place) (lacks_input nested.blocks line) e in
            let to = eqb-true line.to place both.0 in
            let has : HasEnd nested.blocks place block.part line.target =
            subst (λ (l : NestedLine). l.to ≡ place → HasEnd nested.blocks place block.part l.target) there (meets.ending k line inside) to in
            end_yes nested.blocks place block line.target at (ap (λ (p : ℕ). lacks_end nested.blocks p line.target) (sym to) ∙ both.1) has
      ]

-- ---- drivers

pub one_of_two : (n : ℕ) → min 2 n ≡ 1 → n ≡ 1
one_of_two n is = omega (arith, is)

pub two_of_one : (n : ℕ) → n ≡ 1 → min 2 n ≡ 1
two_of_one n is = rw is refl

cell_has : (blocks : List NestedBlock) (place port : ℕ) (block : NestedBlock) (lengths : List ℕ)
    → IsTable (length blocks) (inputs_at blocks) lengths → place < length blocks
    → slice_get blocks place ≡ Some block →
    1 ≤ port → port ≤ inputs_of blocks place block.part → HasCell lengths place port
cell_has blocks place port block lengths are inside at above within = record {
  there = omega (arith, are.size, inside);
  above = above;
  within = omega (arith, within, are.at place 0 inside ∙ inputs_is blocks place block at);
}

pub all_driven : (nested : Nested) (place : ℕ) (block : NestedBlock) (lengths table : List ℕ)
    → IsTable (length nested.blocks) (inputs_at nested.blocks) lengths
    → IsRowTable lengths (port_drivers nested.lines) table →
    place < length nested.blocks → slice_get nested.blocks place ≡ Some block →
    ((port : ℕ) → HasCell lengths place port → get_or table (cell_at lengths place port) 0 ≡ 1) →
    (port : ℕ) → 1 ≤ port → port ≤ inputs_of nested.blocks place block.part → drivers nested.lines place (is_port port) ≡ 1
all_driven nested place block lengths table are is inside at each port above within =
    let has = cell_has nested.blocks place port block lengths are inside at above within in
    one_of_two (drivers nested.lines place (is_port port)) (sym (is.at place port 0 has) ∙ each port has)

pub not_driven : (nested : Nested) (place port : ℕ) (block : NestedBlock) (lengths table : List ℕ)
    → IsTable (length nested.blocks) (inputs_at nested.blocks) lengths
    → IsRowTable lengths (port_drivers nested.lines) table →
    place < length nested.blocks → slice_get nested.blocks place ≡ Some block → HasCell lengths place port → (get_or table (cell_at lengths place port) 0 ≡ 1 → ⊥) →
    KeepsWiring nested place block → ⊥
not_driven nested place port block lengths table are is inside at has not keeps =
    let within : port ≤ inputs_of nested.blocks place block.part = omega (arith, has.within, are.at place 0 inside ∙ inputs_is nested.blocks place block at) in
    not (is.at place port 0 has ∙ two_of_one (drivers nested.lines place (is_port port)) (keeps.driven port has.above within))

-- ---- numbers

pub numbered_unique : (blocks : List NestedBlock) (side : Side) (slot number : ℕ) (found other : Option ℕ)
    → IsNumberedAt blocks side slot number found → IsNumberedAt blocks side slot number other → found ≡ other
numbered_unique blocks side slot number found other is its =
    elim (cases_lt number 1) [
      | inl below ↦ is.none (λ has. absurd (omega (arith, has.0, below))) ∙ sym (its.none (λ has. absurd (omega (arith, has.0, below))))
      | inr above ↦
          elim (cases_lt (count_at blocks side slot) number) [
            | inl past ↦ is.none (λ has. absurd (omega (arith, has.1, past))) ∙ sym (its.none (λ has. absurd (omega (arith, has.1, past))))
            | inr within ↦ is.within above within ∙ sym (its.within above within)
          ]
    ]

count_back : (blocks : List NestedBlock) (side : Side) (system : Option ℕ) → count_at blocks side (slot_of system) ≡ count_in blocks system (λ part. is_some (number_on side part))
count_back blocks side system = ap (λ (s : Option ℕ). count_in blocks s (λ part. is_some (number_on side part))) (slot_back system)

numbered_back : (blocks : List NestedBlock) (side : Side) (system : Option ℕ) (number : ℕ)
    → numbered_at blocks side (slot_of system) number
    ≡ first_in blocks system (λ part. is_number number (number_on side part))
numbered_back blocks side system number = ap (λ (s : Option ℕ). first_in blocks s (λ part. is_number number (number_on side part))) (slot_back system)

abbrev pub has_this : Side → Option ℕ → ℕ → NestedBlock → Bool
has_this side system number block = same_system block.parent system && is_number number (number_on side block.part)

pub passes : (side : Side) (system : Option ℕ) (number : ℕ) (block : NestedBlock) → block.parent ≡ system → number_on side block.part ≡ Some number → has_this side system number block ≡ true
passes side system number block held its =
    ap (λ (s : Option ℕ). same_system s system && is_number number (number_on side block.part)) held
    ∙ ap (λ (b : Bool). b && is_number number (number_on side block.part)) (same_self system)
    ∙ ap (λ (o : Option ℕ). is_number number o) its ∙ eq-eqb number number refl

is_number_yes : (number : ℕ) (o : Option ℕ) → is_number number o ≡ true → o ≡ Some number
is_number_yes number None is = absurd (true≢false (sym is))
is_number_yes number (Some own) is = ap (λ (n : ℕ). Some n) (eqb-true own number is)

pub passed : (side : Side) (system : Option ℕ) (number : ℕ) (block : NestedBlock) → has_this side system number block ≡ true → (block.parent ≡ system) × (number_on side block.part ≡ Some number)
passed side system number block is =
    let both = and_parts (same_system block.parent system) (is_number number (number_on side block.part)) is in
    (same_system_eq block.parent system both.0, is_number_yes number (number_on side block.part) both.1)

-- a port that is found at its own place is rightly numbered
pub numbered_yes : (blocks : List NestedBlock) (side : Side) (place number : ℕ) (block : NestedBlock) → IsNumberedAt blocks side (slot_of block.parent) number (Some place) →
    IsNumbered blocks place block.parent (number_on side) number
numbered_yes blocks side place number block is =
    elim (cases_lt number 1) [
      | inl below ↦ absurd (none-some place (sym (is.none (λ has. absurd (omega (arith, has.0, below))))))
      | inr above ↦
          elim (cases_lt (count_at blocks side (slot_of block.parent)) number) [
            | inl past ↦ absurd (none-some place (sym (is.none (λ has. absurd (omega (arith, has.1, past))))))
            | inr within ↦
                let found = sym (is.within above within ∙ numbered_back blocks side block.parent number) in
                record {
                  above = above;
                  within = omega (arith, within, count_back blocks side block.parent);
                  first = λ other b before there same its.
                      let known = position-Some (has_this side block.parent number) blocks place b found in
                      let read : get_or blocks other b ≡ b = get_or_from_slice_get blocks other b b there in
                      true≢false (sym (ap (has_this side block.parent number) read ∙ passes side block.parent number b same its) ∙ known.2 other before);
                }
          ]
    ]

-- and one that is rightly numbered is found at its own place
pub numbered_no : (blocks : List NestedBlock) (side : Side) (place number : ℕ) (block : NestedBlock)
    → slice_get blocks place ≡ Some block → place < length blocks → number_on side block.part ≡ Some number →
    IsNumbered blocks place block.parent (number_on side) number → IsNumberedAt blocks side (slot_of block.parent) number (Some place)
numbered_no blocks side place number block at inside its is =
    let test = has_this side block.parent number in
    let read : get_or blocks place block ≡ block = get_or_from_slice_get blocks place block block at in
    let first : position_or_len test blocks ≡ place = position_or_len_is test blocks place block (omega (arith, inside))
    (λ k before. false_from_ne_true (test (get_or blocks k block)) (λ yes.
    let own = passed side block.parent number (get_or blocks k block) yes in
    is.first k (get_or blocks k block) before (slice_get-get_or blocks k block (omega (arith, before, inside))) own.0 own.1))
    (λ there. ap test read ∙ passes side block.parent number block refl its) in
    record {
      within = λ above within. sym (numbered_back blocks side block.parent number ∙ found test first);
      none = λ not. absurd (not (is.above, omega (arith, is.within, count_back blocks side block.parent)));
    } where
      found : (test : NestedBlock → Bool) → position_or_len test blocks ≡ place → position test blocks ≡ Some place
      found test first = rw (first, lt-ltb place (length blocks) inside) refl
