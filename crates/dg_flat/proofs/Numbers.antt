-- The first port of each number in each System, as one more block comes.
use Rattle.std.proofs.Common.{◌≡◌, ℕ, ◌<◌, Bool, true, false, cond, ◌&&◌, List, [], ◌∷◌, ◌++◌, length, set, get_or, Option, Some, None, refl, sym, ap, subst, ◌∙◌, inl, inr, arith}
use Rattle.std.proofs.lemmas.Bool.{cases_eq, eq-eqb, ne_eqb}
use Rattle.dg_model.specs.declared.nested.NestedBlock.{NestedBlock}
use Rattle.dg_flat.specs.declared.numbering.Numbering.{Numbering}
use Rattle.dg_flat.specs.declared.numbering.Side.{Side}
use Rattle.dg_flat.specs.Parts.{same_system, is_number}
use Rattle.dg_flat.specs.inner.Slots.{slot_of, system_of, first_of}
use Rattle.dg_flat.specs.inner.Tables.{HasCell, IsRowTable, cell_at}
use Rattle.dg_flat.specs.inner.PortNumbers.{number_on, count_at, numbered_at, IsNumbering, IsNumberedAt}
use Rattle.dg_flat.proofs.Cells.{rows_set, rows_same}
use Rattle.math_list.proofs.Tests.{and_false}
use Rattle.dg_flat.proofs.Firsts.{position_push, same_at, other_at, first_none}

-- whether the block is such a port
abbrev is_port_at : Side → ℕ → ℕ → NestedBlock → Bool
is_port_at side row n block = same_system block.parent (system_of row) && is_number n (number_on side block.part)

port_apart : (side : Side) (row n number : ℕ) (block : NestedBlock) → number_on side block.part ≡ Some number → ((row ≡ slot_of block.parent) × (n ≡ number) → ⊥) → is_port_at side row n block ≡ false
port_apart side row n number block is apart =
    let same = same_system block.parent (system_of row) in
    elim (cases_eq row (slot_of block.parent)) [
      | inl e ↦
          let differs : is_number n (Some number) ≡ false = ne_eqb number n (λ s. apart (e, sym s)) in
          ap (λ (o : Option ℕ). same && is_number n o) is ∙ ap (λ (v : Bool). same && v) differs ∙ and_false same
      | inr ne ↦ ap (λ (v : Bool). v && is_number n (number_on side block.part)) (other_at block.parent row ne)
    ]

port_here : (side : Side) (number : ℕ) (block : NestedBlock) → number_on side block.part ≡ Some number → is_port_at side (slot_of block.parent) number block ≡ true
port_here side number block is =
    let own : is_number number (Some number) ≡ true = eq-eqb number number refl in
    ap (λ (v : Bool). v && is_number number (number_on side block.part)) (same_at block.parent)
    ∙ ap (λ (o : Option ℕ). is_number number o) is ∙ own

step : (done : List NestedBlock) (block : NestedBlock) (side : Side) (row n : ℕ) (b : Bool) → is_port_at side row n block ≡ b →
    numbered_at (done ++ block ∷ []) side row n ≡ first_of (numbered_at done side row n) (cond b (Some (length done)) None)
step done block side row n b e =
    position_push (is_port_at side row n) done block ∙ ap (λ (v : Bool). first_of (numbered_at done side row n) (cond v (Some (length done)) None)) e

kept : (done : List NestedBlock) (block : NestedBlock) (side : Side) (row n : ℕ) → is_port_at side row n block ≡ false → numbered_at done side row n ≡ numbered_at (done ++ block ∷ []) side row n
kept done block side row n e = sym (step done block side row n false e ∙ first_none (numbered_at done side row n))

pub numbered_more : (done : List NestedBlock) (block : NestedBlock) (side : Side) (lengths : List ℕ)
    (number place slot cell : ℕ) (ports : List (Option ℕ)) → length done ≡ place → slot ≡ slot_of block.parent →
    number_on side block.part ≡ Some number → HasCell lengths slot number → cell ≡ cell_at lengths slot number →
    IsRowTable lengths (numbered_at done side) ports → IsRowTable lengths (numbered_at (done ++ block ∷ []) side) (set ports cell (first_of (get_or ports cell None) (Some place)))
numbered_more done block side lengths number place slot cell ports long slot_is number_is has cell_is is =
    rw (sym long, cell_is) (
    rows_set lengths (numbered_at done side) (numbered_at (done ++ block ∷ []) side) ports slot number (first_of (get_or ports (cell_at lengths slot number) None) (Some (length done))) has
    (ap (λ (o : Option ℕ). first_of o (Some (length done))) (is.at slot number None has)
    ∙ sym (step done block side slot number true (ap (λ (k : ℕ). is_port_at side k number block) slot_is ∙ port_here side number block number_is)))
    (λ r n its apart. kept done block side r n (port_apart side r n number block number_is (λ same. apart (same.0 ∙ sym slot_is, same.1))))
    is)

pub numbered_past : (done : List NestedBlock) (block : NestedBlock) (side : Side) (lengths : List ℕ) (number slot : ℕ) (ports : List (Option ℕ)) → slot ≡ slot_of block.parent →
    number_on side block.part ≡ Some number → ¬ HasCell lengths slot number →
    IsRowTable lengths (numbered_at done side) ports → IsRowTable lengths (numbered_at (done ++ block ∷ []) side) ports
numbered_past done block side lengths number slot ports slot_is number_is past is =
    rows_same lengths (numbered_at done side) (numbered_at (done ++ block ∷ []) side) ports
    (λ r n its. kept done block side r n (port_apart side r n number block number_is
    (λ same. past (subst (λ (k : ℕ). HasCell lengths k number) (same.0 ∙ sym slot_is) (subst (λ (k : ℕ). HasCell lengths r k) same.1 its)))))
    is

pub numbered_none : (done : List NestedBlock) (block : NestedBlock) (side : Side) (lengths : List ℕ) (ports : List (Option ℕ)) → number_on side block.part ≡ None →
    IsRowTable lengths (numbered_at done side) ports → IsRowTable lengths (numbered_at (done ++ block ∷ []) side) ports
numbered_none done block side lengths ports none is =
    rows_same lengths (numbered_at done side) (numbered_at (done ++ block ∷ []) side) ports
    (λ r n its. kept done block side r n (ap (λ (o : Option ℕ). same_system block.parent (system_of r) && is_number n o) none ∙ and_false (same_system block.parent (system_of r))))
    is

-- ---- what is found

count_is : (blocks : List NestedBlock) (side : Side) (numbering : Numbering) (slot : ℕ)
    → IsNumbering blocks side numbering → slot < length numbering.rows.lengths.items
    → get_or numbering.rows.lengths.items slot 0 ≡ count_at blocks side slot
count_is blocks side numbering slot is there = is.counts.at slot 0 (omega (arith, is.counts.size, there))

pub found_at : (blocks : List NestedBlock) (side : Side) (numbering : Numbering) (slot number : ℕ)
    (found : Option ℕ) → IsNumbering blocks side numbering → HasCell numbering.rows.lengths.items slot number →
    found ≡ get_or numbering.ports.items (cell_at numbering.rows.lengths.items slot number) found → IsNumberedAt blocks side slot number found
found_at blocks side numbering slot number found is has read = record {
  within = λ above within. read ∙ is.ports.at slot number found has;
  none = λ not. absurd (not (has.above, omega (arith, has.within, count_is blocks side numbering slot is has.there)));
}

pub not_found : (blocks : List NestedBlock) (side : Side) (numbering : Numbering) (slot number : ℕ)
    → IsNumbering blocks side numbering → slot < length numbering.rows.lengths.items
    → ¬ HasCell numbering.rows.lengths.items slot number →
    IsNumberedAt blocks side slot number None
not_found blocks side numbering slot number is there not = record {
  within = λ above within. absurd (not (record { there = there; above = above; within = omega (arith, within, count_is blocks side numbering slot is there) }));
  none = λ past. refl;
}
