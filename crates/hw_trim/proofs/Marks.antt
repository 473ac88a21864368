-- Marks that are put one after another.
use Rattle.std.proofs.Common.{◌≡◌, ◌≢◌, ℕ, zero, suc, ◌+◌, ◌<◌, inl, inr, Bool, true, false, if◌then◌else◌, List, [], ◌∷◌, ◌++◌, length, All, set, slice_index, slice_index_or, replicate, refl, ap}
use Rattle.std.proofs.Common.{sym, ◌∙◌, arith, length-append, length-set}
use Rattle.std.proofs.lemmas.Bool.{cases_lt, cases_eq}
use Rattle.std.proofs.lemmas.List.{get_or-set_same, get_or-set_other, get_or_append_left}
use Rattle.std.proofs.lemmas.Option.{slice_get_within}
use Rattle.std.proofs.Math.Seq.{get_or-append_seam}
use Rattle.hw_net.specs.declared.netlist.Net.{Net}
use Rattle.hw_net.specs.declared.netlist.NetKind.{NetKind}
use Rattle.hw_net.specs.declared.netlist.NetLabel.{NetLabel}
use Rattle.hw_net.specs.declared.netlist.NetPort.{NetPort}
use Rattle.hw_net.specs.Circuit.{Circuit}
use Rattle.hw_net.specs.Emittable.{IsEmittable}
use Rattle.hw_net.specs.Netlist.{IsNetlist, reads}
use Rattle.math_list.proofs.Elements.{stands, all-at, all-from}
use Rattle.hw_trim.specs.inner.Marks.{is_marked, unmarked, IsMarking, Marks, IsServed}

unmarked-set : (marks : List Bool) (k : ℕ) → k < length marks → is_marked marks k ≡ false → unmarked (set marks k true) + 1 ≡ unmarked marks
unmarked-set [] k inside absent = absurd (omega (arith, inside))
unmarked-set (mark ∷ marks) zero inside absent = (let e = ap (λ (b : Bool). (if b then 0 else 1) + unmarked marks) absent in omega (arith, e))
unmarked-set (mark ∷ marks) (suc k) inside absent = (let rest = unmarked-set marks k (omega (arith, inside)) absent in omega (arith, rest))

pub marks-none : (marks : List Bool) (order : List ℕ) → IsMarking marks order → Marks marks marks order order
marks-none marks order marking = record { size = refl; kept = λ k h. h; longer = omega arith; same = λ i h. refl; marking = marking }

pub marks-trans : (a b c : List Bool) (x y z : List ℕ) → Marks a b x y → Marks b c y z → Marks a c x z
marks-trans a b c x y z p q = record {
  size = q.size ∙ p.size;
  kept = λ k h. q.kept k (p.kept k h);
  longer = (let one = p.longer in let two = q.longer in omega (arith, one, two));
  same = λ i h. (let one = p.longer in q.same i (omega (arith, h, one)) ∙ p.same i h);
  marking = q.marking;
}

module _ (marks : List Bool) (order : List ℕ) (k : ℕ) (inside : k < length marks) (marking : IsMarking marks order) (absent : is_marked marks k ≡ false) where
  abbrev later : List Bool
  later = set marks k true

  abbrev longer-list : List ℕ
  longer-list = order ++ k ∷ []

  pub own : is_marked later k ≡ true
  own = get_or-set_same marks k true false inside

  other : (j : ℕ) → j ≢ k → is_marked later j ≡ is_marked marks j
  other j apart = get_or-set_other marks k j true false apart

  longer : length longer-list ≡ length order + 1
  longer = omega (arith, length-append order (k ∷ []))

  front : (i : ℕ) → i < length order → slice_index longer-list i ≡ slice_index order i
  front i h = get_or_append_left order (k ∷ []) 0 i h

  last : (i : ℕ) → i ≡ length order → slice_index longer-list i ≡ k
  last i e = ap (slice_index longer-list) e ∙ get_or-append_seam order k [] 0

  wide : length later ≡ length marks
  wide = omega (arith, length-set marks k true)

  pub marks-one : Marks marks later order longer-list
  marks-one = record {
    size = wide;
    kept = λ j h. elim (cases_eq j k) [
      | inl same ↦ ap (is_marked later) same ∙ own
      | inr apart ↦ other j apart ∙ h
    ];
    longer = omega (arith, longer);
    same = front;
    marking = record {
      count = (let a = unmarked-set marks k inside absent in let b = marking.count in omega (arith, a, b, wide, longer));
      there = λ i h. elim (cases_lt i (length order)) [
        | inl less ↦ (let a = marking.there i less in let b = front i less in omega (arith, a, b, wide))
        | inr more ↦ (let b = last i (omega (arith, h, more, longer)) in omega (arith, inside, b, wide))
      ];
      among = λ j h. elim (cases_eq j k) [
        | inl same ↦ (length order, omega (arith, longer), last (length order) refl ∙ sym same)
        | inr apart ↦ (let a = marking.among j (sym (other j apart) ∙ h) in (a.0, (let b = a.1 in omega (arith, b, longer)), front a.0 a.1 ∙ a.2))
      ];
    };
  }

-- none is marked at first
unmarked-all : (n : ℕ) → unmarked (replicate n false) ≡ length (replicate n false)
unmarked-all zero = refl
unmarked-all (suc n) = (let rest = unmarked-all n in omega (arith, rest))

none-marked : (n k : ℕ) → is_marked (replicate n false) k ≡ false
none-marked zero k = refl
none-marked (suc n) zero = refl
none-marked (suc n) (suc k) = none-marked n k

pub marking-none : (n : ℕ) → IsMarking (replicate n false) []
marking-none n = record {
  count = (let a = unmarked-all n in omega (arith, a));
  there = λ i less. absurd (omega (arith, less));
  among = λ k h. absurd (let e : false ≡ true = sym (none-marked n k) ∙ h in cc e);
}

-- what ports and labels name is there
module _ (old : Circuit) (runs : IsNetlist old) (n : ℕ) (size : n ≡ length old.nets) where
  pub inputs-there : All (λ (port : NetPort). port.net < n) old.inputs
  inputs-there = all-from (λ (port : NetPort). port.net < n) old.inputs (λ k port is.
      let shown = runs.inputs k port is in
      let below = slice_get_within old.nets port.net shown.net shown.is in
      omega (arith, below, size))

  pub outputs-there : All (λ (port : NetPort). port.net < n) old.outputs
  outputs-there = all-from (λ (port : NetPort). port.net < n) old.outputs (λ k port is.
      let below = all-at (λ (p : NetPort). p.net < length old.nets) old.outputs runs.outputs k port is in
      omega (arith, below, size))

  pub labels-there : IsEmittable old → All (λ (label : NetLabel). label.net < n) old.labels
  labels-there emits = all-from (λ (label : NetLabel). label.net < n) old.labels (λ k label is.
      let below = emits.labels.there label (stands old.labels k label is) in
      omega (arith, below, size))

pub served-still : (nets : List Net) (old new : List Bool) (before after : List ℕ) (kind : NetKind) → Marks old new before after → IsServed nets old kind → IsServed nets new kind
served-still nets old new before after kind m s = record {
  reads = λ k d within. m.kept (slice_index_or (reads kind) k d) (s.reads k d within);
  counter = λ frame j of is. m.kept j (s.counter frame j of is);
}
