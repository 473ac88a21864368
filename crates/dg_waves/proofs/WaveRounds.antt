-- A wave over all changes is a round.
use Rattle.std.proofs.Common.{◌≡◌, ℕ, zero, suc, ◌<◌, Bool, true, false, Some, inl, inr, List, [], ◌∷◌, ◌++◌, length, take, drop, eqb, replicate, All, refl, sym, ap, subst, ◌∙◌, arith, ◌≤◌}
use Rattle.std.specs.Prelude.{◌≢◌, set, slice_get}
use Rattle.std.proofs.lemmas.Bool.{true≢false, false≢true, eqb-true, eqb-false, eq-eqb, or_parts, or_cases, or_left, or_right, or_from, cases_Bool}
use Rattle.std.proofs.Math.Seq.{take-append_seam}
use Rattle.std.proofs.lemmas.List.{length-replicate, length-map}
use Rattle.std.proofs.lemmas.Option.{none-some, same_Some, slice_get_within, get_or_from_slice_get}
use Rattle.dg_waves.specs.declared.waves.Change.{Change}
use Rattle.dg_waves.specs.Rounds.{round, after_rounds}
use Rattle.math_list.specs.Numbers.{numbers_from}
use Rattle.dg_waves.specs.inner.Waves.{is_in, is_changed, written, marked_count, Sought, MarkedWait, ReadersMarked, Marked, IsBetween}
use Rattle.math_list.proofs.Numbers.{length_numbers, mapped_at}
use Rattle.math_list.proofs.Places.{length_set, pushed_at, same_places, set_other, set_same}

pub length_written : {A : Type 0} (changes : List (Change A)) (values : List A) → length (written changes values) ≡ length values
length_written [] values = refl
length_written (x ∷ xs) values = length_written xs (set values x.block x.value) ∙ length_set values x.block x.value

pub length_round : {A : Type 0} (next : List A → ℕ → A) (values : List A) → length (round next values) ≡ length values
length_round next values = length-map (numbers_from 0 (length values)) (next values) ∙ length_numbers 0 (length values)

pub round_at : {A : Type 0} (next : List A → ℕ → A) (values : List A) (block : ℕ) → block < length values → slice_get (round next values) block ≡ Some (next values block)
round_at next values block inside = mapped_at (next values) 0 (length values) block inside ∙ ap (λ (m : ℕ). Some (next values m)) (omega arith)

pub round_fits : {A : Type 0} (IsValue : A → Type 0) (next : List A → ℕ → A) (values : List A) → ((block : ℕ) → block < length values → IsValue (next values block)) → All IsValue (round next values)
round_fits IsValue next values fit block d inside =
    let there : block < length values = omega (arith, length_round next values) in
    subst IsValue (sym (get_or_from_slice_get (round next values) block (next values block) d (round_at next values block there))) (fit block there)

-- ---- looking for changes

is_changed_push : {A : Type 0} (changes : List (Change A)) (change : Change A) (block : ℕ)
    → is_changed block (changes ++ change ∷ []) ≡ false
    → (is_changed block changes ≡ false) × (eqb change.block block ≡ false)
is_changed_push [] change block is = (refl, (or_parts (eqb change.block block) false is).0)
is_changed_push (x ∷ xs) change block is =
    let parts = or_parts (eqb x.block block) (is_changed block (xs ++ change ∷ [])) is in
    let later = is_changed_push xs change block (parts.1) in
    (or_from (eqb x.block block) (is_changed block xs) (parts.0) (later.0), later.1)

-- a block that keeps its value need not wait
pub sought_kept : {A : Type 0} (next : List A → ℕ → A) (values : List A) (changes : List (Change A)) (block : ℕ)
    (left : List ℕ) → slice_get values block ≡ Some (next values block) → Sought next values changes (block ∷ left)
    → Sought next values changes left
sought_kept next values changes block left same sought = record {
  takes = sought.takes;
  alters = sought.alters;
  keeps = λ other inside unchanged rests.
      elim (cases_Bool (eqb block other)) [
        | inl e ↦ subst (λ (b : ℕ). slice_get values b ≡ Some (next values b)) (eqb-true block other e) same
        | inr e ↦ sought.keeps other inside unchanged (or_from (eqb block other) (is_in other left) e rests)
      ];
}

-- nor one whose change was found
pub sought_found : {A : Type 0} (next : List A → ℕ → A) (values : List A) (changes : List (Change A))
    (change : Change A) (left : List ℕ) → change.value ≡ next values change.block
    → slice_get values change.block ≢ Some change.value → Sought next values changes (change.block ∷ left)
    → Sought next values (changes ++ change ∷ []) left
sought_found next values changes change left is differs sought = record {
  takes = pushed_at (λ (c : Change _). c.value ≡ next values c.block) changes change sought.takes is;
  alters = pushed_at (λ (c : Change _). slice_get values c.block ≢ Some c.value) changes change sought.alters differs;
  keeps = λ other inside unchanged rests.
      let parts = is_changed_push changes change other unchanged in
      sought.keeps other inside (parts.0) (or_from (eqb change.block other) (is_in other left) (parts.1) rests);
}

pub unmarked : (marks : List Bool) (block : ℕ) (left : List ℕ) → block < length marks → MarkedWait marks (block ∷ left) → MarkedWait (set marks block false) left
unmarked marks block left inside wait = record {
  waits = λ other is.
      elim (cases_Bool (eqb block other)) [
        | inl e ↦
            let same : block ≡ other = eqb-true block other e in
            absurd (false≢true (same_Some false true (sym (set_same marks block false inside) ∙ ap (slice_get (set marks block false)) same ∙ is)))
        | inr e ↦
            let before : is_in other (block ∷ left) ≡ true = wait.waits other (sym (set_other marks block other false (eqb-false block other e)) ∙ is) in
            elim (or_cases (eqb block other) (is_in other left) before) [ inl same ↦ absurd (true≢false (sym same ∙ e)) | inr there ↦ there ]
      ];
}

-- ---- letting blocks wait

pub is_in_push : (xs : List ℕ) (x block : ℕ) → is_in block xs ≡ true → is_in block (xs ++ x ∷ []) ≡ true
is_in_push [] x block is = absurd (false≢true is)
is_in_push (y ∷ xs) x block is =
    elim (or_cases (eqb y block) (is_in block xs) is) [
      | inl here ↦ or_left (eqb y block) (is_in block (xs ++ x ∷ [])) here
      | inr there ↦ or_right (eqb y block) (is_in block (xs ++ x ∷ [])) (is_in_push xs x block there)
    ]

pub is_in_last : (xs : List ℕ) (x block : ℕ) → x ≡ block → is_in block (xs ++ x ∷ []) ≡ true
is_in_last [] x block is = or_left (eqb x block) false (eq-eqb x block is)
is_in_last (y ∷ xs) x block is = or_right (eqb y block) (is_in block (xs ++ x ∷ [])) (is_in_last xs x block is)

pub waits_more : (marks : List Bool) (waiting : List ℕ) (block : ℕ) → MarkedWait marks waiting → MarkedWait (set marks block true) (waiting ++ block ∷ [])
waits_more marks waiting block wait = record {
  waits = λ other is.
      elim (cases_Bool (eqb block other)) [
        | inl e ↦ is_in_last waiting block other (eqb-true block other e)
        | inr e ↦ is_in_push waiting block other (wait.waits other (sym (set_other marks block other true (eqb-false block other e)) ∙ is))
      ];
}

pub still_marked : (marks : List Bool) (block other : ℕ) → slice_get marks other ≡ Some true → slice_get (set marks block true) other ≡ Some true
still_marked marks block other is =
    elim (cases_Bool (eqb block other)) [
      | inl e ↦
          let same : block ≡ other = eqb-true block other e in
          let inside : block < length marks = rw same (slice_get_within marks other true is) in
          ap (slice_get (set marks block true)) (sym same) ∙ set_same marks block true inside
      | inr e ↦ set_other marks block other true (eqb-false block other e) ∙ is
    ]

-- one more block is marked now
pub marked_more : (old marks : List Bool) (blocks : List ℕ) (block : ℕ) (left : List ℕ) → block < length marks → Marked old marks blocks (block ∷ left) → Marked old (set marks block true) blocks left
marked_more old marks blocks block left inside marked = record {
  marked = λ other is gone.
      elim (cases_Bool (eqb block other)) [
        | inl e ↦
            let same : block ≡ other = eqb-true block other e in
            ap (slice_get (set marks block true)) (sym same) ∙ set_same marks block true inside
        | inr e ↦ still_marked marks block other (marked.marked other is (or_from (eqb block other) (is_in other left) e gone))
      ];
  kept = λ other is. still_marked marks block other (marked.kept other is);
}

-- or was before
pub marked_same : (old marks : List Bool) (blocks : List ℕ) (block : ℕ) (left : List ℕ) → slice_get marks block ≡ Some true → Marked old marks blocks (block ∷ left) → Marked old marks blocks left
marked_same old marks blocks block left here marked = record {
  marked = λ other is gone.
      elim (cases_Bool (eqb block other)) [
        | inl e ↦ ap (slice_get marks) (sym (eqb-true block other e)) ∙ here
        | inr e ↦ marked.marked other is (or_from (eqb block other) (is_in other left) e gone)
      ];
  kept = marked.kept;
}

-- ---- how many are marked

-- a block that isn't marked counts once it is
pub counted_more : (marks : List Bool) (block : ℕ) → slice_get marks block ≡ Some false → marked_count (set marks block true) ≡ suc (marked_count marks)
counted_more [] block is = absurd (none-some false is)
counted_more (true ∷ marks) zero is = absurd (true≢false (same_Some true false is))
counted_more (false ∷ marks) zero is = refl
counted_more (true ∷ marks) (suc block) is = ap suc (counted_more marks block is)
counted_more (false ∷ marks) (suc block) is = counted_more marks block is

pub none_counted : (marks : List Bool) → MarkedWait marks [] → marked_count marks ≡ 0
none_counted [] wait = refl
none_counted (true ∷ marks) wait = absurd (false≢true (wait.waits 0 refl))
none_counted (false ∷ marks) wait = none_counted marks (record { waits = λ block at. wait.waits (suc block) at })

pub counted_within : (marks : List Bool) → marked_count marks ≤ length marks
counted_within [] = omega arith
counted_within (true ∷ marks) = omega (arith, counted_within marks)
counted_within (false ∷ marks) = omega (arith, counted_within marks)

-- ---- writing the changes

pub readers_marked_more : {A : Type 0} (readers : ℕ → List ℕ) (old marks : List Bool) (changes : List (Change A))
    (change : Change A) (left : List (Change A)) → Marked old marks (readers change.block) []
    → ReadersMarked readers old changes (change ∷ left) → ReadersMarked readers marks changes left
readers_marked_more readers old marks changes change left now before = record {
  marked = λ block reader is gone reads.
      elim (cases_Bool (eqb change.block block)) [
        | inl e ↦ now.marked reader (subst (λ (b : ℕ). is_in reader (readers b) ≡ true) (sym (eqb-true change.block block e)) reads) refl
        | inr e ↦ now.kept reader (before.marked block reader is (or_from (eqb change.block block) (is_changed block left) e gone) reads)
      ];
}

-- ---- a wave

-- what is written at a block that changes or already has what it takes
written_at : {A : Type 0} (takes : ℕ → A) (changes : List (Change A)) (values : List A) (block : ℕ)
    → block < length values → ((k : ℕ) (change : Change A) → slice_get changes k ≡ Some change
    → change.value ≡ takes change.block)
    → (is_changed block changes ≡ false → slice_get values block ≡ Some (takes block))
    → slice_get (written changes values) block ≡ Some (takes block)
written_at takes [] values block inside is keeps = keeps refl
written_at takes (x ∷ xs) values block inside is keeps =
    written_at takes xs (set values x.block x.value) block (rw length_set inside) (λ k change at. is (suc k) change at) (λ unchanged.
    elim (cases_Bool (eqb x.block block)) [
      | inl same ↦
          let e : x.block ≡ block = eqb-true x.block block same in
          subst (λ (b : ℕ). slice_get (set values x.block x.value) b ≡ Some (takes b)) e
          (set_same values x.block x.value (rw e inside) ∙ ap Some (is 0 x refl))
      | inr other ↦
          set_other values x.block block x.value (λ e. true≢false (sym (eq-eqb x.block block e) ∙ other))
          ∙ keeps (rw (other, unchanged) refl)
    ])

-- what isn't changed stays
unchanged_at : {A : Type 0} (changes : List (Change A)) (values : List A) (block : ℕ) → is_changed block changes ≡ false → slice_get (written changes values) block ≡ slice_get values block
unchanged_at [] values block is = refl
unchanged_at (x ∷ xs) values block is =
    let parts = or_parts (eqb x.block block) (is_changed block xs) is in
    unchanged_at xs (set values x.block x.value) block (parts.1) ∙ set_other values x.block block x.value (λ e. true≢false (sym (eq-eqb x.block block e) ∙ parts.0))

pub wave_is_round : {A : Type 0} (next : List A → ℕ → A) (changes : List (Change A)) (values : List A) → Sought next values changes [] → written changes values ≡ round next values
wave_is_round next changes values are =
    same_places (written changes values) (round next values) (length_written changes values ∙ sym (length_round next values)) (λ block inside.
    let there : block < length values = omega (arith, length_written changes values) in
    written_at (next values) changes values block there are.takes (λ unchanged. are.keeps block there unchanged refl) ∙ sym (round_at next values block there))

-- after a wave, what isn't marked keeps its value in the next round
pub settled_after : {A : Type 0} (next : List A → ℕ → A) (readers : ℕ → List ℕ) (count : ℕ) (changes : List (Change A)) (values : List A) (marks : List Bool) (waiting : List ℕ) →
    length values ≡ count → length marks ≡ count →
    ((old new : List A) (block : ℕ) → length old ≡ count → length new ≡ count → block < count
    → ((source : ℕ) → is_in block (readers source) ≡ true → slice_get old source ≡ slice_get new source)
    → next old block ≡ next new block) →
    Sought next values changes [] → ReadersMarked readers marks changes [] → MarkedWait marks waiting → Sought next (written changes values) [] waiting
settled_after next readers count changes values marks waiting size marks_size local are marked wait = record {
  takes = λ k change at. absurd (none-some change at);
  alters = λ k change at. absurd (none-some change at);
  keeps = λ block inside none rests.
      let there : block < length values = omega (arith, length_written changes values) in
      let same : next values block ≡ next (written changes values) block =
      local values (written changes values) block size (length_written changes values ∙ size) (omega arith) (λ source reads.
      elim (cases_Bool (is_changed source changes)) [
        | inl changed ↦ absurd (true≢false (sym (wait.waits block (marked.marked source block changed refl reads)) ∙ rests))
        | inr unchanged ↦ sym (unchanged_at changes values source unchanged)
      ]) in
      written_at (next values) changes values block there are.takes (λ unchanged. are.keeps block there unchanged refl) ∙ ap Some same;
}

-- ---- before the first wave

none_marked : (n block : ℕ) → slice_get (replicate n false) block ≡ Some true → ⊥
none_marked zero block at = none-some true at
none_marked (suc n) zero at = false≢true (same_Some false true at)
none_marked (suc n) (suc block) at = none_marked n block at

-- every block waits, and none is marked
pub between_first : {A : Type 0} (count : ℕ) (IsValue : A → Type 0) (next : List A → ℕ → A) (values : List A) (waiting : List ℕ) (marks : List Bool) →
    length values ≡ count → All IsValue values → All (λ block. block < length values) waiting
    → ((block : ℕ) → block < length values → is_in block waiting ≡ true)
    → marks ≡ replicate (length values) false → IsBetween count IsValue next values waiting marks
between_first count IsValue next values waiting marks size fit there all none = record {
  size = size;
  marks_size = ap (λ (bs : List Bool). length bs) none ∙ length-replicate (length values) false ∙ size;
  there = λ k d inside. omega (arith, there k d inside, size);
  fit = fit;
  sought = record {
    takes = λ k change at. absurd (none-some change at);
    alters = λ k change at. absurd (none-some change at);
    keeps = λ block inside unchanged rests. absurd (true≢false (sym (all block inside) ∙ rests));
  };
  wait = record { waits = λ block at. absurd (none_marked (length values) block (ap (λ (bs : List Bool). slice_get bs block) (sym none) ∙ at)) };
}

-- ---- two steps that agree

pub length_after : {A : Type 0} (next : List A → ℕ → A) (n : ℕ) (start : List A) → length (after_rounds next n start) ≡ length start
length_after next zero start = refl
length_after next (suc n) start = length_round next (after_rounds next n start) ∙ length_after next n start

-- steps that give the same on all values of one length have the same rounds
pub rounds_agree : {A : Type 0} (f g : List A → ℕ → A) (count : ℕ)
    → ((values : List A) (block : ℕ) → length values ≡ count → block < count → f values block ≡ g values block)
    → (n : ℕ) (start : List A) → length start ≡ count → after_rounds f n start ≡ after_rounds g n start
rounds_agree f g count same zero start size = refl
rounds_agree f g count same (suc n) start size =
    let values = after_rounds f n start in
    let values_size : length values ≡ count = length_after f n start ∙ size in
    same_places (round f values) (round g values) (length_round f values ∙ sym (length_round g values)) (λ block inside.
    let there : block < length values = omega (arith, length_round f values) in
    round_at f values block there ∙ ap Some (same values block values_size (omega arith)) ∙ sym (round_at g values block there))
    ∙ ap (round g) (rounds_agree f g count same n start size)

-- a slice that was borrowed and written over has what was written
pub written_back : {A : Type 0} (count : ℕ) (new old : List A) → length new ≡ count → take count (new ++ drop (length new) old) ≡ new
written_back count new old is = ap (λ n. take n (new ++ drop (length new) old)) (sym is) ∙ take-append_seam new (drop (length new) old)
