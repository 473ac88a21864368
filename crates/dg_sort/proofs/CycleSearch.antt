-- A search back finds a cycle.
use Rattle.std.proofs.Common.{◌≡◌, ℕ, zero, suc, ◌+◌, ◌-◌, ◌<◌, ◌≤◌, Bool, true, false, List, [], ◌∷◌, ◌++◌, length, replicate, get_or, ⊎_elim, refl, sym, ap, subst, ◌∙◌, arith}
use Rattle.std.specs.Prelude.{slice_get, set, Some}
use Rattle.std.proofs.lemmas.Bool.{cases_eq, cases_lt, true≢false}
use Rattle.std.proofs.lemmas.List.{length-append, length-set, length-replicate, get_or-replicate, get_or_default}
use Rattle.std.proofs.lemmas.Option.{none-some, same_Some, slice_get_within, slice_get-get_or}
use Rattle.dg_sort.specs.declared.cycle.Step.{Step}
use Rattle.dg_sort.specs.Rows.{Reads, AreKnown}
use Rattle.fx_io.specs.Rows.{row_at}
use Rattle.dg_sort.specs.inner.Back.{LeadsBackIn, IsOnCycle}
use Rattle.dg_sort.specs.inner.Cycle.{IsReadBy, IsMet, met_count, AreSteps, IsPassed, AreClosed, IsFoundAt, IsLooking, IsReadCycle, IsWalked}
use Rattle.dg_waves.proofs.WaveRounds.{still_marked}
use Rattle.math_list.proofs.Places.{set_same, set_other, get_left, last_at, push_cases}

-- ---- marks

count_most : (marks : List Bool) → met_count marks ≤ length marks
count_most [] = omega arith
count_most (true ∷ marks) = let rest = count_most marks in omega (arith, rest)
count_most (false ∷ marks) = let rest = count_most marks in omega (arith, rest)

count_more : (marks : List Bool) (block : ℕ) → slice_get marks block ≡ Some false → met_count (set marks block true) ≡ met_count marks + 1
count_more [] block at = absurd (none-some false at)
count_more (true ∷ marks) zero at = absurd (true≢false (same_Some true false at))
count_more (false ∷ marks) zero at = omega arith
count_more (true ∷ marks) (suc block) at = let rest = count_more marks block at in omega (arith, rest)
count_more (false ∷ marks) (suc block) at = count_more marks block at

count_none : (count : ℕ) → met_count (replicate count false) ≡ 0
count_none zero = refl
count_none (suc count) = count_none count

-- ---- one more step

read_still : (rows : List (List ℕ)) (steps : List Step) (step : Step) (place block : ℕ) → IsReadBy rows steps place block → IsReadBy rows (steps ++ step ∷ []) place block
read_still rows steps step place block read = record { step = read.step; at = get_left steps (step ∷ []) place read.step read.at; reads = read.reads }

passed_still : (first block source : ℕ) (marks : List Bool) → IsPassed first marks source → IsPassed first (set marks block true) source
passed_still first block source marks passed = record { met = still_marked marks block source passed.met; other = passed.other }

module _ (rows : List (List ℕ)) (first : ℕ) (steps : List Step) (is_met : List Bool) (at source : ℕ)
    (are : AreSteps rows first steps is_met) (here : IsReadBy rows steps at source)
    (unmet : slice_get is_met source ≡ Some false) where
  abbrev new_step : Step
  new_step = record { block = source; next = at }

  at_inside : at < length steps
  at_inside = slice_get_within steps at here.step here.at

  differs : (k : ℕ) (step : Step) → slice_get steps k ≡ Some step → step.block ≡ source → ⊥
  differs k step there same = true≢false (same_Some true false (sym (are.there k step there) ∙ ap (slice_get is_met) same ∙ unmet))

  more_met : IsMet rows first (steps ++ new_step ∷ [])
  more_met = record {
    begins = λ step there. ⊎_elim
        (λ (old : slice_get steps 0 ≡ Some step). are.met.begins step old)
        (λ new. let e = new.0 in let inside = at_inside in absurd (omega (arith, e, inside)))
        (push_cases steps new_step 0 step there);
    once = λ k other step another one two same. ⊎_elim
        (λ (old : slice_get steps k ≡ Some step). ⊎_elim
        (λ (late : slice_get steps other ≡ Some another). are.met.once k other step another old late same)
        (λ new. absurd (differs k step old (same ∙ sym (ap (λ (s : Step). s.block) new.1))))
        (push_cases steps new_step other another two))
        (λ fresh. ⊎_elim
        (λ (late : slice_get steps other ≡ Some another). absurd (differs other another late (sym same ∙ sym (ap (λ (s : Step). s.block) fresh.1))))
        (λ new. fresh.0 ∙ sym new.0)
        (push_cases steps new_step other another two))
        (push_cases steps new_step k step one);
    next = λ k step there above. ⊎_elim
        (λ (old : slice_get steps k ≡ Some step). let more = are.met.next k step old above in (more.0, read_still rows steps new_step step.next step.block more.1))
        (λ new.
        let e = new.0 in
        let inside = at_inside in
        subst (λ (s : Step). (s.next < k) × IsReadBy rows (steps ++ new_step ∷ []) s.next s.block) new.1 (omega (arith, e, inside), read_still rows steps new_step at source here))
        (push_cases steps new_step k step there);
  }

  more_steps : AreSteps rows first (steps ++ new_step ∷ []) (set is_met source true)
  more_steps = record {
    met = more_met;
    size = length-set is_met source true ∙ are.size;
    count =
        let more = count_more is_met source unmet in
        let count = are.count in
        let size = length-append steps (new_step ∷ []) in
        omega (arith, more, count, size);
    there = λ k step there. ⊎_elim
        (λ (old : slice_get steps k ≡ Some step). still_marked is_met source step.block (are.there k step old))
        (λ new. subst (λ (s : Step). slice_get (set is_met source true) s.block ≡ Some true) new.1 (set_same is_met source true (slice_get_within is_met source false unmet)))
        (push_cases steps new_step k step there);
    marked = λ block there. ⊎_elim
        (λ (same : source ≡ block). record { place = length steps; step = new_step; at = last_at steps new_step; is = same })
        (λ (differ : source ≡ block → ⊥).
        let old = are.marked block (sym (set_other is_met source block true differ) ∙ there) in
        record { place = old.place; step = old.step; at = get_left steps (new_step ∷ []) old.place old.step old.at; is = old.is })
        (cases_eq source block);
  }

-- ---- looking

pub looking_begins : (rows : List (List ℕ)) (first at : ℕ) (step : Step) (steps : List Step) (is_met : List Bool)
    → AreSteps rows first steps is_met → at < length steps → step ≡ get_or steps at step
    → AreClosed rows first at steps is_met → IsLooking rows first at step.block steps is_met 0
looking_begins rows first at step steps is_met are inside is closed = record {
  steps_are = are;
  step = step;
  here = slice_get-get_or steps at step inside ∙ ap Some (sym is);
  is = refl;
  closed = closed;
  passed = λ k source below. absurd (omega arith);
}

pub looking_passes : (rows : List (List ℕ)) (first at block index source : ℕ) (steps : List Step)
    (is_met : List Bool) → IsLooking rows first at block steps is_met index
    → slice_get (row_at rows block) index ≡ Some source → (source ≡ first → ⊥)
    → slice_get is_met source ≡ Some true
    → IsLooking rows first at block steps is_met (index + 1)
looking_passes rows first at block index source steps is_met looking there other met = record {
  steps_are = looking.steps_are;
  step = looking.step;
  here = looking.here;
  is = looking.is;
  closed = looking.closed;
  passed = λ k another below is. ⊎_elim
      (λ (less : k < index). looking.passed k another less is)
      (λ (more : index ≤ k).
      let same : k ≡ index = omega (arith, below, more) in
      let one : source ≡ another = same_Some source another (sym there ∙ sym (ap (slice_get (row_at rows block)) same) ∙ is) in
      subst (λ s. IsPassed first is_met s) one (record { met = met; other = other }))
      (cases_lt k index);
}

pub looking_meets : (rows : List (List ℕ)) (first at block index source : ℕ) (steps : List Step)
    (is_met : List Bool) → IsLooking rows first at block steps is_met index
    → slice_get (row_at rows block) index ≡ Some source → (source ≡ first → ⊥)
    → slice_get is_met source ≡ Some false
    → IsLooking rows first at block (steps ++ record { block = source; next = at } ∷ []) (set is_met source true) (index + 1)
looking_meets rows first at block index source steps is_met looking there other unmet =
    let here : IsReadBy rows steps at source = record { step = looking.step; at = looking.here; reads = subst (λ b. Reads rows b source) (sym looking.is) (record { place = index; at = there }) } in
    looking_passes rows first at block index source (steps ++ record { block = source; next = at } ∷ []) (set is_met source true) (record {
      steps_are = more_steps rows first steps is_met at source looking.steps_are here unmet;
      step = looking.step;
      here = get_left steps (record { block = source; next = at } ∷ []) at looking.step looking.here;
      is = looking.is;
      closed = record {
        closed = λ k another step below is reads. ⊎_elim
            (λ (old : slice_get steps k ≡ Some step). passed_still first source another is_met (looking.closed.closed k another step below old reads))
            (λ new. let e = new.0 in let inside = slice_get_within steps at looking.step looking.here in absurd (omega (arith, e, inside, below)))
            (push_cases steps (record { block = source; next = at }) k step is);
      };
      passed = λ k another below is. passed_still first source another is_met (looking.passed k another below is);
    }) there other (set_same is_met source true (slice_get_within is_met source false unmet))

pub looking_finds : (rows : List (List ℕ)) (first at block index source : ℕ) (steps : List Step)
    (is_met : List Bool) → IsLooking rows first at block steps is_met index
    → slice_get (row_at rows block) index ≡ Some source → source ≡ first → IsFoundAt rows first steps at
looking_finds rows first at block index source steps is_met looking there same = record {
  step = looking.step;
  at = looking.here;
  reads = subst (λ s. Reads rows looking.step.block s) same (subst (λ b. Reads rows b source) (sym looking.is) (record { place = index; at = there }));
}

pub looking_inside : (rows : List (List ℕ)) (first at block index : ℕ) (steps : List Step) (is_met : List Bool) → IsLooking rows first at block steps is_met index → at < length steps
looking_inside rows first at block index steps is_met looking = slice_get_within steps at looking.step looking.here

pub looking_ends : (rows : List (List ℕ)) (first at block index : ℕ) (steps : List Step) (is_met : List Bool)
    → IsLooking rows first at block steps is_met index → length (row_at rows block) ≤ index
    → AreClosed rows first (at + 1) steps is_met
looking_ends rows first at block index steps is_met looking all = record {
  closed = λ k source step below is reads. ⊎_elim
      (λ (less : k < at). looking.closed.closed k source step less is reads)
      (λ (more : at ≤ k).
      let same : k ≡ at = omega (arith, below, more) in
      let one : step ≡ looking.step = same_Some step looking.step (sym is ∙ ap (slice_get steps) same ∙ looking.here) in
      let mine : Reads rows block source = subst (λ b. Reads rows b source) (ap (λ (s : Step). s.block) one ∙ looking.is) reads in
      let inside = slice_get_within (row_at rows block) mine.place source mine.at in
      looking.passed mine.place source (omega (arith, inside, all)) mine.at)
      (cases_lt k at);
}

-- ---- the search ends before its steps do

passed_all : (rows : List (List ℕ)) (first : ℕ) (steps : List Step) (is_met : List Bool)
    → AreSteps rows first steps is_met → AreClosed rows first (length steps) steps is_met → (block source : ℕ)
    → slice_get is_met block ≡ Some true → Reads rows block source → IsPassed first is_met source
passed_all rows first steps is_met are closed block source met reads =
    let of = are.marked block met in
    closed.closed of.place source of.step (slice_get_within steps of.place of.step of.at) of.at (subst (λ b. Reads rows b source) (sym of.is) reads)

never_back : (rows : List (List ℕ)) (first : ℕ) (steps : List Step) (is_met : List Bool)
    → AreSteps rows first steps is_met → AreClosed rows first (length steps) steps is_met → (count block : ℕ)
    → IsPassed first is_met block → LeadsBackIn rows count block first → ⊥
never_back rows first steps is_met are closed zero block passed way = passed.other way
never_back rows first steps is_met are closed (suc count) block passed way =
    never_back rows first steps is_met are closed count (way.0) (passed_all rows first steps is_met are closed block (way.0) passed.met (way.1)) (way.2)

pub more_steps_left : (rows : List (List ℕ)) (first at : ℕ) (steps : List Step) (is_met : List Bool)
    → AreSteps rows first steps is_met → IsOnCycle rows first → at < length steps
    → AreClosed rows first (at + 1) steps is_met → at + 1 < length steps
more_steps_left rows first at steps is_met are on inside closed = ⊎_elim
    (λ (less : at + 1 < length steps). less)
    (λ (more : length steps ≤ at + 1).
    let all : AreClosed rows first (length steps) steps is_met = record { closed = λ k source step below is reads. closed.closed k source step (omega (arith, below, inside)) is reads } in
    let zeroth = slice_get-get_or steps 0 (record { block = 0; next = 0 }) (omega arith) in
    let begins = are.met.begins (get_or steps 0 (record { block = 0; next = 0 })) zeroth in
    let met = subst (λ b. slice_get is_met b ≡ Some true) begins (are.there 0 (get_or steps 0 (record { block = 0; next = 0 })) zeroth) in
    absurd (never_back rows first steps is_met are all on.back.steps on.next (passed_all rows first steps is_met are all first on.next met on.reads) on.back.walk))
    (cases_lt (at + 1) (length steps))

pub few_steps : (rows : List (List ℕ)) (first : ℕ) (steps : List Step) (is_met : List Bool) → AreSteps rows first steps is_met → length steps ≤ length rows
few_steps rows first steps is_met are = let most = count_most is_met in let count = are.count in let size = are.size in omega (arith, most, count, size)

pub steps_begin : (rows : List (List ℕ)) (first : ℕ) (marks : List Bool) → first < length rows
    → marks ≡ replicate (length rows) false
    → AreSteps rows first (record { block = first; next = 0 } ∷ []) (set marks first true)
steps_begin rows first marks inside are =
    let size : length marks ≡ length rows = ap length are ∙ length-replicate (length rows) false in
    let unmet : slice_get marks first ≡ Some false =
    slice_get-get_or marks first false (omega (arith, size, inside))
    ∙ ap (λ ms. Some (get_or ms first false)) are
    ∙ ap Some (get_or-replicate (length rows) first false false inside) in
    record {
      met = record {
        begins = λ step at. ap (λ (s : Step). s.block) (sym (same_Some (record { block = first; next = 0 }) step at));
        once = λ k other step another one two same.
            let low = slice_get_within (record { block = first; next = 0 } ∷ []) k step one in
            let high = slice_get_within (record { block = first; next = 0 } ∷ []) other another two in
            omega (arith, low, high);
        next = λ k step at above. let low = slice_get_within (record { block = first; next = 0 } ∷ []) k step at in absurd (omega (arith, low, above));
      };
      size = length-set marks first true ∙ size;
      count = count_more marks first unmet ∙ ap (λ n. n + 1) (ap met_count are ∙ count_none (length rows));
      there = there size;
      marked = λ block at. ⊎_elim
          (λ (same : first ≡ block). record { place = 0; step = record { block = first; next = 0 }; at = refl; is = same })
          (λ (differ : first ≡ block → ⊥).
          let old : slice_get marks block ≡ Some true = sym (set_other marks first block true differ) ∙ at in
          let below = slice_get_within marks block true old in
          let is : slice_get marks block ≡ Some false =
          slice_get-get_or marks block false below ∙ ap (λ ms. Some (get_or ms block false)) are
          ∙ ap Some (get_or-replicate (length rows) block false false (omega (arith, below, size))) in
          absurd (true≢false (same_Some true false (sym old ∙ is))))
          (cases_eq first block);
    }
  where
    there : length marks ≡ length rows → (k : ℕ) (step : Step) → slice_get (record { block = first; next = 0 } ∷ []) k ≡ Some step → slice_get (set marks first true) step.block ≡ Some true
    there size zero step at =
        let same : first ≡ step.block = ap (λ (s : Step). s.block) (same_Some (record { block = first; next = 0 }) step at) in
        subst (λ b. slice_get (set marks first true) b ≡ Some true) same (set_same marks first true (omega (arith, size, inside)))
    there size (suc k) step at = absurd (none-some step at)

pub closed_none : (rows : List (List ℕ)) (first : ℕ) (steps : List Step) (is_met : List Bool) → AreClosed rows first 0 steps is_met
closed_none rows first steps is_met = record { closed = λ k source step below. absurd (omega arith) }

-- ---- the way along the steps

pub walk_begins : (rows : List (List ℕ)) (first at : ℕ) (steps : List Step) → IsFoundAt rows first steps at → IsWalked rows first steps (first ∷ []) at
walk_begins rows first at steps found = record {
  begins = refl;
  inside = slice_get_within steps at found.step found.at;
  leads = λ k block next here there. absurd (none-some next there);
  last = λ block is. subst (λ b. IsReadBy rows steps at b) (same_Some first block is) found;
  behind = λ k block is above. let low = slice_get_within (first ∷ []) k block is in absurd (omega (arith, low, above));
  once = λ k other block here there.
      let low = slice_get_within (first ∷ []) k block here in
      let high = slice_get_within (first ∷ []) other block there in
      omega (arith, low, high);
}

pub walk_goes : (rows : List (List ℕ)) (first at : ℕ) (step : Step) (steps : List Step) (cycle : List ℕ)
    → IsMet rows first steps → IsWalked rows first steps cycle at → 0 < at → step ≡ get_or steps at step
    → IsWalked rows first steps (cycle ++ step.block ∷ []) step.next
walk_goes rows first at step steps cycle met walked above is =
    let here : slice_get steps at ≡ Some step = slice_get-get_or steps at step walked.inside ∙ ap Some (sym is) in
    let next = met.next at step here above in
    let size = length-append cycle (step.block ∷ []) in
    record {
      begins = get_left cycle (step.block ∷ []) 0 first walked.begins;
      inside = slice_get_within steps step.next next.1.step next.1.at;
      leads = λ k block later one two. leads here k block later one two;
      last = λ block last. subst (λ b. IsReadBy rows steps step.next b) (last_block size block last) next.1;
      behind = λ k block one over. ⊎_elim
          (λ (old : slice_get cycle k ≡ Some block). let b = walked.behind k block old over in let far = b.behind in let low = next.0 in record { of = b.of; behind = omega (arith, far, low) })
          (λ new. record { of = record { place = at; step = step; at = here; is = new.1 }; behind = next.0 })
          (push_cases cycle step.block k block one);
      once = λ k other block one two. ⊎_elim
          (λ (old : slice_get cycle k ≡ Some block). ⊎_elim
          (λ (late : slice_get cycle other ≡ Some block). walked.once k other block old late)
          (λ new. absurd (fresh here k block old new.1))
          (push_cases cycle step.block other block two))
          (λ new. ⊎_elim
          (λ (late : slice_get cycle other ≡ Some block). absurd (fresh here other block late new.1))
          (λ again. new.0 ∙ sym again.0)
          (push_cases cycle step.block other block two))
          (push_cases cycle step.block k block one);
    }
  where
    long : 0 < length cycle
    long = slice_get_within cycle 0 first walked.begins

    leads : slice_get steps at ≡ Some step → (k block later : ℕ)
        → slice_get (cycle ++ step.block ∷ []) k ≡ Some block
        → slice_get (cycle ++ step.block ∷ []) (suc k) ≡ Some later → Reads rows later block
    leads here k block later one two = ⊎_elim
        (λ (late : slice_get cycle (suc k) ≡ Some later). ⊎_elim
        (λ (old : slice_get cycle k ≡ Some block). walked.leads k block later old late)
        (λ new. let e = new.0 in let inside = slice_get_within cycle (suc k) later late in absurd (omega (arith, e, inside)))
        (push_cases cycle step.block k block one))
        (λ new.
        let e = new.0 in
        ⊎_elim
        (λ (old : slice_get cycle k ≡ Some block).
        let k_is : k ≡ length cycle - 1 = omega (arith, e) in
        let read = walked.last block (sym (ap (slice_get cycle) k_is) ∙ old) in
        let same : read.step ≡ step = same_Some read.step step (sym read.at ∙ here) in
        subst (λ b. Reads rows b block) (ap (λ (s : Step). s.block) same ∙ new.1) read.reads)
        (λ fresh. let f = fresh.0 in absurd (omega (arith, e, f)))
        (push_cases cycle step.block k block one))
        (push_cases cycle step.block (suc k) later two)

    last_block : length (cycle ++ step.block ∷ []) ≡ length cycle + length (step.block ∷ []) → (block : ℕ)
        → slice_get (cycle ++ step.block ∷ []) (length (cycle ++ step.block ∷ []) - 1) ≡ Some block
        → step.block ≡ block
    last_block size block last =
        let e : length (cycle ++ step.block ∷ []) - 1 ≡ length cycle = omega (arith, size) in
        same_Some step.block block (sym (last_at cycle step.block) ∙ sym (ap (slice_get (cycle ++ step.block ∷ [])) e) ∙ last)

    fresh : slice_get steps at ≡ Some step → (k block : ℕ) → slice_get cycle k ≡ Some block → step.block ≡ block → ⊥
    fresh here zero block old same =
        let zeroth = slice_get-get_or steps 0 step (let inside = walked.inside in omega (arith, inside)) in
        let begins = met.begins (get_or steps 0 step) zeroth in
        let is_first : first ≡ block = same_Some first block (sym walked.begins ∙ old) in
        let e = met.once at 0 step (get_or steps 0 step) here zeroth (same ∙ sym is_first ∙ sym begins) in
        omega (arith, e, above)
    fresh here (suc k) block old same =
        let b = walked.behind (suc k) block old (omega arith) in
        let e = met.once at b.of.place step b.of.step here b.of.at (same ∙ sym b.of.is) in
        let far = b.behind in
        omega (arith, e, far)

pub walk_lower : (rows : List (List ℕ)) (first at : ℕ) (step : Step) (steps : List Step) (cycle : List ℕ)
    → IsMet rows first steps → IsWalked rows first steps cycle at → 0 < at → step ≡ get_or steps at step
    → step.next < at
walk_lower rows first at step steps cycle met walked above is = (met.next at step (slice_get-get_or steps at step walked.inside ∙ ap Some (sym is)) above).0

pub walk_ends : (rows : List (List ℕ)) (first at : ℕ) (steps : List Step) (cycle : List ℕ) → IsMet rows first steps → IsWalked rows first steps cycle at → at ≤ 0 → IsReadCycle rows first cycle
walk_ends rows first at steps cycle met walked end = record {
  begins = walked.begins;
  leads = walked.leads;
  closes = λ last is.
      let read = walked.last last is in
      let zeroth : at ≡ 0 = omega (arith, end) in
      subst (λ b. Reads rows b last) (met.begins read.step (sym (ap (slice_get steps) zeroth) ∙ read.at)) read.reads;
  once = walked.once;
}

-- ---- as the code has it

pub step_inside : (rows : List (List ℕ)) (first at : ℕ) (step : Step) (steps : List Step) (is_met : List Bool)
    → AreSteps rows first steps is_met → at < length steps → step ≡ get_or steps at step → step.block < length rows
step_inside rows first at step steps is_met are inside is =
    let here : slice_get steps at ≡ Some step = slice_get-get_or steps at step inside ∙ ap Some (sym is) in
    let size = are.size in
    let low = slice_get_within is_met step.block true (are.there at step here) in
    omega (arith, size, low)

pub row_is : (rows : List (List ℕ)) (block : ℕ) (row read : List ℕ) → block < length rows → row ≡ read → read ≡ get_or rows block read → row ≡ row_at rows block
row_is rows block row read inside same is = same ∙ is ∙ get_or_default rows block read [] inside

pub source_at : (row known : List ℕ) (index : ℕ) → row ≡ known → index < length row → slice_get known index ≡ Some (get_or row index 0)
source_at row known index same inside = sym (ap (λ r. slice_get r index) same) ∙ slice_get-get_or row index 0 inside

pub looking_there : (rows : List (List ℕ)) (first at block index source : ℕ) (steps : List Step)
    (is_met : List Bool) → IsLooking rows first at block steps is_met index → AreKnown rows
    → slice_get (row_at rows block) index ≡ Some source → source < length is_met
looking_there rows first at block index source steps is_met looking known there =
    let inside = known.there block source (record { place = index; at = there }) in
    let size = looking.steps_are.size in
    omega (arith, inside, size)

pub met_at : (marks : List Bool) (source : ℕ) (mark is : Bool) → source < length marks → mark ≡ get_or marks source mark → mark ≡ is → slice_get marks source ≡ Some is
met_at marks source mark is inside at same = slice_get-get_or marks source mark inside ∙ ap Some (sym at ∙ same)

pub steps_begin_as : (rows : List (List ℕ)) (first : ℕ) (marks : List Bool) (old steps : List Step)
    → first < length rows → marks ≡ replicate (length rows) false → old ≡ []
    → steps ≡ old ++ record { block = first; next = 0 } ∷ [] → AreSteps rows first steps (set marks first true)
steps_begin_as rows first marks old steps inside are none pushed =
    subst (λ xs. AreSteps rows first xs (set marks first true)) (sym (pushed ∙ ap (λ xs. xs ++ record { block = first; next = 0 } ∷ []) none)) (steps_begin rows first marks inside are)
