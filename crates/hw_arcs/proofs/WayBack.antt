-- A way back, block by block.
use Rattle.std.proofs.Common.{◌≡◌, ℕ, zero, suc, ◌-◌, ◌<◌, ◌≤◌, Bool, true, false, cond, List, [], ◌∷◌, ◌++◌, length, length-append, get_or, replicate, ⊎_elim, refl, sym, ap, subst, ◌∙◌, arith}
use Rattle.std.specs.Prelude.{slice_get, slice_set, Some, None, Option, MatchOption, ◌==◌}
use Rattle.std.specs.List.{count_by}
use Rattle.std.proofs.lemmas.Bool.{cases_eq, eq-eqb, ne_eqb, false≢true}
use Rattle.std.proofs.lemmas.List.{get_or_read, length-set, length-replicate}
use Rattle.std.proofs.lemmas.List.Sums.{sum_by-set, sum_by_push, count_by-le-length}
use Rattle.std.proofs.lemmas.Option.{none-some, slice_get-get_or}
use Rattle.hw_arcs.specs.declared.arc.Arc.{Arc}
use Rattle.hw_arcs.specs.Found.{AreKnown, IsIn}
use Rattle.hw_arcs.specs.inner.Walk.{AreGiven, IsChain, IsWay, IsWalked, IsOut}
use Rattle.math_list.proofs.Places.{get_left, last_at, push_cases}
use Rattle.hw_arcs.proofs.Counts.{one_if}
use Rattle.hw_arcs.proofs.Moves.{set_moves}
use Rattle.hw_arcs.proofs.Chains.{chain_joins}

-- the blocks before one were met, and no others
pub record IsWalking (arcs : List Arc) (tight : List (Option ℕ)) (first : ℕ) (path : List ℕ) (at : ℕ) (met : List Bool) : Type 0 where
  pub size : length met ≡ length tight
  pub chain : IsChain arcs tight first path at
  pub count : length path ≡ count_by (λ b. b) met
  pub inside : at < length tight
  pub there : (place block : ℕ) → slice_get path place ≡ Some block → block < length tight
  pub met_in : (block : ℕ) → get_or met block false ≡ true → IsIn path block
  pub unmet : (block : ℕ) → get_or met block false ≡ false → count_by (λ other. other == block) path ≡ 0
  pub once : (block : ℕ) → count_by (λ other. other == block) path ≤ 1

none_met : (n block : ℕ) → get_or (replicate n false) block false ≡ false
none_met zero block = refl
none_met (suc n) zero = refl
none_met (suc n) (suc block) = none_met n block

none_counted : (n : ℕ) → count_by (λ b. b) (replicate n false) ≡ 0
none_counted zero = refl
none_counted (suc n) = none_counted n

pub walking_begins : (arcs : List Arc) (tight : List (Option ℕ)) (first : ℕ) (path : List ℕ) (met : List Bool)
    → path ≡ [] → met ≡ replicate (length tight) false → first < length tight
    → IsWalking arcs tight first path first met
walking_begins arcs tight first path met none are inside = rw (none, are) record {
  size = length-replicate (length tight) false;
  chain = refl;
  count = sym (none_counted (length tight));
  inside = inside;
  there = λ place block at. absurd (none-some block at);
  met_in = λ block is. absurd (false≢true (sym (none_met (length tight) block) ∙ is));
  unmet = λ block is. refl;
  once = λ block. omega arith;
}

counted_more : (path : List ℕ) (at block : ℕ) → (at ≡ block → ⊥) → count_by (λ other. other == block) (path ++ at ∷ []) ≡ count_by (λ other. other == block) path
counted_more path at block differs =
    let p = sum_by_push (λ other. cond (other == block) 1 0) path at in
    let e : one_if (at == block) ≡ 0 = ap one_if (ne_eqb at block differs) in
    omega (arith, p, e)

pub walking_more : (arcs : List Arc) (tight : List (Option ℕ)) (first : ℕ) (path : List ℕ) (at number : ℕ)
    (arc : Arc) (met : List Bool) → AreKnown arcs (length tight) → get_or met at false ≡ false
    → slice_get tight at ≡ Some (Some number) → slice_get arcs number ≡ Some arc
    → IsWalking arcs tight first path at met → IsWalking arcs tight first (path ++ at ∷ []) arc.from (slice_set met at true)
walking_more arcs tight first path at number arc met known fresh given there walking =
    let size = walking.size in
    let inside = walking.inside in
    let held : at < length met = omega (arith, size, inside) in
    let marks = set_moves met at true false held in
    record {
      size = length-set met at true ∙ walking.size;
      chain = chain_joins arcs tight first at arc.from path (at ∷ []) walking.chain (arc.from, refl, record { number = number; arc = arc; given = given; at = there; from = refl }, refl);
      count =
          let sums = sum_by-set (λ b. cond b 1 0) met at true false held in
          let zero_now : one_if (get_or met at false) ≡ 0 = ap one_if fresh in
          let count = walking.count in
          simp length-append (omega (arith, sums, zero_now, count));
      inside = known.from number arc there;
      there = λ place block is. ⊎_elim
          (λ old. walking.there place block old)
          (λ new. subst (λ b. b < length tight) new.1 walking.inside)
          (push_cases path at place block is);
      met_in = λ block is. ⊎_elim
          (λ (e : at ≡ block). record { place = length path; at = last_at path at ∙ ap Some e })
          (λ (differs : at ≡ block → ⊥). let old = walking.met_in block (sym (marks.other block differs) ∙ is) in record { place = old.place; at = get_left path (at ∷ []) old.place block old.at })
          (cases_eq at block);
      unmet = λ block is. ⊎_elim
          (λ (e : at ≡ block). absurd (false≢true (sym is ∙ marks.same block e)))
          (λ (differs : at ≡ block → ⊥). counted_more path at block differs ∙ walking.unmet block (sym (marks.other block differs) ∙ is))
          (cases_eq at block);
      once = λ block. ⊎_elim
          (λ (e : at ≡ block).
          let none : count_by (λ other. other == block) path ≡ 0 = walking.unmet block (ap (λ k. get_or met k false) (sym e) ∙ fresh) in
          let p = sum_by_push (λ other. cond (other == block) 1 0) path at in
          let o : one_if (at == block) ≡ 1 = ap one_if (eq-eqb at block e) in
          omega (arith, p, o, none))
          (λ (differs : at ≡ block → ⊥). let c = counted_more path at block differs in let o = walking.once block in omega (arith, c, o))
          (cases_eq at block);
    }

way_of : (arcs : List Arc) (tight : List (Option ℕ)) (first : ℕ) (path : List ℕ) (at : ℕ) (met : List Bool) → IsWalking arcs tight first path at met → IsWay arcs tight first path at (length tight)
way_of arcs tight first path at met walking = record {
  chain = walking.chain;
  once = walking.once;
  short = let size = walking.size in let count = walking.count in let most = count_by-le-length (λ b. b) met in omega (arith, size, count, most);
  there = walking.there;
  inside = walking.inside;
}

pub walking_ends : (arcs : List Arc) (tight : List (Option ℕ)) (first : ℕ) (path : List ℕ) (at : ℕ)
    (met : List Bool) → slice_get tight at ≡ Some None → IsWalking arcs tight first path at met
    → IsWalked arcs tight first path (length tight) None
walking_ends arcs tight first path at met free walking = record { end = at; way = way_of arcs tight first path at met walking; free = free }

pub walking_closes : (arcs : List Arc) (tight : List (Option ℕ)) (first : ℕ) (path : List ℕ) (at : ℕ)
    (met : List Bool) (place : Option ℕ) → get_or met at false ≡ true
    → MatchOption place (IsOut path at) (λ k. slice_get path k ≡ Some at)
    → IsWalking arcs tight first path at met
    → IsWalked arcs tight first path (length tight) place
walking_closes arcs tight first path at met None is found walking = let in_it = walking.met_in at is in absurd (found.out in_it.place in_it.at)
walking_closes arcs tight first path at met (Some k) is found walking = record { end = at; way = way_of arcs tight first path at met walking; back = found }

-- one block more leaves fewer
pub walking_shorter : (arcs : List Arc) (tight : List (Option ℕ)) (first : ℕ) (path : List ℕ) (at : ℕ) (met : List Bool) → IsWalking arcs tight first path at met → length path ≤ length met
walking_shorter arcs tight first path at met walking = let count = walking.count in let most = count_by-le-length (λ b. b) met in omega (arith, count, most)

-- ---- as the code reads it

at_read : {A : Type 0} (xs : List A) (at : ℕ) (is value d : A) → is ≡ get_or xs at is → is ≡ value → at < length xs → get_or xs at d ≡ value
at_read xs at is value d read same inside = sym (get_or_read xs at is inside read d) ∙ same

pub walking_on : (arcs : List Arc) (tight : List (Option ℕ)) (first : ℕ) (path new : List ℕ) (at number : ℕ)
    (d : Arc) (met : List Bool) (is_met : Bool) → AreKnown arcs (length tight) → AreGiven arcs tight
    → is_met ≡ get_or met at is_met → is_met ≡ false
    → get_or tight at None ≡ Some number → new ≡ path ++ at ∷ [] → IsWalking arcs tight first path at met → IsWalking arcs tight first new (get_or arcs number d).from (slice_set met at true)
walking_on arcs tight first path new at number d met is_met known given read fresh here longer walking =
    let size = walking.size in
    let inside = walking.inside in
    let there : slice_get tight at ≡ Some (Some number) = slice_get-get_or tight at None inside ∙ ap Some here in
    subst (λ (bs : List ℕ). IsWalking arcs tight first bs (get_or arcs number d).from (slice_set met at true)) (sym longer)
    (walking_more arcs tight first path at number (get_or arcs number d) met known
    (at_read met at is_met false false read fresh (omega (arith, size, inside))) there
    (slice_get-get_or arcs number d (given.given at number there)) walking)

pub walking_falls : (arcs : List Arc) (tight : List (Option ℕ)) (first : ℕ) (path new : List ℕ) (at next : ℕ)
    (met : List Bool) → new ≡ path ++ at ∷ [] → IsWalking arcs tight first new next met
    → length tight - length new < length tight - length path
walking_falls arcs tight first path new at next met longer walking =
    let size = walking.size in
    let short = walking_shorter arcs tight first new next met walking in
    let long = ap length longer in
    let more = length-append path (at ∷ []) in
    omega (arith, size, short, long, more)

pub walking_stops : (arcs : List Arc) (tight : List (Option ℕ)) (first : ℕ) (path slice : List ℕ) (at : ℕ)
    (met : List Bool) (is_met : Bool) (place : Option ℕ) → is_met ≡ get_or met at is_met → is_met ≡ true
    → slice ≡ path
    → MatchOption place (IsOut slice at) (λ k. slice_get slice k ≡ Some at) → IsWalking arcs tight first path at met → IsWalked arcs tight first path (length tight) place
walking_stops arcs tight first path slice at met is_met place read known same found walking =
    let size = walking.size in
    let inside = walking.inside in
    walking_closes arcs tight first path at met place (at_read met at is_met true false read known (omega (arith, size, inside)))
    (subst (λ (bs : List ℕ). MatchOption place (IsOut bs at) (λ k. slice_get bs k ≡ Some at)) same found) walking
