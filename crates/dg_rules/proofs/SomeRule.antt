-- A diagram keeps the rules of dimensions, types, rates and loops, or one is broken first.
use Rattle.std.proofs.Common.{◌≡◌, ◌≢◌, ℕ, zero, suc, ◌<◌, inl, inr, List, [], ◌∷◌, ◌++◌, length, Option, None, Some, refl, sym, ◌∙◌, ap, subst, arith}
use Rattle.std.specs.Prelude.{◌%◌, slice_get, slice_index, AllPairs, codes}
use Rattle.std.proofs.Math.Nat.{mod_self, mod-eq_of_lt, mod-lt}
use Rattle.std.proofs.Math.ListN.{get_or-append}
use Rattle.std.proofs.lemmas.Bool.{cases_lt}
use Rattle.std.proofs.lemmas.List.{get_or_default}
use Rattle.std.proofs.lemmas.Option.{slice_get_cases, none-some, same_Some}
use Rattle.dg_model.specs.declared.diagram.Block.{Block}
use Rattle.dg_model.specs.declared.diagram.Diagram.{Diagram}
use Rattle.dg_model.specs.declared.fault.RuleFault.{RuleFault}
use Rattle.dg_model.specs.declared.fault.Shown.{Shown}
use Rattle.dg_model.specs.declared.fault.Shown.TheVariants.{Nothing, Word, Cycle}
use Rattle.dg_model.specs.declared.rule.Rule.{Rule}
use Rattle.dg_model.specs.Attributes.{attributes_of}
use Rattle.dg_model.specs.Checked.{IsChecked, BreaksRule}
use Rattle.dg_model.specs.Dimension.{KeepsDimension, KeepsDimensions}
use Rattle.dg_model.specs.Faults.{path_of, fault_of, AllKeep, BreaksAt, IsFirstBroken}
use Rattle.dg_model.specs.Loop.{LeadsNow, IsInstantCycle, KeepsLoop, BreaksLoop}
use Rattle.dg_model.specs.Periods.{periods_of}
use Rattle.dg_model.specs.Rate.{KeepsDeclared, KeepsPeriods, KeepsRates, shown_periods}
use Rattle.dg_model.specs.Signals.{Attributes}
use Rattle.dg_model.specs.TypeRounds.{types_of}
use Rattle.dg_model.specs.TypeRule.{IsNotWide, HasTypes, HasAgreeing, KeepsTypes}
use Rattle.dg_model.specs.Widths.{widths_of}
use Rattle.dg_model.specs.Wired.{IsWired}

-- ---- a part of a rule

abbrev KeepTo : Diagram → (ℕ → Block → Type 0) → ℕ → Type 0
KeepTo diagram Keeps count = (place : ℕ) (block : Block) → place < count → slice_get diagram.blocks place ≡ Some block → Keeps place block

one_more : (diagram : Diagram) (Keeps : ℕ → Block → Type 0) (count : ℕ) → KeepTo diagram Keeps count
    → ((block : Block) → slice_get diagram.blocks count ≡ Some block → Keeps count block)
    → KeepTo diagram Keeps (suc count)
one_more diagram Keeps count kept here place block less there = elim (cases_lt place count) [
  | inl before ↦ kept place block before there
  | inr at ↦
      let same : count ≡ place = omega (arith, at, less) in
      subst (λ (p : ℕ). Keeps p block) same (here block (ap (slice_get diagram.blocks) same ∙ there))
]

kept_below : (diagram : Diagram) (Keeps : ℕ → Block → Type 0) → ((place : ℕ) (block : Block) → IsFirstBroken diagram Keeps place block → ⊥) → (count : ℕ) → (KeepTo diagram Keeps count → ⊥) → ⊥
kept_below diagram Keeps none zero never = never (λ place block less there. absurd (omega (arith, less)))
kept_below diagram Keeps none (suc count) never = kept_below diagram Keeps none count (λ kept. by (slice_get diagram.blocks count) refl kept)
  where
    by : (found : Option Block) → slice_get diagram.blocks count ≡ found → KeepTo diagram Keeps count → ⊥
    by None is kept = never (one_more diagram Keeps count kept (λ block there. absurd (none-some block (sym is ∙ there))))
    by (Some b) is kept = none count b (record {
      there = is;
      broken = λ keeps. never (one_more diagram Keeps count kept (λ block there. subst (λ (x : Block). Keeps count x) (same_Some b block (sym is ∙ there)) keeps));
      before = λ other o less there. kept other o less there;
    })

-- all blocks keep it, or there is a first that doesn't
kept_or_first : (diagram : Diagram) (Keeps : ℕ → Block → Type 0) → ((place : ℕ) (block : Block) → IsFirstBroken diagram Keeps place block → ⊥) → (AllKeep diagram Keeps → ⊥) → ⊥
kept_or_first diagram Keeps none never = kept_below diagram Keeps none (length diagram.blocks) (λ kept. never (λ place block there. kept place block (inside place block there) there))
  where
    inside : (place : ℕ) (block : Block) → slice_get diagram.blocks place ≡ Some block → place < length diagram.blocks
    inside place block there = elim (slice_get_cases diagram.blocks place).1 [
      | inl has ↦ has.1
      | inr past ↦ absurd (none-some block (sym past.1 ∙ there))
    ]

broken_at : (diagram : Diagram) (rule : Rule) (Keeps : ℕ → Block → Type 0) (shown : ℕ → Block → Shown) (place : ℕ)
    (block : Block) → IsFirstBroken diagram Keeps place block
    → BreaksAt diagram rule Keeps shown (fault_of rule (path_of diagram place) (shown place block))
broken_at diagram rule Keeps shown place block first = record { place = place; block = block; first = first; fault_is = refl }

-- ---- cycles

-- a cycle from its second block on
turned_at : (x : ℕ) (xs : List ℕ) (j : ℕ) → j < suc (length xs) → slice_index (xs ++ x ∷ []) j ≡ slice_index (x ∷ xs) (suc j % suc (length xs))
turned_at x xs j below = elim (cases_lt j (length xs)) [
  | inl inner ↦ get_or-append xs (x ∷ []) 0 j inner ∙ ap (slice_index (x ∷ xs)) (sym (mod-eq_of_lt {n = suc j} {m = suc (length xs)} (omega (arith, inner))))
  | inr last ↦
      let whole : j ≡ length xs = omega (arith, last, below) in
      ap (slice_index (xs ++ x ∷ [])) whole ∙ last_at xs ∙ ap (slice_index (x ∷ xs)) (sym (ap (λ (n : ℕ). suc n % suc (length xs)) whole ∙ mod_self (suc (length xs))))
] where
  last_at : (ys : List ℕ) → slice_index (ys ++ x ∷ []) (length ys) ≡ x
  last_at [] = refl
  last_at (y ∷ ys) = last_at ys

turned_differ : (x : ℕ) (xs : List ℕ) → AllPairs (λ block other. block ≢ other) (x ∷ xs) → (i j : ℕ) → i < j → j < suc (length xs) → slice_index (xs ++ x ∷ []) i ≢ slice_index (xs ++ x ∷ []) j
turned_differ x xs differ i j less below same = elim (cases_lt j (length xs)) [
  | inl inner ↦ differ (suc i) (suc j) 0 (omega (arith, less)) (omega (arith, inner))
      (sym (get_or-append xs (x ∷ []) 0 i (omega (arith, less, inner))) ∙ same ∙ get_or-append xs (x ∷ []) 0 j inner)
  | inr last ↦
      let whole : suc j ≡ suc (length xs) = omega (arith, last, below) in
      let first : slice_index (xs ++ x ∷ []) j ≡ x = turned_at x xs j below ∙ ap (slice_index (x ∷ xs)) (ap (λ (n : ℕ). n % suc (length xs)) whole ∙ mod_self (suc (length xs))) in
      differ 0 (suc i) 0 (omega arith) (omega (arith, less, below))
      (sym first ∙ sym same ∙ get_or-append xs (x ∷ []) 0 i (omega (arith, less, below)))
]

long_turned : (x : ℕ) (xs : List ℕ) → length (xs ++ x ∷ []) ≡ suc (length xs)
long_turned x [] = refl
long_turned x (y ∷ xs) = ap suc (long_turned x xs)

turned : (diagram : Diagram) (attributes : Attributes) (x : ℕ) (xs : List ℕ) → IsInstantCycle diagram attributes (x ∷ xs) → IsInstantCycle diagram attributes (xs ++ x ∷ [])
turned diagram attributes x xs is = record {
  some = omega (arith, long_turned x xs);
  different = λ i j d less below. λ same.
      let inside : j < suc (length xs) = omega (arith, below, long_turned x xs) in
      turned_differ x xs is.different i j less inside
      (get_or_default (xs ++ x ∷ []) i 0 d (omega (arith, less, below)) ∙ same ∙ get_or_default (xs ++ x ∷ []) j d 0 below);
  leads = λ k below.
      let inside : k < suc (length xs) = omega (arith, below, long_turned x xs) in
      let next : ℕ = suc k % suc (length xs) in
      let within : next < suc (length xs) = mod-lt (suc k) {m = suc (length xs)} (omega arith) in
      let round : suc k % length (xs ++ x ∷ []) ≡ next = ap (λ (n : ℕ). suc k % n) (long_turned x xs) in
      subst (λ (n : ℕ). LeadsNow diagram attributes (slice_index (xs ++ x ∷ []) k) (slice_index (xs ++ x ∷ []) n)) (sym round)
      (subst (λ (b : ℕ). LeadsNow diagram attributes b (slice_index (xs ++ x ∷ []) next)) (sym (turned_at x xs k inside))
      (subst (λ (b : ℕ). LeadsNow diagram attributes (slice_index (x ∷ xs) next) b) (sym (turned_at x xs next within)) (is.leads next within)));
}

-- a cycle begun with any of its blocks
begun_at : (diagram : Diagram) (attributes : Attributes) (k : ℕ) (cycle : List ℕ)
    → IsInstantCycle diagram attributes cycle → k < length cycle
    → (more : List ℕ) × IsInstantCycle diagram attributes (slice_index cycle k ∷ more)
begun_at diagram attributes k [] is below = absurd (omega (arith, below))
begun_at diagram attributes zero (x ∷ xs) is below = (xs, is)
begun_at diagram attributes (suc k) (x ∷ xs) is below =
    let found = begun_at diagram attributes k (xs ++ x ∷ []) (turned diagram attributes x xs is) (omega (arith, below, long_turned x xs)) in
    (found.0, subst (λ (b : ℕ). IsInstantCycle diagram attributes (b ∷ found.0)) (get_or-append xs (x ∷ []) 0 k (omega (arith, below))) found.1)

-- where no cycle begins with the least block on any, there is none
no_cycle : (diagram : Diagram) (attributes : Attributes)
    → ((fault : RuleFault) → BreaksLoop diagram attributes fault → ⊥) → (count first : ℕ) (more : List ℕ)
    → first < count → IsInstantCycle diagram attributes (first ∷ more) → ⊥
no_cycle diagram attributes none zero first more below is = omega (arith, below)
no_cycle diagram attributes none (suc count) first more below is =
    none (fault_of Rule.Loop (path_of diagram first) (Cycle (first ∷ more))) (record {
      first = first;
      more = more;
      is_cycle = is;
      least = λ other cycle k d inside. elim (cases_lt (slice_index other k) first) [
        | inl less ↦
            let found = begun_at diagram attributes k other cycle inside in
            absurd (no_cycle diagram attributes none count (slice_index other k) (found.0) (omega (arith, less, below)) (found.1))
        | inr at_least ↦ omega (arith, at_least, get_or_default other k 0 d inside)
      ];
      fault_is = refl;
    })

kept_loop : (diagram : Diagram) (attributes : Attributes) → ((fault : RuleFault) → BreaksLoop diagram attributes fault → ⊥) → KeepsLoop diagram attributes
kept_loop diagram attributes none [] is = absurd (omega (arith, is.some))
kept_loop diagram attributes none (first ∷ more) is = no_cycle diagram attributes none (suc first) first more (omega arith) is

-- ---- the rules

kept_dimensions : (diagram : Diagram) → ((fault : RuleFault) → BreaksRule diagram fault → ⊥) → (KeepsDimensions diagram → ⊥) → ⊥
kept_dimensions diagram none never =
    kept_or_first diagram (KeepsDimension diagram (widths_of diagram)) (λ place block first. none _ (inl (inl (broken_at diagram Rule.Dimension _ (λ p b. Nothing) place block first))))
    (λ blocks. none (fault_of Rule.Dimension [] Nothing) (inl (inr (record { blocks = blocks; unbounded = λ bounded. never (record { blocks = blocks; bounded = bounded }); fault_is = refl }))))

kept_types : (diagram : Diagram) → KeepsDimensions diagram → ((fault : RuleFault) → BreaksRule diagram fault → ⊥) → (KeepsTypes diagram → ⊥) → ⊥
kept_types diagram dimensions none never =
    kept_or_first diagram (IsNotWide diagram (types_of diagram))
    (λ place block first. none _ (inr (inl (record { dimensions = dimensions; types = inl (broken_at diagram Rule.Type _ (λ p b. Word (codes "wide")) place block first) }))))
    (λ narrow. kept_or_first diagram (HasTypes diagram (types_of diagram))
    (λ place block first. none _ (inr (inl
    (record {
      dimensions = dimensions;
      types =
          inr (inl (record {
            narrow = narrow;
            unknown =
                broken_at diagram Rule.Type _ (λ p b. Word (codes "missing")) place block first;
          }));
    }))))
    (λ known. kept_or_first diagram (HasAgreeing diagram (types_of diagram))
    (λ place block first. none _ (inr (inl
    (record {
      dimensions = dimensions;
      types =
          inr (inr (record {
            narrow = narrow;
            known = known;
            differ =
                broken_at diagram Rule.Type _ (λ p b. Word (codes "differs")) place block first;
          }));
    }))))
    (λ agree. never (record { narrow = narrow; known = known; agree = agree }))))

kept_rates : (diagram : Diagram) → KeepsDimensions diagram → KeepsTypes diagram → ((fault : RuleFault) → BreaksRule diagram fault → ⊥) → (KeepsRates diagram → ⊥) → ⊥
kept_rates diagram dimensions types none never =
    kept_or_first diagram (KeepsDeclared diagram)
    (λ place block first. none _ (inr (inr (inl (record { dimensions = dimensions; types = types; rates = inl (broken_at diagram Rule.Rate _ (λ p b. Word (codes "declared")) place block first) })))))
    (λ declared. kept_or_first diagram (KeepsPeriods diagram (periods_of diagram))
    (λ place block first. none _ (inr (inr
    (inl (record {
      dimensions = dimensions;
      types = types;
      rates =
          inr (record {
            declared = declared;
            periods =
                broken_at diagram Rule.Rate _ (shown_periods diagram (periods_of diagram)) place block first;
          });
    })))))
    (λ periods. never (record { declared = declared; periods = periods })))

pub some_rule : (diagram : Diagram) → IsWired diagram → (IsChecked diagram → ⊥) → ((fault : RuleFault) → BreaksRule diagram fault → ⊥) → ⊥
some_rule diagram wired not none =
    kept_dimensions diagram none (λ dimensions.
    kept_types diagram dimensions none (λ types.
    kept_rates diagram dimensions types none (λ rates.
    not (record {
      wired = wired;
      dimensions = dimensions;
      types = types;
      rates = rates;
      loops = kept_loop diagram (attributes_of diagram) (λ fault breaks. none fault (inr (inr (inr (record { dimensions = dimensions; types = types; rates = rates; loops = breaks })))));
    }))))
