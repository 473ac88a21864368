-- The text of a check of the whole model is the one that was worked out by hand.
use Rattle.std.proofs.Common.{◌≡◌, ◌≢◌, ℕ, zero, suc, ◌<◌, List, [], ◌∷◌, Some, None, slice_get, length, map, drop, codes, refl, sym, ap, subst, ◌∙◌, arith, ◌+◌, true, false, true≢false}
use Rattle.std.specs.Prelude.{slice_index_or}
use Rattle.std.specs.Fmt.{digits}
use Rattle.std.proofs.Math.Dec.{lit<}
use Rattle.std.proofs.lemmas.Option.{none-some, same_Some}
use Rattle.cmd_check.specs.CheckText.{IsCheckText, Output, block_line, begun_block, check_text, head_text, named, output_line, period_text, port_text, step_text}
use Rattle.cmd_check.specs.Paths.{IsTightPath, LeadsTightly}
use Rattle.dg_model.specs.Attributes.{attributes_of}
use Rattle.dg_model.specs.RootElements.{root_inputs, root_outputs}
use Rattle.dg_model.specs.Signals.{Attributes}
use Rattle.hw_arcs.specs.declared.arc.Arc.{Arc}
use Rattle.hw_arcs.specs.Latencies.{IsTightArc, latency_at}
use Rattle.hw_latency.specs.Weight.{arcs_with, latency_arcs}
use Rattle.math_list.proofs.ByRecursion.{pairs_of}
use Rattle.hw_names.specs.Names.{AreNames}
use Rattle.tests_premises.specs.Told.{ChecksTell, asking, loose, round, silent, whole_check}
use Rattle.tests_premises.specs.Whole.{arc, arcs, diagram, resolved, timing, whole_names}
use Rattle.tests_premises.proofs.WholeNames.{names_are, whole_are_names}
use Rattle.tests_premises.proofs.WholePlan.{arcs_are}
use Rattle.tests_premises.proofs.WholeRules.{attributes, attributes_known}

-- ---- a tight way to the output is from the Gain
late-is : (block : ℕ) → 0 < latency_at timing.lat block → block ≡ 2
late-is zero late = absurd (omega (arith, late))
late-is (suc zero) late = absurd (omega (arith, late))
late-is (suc (suc zero)) late = refl
late-is (suc (suc (suc block))) late = absurd (omega (arith, late))

from-gain : (from : ℕ) → LeadsTightly arcs timing.lat from 2 → from ≡ 1
from-gain from leads = by_number leads.number leads.tight.at
  where
    by_number : (number : ℕ) → slice_get arcs number ≡ Some leads.tight.arc → from ≡ 1
    by_number zero at =
        let to : 1 ≡ leads.tight.arc.to = ap (λ (a : Arc). a.to) (same_Some (arc 0 1 0) leads.tight.arc at) in
        let ends = leads.tight.ends in absurd (omega (arith, to, ends))
    by_number (suc zero) at =
        let source : 1 ≡ leads.tight.arc.from = ap (λ (a : Arc). a.from) (same_Some (arc 1 2 1) leads.tight.arc at) in
        let begins = leads.begins in omega (arith, source, begins)
    by_number (suc (suc number)) at = absurd (none-some leads.tight.arc at)

only-end : (block last : ℕ) → slice_get (block ∷ []) last ≡ Some 2 → block ≡ 2
only-end block zero at = same_Some block 2 at
only-end block (suc last) at = absurd (none-some 2 at)

way-is : (path : List ℕ) → IsTightPath arcs timing.lat 2 path → path ≡ 1 ∷ 2 ∷ []
way-is [] way = absurd (none-some way.first way.begins)
way-is (a ∷ []) way =
    let is : a ≡ 2 = only-end a way.last way.ends in
    let early : latency_at timing.lat a ≡ 0 = subst (λ (x : ℕ). latency_at timing.lat x ≡ 0) (sym (same_Some a way.first way.begins)) way.early in
    let late : latency_at timing.lat 2 ≡ 0 = subst (λ (x : ℕ). latency_at timing.lat x ≡ 0) is early in
    absurd (omega (arith, late))
way-is (a ∷ b ∷ []) way =
    let step = way.leads 0 a b refl refl in
    let second : b ≡ 2 = late-is b step.0 in
    let first : a ≡ 1 = from-gain a (subst (λ (x : ℕ). LeadsTightly arcs timing.lat a x) second step.1) in
    ap (λ (x : ℕ). x ∷ b ∷ []) first ∙ ap (λ (x : ℕ). 1 ∷ x ∷ []) second
way-is (a ∷ b ∷ c ∷ path) way =
    let second : b ≡ 2 = late-is b (way.leads 0 a b refl refl).0 in
    let step = way.leads 1 b c refl refl in
    let third : c ≡ 2 = late-is c step.0 in
    let again : b ≡ 1 = from-gain b (subst (λ (x : ℕ). LeadsTightly arcs timing.lat b x) third step.1) in
    absurd (omega (arith, second, again))

longer : (path : List ℕ) (x : ℕ) → slice_get path 2 ≡ Some x → ¬ IsTightPath arcs timing.lat 2 path
longer path x at way = none-some x (sym (ap (λ (p : List ℕ). slice_get p 2) (way-is path way)) ∙ at)

shorter : (path : List ℕ) → slice_get path 1 ≡ None → ¬ IsTightPath arcs timing.lat 2 path
shorter path at way = none-some 2 (sym at ∙ ap (λ (p : List ℕ). slice_get p 1) (way-is path way))

not-again : ¬ IsTightPath round (0 ∷ 1 ∷ 1 ∷ []) 2 (0 ∷ 1 ∷ 2 ∷ 1 ∷ 2 ∷ [])
not-again way = way.different 1 3 0 (lit< tt) (lit< tt) refl

not-unknown : ¬ IsTightPath arcs timing.lat 3 (3 ∷ [])
not-unknown way = let below = way.there 0 3 refl in absurd (omega (arith, below))

abbrev both : List ℕ
both = 0 ∷ 1 ∷ []

-- it ends where the path ends
not-past : ¬ IsTightPath asking (0 ∷ 1 ∷ []) 0 (0 ∷ 1 ∷ [])
not-past way = by_last way.last way.ends (way.whole 1 1 refl)
  where
    by_last : (last : ℕ) → slice_get both last ≡ Some 0 → 1 < suc last → ⊥
    by_last zero ends within = omega (arith, within)
    by_last (suc zero) ends within = let same : 1 ≡ 0 = same_Some 1 0 ends in omega (arith, same)
    by_last (suc (suc last)) ends within = none-some 0 ends

-- over a lone arc
not-by : (a : Arc) → (IsTightArc (a ∷ []) (0 ∷ 1 ∷ []) 1 0 → ⊥) → ¬ IsTightPath (a ∷ []) (0 ∷ 1 ∷ []) 1 (0 ∷ 1 ∷ [])
not-by a never way = by_number (way.leads 0 0 1 refl refl).1.number (way.leads 0 0 1 refl refl).1.tight
  where
    by_number : (number : ℕ) → IsTightArc (a ∷ []) (0 ∷ 1 ∷ []) 1 number → ⊥
    by_number zero tight = never tight
    by_number (suc number) tight = none-some tight.arc tight.at

not-spare : ¬ IsTightPath loose (0 ∷ 1 ∷ []) 1 (0 ∷ 1 ∷ [])
not-spare = not-by (arc 0 1 0) (λ tight.
    let equal : 0 + 0 ≡ 1 + 0 = subst (λ (a : Arc). latency_at (0 ∷ 1 ∷ []) a.from + a.gain ≡ 1 + a.slack) (sym (same_Some (arc 0 1 0) tight.arc tight.at)) tight.equal in
    omega (arith, equal))

abbrev mute : Arc
mute = record (arc 0 1 1) { counts = false }

not-uncounted : ¬ IsTightPath silent (0 ∷ 1 ∷ []) 1 (0 ∷ 1 ∷ [])
not-uncounted = not-by mute (λ tight.
    let counts : false ≡ true = subst (λ (a : Arc). a.counts ≡ true) (sym (same_Some mute tight.arc tight.at)) tight.counts in
    true≢false (sym counts))

-- ---- the outputs
abbrev output_of : List ℕ → Output
output_of name = record { name = name; block = 2; path = 1 ∷ 2 ∷ [] }

abbrev outputs : List Output
outputs = output_of (codes "y_0") ∷ output_of (codes "y_1") ∷ []

output-is : (output : Output) (name : List ℕ) → output.name ≡ name → output.block ≡ 2 → IsTightPath arcs timing.lat output.block output.path → output ≡ output_of name
output-is output name named at tight =
    let path : output.path ≡ 1 ∷ 2 ∷ [] = way-is output.path (subst (λ (b : ℕ). IsTightPath arcs timing.lat b output.path) at tight) in
    ap (λ (x : List ℕ). record { name = x; block = output.block; path = output.path }) named
    ∙ ap (λ (x : ℕ). record { name = name; block = x; path = output.path }) at
    ∙ ap (λ (x : List ℕ). record { name = name; block = 2; path = x }) path

abbrev AreTight : List Output → Type 0
AreTight given = (k : ℕ) (output : Output) → slice_get given k ≡ Some output → IsTightPath arcs timing.lat output.block output.path

outputs-are : (given : List Output) → map (λ output. output.name) given ≡ codes "y_0" ∷ codes "y_1" ∷ [] → map (λ output. output.block) given ≡ 2 ∷ 2 ∷ [] → AreTight given → given ≡ outputs
outputs-are [] names blocks tight = let size : 0 ≡ 2 = ap (λ (xs : List ℕ). length xs) blocks in absurd (omega (arith, size))
outputs-are (a ∷ []) names blocks tight = let size : 1 ≡ 2 = ap (λ (xs : List ℕ). length xs) blocks in absurd (omega (arith, size))
outputs-are (a ∷ b ∷ []) names blocks tight =
    let first = output-is a (codes "y_0") (ap (λ (xs : List (List ℕ)). slice_index_or xs 0 []) names) (ap (λ (xs : List ℕ). slice_index_or xs 0 0) blocks) (tight 0 a refl) in
    let second = output-is b (codes "y_1") (ap (λ (xs : List (List ℕ)). slice_index_or xs 1 []) names) (ap (λ (xs : List ℕ). slice_index_or xs 1 0) blocks) (tight 1 b refl) in
    ap (λ (x : Output). x ∷ b ∷ []) first ∙ ap (λ (x : Output). output_of (codes "y_0") ∷ x ∷ []) second
outputs-are (a ∷ b ∷ c ∷ given) names blocks tight =
    let size : suc (suc (suc (length (map (λ (output : Output). output.block) given)))) ≡ 2 =
    ap (λ (xs : List ℕ). length xs) blocks in absurd (omega (arith, size))

-- ---- what the outputs are asked for, by the attributes that are known
abbrev Asked : Attributes → List Output → Type 0
Asked a given =
    (map (λ output. output.name) given ≡ drop (length (root_inputs diagram a)) whole_names)
    × (map (λ output. output.block) given ≡ map (λ e. e.block) (root_outputs diagram a))

abbrev lat-arcs : latency_arcs diagram resolved timing.fed ≡ arcs
lat-arcs = subst (λ (a : Attributes). arcs_with diagram a resolved timing.fed ≡ arcs) (sym attributes_known) arcs_are

written : check_text diagram resolved timing outputs ≡ whole_check
unfolding block_line begun_block period_text port_text named step_text head_text output_line digits
written = refl

only : (text : List ℕ) → IsCheckText diagram resolved timing text → text ≡ whole_check
only text told =
    let names : told.names ≡ whole_names = names_are told.names told.named in
    let asked : Asked attributes told.outputs = subst (λ (a : Attributes). Asked a told.outputs) attributes_known
    (subst (λ (n : List (List ℕ)). map (λ output. output.name) told.outputs ≡ drop (length (root_inputs diagram (attributes_of diagram))) n) names told.are.names_are, told.are.blocks_are) in
    let tight : AreTight told.outputs = λ k output at. subst (λ (xs : List Arc). IsTightPath xs timing.lat output.block output.path) lat-arcs (told.are.tight k output at) in
    let are : told.outputs ≡ outputs = outputs-are told.outputs asked.0 asked.1 tight in
    told.text_is ∙ ap (check_text diagram resolved timing) are ∙ written

-- ---- and it is told
named-whole : AreNames diagram whole_names
named-whole = whole_are_names

way : IsTightPath arcs timing.lat 2 (1 ∷ 2 ∷ [])
way = record {
  first = 1;
  begins = refl;
  early = refl;
  last = 1;
  ends = refl;
  whole = within;
  there = there;
  leads = leads;
  different = pairs_of (λ (block other : ℕ). block ≢ other) (1 ∷ 2 ∷ []) (((λ (same : 1 ≡ 2). omega (arith, same)), tt), (tt, tt));
}
  where
    within : (k block : ℕ) → slice_get (1 ∷ 2 ∷ []) k ≡ Some block → k < 2
    within zero block at = omega arith
    within (suc zero) block at = omega arith
    within (suc (suc k)) block at = absurd (none-some block at)

    there : (k block : ℕ) → slice_get (1 ∷ 2 ∷ []) k ≡ Some block → block < 3
    there zero block at = let is = same_Some 1 block at in omega (arith, is)
    there (suc zero) block at = let is = same_Some 2 block at in omega (arith, is)
    there (suc (suc k)) block at = absurd (none-some block at)

    leads : (k from to : ℕ) → slice_get (1 ∷ 2 ∷ []) k ≡ Some from → slice_get (1 ∷ 2 ∷ []) (suc k) ≡ Some to → (0 < latency_at timing.lat to) × LeadsTightly arcs timing.lat from to
    leads zero from to at next =
        subst (λ (x : ℕ). (0 < latency_at timing.lat to) × LeadsTightly arcs timing.lat x to) (same_Some 1 from at)
        (subst (λ (x : ℕ). (0 < latency_at timing.lat x) × LeadsTightly arcs timing.lat 1 x) (same_Some 2 to next)
        (lit< tt, record { number = 1; tight = record { arc = arc 1 2 1; at = refl; counts = refl; ends = refl; equal = refl }; begins = refl }))
    leads (suc k) from to at next = absurd (none-some to next)

tight-outputs : AreTight outputs
tight-outputs zero output at = subst (λ (o : Output). IsTightPath arcs timing.lat o.block o.path) (same_Some (output_of (codes "y_0")) output at) way
tight-outputs (suc zero) output at = subst (λ (o : Output). IsTightPath arcs timing.lat o.block o.path) (same_Some (output_of (codes "y_1")) output at) way
tight-outputs (suc (suc k)) output at = absurd (none-some output at)

asked-outputs : Asked (attributes_of diagram) outputs
asked-outputs = subst (λ (a : Attributes). Asked a outputs) (sym attributes_known) (refl, refl)

told : IsCheckText diagram resolved timing whole_check
told = record {
  names = whole_names;
  named = named-whole;
  outputs = outputs;
  are = record {
    names_are = asked-outputs.0;
    blocks_are = asked-outputs.1;
    tight = λ k output at. subst (λ (xs : List Arc). IsTightPath xs timing.lat output.block output.path) (sym lat-arcs) (tight-outputs k output at);
  };
  text_is = sym written;
}

pub checks-tell : ChecksTell
checks-tell = record {
  told = told;
  only = only;
  before = longer (0 ∷ 1 ∷ 2 ∷ []) 2 refl;
  nothing = shorter [] refl;
  late = shorter (2 ∷ []) refl;
  apart = λ way. let same : 0 ≡ 1 = ap (λ (xs : List ℕ). slice_index_or xs 0 7) (way-is (0 ∷ 2 ∷ []) way) in absurd (omega (arith, same));
  short = shorter (1 ∷ []) refl;
  long = longer (1 ∷ 2 ∷ 2 ∷ []) 2 refl;
  again = not-again;
  unknown = not-unknown;
  past = not-past;
  spare = not-spare;
  uncounted = not-uncounted;
}
