-- A program that grows keeps its rules.
use Rattle.std.proofs.Common.{◌≡◌, ℕ, ◌<◌, ◌≤◌, ◌+◌, ◌++◌, List, [], length, map, slice_get, sym, ◌∙◌, subst, subst₂, ap, refl, arith, append-nil, length-append, ℤ, pos, int_lt, Bool, ap₂}
use Rattle.std.specs.List.{list_any}
use Rattle.fx_type.specs.declared.kind.FxType.{FxType}
use Rattle.dg_model.specs.declared.diagram.Diagram.{Diagram}
use Rattle.dg_model.specs.Signals.{Attributes}
use Rattle.dg_model.specs.Operation.{Operation, OpGives, CanCarryOut, stored_truth}
use Rattle.dg_tables.specs.declared.entries.Place.{Place}
use Rattle.dg_sim.specs.declared.program.Work.{Work}
use Rattle.dg_sim.specs.declared.program.Program.{Program}
use Rattle.dg_sim.specs.declared.program.Memory.{Memory}
use Rattle.dg_sim.specs.declared.program.Rule.{Rule}
use Rattle.dg_sim.specs.declared.program.Rule.TheVariants.{Input, Fixed, Same, Works, Above, Past, Slower, Held, Reset}
use Rattle.dg_sim.specs.Program.{part, operation_at, Gives, CanGive, IsWithin}
use Rattle.dg_sim.specs.Sim.{Agrees}
use Rattle.dg_sim.specs.inner.ProgramSteps.{Grows, IsAlways, IsMade, IsRule}
use Rattle.math_list.proofs.Places.{get_left}
use Rattle.dg_sim.proofs.RuleEquations.{part_more, fixed_rule}

pub grows_same : (program : Program) → Grows program program
grows_same program = record {
  places = refl;
  cells = refl;
  args = ([], sym (append-nil program.args));
  types = ([], sym (append-nil program.types));
  paired = λ same. same;
  signs = ([], sym (append-nil program.signs));
  memories = ([], sym (append-nil program.memories));
  few = omega arith;
}

-- nothing is put for a block whose value never changes
pub fixed_made : (diagram : Diagram) (attributes : Attributes) (program : Program) (k : ℕ) (place : Place) (v : ℤ)
    → IsAlways diagram attributes place v → IsMade diagram attributes program program k place (Fixed v)
fixed_made diagram attributes program k place v is = record { grows = grows_same program; memories = λ are. are; made = fixed_rule diagram attributes program k place v is }

module _ (old new : Program) (grows : Grows old new) where
  args_part : (first count : ℕ) → first + count ≤ length old.args → part new.args first count ≡ part old.args first count
  args_part first count within = ap (λ (xs : List ℕ). part xs first count) grows.args.1 ∙ part_more old.args grows.args.0 first count within

  longer : {A : Type 0} (xs ys : List A) (zs : List A) (n : ℕ) → zs ≡ xs ++ ys → n ≤ length xs → n ≤ length zs
  longer xs ys zs n e h = let size : length zs ≡ length xs + length ys = ap length e ∙ length-append xs ys in omega (arith, size, h)

  longer_below : {A : Type 0} (xs ys : List A) (zs : List A) (n : ℕ) → zs ≡ xs ++ ys → n < length xs → n < length zs
  longer_below xs ys zs n e h = let size : length zs ≡ length xs + length ys = ap length e ∙ length-append xs ys in omega (arith, size, h)

  pub within_grows : (rule : Rule) → IsWithin old rule → IsWithin new rule
  within_grows (Input column) h = h
  within_grows (Fixed value) h = h
  within_grows (Same from) h = h
  within_grows (Works work) h = (
    longer old.args grows.args.0 new.args (work.first + work.count) grows.args.1 h.0,
    longer old.types grows.types.0 new.types (work.first + work.count) grows.types.1 h.1,
    longer old.signs grows.signs.0 new.signs (work.first_sign + work.signs) grows.signs.1 h.2,
  )
  within_grows (Above first count) h = longer old.args grows.args.0 new.args (first + count) grows.args.1 h
  within_grows (Past memory age initial) h = longer_below old.memories grows.memories.0 new.memories memory grows.memories.1 h
  within_grows (Slower memory period initial) h = longer_below old.memories grows.memories.0 new.memories memory grows.memories.1 h
  within_grows (Held memory from control initial) h = longer_below old.memories grows.memories.0 new.memories memory grows.memories.1 h
  within_grows (Reset from control initial) h = h

  same_operation : (work : Work) → work.first + work.count ≤ length old.types → work.first_sign + work.signs ≤ length old.signs → operation_at new work ≡ operation_at old work
  same_operation work types signs =
      ap₂ (λ (signs : List Bool) (types : List FxType). record { op = work.op; signs = signs; types = types; result = work.result; rounding = work.rounding; saturate = work.saturate })
      (ap (λ (xs : List Bool). part xs work.first_sign work.signs) grows.signs.1 ∙ part_more old.signs grows.signs.0 work.first_sign work.signs signs)
      (ap (λ (xs : List FxType). part xs work.first work.count) grows.types.1 ∙ part_more old.types grows.types.0 work.first work.count types)

  gives_back : (look : ℕ → ℤ) (kept : ℕ → List ℤ) (row : List ℤ) (t : ℕ) (v : ℤ) (rule : Rule) → IsWithin old rule → Gives new look kept row t rule v → Gives old look kept row t rule v
  gives_back look kept row t v (Works work) h gives =
      subst₂ (λ (operation : Operation) (values : List ℤ). OpGives operation values v) (same_operation work h.1 h.2) (ap (map look) (args_part work.first work.count h.0)) gives
  gives_back look kept row t v (Above first count) h gives = gives ∙ ap (λ (xs : List ℕ). stored_truth (list_any (λ x. int_lt (pos 0) x) (map look xs))) (args_part first count h)
  gives_back look kept row t v (Input column) h gives = gives
  gives_back look kept row t v (Fixed value) h gives = gives
  gives_back look kept row t v (Same from) h gives = gives
  gives_back look kept row t v (Past memory age initial) h gives = gives
  gives_back look kept row t v (Slower memory period initial) h gives = gives
  gives_back look kept row t v (Held memory from control initial) h gives = gives
  gives_back look kept row t v (Reset from control initial) h gives = gives

  can_forth : (look : ℕ → ℤ) (rule : Rule) → IsWithin old rule → CanGive old look rule → CanGive new look rule
  can_forth look (Works work) h can = (
    can.0,
    longer old.args grows.args.0 new.args (work.first + work.count) grows.args.1 h.0,
    longer old.types grows.types.0 new.types (work.first + work.count) grows.types.1 h.1,
    longer old.signs grows.signs.0 new.signs (work.first_sign + work.signs) grows.signs.1 h.2,
    subst₂ CanCarryOut (sym (same_operation work h.1 h.2)) (sym (ap (map look) (args_part work.first work.count h.0))) can.4,
  )
  can_forth look (Above first count) h can = longer old.args grows.args.0 new.args (first + count) grows.args.1 h
  can_forth look (Input column) h can = can
  can_forth look (Fixed value) h can = can
  can_forth look (Same from) h can = can
  can_forth look (Past memory age initial) h can = can
  can_forth look (Slower memory period initial) h can = can
  can_forth look (Held memory from control initial) h can = can
  can_forth look (Reset from control initial) h can = can

  pub rule_grows : (diagram : Diagram) (attributes : Attributes) (k : ℕ) (place : Place) (rule : Rule) → IsRule diagram attributes old k place rule → IsRule diagram attributes new k place rule
  rule_grows diagram attributes k place rule is = record {
    within = within_grows rule is.within;
    serves = λ stimulus table t look kept row v agrees keep row_is hit gives.
        is.serves stimulus table t look kept row v
        (subst (λ (places : List Place). Agrees diagram attributes places k look table t) grows.places agrees)
        (λ m memory b at block_is. keep m memory b (ap (λ (memories : List Memory). slice_get memories m) grows.memories.1 ∙ get_left old.memories grows.memories.0 m memory at) block_is)
        row_is hit (gives_back look kept row t v rule is.within gives);
    can = λ table t look agrees in_range. can_forth look rule is.within
        (is.can table t look (subst (λ (places : List Place). Agrees diagram attributes places k look table t)
        grows.places agrees) in_range);
  }
