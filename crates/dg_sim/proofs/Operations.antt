-- The rule of an operation whose inputs and signs were put behind the others.
use Rattle.std.proofs.Common.{◌≡◌, ℕ, ◌≤◌, ◌+◌, ◌++◌, Bool, List, [], length, sym, ◌∙◌, ap, ap₂, refl, arith, append-nil, length-append}
use Rattle.fx_type.specs.declared.kind.FxType.{FxType}
use Rattle.dg_model.specs.declared.diagram.Diagram.{Diagram}
use Rattle.dg_model.specs.declared.diagram.Block.{Block}
use Rattle.dg_model.specs.declared.op.Op.{Op}
use Rattle.dg_model.specs.Signals.{Attributes}
use Rattle.dg_model.specs.Equation.{IsOpOf, signs_of}
use Rattle.dg_model.specs.Operation.{CanPrepare}
use Rattle.dg_model.specs.Wires.{type_into, types_into}
use Rattle.dg_tables.specs.declared.entries.Place.{Place}
use Rattle.dg_sim.specs.declared.program.Work.{Work}
use Rattle.dg_sim.specs.declared.program.Program.{Program}
use Rattle.dg_sim.specs.declared.program.Rule.TheVariants.{Works}
use Rattle.dg_sim.specs.Program.{part, operation_at}
use Rattle.dg_sim.specs.inner.ProgramSteps.{AreRead, IsMade, IsElementwise}
use Rattle.dg_tables.specs.Entries.{AreEntries}
use Rattle.math_list.proofs.Numbers.{length_mapped}
use Rattle.dg_sim.proofs.RuleEquations.{part_last, operation_of_block, work_rule}

pub part_there : {A : Type 0} (old more all : List A) (first count : ℕ) → all ≡ old ++ more → first ≡ length old → count ≡ length more → part all first count ≡ more
part_there old more all first count e at size =
    ap₂ (λ (xs : List _) (n : ℕ). part xs n count) e at ∙ ap (λ (n : ℕ). part (old ++ more) (length old) n) size ∙ part_last old more

pub end_there : {A : Type 0} (old more all : List A) (first count : ℕ) → all ≡ old ++ more → first ≡ length old → count ≡ length more → first + count ≤ length all
end_there old more all first count e at size = let long : length all ≡ length old + length more = ap length e ∙ length-append old more in omega (arith, long, at, size)

module _ (diagram : Diagram) (attributes : Attributes) (old : Program) (k : ℕ) (place : Place) (b : Block) (op : Op) (first first_sign signs : ℕ) (result : FxType)
    (numbers args : List ℕ) (types : List FxType) (negative all_signs : List Bool)
  where
    abbrev new : Program
    new = record { places = old.places; cells = old.cells; args = args; types = types; signs = all_signs; memories = old.memories; outputs = old.outputs }

    abbrev work : Work
    work = record { op = op; first = first; count = b.inputs; first_sign = first_sign; signs = signs; result = result; rounding = b.rounding; saturate = b.saturate }

    pub works_made : IsElementwise diagram attributes b place → AreEntries diagram attributes old.places
        → IsOpOf b.kind place.element (attributes.param_at place.block)
        (type_into diagram attributes place.block 2) op
        → CanPrepare (operation_of_block diagram attributes old k place b op) → b.inputs ≤ 32 → result ≡ attributes.type_at place.block 1
        → first ≡ length old.args → first ≡ length old.types → first_sign ≡ length old.signs → signs ≡ length negative → negative ≡ signs_of b.kind
        → length numbers ≡ b.inputs → args ≡ old.args ++ numbers
        → AreRead diagram attributes old.places place.block place.element k numbers
        → types ≡ old.types ++ types_into diagram attributes place.block b.inputs
        → all_signs ≡ old.signs ++ negative
        → IsMade diagram attributes old new k place (Works work)
    works_made elementwise entries is_op prepared few result_is first_is first_type sign_is signs_are negative_is size args_is are types_is all_is = record {
      grows = record {
        places = refl;
        cells = refl;
        args = (numbers, args_is);
        types = (types_into diagram attributes place.block b.inputs, types_is);
        paired = λ same.
            let more : length (types_into diagram attributes place.block b.inputs) ≡ b.inputs = length_mapped (type_into diagram attributes place.block) 1 b.inputs in
            omega (arith, same, size, more, ap length args_is ∙ length-append old.args numbers, ap length types_is ∙ length-append old.types (types_into diagram attributes place.block b.inputs));
        signs = (negative, all_is);
        memories = ([], sym (append-nil old.memories));
        few = omega arith;
      };
      memories = λ are_memories m memory at. let is = are_memories m memory at in (is.0, record { block_is = is.1.block_is; room = is.1.room; some = is.1.some; moves = is.1.moves; from = is.1.from });
      made = work_rule diagram attributes new k place b op work numbers is_op elementwise same
          (part_there old.args numbers args first b.inputs args_is first_is (sym size)) size are prepared entries few
          (end_there old.args numbers args first b.inputs args_is first_is (sym size))
          (end_there old.types (types_into diagram attributes place.block b.inputs) types first b.inputs types_is
          first_type (sym (length_mapped (type_into diagram attributes place.block) 1 b.inputs)))
          (end_there old.signs negative all_signs first_sign signs all_is sign_is signs_are);
    }
      where
        same_types : part types first b.inputs ≡ types_into diagram attributes place.block b.inputs
        same_types = part_there old.types (types_into diagram attributes place.block b.inputs) types first b.inputs
            types_is first_type (sym (length_mapped (type_into diagram attributes place.block) 1 b.inputs))

        same_signs : part all_signs first_sign signs ≡ signs_of b.kind
        same_signs = part_there old.signs negative all_signs first_sign signs all_is sign_is signs_are ∙ negative_is

        same : operation_at new work ≡ operation_of_block diagram attributes new k place b op
        same =
            ap₂ (λ (signs : List Bool) (types : List FxType). record { op = op; signs = signs; types = types; result = result; rounding = b.rounding; saturate = b.saturate }) same_signs same_types
            ∙ ap (λ (type : FxType). record {
              op = op;
              signs = signs_of b.kind;
              types =
                  types_into diagram attributes place.block b.inputs;
              result =
                  type;
              rounding = b.rounding;
              saturate = b.saturate;
            }) result_is
