-- The columns of a diagram and of its module are the same.
use Rattle.std.proofs.Common.{◌≡◌, ◌≤◌, ℕ, suc, ◌-◌, ◌^◌, ◌==◌, ◌||◌, true, false, List, [], ◌∷◌, length, map, slice_get, Some, refl, sym, ap, ap₂, subst, ◌∙◌, arith}
use Rattle.std.specs.Prelude.{if◌then◌else◌, neg_ℤ, pos, unwrap_or}
use Rattle.std.proofs.lemmas.Bool.{cond-false}
use Rattle.std.proofs.lemmas.Bool.Decides.{nat_tests}
use Rattle.std.proofs.lemmas.List.{length-map}
use Rattle.std.proofs.lemmas.Option.{same_Some}
use Rattle.math_list.proofs.Places.{map_there, there_map}
use Rattle.fx_type.specs.declared.kind.FxType.{FxType}
use Rattle.fx_type.specs.declared.kind.FxType.TheVariants.{Num, Logical}
use Rattle.fx_type.specs.FxType.{IsType, highest_of, is_signed, lowest_of, width_of}
use Rattle.fx_tables.specs.declared.table.Column.{Column}
use Rattle.dg_model.specs.declared.diagram.Block.{Block}
use Rattle.dg_model.specs.declared.diagram.Diagram.{Diagram}
use Rattle.dg_model.specs.declared.resolved.Resolved.{Resolved}
use Rattle.dg_model.specs.Attributes.{attributes_of}
use Rattle.dg_model.specs.Laws.{InputsAreListed}
use Rattle.dg_model.specs.RootElements.{RootElement, root_inputs, root_outputs}
use Rattle.dg_model.specs.Wired.{IsWired}
use Rattle.dg_response.specs.Response.{column_of as column_in, input_columns, output_columns, step_of as step_in}
use Rattle.cmd_generate.proofs.Ports.{input-at, input-period, inputs-many, output-numbers, output-of, outputs-are, outputs-many}
use Rattle.cmd_simulate.specs.Simulating.{output_periods}
use Rattle.hw_module.specs.Carries.{Carries}
use Rattle.hw_module.specs.Interface.{NamedElement, input_data, input_elements, output_data, output_elements}
use Rattle.hw_sched.specs.Slots.{Timing}
use Rattle.st_wrap.proofs.ColumnPorts.{got-in}
use Rattle.vl_ast.specs.declared.modules.Module.{Module}
use Rattle.vl_ast.specs.declared.modules.Port.{Port}
use Rattle.vl_ast.specs.Attributes.{step_of}
use Rattle.vl_ast.specs.Driven.{output_ports, stimulus_ports}
use Rattle.vl_ast.specs.Header.{input_port, output_port}
use Rattle.vl_replay.specs.Columns.{columns_of, column_of, highest, lowest}

-- two lists that give the same at each place
pub same-maps : {A B C : Type 0} (f : A → C) (g : B → C) (xs : List A) (ys : List B) → length xs ≡ length ys
    → ((k : ℕ) (x : A) (y : B) → slice_get xs k ≡ Some x → slice_get ys k ≡ Some y → f x ≡ g y)
    → map f xs ≡ map g ys
same-maps f g [] [] many each = refl
same-maps f g [] (y ∷ ys) many each = absurd (omega (arith, many))
same-maps f g (x ∷ xs) [] many each = absurd (omega (arith, many))
same-maps f g (x ∷ xs) (y ∷ ys) many each = ap₂ (λ c cs. c ∷ cs) (each 0 x y refl refl) (same-maps f g xs ys (omega (arith, many)) (λ k one other a b. each (suc k) one other a b))

-- the range of a port that has the word of a type
below-most : (width : ℕ) → width ≤ 127 → (width == 128) ≡ false
below-most width few = grind (arith, nat_tests, few)

low-is : (type : FxType) → IsType type → (if is_signed type || width_of type == 128 then neg_ℤ (pos (2 ^ (width_of type - 1))) else pos 0) ≡ lowest_of type
low-is (Num true width frac) valid = refl
low-is (Num false width frac) valid = cond-false (width == 128) (neg_ℤ (pos (2 ^ (width - 1)))) (pos 0) (below-most width valid.0.1)
low-is Logical valid = refl

high-is : (type : FxType) → IsType type → (if is_signed type || width_of type == 128 then pos (2 ^ (width_of type - 1) - 1) else pos (2 ^ width_of type - 1)) ≡ highest_of type
high-is (Num true width frac) valid = refl
high-is (Num false width frac) valid = cond-false (width == 128) (pos (2 ^ (width - 1) - 1)) (pos (2 ^ width - 1)) (below-most width valid.0.1)
high-is Logical valid = refl

module _ {core : Module} {diagram : Diagram} {plan : Resolved} {timing : Timing} (carries : Carries core diagram plan timing) where
  abbrev out_port : NamedElement → Port
  out_port e = output_port (output_data diagram plan timing e)

  -- the columns of its stimulus
  pub columns-are : InputsAreListed → IsWired diagram
      → ((block : ℕ) (b : Block) → slice_get diagram.blocks block ≡ Some b
      → IsType ((attributes_of diagram).type_at block 1))
      → columns_of (stimulus_ports core) ≡ input_columns diagram
  columns-are listed wired typed = same-maps column_of column_in (stimulus_ports core) (root_inputs diagram (attributes_of diagram)) (inputs-many carries) (λ k port root at there.
      let e = input-at carries k port at in
      let same : e.0.root ≡ root = same_Some e.0.root root (sym e.3 ∙ there) in
      let of = (listed diagram (attributes_of diagram) wired).elements_of k e.0.root e.3 in
      let valid : IsType e.0.root.type = subst (λ (r : RootElement). IsType r.type) (sym of.4) (typed e.0.root.block of.0 of.1) in
      let low : lowest (input_port (input_data e.0)) ≡ lowest_of e.0.root.type = low-is e.0.root.type valid in
      let high : highest (input_port (input_data e.0)) ≡ highest_of e.0.root.type = high-is e.0.root.type valid in
      let step = input-period carries e.0 (got-in (input_elements carries.names diagram) k e.0 e.1) in
      ap column_of (sym e.2) ∙ (λ i. record { low = low i; high = high i; period = unwrap_or (step i) 1 }) ∙ ap column_in same)

  -- how many outputs it has
  pub outputs-count : length (output_ports core) ≡ length (output_columns diagram)
  outputs-count = outputs-many carries ∙ sym (length-map (root_outputs diagram (attributes_of diagram)) column_in)

  -- and their periods
  pub periods-are : map step_of (output_ports core) ≡ output_periods diagram
  periods-are = same-maps step_of (λ (column : Column). column.period) (output_ports core) (output_columns diagram) outputs-count (λ k port column at there.
      let root = map_there column_in (root_outputs diagram (attributes_of diagram)) k column there in
      let e = output-of carries k root.0 root.1 in
      let here : slice_get (output_ports core) k ≡ Some (out_port e.0) =
      ap (λ (ports : List Port). slice_get ports k) (outputs-are carries)
      ∙ there_map out_port (output_elements carries.names diagram) k e.0 e.1 in
      let same : port ≡ out_port e.0 = same_Some port (out_port e.0) (sym at ∙ here) in
      let step = (output-numbers carries e.0 (got-in (output_elements carries.names diagram) k e.0 e.1)).0 in
      ap step_of same ∙ ap (λ o. unwrap_or o 1) step ∙ ap step_in e.2 ∙ ap (λ (c : Column). c.period) root.2)
