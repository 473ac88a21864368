-- No width, select or number of the wrapper is at fault.
use Rattle.std.proofs.Common.{◌≡◌, ℕ, ◌+◌, ◌-◌, ◌*◌, ◌^◌, ◌<◌, ◌≤◌, ◌==◌, nat_le, max, ⊎_elim, Bool, true, false, not, ◌&&◌, if◌then◌else◌, List, [], ◌∷◌, ◌++◌, map, find, length, drop, Contains}
use Rattle.std.proofs.Common.{codes, Option, Some, None, refl, sym, ap, subst, ◌∙◌, arith, pow_pos}
use Rattle.std.specs.Prelude.{option_map}
use Rattle.std.specs.List.{range_with_len}
use Rattle.std.proofs.lemmas.Bool.{and_parts, cases_eq, cond-false, leb-true, ne_eqb}
use Rattle.std.proofs.lemmas.List.Elements.{Contains-append_left, Contains-append_right, Contains-append_cases}
use Rattle.vl_ast.specs.declared.expressions.BinOp.TheVariants.{Add, Subtract, Equal, Both, Either}
use Rattle.vl_ast.specs.declared.expressions.Expr.{Expr}
use Rattle.vl_ast.specs.declared.expressions.Expr.TheVariants.{Name, Binary, Choose}
use Rattle.vl_ast.specs.declared.modules.ModItem.{ModItem}
use Rattle.vl_ast.specs.declared.modules.ModItem.TheVariants.{Wire, Reg, Assign, Always}
use Rattle.vl_ast.specs.declared.modules.Port.{Port}
use Rattle.vl_ast.specs.declared.modules.Module.{Module}
use Rattle.vl_ast.specs.Conditions.{BreaksNone, IsAcyclic, is_sound, is_sound_item, is_width, item_name, soundness, too_wide}
use Rattle.vl_ast.specs.Control.{is_number_input, is_number_output, is_stallable}
use Rattle.vl_ast.specs.Context.{Net}
use Rattle.vl_ast.specs.Driven.{output_ports, stimulus_ports}
use Rattle.vl_ast.specs.Header.{bit_input, input_port, output_port}
use Rattle.vl_ast.specs.Nets.{Declared, Declares, Reads, mentions, net_or_none, nets_of}
use Rattle.vl_ast.proofs.Facts.{in-port, is-declared, reads-of-always, reads-of-assign, reg-declared, wire-declared}
use Rattle.math_list.proofs.Elements.{cons-cases, from-map, head-in, map-in, none-in, tail-in}
use Rattle.vl_ast.specs.Attributes.{clocks_of}
use Rattle.st_wrap.specs.declared.columns.Column.{Column}
use Rattle.st_wrap.specs.declared.pace.Counters.{Counters}
use Rattle.st_wrap.specs.Header.{flag, named_inputs, named_outputs}
use Rattle.st_wrap.specs.Names.{AreColumnNames}
use Rattle.st_wrap.specs.Pace.{latest_in}
use Rattle.st_wrap.specs.inner.Columns.{column_port, held_driven, input_column, late_driven, moving, output_column, stage_declared, stage_driven, stage_name}
use Rattle.st_wrap.specs.inner.Control.{CountFor, both, control_driven, is_due_now, is_last, is_zero, next_phase, next_wait, number, unless}
use Rattle.st_wrap.specs.inner.Names.{begin_name, end_name, due_name, fed_name, open_name, enable_name, held_name, inner_name, is_shared, late_name, phase_name, wait_name}
use Rattle.st_wrap.specs.inner.CoreNames.{renamed_item, wires_for}
use Rattle.st_wrap.specs.inner.Wrapper.{declared_items, inputs_of, items_of, outputs_of, wrapped}
use Rattle.st_wrap.proofs.EachItem.{EachHas, declared-have, have-append, have-at, have-flat, have-map, items-have}
use Rattle.st_wrap.proofs.ColumnPorts.{from-filter, range-in, zip-left}
use Rattle.st_wrap.proofs.ControlSignals.{HasControl, begin-net, due-net, enable-net, end-net, fed-net, in_flag, net-port, open-net, out_flag, phase-net, wait-net}
use Rattle.st_wrap.proofs.CoreRows.{read-net}
use Rattle.st_wrap.proofs.Fine.{IsFine, double, fine-Binary, fine-Choose, fine-Name, fine-both, fine-number, fine-sound, fine-zero, is-number, is-width}
use Rattle.st_wrap.proofs.NamesOnce.{in-range}
use Rattle.st_wrap.proofs.NamePlaces.{output-of}
use Rattle.st_wrap.proofs.Sound.{item-sound}
use Rattle.st_wrap.proofs.Structure.{declared-there, embeds, has-control, input-port, wire-of, wire-there}

-- ---- nothing is found

all-sound : {A : Type 0} (test : A → Bool) (xs : List A) → ((x : A) → Contains xs x → test x ≡ true) → find (λ x. not (test x)) xs ≡ None
all-sound test [] each = refl
all-sound test (x ∷ xs) each =
    cond-false (not (test x)) (Some x) (find (λ x. not (test x)) xs) (ap not (each x (head-in x xs))) ∙ all-sound test xs (λ y c. each y (tail-in x y xs c))

none-found : {A : Type 0} (test : A → Bool) (xs : List A) (x : A) → find (λ x. not (test x)) xs ≡ None → Contains xs x → test x ≡ true
none-found test [] x e h = absurd (none-in x h)
none-found test (y ∷ ys) x e h = by (none-found test ys x) (test y) refl e where
  by : (find (λ x. not (test x)) ys ≡ None → Contains ys x → test x ≡ true) → (b : Bool) → test y ≡ b → (if not b then Some y else find (λ x. not (test x)) ys) ≡ None → test x ≡ true
  by rest true s f = ⊎_elim (λ q. subst (λ z. test z ≡ true) q s) (λ t. rest f t) (cons-cases y x ys h)
  by rest false s f = absurd (cc f)

abbrev Part : Type 0
Part = List ℕ × Bool

abbrev part_is : Part → Bool
part_is part = part.1

no-part : (xs : List Part) → option_map (λ (part : Part). part.0) (find (λ (part : Part). not part.1) xs) ≡ None → find (λ (part : Part). not part.1) xs ≡ None
no-part xs e = by (find (λ (part : Part). not part.1) xs) e where
  by : (f : Option Part) → option_map (λ (part : Part). part.0) f ≡ None → f ≡ None
  by None e = refl
  by (Some part) e = absurd (cc e)

abbrev port_part : Port → Part
port_part port = (port.name, is_width port.width)

abbrev item_part : Module → ModItem → Part
item_part m i = (item_name i, is_sound_item (nets_of m) i)

-- a module whose ports and items are sound
narrow-by : (m : Module) → ((port : Port) → Contains m.ports port → is_width port.width ≡ true) → ((i : ModItem) → Contains m.items i → is_sound_item (nets_of m) i ≡ true) → too_wide m ≡ None
narrow-by m ports items = ap (option_map (λ (part : Part). part.0)) (all-sound part_is (soundness m) (λ part h. ⊎_elim
    (λ a. let r = from-map port_part m.ports part a in subst (λ (p : Part). p.1 ≡ true) r.2 (ports r.0 r.1))
    (λ b. let r = from-map (item_part m) m.items part b in subst (λ (p : Part). p.1 ≡ true) r.2 (items r.0 r.1))
    (Contains-append_cases (map port_part m.ports) (map (item_part m) m.items) part h)))

module _ (m : Module) (narrow : too_wide m ≡ None) where
  port-width : (port : Port) → Contains m.ports port → is_width port.width ≡ true
  port-width port h = none-found part_is (soundness m) (port_part port) (no-part (soundness m) narrow)
      (Contains-append_left (map port_part m.ports) (map (item_part m) m.items) (port_part port) (map-in port_part m.ports port h))

  item-is-sound : (i : ModItem) → Contains m.items i → is_sound_item (nets_of m) i ≡ true
  item-is-sound i h = none-found part_is (soundness m) (item_part m i) (no-part (soundness m) narrow)
      (Contains-append_right (map port_part m.ports) (map (item_part m) m.items) (item_part m i) (map-in (item_part m) m.items i h))

-- ---- items that are sound

-- how wide the signals and the counters are
record AreWide (nets : List ℕ → Net) (counters : Counters) : Type 0 where
  begin : (nets begin_name).width ≡ 1
  end : (nets end_name).width ≡ 1
  due : (nets due_name).width ≡ 1
  fed : (nets fed_name).width ≡ 1
  opened : (nets open_name).width ≡ 1
  enable : (nets enable_name).width ≡ 1
  phase : (nets phase_name).width ≡ counters.phase.width
  wait : (nets wait_name).width ≡ counters.wait.width

abbrev IsSoundIn : (List ℕ → Net) → ModItem → Type 0
IsSoundIn nets i = is_sound_item nets i ≡ true

module _ (core : Module) (sound : BreaksNone core) (stallable : is_stallable core ≡ true) (names : List (List ℕ))
    (named : AreColumnNames core names) (counters : Counters) (counts : CountFor core counters)
    (large : IsAcyclic (wrapped core names counters)) where
  abbrev nets : List ℕ → Net
  nets = nets_of (wrapped core names counters)

  abbrev Sound : List ModItem → Type 0
  Sound items = EachHas (IsSoundIn (nets_of (wrapped core names counters))) items

  has : HasControl (wrapped core names counters) counters
  has = has-control core counters (inputs_of core names) (outputs_of core names) stallable

  -- ---- the core's items

  alike : (x : List ℕ) → Contains (mentions core) (Reads x) → nets_of (wrapped core names counters) (inner_name x) ≡ nets_of core x
  alike x r = read-net core (wrapped core names counters) sound.acyclic large (embeds core counters (inputs_of core names) (outputs_of core names) sound large) x r

  core-item : (i : ModItem) → Contains core.items i → is_sound_item (nets_of core) i ≡ true → is_sound_item (nets_of (wrapped core names counters)) (renamed_item i) ≡ true
  core-item (Wire signed width name) h e = e
  core-item (Reg signed width name) h e = e
  core-item (Assign name value) h e =
      item-sound (nets_of (wrapped core names counters)) (nets_of core) (Assign name value)
      (λ x c. alike x (reads-of-assign core sound.acyclic.driven sound.acyclic.once name x value h c)) ∙ e
  core-item (Always name first condition value) h e =
      item-sound (nets_of (wrapped core names counters)) (nets_of core) (Always name first condition value)
      (λ x c. alike x (reads-of-always core sound.acyclic.driven sound.acyclic.once name x first condition value h c)) ∙ e

  -- ---- widths of columns

  input-width : (column : Column) → Contains (inputs_of core names) column → is_width column.width ≡ true
  input-width column c =
      let r = from-map input_column (named_inputs core names) column c in
      let f = from-filter (is_number_input (is_stallable core)) core.ports r.0.0 (zip-left (stimulus_ports core) names r.0 r.1) in
      subst (λ (x : Column). is_width x.width ≡ true) r.2 (port-width core sound.narrow r.0.0 f.0)

  output-width : (column : Column) → Contains (outputs_of core names) column → is_width column.width ≡ true
  output-width column c =
      let r = from-map (output_column (clocks_of core) (latest_in core)) (named_outputs core names) column c in
      let f = from-filter (is_number_output (is_stallable core)) core.ports r.0.0 (zip-left (output_ports core) (drop (length (stimulus_ports core)) names) r.0 r.1) in
      subst (λ (x : Column). is_width x.width ≡ true) r.2 (port-width core sound.narrow r.0.0 f.0)

  width-parts : (w : ℕ) → is_width w ≡ true → (1 ≤ w) × (w ≤ 128)
  width-parts w e = let p = and_parts (nat_le 1 w) (nat_le w 128) e in (leb-true 1 w p.0, leb-true w 128 p.1)

  -- ---- the ports

  abbrev front : List Port
  front = bit_input (codes "clk") ∷ bit_input (codes "reset") ∷ input_port (flag (codes "in_valid")) ∷ []

  abbrev flags : List Port
  flags = input_port (flag (codes "out_ready")) ∷ output_port (flag (codes "in_ready")) ∷ output_port (flag (codes "out_valid")) ∷ []

  abbrev ins : List Port
  ins = map (λ column. input_port (column_port column)) (inputs_of core names)

  abbrev outs : List Port
  outs = map (λ column. output_port (column_port column)) (outputs_of core names)

  three : (x y z port : Port) → is_width x.width ≡ true → is_width y.width ≡ true → is_width z.width ≡ true → Contains (x ∷ y ∷ z ∷ []) port → is_width port.width ≡ true
  three x y z port a b c h = ⊎_elim (λ e. subst (λ (p : Port). is_width p.width ≡ true) e a)
      (λ h1. ⊎_elim (λ e. subst (λ (p : Port). is_width p.width ≡ true) e b)
      (λ h2. ⊎_elim (λ e. subst (λ (p : Port). is_width p.width ≡ true) e c) (λ h3. absurd (none-in port h3))
      (cons-cases z port [] h2)) (cons-cases y port (z ∷ []) h1)) (cons-cases x port (y ∷ z ∷ []) h)

  ports-sound : (port : Port) → Contains (front ++ (ins ++ (flags ++ outs))) port → is_width port.width ≡ true
  ports-sound port h = ⊎_elim
      (λ a. three (bit_input (codes "clk")) (bit_input (codes "reset")) (input_port (flag (codes "in_valid"))) port refl refl refl a)
      (λ h1. ⊎_elim
      (λ a. let r = from-map (λ column. input_port (column_port column)) (inputs_of core names) port a in subst (λ (p : Port). is_width p.width ≡ true) r.2 (input-width r.0 r.1))
      (λ h2. ⊎_elim
      (λ a. three (input_port (flag (codes "out_ready"))) (output_port (flag (codes "in_ready"))) (output_port (flag (codes "out_valid"))) port refl refl refl a)
      (λ b. let r = from-map (λ column. output_port (column_port column)) (outputs_of core names) port b in subst (λ (p : Port). is_width p.width ≡ true) r.2 (output-width r.0 r.1))
      (Contains-append_cases flags outs port h2))
      (Contains-append_cases ins (flags ++ outs) port h1))
      (Contains-append_cases front (ins ++ (flags ++ outs)) port h)

  -- ---- what is declared

  wire-sound : (port : Port) → Contains core.ports port → Sound (wires_for port)
  wire-sound port h = by (is_shared port.name) where
    by : (b : Bool) → Sound (if b then [] else Wire port.signed port.width (inner_name port.name) ∷ [])
    by true = tt
    by false = (port-width core sound.narrow port h, tt)

  phase-low : counters.phase.width ≤ 128
  phase-low = let s = counts.phase_room.short in omega (arith, s)

  wait-low : counters.wait.width ≤ 128
  wait-low = let s = counts.wait_room.short in omega (arith, s)

  declared-sound : Sound (declared_items core counters (inputs_of core names) (outputs_of core names))
  declared-sound =
      declared-have (IsSoundIn nets) core counters (inputs_of core names) (outputs_of core names) (have-flat (IsSoundIn nets) wires_for core.ports wire-sound)
      (refl, (refl, (refl, (refl, (refl, (is-width counters.phase.width counts.phase_room.some phase-low, (is-width counters.wait.width counts.wait_room.some wait-low, tt)))))))
      (λ column c. (input-width column c, tt))
      (λ column c. have-map (IsSoundIn nets) (stage_declared column) (range_with_len 0 column.late) (λ place h. output-width column c))

  -- ---- the control

  abbrev bit_of : Net → ℕ
  bit_of n = n.width

  wide : AreWide (nets_of (wrapped core names counters)) counters
  wide = record {
    begin = ap bit_of (begin-net (wrapped core names counters) counters large has);
    end = ap bit_of (end-net (wrapped core names counters) counters large has);
    due = ap bit_of (due-net (wrapped core names counters) counters large has);
    fed = ap bit_of (fed-net (wrapped core names counters) counters large has);
    opened = ap bit_of (open-net (wrapped core names counters) counters large has);
    enable = ap bit_of (enable-net (wrapped core names counters) counters large has);
    phase = ap bit_of (phase-net (wrapped core names counters) counters large has);
    wait = ap bit_of (wait-net (wrapped core names counters) counters large has);
  }

  w-in : (nets_of (wrapped core names counters) (codes "in_valid")).width ≡ 1
  w-in = ap bit_of (net-port (wrapped core names counters) counters large has in_flag has.in_valid)

  w-out : (nets_of (wrapped core names counters) (codes "out_ready")).width ≡ 1
  w-out = ap bit_of (net-port (wrapped core names counters) counters large has out_flag has.out_ready)

  abbrev Fine : ℕ → Expr → Type 0
  Fine w e = IsFine (nets_of (wrapped core names counters)) w e

  one : (x : List ℕ) → (nets_of (wrapped core names counters) x).width ≡ 1 → Fine 1 (Name x)
  one x e = fine-Name nets x 1 e (omega arith)

  one-of : (w : ℕ) → 1 ≤ w → 1 < 2 ^ w
  one-of w some = let p = pow_pos (w - 1) in let e : 2 ^ w ≡ 2 * 2 ^ (w - 1) = double w some in omega (arith, p, e)

  fine-phase : Fine counters.phase.width (next_phase counters.phase)
  fine-phase =
      let w : ℕ = counters.phase.width in
      let some = counts.phase_room.some in
      fine-Choose nets (Name end_name) (number w 0) (Binary Add (Name phase_name) (number w 1)) 1 w (one end_name wide.end)
      (fine-number nets w 0 some phase-low (pow_pos w))
      (fine-Binary nets Add (Name phase_name) (number w 1) w w w (let m : max w w ≡ w = omega arith in m) phase-low
      (fine-Name nets phase_name w wide.phase phase-low) (fine-number nets w 1 some phase-low (one-of w some)))

  fine-wait : Fine counters.wait.width (next_wait counters.wait)
  fine-wait =
      let w : ℕ = counters.wait.width in
      let some = counts.wait_room.some in
      fine-Choose nets (Name wait_name) (Binary Subtract (Name wait_name) (number w 1)) (number w 0) w w (fine-Name nets wait_name w wide.wait wait-low)
      (fine-Binary nets Subtract (Name wait_name) (number w 1) w w w (let m : max w w ≡ w = omega arith in m) wait-low
      (fine-Name nets wait_name w wide.wait wait-low) (fine-number nets w 1 some wait-low (one-of w some)))
      (fine-number nets w 0 some wait-low (pow_pos w))

  is-fine : (w : ℕ) (e : Expr) → Fine w e → is_sound (nets_of (wrapped core names counters)) e ≡ true
  is-fine w e f = fine-sound nets w e f

  control-sound : Sound (control_driven counters)
  control-sound =
      let phase-some = counts.phase_room.some in
      let wait-some = counts.wait_room.some in (
        is-fine 1 (is_zero phase_name) (fine-zero nets phase_name counters.phase.width wide.phase phase-low),
        (
          is-fine 1 (is_last counters.phase) (fine-Binary nets Equal (Name phase_name) (number counters.phase.width counters.phase.most) counters.phase.width counters.phase.width 1 refl (omega arith)
              (fine-Name nets phase_name counters.phase.width wide.phase phase-low) (fine-number nets counters.phase.width counters.phase.most phase-some phase-low counts.phase_room.room)),
          (
            is-fine 1 is_due_now (fine-Binary nets Both (Name end_name) (is_zero wait_name) 1 1 1 refl (omega arith)
                (one end_name wide.end) (fine-zero nets wait_name counters.wait.width wide.wait wait-low)),
            (
              is-fine 1 (unless begin_name (codes "in_valid"))
                  (fine-Binary nets Either (is_zero begin_name) (Name (codes "in_valid")) 1 1 1 refl (omega arith)
                  (fine-zero nets begin_name 1 wide.begin (omega arith)) (one (codes "in_valid") w-in)),
              (
                is-fine 1 (unless due_name (codes "out_ready"))
                    (fine-Binary nets Either (is_zero due_name) (Name (codes "out_ready")) 1 1 1 refl (omega arith)
                    (fine-zero nets due_name 1 wide.due (omega arith)) (one (codes "out_ready") w-out)),
                (
                  is-fine 1 (both fed_name open_name) (fine-both nets fed_name open_name wide.fed wide.opened),
                  (
                    is-fine 1 (both begin_name open_name) (fine-both nets begin_name open_name wide.begin wide.opened),
                    (
                      is-fine 1 (both due_name fed_name) (fine-both nets due_name fed_name wide.due wide.fed),
                      (
                        (λ i. is-number counters.phase.width 0 phase-some phase-low (pow_pos counters.phase.width) i
                            && is-fine 1 (Name enable_name) (one enable_name wide.enable) i
                            && is-fine counters.phase.width (next_phase counters.phase) fine-phase i),
                        (
                          (λ i. is-number counters.wait.width counters.wait.most wait-some wait-low
                              counts.wait_room.room i && is-fine 1 (moving end_name)
                              (fine-both nets enable_name end_name wide.enable wide.end) i
                              && is-fine counters.wait.width (next_wait counters.wait) fine-wait i),
                          tt,
                        ),
                      ),
                    ),
                  ),
                ),
              ),
            ),
          ),
        ),
      )

  -- ---- the columns

  d-net : (d : Declared) → Contains (mentions (wrapped core names counters)) (Declares d) → (nets_of (wrapped core names counters) d.name).width ≡ d.net.width
  d-net d h = ap (λ x. (net_or_none x).width) (is-declared (wrapped core names counters) large.driven large.once d h)

  held-sound : (column : Column) → Contains (inputs_of core names) column → Sound (held_driven column)
  held-sound column c =
      let p = width-parts column.width (input-width column c) in
      let w : ℕ = column.width in
      let u : Fine column.width (Name column.name) = fine-Name nets column.name column.width
      (d-net _ (in-port (wrapped core names counters) large.driven large.once (input_port (column_port column))
      (input-port core counters (inputs_of core names) (outputs_of core names) column c))) p.1 in
      let h : Fine column.width (Name (held_name column.name)) = fine-Name nets (held_name column.name) column.width
      (d-net _ (reg-declared (wrapped core names counters) large.driven large.once column.signed column.width (held_name column.name)
      ((declared-there core counters (inputs_of core names) (outputs_of core names)).input column c _ (head-in _ [])))) p.1 in (
        is-fine column.width (Choose (Name begin_name) (Name column.name) (Name (held_name column.name)))
            (fine-Choose nets (Name begin_name) (Name column.name) (Name (held_name column.name)) 1 column.width (one begin_name wide.begin) u h),
        (
          (λ i. is-number column.width 0 p.0 p.1 (pow_pos column.width) i
              && is-fine 1 (moving begin_name) (fine-both nets enable_name begin_name wide.enable wide.begin) i
              && is-fine column.width (Name column.name) u i),
          tt,
        ),
      )

  stage-fine : (column : Column) → Contains (outputs_of core names) column → (k : ℕ) → k ≤ column.late → Fine column.width (Name (stage_name column k))
  stage-fine column c k low = fine-Name nets (stage_name column k) column.width width (width-parts column.width (output-width column c)).1 where
    inner : (nets_of (wrapped core names counters) (inner_name column.inner)).width ≡ column.width
    inner =
        let r = from-map (output_column (clocks_of core) (latest_in core)) (named_outputs core names) column c in
        let p = output-of core sound stallable names named counters column c in
        let f = from-filter (is_number_output (is_stallable core)) core.ports r.0.0 (zip-left (output_ports core) (drop (length (stimulus_ports core)) names) r.0 r.1) in
        let off : is_shared r.0.0.name ≡ false = ap is_shared (ap (λ (x : Column). x.inner) r.2 ∙ sym p.3) ∙ p.2 in
        let d = d-net _ (wire-declared (wrapped core names counters) large.driven large.once r.0.0.signed r.0.0.width (inner_name r.0.0.name)
        (wire-there core counters (inputs_of core names) (outputs_of core names) _ (wire-of core counters (inputs_of core names) (outputs_of core names) r.0.0 f.0 off))) in
        subst (λ (x : Column). (nets_of (wrapped core names counters) (inner_name x.inner)).width ≡ x.width) r.2 d

    later : (place : ℕ) → place < column.late → (nets_of (wrapped core names counters) (late_name column.name (place + 1))).width ≡ column.width
    later place less =
        let e : 0 + place ≡ place = omega arith in
        d-net _ (reg-declared (wrapped core names counters) large.driven large.once column.signed column.width (late_name column.name (place + 1))
        ((declared-there core counters (inputs_of core names) (outputs_of core names)).output column c _
        (map-in (stage_declared column) (range_with_len 0 column.late) place (subst (λ n. Contains (range_with_len 0 column.late) n) e (range-in 0 column.late place less)))))

    width : (nets_of (wrapped core names counters) (stage_name column k)).width ≡ column.width
    width = ⊎_elim
        (λ z. subst (λ n. (nets_of (wrapped core names counters) (stage_name column n)).width ≡ column.width) (sym z) inner)
        (λ some.
        let e : k - 1 + 1 ≡ k = omega (arith, some) in
        let name : stage_name column k ≡ late_name column.name (k - 1 + 1) =
        cond-false (k == 0) (inner_name column.inner) (late_name column.name k) (ne_eqb k 0 some) ∙ ap (late_name column.name) (sym e) in
        subst (λ n. (nets_of (wrapped core names counters) n).width ≡ column.width) (sym name) (later (k - 1) (omega (arith, low, some))))
        (cases_eq k 0)

  late-sound : (column : Column) → Contains (outputs_of core names) column → Sound (late_driven column)
  late-sound column c =
      let p = width-parts column.width (output-width column c) in
      have-append (IsSoundIn nets) (map (stage_driven column) (range_with_len 0 column.late)) (Assign column.name (Name (stage_name column column.late)) ∷ [])
      (have-map (IsSoundIn nets) (stage_driven column) (range_with_len 0 column.late) (λ place h.
      let low = (in-range 0 column.late place h).1 in
      (λ i. is-number column.width 0 p.0 p.1 (pow_pos column.width) i && is-fine 1 (moving end_name) (fine-both nets enable_name end_name wide.enable wide.end) i
      && is-fine column.width (Name (stage_name column place)) (stage-fine column c place (omega (arith, low))) i)))
      (is-fine column.width (Name (stage_name column column.late)) (stage-fine column c column.late (omega arith)), tt)

  items-sound : Sound (items_of core counters (inputs_of core names) (outputs_of core names))
  items-sound =
      items-have (IsSoundIn nets) core counters (inputs_of core names) (outputs_of core names) declared-sound
      (have-map (IsSoundIn nets) renamed_item core.items (λ i h. core-item i h (item-is-sound core sound.narrow i h))) control-sound held-sound late-sound

  pub narrow : too_wide (wrapped core names counters) ≡ None
  narrow = narrow-by (wrapped core names counters) (λ port h. ports-sound port h)
      (λ i h. have-at (IsSoundIn nets) (items_of core counters (inputs_of core names) (outputs_of core names)) items-sound i h)
