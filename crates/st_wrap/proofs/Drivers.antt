-- What must be driven in the wrapper is, and each name is driven by what may drive it.
use Rattle.std.proofs.Common.{◌≡◌, ℕ, ⊎_elim, Bool, true, false, if◌then◌else◌, List, [], ◌∷◌, ◌++◌, map, flat_map, Contains, codes, Some, None, refl, sym, ap, subst, ◌∙◌, arith}
use Rattle.std.specs.List.{range_with_len}
use Rattle.std.proofs.lemmas.Bool.{cases_Bool}
use Rattle.std.proofs.lemmas.List.Elements.{Contains-append_left, Contains-append_right}
use Rattle.vl_ast.specs.declared.modules.ModItem.{ModItem}
use Rattle.vl_ast.specs.declared.modules.Port.{Port}
use Rattle.vl_ast.specs.declared.modules.Module.{Module}
use Rattle.vl_ast.specs.Conditions.{BreaksNone, doubly, may_drive, may_drive_it}
use Rattle.vl_ast.specs.Control.{is_stallable}
use Rattle.vl_ast.specs.Header.{output_port}
use Rattle.vl_ast.specs.Nets.{Declared, InputPort, OutputPort, PlainWire, Mention, Declares, Drives, Reads, declaration_of, item_mentions, mentions, port_declared}
use Rattle.vl_ast.proofs.Facts.{Declaration, OfPort, OfReg, OfWire, declaration-by, driven-declared, is-declared, may-drive}
use Rattle.math_list.proofs.Elements.{flat-in, head-in, map-in}
use Rattle.vl_ast.proofs.StallFree.{bit-port}
use Rattle.st_wrap.specs.declared.columns.Column.{Column}
use Rattle.st_wrap.specs.declared.pace.Counters.{Counters}
use Rattle.st_wrap.specs.Header.{flag}
use Rattle.st_wrap.specs.Names.{AreColumnNames}
use Rattle.st_wrap.specs.inner.Columns.{column_port, stage_declared, stage_name}
use Rattle.st_wrap.specs.inner.Control.{control_declared}
use Rattle.st_wrap.specs.inner.Names.{enable_name, inner_name, is_shared}
use Rattle.st_wrap.specs.inner.Wrapper.{declared_items, inputs_of, items_of, outputs_of, ports_of, wrapped}
use Rattle.st_wrap.proofs.Apart.{doubly-none, one-declaration}
use Rattle.st_wrap.proofs.SingleDrivers.{all-driven-once, column-port}
use Rattle.st_wrap.proofs.Once.{all-declared-once}
use Rattle.st_wrap.proofs.NamePlaces.{EachDrives, core_part, declared-alone, declared_part, drives-alone, drives-append, drives-at, drives-flat, drives-ports, drives-renamed, helds, late_mentions}
use Rattle.st_wrap.proofs.NamePlaces.{lates, mentions-are, output-unshared, ports_part}
use Rattle.st_wrap.proofs.NameReads.{control_mentions, held_mentions, stage_mentions}
use Rattle.st_wrap.proofs.Structure.{core-there, declared-there, flag-there, output-port, wire-of, wire-there}

module _ (core : Module) (sound : BreaksNone core) (stallable : is_stallable core ≡ true) (names : List (List ℕ)) (named : AreColumnNames core names) (counters : Counters) where
  abbrev o : Module
  o = wrapped core names counters

  -- a place of an item, and of a port
  pub item-mention : (i : ModItem) (x : Mention) → Contains (wrapped core names counters).items i → Contains (item_mentions i) x → Contains (mentions (wrapped core names counters)) x
  item-mention i x h c = Contains-append_right (map (λ port. Declares (port_declared port)) (ports_of (inputs_of core names) (outputs_of core names)))
      (flat_map item_mentions (items_of core counters (inputs_of core names) (outputs_of core names))) x
      (flat-in item_mentions (items_of core counters (inputs_of core names) (outputs_of core names)) i x h c)

  pub port-mention : (port : Port) → Contains (ports_of (inputs_of core names) (outputs_of core names)) port → Contains (mentions (wrapped core names counters)) (Declares (port_declared port))
  port-mention port h = Contains-append_left (map (λ port. Declares (port_declared port)) (ports_of (inputs_of core names) (outputs_of core names)))
      (flat_map item_mentions (items_of core counters (inputs_of core names) (outputs_of core names)))
      (Declares (port_declared port)) (map-in (λ port. Declares (port_declared port))
      (ports_of (inputs_of core names) (outputs_of core names)) port h)

  pub declared-is : (d : Declared) → Contains (mentions (wrapped core names counters)) (Declares d) → declaration_of (wrapped core names counters) d.name ≡ Some d
  declared-is d h = one-declaration (wrapped core names counters) (all-declared-once core sound stallable names named counters) (all-driven-once core sound stallable names named counters) d h

  -- ---- what may drive

  abbrev May : Bool → List ℕ → Type 0
  May c n = may_drive_it c (declaration_of (wrapped core names counters) n) ≡ true

  may-by : (c : Bool) (d : Declared) → Contains (mentions (wrapped core names counters)) (Declares d) → may_drive c d.kind ≡ true → May c d.name
  may-by c d h m = ap (may_drive_it c) (declared-is d h) ∙ m

  control-at : (i : ModItem) → Contains (control_declared counters) i → (d : Declared) → Contains (item_mentions i) (Declares d) → Contains (mentions (wrapped core names counters)) (Declares d)
  control-at i h d c = item-mention i (Declares d) ((declared-there core counters (inputs_of core names) (outputs_of core names)).front i h) c

  flag-at : (port : Port) → Contains (ports_of (inputs_of core names) (outputs_of core names)) port → port.input ≡ false → May false port.name
  flag-at port h off = may-by false (port_declared port) (port-mention port h) (ap (λ (b : Bool). may_drive false (if b then InputPort else OutputPort)) off)

  enable-may : May false enable_name
  enable-may =
      let p = bit-port (codes "clk_enable") core.ports stallable in
      let w = wire-of core counters (inputs_of core names) (outputs_of core names) p.0 p.1 (ap is_shared p.2) in
      subst (λ n. May false (inner_name n)) p.2 (may-by false _ (item-mention _ _ (wire-there core counters (inputs_of core names) (outputs_of core names) _ w) (head-in _ [])) refl)

  control-may : EachDrives May control_mentions
  control-may = (
    may-by false _ (control-at _ (0, omega arith, refl) _ (head-in _ [])) refl,
    (
      may-by false _ (control-at _ (1, omega arith, refl) _ (head-in _ [])) refl,
      (
        may-by false _ (control-at _ (2, omega arith, refl) _ (head-in _ [])) refl,
        (
          may-by false _ (control-at _ (3, omega arith, refl) _ (head-in _ [])) refl,
          (
            may-by false _ (control-at _ (4, omega arith, refl) _ (head-in _ [])) refl,
            (
              enable-may,
              (
                flag-at (output_port (flag (codes "in_ready")))
                    (flag-there core counters (inputs_of core names) (outputs_of core names)
                    (output_port (flag (codes "in_ready"))) (1, omega arith, refl)) refl,
                (
                  flag-at (output_port (flag (codes "out_valid")))
                      (flag-there core counters (inputs_of core names) (outputs_of core names)
                      (output_port (flag (codes "out_valid"))) (2, omega arith, refl)) refl,
                  (
                    may-by true _ (control-at _ (5, omega arith, refl) _ (head-in _ [])) refl,
                    (may-by true _ (control-at _ (6, omega arith, refl) _ (head-in _ [])) refl, tt),
                  ),
                ),
              ),
            ),
          ),
        ),
      ),
    ),
  )

  held-may : (column : Column) → Contains (inputs_of core names) column → EachDrives May (held_mentions column)
  held-may column c =
      let p = column-port core sound stallable names named counters column c in
      let w = wire-of core counters (inputs_of core names) (outputs_of core names) p.0 p.1 p.3 in
      let inner : May false (inner_name column.inner) =
      subst (λ n. May false (inner_name n)) p.4 (may-by false _ (item-mention _ _ (wire-there core counters (inputs_of core names) (outputs_of core names) _ w) (head-in _ [])) refl) in
      (inner, (may-by true _ (item-mention _ _ ((declared-there core counters (inputs_of core names) (outputs_of core names)).input column c _ (head-in _ [])) (head-in _ [])) refl, tt))

  late-may : (column : Column) → Contains (outputs_of core names) column → EachDrives May (late_mentions column)
  late-may column c =
      drives-append May (flat_map (stage_mentions column) (range_with_len 0 column.late)) (Drives false column.name ∷ Reads (stage_name column column.late) ∷ [])
      (drives-flat May (stage_mentions column) (range_with_len 0 column.late) (λ place h. (
        may-by true _ (item-mention _ _ ((declared-there core counters (inputs_of core names)
            (outputs_of core names)).output column c _
            (map-in (stage_declared column) (range_with_len 0 column.late) place h)) (head-in _ [])) refl,
        tt,
      )))
      (flag-at (output_port (column_port column)) (output-port core counters (inputs_of core names) (outputs_of core names) column c) refl, tt)

  -- what the core drives, it may
  core-may : (c : Bool) (n : List ℕ) → Contains (flat_map item_mentions core.items) (Drives c n) → May c (inner_name n)
  core-may c n h =
      let whole : Contains (mentions core) (Drives c n) = Contains-append_right (map (λ port. Declares (port_declared port)) core.ports) (flat_map item_mentions core.items) (Drives c n) h in
      let d = driven-declared core sound.acyclic.driven sound.acyclic.once c n whole in
      let found = is-declared core sound.acyclic.driven sound.acyclic.once d.0 d.1 in
      let may : may_drive c d.0.kind ≡ true = sym (ap (may_drive_it c) (ap (declaration_of core) (sym d.2) ∙ found)) ∙ may-drive core sound.acyclic.driven sound.acyclic.once c n whole in
      subst (λ n. May c (inner_name n)) d.2 (by d.0 d.1 may (declaration-by core sound.acyclic.driven sound.acyclic.once d.0 d.1))
    where
      wire-kind : (c : Bool) → may_drive c OutputPort ≡ true → may_drive c PlainWire ≡ true
      wire-kind true e = e
      wire-kind false e = refl

      no-input : (c : Bool) → may_drive c InputPort ≡ true → ⊥
      no-input true e = absurd (cc e)
      no-input false e = absurd (cc e)

      by : (d : Declared) → Contains (mentions core) (Declares d) → may_drive c d.kind ≡ true → Declaration core sound.acyclic.driven sound.acyclic.once d → May c (inner_name d.name)
      by d h may (OfWire signed width there kind) =
          may-by c _ (item-mention _ _ (core-there core counters (inputs_of core names) (outputs_of core names) _ there) (head-in _ [])) (ap (may_drive c) (sym kind) ∙ may)
      by d h may (OfReg signed width there kind) =
          may-by c _ (item-mention _ _ (core-there core counters (inputs_of core names) (outputs_of core names) _ there) (head-in _ [])) (ap (may_drive c) (sym kind) ∙ may)
      by d h may (OfPort port there same) =
          let kind : may_drive c (if port.input then InputPort else OutputPort) ≡ true = ap (λ (x : Declared). may_drive c x.kind) same ∙ may in
          ⊎_elim
          (λ on. absurd (no-input c (sym (ap (λ (b : Bool). may_drive c (if b then InputPort else OutputPort)) on) ∙ kind)))
          (λ off.
          let w = wire-of core counters (inputs_of core names) (outputs_of core names) port there (output-unshared core sound stallable names named counters port there off) in
          subst (λ n. May c (inner_name n)) (ap (λ (x : Declared). x.name) same)
          (may-by c _ (item-mention _ _ (wire-there core counters (inputs_of core names) (outputs_of core names) _ w) (head-in _ []))
          (wire-kind c (sym (ap (λ (b : Bool). may_drive c (if b then InputPort else OutputPort)) off) ∙ kind))))
          (cases_Bool port.input)

  all-may : (c : Bool) (n : List ℕ) → Contains (mentions (wrapped core names counters)) (Drives c n) → May c n
  all-may = drives-at May (mentions (wrapped core names counters)) (subst (λ xs. EachDrives May xs) (sym (mentions-are core sound stallable names named counters))
      (drives-append May (ports_part core names)
      (declared_part core names counters ++ (core_part core
      ++ (control_mentions ++ (helds core names ++ lates core names))))
      (drives-ports May (ports_of (inputs_of core names) (outputs_of core names)))
      (drives-append May (declared_part core names counters) (core_part core ++ (control_mentions ++ (helds core names ++ lates core names)))
      (drives-alone May (declared_items core counters (inputs_of core names) (outputs_of core names)) (declared-alone core sound stallable names named counters))
      (drives-append May (core_part core) (control_mentions ++ (helds core names ++ lates core names)) (drives-renamed May (flat_map item_mentions core.items) core-may)
      (drives-append May control_mentions (helds core names ++ lates core names) control-may
      (drives-append May (helds core names) (lates core names) (drives-flat May held_mentions (inputs_of core names) held-may)
      (drives-flat May late_mentions (outputs_of core names) late-may)))))))

  pub once : doubly (wrapped core names counters) ≡ None
  once = doubly-none (wrapped core names counters) (all-declared-once core sound stallable names named counters) (all-driven-once core sound stallable names named counters) all-may
