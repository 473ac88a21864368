-- A module to which `clk_enable` and `ce_out` are added keeps the fourth and the sixth condition.
use Rattle.std.proofs.Common.{◌≡◌, ℕ, Bool, true, false, not, ◌&&◌, ◌||◌, if◌then◌else◌, ◌==◌, List, [], ◌∷◌, ◌++◌, map, find, Contains, codes, Option, Some, None, option_map, is_none, refl, sym, ap}
use Rattle.std.proofs.Common.{subst, ◌∙◌}
use Rattle.std.proofs.lemmas.List.{append_assoc, append-nil, map-append}
use Rattle.std.proofs.lemmas.List.Elements.{Contains-append_left, Contains-append_right}
use Rattle.vl_ast.specs.declared.expressions.Expr.{Expr}
use Rattle.vl_ast.specs.declared.expressions.Expr.TheVariants.{Name}
use Rattle.vl_ast.specs.declared.modules.Port.{Port}
use Rattle.vl_ast.specs.declared.modules.ModItem.{ModItem}
use Rattle.vl_ast.specs.declared.modules.ModItem.TheVariants.{Wire, Reg, Assign, Always}
use Rattle.vl_ast.specs.declared.modules.Module.{Module}
use Rattle.vl_ast.specs.Attributes.{cycles_of, period_of, latency_of, attribute}
use Rattle.vl_ast.specs.Conditions.{IsAcyclic, is_number, is_sound, is_sound_condition, is_width, lacks_attribute, no_attribute, soundness, too_wide, BreaksNone}
use Rattle.vl_ast.specs.Control.{is_clock_or_reset, is_stallable}
use Rattle.vl_ast.specs.Gated.{IsFresh, IsOpened, shows_enable}
use Rattle.vl_ast.specs.Header.{bit_output, bit_input}
use Rattle.vl_ast.specs.Context.{Net}
use Rattle.vl_ast.specs.Nets.{Reads, mentions, nets_of, names_read, condition_names, port_declared}
use Rattle.vl_ast.proofs.Agree.{ByLayer}
use Rattle.vl_ast.proofs.Facts.{in-port, mention-listed, reads-of-assign, reads-of-always}
use Rattle.vl_ast.proofs.Gates.{enable}
use Rattle.vl_ast.proofs.GatesSound.{enable-net, sound-enable, soundness_by}
use Rattle.math_list.proofs.Tests.{unequal}
use Rattle.vl_ast.proofs.ClockEnable.{opened-acyclic, opened-has, out}
use Rattle.vl_ast.proofs.ClockEnableRuns.{opened-clocked, opened-stallable}
use Rattle.vl_ast.proofs.Parts.{read-net}
use Rattle.math_list.proofs.Elements.{head-in, tail-in}
use Rattle.vl_ast.proofs.SoundAgree.{sound-same}

-- ---- nothing is found in parts

-- `lacks_attribute`, by whether the module can be stalled and the port has the name of a control
abbrev lacks : Bool → Bool → Bool → Port → Bool
lacks stalls enables shows port =
    if port.input then not ((stalls && enables) || is_clock_or_reset port) && is_none (period_of port)
    else not (stalls && shows && not port.signed && port.width == 1) && (is_none (period_of port) || is_none (latency_of port))

unnamed-lacks : (stalls : Bool) (port : Port) → lacks stalls false false port ≡ lacks true false false port
unnamed-lacks true port = refl
unnamed-lacks false port = refl

module _ {A : Type 0} (test : A → Bool) where
  abbrev None' : List A → Type 0
  None' xs = find test xs ≡ None

  none-cons : (x : A) (xs : List A) → test x ≡ false → None' xs → None' (x ∷ xs)
  none-cons x xs off e = ap (λ (t : Bool). if t then Some x else find test xs) off ∙ e

  none-uncons : (x : A) (xs : List A) → None' (x ∷ xs) → (test x ≡ false) × None' xs
  none-uncons x xs e = by (test x) refl where
    by : (t : Bool) → test x ≡ t → (test x ≡ false) × None' xs
    by true s = let found : Some x ≡ None = sym (ap (λ (t : Bool). if t then Some x else find test xs) s) ∙ e in absurd (cc found)
    by false s = (s, sym (ap (λ (t : Bool). if t then Some x else find test xs) s) ∙ e)

  none-put : (xs : List A) (y : A) (ys : List A) → test y ≡ false → None' (xs ++ ys) → None' (xs ++ y ∷ ys)
  none-put [] y ys off e = none-cons y ys off e
  none-put (x ∷ xs) y ys off e = let u = none-uncons x (xs ++ ys) e in none-cons x (xs ++ y ∷ ys) u.0 (none-put xs y ys off u.1)

none-like : {A : Type 0} (one other : A → Bool) (xs : List A) → ((x : A) → Contains xs x → other x ≡ one x) → find one xs ≡ None → find other xs ≡ None
none-like one other [] same e = refl
none-like one other (x ∷ xs) same e =
    let u = none-uncons one x xs e in
    none-cons other x xs (same x (head-in x xs) ∙ u.0) (none-like one other xs (λ y c. same y (tail-in x y xs c)) u.1)

find-none : (xs : List (List ℕ × Bool)) → option_map (λ (part : List ℕ × Bool). part.0) (find (λ (part : List ℕ × Bool). not part.1) xs) ≡ None → find (λ (part : List ℕ × Bool). not part.1) xs ≡ None
find-none xs e = by (find (λ (part : List ℕ × Bool). not part.1) xs) e where
  by : (f : Option (List ℕ × Bool)) → option_map (λ (part : List ℕ × Bool). part.0) f ≡ None → f ≡ None
  by None e = refl
  by (Some part) e = absurd (cc e)

abbrev unsound : List ℕ × Bool → Bool
unsound part = not part.1

abbrev sound_port : Port → List ℕ × Bool
sound_port port = (port.name, is_width port.width)

module _ (by_layer : ByLayer) (m o : Module) (small : IsAcyclic m) (fresh : IsFresh m) (opened : IsOpened m o) where
  large : IsAcyclic o
  large = opened-acyclic m o small fresh opened

  same-read : (name : List ℕ) → Contains (mentions m) (Reads name) → nets_of o name ≡ nets_of m name
  same-read name h = read-net by_layer m o small large (opened-has m o small fresh opened) name h

  condition-same : (condition : Option Expr) → ((x : List ℕ) → Contains (condition_names condition) x → nets_of o x ≡ nets_of m x)
      → is_sound_condition (nets_of o) condition ≡ is_sound_condition (nets_of m) condition
  condition-same None same = refl
  condition-same (Some condition) same = sound-same by_layer (nets_of o) (nets_of m) condition same

  item-same : (i : ModItem) → Contains m.items i → soundness_by (nets_of o) i ≡ soundness_by (nets_of m) i
  item-same (Wire signed width name) h = refl
  item-same (Reg signed width name) h = refl
  item-same (Assign name value) h =
      let e = sound-same by_layer (nets_of o) (nets_of m) value (λ x c. same-read x (reads-of-assign m small.driven small.once name x value h c)) in
      (λ i. (name, e i))
  item-same (Always name first condition value) h =
      let read : (x : List ℕ) → Contains (condition_names condition ++ names_read value) x → nets_of o x ≡ nets_of m x =
      λ x c. same-read x (reads-of-always m small.driven small.once name x first condition value h c) in
      let a = condition-same condition (λ x c. read x (Contains-append_left (condition_names condition) (names_read value) x c)) in
      let b = sound-same by_layer (nets_of o) (nets_of m) value (λ x c. read x (Contains-append_right (condition_names condition) (names_read value) x c)) in
      (λ i. (name, is_number first && a i && b i))

  items-same : (items : List ModItem) → ((i : ModItem) → Contains items i → Contains m.items i) → map (soundness_by (nets_of o)) items ≡ map (soundness_by (nets_of m)) items
  items-same [] within = refl
  items-same (i ∷ items) within =
      let a = item-same i (within i (head-in i items)) in
      let b = items-same items (λ j c. within j (tail-in i j items c)) in
      (λ k. a k ∷ b k)

  four : {A : Type 0} (f c b i s : List A) → ((f ++ (c ++ b)) ++ i) ++ s ≡ f ++ (c ++ (b ++ (i ++ s)))
  four f c b i s = append_assoc (f ++ (c ++ b)) i s ∙ append_assoc f (c ++ b) (i ++ s) ∙ ap (λ xs. f ++ xs) (append_assoc c b (i ++ s))

  -- two put between the parts of a list
  none-two : {A : Type 0} (test : A → Bool) (f c b : List A) (x y : A) → test x ≡ false → test y ≡ false → find test (f ++ (c ++ b)) ≡ None → find test (f ++ x ∷ (c ++ y ∷ b)) ≡ None
  none-two test f c b x y p q e =
      none-put test f x (c ++ y ∷ b) p
      (subst (λ xs. find test xs ≡ None) (append_assoc f c (y ∷ b))
      (none-put test (f ++ c) y b q (subst (λ xs. find test xs ≡ None) (sym (append_assoc f c b)) e)))

  enable-sound : is_sound (nets_of o) (Name enable) ≡ true
  enable-sound = sound-enable (nets_of o) (ap (λ (net : Net). net.width) (enable-net by_layer o large (opened-stallable m o opened)))

  pub opened-narrow : too_wide m ≡ None → too_wide o ≡ None
  opened-narrow e =
      let f = map sound_port opened.front in
      let c = map sound_port opened.middle in
      let b = map sound_port opened.back in
      let i = map (soundness_by (nets_of m)) m.items in
      let shown : List ℕ × Bool = soundness_by (nets_of o) shows_enable in
      let x = sound_port (bit_input enable) in
      let y = sound_port (bit_output out) in
      let were : map sound_port m.ports ≡ f ++ (c ++ b) =
      ap (map sound_port) opened.were ∙ map-append sound_port opened.front (opened.middle ++ opened.back) ∙ ap (λ xs. f ++ xs) (map-append sound_port opened.middle opened.back) in
      let ports : map sound_port o.ports ≡ f ++ x ∷ (c ++ y ∷ b) =
      ap (map sound_port) opened.ports ∙ map-append sound_port opened.front (bit_input enable ∷ (opened.middle ++ bit_output out ∷ opened.back))
      ∙ ap (λ xs. f ++ x ∷ xs) (map-append sound_port opened.middle (bit_output out ∷ opened.back)) in
      let items : map (soundness_by (nets_of o)) o.items ≡ i ++ shown ∷ [] =
      ap (map (soundness_by (nets_of o))) opened.items ∙ map-append (soundness_by (nets_of o)) m.items (shows_enable ∷ [])
      ∙ ap (λ xs. xs ++ shown ∷ []) (items-same m.items (λ j h. h)) in
      let old : find unsound ((f ++ (c ++ b)) ++ i) ≡ None = subst (λ ps. find unsound (ps ++ i) ≡ None) were (find-none (soundness m) e) in
      let longer : find unsound (((f ++ (c ++ b)) ++ i) ++ shown ∷ []) ≡ None =
      none-put unsound ((f ++ (c ++ b)) ++ i) shown [] (ap not enable-sound) (subst (λ xs. find unsound xs ≡ None) (sym (append-nil ((f ++ (c ++ b)) ++ i))) old) in
      let all : find unsound (f ++ x ∷ (c ++ y ∷ (b ++ (i ++ shown ∷ [])))) ≡ None =
      none-two unsound f c (b ++ (i ++ shown ∷ [])) x y refl refl (subst (λ xs. find unsound xs ≡ None) (four f c b i (shown ∷ [])) longer) in
      let shape : (f ++ x ∷ (c ++ y ∷ b)) ++ (i ++ shown ∷ []) ≡ f ++ x ∷ (c ++ y ∷ (b ++ (i ++ shown ∷ []))) =
      append_assoc f (x ∷ (c ++ y ∷ b)) (i ++ shown ∷ []) ∙ ap (λ xs. f ++ x ∷ xs) (append_assoc c (y ∷ b) (i ++ shown ∷ [])) in
      let whole : find unsound (map sound_port o.ports ++ map (soundness_by (nets_of o)) o.items) ≡ None =
      (λ k. find unsound (ports k ++ items k)) ∙ ap (find unsound) shape ∙ all in
      ap (option_map (λ (part : List ℕ × Bool). part.0)) whole

  port-same : (port : Port) → Contains m.ports port → lacks_attribute (is_stallable o) port ≡ lacks_attribute (is_stallable m) port
  port-same port h =
      let d = mention-listed m small.driven small.once (port_declared port) (in-port m small.driven small.once port h) in
      let e = unequal port.name enable (fresh.enable (port_declared port) d) in
      let f = unequal port.name out (fresh.out (port_declared port) d) in
      (λ i. lacks (is_stallable o) (e i) (f i) port) ∙ unnamed-lacks (is_stallable o) port ∙ sym (unnamed-lacks (is_stallable m) port) ∙ sym (λ i. lacks (is_stallable m) (e i) (f i) port)

  parts-of : (n : List ℕ) (c : Bool) (found : Option Port) → (if c then Some n else option_map (λ (port : Port). port.name) found) ≡ None → (c ≡ false) × (found ≡ None)
  parts-of n true found e = absurd (cc e)
  parts-of n false None e = (refl, refl)
  parts-of n false (Some port) e = absurd (cc e)

  pub opened-attributed : no_attribute m ≡ None → no_attribute o ≡ None
  opened-attributed e =
      let p = parts-of m.name (is_none (cycles_of m)) (find (lacks_attribute (is_stallable m)) m.ports) e in
      let s = opened-stallable m o opened in
      let cycles : is_none (cycles_of o) ≡ false = ap (λ attrs. is_none (attribute attrs (codes "fx_cycles") 1 1024)) opened.attrs ∙ p.0 in
      let same : find (lacks_attribute (is_stallable o)) m.ports ≡ None = none-like (lacks_attribute (is_stallable m)) (lacks_attribute (is_stallable o)) m.ports port-same p.1 in
      let x : lacks_attribute (is_stallable o) (bit_input enable) ≡ false =
      ap (λ t. not ((t && true) || is_clock_or_reset (bit_input enable)) && is_none (period_of (bit_input enable))) s in
      let y : lacks_attribute (is_stallable o) (bit_output out) ≡ false =
      ap (λ t. not (t && true && true && true) && (is_none (period_of (bit_output out)) || is_none (latency_of (bit_output out)))) s in
      let ports : find (lacks_attribute (is_stallable o)) o.ports ≡ None =
      ap (find (lacks_attribute (is_stallable o))) opened.ports
      ∙ none-two (lacks_attribute (is_stallable o)) opened.front opened.middle opened.back (bit_input enable)
      (bit_output out) x y (subst (λ ps. find (lacks_attribute (is_stallable o)) ps ≡ None) opened.were same) in
      (λ i. if cycles i then Some o.name else option_map (λ (port : Port). port.name) (ports i))

pub opened-breaks-none : (by_layer : ByLayer) (m o : Module) → BreaksNone m → IsFresh m → IsOpened m o → BreaksNone o
opened-breaks-none by_layer m o b fresh opened = record {
  acyclic = opened-acyclic m o b.acyclic fresh opened;
  narrow = opened-narrow by_layer m o b.acyclic fresh opened b.narrow;
  clocked = opened-clocked m o opened b.acyclic fresh b.clocked;
  attributed = opened-attributed by_layer m o b.acyclic fresh opened b.attributed;
}
