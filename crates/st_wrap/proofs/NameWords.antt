-- The names that the wrapper declares are identifiers, where the core's are.
use Rattle.std.proofs.Common.{◌≡◌, ℕ, ◌+◌, ◌^◌, ◌<◌, ◌==◌, nat_le, ⊎_elim, Bool, true, false, not, ◌&&◌, ◌||◌, List, [], ◌∷◌, ◌++◌, map, flat_map, Contains, bytes_eq, codes, decimal, refl, sym, ap}
use Rattle.std.proofs.Common.{subst, ◌∙◌, arith}
use Prim.Native.Char.{code}
use Rattle.std.specs.List.{list_all, list_any, range_with_len}
use Rattle.std.proofs.lemmas.Bool.{and_from, and_parts}
use Rattle.std.proofs.lemmas.List.{append-nil}
use Rattle.std.proofs.lemmas.List.Elements.{Contains-append_left, Contains-append_right, Contains-append_cases}
use Rattle.vl_ast.specs.declared.modules.Module.{Module}
use Rattle.vl_ast.specs.Conditions.{BreaksNone}
use Rattle.vl_ast.specs.Control.{is_stallable}
use Rattle.vl_ast.specs.Nets.{Declared, Mention, Declares, Drives, Reads, Clocks, declarations, declared_by, item_mentions, mentions, port_declared}
use Rattle.math_list.proofs.Elements.{cons-cases, flat-in, from-flat, from-map, head-in, map-in, none-in}
use Rattle.vl_names.specs.Identifiers.{begins_name, continues_name, is_identifier}
use Rattle.vl_names.specs.Reserved.{reserved}
use Rattle.vl_names.proofs.Digits.{number_plain}
use Rattle.st_wrap.specs.declared.columns.Column.{Column}
use Rattle.st_wrap.specs.declared.pace.Counters.{Counters}
use Rattle.st_wrap.specs.Names.{AreColumnNames}
use Rattle.st_wrap.specs.inner.Names.{held_name, inner_name, is_shared, late_name}
use Rattle.st_wrap.specs.inner.Wrapper.{inputs_of, outputs_of, wrapped}
use Rattle.st_wrap.proofs.Apart.{declared_names}
use Rattle.st_wrap.proofs.Letters.{inner-plain, inner-shared}
use Rattle.st_wrap.proofs.NamesOnce.{column_name, declared_in, in-each, in-range, input-name, late-small, output-name}
use Rattle.st_wrap.proofs.Once.{control_names, declared-list, flag_names, front_names, held_names, in-control, in-wire, in_names, late_names, out_names, own_declared, port_name, wire_names, wires}

-- ---- bytes of names

-- what begins a name may also stand within it
begins-plain : (byte : ℕ) → begins_name byte ≡ true → continues_name byte ≡ true
begins-plain byte e = widen (nat_le 48 byte && nat_le byte 57) (nat_le 65 byte && nat_le byte 90) (nat_le 97 byte && nat_le byte 122) (byte == code "_") e where
  widen : (d u l m : Bool) → ((u || l) || m) ≡ true → (((d || u) || l) || m) ≡ true
  widen true u l m e = refl
  widen false u l m e = e

plain-of : (name : List ℕ) → is_identifier name ≡ true → list_all continues_name name ≡ true
plain-of [] e = refl
plain-of (first ∷ others) e =
    let p = and_parts (begins_name first && list_all continues_name others) (not (list_any (bytes_eq (first ∷ others)) reserved)) e in
    let q = and_parts (begins_name first) (list_all continues_name others) p.0 in
    and_from (continues_name first) (list_all continues_name others) (begins-plain first q.0) q.1

plain-append : (xs ys : List ℕ) → list_all continues_name xs ≡ true → list_all continues_name ys ≡ true → list_all continues_name (xs ++ ys) ≡ true
plain-append [] ys a b = b
plain-append (x ∷ xs) ys a b =
    let p = and_parts (continues_name x) (list_all continues_name xs) a in
    and_from (continues_name x) (list_all continues_name (xs ++ ys)) p.0 (plain-append xs ys p.1 b)

core-word : (n : List ℕ) → list_all continues_name n ≡ true → is_identifier (codes "fx_core_" ++ n) ≡ true
core-word n p = ap (λ all. all && true) p

held-word : (n : List ℕ) → list_all continues_name n ≡ true → is_identifier (held_name n) ≡ true
held-word n p = ap (λ all. all && true) p

late-word : (n : List ℕ) (k : ℕ) → k < 2 ^ 64 → list_all continues_name n ≡ true → is_identifier (late_name n k) ≡ true
late-word n k small p =
    ap (λ all. all && true) (plain-append (decimal k ++ codes "_") n (plain-append (decimal k) (codes "_") (number_plain k small) refl) p)

inner-word : (n : List ℕ) → is_identifier n ≡ true → is_identifier (inner_name n) ≡ true
inner-word n e = by (is_shared n) refl where
  by : (b : Bool) → is_shared n ≡ b → is_identifier (inner_name n) ≡ true
  by true p = subst (λ x. is_identifier x ≡ true) (sym (inner-shared n p)) e
  by false p = subst (λ x. is_identifier x ≡ true) (sym (inner-plain n p)) (core-word n (plain-of n e))

-- ---- what is declared

abbrev IsWord : List ℕ → Type 0
IsWord n = is_identifier n ≡ true

pub named-mention : (x : Mention) (n : List ℕ) → Contains (declared_names x) n → (d : Declared) × (x ≡ Declares d) × (d.name ≡ n)
named-mention (Declares d) n h = (d, refl, ⊎_elim (λ e. e) (λ t. absurd (none-in n t)) (cons-cases d.name n [] h))
named-mention (Drives c k) n h = absurd (none-in n h)
named-mention (Reads k) n h = absurd (none-in n h)
named-mention Clocks n h = absurd (none-in n h)

-- a declaration is in the list of declarations
to-declarations : (m : Module) (d : Declared) → Contains (mentions m) (Declares d) → Contains (declarations m) d
to-declarations m d h = flat-in declared_by (mentions m) (Declares d) d h (head-in d [])

from-declarations : (m : Module) (d : Declared) → Contains (declarations m) d → Contains (mentions m) (Declares d)
from-declarations m d h =
    let r = from-flat declared_by (mentions m) d h in
    by r.0 r.1 r.2
  where
    by : (x : Mention) → Contains (mentions m) x → Contains (declared_by x) d → Contains (mentions m) (Declares d)
    by (Declares e) c k = ⊎_elim (λ s. subst (λ z. Contains (mentions m) (Declares z)) s c) (λ t. absurd (none-in d t)) (cons-cases e d [] k)
    by (Drives a b) c k = absurd (none-in d k)
    by (Reads a) c k = absurd (none-in d k)
    by Clocks c k = absurd (none-in d k)

module _ (core : Module) (sound : BreaksNone core) (stallable : is_stallable core ≡ true) (names : List (List ℕ))
    (named : AreColumnNames core names) (counters : Counters)
    (words : (d : Declared) → Contains (declarations core) d → is_identifier d.name ≡ true) where
  port-word : (n : List ℕ) → Contains (front_names ++ (in_names core names ++ (flag_names ++ out_names core names))) n → IsWord n
  port-word n c = ⊎_elim (λ a. in-each IsWord front_names (refl, (refl, (refl, tt))) n a)
      (λ c1. ⊎_elim
      (λ a. let r = from-map column_name (inputs_of core names) n a in subst IsWord r.2 (input-name core names named r.0 r.1).identifier)
      (λ c2. ⊎_elim (λ a. in-each IsWord flag_names (refl, (refl, (refl, tt))) n a)
      (λ b. let r = from-map column_name (outputs_of core names) n b in subst IsWord r.2 (output-name core names named r.0 r.1).identifier)
      (Contains-append_cases flag_names (out_names core names) n c2))
      (Contains-append_cases (in_names core names) (flag_names ++ out_names core names) n c1))
      (Contains-append_cases front_names (in_names core names ++ (flag_names ++ out_names core names)) n c)

  wire-word : (n : List ℕ) → Contains (wires core) n → IsWord n
  wire-word n c =
      let r = from-flat wire_names (map port_name core.ports) n c in
      let w = in-wire r.0 n r.2 in
      let p = from-map port_name core.ports r.0 r.1 in
      let d : Declared = port_declared p.0 in
      let there : Contains (mentions core) (Declares d) =
      Contains-append_left (map (λ port. Declares (port_declared port)) core.ports)
      (flat_map item_mentions core.items) (Declares (port_declared p.0))
      (map-in (λ port. Declares (port_declared port)) core.ports p.0 p.1) in
      let word : IsWord p.0.name = words (port_declared p.0) (to-declarations core (port_declared p.0) there) in
      subst IsWord (ap inner_name p.2 ∙ sym w.1) (inner-word p.0.name word)

  late-names : (column : Column) (n : List ℕ) → Contains (outputs_of core names) column → Contains (late_names column) n → IsWord n
  late-names column n c h =
      let k = from-map (λ place. late_name column.name (place + 1)) (range_with_len 0 column.late) n h in
      let below = (in-range 0 column.late k.0 k.1).1 in
      let small = late-small core names named column c in
      subst IsWord k.2 (late-word column.name (k.0 + 1) (omega (arith, below, small)) (plain-of column.name (output-name core names named column c).identifier))

  own-word : (n : List ℕ) → Contains (own_declared core names) n → IsWord n
  own-word n c = ⊎_elim
      (λ a. in-control IsWord n a refl refl refl refl refl refl refl)
      (λ b. ⊎_elim
      (λ a. let r = from-map (λ (column : Column). held_name column.name) (inputs_of core names) n a in
      subst IsWord r.2 (held-word r.0.name (plain-of r.0.name (input-name core names named r.0 r.1).identifier)))
      (λ l. let r = from-flat late_names (outputs_of core names) n l in late-names r.0 n r.1 r.2)
      (Contains-append_cases (held_names (inputs_of core names)) (flat_map late_names (outputs_of core names)) n b))
      (Contains-append_cases control_names (held_names (inputs_of core names) ++ flat_map late_names (outputs_of core names)) n c)

  item-word : (n : List ℕ) → Contains (map inner_name (declared_in core.items)) n → IsWord n
  item-word n c =
      let r = from-map inner_name (declared_in core.items) n c in
      let x = from-flat declared_names (flat_map item_mentions core.items) r.0 r.1 in
      let is = named-mention x.0 r.0 x.2 in
      let inside : Contains (mentions core) (Declares is.0) = subst (λ y. Contains (mentions core) y) is.1
      (Contains-append_right (map (λ port. Declares (port_declared port)) core.ports) (flat_map item_mentions core.items) x.0 x.1) in
      subst IsWord (ap inner_name is.2 ∙ r.2) (inner-word is.0.name (words is.0 (to-declarations core is.0 inside)))

  pub all-words : (d : Declared) → Contains (declarations (wrapped core names counters)) d → is_identifier d.name ≡ true
  all-words d h =
      let all = subst (λ xs. Contains xs d.name) (declared-list core sound stallable names named counters)
      (flat-in declared_names (mentions (wrapped core names counters)) (Declares d) d.name (from-declarations (wrapped core names counters) d h) (head-in d.name [])) in
      ⊎_elim (λ p. port-word d.name p)
      (λ b. ⊎_elim
      (λ e. ⊎_elim (λ w. wire-word d.name w) (λ own. own-word d.name own) (Contains-append_cases (wires core) (own_declared core names) d.name e))
      (λ k. item-word d.name (subst (λ xs. Contains xs d.name) (append-nil (map inner_name (declared_in core.items))) k))
      (Contains-append_cases (wires core ++ own_declared core names) (map inner_name (declared_in core.items) ++ []) d.name b))
      (Contains-append_cases (front_names ++ (in_names core names ++ (flag_names ++ out_names core names)))
      ((wires core ++ own_declared core names) ++ (map inner_name (declared_in core.items) ++ [])) d.name all)
