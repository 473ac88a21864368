-- One more place of a text: its marks, its first declarations, and the first fault.
use Rattle.std.proofs.Common.{◌≡◌, ◌≢◌, ◌<◌, ◌≤◌, ◌+◌, ⊎_elim, ℕ, Bool, true, false, not, ◌&&◌, ◌||◌, if◌then◌else◌, List, [], ◌∷◌, ◌++◌, length, map, flat_map, find, replicate, take, drop, set}
use Rattle.std.proofs.Common.{slice_index, slice_index_or, bytes_eq, Option, Some, None, refl, sym, ap, subst, ◌∙◌, arith, inl, inr, ◌⊎◌, suc, is_none}
use Rattle.std.specs.List.{list_any}
use Rattle.std.specs.Option.{option_map, option_or}
use Rattle.std.proofs.lemmas.Bool.{false≢true}
use Rattle.std.proofs.lemmas.List.{get_or-replicate, get_or-set_same, get_or-set_other, get_or-map, length-map, take_more, get_or_default, length-set}
use Rattle.std.proofs.Math.Seq.{drop-cons}
use Rattle.std.proofs.lemmas.List.Concat.{flat_map-append}
use Rattle.std.proofs.lemmas.List.Folds.{list_any-append, find-append}
use Rattle.std.proofs.lemmas.Slice.Eq.{bytes_eq-Decides}
use Rattle.vl_ast.specs.declared.modules.Module.{Module}
use Rattle.vl_ast.specs.Nets.{declaration_of, mentions, Declared, Mention, Declares, Drives, Reads, Clocks, declared_by}
use Rattle.vl_ast.specs.Conditions.{first_fault, mentioned, is_declaration_of, is_driver_of, is_undriven, is_double, needs_driver, may_drive_it}
use Rattle.vl_check.specs.declared.mentions.Declared.{Declared as DeclaredHere}
use Rattle.vl_check.specs.declared.mentions.Mention.{Mention as MentionHere}
use Rattle.vl_check.specs.declared.mentions.Mention.TheVariants.{Declares as DeclaresHere, Drives as DrivesHere, Reads as ReadsHere, Clocks as ClocksHere}
use Rattle.vl_check.specs.inner.Mentions.{declared_of, mention_of, shown}
use Rattle.vl_check.specs.inner.Marks.{AreNumbered, AreNumbers, Marks, AreFirst, declares, drives, undriven_where, double_where, first_after}
use Rattle.vl_ast.proofs.ClockEnable.{or-true}
use Rattle.math_list.proofs.Tests.{same_bytes, unequal}

-- both tests hold at a place of their kind, of the name that stands there
pub driver-test : (name : List ℕ) (x : Mention) → is_driver_of name x ≡ (drives x && bytes_eq (mentioned x) name)
driver-test name (Declares d) = refl
driver-test name (Drives c driven) = refl
driver-test name (Reads read) = refl
driver-test name Clocks = refl

pub declaration-test : (name : List ℕ) (x : Mention) → is_declaration_of name x ≡ (declares x && bytes_eq (mentioned x) name)
declaration-test name (Declares d) = refl
declaration-test name (Drives c driven) = refl
declaration-test name (Reads read) = refl
declaration-test name Clocks = refl

-- equal names or not
names-cases : (a b : List ℕ) → (P : Type 0) → (a ≡ b → P) → (a ≢ b → P) → P
names-cases a b P same other = by (bytes_eq a b) refl where
  by : (t : Bool) → bytes_eq a b ≡ t → P
  by true e = same ((bytes_eq-Decides a b).0 e)
  by false e = other (λ equal. false≢true (sym e ∙ (bytes_eq-Decides a b).1 equal))

or-false : (t : Bool) → (t || false) ≡ t
or-false true = refl
or-false false = refl

module _ (test : List ℕ → Mention → Bool) (is_one : Mention → Bool) (holds : (name : List ℕ) (x : Mention) → test name x ≡ (is_one x && bytes_eq (mentioned x) name))
    (names : List (List ℕ)) (numbers : List ℕ) (count : ℕ) (known : AreNumbers names numbers count) where
  pub marked-same : (marks : List Bool) (part : List Mention) (x : Mention) → is_one x ≡ false → Marks test names numbers marks part → Marks test names numbers marks (part ++ x ∷ [])
  marked-same marks part x other m = record {
    at = λ i d b below.
        m.at i d b below ∙ sym (or-false (list_any (test (slice_index_or names i d)) part))
        ∙ ap (λ t. list_any (test (slice_index_or names i d)) part || t) (sym (not-it (slice_index_or names i d)))
        ∙ sym (list_any-append (test (slice_index_or names i d)) part (x ∷ []));
  }
    where
      not-it : (name : List ℕ) → list_any (test name) (x ∷ []) ≡ false
      not-it name = ap (λ t. t || false) (holds name x ∙ ap (λ t. t && bytes_eq (mentioned x) name) other)

  pub marked-more : (marks : List Bool) (part : List Mention) (x : Mention) (at : ℕ) → at < length names
      → length marks ≡ count → ((d : List ℕ) → slice_index_or names at d ≡ mentioned x) → is_one x ≡ true
      → Marks test names numbers marks part → Marks test names numbers (set marks (slice_index numbers at) true) (part ++ x ∷ [])
  marked-more marks part x at within long is one m = record { at = λ i d b below. names-cases (slice_index_or names i d) (slice_index_or names at d) _ (it i d b below) (other i d b below) } where
    held : (name : List ℕ) → list_any (test name) (x ∷ []) ≡ bytes_eq (mentioned x) name
    held name = ap (λ t. t || false) (holds name x ∙ ap (λ t. t && bytes_eq (mentioned x) name) one) ∙ or-false (bytes_eq (mentioned x) name)

    it : (i : ℕ) (d : List ℕ) (b : Bool) → i < length names → slice_index_or names i d ≡ slice_index_or names at d
        → slice_index_or (set marks (slice_index numbers at) true) (slice_index numbers i) b ≡ list_any (test (slice_index_or names i d)) (part ++ x ∷ [])
    it i d b below same =
        let low = known.below at within in
        ap (λ k. slice_index_or (set marks (slice_index numbers at) true) k b) (known.one i at d below within same)
        ∙ get_or-set_same marks (slice_index numbers at) true b (omega (arith, low, long))
        ∙ sym (or-true (list_any (test (slice_index_or names i d)) part))
        ∙ ap (λ t. list_any (test (slice_index_or names i d)) part || t) (sym (held (slice_index_or names i d) ∙ ap (bytes_eq (mentioned x)) (same ∙ is d) ∙ same_bytes (mentioned x)))
        ∙ sym (list_any-append (test (slice_index_or names i d)) part (x ∷ []))

    other : (i : ℕ) (d : List ℕ) (b : Bool) → i < length names → slice_index_or names i d ≢ slice_index_or names at d
        → slice_index_or (set marks (slice_index numbers at) true) (slice_index numbers i) b ≡ list_any (test (slice_index_or names i d)) (part ++ x ∷ [])
    other i d b below ne =
        get_or-set_other marks (slice_index numbers at) (slice_index numbers i) true b (known.apart i at d below within ne)
        ∙ m.at i d b below ∙ sym (or-false (list_any (test (slice_index_or names i d)) part))
        ∙ ap (λ t. list_any (test (slice_index_or names i d)) part || t)
        (sym (held (slice_index_or names i d) ∙ unequal (mentioned x) (slice_index_or names i d) (λ e. ne (sym e ∙ sym (is d)))))
        ∙ sym (list_any-append (test (slice_index_or names i d)) part (x ∷ []))

-- the first declaration of each name
module _ (names : List (List ℕ)) (numbers : List ℕ) (count : ℕ) (known : AreNumbers names numbers count) where
  abbrev sought : List ℕ → Declared → Bool
  sought name d = bytes_eq d.name name

  first-in : (name : List ℕ) (part more : List Mention)
      → find (sought name) (flat_map declared_by (part ++ more))
      ≡ option_or (find (sought name) (flat_map declared_by part))
      (find (sought name) (flat_map declared_by more))
  first-in name part more = ap (find (sought name)) (flat_map-append declared_by part more) ∙ find-append (sought name) (flat_map declared_by part) (flat_map declared_by more)

  or-none : {X : Type 0} (o : Option X) → option_or o None ≡ o
  or-none None = refl
  or-none (Some x) = refl

  -- a place that declares none of the names that have no declaration yet
  pub first-same : (first : List (Option DeclaredHere)) (part : List Mention) (x : Mention)
      → ((i : ℕ) (d : List ℕ) (f : Option DeclaredHere) → i < length names
      → (find (sought (slice_index_or names i d)) (flat_map declared_by (x ∷ [])) ≡ None)
      ⊎ ((y : DeclaredHere) × (slice_index_or first (slice_index numbers i) f ≡ Some y)))
      → AreFirst names numbers first part → AreFirst names numbers first (part ++ x ∷ [])
  first-same first part x none a = record {
    at = λ i d f below.
        a.at i d f below ∙ by (find (sought (slice_index_or names i d)) (flat_map declared_by part)) (find (sought (slice_index_or names i d)) (flat_map declared_by (x ∷ [])))
        (option_map declared_of (slice_index_or first (slice_index numbers i) f)) (a.at i d f below)
        (⊎_elim (λ e. inl e)
        (λ (s : (y : DeclaredHere) × (slice_index_or first (slice_index numbers i) f ≡ Some y)). inr
        (declared_of s.0, ap (option_map declared_of) s.1)) (none i d f below))
        ∙ sym (first-in (slice_index_or names i d) part (x ∷ []));
  }
    where
      by : (old new shown : Option Declared) → shown ≡ old → (new ≡ None) ⊎ ((y : Declared) × (shown ≡ Some y)) → old ≡ option_or old new
      by None new shown e (inl n) = sym n
      by None new shown e (inr s) = absurd (cc (e, s.1))
      by (Some y) new shown e c = refl

  pub first-more : (first : List (Option DeclaredHere)) (part : List Mention) (declared : DeclaredHere) (at : ℕ)
      → at < length names → length first ≡ count → ((d : List ℕ) → slice_index_or names at d ≡ declared.name.now)
      → ((f : Option DeclaredHere) → slice_index_or first (slice_index numbers at) f ≡ None)
      → AreFirst names numbers first part → AreFirst names numbers (set first (slice_index numbers at) (Some declared)) (part ++ Declares (declared_of declared) ∷ [])
  first-more first part declared at within long is none a =
      record {
        at = λ i d f below. names-cases (slice_index_or names i d) (slice_index_or names at d) _
            (it i d f below) (other i d f below);
      } where
        alone : (name : List ℕ) (t : Bool) → bytes_eq declared.name.now name ≡ t
            → find (sought name) (flat_map declared_by (Declares (declared_of declared) ∷ []))
            ≡ (if t then Some (declared_of declared) else None)
        alone name t e = ap (λ t. if t then Some (declared_of declared) else None) e

        it : (i : ℕ) (d : List ℕ) (f : Option DeclaredHere) → i < length names → slice_index_or names i d ≡ slice_index_or names at d
            → option_map declared_of (slice_index_or (set first (slice_index numbers at) (Some declared))
            (slice_index numbers i) f) ≡ find (sought (slice_index_or names i d))
            (flat_map declared_by (part ++ Declares (declared_of declared) ∷ []))
        it i d f below same =
            let low = known.below at within in
            let name = slice_index_or names i d in
            let number = known.one i at d below within same in
            let old : find (sought name) (flat_map declared_by part) ≡ None =
            sym (a.at i d f below) ∙ ap (λ k. option_map declared_of (slice_index_or first k f)) number
            ∙ ap (option_map declared_of) (none f) in
            ap (λ k. option_map declared_of (slice_index_or (set first (slice_index numbers at) (Some declared)) k f)) number
            ∙ ap (option_map declared_of) (get_or-set_same first (slice_index numbers at) (Some declared) f (omega (arith, low, long)))
            ∙ sym (alone name true (ap (bytes_eq declared.name.now) (same ∙ is d) ∙ same_bytes declared.name.now))
            ∙ ap (λ o. option_or o (find (sought name) (flat_map declared_by (Declares (declared_of declared) ∷ [])))) (sym old)
            ∙ sym (first-in name part (Declares (declared_of declared) ∷ []))

        other : (i : ℕ) (d : List ℕ) (f : Option DeclaredHere) → i < length names → slice_index_or names i d ≢ slice_index_or names at d
            → option_map declared_of (slice_index_or (set first (slice_index numbers at) (Some declared))
            (slice_index numbers i) f) ≡ find (sought (slice_index_or names i d))
            (flat_map declared_by (part ++ Declares (declared_of declared) ∷ []))
        other i d f below ne =
            let name = slice_index_or names i d in
            ap (option_map declared_of) (get_or-set_other first (slice_index numbers at) (slice_index numbers i) (Some declared) f (known.apart i at d below within ne))
            ∙ a.at i d f below
            ∙ sym (or-none (find (sought name) (flat_map declared_by part)))
            ∙ ap (option_or (find (sought name) (flat_map declared_by part))) (sym (alone name false (unequal declared.name.now name (λ e. ne (sym e ∙ sym (is d))))))
            ∙ sym (first-in name part (Declares (declared_of declared) ∷ []))

-- the first fault, a place further
pub faulty : (test : List Mention → Mention → Bool) (before after : List Mention) (x : Mention) → test before x ≡ true → first_fault test before (x ∷ after) ≡ Some (mentioned x)
faulty test before after x e = ap (λ t. if t then Some (mentioned x) else first_fault test (before ++ x ∷ []) after) e

pub sound : (test : List Mention → Mention → Bool) (before after : List Mention) (x : Mention) → test before x ≡ false → first_fault test before (x ∷ after) ≡ first_fault test (before ++ x ∷ []) after
sound test before after x e = ap (λ t. if t then Some (mentioned x) else first_fault test (before ++ x ∷ []) after) e

pub double-here : (m : Module) (before : List Mention) (x : Mention) (declared driven : Bool)
    (declaration : Option Declared) → declared ≡ list_any (is_declaration_of (mentioned x)) before
    → driven ≡ list_any (is_driver_of (mentioned x)) before
    → declaration ≡ declaration_of m (mentioned x) → double_where declared driven declaration x ≡ is_double m before x
double-here m before (Declares d) declared driven declaration e f g = e
double-here m before (Drives c n) declared driven declaration e f g = (λ i. f i || not (may_drive_it c (g i)))
double-here m before (Reads n) declared driven declaration e f g = refl
double-here m before Clocks declared driven declaration e f g = refl

pub undriven-here : (all before : List Mention) (x : Mention) (declared driven : Bool)
    → declared ≡ list_any (is_declaration_of (mentioned x)) before
    → driven ≡ list_any (is_driver_of (mentioned x)) all
    → undriven_where declared driven x ≡ is_undriven all before x
undriven-here all before (Declares d) declared driven e f = ap (λ t. needs_driver d.kind && not t) f
undriven-here all before (Drives c n) declared driven e f = ap not e
undriven-here all before (Reads n) declared driven e f = ap not e
undriven-here all before Clocks declared driven e f = refl

-- the text, a place further
module _ (text : List MentionHere) (i : ℕ) (d : MentionHere) (below : i < length text) where
  abbrev here : Mention
  here = mention_of (slice_index_or text i d)

  in-shown : i < length (shown text)
  in-shown = let long = length-map text mention_of in omega (arith, long, below)

  pub passed-more : take (i + 1) (shown text) ≡ take i (shown text) ++ here ∷ []
  passed-more = take_more (shown text) i here in-shown ∙ ap (λ x. take i (shown text) ++ x ∷ []) (get_or-map mention_of text i d here below)

  pub left-less : drop i (shown text) ≡ here ∷ drop (i + 1) (shown text)
  left-less =
      let next : suc i ≡ i + 1 = omega arith in
      drop-cons (shown text) i here in-shown ∙ (λ k. get_or-map mention_of text i d here below k ∷ drop (next k) (shown text))

  name-here : (e : List ℕ) → slice_index_or (map mentioned (shown text)) i e ≡ mentioned here
  name-here e = get_or-map mentioned (shown text) i here e in-shown ∙ ap mentioned (get_or-map mention_of text i d here below)

  in-names : i < length (map mentioned (shown text))
  in-names = let long = length-map (shown text) mentioned in let b = in-shown in omega (arith, long, b)

  pub marks-step : (test : List ℕ → Mention → Bool) (is_one : Mention → Bool) → ((name : List ℕ) (x : Mention) → test name x ≡ (is_one x && bytes_eq (mentioned x) name))
      → (numbers : List ℕ) (count : ℕ) → AreNumbers (map mentioned (shown text)) numbers count → (marks marks' : List Bool) (holds : Bool) → length marks ≡ count → holds ≡ is_one here
      → marks' ≡ (if holds then set marks (slice_index numbers i) true else marks)
      → Marks test (map mentioned (shown text)) numbers marks (take i (shown text)) → Marks test (map mentioned (shown text)) numbers marks' (take (i + 1) (shown text))
  marks-step test is_one law numbers count known marks marks' true long one is m =
      subst (λ ms. Marks test (map mentioned (shown text)) numbers ms (take (i + 1) (shown text))) (sym is)
      (subst (λ part. Marks test (map mentioned (shown text)) numbers (set marks (slice_index numbers i) true) part) (sym passed-more)
      (marked-more test is_one law (map mentioned (shown text)) numbers count known marks (take i (shown text)) here i in-names long name-here (sym one) m))
  marks-step test is_one law numbers count known marks marks' false long one is m =
      subst (λ ms. Marks test (map mentioned (shown text)) numbers ms (take (i + 1) (shown text))) (sym is)
      (subst (λ part. Marks test (map mentioned (shown text)) numbers marks part) (sym passed-more)
      (marked-same test is_one law (map mentioned (shown text)) numbers count known marks (take i (shown text)) here (sym one) m))

  pub fault-step : (test : List Mention → Mention → Bool) (first : Option (List ℕ)) → test (take i (shown text)) here ≡ false → first_fault test (take i (shown text)) (drop i (shown text)) ≡ first
      → first_fault test (take (i + 1) (shown text)) (drop (i + 1) (shown text)) ≡ first
  fault-step test first ok e =
      (λ k. first_fault test (passed-more k) (drop (i + 1) (shown text))) ∙ sym (sound test (take i (shown text)) (drop (i + 1) (shown text)) here ok)
      ∙ ap (first_fault test (take i (shown text))) (sym left-less) ∙ e

  pub fault-found : (test : List Mention → Mention → Bool) (first : Option (List ℕ)) → test (take i (shown text)) here ≡ true → first_fault test (take i (shown text)) (drop i (shown text)) ≡ first
      → Some (mentioned here) ≡ first
  fault-found test first bad e = sym (faulty test (take i (shown text)) (drop (i + 1) (shown text)) here bad) ∙ ap (first_fault test (take i (shown text))) (sym left-less) ∙ e

  -- the mark of the name that stands here
  pub mark-here : (test : List ℕ → Mention → Bool) (numbers : List ℕ) (marks : List Bool) (part : List Mention) (m : Bool) → Marks test (map mentioned (shown text)) numbers marks part
      → slice_index_or marks (slice_index numbers i) m ≡ list_any (test (mentioned here)) part
  mark-here test numbers marks part m k = k.at i [] m in-names ∙ ap (λ name. list_any (test name) part) (name-here [])

  pub first-here : (numbers : List ℕ) (first : List (Option DeclaredHere)) (part : List Mention) (f : Option DeclaredHere) → AreFirst (map mentioned (shown text)) numbers first part
      → option_map declared_of (slice_index_or first (slice_index numbers i) f) ≡ find (λ (x : Declared). bytes_eq x.name (mentioned here)) (flat_map declared_by part)
  first-here numbers first part f a = a.at i [] f in-names ∙ ap (λ name. find (λ (x : Declared). bytes_eq x.name name) (flat_map declared_by part)) (name-here [])

pub first-step : (text : List MentionHere) (i : ℕ) (d : MentionHere) (below : i < length text) (numbers : List ℕ)
    (count : ℕ) → AreNumbers (map mentioned (shown text)) numbers count → (first : List (Option DeclaredHere))
    → length first ≡ count
    → AreFirst (map mentioned (shown text)) numbers first (take i (shown text))
    → AreFirst (map mentioned (shown text)) numbers
    (first_after first (slice_index numbers i) (slice_index_or text i d)) (take (i + 1) (shown text))
first-step text i d below numbers count known first long a =
    subst (λ part. AreFirst (map mentioned (shown text)) numbers
    (first_after first (slice_index numbers i) (slice_index_or text i d)) part)
    (sym (passed-more text i d below)) (by (slice_index_or text i d) refl)
  where
    absent : (f : Option DeclaredHere) → is_none f ≡ true → f ≡ None
    absent None e = refl
    absent (Some y) e = absurd (false≢true e)

    present : (f : Option DeclaredHere) → is_none f ≡ false → (y : DeclaredHere) × (f ≡ Some y)
    present None e = absurd (false≢true (sym e))
    present (Some y) e = (y, refl)

    low : slice_index numbers i < length first
    low = let b = known.below i (in-names text i d below) in omega (arith, b, long)

    by : (x : MentionHere) → slice_index_or text i d ≡ x → AreFirst (map mentioned (shown text)) numbers (first_after first (slice_index numbers i) x) (take i (shown text) ++ mention_of x ∷ [])
    by (DeclaresHere declared) e = on (is_none (slice_index_or first (slice_index numbers i) None)) refl where
      name : (e' : List ℕ) → slice_index_or (map mentioned (shown text)) i e' ≡ declared.name.now
      name e' = name-here text i d below e' ∙ ap (λ x. mentioned (mention_of x)) e

      on : (t : Bool) → is_none (slice_index_or first (slice_index numbers i) None) ≡ t
          → AreFirst (map mentioned (shown text)) numbers (if t then set first (slice_index numbers i) (Some declared) else first) (take i (shown text) ++ Declares (declared_of declared) ∷ [])
      on true n = first-more (map mentioned (shown text)) numbers count known first (take i (shown text)) declared i (in-names text i d below) long name
          (λ f. get_or_default first (slice_index numbers i) f None low ∙ absent (slice_index_or first (slice_index numbers i) None) n) a
      on false n = first-same (map mentioned (shown text)) numbers count known first (take i (shown text)) (Declares (declared_of declared))
          (λ j d' f bj. names-cases (slice_index_or (map mentioned (shown text)) j d') declared.name.now _
          (λ same. let y = present (slice_index_or first (slice_index numbers i) None) n in
          let number = known.one j i d' bj (in-names text i d below) (same ∙ sym (name d')) in
          inr (y.0, ap (λ k. slice_index_or first k f) number ∙ get_or_default first (slice_index numbers i) f None low ∙ y.1))
          (λ other. inl (ap (λ t. if t then Some (declared_of declared) else None) (unequal declared.name.now (slice_index_or (map mentioned (shown text)) j d') (λ e'. other (sym e')))))) a
    by (DrivesHere c n) e = first-same (map mentioned (shown text)) numbers count known first (take i (shown text)) (Drives c n.now) (λ j d' f bj. inl refl) a
    by (ReadsHere n) e = first-same (map mentioned (shown text)) numbers count known first (take i (shown text)) (Reads n.now) (λ j d' f bj. inl refl) a
    by ClocksHere e = first-same (map mentioned (shown text)) numbers count known first (take i (shown text)) Clocks (λ j d' f bj. inl refl) a

pub marks-long : (marks marks' : List Bool) (holds : Bool) (at : ℕ) → marks' ≡ (if holds then set marks at true else marks) → length marks' ≡ length marks
marks-long marks marks' true at e = ap length e ∙ length-set marks at true
marks-long marks marks' false at e = ap length e

pub first-long : (first first' : List (Option DeclaredHere)) (at : ℕ) (x : MentionHere) → first' ≡ first_after first at x → length first' ≡ length first
first-long first first' at x e = ap length e ∙ by x where
  one : (t : Bool) (d : DeclaredHere) → length (if t then set first at (Some d) else first) ≡ length first
  one true d = length-set first at (Some d)
  one false d = refl

  by : (x : MentionHere) → length (first_after first at x) ≡ length first
  by (DeclaresHere d) = one (is_none (slice_index_or first at None)) d
  by (DrivesHere c n) = refl
  by (ReadsHere n) = refl
  by ClocksHere = refl

-- the first declaration of the name that stands here
pub declared-here : (m : Module) (text : List MentionHere) → shown text ≡ mentions m
    → (i : ℕ) (d : MentionHere) (below : i < length text) (numbers : List ℕ) (first : List (Option DeclaredHere))
    (f : Option DeclaredHere)
    → AreFirst (map mentioned (shown text)) numbers first (shown text)
    → option_map declared_of (slice_index_or first (slice_index numbers i) f) ≡ declaration_of m (mentioned (mention_of (slice_index_or text i d)))
declared-here m text whole i d below numbers first f a =
    first-here text i d below numbers first (shown text) f a
    ∙ ap (λ all. find (λ (x : Declared). bytes_eq x.name (mentioned (mention_of (slice_index_or text i d)))) (flat_map declared_by all)) whole

-- names are numbered at each place of a text
pub numbered-text : (text : List MentionHere) (numbers : List ℕ) (count : ℕ) → AreNumbers (map mentioned (shown text)) numbers count → AreNumbered text numbers count
numbered-text text numbers count known =
    let long : length (map mentioned (shown text)) ≡ length text = length-map (shown text) mentioned ∙ length-map text mention_of in
    record { long = known.long ∙ long; low = λ i below. known.below i (omega (arith, long, below)); known = known }

-- the number at a place stands in the list of numbers, and is a mark's
pub number-there : (text : List MentionHere) (numbers : List ℕ) (count : ℕ) → AreNumbered text numbers count → (i : ℕ) → i < length text → i < length numbers
number-there text numbers count known i here = let long = known.long in omega (arith, long, here)

pub number-below : (text : List MentionHere) (numbers : List ℕ) (count : ℕ) → AreNumbered text numbers count → (i : ℕ) → i < length text → (marks : ℕ) → marks ≡ count → slice_index numbers i < marks
number-below text numbers count known i here marks long = let low = known.low i here in omega (arith, low, long)

pub past-all : (text : List MentionHere) (i : ℕ) → length text ≤ i → length (shown text) ≤ i
past-all text i past = let long = length-map text mention_of in omega (arith, long, past)

pub none-marked : (test : List ℕ → Mention → Bool) (names : List (List ℕ)) (numbers : List ℕ) (count : ℕ)
    → AreNumbers names numbers count → (marks : List Bool) → marks ≡ replicate count false
    → Marks test names numbers marks []
none-marked test names numbers count known marks is = record {
  at = λ i d m inside. ap (λ (ms : List Bool). slice_index_or ms (slice_index numbers i) m) is ∙ get_or-replicate count (slice_index numbers i) false m (known.below i inside);
}

pub none-first : (names : List (List ℕ)) (numbers : List ℕ) (count : ℕ) → AreNumbers names numbers count
    → (first : List (Option DeclaredHere)) → first ≡ replicate count None → AreFirst names numbers first []
none-first names numbers count known first is = record {
  at = λ i d f inside. ap (λ (fs : List (Option DeclaredHere)). option_map declared_of
      (slice_index_or fs (slice_index numbers i) f)) is
      ∙ ap (option_map declared_of)
      (get_or-replicate count (slice_index numbers i) None f (known.below i inside));
}
