-- Nets are told apart by their words and their names.
use Rattle.std.proofs.Common.{◌≡◌, ◌+◌, ◌*◌, ◌<◌, ℕ, Bool, true, false, not, ◌&&◌, cond, if◌then◌else◌, List, [], ◌∷◌, ◌++◌, flat_map, get_or, length, take, bytes_eq, Result, Ok, Err, OnOk, refl, sym, ap, subst, ◌∙◌, arith, eqb-true, append-nil, append_assoc}
use Rattle.std.specs.Prelude.{◌==◌}
use Rattle.std.specs.Cmp.{both_tied, unsigned_ties}
use Rattle.std.specs.Cmp.Lexicographic.{slice_cmp, texts_ties}
use Rattle.std.specs.List.{list_any}
use Rattle.std.specs.Ordering.{is_eq, nat_cmp}
use Rattle.std.proofs.lemmas.Bool.{and_parts, eq-eqb, false≢true}
use Rattle.std.proofs.lemmas.Grind.{flat_map-append}
use Rattle.std.proofs.lemmas.List.{take_more}
use Rattle.std.proofs.lemmas.List.Folds.{list_any-append}
use Rattle.vl_ast.specs.declared.modules.Port.{Port}
use Rattle.vl_ast.specs.Nets.{Declared}
use Rattle.vl_hier.specs.Linked.{has_word, is_net_for}
use Rattle.vl_hier.specs.inner.Names.{lent}
use Rattle.vl_hier.specs.inner.Nets.{Key, compare_keys, word_of}
use Rattle.vl_hier.proofs.LeastName.{either-more, same-truth}

-- the order of keys tells them apart as they are
tied-keys : (key other : Key) → is_eq (compare_keys key other) ≡ ((key.0 == other.0) && bytes_eq key.1.now other.1.now)
tied-keys key other =
    sym (both_tied _ _ (nat_cmp key.0 other.0) (slice_cmp nat_cmp key.1.now other.1.now)
    (unsigned_ties key.0 other.0) (texts_ties key.1.now other.1.now))

same-words : (width other : ℕ) (signed sign : Bool) → (word_of width signed == word_of other sign) ≡ (width == other && (if sign then signed else not signed))
same-words width other true true =
    same-truth _ _
    (λ e. let w : width * 2 + 1 ≡ other * 2 + 1 = eqb-true _ _ e in (λ k. eq-eqb width other (omega (arith, w)) k && true))
    (λ e. eq-eqb _ _ (ap (λ n. n * 2 + 1) (eqb-true width other (and_parts (width == other) true e).0)))
same-words width other true false =
    same-truth _ _
    (λ e. let w : width * 2 + 1 ≡ other * 2 + 0 = eqb-true _ _ e in absurd (omega (arith, w)))
    (λ e. absurd (false≢true (and_parts (width == other) false e).1))
same-words width other false true =
    same-truth _ _
    (λ e. let w : width * 2 + 0 ≡ other * 2 + 1 = eqb-true _ _ e in absurd (omega (arith, w)))
    (λ e. absurd (false≢true (and_parts (width == other) false e).1))
same-words width other false false =
    same-truth _ _
    (λ e. let w : width * 2 + 0 ≡ other * 2 + 0 = eqb-true _ _ e in (λ k. eq-eqb width other (omega (arith, w)) k && true))
    (λ e. eq-eqb _ _ (ap (λ n. n * 2 + 0) (eqb-true width other (and_parts (width == other) true e).0)))

other-way : (a b : Bool) → (a && b) ≡ (b && a)
other-way true true = refl
other-way true false = refl
other-way false true = refl
other-way false false = refl

-- one net more
pub net-more : (declared : List Declared) (next : Declared) (port : Port) (net : List ℕ) (own : Key)
    → own.0 ≡ word_of next.net.width next.net.signed → next.name ≡ own.1.now
    → cond (is_eq (compare_keys own (word_of port.width port.signed, lent net))) true (list_any (is_net_for port net) declared)
    ≡ list_any (is_net_for port net) (declared ++ next ∷ [])
net-more declared next port net own word named =
    ap (λ b. cond b true (list_any (is_net_for port net) declared))
    (tied-keys own (word_of port.width port.signed, lent net)
    ∙ (λ k. (word k == word_of port.width port.signed) && bytes_eq (sym named k) net)
    ∙ ap (λ b. b && bytes_eq next.name net) (same-words next.net.width port.width next.net.signed port.signed)
    ∙ other-way (has_word port next.net.width next.net.signed) (bytes_eq next.name net))
    ∙ either-more (is_net_for port net next) (list_any (is_net_for port net) declared)
    ∙ sym (list_any-append (is_net_for port net) declared (next ∷ []))

-- a loop's next part
pub grown : {A D : Type 0} (P : List D → Type 0) (f : A → List D) (xs : List A) (i : ℕ) (x : A) → i < length xs → x ≡ get_or xs i x
    → (before : List D) → P ((before ++ flat_map f (take i xs)) ++ f x) → P (before ++ flat_map f (take (i + 1) xs))
grown P f xs i x below at before put =
    let taken : take (i + 1) xs ≡ take i xs ++ x ∷ [] = take_more xs i x below ∙ ap (λ y. take i xs ++ y ∷ []) (sym at) in
    let whole : flat_map f (take (i + 1) xs) ≡ flat_map f (take i xs) ++ f x =
    ap (flat_map f) taken ∙ flat_map-append f (take i xs) (x ∷ []) ∙ ap (λ ys. flat_map f (take i xs) ++ ys) (append-nil (f x)) in
    subst P (append_assoc before (flat_map f (take i xs)) (f x) ∙ ap (λ ys. before ++ ys) (sym whole)) put

pub ok-weaker : {A E : Type 0} {P Q : Type 0} (r : Result A E) → (P → Q) → OnOk r P → OnOk r Q
ok-weaker (Ok made) f p = f p
ok-weaker (Err fault) f p = p
