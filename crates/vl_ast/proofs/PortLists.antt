-- The ports of a module have different names, and so have those of them that pass a test.
use Rattle.std.proofs.Common.{◌≡◌, ◌≢◌, ◌<◌, ⊎_elim, ℕ, zero, suc, Bool, true, false, List, [], ◌∷◌, ◌++◌, map, flat_map, filter, slice_get, Contains, Some, None, refl, sym, ap, subst, ◌∙◌, arith}
use Rattle.std.proofs.lemmas.List.{append_assoc, map-append}
use Rattle.std.proofs.lemmas.Bool.{cond-true, cond-false}
use Rattle.vl_ast.specs.declared.modules.Port.{Port}
use Rattle.vl_ast.specs.declared.modules.Module.{Module}
use Rattle.vl_ast.specs.Nets.{port_declared, Mention, Declares, mentions, item_mentions}
use Rattle.vl_ast.specs.Conditions.{undriven, doubly}
use Rattle.math_list.proofs.Elements.{cons-cases, head-in, tail-in, none-in, cut-at, in-cut}
use Rattle.vl_ast.proofs.Facts.{no-earlier-declaration}

-- no two ports have one name
pub record Apart (ports : List Port) : Type 0 where
  pub at : (before : List Port) (port : Port) (after : List Port) → ports ≡ before ++ port ∷ after → (other : Port) → Contains after other → port.name ≢ other.name

pub apart-tail : (port : Port) (ports : List Port) → Apart (port ∷ ports) → Apart ports
apart-tail port ports a = record { at = λ before here after e other h. a.at (port ∷ before) here after (ap (λ xs. port ∷ xs) e) other h }

pub filter-in : (test : Port → Bool) (ports : List Port) (x : Port) → Contains (filter test ports) x → Contains ports x × (test x ≡ true)
filter-in test [] x h = absurd (none-in x h)
filter-in test (port ∷ ports) x h = by (filter-in test ports x) (test port) refl where
  by : (Contains (filter test ports) x → Contains ports x × (test x ≡ true)) → (t : Bool) → test port ≡ t → Contains (port ∷ ports) x × (test x ≡ true)
  by rest true e = ⊎_elim
      (λ s. (subst (λ p. Contains (port ∷ ports) p) s (head-in port ports), ap test (sym s) ∙ e))
      (λ t. let r = rest t in (tail-in port x ports r.0, r.1))
      (cons-cases port x (filter test ports) (subst (λ xs. Contains xs x) (cond-true (test port) (port ∷ filter test ports) (filter test ports) e) h))
  by rest false e = let r = rest (subst (λ xs. Contains xs x) (cond-false (test port) (port ∷ filter test ports) (filter test ports) e) h) in (tail-in port x ports r.0, r.1)

pub slice-in : (xs : List Port) (k : ℕ) (x : Port) → slice_get xs k ≡ Some x → Contains xs x
slice-in [] k x e = absurd (cc e)
slice-in (y ∷ xs) zero x e = let same : y ≡ x = cc e in subst (λ z. Contains (y ∷ xs) z) same (head-in y xs)
slice-in (y ∷ xs) (suc k) x e = tail-in y x xs (slice-in xs k x e)

-- ports that stand one after another have different names
pub record ApartAt (ports : List Port) : Type 0 where
  pub at : (i j : ℕ) (one other : Port) → i < j → slice_get ports i ≡ Some one → slice_get ports j ≡ Some other → one.name ≢ other.name

-- and so have those of them that pass a test
pub filtered-apart : (test : Port → Bool) (ports : List Port) → Apart ports → ApartAt (filter test ports)
filtered-apart test [] apart = record { at = λ i j one other less ei ej. absurd (cc ei) }
filtered-apart test (first ∷ ports) apart = by (filtered-apart test ports (apart-tail first ports apart)) (test first) refl where
  with-first : ApartAt (filter test ports) → (i j : ℕ) (one other : Port) → i < j
      → slice_get (first ∷ filter test ports) i ≡ Some one → slice_get (first ∷ filter test ports) j ≡ Some other
      → one.name ≢ other.name
  with-first rest i zero one other less ei ej = absurd (omega (arith, less))
  with-first rest zero (suc j) one other less ei ej =
      let same : first ≡ one = cc ei in
      subst (λ (x : Port). x.name ≢ other.name) same (apart.at [] first ports refl other (filter-in test ports other (slice-in (filter test ports) j other ej)).0)
  with-first rest (suc i) (suc j) one other less ei ej = rest.at i j one other (omega (arith, less)) ei ej

  by : ApartAt (filter test ports) → (t : Bool) → test first ≡ t → ApartAt (filter test (first ∷ ports))
  by rest true s = subst ApartAt (sym (cond-true (test first) (first ∷ filter test ports) (filter test ports) s)) (record { at = with-first rest })
  by rest false s = subst ApartAt (sym (cond-false (test first) (first ∷ filter test ports) (filter test ports) s)) rest

module _ (m : Module) (driven : undriven m ≡ None) (once : doubly m ≡ None) where
  abbrev declares : Port → Mention
  declares port = Declares (port_declared port)

  pub ports-apart : Apart m.ports
  ports-apart = record {
    at = λ before port after e other h same.
        let cut = cut-at after other h in
        let items = flat_map item_mentions m.items in
        let passed = map declares before ++ (declares port ∷ map declares cut.before) in
        let whole : mentions m ≡ passed ++ declares other ∷ (map declares cut.after ++ items) =
        ap (λ ports. map declares ports ++ items) (e ∙ ap (λ ps. before ++ port ∷ ps) cut.whole)
        ∙ ap (λ xs. xs ++ items) (map-append declares before (port ∷ cut.before ++ other ∷ cut.after)
        ∙ ap (λ xs. map declares before ++ declares port ∷ xs) (map-append declares cut.before (other ∷ cut.after)))
        ∙ simp append_assoc refl in
        no-earlier-declaration m driven once (port_declared other) (port_declared port) (record { before = passed; after = map declares cut.after ++ items; whole = whole })
        (in-cut (map declares before) (map declares cut.before) (declares port)) same;
  }
