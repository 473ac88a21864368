-- Some table solves: it is filled sample by sample, and at a sample in the order of the blocks.
use Rattle.std.proofs.Common.{◌≡◌, ℕ, zero, suc, ◌<◌, ◌≤◌, ◌⊎◌, inl, inr, Bool, true, false, cond, ◌&&◌, ◌==◌, Option, Some, None, slice_get, MatchOption, ℤ, pos, ap, sym, ◌∙◌, subst, refl, arith}
use Rattle.std.proofs.Common.{eq-or-lt_of_le, le_of_suc-le-suc, eqb-true, eq-eqb, le_trans}
use Rattle.std.proofs.lemmas.Bool.{cases_lt}
use Rattle.std.proofs.lemmas.Option.{none-some, same_Some}
use Rattle.fx_type.specs.FxType.{InRange}
use Rattle.dg_model.specs.declared.diagram.Diagram.{Diagram}
use Rattle.dg_model.specs.declared.diagram.Block.{Block}
use Rattle.dg_model.specs.Signals.{Attributes, Stimulus, Table}
use Rattle.dg_model.specs.Hits.{Hits, last_hit}
use Rattle.dg_model.specs.Equation.{KindEquation}
use Rattle.dg_model.specs.Solves.{IsStimulus, IsShown, Solves, shown_ports, shown_width}
use Rattle.fx_round.specs.Laws.{StoringGivesOne}
use Rattle.dg_blocks.specs.Laws.{OperationGivesAtMostOne, OperationGivesOne}
use Rattle.dg_model.specs.Library.{row_of}
use Rattle.dg_model.specs.Wired.{root_input}
use Rattle.dg_model.specs.declared.kind.Kind.{Kind}
use Rattle.dg_tables.proofs.Ground.{IsRanked, IsRunnable, RankedTableSolves, RankedIsInRange}
use Rattle.dg_tables.specs.Laws.{EntriesAreInRange}
use Rattle.dg_tables.proofs.Unique.{tables_one}
use Rattle.dg_tables.proofs.Lists.{hit_or_not, last_before}
use Rattle.dg_tables.proofs.Agreement.{carried}
use Rattle.dg_tables.proofs.Equations.{equation_some}

-- the table with new entries at one sample, for the blocks of one rank
next : (ℕ → ℕ) → Table → ℕ → ℕ → (ℕ → ℕ → ℕ → ℤ) → Table
next rank table t r values block port element s = cond ((s == t) && (rank block == r)) (values block port element) (table block port element s)

module _ (rank : ℕ → ℕ) (table : Table) (t r : ℕ) (values : ℕ → ℕ → ℕ → ℤ) (block port element s : ℕ) where
  next_kept : (s < t) ⊎ ((s ≡ t) × (rank block < r)) → next rank table t r values block port element s ≡ table block port element s
  unfolding next
  next_kept done = go (s == t) (rank block == r) refl refl
    where
      go : (a b : Bool) → (s == t) ≡ a → (rank block == r) ≡ b → cond (a && b) (values block port element) (table block port element s) ≡ table block port element s
      go false b p q = refl
      go true false p q = refl
      go true true p q = absurd (apart done)
        where
          apart : (s < t) ⊎ ((s ≡ t) × (rank block < r)) → ⊥
          apart (inl l) = omega (arith, l, eqb-true s t p)
          apart (inr l) = omega (arith, l.1, eqb-true (rank block) r q)

  next_taken : s ≡ t → rank block ≡ r → next rank table t r values block port element s ≡ values block port element
  unfolding next
  next_taken e f = go (s == t) (rank block == r) (eq-eqb s t e) (eq-eqb (rank block) r f)
    where
      go : (a b : Bool) → a ≡ true → b ≡ true → cond (a && b) (values block port element) (table block port element s) ≡ values block port element
      go a b p q = subst (λ (x : Bool). cond (x && b) (values block port element) (table block port element s) ≡ values block port element) (sym p)
          (subst (λ (x : Bool). cond x (values block port element) (table block port element s) ≡ values block port element) (sym q) refl)

module _ (storing : StoringGivesOne) (exactly : OperationGivesOne) (diagram : Diagram) (attributes : Attributes) (rank : ℕ → ℕ) (stimulus : Stimulus) (n : ℕ)
    (checked : IsRanked diagram attributes rank) (runnable : IsRunnable diagram attributes rank) (is_stimulus : IsStimulus diagram attributes stimulus n)
  where
    -- v is what a table that solves has at the place
    pub record IsEntry (table : Table) (block : ℕ) (b : Block) (port element s : ℕ) (v : ℤ) : Type 0 where
      pub at_hit : Hits (attributes.period_at block) s → KindEquation diagram attributes stimulus table b.kind b block port element s v
      pub between : ¬ Hits (attributes.period_at block) s → v ≡ table block port element (last_hit (attributes.period_at block) s)
      pub in_range : InRange (attributes.type_at block port) v

    abbrev IsDone : ℕ → ℕ → ℕ → ℕ → Type 0
    IsDone t r block s = (s < t) ⊎ ((s ≡ t) × (rank block < r))

    -- the table is filled before t, and at t for the blocks of a rank below r
    pub record IsFilled (table : Table) (t r : ℕ) : Type 0 where
      pub entry : (block : ℕ) (b : Block) (port element s : ℕ) → IsShown diagram attributes block b port element
          → IsDone t r block s → IsEntry table block b port element s (table block port element s)

    module _ (table : Table) (t r : ℕ) (filled : IsFilled table t r) (below : t < n) where
      -- the next entry of a block of rank r
      abbrev IsNew : ℕ → ℕ → ℕ → ℤ → Type 0
      IsNew block port element v = (b : Block) → IsShown diagram attributes block b port element → rank block ≡ r → IsEntry table block b port element t v

      shown_new : (block : ℕ) (b : Block) (port element : ℕ) → IsShown diagram attributes block b port element → rank block ≡ r → (v : ℤ) × IsEntry table block b port element t v
      shown_new block b port element shown is_r = go (hit_or_not (attributes.period_at block) t)
        where
          go : Hits (attributes.period_at block) t ⊎ ¬ Hits (attributes.period_at block) t → (v : ℤ) × IsEntry table block b port element t v
          go (inl hit) =
              let v = equation_some storing exactly diagram attributes rank checked runnable stimulus table block b shown.block_is t element
              (checked.types block b 1 shown.block_is (omega arith) (le_trans shown.port_from shown.port_to)) port
              (λ s l input edge e driver from_port element shown. (filled.entry edge.from driver from_port element s shown (inl l)).in_range)
              shown.port_from shown
              (λ now input edge e driver from_port element shown'.
              (filled.entry edge.from driver from_port element t shown'
              (inr (
                refl,
                subst (λ (k : ℕ). rank edge.from < k) is_r
                    (checked.drivers block b input edge shown.block_is now e),
              ))).in_range)
              (λ number width is wide. is_stimulus.in_range block b number element t shown.block_is (ap (λ (kind : Kind). root_input (row_of kind).place.role) is) wide below hit) in
              (v.0, record { at_hit = λ _. v.1; between = λ miss. absurd (miss hit); in_range = v.2 })
          go (inr miss) =
              let before = filled.entry block b port element (last_hit (attributes.period_at block) t) shown (inl (last_before (attributes.period_at block) t miss)) in
              (table block port element (last_hit (attributes.period_at block) t), record { at_hit = λ hit. absurd (miss hit); between = λ _. refl; in_range = before.in_range })

      cell : (block port element : ℕ) → (v : ℤ) × IsNew block port element v
      cell block port element = at_block (slice_get diagram.blocks block) refl
        where
          none : ((b : Block) → IsShown diagram attributes block b port element → rank block ≡ r → ⊥) → (v : ℤ) × IsNew block port element v
          none h = (pos 0, λ b shown is_r. absurd (h b shown is_r))

          found : (b : Block) → slice_get diagram.blocks block ≡ Some b → IsShown diagram attributes block b port element → rank block ≡ r → (v : ℤ) × IsNew block port element v
          found b e shown is_r =
              let v = shown_new block b port element shown is_r in
              (v.0, λ c shown' is_r'. subst (λ (c : Block). IsEntry table block c port element t v.0) (same_Some b c (sym e ∙ shown'.block_is)) v.1)

          at_place : (b : Block) → slice_get diagram.blocks block ≡ Some b → (rank block < r) ⊎ (r ≤ rank block)
              → (r < rank block) ⊎ (rank block ≤ r) → (port < 1) ⊎ (1 ≤ port)
              → (shown_ports b.kind b.outputs < port) ⊎ (port ≤ shown_ports b.kind b.outputs)
              → (element < shown_width diagram attributes b.kind block port) ⊎ (shown_width diagram attributes b.kind block port ≤ element) → (v : ℤ) × IsNew block port element v
          at_place b e (inl h) k l m w = none (λ c shown is_r. omega (arith, h, is_r))
          at_place b e (inr h) (inl k) l m w = none (λ c shown is_r. omega (arith, k, is_r))
          at_place b e (inr h) (inr k) (inl l) m w = none (λ c shown is_r. omega (arith, l, shown.port_from))
          at_place b e (inr h) (inr k) (inr l) (inl m) w =
              none (λ c shown is_r. let p : port ≤ shown_ports b.kind b.outputs =
              subst (λ (c : Block). port ≤ shown_ports c.kind c.outputs)
              (sym (same_Some b c (sym e ∙ shown.block_is))) shown.port_to in omega (arith, m, p))
          at_place b e (inr h) (inr k) (inr l) (inr m) (inr w) =
              none (λ c shown is_r. let p : element < shown_width diagram attributes b.kind block port =
              subst (λ (c : Block). element < shown_width diagram attributes c.kind block port)
              (sym (same_Some b c (sym e ∙ shown.block_is))) shown.element_below in omega (arith, w, p))
          at_place b e (inr h) (inr k) (inr l) (inr m) (inl w) = found b e (record { block_is = e; port_from = l; port_to = m; element_below = w }) (omega (arith, h, k))

          at_block : (o : Option Block) → slice_get diagram.blocks block ≡ o → (v : ℤ) × IsNew block port element v
          at_block None e = none (λ c shown is_r. absurd (none-some c (sym e ∙ shown.block_is)))
          at_block (Some b) e = at_place b e (cases_lt (rank block) r) (cases_lt r (rank block)) (cases_lt port 1)
              (cases_lt (shown_ports b.kind b.outputs) port)
              (cases_lt element (shown_width diagram attributes b.kind block port))

      values : ℕ → ℕ → ℕ → ℤ
      values block port element = (cell block port element).0

      abbrev more : Table
      more = next rank table t r values

      -- an entry stays one in the table with more entries
      moved : (block : ℕ) (b : Block) (port element s : ℕ) (v w : ℤ)
          → IsShown diagram attributes block b port element → s ≤ t → (s ≡ t → rank block ≤ r) → w ≡ v
          → IsEntry table block b port element s v → IsEntry more block b port element s w
      moved block b port element s v w shown to at same entry = subst (λ (z : ℤ). IsEntry more block b port element s z) (sym same) (record {
        at_hit = λ hit. carried diagram attributes rank checked stimulus table more block b shown.block_is s
            (λ driver k l c p x in'. sym (next_kept rank table t r values driver p x k (inl (omega (arith, l, to)))))
            port element v shown
            (λ driver l c p x in'. sym (next_kept rank table t r values driver p x s (done driver l (eq-or-lt_of_le to))))
            (entry.at_hit hit);
        between = λ miss. entry.between miss
            ∙ sym (next_kept rank table t r values block port element (last_hit (attributes.period_at block) s)
            (inl (earlier (last_before (attributes.period_at block) s miss))));
        in_range = entry.in_range;
      })
        where
          done : (driver : ℕ) → rank driver < rank block → (s ≡ t) ⊎ (s < t) → IsDone t r driver s
          done driver l (inl e) = inr (e, omega (arith, l, at e))
          done driver l (inr k) = inl k

          earlier : {k : ℕ} → k < s → k < t
          earlier l = omega (arith, l, to)

      more_filled : IsFilled more t (suc r)
      unfolding values
      more_filled = record { entry = λ block b port element s shown done. go block b port element s shown done }
        where
          old : (block : ℕ) (b : Block) (port element s : ℕ) → IsShown diagram attributes block b port element
              → IsDone t r block s → s ≤ t → (s ≡ t → rank block ≤ r)
              → IsEntry more block b port element s (more block port element s)
          old block b port element s shown done to at =
              moved block b port element s (table block port element s) (more block port element s) shown to at
              (next_kept rank table t r values block port element s done)
              (filled.entry block b port element s shown done)

          new : (block : ℕ) (b : Block) (port element s : ℕ) → IsShown diagram attributes block b port element
              → s ≡ t → (rank block ≡ r) ⊎ (rank block < r)
              → IsEntry more block b port element s (more block port element s)
          new block b port element s shown e (inr l) = old block b port element s shown (inr (e, l)) (omega (arith, e)) (λ _. omega (arith, l))
          new block b port element s shown e (inl f) =
              moved block b port element s (values block port element) (more block port element s) shown
              (omega (arith, e)) (λ _. omega (arith, f))
              (next_taken rank table t r values block port element s e f)
              (subst (λ (k : ℕ). IsEntry table block b port element k (values block port element)) (sym e) ((cell block port element).1 b shown f))

          go : (block : ℕ) (b : Block) (port element s : ℕ) → IsShown diagram attributes block b port element
              → IsDone t (suc r) block s → IsEntry more block b port element s (more block port element s)
          go block b port element s shown (inl l) = old block b port element s shown (inl l) (omega (arith, l)) (λ e. absurd (omega (arith, l, e)))
          go block b port element s shown (inr d) = new block b port element s shown d.0 (eq-or-lt_of_le (le_of_suc-le-suc d.1))

    Filled : ℕ → ℕ → Type 0
    Filled t r = (table : Table) × IsFilled table t r

    by_rank : (t : ℕ) → t < n → (r : ℕ) → Filled t 0 → Filled t r
    unfolding Filled
    by_rank t below zero start = start
    by_rank t below (suc r) start = let f = by_rank t below r start in (more f.0 t r f.1 below, more_filled f.0 t r f.1 below)

    next_sample : (t : ℕ) → Filled t (runnable.bound) → Filled (suc t) 0
    unfolding Filled
    next_sample t f = (f.0, record { entry = λ block b port element s shown done. f.1.entry block b port element s shown (go block b s shown.block_is done) })
      where
        last : (block : ℕ) (b : Block) (s : ℕ) → slice_get diagram.blocks block ≡ Some b → (s ≡ t) ⊎ (s < t) → IsDone t (runnable.bound) block s
        last block b s e (inl h) = inr (h, runnable.ranks block b e)
        last block b s e (inr l) = inl l

        go : (block : ℕ) (b : Block) (s : ℕ) → slice_get diagram.blocks block ≡ Some b → IsDone (suc t) 0 block s → IsDone t (runnable.bound) block s
        go block b s e (inl l) = last block b s e (eq-or-lt_of_le (le_of_suc-le-suc l))
        go block b s e (inr d) = absurd (omega (arith, d.1))

    by_sample : (t : ℕ) → t ≤ n → Filled t 0
    unfolding Filled
    by_sample zero to = (λ block port element s. pos 0, record { entry = λ block b port element s shown done. absurd (none block s done) })
      where
        none : (block s : ℕ) → IsDone 0 0 block s → ⊥
        none block s (inl l) = omega (arith, l)
        none block s (inr d) = omega (arith, d.1)
    by_sample (suc t) to = next_sample t (by_rank t to (runnable.bound) (by_sample t (omega (arith, to))))

    pub table_some : (table : Table) × Solves diagram attributes stimulus n table × EntriesAreInRange diagram attributes table n
    unfolding Filled
    table_some =
        let f = by_sample n (omega arith) in (
          f.0,
          record {
            at_hits = λ block b port element t shown below hit. subst
                (λ (o : Option Block). MatchOption o ⊥
                (λ (b : Block). KindEquation diagram attributes stimulus f.0 b.kind b block port element t
                (f.0 block port element t))) (sym shown.block_is)
                ((f.1.entry block b port element t shown (inl below)).at_hit hit);
            between_hits = λ block b port element t shown below miss. (f.1.entry block b port element t shown (inl below)).between miss;
          },
          λ block b port element t shown below. (f.1.entry block b port element t shown (inl below)).in_range,
        )

pub table_solves : StoringGivesOne → OperationGivesOne → RankedTableSolves
table_solves storing exactly diagram attributes rank stimulus n checked runnable is_stimulus =
    let t = table_some storing exactly diagram attributes rank stimulus n checked runnable is_stimulus in
    (t.0, t.1)

pub solved_in_range : StoringGivesOne → OperationGivesAtMostOne → OperationGivesOne → RankedIsInRange
solved_in_range storing at_most exactly diagram attributes rank stimulus n table checked runnable is_stimulus solves block b port element t shown below =
    let built = table_some storing exactly diagram attributes rank stimulus n checked runnable is_stimulus in
    subst (λ (v : ℤ). InRange (attributes.type_at block port) v) (tables_one storing at_most diagram attributes rank stimulus n built.0 table checked built.1 solves block t below b port element shown)
    (built.2 block b port element t shown below)
