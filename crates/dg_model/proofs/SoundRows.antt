-- Nested blocks and lines that are well formed, and what breaks each part of them.
use Rattle.std.specs.Option.{option_map}
use Rattle.math_list.specs.Numbers.{numbers_from}
use Rattle.std.proofs.Common.{◌≡◌, ◌+◌, ◌<◌, ◌∙◌, map, ℕ, zero, suc, ◌≤◌, List, [], ◌∷◌, get_or, None, Some, Option, false, true, refl, sym, ap, subst, arith}
use Rattle.std.specs.Prelude.{slice_get, All, replicate}
use Rattle.std.proofs.Math.Dec.{lit<, lit≤}
use Rattle.std.proofs.lemmas.List.{length-replicate}
use Rattle.std.proofs.lemmas.Option.{none-some, same_Some, slice_get-map}
use Rattle.fx_type.specs.declared.decimal.Decimal.{Decimal}
use Rattle.dg_model.specs.declared.kind.Kind.TheVariants.{Inport, Outport, Pass, EnOut, Terminator}
use Rattle.dg_model.specs.declared.nested.Nested.{Nested}
use Rattle.dg_model.specs.declared.nested.NestedBlock.{NestedBlock}
use Rattle.dg_model.specs.declared.nested.NestedLine.{NestedLine}
use Rattle.dg_model.specs.declared.nested.Part.{Part}
use Rattle.dg_model.specs.declared.nested.Part.TheVariants.{Plain, In, Out, SubSystem, Enable}
use Rattle.dg_model.specs.declared.nested.Target.{Target}
use Rattle.dg_model.specs.declared.nested.Target.TheVariants.{Port, Enable as EnableTarget}
use Rattle.dg_model.specs.declared.row.Role.{Role}
use Rattle.dg_model.specs.Sound.{IsSound, IsSubSystem, IsEnable, HasEnablePort, AreLevels, HasParent, HaveNames, JoinsWithin, HasReadable, HasInRole, HasOutRole, HasPlainRole}
use Rattle.dg_model.proofs.Examples.{block_of, decimal_of}
use Rattle.math_list.proofs.ByRecursion.{all_of, each_of, pairs_of}

abbrev one : List Decimal
one = decimal_of 1 (lit< tt) ∷ []

abbrev nested_block : ℕ → Option ℕ → Part → NestedBlock
nested_block name parent part = record { name = name ∷ []; parent = parent; part = part }

abbrev line_of : ℕ → ℕ → ℕ → Target → NestedLine
line_of from from_port to target = record { from = from; from_port = from_port; to = to; target = target }

abbrev root_in : Part
root_in = In (block_of (Inport 1 0) 0 1 None) 1

abbrev root_out : Part
root_out = Out (block_of (Outport 1) 1 0 None) 1

abbrev inner_in : Part
inner_in = In (block_of (Pass 0) 1 1 None) 1

abbrev enabled_out : Part
enabled_out = Out (block_of (EnOut false one) 1 1 None) 1

abbrev inner_out : Part
inner_out = Out (block_of (Pass 0) 1 1 None) 1

abbrev plain : Part
plain = Plain (block_of Terminator 1 0 None)

-- u, an enabled subsystem with an input, an output and its EnablePort, y, a subsystem with an output, and in it a Terminator of the name of y
abbrev blocks : List NestedBlock
blocks = nested_block 1 None root_in ∷ nested_block 2 None SubSystem ∷ nested_block 1 (Some 1) inner_in
    ∷ nested_block 3 (Some 1) enabled_out ∷ nested_block 4 (Some 1) (Enable false) ∷ nested_block 3 None root_out
    ∷ nested_block 5 None SubSystem ∷ nested_block 1 (Some 6) inner_out ∷ nested_block 3 (Some 6) plain ∷ []

abbrev lines : List NestedLine
lines = line_of 0 1 1 (Port 1) ∷ line_of 0 1 1 EnableTarget ∷ line_of 2 1 3 (Port 1) ∷ line_of 1 1 5 (Port 1) ∷ []

abbrev nested : Nested
nested = record { blocks = blocks; lines = lines }

-- ---- it is well formed

level : Option ℕ → ℕ
level None = 1
level (Some system) = 2

levels : AreLevels blocks level
unfolding level
levels = record {
  root = refl;
  inner = each_of (λ block b. IsSubSystem b.part → level (Some block) ≡ suc (level b.parent)) blocks (
    λ is. absurd is,
    (
      λ is. refl,
      (
        λ is. absurd is,
        (
          λ is. absurd is,
          (λ is. absurd is, (λ is. absurd is, (λ is. refl, (λ is. absurd is, (λ is. absurd is, tt))))),
        ),
      ),
    ),
  );
  deepest = each_of (λ block b. IsSubSystem b.part → level (Some block) ≤ 64) blocks (
    λ is. absurd is,
    (
      λ is. lit≤ tt,
      (
        λ is. absurd is,
        (
          λ is. absurd is,
          (λ is. absurd is, (λ is. absurd is, (λ is. lit≤ tt, (λ is. absurd is, (λ is. absurd is, tt))))),
        ),
      ),
    ),
  );
}

-- no EnablePort stands in the second subsystem
no_enable : ¬ HasEnablePort blocks (Some 6)
no_enable (k, block, inside, at, has) =
    let each : All (λ (b : NestedBlock). b.parent ≡ Some 6 → IsEnable b.part → ⊥) blocks =
    all_of (λ b. b.parent ≡ Some 6 → IsEnable b.part → ⊥) blocks (
      λ same is. absurd is,
      (
        λ same is. absurd is,
        (
          λ same is. absurd is,
          (
            λ same is. absurd is,
            (
              λ same is. absurd (omega (arith, same_Some 1 6 same)),
              (
                λ same is. absurd is,
                (λ same is. absurd is, (λ same is. absurd is, (λ same is. absurd is, tt))),
              ),
            ),
          ),
        ),
      ),
    ) in
    let here : block.parent ≡ Some 6 → IsEnable block.part → ⊥ = subst (λ (b : NestedBlock). b.parent ≡ Some 6 → IsEnable b.part → ⊥) at (each k block inside) in
    here (has.0) (has.1)

differ : (m n : ℕ) → (m ≡ n → ⊥) → ◌≡◌ {A = List ℕ} (m ∷ []) (n ∷ []) → ⊥
differ m n other same = other (ap (λ (xs : List ℕ). get_or xs 0 0) same)

sound : IsSound nested
sound = record {
  size = lit≤ tt;
  parents = each_of (λ block b. HasParent blocks block b.parent) blocks (tt, (tt, ((lit< tt, tt), ((lit< tt, tt), ((lit< tt, tt), (tt, (tt, ((lit< tt, tt), ((lit< tt, tt), tt)))))))));
  levels = (level, levels);
  names = pairs_of HaveNames blocks (
    (
      λ same. differ 1 2 (λ n. absurd (omega (arith, n))),
      (
        λ same. absurd (none-some 1 same),
        (
          λ same. absurd (none-some 1 same),
          (
            λ same. absurd (none-some 1 same),
            (
              λ same. differ 1 3 (λ n. absurd (omega (arith, n))),
              (
                λ same. differ 1 5 (λ n. absurd (omega (arith, n))),
                (λ same. absurd (none-some 6 same), (λ same. absurd (none-some 6 same), tt)),
              ),
            ),
          ),
        ),
      ),
    ),
    (
      (
        λ same. absurd (none-some 1 same),
        (
          λ same. absurd (none-some 1 same),
          (
            λ same. absurd (none-some 1 same),
            (
              λ same. differ 2 3 (λ n. absurd (omega (arith, n))),
              (
                λ same. differ 2 5 (λ n. absurd (omega (arith, n))),
                (
                  λ same. absurd (none-some 6 same),
                  (λ same. absurd (none-some 6 same), tt),
                ),
              ),
            ),
          ),
        ),
      ),
      (
        (
          λ same. differ 1 3 (λ n. absurd (omega (arith, n))),
          (
            λ same. differ 1 4 (λ n. absurd (omega (arith, n))),
            (
              λ same. absurd (none-some 1 (sym same)),
              (
                λ same. absurd (none-some 1 (sym same)),
                (
                  λ same. absurd
                      (omega (arith, same_Some 1 6 same)),
                  (
                    λ same. absurd
                        (omega (
                          arith,
                          same_Some 1 6 same,
                        )),
                    tt,
                  ),
                ),
              ),
            ),
          ),
        ),
        (
          (
            λ same. differ 3 4
                (λ n. absurd
                (omega (
                  arith,
                  n,
                ))),
            (
              λ same.
                  absurd
                  (none-some
                  1 (sym
                  same)),
              (
                λ same.
                    absurd
                    (none-some
                    1 (sym
                    same)),
                (
                  λ same.
                      absurd
                      (omega (
                        arith,
                        same_Some
                            1 6
                            same,
                      )),
                  (
                    λ same.
                        absurd
                        (omega (
                          arith,
                          same_Some
                              1 6
                              same,
                        )),
                    tt,
                  ),
                ),
              ),
            ),
          ),
          (
            (
              λ same.
                  absurd
                  (none-some
                  1 (sym
                  same)),
              (
                λ same.
                    absurd
                    (none-some
                    1 (sym
                    same)),
                (
                  λ same.
                      absurd
                      (omega (
                        arith,
                        same_Some
                            1 6
                            same,
                      )),
                  (
                    λ same.
                        absurd
                        (omega (
                          arith,
                          same_Some
                              1 6
                              same,
                        )),
                    tt,
                  ),
                ),
              ),
            ),
            (
              (
                λ same.
                    differ
                    3 5
                    (λ n.
                    absurd
                    (omega (
                      arith,
                      n,
                    ))),
                (
                  λ same.
                      absurd
                      (none-some
                      6 same),
                  (
                    λ same.
                        absurd
                        (none-some
                        6 same),
                    tt,
                  ),
                ),
              ),
              (
                (
                  λ same.
                      absurd
                      (none-some
                      6 same),
                  (
                    λ same.
                        absurd
                        (none-some
                        6 same),
                    tt,
                  ),
                ),
                (
                  (
                    λ same.
                        differ
                        1 3
                        (λ n.
                        absurd
                        (omega (
                          arith,
                          n,
                        ))),
                    tt,
                  ),
                  (
                    tt,
                    tt,
                  ),
                ),
              ),
            ),
          ),
        ),
      ),
    ),
  );
  lines = all_of (JoinsWithin blocks) lines (
    record { system = refl; from_port = (lit≤ tt, lit≤ tt); target = (lit≤ tt, lit≤ tt) },
    (
      record { system = refl; from_port = (lit≤ tt, lit≤ tt); target = tt },
      (
        record { system = refl; from_port = (lit≤ tt, lit≤ tt); target = (lit≤ tt, lit≤ tt) },
        (record { system = refl; from_port = (lit≤ tt, lit≤ tt); target = (lit≤ tt, lit≤ tt) }, tt),
      ),
    ),
  );
  blocks = all_of (λ block. HasReadable block.part) blocks (
    record {
      ports = (refl, refl);
      parameters = ((lit≤ tt, lit≤ tt), (lit≤ tt, lit≤ tt));
      types = tt;
      result =
          tt;
      rounding = (refl, refl);
      period = tt;
    },
    (
      tt,
      (
        record {
          ports = (refl, refl);
          parameters = (lit≤ tt, lit≤ tt);
          types = tt;
          result =
              tt;
          rounding = (refl, refl);
          period = tt;
        },
        (
          record {
            ports = (refl, refl);
            parameters = (lit≤ tt, lit≤ tt);
            types = tt;
            result =
                tt;
            rounding = (refl, refl);
            period = tt;
          },
          (
            tt,
            (
              record {
                ports = (refl, refl);
                parameters = (lit≤ tt, lit≤ tt);
                types =
                    tt;
                result = tt;
                rounding = (refl, refl);
                period = tt;
              },
              (
                tt,
                (
                  record {
                    ports = (refl, refl);
                    parameters = (lit≤ tt, lit≤ tt);
                    types =
                        tt;
                    result = tt;
                    rounding = (refl, refl);
                    period = tt;
                  },
                  (
                    record {
                      ports = (refl, refl);
                      parameters = tt;
                      types = tt;
                      result =
                          refl;
                      rounding = (refl, refl);
                      period = refl;
                    },
                    tt,
                  ),
                ),
              ),
            ),
          ),
        ),
      ),
    ),
  );
  ins = all_of (λ block. HasInRole block.parent block.part) blocks (refl, (tt, (tt, (tt, (tt, (tt, (tt, (tt, (tt, tt)))))))));
  outs = all_of (λ block. HasOutRole blocks block.parent block.part) blocks (
    tt,
    (
      tt,
      (
        tt,
        (
          (4, nested_block 4 (Some 1) (Enable false), lit< tt, refl, (refl, tt)),
          (tt, (refl, (tt, ((refl, no_enable), (tt, tt))))),
        ),
      ),
    ),
  );
  plains = all_of (λ block. HasPlainRole block.part) blocks (tt, (tt, (tt, (tt, (tt, (tt, (tt, (tt, (refl, tt)))))))));
}

-- ---- one part broken

abbrev of_blocks : List NestedBlock → Nested
of_blocks others = record { blocks = others; lines = [] }

abbrev of_lines : List NestedLine → Nested
of_lines others = record { blocks = blocks; lines = others }

-- more than 20,000 blocks
too_many : ¬ IsSound (of_blocks (replicate 20001 (nested_block 1 None plain)))
too_many is = absurd (omega (arith, is.size, length-replicate 20001 (nested_block 1 None plain)))

-- a parent that isn't there before, and one that is no subsystem
late_parent : ¬ IsSound (of_blocks (nested_block 1 (Some 1) plain ∷ nested_block 2 None SubSystem ∷ []))
late_parent is = absurd (omega (arith, (is.parents 0 (nested_block 1 (Some 1) plain) refl).0))

plain_parent : ¬ IsSound (of_blocks (nested_block 1 None plain ∷ nested_block 2 (Some 0) plain ∷ []))
plain_parent is = absurd (is.parents 1 (nested_block 2 (Some 0) plain) refl).1

-- two blocks of one name in one System
same_names : ¬ IsSound (of_blocks (nested_block 1 None plain ∷ nested_block 1 None plain ∷ []))
same_names is = absurd (is.names 0 1 (nested_block 1 None plain) (lit< tt) (lit< tt) refl refl)

-- lines between two Systems, from a block that isn't there, and with ports that can't be
between_systems : ¬ IsSound (of_lines (line_of 0 1 2 (Port 1) ∷ []))
between_systems is = absurd (none-some 1 (is.lines 0 (line_of 0 1 2 (Port 1)) (lit< tt)).system)

no_source : (¬ IsSound (of_lines (line_of 9 1 2 (Port 1) ∷ []))) × (¬ IsSound (of_lines (line_of 0 1 9 (Port 1) ∷ [])))
no_source = (λ is. absurd (is.lines 0 (line_of 9 1 2 (Port 1)) (lit< tt)).system, λ is. absurd (is.lines 0 (line_of 0 1 9 (Port 1)) (lit< tt)).system)

no_port : (¬ IsSound (of_lines (line_of 0 0 1 (Port 1) ∷ [])))
    × (¬ IsSound (of_lines (line_of 0 20001 1 (Port 1) ∷ [])))
    × (¬ IsSound (of_lines (line_of 0 1 1 (Port 0) ∷ [])))
    × (¬ IsSound (of_lines (line_of 0 1 1 (Port 20001) ∷ [])))
no_port = (
  λ is. absurd (omega (arith, (is.lines 0 (line_of 0 0 1 (Port 1)) (lit< tt)).from_port.0)),
  λ is. absurd (omega (arith, (is.lines 0 (line_of 0 20001 1 (Port 1)) (lit< tt)).from_port.1)),
  λ is. absurd (omega (arith, (is.lines 0 (line_of 0 1 1 (Port 0)) (lit< tt)).target.0)),
  λ is. absurd (omega (arith, (is.lines 0 (line_of 0 1 1 (Port 20001)) (lit< tt)).target.1)),
)

-- a block that no text can be
not_readable : ¬ IsSound (of_blocks (nested_block 1 None (Plain (block_of Terminator 2 0 None)) ∷ []))
not_readable is = absurd (omega (arith, (is.blocks 0 (nested_block 1 None (Plain (block_of Terminator 2 0 None))) (lit< tt)).ports.0))

-- an Inport of another number or of an inner kind in the root, and a root kind in a subsystem
root_number : ¬ IsSound (of_blocks (nested_block 1 None (In (block_of (Inport 1 0) 0 1 None) 2) ∷ []))
root_number is = absurd (omega (arith, is.ins 0 (nested_block 1 None (In (block_of (Inport 1 0) 0 1 None) 2)) (lit< tt)))

inner_in_root : ¬ IsSound (of_blocks (nested_block 1 None inner_in ∷ []))
inner_in_root is = absurd (is.ins 0 (nested_block 1 None inner_in) (lit< tt))

root_in_system : ¬ IsSound (of_blocks (nested_block 1 None SubSystem ∷ nested_block 2 (Some 0) root_in ∷ []))
root_in_system is = absurd (is.ins 1 (nested_block 2 (Some 0) root_in) (lit< tt))

-- an Outport of another number, of an inner kind in the root, of the enabled kind without an EnablePort, and with a width
output_number : ¬ IsSound (of_blocks (nested_block 1 None (Out (block_of (Outport 1) 1 0 None) 2) ∷ []))
output_number is = absurd (omega (arith, is.outs 0 (nested_block 1 None (Out (block_of (Outport 1) 1 0 None) 2)) (lit< tt)))

inner_out_root : (¬ IsSound (of_blocks (nested_block 1 None inner_out ∷ []))) × (¬ IsSound (of_blocks (nested_block 1 None enabled_out ∷ [])))
inner_out_root = (λ is. absurd (is.outs 0 (nested_block 1 None inner_out) (lit< tt)), λ is. absurd (is.outs 0 (nested_block 1 None enabled_out) (lit< tt)))

abbrev without_enable : List NestedBlock
without_enable = nested_block 1 None SubSystem ∷ nested_block 2 (Some 0) enabled_out ∷ []

none_enables : ¬ HasEnablePort without_enable (Some 0)
none_enables (zero, block, inside, at, has) = absurd (subst (λ (b : NestedBlock). IsEnable b.part → ⊥) at (λ is. absurd is) (has.1))
none_enables (suc zero, block, inside, at, has) = absurd (subst (λ (b : NestedBlock). IsEnable b.part → ⊥) at (λ is. absurd is) (has.1))
none_enables (suc (suc k), block, inside, at, has) = absurd (omega (arith, inside))

enabled_out_of_none : ¬ IsSound (of_blocks without_enable)
enabled_out_of_none is = none_enables (is.outs 1 (nested_block 2 (Some 0) enabled_out) (lit< tt))

abbrev with_enable : List NestedBlock
with_enable = nested_block 1 None SubSystem ∷ nested_block 2 (Some 0) (Enable true) ∷ nested_block 3 (Some 0) inner_out ∷ []

plain_out_of_enabled : ¬ IsSound (of_blocks with_enable)
plain_out_of_enabled is = (is.outs 2 (nested_block 3 (Some 0) inner_out) (lit< tt)).1 (1, nested_block 2 (Some 0) (Enable true), lit< tt, refl, (refl, tt))

wide_out : ¬ IsSound (of_blocks (nested_block 1 None SubSystem ∷ nested_block 2 (Some 0) (Out (block_of (Pass 3) 1 1 None) 1) ∷ []))
wide_out is = absurd (omega (arith, (is.outs 1 (nested_block 2 (Some 0) (Out (block_of (Pass 3) 1 1 None) 1)) (lit< tt)).0))

-- a plain block of a port's kind
plain_port : ¬ IsSound (of_blocks (nested_block 1 None (Plain (block_of (Outport 1) 1 0 None)) ∷ []))
plain_port is = let e : ◌≡◌ {A = Role} (Role.RootOutput 1) Role.Plain = is.plains 0 (nested_block 1 None (Plain (block_of (Outport 1) 1 0 None))) (lit< tt) in cc

-- ---- Systems that lie too deep: 64 subsystems, each in the one before, are 65 levels with the root

abbrev parent_of : ℕ → Option ℕ
parent_of zero = None
parent_of (suc k) = Some k

abbrev chained : ℕ → NestedBlock
chained k = nested_block k (parent_of k) SubSystem

pub number_at : (from n k : ℕ) → k < n → slice_get (numbers_from from n) k ≡ Some (from + k)
number_at from zero k below = absurd (omega (arith, below))
number_at from (suc n) zero below = let e : from ≡ from + 0 = omega arith in ap (λ m. Some m) e
number_at from (suc n) (suc k) below = let e : suc from + k ≡ from + suc k = omega arith in number_at (suc from) n k (omega (arith, below)) ∙ ap (λ m. Some m) e

chain_at : (n k : ℕ) → k < n → slice_get (map chained (numbers_from 0 n)) k ≡ Some (chained k)
chain_at n k below =
    let e : 0 + k ≡ k = omega arith in
    slice_get-map chained (numbers_from 0 n) k ∙ ap (option_map chained) (number_at 0 n k below) ∙ ap (λ m. Some (chained m)) e

level_of_chain : (n : ℕ) (level : Option ℕ → ℕ) → AreLevels (map chained (numbers_from 0 n)) level → (k : ℕ) → k < n → level (Some k) ≡ suc (suc k)
level_of_chain n level are zero below = are.inner 0 (chained 0) (chain_at n 0 below) tt ∙ ap suc are.root
level_of_chain n level are (suc k) below = are.inner (suc k) (chained (suc k)) (chain_at n (suc k) below) tt ∙ ap suc (level_of_chain n level are k (omega (arith, below)))

too_deep : ¬ IsSound (of_blocks (map chained (numbers_from 0 64)))
too_deep is =
    let are = is.levels in
    absurd (omega (arith, are.1.deepest 63 (chained 63) (chain_at 64 63 (lit< tt)) tt, level_of_chain 64 (are.0) (are.1) 63 (lit< tt)))
