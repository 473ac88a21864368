-- Numbers of ports, multiplications and each broken condition, worked out by hand.
use Rattle.std.proofs.Common.{◌≡◌, ◌≤◌, ◌<◌, ◌-◌, ◌^◌, ◌+◌, ◌%◌, ℕ, zero, suc, Bool, true, false, if◌then◌else◌, List, [], ◌∷◌, Some, slice_index_or, codes, bytes_eq, pos, negsuc, refl, ap, arith}
use Rattle.std.specs.List.{IsDistinct}
use Rattle.vl_ast.specs.declared.expressions.BinOp.TheVariants.{Add, Multiply}
use Rattle.vl_ast.specs.declared.expressions.Sized.{Sized}
use Rattle.vl_ast.specs.declared.expressions.Expr.{Expr}
use Rattle.vl_ast.specs.declared.expressions.Expr.TheOpen.{Expr-F}
use Rattle.vl_ast.specs.declared.expressions.Expr.TheViews.{roll-Expr}
use Rattle.vl_ast.specs.declared.expressions.Expr.TheFolds.{map-Expr, para-Expr, para-roll-Expr, fold-roll-Expr}
use Rattle.vl_ast.specs.declared.modules.Port.{Port}
use Rattle.vl_ast.specs.declared.modules.Module.{Module}
use Rattle.vl_ast.specs.declared.modules.ModItem.TheVariants.{Wire, Reg, Assign, Always}
use Rattle.vl_ast.specs.Conditions.{Undriven, Doubly, CombLoop, TooWide, NoReset, NoAttribute, IsFirstFault, IsLoop, AssignmentReads}
use Rattle.vl_ast.specs.Driven.{port_number}
use Rattle.vl_ast.specs.Context.{Net, Operand}
use Rattle.vl_ast.specs.Multiplications.{Multiplication, multiplications_step, multiplications_in, multiplications}
use Rattle.vl_ast.specs.Nets.{names_read, names_step, place_of}
use Rattle.vl_ast.proofs.Values.{own_length-roll, is_signed-roll}

-- ---- numbers of ports

abbrev port_of : Bool → ℕ → Port
port_of signed width = record { attrs = []; input = false; signed = signed; width = width; name = codes "y" }

-- signed by two's complement, unsigned as they are, but for 128 bits
port_numbers :
    port_number (port_of true 8) 127 ∷ port_number (port_of true 8) 128 ∷ port_number (port_of true 8) 255 ∷ port_number (port_of false 8) 255
    ∷ port_number (port_of true 1) 1 ∷ port_number (port_of false 1) 1 ∷ port_number (port_of false 128) (2 ^ 128 - 1) ∷ port_number (port_of false 127) (2 ^ 127 - 1) ∷ []
    ≡ pos 127 ∷ negsuc 127 ∷ negsuc 0 ∷ pos 255 ∷ negsuc 0 ∷ pos 1 ∷ negsuc 0 ∷ pos (2 ^ 127 - 1) ∷ []
port_numbers = refl

-- ---- multiplications

abbrev name : List ℕ → Expr
name bytes = roll-Expr (Expr-F.Name bytes)

abbrev times : Expr → Expr → Expr
times left right = roll-Expr (Expr-F.Binary Multiply left right)

abbrev plus : Expr → Expr → Expr
plus left right = roll-Expr (Expr-F.Binary Add left right)

-- `s` is signed with 4 bits, and each other name unsigned with 6
abbrev nets : List ℕ → Net
nets bytes = if bytes_eq bytes (codes "s") then record { width = 4; signed = true } else record { width = 6; signed = false }

multiplications-roll : (nets : List ℕ → Net) (x : Expr-F Expr) (width : ℕ) (signed : Bool) →
    multiplications_in nets width signed (roll-Expr x)
    ≡ multiplications_step nets (map-Expr Expr (Operand (List Multiplication)) (λ e. (e, para-Expr (ℕ → Bool → List Multiplication) (multiplications_step nets) e)) x) width signed
multiplications-roll nets x width signed = ap (λ (f : ℕ → Bool → List Multiplication). f width signed) (para-roll-Expr (ℕ → Bool → List Multiplication) (multiplications_step nets) x)

abbrev product : Expr → Expr → ℕ → Bool → Multiplication
product left right width signed = record { left = left; right = right; width = width; signed = signed }

-- in the order of the text, each in its context: a square beside a sum, in the sum's context of 9 bits
in_order :
    multiplications_in nets 9 false (plus (times (name (codes "s")) (name (codes "s"))) (times (name (codes "u")) (name (codes "v"))))
    ≡ product (name (codes "s")) (name (codes "s")) 9 false ∷ product (name (codes "u")) (name (codes "v")) 9 false ∷ []
in_order = simp (multiplications-roll, own_length-roll, is_signed-roll)

-- a product of a product comes after the one that is its left operand
in_depth :
    multiplications_in nets 4 true (times (times (name (codes "s")) (name (codes "s"))) (name (codes "s")))
    ≡ product (name (codes "s")) (name (codes "s")) 4 true ∷ product (times (name (codes "s")) (name (codes "s"))) (name (codes "s")) 4 true ∷ []
in_depth = simp (multiplications-roll, own_length-roll, is_signed-roll)

-- those of a module: a product in the length of the name that it is assigned, then a condition in its own length,
-- and the value behind it, whose length and sign are those of both its operands
abbrev zeros : Sized
zeros = record { width = 4; signed = true; bits = 0 }

abbrev products : Module
products = record {
  name = codes "m";
  attrs = [];
  ports = [];
  items = Wire true 4 (codes "s") ∷ Wire false 6 (codes "u") ∷ Wire true 9 (codes "y") ∷ Reg true 4 (codes "r")
      ∷ Assign (codes "y") (times (name (codes "s")) (name (codes "s")))
      ∷ Always (codes "r") zeros (Some (times (name (codes "u")) (name (codes "u")))) (times (name (codes "s")) (name (codes "u"))) ∷ [];
}

of_module :
    multiplications products
    ≡ product (name (codes "s")) (name (codes "s")) 9 true ∷ product (name (codes "u")) (name (codes "u")) 6 false
    ∷ product (name (codes "s")) (name (codes "u")) 6 false ∷ []
of_module = simp (multiplications-roll, own_length-roll, is_signed-roll)

-- ---- a loop: w and v are assigned each other, and v is declared first

abbrev ring : Module
ring = record {
  name = codes "m";
  attrs = [];
  ports = [];
  items = Wire false 1 (codes "v") ∷ Wire false 1 (codes "w") ∷ Assign (codes "w") (name (codes "v")) ∷ Assign (codes "v") (name (codes "w")) ∷ [];
}

names_read-name : (bytes : List ℕ) → names_read (name bytes) ≡ bytes ∷ []
names_read-name bytes = fold-roll-Expr (List (List ℕ)) names_step (Expr-F.Name bytes)

v_reads_w : AssignmentReads ring (codes "v") (codes "w")
v_reads_w = record {
  value = name (codes "w");
  assigned = (3, omega arith, refl);
  reads = rw (names_read-name (codes "w")) (0, omega arith, refl);
}

w_reads_v : AssignmentReads ring (codes "w") (codes "v")
w_reads_v = record {
  value = name (codes "v");
  assigned = (2, omega arith, refl);
  reads = rw (names_read-name (codes "v")) (0, omega arith, refl);
}

is-loop : IsLoop ring (codes "v") (codes "w" ∷ [])
unfolding IsDistinct
is-loop = record {
  reads = λ k below. each k below;
  different = ((refl, tt), (tt, tt));
  begun = λ k d below. none k d below;
} where
  each : (k : ℕ) → k < 2 → AssignmentReads ring (slice_index_or (codes "v" ∷ codes "w" ∷ []) k []) (slice_index_or (codes "v" ∷ codes "w" ∷ []) ((k + 1) % 2) [])
  each zero below = v_reads_w
  each (suc zero) below = w_reads_v
  each (suc (suc k)) below = absurd (omega arith)

  none : (k : ℕ) (d : List ℕ) → k < 1 → place_of ring (codes "v") ≤ place_of ring (slice_index_or (codes "w" ∷ []) k d)
  none zero d below = omega arith
  none (suc k) d below = absurd (omega arith)

-- the first fault of the ring is the loop
first-fault : IsFirstFault ring (CombLoop (codes "v" ∷ codes "w" ∷ []))
first-fault = (simp names_read-name, simp names_read-name, is-loop)

-- ---- the other conditions, each broken by ports alone

abbrev of_ports : List Port → Module
of_ports ports = record { name = codes "m"; attrs = []; ports = ports; items = [] }

abbrev bit : Bool → List ℕ → Port
bit input name = record { attrs = []; input = input; signed = false; width = 1; name = name }

without-loop : (ports : List Port) (first : List ℕ) (others : List (List ℕ)) → ¬ IsLoop (of_ports ports) first others
without-loop ports first others loop = omega (arith, (loop.reads 0 (omega arith)).assigned.1)

-- an output that nothing drives
undriven-output : IsFirstFault (of_ports (bit true (codes "u") ∷ bit false (codes "y") ∷ [])) (Undriven (codes "y"))
undriven-output = refl

-- a name that two ports have
two-ports : IsFirstFault (of_ports (bit true (codes "u") ∷ bit true (codes "u") ∷ [])) (Doubly (codes "u"))
two-ports = (refl, refl)

-- an input of 129 bits, before `clk` and `reset` are missed
wide-input : IsFirstFault (of_ports (record { attrs = []; input = true; signed = false; width = 129; name = codes "u" } ∷ [])) (TooWide (codes "u"))
wide-input = (record { driven = refl; once = refl; acyclic = without-loop _ }, refl)

-- `reset` is missed where `clk` is there, and `clk` where neither is
missed-reset : IsFirstFault (of_ports (bit true (codes "clk") ∷ [])) (NoReset (codes "reset"))
missed-reset = (record { driven = refl; once = refl; acyclic = without-loop _ }, refl, refl)

missed-clk : IsFirstFault (of_ports []) (NoReset (codes "clk"))
missed-clk = (record { driven = refl; once = refl; acyclic = without-loop _ }, refl, refl)

-- the module lacks `fx_cycles`, before its input lacks `fx_period`
missed-attribute : IsFirstFault (of_ports (bit true (codes "clk") ∷ bit true (codes "reset") ∷ bit true (codes "u") ∷ [])) (NoAttribute (codes "m"))
missed-attribute = (record { driven = refl; once = refl; acyclic = without-loop _ }, refl, refl, refl)
