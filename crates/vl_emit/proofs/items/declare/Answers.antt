use Rattle.std.proofs.Common.{◌≡◌, ℕ, ◌∷◌, [], inl, inr, ap, subst, sym}
use Rattle.hw_net.specs.declared.netlist.NetKind.{NetKind}
use Rattle.vl_ast.specs.declared.making.Listing.{Listing}
use Rattle.vl_ast.specs.declared.modules.ModItem.{ModItem}
use Rattle.vl_ast.specs.declared.modules.ModItem.TheVariants as item
use Rattle.vl_ast.specs.Listing.{Lists}
use Rattle.vl_ast.proofs.Listings.{both, lists-as}
use Rattle.vl_emit.specs.Names.{Wire, hold_name}
use Rattle.vl_emit.specs.declared.source.Source.{Source}
use Rattle.vl_emit.specs.inner.NetItems.{declarers_at}
use Rattle.vl_emit.specs.inner.Ready.{circuit_of}
use Rattle.vl_emit.proofs.items.declare.Goals as goal

-- what is put for a net of a kind
of-kind : (source : Source) (own : ℕ) {kind is : NetKind} {old new : Listing ModItem} → kind ≡ is
    → Lists old new (declarers_at (circuit_of source) own is)
    → Lists old new (declarers_at (circuit_of source) own kind)
of-kind source own is put = lists-as (ap (declarers_at (circuit_of source) own) (sym is)) put

pub returns-in-Comb : goal.returns-in-Comb
returns-in-Comb c =
    let wire = subst (λ (w : Wire). Lists c.args.out.now c.put_declaration-in-Comb.new.out
    (item.Wire w.signed w.width w.name ∷ [])) c.operand-net.ensures.wire
    (c.put_declaration-in-Comb.ensures _ c.text_of-name.ensures) in
    elim c.in-Comb.is [
      | inl here ↦ of-kind c.args.source c.args.own here.2 wire
      | inr more ↦ of-kind c.args.source c.args.own more.2 wire
    ]

pub returns-in-Reg : goal.returns-in-Reg
returns-in-Reg c =
    let reg = subst (λ (w : Wire). Lists c.args.out.now c.put_declaration-in-Reg.new.out
    (item.Reg w.signed w.width w.name ∷ [])) c.operand-net.ensures.wire
    (c.put_declaration-in-Reg.ensures _ c.text_of-name.ensures) in
    elim c.in-Reg.is [
      | inl here ↦ of-kind c.args.source c.args.own here.4 reg
      | inr more ↦ elim more [
        | inl here ↦ of-kind c.args.source c.args.own here.5 reg
        | inr more ↦ elim more [
          | inl here ↦ of-kind c.args.source c.args.own here.3 reg
          | inr more ↦ of-kind c.args.source c.args.own more.1 reg
        ]
      ]
    ]

pub returns-in-Bridge : goal.returns-in-Bridge
returns-in-Bridge c =
    let wire = subst (λ (w : Wire). Lists c.args.out.now c.put_declaration.new.out
    (item.Wire w.signed w.width w.name ∷ [])) c.operand-net.ensures.wire
    (c.put_declaration.ensures _ c.text_of-name.ensures) in
    let held = subst (λ (w : Wire). Lists c.put_declaration.new.out c.put_declaration-in-Bridge.new.out (item.Reg w.signed w.width (hold_name c.args.own) ∷ [])) c.operand-net.ensures.wire
    (c.put_declaration-in-Bridge.ensures _ c.numbered-held.ensures) in
    of-kind c.args.source c.args.own c.in-Bridge.is (both wire held)
