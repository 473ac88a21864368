use Rattle.std.proofs.Common.{◌≡◌, ◌<◌, ◌≤◌, ◌+◌, ◌∙◌, ◌++◌, ◌∷◌, [], ℕ, suc, Bool, true, false, if◌then◌else◌, List, Vec, Global, length, filter, drop, slice_index_or, append-nil, append_assoc, sym}
use Rattle.std.proofs.Common.{ap, subst, arith}
use Rattle.std.proofs.Math.ListN.{drop_of_length-le}
use Rattle.std.proofs.Math.Seq.{drop-cons}
use Rattle.vl_ast.specs.Attributes.{step_of}
use Rattle.vl_ast.specs.declared.modules.Port.{Port}
use Rattle.vl_eval.specs.Given.{driven_ports}
use Rattle.vl_replay.specs.declared.drivers.Driver.{Driver}
use Rattle.vl_replay.specs.declared.drivers.Driver.TheVariants.{Column}
use Rattle.vl_replay.specs.inner.Drivers.{drivers_from, is_own, own_driver}
use Rattle.vl_replay.proofs.Bits.{is_driven}
use Rattle.vl_replay.proofs.drivers.drivers_of.Goals.{then-is_driven_input+then-is_own+in_ok-push, then-is_driven_input+else-is_own+in-Some+in_ok-push-2, else-is_driven_input}
use Rattle.vl_replay.proofs.drivers.drivers_of.Goals as goal

-- the driver of a port that isn't `clk`, and those behind it
driven-more : (stalls own : Bool) (place : ℕ) (port : Port) (ports : List Port) → is_driven port ≡ true → is_own stalls port ≡ own
    → drivers_from stalls place (filter is_driven (port ∷ ports))
    ≡ (if own then own_driver port else Column place (step_of port) port.width)
    ∷ drivers_from stalls (if own then place else place + 1) (filter is_driven ports)
driven-more stalls own place port ports driven is =
    ap (λ t. drivers_from stalls place (if t then port ∷ filter is_driven ports else filter is_driven ports)) driven
    ∙ ap (λ t. (if t then own_driver port else Column place (step_of port) port.width) ∷ drivers_from stalls (if t then place else place + 1) (filter is_driven ports)) is

-- a port further
cut : (ports items : List Port) (i : ℕ) (port : Port) → items ≡ ports → i < length items → port ≡ slice_index_or items i port → drop i ports ≡ port ∷ drop (i + 1) ports
cut ports items i port is below here =
    let low : i < length ports = subst (λ xs. i < length xs) is below in
    let next : suc i ≡ i + 1 = omega arith in
    drop-cons ports i port low ∙ (λ j. sym (here ∙ ap (λ xs. slice_index_or xs i port) is) j ∷ drop (next j) ports)

-- with a driver put
put : (stalls own : Bool) (place : ℕ) (ports rest : List Port) (port : Port) (old new : List Driver)
    (driver : Driver) (place' : ℕ) (all : List Driver) → ports ≡ port ∷ rest → is_driven port ≡ true
    → is_own stalls port ≡ own
    → new ≡ old ++ driver ∷ [] → driver ≡ (if own then own_driver port else Column place (step_of port) port.width) → place' ≡ (if own then place else place + 1)
    → old ++ drivers_from stalls place (filter is_driven ports) ≡ all → new ++ drivers_from stalls place' (filter is_driven rest) ≡ all
put stalls own place ports rest port old new driver place' all split driven is grown made next before =
    (λ j. grown j ++ drivers_from stalls (next j) (filter is_driven rest))
    ∙ append_assoc old (driver ∷ []) (drivers_from stalls (if own then place else place + 1) (filter is_driven rest))
    ∙ ap (λ (d : Driver). old ++ d ∷ drivers_from stalls (if own then place else place + 1) (filter is_driven rest)) made
    ∙ ap (λ ys. old ++ ys) (sym (ap (λ ps. drivers_from stalls place (filter is_driven ps)) split ∙ driven-more stalls own place port rest driven is))
    ∙ before

-- with none put
passed : (stalls : Bool) (place : ℕ) (ports rest : List Port) (port : Port) (old new : List Driver) (place' : ℕ)
    (all : List Driver) → ports ≡ port ∷ rest → is_driven port ≡ false → new ≡ old → place' ≡ place
    → old ++ drivers_from stalls place (filter is_driven ports) ≡ all → new ++ drivers_from stalls place' (filter is_driven rest) ≡ all
passed stalls place ports rest port old new place' all split driven same next before =
    (λ j. same j ++ drivers_from stalls (next j) (filter is_driven rest))
    ∙ ap (λ ps. old ++ drivers_from stalls place ps) (sym (ap (filter is_driven) split ∙ ap (λ t. if t then port ∷ filter is_driven rest else filter is_driven rest) driven))
    ∙ before

items : {one other : Vec Driver Global} → one ≡ other → one.items ≡ other.items
items is = ap (λ (drivers : Vec Driver Global). drivers.items) is

pub returns : goal.returns
returns c =
    let ports = c.args.source.now.ports in
    let past : length ports ≤ c.loop-port.port-index = subst (λ xs. length xs ≤ c.loop-port.port-index) c.as_slice-port-items.ensures c.loop-port-test.false in
    sym (ap (λ ps. c.loop-port.drivers.items
    ++ drivers_from c.is_stallable-stalls.result c.loop-port.place (filter is_driven ps))
    (drop_of_length-le ports past) ∙ append-nil c.loop-port.drivers.items)
    ∙ c.loop-port.invariant ∙ ap (λ stalls. drivers_from stalls 0 (driven_ports c.args.source.now)) c.is_stallable-stalls.ensures

pub loop-port-preserved : goal.loop-port-preserved
loop-port-preserved c =
    let stalls = c.is_stallable-stalls.result in
    let place = c.loop-port.place in
    let i = c.loop-port.port-index in
    let port = c.port-item.result in
    let ports = c.args.source.now.ports in
    let old = c.loop-port.drivers.items in
    let new = c.if-is_driven_input.drivers.items in
    let all = drivers_from stalls 0 (driven_ports c.args.source.now) in
    let split = cut ports c.as_slice-port-items.result.now i port c.as_slice-port-items.ensures c.loop-port-test.true c.port-item.is in
    elim c.if-is_driven_input.branch [
      | then-is_driven_input+then-is_own+in_ok-push w ↦ put stalls true place (drop i ports) (drop (i + 1) ports) port old new w.own_driver.result c.if-is_driven_input.place all split
          (sym c.is_driven_input.ensures ∙ w.if-is_driven_input.true) (sym w.is_own.ensures ∙ w.if-is_own.true)
          (items w.drivers-is ∙ w.in_ok-push.ensures.items) w.own_driver.ensures w.place-is
          c.loop-port.invariant
      | then-is_driven_input+else-is_own+in-Some+in_ok-push-2 w ↦ put stalls false place (drop i ports)
          (drop (i + 1) ports) port old new
          (Column place w.step_of.result port.width) c.if-is_driven_input.place all split
          (sym c.is_driven_input.ensures ∙ w.if-is_driven_input.true) (sym w.is_own.ensures ∙ w.if-is_own.false) (items w.drivers-is ∙ w.in_ok-push-2.ensures.items)
          (ap (λ (step : ℕ). Column place step port.width) w.step_of.ensures.step) (let is = w.place-is in let next = w.in-Some.ensures in omega (arith, is, next)) c.loop-port.invariant
      | else-is_driven_input w ↦ passed stalls place (drop i ports) (drop (i + 1) ports) port old new c.if-is_driven_input.place all split
          (sym c.is_driven_input.ensures ∙ w.if-is_driven_input.false) (items w.drivers-is) w.place-is c.loop-port.invariant
    ]
