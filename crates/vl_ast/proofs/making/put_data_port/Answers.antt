use Rattle.std.proofs.Common.{◌≡◌, ◌∷◌, [], Bool, true, false, if◌then◌else◌, codes, refl, ap}
use Rattle.vl_ast.specs.declared.modules.Port.{Port}
use Rattle.vl_ast.specs.Header.{DataPort, attribute_of, input_port, output_port}
use Rattle.vl_ast.proofs.Listings.{lists-as}
use Rattle.vl_ast.proofs.making.put_data_port.Goals as goal

-- a port with its attributes
abbrev port_of : Bool → DataPort → Port
port_of input port = record {
  attrs = attribute_of (codes "fx_period") port.period ∷ (if input then [] else attribute_of (codes "fx_latency") port.latency ∷ []);
  input = input;
  signed = port.signed;
  width = port.width;
  name = port.name;
}

port-is : (input : Bool) (port : DataPort) → port_of input port ≡ (if input then input_port port else output_port port)
port-is true port = refl
port-is false port = refl

pub returns : goal.returns
returns c =
    let port : DataPort = record { name = c.args.name.now; width = c.args.word.0; signed = c.args.word.1; period = c.args.period; latency = c.args.latency } in
    lists-as (ap (λ (p : Port). p ∷ []) (port-is c.args.input port)) (c.put.ensures _ (c.port.ensures _ _ c.copy-own.ensures c.timing-attrs.ensures))
