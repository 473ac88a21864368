use Rattle.std.proofs.Common.{◌++◌}
use Rattle.std.proofs.lemmas.Result.{IfOk-weaker}
use Rattle.hw_names.specs.Names.{handshake_names, own_names, wanted_names}
use Rattle.hw_names.proofs.NameSets.{given_size}
use Rattle.hw_names.proofs.giving.stream_names.Goals as goal

pub returns : goal.returns
returns c = record {
  names = IfOk-weaker c.names_beside.result _ _ (λ texts given. record { given = given (handshake_names ++ own_names) c.in_ok-of_stream.ensures }) c.names_beside.ensures;
  size = IfOk-weaker c.names_beside.result _ _
      (λ texts given. given_size (handshake_names ++ own_names) (wanted_names c.args.checked.now.diagram) texts
      (given (handshake_names ++ own_names) c.in_ok-of_stream.ensures)) c.names_beside.ensures;
}
