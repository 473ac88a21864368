use Rattle.dg_types.proofs.typed.types_by.Goals as goal

pub returns-clause-found : goal.returns-clause-found
returns-clause-found c = record { results = c.in_ok-put_types.ensures.results; params = c.in_ok-put_types.ensures.params; kept = c.in_ok-check_all.ensures.kept }

pub check_all-requires-clause-typed : goal.check_all-requires-clause-typed
check_all-requires-clause-typed c = rw c.as_slice-types.ensures.value c.in_ok-known.ensures
