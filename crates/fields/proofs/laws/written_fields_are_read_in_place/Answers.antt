use Rattle.fields.proofs.InPlace.{read_in_place}
use Rattle.fields.proofs.laws.written_fields_are_read_in_place.Goals as goal

pub returns : goal.returns
returns g c = read_in_place g.met.T.Says.form
