use Rattle.fields.proofs.Back.{read_back}
use Rattle.fields.proofs.laws.written_files_are_read_back.Goals as goal

pub returns : goal.returns
returns g c = read_back g.met.T.Says.form
