use Rattle.look_promises.proofs.Amounts.Forms.{looks_have_forms}
use Rattle.look_promises.proofs.laws.looks_have_forms.Goals as goal

pub returns : goal.returns
returns c = looks_have_forms
