use Rattle.page_json.proofs.Fronts.{done}
use Rattle.page_json.proofs.members.is_done.Goals as goal

pub returns : goal.returns
returns c = done c.is_empty.result c.args.object.now.entries c.is_empty.ensures
