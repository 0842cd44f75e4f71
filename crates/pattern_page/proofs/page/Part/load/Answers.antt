use Rattle.pattern_page.proofs.PageCursor.{not_loaded, loaded_all}
use Rattle.pattern_page.proofs.page.Part.load.Goals as goal

pub returns-in-None-clause-found : goal.returns-in-None-clause-found
returns-in-None-clause-found g c = λ terms ids s. not_loaded c.args.self.now terms ids c.args.bytes.now s.sound c.in-None.ensures

pub returns-in-Some-clause-found : goal.returns-in-Some-clause-found
returns-in-Some-clause-found g c = λ terms ids s.
    loaded_all c.args.self.now terms ids c.args.bytes.now s.sound c.in-Some.state c.place.result c.in-Some.ensures (c.place.ensures.found terms ids s)
