use Rattle.term_dict.proofs.dict_image.build.Goals as goal

pub returns-clause-texts : goal.returns-clause-texts
returns-clause-texts c = rw (← c.as_slice.ensures) c.image_of.ensures.texts
