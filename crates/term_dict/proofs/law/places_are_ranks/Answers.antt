use Rattle.term_dict.proofs.Ranks.{contains_at, place_is_rank, rank_is_place}
use Rattle.term_dict.proofs.law.places_are_ranks.Goals as goal

pub returns : goal.returns
returns c = λ ts t k sorted. (λ at. (contains_at ts t k at, place_is_rank ts t k sorted at), λ has. rank_is_place ts t k sorted has.0 has.1)
