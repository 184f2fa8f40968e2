use Rattle.gier_order.proofs.more_places.law_more_places.Goals as goal
use Rattle.gier_order.proofs.Recency.{misses-more_places}

pub returns : goal.returns
returns c = misses-more_places
