use Rattle.layout_laws.proofs.Fullest.{full_claims_hold}
use Rattle.layout_laws.proofs.claims.full_claims_hold.Goals as goal

pub returns : goal.returns
returns c = record { law = full_claims_hold }
