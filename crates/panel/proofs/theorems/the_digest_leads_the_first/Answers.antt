use Rattle.panel.proofs.DigestLeads.{digest_leads_the_first, digest_leads_none}
use Rattle.panel.proofs.theorems.the_digest_leads_the_first.Goals as goal

pub returns : goal.returns
returns c = record {
  secured = digest_leads_the_first;
  unsecured = digest_leads_none;
}
