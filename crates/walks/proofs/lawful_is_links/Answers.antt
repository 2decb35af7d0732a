use Rattle.walks.proofs.LinkLaws.{links_hold, lawful_from_links}
use Rattle.walks.proofs.lawful_is_links.Goals as goal

pub returns : goal.returns
returns c = record { links = links_hold; lawful = lawful_from_links }
