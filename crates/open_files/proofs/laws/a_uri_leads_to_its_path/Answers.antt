use Rattle.open_files.proofs.UriLemmas.{leads_back}
use Rattle.open_files.proofs.laws.a_uri_leads_to_its_path.Goals as goal

pub returns : goal.returns
returns c = leads_back
