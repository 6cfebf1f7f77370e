use Rattle.http_listener.proofs.ConnectionLemmas.{serves_and_ends}
use Rattle.http_listener.proofs.listening.serve_connection.Goals as goal

pub returns : goal.returns
returns g c = search serves_and_ends
