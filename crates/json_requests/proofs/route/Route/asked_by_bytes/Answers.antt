use Rattle.json_requests.specs.Requests.{asked_in, route_fields}
use Rattle.json_requests.proofs.JsonBodyLemmas.{read_by-no_utf8}
use Rattle.json_requests.proofs.route.Route.asked_by_bytes.Goals as goal

pub returns-in-Err : goal.returns-in-Err
returns-in-Err c = read_by-no_utf8 (route_fields c.args.self) (asked_in c.args.self) c.args.body.now c.in-Err.ensures.cases.0
