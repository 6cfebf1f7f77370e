use Rattle.std.proofs.Common.{refl}
use Rattle.json_requests.specs.Routes.{route_of}
use Rattle.http_routes.specs.Targets.{target_route}
use Rattle.http_routes.proofs.laws.targets_differ.Goals as goal

pub returns : goal.returns
unfolding target_route route_of
returns c = record {
  own = refl;
  notice = refl;
  call = refl;
  cast = refl;
  query = refl;
  escape = refl;
  lower = refl;
  further = refl;
  doubled = refl;
  no_verb = refl;
  no_meeting = refl;
  whole_url = refl;
  register = refl;
  closed = refl;
  keys = refl;
}
