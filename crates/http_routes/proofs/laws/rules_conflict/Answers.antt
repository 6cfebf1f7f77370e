use Rattle.std.proofs.Common.{◌≡◌, ◌≤◌, arith, refl}
use Rattle.vocabulary.specs.Refusals.{number_of}
use Rattle.vocabulary.specs.declared.refusal.Refusal.{Refusal}
use Rattle.vocabulary.specs.declared.refusal.Refusal.TheVariants.{Key, Route, Method, TooLarge, Unreadable, OfficeOnly, PartyOnly}
use Rattle.http_routes.specs.Statuses.{refusal_status}
use Rattle.http_routes.proofs.laws.rules_conflict.Goals as goal

from_eighth : (refusal : Refusal) → 8 ≤ number_of refusal → refusal_status refusal ≡ 409
from_eighth Key late = absurd (omega (arith, late))
from_eighth Route late = absurd (omega (arith, late))
from_eighth Method late = absurd (omega (arith, late))
from_eighth TooLarge late = absurd (omega (arith, late))
from_eighth Unreadable late = absurd (omega (arith, late))
from_eighth OfficeOnly late = absurd (omega (arith, late))
from_eighth PartyOnly late = absurd (omega (arith, late))
from_eighth other late = refl

pub returns : goal.returns
returns c = from_eighth
