use Rattle.std.proofs.Common.{[], filter, refl}
use Rattle.desk_words.specs.declared.request.OfficeRequest.TheVariants.{Presence}
use Rattle.proxy_rules.specs.Parties.{is_presence_of}
use Rattle.row_source.specs.LookUps.{presences_in}
use Rattle.sql_load_needed.proofs.LoadedMeetingPartLemmas.{rest_returned}
use Rattle.sql_load_needed.proofs.needed_lists.read_into.Goals as goal

pub returns-in-Presence-clause-holds : goal.returns-in-Presence-clause-holds
returns-in-Presence-clause-holds g c =
    rest_returned g.S.Store c.args.tx.now.conn.now c.for_presence.new.tx.conn.now c.for_presence.result c.args.asked.now (Presence c.in-Presence.party) c.in-Presence.is c.args.meeting c.args.lists.now c.for_presence.new.lists (λ all. [])
    (λ lists found. record lists { presences = filter (is_presence_of c.in-Presence.party) (presences_in found) }) (λ all. refl) (λ m. refl) c.for_presence.ensures.holds
