use Rattle.std.proofs.Common.{refl}
use Rattle.sql_model.proofs.Names.ListName.{Appointments, Endings, Authorities, Presences, Demands, Casts}
use Rattle.sql_write.proofs.WrittenEntryLemmas.{entered_writes}
use Rattle.sql_write.proofs.entries.enter.Goals as goal

pub returns-in_ok-add-in-Appointment-clause-writes : goal.returns-in_ok-add-in-Appointment-clause-writes
returns-in_ok-add-in-Appointment-clause-writes g c =
    let it = c.in_ok-add-in-Appointment in
    entered_writes g.S.Store c.args.tx.now.conn.now c.add.new.tx.conn.now c.args.meeting it.field-0 c.in-Appointment.is Appointments c.in-Appointment.appointment (λ l. refl) (λ x. refl) it.ensures.commits it.ensures.added

pub returns-in_ok-add-in-Ending-clause-writes : goal.returns-in_ok-add-in-Ending-clause-writes
returns-in_ok-add-in-Ending-clause-writes g c =
    let it = c.in_ok-add-in-Ending in
    entered_writes g.S.Store c.args.tx.now.conn.now c.add-in-Ending.new.tx.conn.now c.args.meeting it.field-0 c.in-Ending.is Endings c.in-Ending.ending (λ l. refl) (λ x. refl) it.ensures.commits it.ensures.added

pub returns-in_ok-add-in-Authority-clause-writes : goal.returns-in_ok-add-in-Authority-clause-writes
returns-in_ok-add-in-Authority-clause-writes g c =
    let it = c.in_ok-add-in-Authority in
    entered_writes g.S.Store c.args.tx.now.conn.now c.add-in-Authority.new.tx.conn.now c.args.meeting it.field-0 c.in-Authority.is Authorities c.in-Authority.authority (λ l. refl) (λ x. refl) it.ensures.commits it.ensures.added

pub returns-in_ok-add-in-Presence-clause-writes : goal.returns-in_ok-add-in-Presence-clause-writes
returns-in_ok-add-in-Presence-clause-writes g c =
    let it = c.in_ok-add-in-Presence in
    entered_writes g.S.Store c.args.tx.now.conn.now c.add-in-Presence.new.tx.conn.now c.args.meeting it.field-0 c.in-Presence.is Presences c.in-Presence.presence (λ l. refl) (λ x. refl) it.ensures.commits it.ensures.added

pub returns-in_ok-add-in-Demand-clause-writes : goal.returns-in_ok-add-in-Demand-clause-writes
returns-in_ok-add-in-Demand-clause-writes g c =
    let it = c.in_ok-add-in-Demand in
    entered_writes g.S.Store c.args.tx.now.conn.now c.add-in-Demand.new.tx.conn.now c.args.meeting it.field-0 c.in-Demand.is Demands c.in-Demand.demand (λ l. refl) (λ x. refl) it.ensures.commits it.ensures.added

pub returns-in_ok-add-in-Cast-clause-writes : goal.returns-in_ok-add-in-Cast-clause-writes
returns-in_ok-add-in-Cast-clause-writes g c =
    let it = c.in_ok-add-in-Cast in
    entered_writes g.S.Store c.args.tx.now.conn.now c.add-in-Cast.new.tx.conn.now c.args.meeting it.field-0 c.in-Cast.is Casts c.in-Cast.cast (λ l. refl) (λ x. refl) it.ensures.commits it.ensures.added
