use Rattle.desk_words.specs.Finding.{meeting_named}
use Rattle.party_views.specs.PublicRead.{stand_ins}
use Rattle.sql_load.specs.MeetingRecords.{AreOnItsResolutions}
use Rattle.sql_load.proofs.CountedRecordLemmas.{IsReadAs, IsUnread, polled_read}
use Rattle.sql_load.proofs.StoredOfficeLemmas.{returned_so}
use Rattle.sql_load.proofs.public.meeting_for.Goals as goal

pub returns-in-Some-clause-holds : goal.returns-in-Some-clause-holds
returns-in-Some-clause-holds g c =
    let stands = stand_ins c.args.on in
    returned_so g.S.Store _ _ c.unread_of.result (IsUnread c.args.meeting c.in-Some.count) (λ office preserved. AreOnItsResolutions (meeting_named office.meetings c.args.meeting) c.args.polls.now → IsReadAs c.args.meeting stands office preserved)
    (λ office holds preserved is on. polled_read c.args.meeting stands office c.args.polls.now c.in-Some.count c.in-Some.ensures.few c.in-Some.ensures.known preserved is on) c.unread_of.ensures.holds

pub returns-in-None-clause-holds : goal.returns-in-None-clause-holds
returns-in-None-clause-holds g c =
    let stands = stand_ins c.args.on in
    returned_so g.S.Store _ _ c.counted_up_to.result (IsReadAs c.args.meeting stands) (λ office preserved. AreOnItsResolutions (meeting_named office.meetings c.args.meeting) c.args.polls.now → IsReadAs c.args.meeting stands office preserved)
    (λ office holds preserved is on. is) c.counted_up_to.ensures.holds
