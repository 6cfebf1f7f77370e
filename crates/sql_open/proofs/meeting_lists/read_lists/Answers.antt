use Rattle.std.proofs.Common.{◌≡◌, Err, Ok, Some, rules, sym, ap}
use Rattle.vocabulary.specs.OptionSteps.{◌>>=◌}
use Rattle.desk_words.specs.Office.{is_meeting}
use Rattle.sql_schema.specs.Contents as table
use Rattle.sql_open.specs.MeetingReading.{but_votes, own_in}
use Rattle.sql_open.proofs.MeetingReadLemmas.{last_known, stop_held}
use Rattle.sql_load.proofs.ReadingLemmas.{stop, then}
use Rattle.sql_open.proofs.OrderedMeetingLemmas.{whole_wrong}
use Rattle.sql_open.proofs.meeting_lists.read_lists.Goals as goal

pub returns-in_err-votes-clause-read : goal.returns-in_err-votes-clause-read
returns-in_err-votes-clause-read g c =
    let is : c.from_residual.result ≡ Err c.in_err-votes.field-0.0 = search rules in
    stop g.S.Store _ _ is_meeting (own_in table.casts c.args.row.id) (λ votes trees. but_votes c.args.row trees >>= λ lists. Some (record lists { casts = votes })) c.in_err-votes.field-0.0 c.from_residual.result is c.in_err-votes.ensures.read

pub returns-in_err-lists-clause-read : goal.returns-in_err-lists-clause-read
returns-in_err-lists-clause-read g c =
    let is : c.from_residual-in_err-lists.result ≡ Err c.in_err-lists.field-0.0 = search rules in
    then g.S.Store _ _ _ is_meeting c.in_ok-votes.votes _ (own_in table.casts c.args.row.id) _ c.in_ok-votes.ensures.read
    (stop_held g.S.Store _ _ is_meeting is_meeting (but_votes c.args.row) (λ lists trees. Some (record lists { casts = c.in_ok-votes.votes })) (whole_wrong c.args.row c.in_ok-votes.votes) c.in_err-lists.field-0.0 c.from_residual-in_err-lists.result is c.in_err-lists.ensures.read)

pub returns-clause-read : goal.returns-clause-read
returns-clause-read g c =
    then g.S.Store _ _ _ is_meeting c.in_ok-votes.votes _ (own_in table.casts c.args.row.id) _ c.in_ok-votes.ensures.read
    (last_known g.S.Store _ _ is_meeting (but_votes c.args.row) is_meeting c.in_ok-lists.lists (Ok c.with_votes.result) (λ lists. Some (record lists { casts = c.in_ok-votes.votes })) c.in_ok-lists.ensures.read (λ trees held. ap (λ l. Some l) (sym c.with_votes.ensures)))
