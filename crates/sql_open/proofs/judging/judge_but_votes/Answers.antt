use Rattle.std.proofs.Common.{◌≡◌, Err, Some, rules, sym, ◌∙◌}
use Rattle.desk_words.specs.Office.{is_meeting}
use Rattle.vocabulary.specs.OptionSteps.{◌>>=◌, guard}
use Rattle.sql_load.specs.LoadResults.{any_at_all}
use Rattle.sql_load.specs.declared.fault.LoadError.TheVariants.{NoOffice}
use Rattle.sql_open.specs.Judging.{judged_as}
use Rattle.sql_open.specs.MeetingReading.{but_votes}
use Rattle.sql_open.proofs.MeetingReadLemmas.{judged_stop, last_known}
use Rattle.sql_open.proofs.OrderedMeetingLemmas.{judged_made, judged_wrong}
use Rattle.sql_open.proofs.judging.judge_but_votes.Goals as goal

pub returns-in_err-lists-clause-read : goal.returns-in_err-lists-clause-read
returns-in_err-lists-clause-read g c =
    let is : c.from_residual.result ≡ Err c.in_err-lists.field-0.0 = search rules in
    judged_stop g.S.Store _ _ is_meeting (but_votes c.args.row) (λ lists. (judged_as lists)) c.in_err-lists.field-0.0 c.from_residual.result is c.in_err-lists.ensures.read

pub returns-in_default-clause-read : goal.returns-in_default-clause-read
returns-in_default-clause-read g c =
    last_known g.S.Store _ _ is_meeting (but_votes c.args.row) any_at_all c.in_ok-lists.lists (Err NoOffice) (λ l. guard (is_meeting l) >>= λ _. Some (judged_as l)) c.in_ok-lists.ensures.read
    (λ trees held. judged_wrong c.in_ok-lists.lists (sym c.in_default.is ∙ c.meeting_checked.ensures))

pub returns-clause-read : goal.returns-clause-read
returns-clause-read g c =
    last_known g.S.Store _ _ is_meeting (but_votes c.args.row) any_at_all c.in_ok-lists.lists c.judged_as.result (λ l. guard (is_meeting l) >>= λ _. Some (judged_as l)) c.in_ok-lists.ensures.read
    (λ trees held. judged_made c.args.row trees c.in_ok-lists.lists c.in-Some.checked held c.in-Some.ensures c.judged_as.result c.judged_as.ensures)
