use Rattle.std.proofs.Common.{◌≡◌, ℕ, List, Err, Some, ap, rules}
use Rattle.seq.specs.Ordered.{ascends_by}
use Rattle.seq.specs.Sorting.{sort_by}
use Rattle.desk_words.specs.Finding.{meeting_named}
use Rattle.desk_words.specs.Office.{poll_before}
use Rattle.desk_words.specs.declared.office.OfficeLists.{OfficeLists}
use Rattle.desk_words.specs.declared.records.Poll.{Poll}
use Rattle.sql_schema.specs.Contents as table
use Rattle.party_views.specs.Views.{polls_in}
use Rattle.sql_load.proofs.FoundRecordLemmas.{items_returned, yields_return}
use Rattle.sql_load.proofs.PublicRecordLemmas.{polls_rise, polls_so}
use Rattle.sql_load.proofs.StoredOfficeLemmas.{holds_so, holds_stop}
use Rattle.sql_load.proofs.public.polls_of.Goals as goal

-- the polls are the meeting's once they are in order
abbrev ArePolls : List ℕ → OfficeLists → List Poll → Type 0
ArePolls id office polls = sort_by poll_before polls ≡ polls_in (meeting_named office.meetings id)

pub returns-in_err-rows-clause-holds : goal.returns-in_err-rows-clause-holds
returns-in_err-rows-clause-holds g c =
    let is : c.from_residual.result ≡ Err c.in_err-rows.field-0.0 = search rules in
    holds_stop g.S.Store _ _ (ArePolls c.args.meeting) _ c.in_err-rows.field-0.0 c.from_residual.result is
    (items_returned g.S.Store c.args.tx.now.conn.now c.find.new.tx.conn.now (λ v. v.items) table.polls (λ flat. flat.polls) (λ trees flat held. held.polls) _ c.find.result c.find.ensures.rows c.find.ensures.changes c.records_found.result c.records_found.ensures
    (Err c.in_err-rows.field-0.0) c.in_err-rows.ensures (ArePolls c.args.meeting) (λ flat office of preserved. polls_so c.args.meeting flat office of))

pub returns-clause-holds : goal.returns-clause-holds
returns-clause-holds g c =
    holds_so g.S.Store _ _ (ArePolls c.args.meeting) _ c.in_ok-rows.rows c.poll_list.result
    (items_returned g.S.Store c.args.tx.now.conn.now c.find.new.tx.conn.now (λ v. v.items) table.polls (λ flat. flat.polls) (λ trees flat held. held.polls) _ c.find.result c.find.ensures.rows c.find.ensures.changes c.records_found.result c.records_found.ensures
    _ c.in_ok-rows.ensures (ArePolls c.args.meeting) (λ flat office of preserved. polls_so c.args.meeting flat office of))
    (λ office preserved polls. yields_return (ascends_by poll_before) c.poll_list.result (polls_in (meeting_named office.meetings c.args.meeting)) _ c.poll_list.ensures (ap (λ l. Some l) polls) (polls_rise office c.args.meeting preserved))
