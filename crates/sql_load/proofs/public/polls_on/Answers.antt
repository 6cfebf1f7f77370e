use Rattle.std.proofs.Common.{◌≡◌, ℕ, List, Err, Some, ap, rules}
use Rattle.seq.specs.Ordered.{ascends_by}
use Rattle.seq.specs.Sorting.{sort_by}
use Rattle.desk_words.specs.Finding.{meeting_named}
use Rattle.desk_words.specs.Office.{poll_before}
use Rattle.desk_words.specs.declared.office.OfficeLists.{OfficeLists}
use Rattle.desk_words.specs.declared.records.Poll.{Poll}
use Rattle.sql_schema.specs.Contents as table
use Rattle.party_views.specs.RowsRead.{polls_on}
use Rattle.party_views.specs.Views.{polls_in}
use Rattle.sql_load.proofs.FoundRecordLemmas.{items_returned, yields_return}
use Rattle.sql_load.proofs.PublicRecordLemmas.{poll_rises, poll_so}
use Rattle.sql_load.proofs.StoredOfficeLemmas.{holds_so, holds_stop}
use Rattle.sql_load.proofs.public.polls_on.Goals as goal

-- the polls are those on the resolution once they are in order
abbrev AreOn : List ℕ → ℕ → OfficeLists → List Poll → Type 0
AreOn id resolution office polls = sort_by poll_before polls ≡ polls_on resolution (polls_in (meeting_named office.meetings id))

pub returns-in_err-on-clause-holds : goal.returns-in_err-on-clause-holds
returns-in_err-on-clause-holds g c =
    let is : c.from_residual-in_err-on.result ≡ Err c.in_err-on.field-0.0 = search rules in
    holds_stop g.S.Store _ _ (AreOn c.args.meeting c.args.resolution) _ c.in_err-on.field-0.0 c.from_residual-in_err-on.result is
    (items_returned g.S.Store c.args.tx.now.conn.now c.find.new.tx.conn.now (λ v. v.items) table.polls (λ flat. flat.polls) (λ trees flat held. held.polls) _ c.find.result c.find.ensures.rows c.find.ensures.changes c.records_found.result c.records_found.ensures
    (Err c.in_err-on.field-0.0) c.in_err-on.ensures (AreOn c.args.meeting c.args.resolution) (λ flat office of preserved. poll_so c.args.meeting c.args.resolution flat office of preserved))

pub returns-clause-holds : goal.returns-clause-holds
returns-clause-holds g c =
    holds_so g.S.Store _ _ (AreOn c.args.meeting c.args.resolution) _ c.in_ok-on.on c.poll_list.result
    (items_returned g.S.Store c.args.tx.now.conn.now c.find.new.tx.conn.now (λ v. v.items) table.polls (λ flat. flat.polls) (λ trees flat held. held.polls) _ c.find.result c.find.ensures.rows c.find.ensures.changes c.records_found.result c.records_found.ensures
    _ c.in_ok-on.ensures (AreOn c.args.meeting c.args.resolution) (λ flat office of preserved. poll_so c.args.meeting c.args.resolution flat office of preserved))
    (λ office preserved polls. yields_return (ascends_by poll_before) c.poll_list.result (polls_on c.args.resolution (polls_in (meeting_named office.meetings c.args.meeting))) _ c.poll_list.ensures (ap (λ l. Some l) polls) (poll_rises office c.args.meeting c.args.resolution preserved))
