use Rattle.std.proofs.Common.{◌≡◌, sym, ap, ◌∙◌}
use Rattle.std.specs.Prelude.{Option}
use Rattle.std.specs.Option.{option_copied, option_map_or}
use Rattle.std.proofs.lemmas.Result.{IfOk-weaker}
use Rattle.desk_words.specs.declared.records.Meeting.{Meeting}
use Rattle.party_views.specs.OwnViews.{nothing_of, own_by, own_from}
use Rattle.party_views.specs.RowsRead.{own_read, polls_if_on, polls_read, own_rows_read}
use Rattle.party_views.specs.Public.{PublicRecord}
use Rattle.party_views.specs.declared.own_rows.OwnRows.{OwnRows}
use Rattle.party_views.specs.declared.views.OwnView.{OwnView}
use Rattle.party_views.proofs.OwnLemmas.{own-read}
use Rattle.party_views.proofs.own_view.own_for.Goals as goal

pub returns-in-Some : goal.returns-in-Some
returns-in-Some c =
    let public = c.args.public.now in
    let now = c.args.now in
    let asked = c.args.asked.now in
    let meeting = c.in-Some.meeting.now in
    let found = sym (ap option_copied c.in-Some.is) ∙ ap (λ (r : PublicRecord). r.meeting) c.public.view_is in
    let polls = polls_read asked public.polls in
    let due = λ (all : OwnRows) (read : c.args.rows ≡ own_rows_read asked all).
    ap (λ (rows : OwnRows). own_by rows public.closed meeting polls now) read
    ∙ own-read asked all public.closed meeting public.polls now
    ∙ ap (λ (o : Option Meeting). own_read asked (option_map_or (λ meeting. own_by all public.closed meeting public.polls now) o (nothing_of all.party))) found in
    let on = c.resolution_read.result in
    let inside = c.public.inside in
    let same = ap (λ (r : PublicRecord). own_by c.args.rows r.closed meeting (polls_if_on on r.polls) now) c.public.view_is
    ∙ ap (λ on. own_by c.args.rows public.closed meeting (polls_if_on on public.polls) now) c.resolution_read.ensures in
    IfOk-weaker c.own_by.result (λ (own : OwnView). own ≡ own_by c.args.rows inside.closed.now meeting (polls_if_on on inside.polls.now) now)
    (λ (own : OwnView). (all : OwnRows) → c.args.rows ≡ own_rows_read asked all → own ≡ own_read asked (own_from all public now)) (λ own is all read. is ∙ same ∙ due all read) c.own_by.ensures
