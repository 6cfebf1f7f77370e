use Rattle.std.proofs.Common.{◌≡◌, true, subst, ap, sym, ◌∙◌}
use Rattle.std.proofs.lemmas.Result.{IfOk-weaker}
use Rattle.std.specs.Prelude.{Option, IfOk, IfSome}
use Rattle.std.specs.Option.{option_copied}
use Rattle.desk_words.specs.Finding.{meeting_named}
use Rattle.desk_words.specs.Ordered.{ascends_by}
use Rattle.desk_words.specs.Registers.{member_before}
use Rattle.desk_words.specs.declared.office.MeetingLists.{MeetingLists}
use Rattle.desk_words.specs.declared.office.OfficeLists.{OfficeLists}
use Rattle.party_views.specs.OwnViews.{own_from}
use Rattle.party_views.specs.Public.{PublicRecord}
use Rattle.party_views.specs.PartyRows.{own_rows_in}
use Rattle.party_views.specs.Views.{own_in_some, own_of}
use Rattle.party_views.specs.declared.own_rows.OwnRows.{OwnRows}
use Rattle.party_views.specs.declared.views.OwnView.{OwnView}
use Rattle.meeting_core.proofs.CoreFoundLemmas.{found_ascends}
use Rattle.meeting_core.proofs.book.Book.own_of.Goals as goal

pub own_rows_in-requires : goal.own_rows_in-requires
own_rows_in-requires c =
    let o : OfficeLists = record { keys = c.self.inside.keys; closed = c.self.inside.closed; meetings = c.self.inside.meetings.items } in
    subst (λ (found : Option MeetingLists). IfSome found (λ m. ascends_by member_before m.register ≡ true))
    (ap (λ meetings. meeting_named meetings c.args.meeting) (sym c.deref.ensures.value) ∙ sym c.find_meeting-found.ensures)
    (found_ascends o c.args.meeting c.self.invariant)

pub returns : goal.returns
returns c =
    let o : OfficeLists = record { keys = c.self.inside.keys; closed = c.self.inside.closed; meetings = c.self.inside.meetings.items } in
    let found = option_copied c.find_meeting-found.result in
    let party = c.args.party in
    let now = c.args.now in
    let same : found ≡ meeting_named o.meetings c.args.meeting = c.find_meeting-found.ensures ∙ ap (λ meetings. meeting_named meetings c.args.meeting) c.deref.ensures.value in
    let due : own_from c.in_ok-rows.rows c.public_in-public.result now ≡ own_of o party c.args.meeting now =
    ap (λ (r : OwnRows). own_from r c.public_in-public.result now) c.in_ok-rows.ensures
    ∙ ap (λ (p : PublicRecord). own_from (own_rows_in found party) p now) c.public_in-public.ensures
    ∙ ap (λ (f : Option MeetingLists). own_in_some f o.closed party now) same in
    subst (λ (held : OfficeLists). IfOk c.own_from.result (λ (own : OwnView). own ≡ own_of held party c.args.meeting now)) c.self.view_is
    (IfOk-weaker c.own_from.result (λ (own : OwnView). own ≡ own_from c.in_ok-rows.rows c.public_in-public.result now)
    (λ (own : OwnView). own ≡ own_of o party c.args.meeting now) (λ own is. is ∙ due) c.own_from.ensures.value)
