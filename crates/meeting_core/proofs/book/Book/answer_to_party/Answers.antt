use Rattle.std.proofs.Common.{◌≡◌, true, subst, ap, sym, ◌∙◌}
use Rattle.std.proofs.lemmas.Result.{IfOk-weaker}
use Rattle.std.specs.Prelude.{Option, IfOk, IfSome}
use Rattle.std.specs.Option.{option_copied}
use Rattle.desk_words.specs.Finding.{meeting_named}
use Rattle.desk_words.specs.Ordered.{ascends_by}
use Rattle.desk_words.specs.Registers.{member_before}
use Rattle.desk_words.specs.Rulings.{ruled_answer}
use Rattle.desk_words.specs.declared.answer.Answer.{Answer}
use Rattle.desk_words.specs.declared.change.Entry.{Entry}
use Rattle.desk_words.specs.declared.office.MeetingLists.{MeetingLists}
use Rattle.desk_words.specs.declared.office.OfficeLists.{OfficeLists}
use Rattle.desk_words.specs.declared.request.PartyRequest.{PartyRequest}
use Rattle.desk_words.specs.declared.request.PartyRequest.TheVariants.{Notice}
use Rattle.caller_view.specs.PartyRulings.{party_ruling}
use Rattle.party_views.specs.OwnViews.{own_from}
use Rattle.party_views.specs.Public.{PublicRecord}
use Rattle.party_views.specs.RowsRead.{own_rows_read}
use Rattle.party_views.specs.PartyRows.{own_rows_in}
use Rattle.party_views.specs.Views.{own_in_some, own_of, public_in, public_of}
use Rattle.party_views.specs.declared.own_rows.OwnRows.{OwnRows}
use Rattle.party_views.specs.declared.views.OwnView.{OwnView}
use Rattle.meeting_core.proofs.CoreFoundLemmas.{found_ascends}
use Rattle.meeting_core.proofs.book.Book.answer_to_party.Goals as goal

pub own_rows_read-requires : goal.own_rows_read-requires
own_rows_read-requires c =
    let o : OfficeLists = record { keys = c.self.inside.keys; closed = c.self.inside.closed; meetings = c.self.inside.meetings.items } in
    subst (λ (found : Option MeetingLists). IfSome found (λ m. ascends_by member_before m.register ≡ true))
    (ap (λ meetings. meeting_named meetings c.args.meeting) (sym c.deref.ensures.value) ∙ sym c.find_meeting-found.ensures)
    (found_ascends o c.args.meeting c.self.invariant)

-- a notice is the same whatever the party's own things are
pub returns-in-Notice : goal.returns-in-Notice
returns-in-Notice c =
    let o : OfficeLists = record { keys = c.self.inside.keys; closed = c.self.inside.closed; meetings = c.self.inside.meetings.items } in
    let found = option_copied c.find_meeting-found.result in
    let now = c.args.now in
    let what = c.args.asked.now in
    let own = own_of o c.args.party c.args.meeting now in
    let same : found ≡ meeting_named o.meetings c.args.meeting = c.find_meeting-found.ensures ∙ ap (λ meetings. meeting_named meetings c.args.meeting) c.deref.ensures.value in
    let due = ruled_answer (party_ruling (public_of o c.args.meeting) own now what) in
    let read : ruled_answer (party_ruling c.public_in-public.result own now Notice) ≡ due =
    ap (λ (r : PublicRecord). ruled_answer (party_ruling r own now Notice)) c.public_in-public.ensures
    ∙ ap (λ (f : Option MeetingLists). ruled_answer (party_ruling (public_in f o.closed) own now Notice)) same
    ∙ ap (λ (asked : PartyRequest). ruled_answer (party_ruling (public_of o c.args.meeting) own now asked)) (sym c.in-Notice.is) in
    subst (λ (held : OfficeLists). IfOk c.answer_notice.result (λ (a : Answer Entry). a ≡ ruled_answer (party_ruling (public_of held c.args.meeting) (own_of held c.args.party c.args.meeting now) now what))) c.self.view_is
    (IfOk-weaker c.answer_notice.result (λ (a : Answer Entry). (own : OwnView) → a ≡ ruled_answer (party_ruling c.public_in-public.result own now Notice)) (λ (a : Answer Entry). a ≡ due) (λ a is. is own ∙ read) c.answer_notice.ensures.answer)

pub returns : goal.returns
returns c =
    let o : OfficeLists = record { keys = c.self.inside.keys; closed = c.self.inside.closed; meetings = c.self.inside.meetings.items } in
    let found = option_copied c.find_meeting-found.result in
    let party = c.args.party in
    let now = c.args.now in
    let what = c.args.asked.now in
    let same : found ≡ meeting_named o.meetings c.args.meeting = c.find_meeting-found.ensures ∙ ap (λ meetings. meeting_named meetings c.args.meeting) c.deref.ensures.value in
    let answered = λ (r : PublicRecord). ruled_answer (party_ruling r (own_from (own_rows_in found party) r now) now what) in
    let due = ruled_answer (party_ruling (public_of o c.args.meeting) (own_of o party c.args.meeting now) now what) in
    let read : answered c.public_in-public.result ≡ due = ap answered c.public_in-public.ensures
    ∙ ap (λ (f : Option MeetingLists). ruled_answer (party_ruling (public_in f o.closed) (own_in_some f o.closed party now) now what)) same in
    subst (λ (held : OfficeLists). IfOk c.answer_from.result (λ (a : Answer Entry). a ≡ ruled_answer (party_ruling (public_of held c.args.meeting) (own_of held party c.args.meeting now) now what))) c.self.view_is
    (IfOk-weaker c.answer_from.result (λ (a : Answer Entry). (all : OwnRows) → c.in_ok-rows.rows ≡ own_rows_read what all → a ≡ ruled_answer (party_ruling c.public_in-public.result (own_from all c.public_in-public.result now) now what)) (λ (a : Answer Entry). a ≡ due)
    (λ a is. is (own_rows_in found party) c.in_ok-rows.ensures ∙ read) c.answer_from.ensures)
