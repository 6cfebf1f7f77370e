-- What is read is enough: an answer is the same from all own things of a party, and from those that
-- its request reads.
use Rattle.std.specs.Prelude.{◌≡◌}
use Rattle.desk_words.specs.Rulings.{ruled_answer}
use Rattle.desk_words.specs.ViewTypes.{MeetingName, Moment}
use Rattle.desk_words.specs.declared.answer.Answer.{Answer}
use Rattle.desk_words.specs.declared.change.Entry.{Entry}
use Rattle.desk_words.specs.declared.office.OfficeLists.{OfficeLists}
use Rattle.desk_words.specs.declared.request.PartyRequest.{PartyRequest}
use Rattle.caller_view.specs.PartyRulings.{party_ruling}
use Rattle.party_views.specs.OwnViews.{own_from}
use Rattle.party_views.specs.Public.{PublicRecord}
use Rattle.party_views.specs.RowsRead.{own_rows_read}
use Rattle.party_views.specs.PartyRows.{own_rows_in}
use Rattle.party_views.specs.Views.{meeting_at, own_of, public_of}
use Rattle.party_views.specs.declared.own_rows.OwnRows.{OwnRows}
use Rattle.party_views.specs.declared.views.OwnView.{OwnView}

-- the answer to a party, from the public record and its own things, at a moment
abbrev pub answered : PublicRecord → OwnView → Moment → PartyRequest → Answer Entry
answered public own now asked = ruled_answer (party_ruling public own now asked)

-- what keeps of own things those that a request reads
abbrev pub Reading : Type 0
Reading = PartyRequest → OwnView → OwnView

-- the answer to a request is the same from what is read of the own things as from all of them
abbrev pub ReadsEnough : Reading → Type 0
ReadsEnough reading =
    (public : PublicRecord) (own : OwnView) (now : Moment) (asked : PartyRequest)
    → answered public (reading asked own) now asked ≡ answered public own now asked

-- and from the own things that are made of the rows that it reads as from those that are made of
-- all rows
abbrev pub RowsReadAreEnough : Type 0
RowsReadAreEnough =
    (rows : OwnRows) (public : PublicRecord) (now : Moment) (asked : PartyRequest)
    → answered public (own_from (own_rows_read asked rows) public now) now asked
    ≡ answered public (own_from rows public now) now asked

-- rows and a public record that are those of a party in the meeting of a name in some office, which
-- may have no such meeting, give the own things of the party there
abbrev pub RowsGiveOwnThings : Type 0
RowsGiveOwnThings =
    (office : OfficeLists) (meeting : MeetingName) (rows : OwnRows) (public : PublicRecord)
    (now : Moment)
    → rows ≡ own_rows_in (meeting_at office meeting) rows.party
    → public ≡ public_of office meeting
    → own_from rows public now ≡ own_of office rows.party meeting now
