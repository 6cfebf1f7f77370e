-- A wrong answer to a party, and two offices that it distinguishes.
use Rattle.std.specs.Prelude.{true, List, [], ◌∷◌, Option, Some, None, codes}
use Rattle.vocabulary.specs.Names.{in_places}
use Rattle.desk_words.specs.ViewTypes.{Day, MeetingName, Moment, Number, Party}
use Rattle.vocabulary.specs.declared.kinds.Capacity.TheVariants.{Member}
use Rattle.vocabulary.specs.declared.kinds.Company.TheVariants.{Private}
use Rattle.vocabulary.specs.declared.kinds.HolderKind.TheVariants.{Individual}
use Rattle.vocabulary.specs.declared.kinds.MeetingKind.TheVariants.{General}
use Rattle.vocabulary.specs.declared.kinds.ResKind.TheVariants.{Ordinary}
use Rattle.vocabulary.specs.declared.kinds.Way.TheVariants.{For}
use Rattle.desk_words.specs.declared.office.MeetingLists.{MeetingLists}
use Rattle.desk_words.specs.declared.office.OfficeLists.{OfficeLists}
use Rattle.desk_words.specs.declared.records.CastKind.{CastKind}
use Rattle.desk_words.specs.declared.records.CastKind.TheVariants.{Block}
use Rattle.desk_words.specs.declared.records.CastMark.{CastMark}
use Rattle.desk_words.specs.declared.records.Meeting.{Meeting}
use Rattle.desk_words.specs.declared.records.Poll.{Poll}
use Rattle.desk_words.specs.declared.records.RegisterRow.{RegisterRow}
use Rattle.desk_words.specs.declared.reply.Reply.{Reply}
use Rattle.desk_words.specs.declared.reply.Reply.TheVariants as reply
use Rattle.desk_words.specs.declared.request.Request.{Request}
use Rattle.desk_words.specs.declared.request.PartyRequest.{PartyRequest}
use Rattle.desk_words.specs.declared.request.PartyRequest.TheVariants.{Cast}
use Rattle.desk_words.specs.declared.request.Request.TheVariants as asked
use Rattle.party_views.specs.Views.{meeting_at}
use Rattle.office_decisions.specs.PollRulings.{declaration_of}
use Rattle.laws_step.specs.Worlds.{Answering, party_answer}

-- where a vote is recorded, the reply tells how the votes on the resolution stand
abbrev pub shown_the_count : Option MeetingLists → List Day → Moment → Number → Reply → Reply
shown_the_count (Some m) closed now resolution reply.Recorded =
    reply.Declared (declaration_of m closed now resolution)
shown_the_count found closed now resolution other = other

-- the wrong answer: a voter is told how the votes stood
abbrev pub running_total : Answering
running_total office party now (asked.Party meeting (Cast new)) =
    let right = party_answer office party now (asked.Party meeting (Cast new)) in record right {
      reply = shown_the_count (meeting_at office meeting) office.closed now new.resolution
          right.reply;
    }
running_total office party now request = party_answer office party now request

-- a member, another member, and a meeting
abbrev pub a_member : Party
a_member = in_places 16 (codes "A")

abbrev pub another : Party
another = in_places 16 (codes "B")

abbrev pub a_meeting : MeetingName
a_meeting = in_places 16 (codes "M")

-- a member's one share
abbrev pub one_share : Party → RegisterRow
one_share member = record {
  member = member;
  kind = Individual;
  name = codes "N";
  shares = 1;
  paid = 0;
}

-- the notice of a meeting on one resolution, which is opened with its register loaded
abbrev pub opened_meeting : Meeting
opened_meeting = record {
  id = a_meeting;
  company = Private;
  kind = General;
  given = 0;
  first = record { appointed = 0; opened = Some 0 };
  later = [];
  record_moment = 0;
  resolutions = record { kind = Ordinary; text = codes "R" } ∷ [];
  loaded = true;
}

-- a poll on that resolution, which is started
abbrev pub started_poll : Poll
started_poll = record {
  session = 1;
  resolution = 1;
  ordered = 0;
  take = 0;
  chair = true;
  started = Some 0;
  closed = None;
  declared = None;
}

-- that meeting, of the two members, with that poll and these votes
abbrev pub meeting_with_casts : List CastMark → MeetingLists
meeting_with_casts votes = record {
  meeting = opened_meeting;
  register = one_share a_member ∷ one_share another ∷ [];
  appointments = [];
  endings = [];
  authorities = [];
  presences = [];
  demands = [];
  polls = started_poll ∷ [];
  casts = votes;
}

-- an office of one such meeting
abbrev pub office_with : List CastMark → OfficeLists
office_with votes = record { keys = []; closed = []; meetings = meeting_with_casts votes ∷ [] }

-- a member's vote for the resolution on its one share
abbrev pub whole_block : Party → CastKind
whole_block member =
    Block
    (record {
      capacity = Member;
      member = member;
      range = record { from = 1; to = 1 };
      way = For;
    })

-- the vote of the other member
abbrev pub vote_of_another : CastMark
vote_of_another = record {
  resolution = 1;
  voter = another;
  what = whole_block another;
  moment = 0;
}

-- the member's vote for the resolution on its own share
abbrev pub own_vote : PartyRequest
own_vote =
    Cast
    (record { resolution = 1; capacity = Member; member = a_member; from = 1; to = 1; way = For })

-- what the member asks
abbrev pub vote_wanted : Request
vote_wanted = asked.Party a_meeting own_vote
