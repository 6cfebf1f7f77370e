-- More wrong ways to decide calls: each tells a party something that others did.
use Rattle.std.specs.Prelude.{ℕ, zero, suc, Bool, false, nat_le, List, [], ◌∷◌, filter, length, codes, Option, Some, None, option_map, if◌then◌else◌}
use Rattle.vocabulary.specs.Names.{in_places, same_name}
use Rattle.vocabulary.specs.declared.kinds.Capacity.TheVariants.{Proxy}
use Rattle.vocabulary.specs.declared.kinds.Instr.TheVariants.{Free}
use Rattle.vocabulary.specs.declared.kinds.Way.TheVariants.{For}
use Rattle.vocabulary.specs.declared.refusal.Refusal.TheVariants.{TooMany}
use Rattle.desk_words.specs.Changes.{new_lists}
use Rattle.desk_words.specs.Rulings.{refused}
use Rattle.desk_words.specs.ViewTypes.{Day, MeetingName, Moment, Number, Party}
use Rattle.desk_words.specs.declared.answer.Answer.{Answer}
use Rattle.desk_words.specs.declared.caller.Caller.TheVariants as caller
use Rattle.desk_words.specs.declared.change.Change.{Change}
use Rattle.desk_words.specs.declared.limits.TheConstants.{MOST_AUTHORITIES}
use Rattle.desk_words.specs.declared.office.MeetingLists.{MeetingLists}
use Rattle.desk_words.specs.declared.office.OfficeLists.{OfficeLists}
use Rattle.desk_words.specs.declared.records.Authority.{Authority}
use Rattle.desk_words.specs.declared.records.CastKind.{CastKind}
use Rattle.desk_words.specs.declared.records.CastKind.TheVariants.{AsInstructed, Block}
use Rattle.desk_words.specs.declared.records.CastMark.{CastMark}
use Rattle.desk_words.specs.declared.records.RegisterRow.{RegisterRow}
use Rattle.desk_words.specs.declared.reply.Reply.{Reply}
use Rattle.desk_words.specs.declared.reply.Reply.TheVariants as reply
use Rattle.desk_words.specs.declared.request.Call.{Call}
use Rattle.desk_words.specs.declared.request.OfficeRequest.TheVariants.{LoadRegister}
use Rattle.desk_words.specs.declared.request.PartyRequest.{PartyRequest}
use Rattle.desk_words.specs.declared.request.PartyRequest.TheVariants.{Authorise, Cast, Demand, Mine}
use Rattle.desk_words.specs.declared.request.Request.TheVariants as asked
use Rattle.party_views.specs.Views.{meeting_at}
use Rattle.office_decisions.specs.PresenceRulings.{demand_noted}
use Rattle.laws_step.specs.Loads.{Deciding}
use Rattle.laws_step.specs.Worlds.{Answering, party_answer}
use Rattle.laws_step.specs.WrongAnswers.{a_meeting, a_member, another, meeting_with_casts, one_share, opened_meeting}
use Rattle.laws_run.specs.NearParts.{Viewer}
use Rattle.laws_run.specs.WrongWays.{call_by, deciding_by}

-- ---- whether the demands are enough

-- where a demand is noted, the reply tells whether those before it are enough (section 321)
abbrev pub shown_whether_enough : Option MeetingLists → List Day → Moment → Number → Reply → Reply
shown_whether_enough (Some m) closed now resolution reply.Noted =
    if (demand_noted m closed now resolution).reached then reply.Same else reply.Noted
shown_whether_enough found closed now resolution other = other

-- the answer with that reply
abbrev pub with_demands_shown : OfficeLists → MeetingName → Moment → Number → Answer Change
    → Answer Change
with_demands_shown office meeting now resolution right = record right {
  reply = shown_whether_enough (meeting_at office meeting) office.closed now resolution right.reply;
}

-- a party that demands a poll is answered so
abbrev pub enough_demands : Answering
enough_demands office party now (asked.Party meeting (Demand resolution)) =
    with_demands_shown office meeting now resolution
    (party_answer office party now (asked.Party meeting (Demand resolution)))
enough_demands office party now request = party_answer office party now request

-- the third wrong way: a party is told whether enough others demanded the poll
abbrev pub shows_whether_enough : Deciding
shows_whether_enough = deciding_by enough_demands

-- a meeting of the member, who has one share of 101, and of the other member, where both are
-- present and no poll is ordered
abbrev pub meeting_of_unequals : MeetingLists
meeting_of_unequals = record (meeting_with_casts []) {
  register = record (one_share a_member) { paid = 1 }
      ∷ record (one_share another) { shares = 100; paid = 1 } ∷ [];
  presences = record { session = 1; party = a_member; moment = 0 }
      ∷ record { session = 1; party = another; moment = 0 } ∷ [];
  polls = [];
}

-- the member demands the poll
abbrev pub member_demands : List Call
member_demands = call_by a_member (Demand 1) ∷ []

-- the other member demands it, and then the member
abbrev pub both_demand : List Call
both_demand = call_by another (Demand 1) ∷ member_demands

-- ---- whether others voted on the party's shares

-- the vote is on shares of the party
abbrev pub is_block_on : Party → CastKind → Bool
is_block_on party (Block block) = same_name block.member party
is_block_on party AsInstructed = false

-- among its own things the party is told the votes on its shares, whoever cast them
abbrev pub shown_votes_on : Option MeetingLists → Party → Reply → Reply
shown_votes_on (Some m) party (reply.Mine mine) =
    reply.Mine
    (record mine { casts = filter (λ (c : CastMark). is_block_on party c.what) m.casts })
shown_votes_on found party other = other

-- a party that asks for its own things is answered so
abbrev pub votes_on_shares : Answering
votes_on_shares office party now (asked.Party meeting Mine) =
    let right = party_answer office party now (asked.Party meeting Mine) in record right {
      reply = shown_votes_on (meeting_at office meeting) party right.reply;
    }
votes_on_shares office party now request = party_answer office party now request

-- the fourth wrong way: a member is told that somebody voted on its shares
abbrev pub shows_votes_on_shares : Deciding
shows_votes_on_shares = deciding_by votes_on_shares

-- the meeting where the member appointed the other member
abbrev pub meeting_with_proxy : MeetingLists
meeting_with_proxy = record (meeting_with_casts []) {
  appointments = record {
    member = a_member;
    number = 1;
    proxy = another;
    range = record { from = 1; to = 1 };
    instructions = Free ∷ [];
    moment = 0;
  } ∷ [];
}

-- the member asks for its own things
abbrev pub member_asks : List Call
member_asks = call_by a_member Mine ∷ []

-- the vote of the other member as the member's proxy
abbrev pub proxy_vote : PartyRequest
proxy_vote =
    Cast
    (record { resolution = 1; capacity = Proxy; member = a_member; from = 1; to = 1; way = For })

-- the proxy votes, and then the member asks
abbrev pub proxy_votes_first : List Call
proxy_votes_first = call_by another proxy_vote ∷ member_asks

-- ---- limits over all

-- an authority is refused where all parties together gave as many as one may
abbrev pub counted_over_all : Option MeetingLists → Answer Change → Answer Change
counted_over_all None right = right
counted_over_all (Some m) right =
    if nat_le MOST_AUTHORITIES (length m.authorities) then refused TooMany else right

-- a party that authorises a person is answered so
abbrev pub limit_over_all : Answering
limit_over_all office party now (asked.Party meeting (Authorise person)) =
    counted_over_all (meeting_at office meeting)
    (party_answer office party now (asked.Party meeting (Authorise person)))
limit_over_all office party now request = party_answer office party now request

-- the fifth wrong way: the authorities of all parties are counted against the limit of each
abbrev pub limits_all : Deciding
limits_all = deciding_by limit_over_all

-- so many authorities of the other member
abbrev pub authorities_to : ℕ → List Authority
authorities_to zero = []
authorities_to (suc n) =
    record { corporation = another; person = n ∷ []; moment = 0 } ∷ authorities_to n

-- the meeting where the other member gave 63 authorities
abbrev pub meeting_with_authorities : MeetingLists
meeting_with_authorities = record (meeting_with_casts []) { authorities = authorities_to 63 }

-- a party authorises a third party
abbrev pub authorises_third : PartyRequest
authorises_third = Authorise (in_places 16 (codes "C"))

-- the member authorises a third party
abbrev pub member_authorises : List Call
member_authorises = call_by a_member authorises_third ∷ []

-- the other member does, and then the member
abbrev pub both_authorise : List Call
both_authorise = call_by another authorises_third ∷ member_authorises

-- ---- how many others stand before the party in the register

-- the place of a party's row in a register, from 1
abbrev pub place_in : Party → List RegisterRow → ℕ
place_in party [] = 0
place_in party (row ∷ rows) =
    if same_name row.member party then 1 else suc (place_in party rows)

-- among its own things the party is told the place of its row, in place of what is paid up
abbrev pub shown_place : Option MeetingLists → Party → Reply → Reply
shown_place (Some m) party (reply.Mine mine) =
    reply.Mine
    (record mine {
      row = option_map (λ (row : RegisterRow). record row { paid = place_in party m.register })
          mine.row;
    })
shown_place found party other = other

-- a party that asks for its own things is answered so
abbrev pub place_of_row : Answering
place_of_row office party now (asked.Party meeting Mine) =
    let right = party_answer office party now (asked.Party meeting Mine) in record right {
      reply = shown_place (meeting_at office meeting) party right.reply;
    }
place_of_row office party now request = party_answer office party now request

-- the sixth wrong way: a member is told where it stands in the register
abbrev pub shows_the_place : Deciding
shows_the_place = deciding_by place_of_row

-- the meeting before its register is loaded
abbrev pub meeting_unloaded : MeetingLists
meeting_unloaded =
    new_lists
    (record opened_meeting { loaded = false; first = record { appointed = 0; opened = None } })

-- the other member, whom nobody names or authorises
abbrev pub the_other : Viewer
the_other = record { party = another; sources = [] }

-- the office loads a register of these rows
abbrev pub load_of : List RegisterRow → Call
load_of rows = record {
  moment = 0;
  caller = caller.Office;
  request = asked.Office a_meeting (LoadRegister (record { record_moment = 0; rows = rows }));
}

-- the other member asks for its own things
abbrev pub other_asks : List Call
other_asks = call_by another Mine ∷ []

-- a register of the other member's row alone is loaded, and then it asks
abbrev pub loaded_alone : List Call
loaded_alone = load_of (one_share another ∷ []) ∷ other_asks

-- a register of the rows of both is loaded, and then the other member asks
abbrev pub loaded_both : List Call
loaded_both = load_of (one_share a_member ∷ one_share another ∷ []) ∷ other_asks

-- ---- how many voted

-- where a vote is recorded, the reply tells how many votes there were before it
abbrev pub shown_votes_before : Option MeetingLists → Reply → Reply
shown_votes_before (Some m) reply.Recorded = reply.Ended (length m.casts)
shown_votes_before found other = other

-- a party that votes is answered so
abbrev pub votes_so_far : Answering
votes_so_far office party now (asked.Party meeting (Cast new)) =
    let right = party_answer office party now (asked.Party meeting (Cast new)) in record right {
      reply = shown_votes_before (meeting_at office meeting) right.reply;
    }
votes_so_far office party now request = party_answer office party now request

-- the seventh wrong way: a voter is told how many voted before it
abbrev pub shows_voters_turnout : Deciding
shows_voters_turnout = deciding_by votes_so_far
