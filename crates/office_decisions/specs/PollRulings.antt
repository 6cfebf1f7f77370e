-- The opening and the adjournment of a meeting, and the way of a poll: ordered, started, closed,
-- declared.
use Rattle.std.specs.Prelude.{Bool, suc, false, not, ◌&&◌, ◌||◌, ◌-◌, nat_le, nat_lt, List, [], ◌∷◌, ◌++◌, Option, Some, None, is_some, is_none}
use Rattle.std.specs.List.{list_any, slice_get}
use Rattle.desk_words.specs.Finding.{poll_on}
use Rattle.desk_words.specs.PollStates.{there_is, is_started, is_waiting, is_closed, is_unclosed, is_declared, is_taken_after}
use Rattle.desk_words.specs.Refusals.{Case}
use Rattle.desk_words.specs.Rulings.{Ruling, no_resolution}
use Rattle.desk_words.specs.ViewTypes.{Day, Moment, Number}
use Rattle.desk_words.specs.Sessions.{is_opened, last_number, last_session}
use Rattle.vocabulary.specs.declared.refusal.Refusal.TheVariants.{Exists, TooMany, NoRegister, Opened, NotOpened, Early, NoQuorum, PollOrdered, NoPoll, DemandTooSmall, PollNotOpen, PollClosed, NotClosed, Declared, PollRunning}
use Rattle.desk_words.specs.declared.answer.Answer.{Answer}
use Rattle.desk_words.specs.declared.change.MeetingChange.{MeetingChange}
use Rattle.desk_words.specs.declared.change.MeetingChange.TheVariants.{SetOpened, AddSession, AddPoll, SetPoll}
use Rattle.desk_words.specs.declared.change.PollChange.TheVariants as poll
use Rattle.desk_words.specs.declared.limits.TheConstants.{MOST_SESSIONS}
use Rattle.desk_words.specs.declared.office.MeetingLists.{MeetingLists}
use Rattle.desk_words.specs.declared.records.Meeting.{Meeting}
use Rattle.desk_words.specs.declared.records.Poll.{Poll}
use Rattle.desk_words.specs.declared.records.Resolution.{Resolution}
use Rattle.desk_words.specs.declared.records.Tally.{Tally}
use Rattle.desk_words.specs.declared.reply.Declaration.{Declaration}
use Rattle.desk_words.specs.declared.reply.Reply.TheVariants as reply
use Rattle.desk_words.specs.declared.request.NewPoll.{NewPoll}
use Rattle.office_decisions.specs.PresenceRulings.{demand_noted, quorum_in}
use Rattle.proxy_rules.specs.Cutoffs.{cutoffs_of, is_late_poll}
use Rattle.proxy_rules.specs.Uses.{vote_on}
use Rattle.vote_rules.specs.Tallies.{tally_of}
use Rattle.desk_words.specs.Majority.{result_of}

-- when the last session of a meeting is not opened, whoever is present
abbrev pub opening_cases : Meeting → Moment → List Case
opening_cases meeting now =
    record { refusal = NoRegister; holds = not meeting.loaded }
    ∷ record { refusal = Opened; holds = is_opened (last_session meeting) }
    ∷ record { refusal = Early; holds = nat_lt now (last_session meeting).appointed }
    ∷ []

-- when it is not opened (section 318)
abbrev pub open_cases : MeetingLists → List Day → Moment → List Case
open_cases m closed now =
    opening_cases m.meeting now
    ++ record { refusal = NoQuorum; holds = not (quorum_in m closed now) } ∷ []

-- the last session of a meeting is opened
abbrev pub open_ruling : MeetingLists → List Day → Moment → Ruling MeetingChange
open_ruling m closed now = record {
  cases = open_cases m closed now;
  accepted = record { reply = reply.MeetingOpened; change = Some (SetOpened now) };
}

-- the poll is not closed, and it is started or not late; only a late poll that is not started is
-- taken after an adjournment (own, after sections 327 and 330)
abbrev pub is_running : List Day → Poll → Bool
is_running closed p = is_unclosed p && (is_started p || not (is_late_poll closed p))

-- when a meeting is not adjourned to a further session, whichever polls run
abbrev pub adjourning_cases : Meeting → Moment → Moment → List Case
adjourning_cases meeting now appointed =
    record { refusal = TooMany; holds = nat_le MOST_SESSIONS (last_number meeting) }
    ∷ record { refusal = NotOpened; holds = not (is_opened (last_session meeting)) }
    ∷ record { refusal = Early; holds = nat_le appointed now }
    ∷ []

-- when it is not adjourned, by the closed days as they stand
abbrev pub adjourn_cases : MeetingLists → List Day → Moment → Moment → List Case
adjourn_cases m closed now appointed =
    adjourning_cases m.meeting now appointed
    ++ record { refusal = PollRunning; holds = list_any (is_running closed) m.polls } ∷ []

-- a meeting is adjourned to a session that is appointed for a moment
abbrev pub adjourn_ruling : MeetingLists → List Day → Moment → Moment → Ruling MeetingChange
adjourn_ruling m closed now appointed = record {
  cases = adjourn_cases m closed now appointed;
  accepted = record {
    reply = reply.Adjourned (suc (last_number m.meeting));
    change = Some (AddSession appointed);
  };
}

-- when a poll is not ordered, whoever demands it
abbrev pub ordering_cases : MeetingLists → Moment → NewPoll → List Case
ordering_cases m now new =
    no_resolution m.meeting new.resolution
    ∷ record { refusal = NotOpened; holds = not (is_opened (last_session m.meeting)) }
    ∷ record { refusal = Early; holds = nat_lt new.take now }
    ∷ record { refusal = PollOrdered; holds = is_some (poll_on m.polls new.resolution) }
    ∷ []

-- when it is not ordered (section 321); the chair may order it without a demand
abbrev pub order_cases : MeetingLists → List Day → Moment → NewPoll → List Case
order_cases m closed now new =
    ordering_cases m now new
    ++ record {
      refusal = DemandTooSmall;
      holds = not new.chair && not (demand_noted m closed now new.resolution).reached;
    }
    ∷ []

-- the poll that is ordered at a moment, in the last session (section 321)
abbrev pub poll_of : Meeting → Moment → NewPoll → Poll
poll_of meeting now new = record {
  session = last_number meeting;
  resolution = new.resolution;
  ordered = now;
  take = new.take;
  chair = new.chair;
  started = None;
  closed = None;
  declared = None;
}

-- a poll is ordered (section 321)
abbrev pub order_ruling : MeetingLists → List Day → Moment → NewPoll → Ruling MeetingChange
order_ruling m closed now new = record {
  cases = order_cases m closed now new;
  accepted = record { reply = reply.Ordered; change = Some (AddPoll (poll_of m.meeting now new)) };
}

-- when a poll is not started
abbrev pub start_cases : MeetingLists → Moment → Number → List Case
start_cases m now resolution =
    let found = poll_on m.polls resolution in
    record { refusal = Exists; holds = there_is is_started found }
    ∷ no_resolution m.meeting resolution
    ∷ record { refusal = Early; holds = there_is (is_taken_after now) found }
    ∷ record { refusal = NoPoll; holds = is_none found }
    ∷ []

-- a poll is started
abbrev pub start_ruling : MeetingLists → Moment → Number → Ruling MeetingChange
start_ruling m now resolution =
    record {
      cases = start_cases m now resolution;
      accepted = record {
        reply = reply.Started;
        change = Some (SetPoll resolution (poll.Started now));
      };
    }

-- when the voting on a poll is not closed; how many have voted is not asked
abbrev pub close_cases : MeetingLists → Number → List Case
close_cases m resolution =
    let found = poll_on m.polls resolution in
    no_resolution m.meeting resolution
    ∷ record { refusal = NoPoll; holds = is_none found }
    ∷ record { refusal = PollNotOpen; holds = there_is is_waiting found }
    ∷ record { refusal = PollClosed; holds = there_is is_closed found }
    ∷ []

-- the voting on a poll is closed
abbrev pub close_ruling : MeetingLists → Moment → Number → Ruling MeetingChange
close_ruling m now resolution =
    record {
      cases = close_cases m resolution;
      accepted = record {
        reply = reply.VotingClosed;
        change = Some (SetPoll resolution (poll.Closed now));
      };
    }

-- when the result of a poll that is ordered is not declared
abbrev pub result_cases : Option Poll → List Case
result_cases found =
    record { refusal = NotClosed; holds = there_is is_unclosed found }
    ∷ record { refusal = Declared; holds = there_is is_declared found }
    ∷ []

-- when the result of a poll is not declared
abbrev pub declare_cases : MeetingLists → Number → List Case
declare_cases m resolution =
    let found = poll_on m.polls resolution in
    no_resolution m.meeting resolution
    ∷ record { refusal = NoPoll; holds = is_none found }
    ∷ result_cases found

-- the result of a poll by its count; where the resolution is not of the notice, it is not carried
abbrev pub result_on : Option Resolution → Tally → Declaration
result_on None tally = record { tally = tally; carried = false }
result_on (Some resolution) tally = result_of resolution.kind tally

-- the count of the votes on a resolution, by the cutoffs for votes on its poll as the closed days
-- stand (sections 284 and 327)
abbrev pub tally_in : MeetingLists → List Day → Moment → Number → Tally
tally_in m closed now resolution =
    let purpose = vote_on (last_number m.meeting) (poll_on m.polls resolution) in
    tally_of (cutoffs_of m.meeting purpose closed now) m.register m.appointments m.endings
    m.authorities m.casts resolution

-- that count, and whether it carries the resolution (sections 282 to 284)
abbrev pub declaration_of : MeetingLists → List Day → Moment → Number → Declaration
declaration_of m closed now resolution =
    result_on (slice_get m.meeting.resolutions (resolution - 1)) (tally_in m closed now resolution)

-- the reply is the result, and the count is kept (sections 282 to 284)
abbrev pub declared_answer : Number → Declaration → Answer MeetingChange
declared_answer resolution declared = record {
  reply = reply.Declared declared;
  change = Some (SetPoll resolution (poll.Declared declared.tally));
}

-- the result of a poll is declared, by the closed days and the moment of the call
abbrev pub declare_ruling : MeetingLists → List Day → Moment → Number → Ruling MeetingChange
declare_ruling m closed now resolution =
    record {
      cases = declare_cases m resolution;
      accepted = declared_answer resolution (declaration_of m closed now resolution);
    }
