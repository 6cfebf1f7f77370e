-- Who is present, whether they make a quorum, and whether enough shares demand a poll.
use Rattle.std.specs.Prelude.{Bool, ◌&&◌, ◌==◌, List, []}
use Rattle.std.specs.List.{list_any}
use Rattle.desk_words.specs.Names.{same_name}
use Rattle.desk_words.specs.Rulings.{Ruling, noted}
use Rattle.desk_words.specs.ViewTypes.{Day, Moment, Number, Party}
use Rattle.desk_words.specs.Sessions.{last_number}
use Rattle.desk_words.specs.declared.office.MeetingLists.{MeetingLists}
use Rattle.desk_words.specs.declared.records.Meeting.{Meeting}
use Rattle.desk_words.specs.declared.records.PresenceMark.{PresenceMark}
use Rattle.desk_words.specs.declared.change.Entry.TheVariants.{Presence}
use Rattle.desk_words.specs.declared.change.MeetingChange.{MeetingChange}
use Rattle.desk_words.specs.declared.change.MeetingChange.TheVariants.{Enter}
use Rattle.poll_rules.specs.Demands.{demand_of}
use Rattle.poll_rules.specs.Quorum.{quorum_of}
use Rattle.poll_rules.specs.declared.demand.Demand.{Demand}
use Rattle.proxy_rules.specs.Cutoffs.{cutoffs_of}
use Rattle.proxy_rules.specs.Uses.{Acts}

-- the mark is of the party's presence in the last session
abbrev pub is_mark_now : Meeting → Party → PresenceMark → Bool
is_mark_now meeting party mark =
    same_name mark.party party && mark.session == last_number meeting

-- the party's presence in the last session is marked
abbrev pub is_marked : Meeting → List PresenceMark → Party → Bool
is_marked meeting presences party = list_any (is_mark_now meeting party) presences

-- a presence in the last session is noted (section 318)
abbrev pub presence_ruling : MeetingLists → Moment → Party → Ruling MeetingChange
presence_ruling m now party =
    record {
      cases = [];
      accepted =
          noted (is_marked m.meeting m.presences party)
          (Enter
          (Presence
          (record { session = last_number m.meeting; party = party; moment = now })));
    }

-- whether those who are present in the last session make a quorum, by the closed days as they stand
-- (section 318)
abbrev pub quorum_in : MeetingLists → List Day → Moment → Bool
quorum_in m closed now =
    let last = last_number m.meeting in let cutoffs = cutoffs_of m.meeting (Acts last) closed now in
    quorum_of cutoffs m.register m.appointments m.endings m.authorities m.presences last

-- the demand in the last session of a poll on a resolution, by the closed days as they stand
-- (section 321)
abbrev pub demand_noted : MeetingLists → List Day → Moment → Number → Demand
demand_noted m closed now resolution =
    let last = last_number m.meeting in let cutoffs = cutoffs_of m.meeting (Acts last) closed now in
    demand_of cutoffs m.register m.appointments m.endings m.authorities m.demands last resolution
