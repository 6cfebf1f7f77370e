-- The answer to a party.
use Rattle.std.specs.Prelude.{Bool, true, false, map}
use Rattle.desk_words.specs.Rulings.{Ruling, in_found, reply_only}
use Rattle.desk_words.specs.ViewTypes.{Moment}
use Rattle.desk_words.specs.Sessions.{last_number}
use Rattle.desk_words.specs.declared.change.Entry.{Entry}
use Rattle.desk_words.specs.declared.records.Meeting.{Meeting}
use Rattle.desk_words.specs.declared.reply.Mine.{Mine}
use Rattle.desk_words.specs.declared.reply.Reply.TheVariants as reply
use Rattle.desk_words.specs.declared.request.PartyRequest.{PartyRequest}
use Rattle.desk_words.specs.declared.request.PartyRequest.TheVariants.{Notice, Mine as OwnThings, Appoint, End, Authorise, Attend, Demand, Cast, Instructed}
use Rattle.caller_view.specs.AppointmentRulings.{appoint_ruling, cutoff_in, end_ruling, given_use}
use Rattle.caller_view.specs.AttendanceRulings.{attend_ruling, authorise_ruling, demand_ruling}
use Rattle.caller_view.specs.CastRulings.{cast_ruling, instructed_ruling}
use Rattle.caller_view.specs.Notices.{notice_of}
use Rattle.party_views.specs.OwnCasts.{all_casts}
use Rattle.party_views.specs.Public.{PublicRecord}
use Rattle.party_views.specs.declared.views.OwnView.{OwnView}

-- what a party is told of its own things, by the closed days as they stand
abbrev pub mine_of : PublicRecord → Meeting → OwnView → Moment → Mine
mine_of public meeting own now = record {
  meeting = meeting.id;
  row = own.row;
  given = map (given_use (cutoff_in public meeting now)) own.given;
  persons = own.persons;
  received = own.received;
  authorised = own.authorised;
  session = last_number meeting;
  presences = own.presences;
  demands = own.demands;
  casts = all_casts own.casts;
}

-- what decides a party's request in a meeting, from what the party may see and the moment
abbrev pub ruling_for : PublicRecord → OwnView → Moment → PartyRequest → Meeting → Ruling Entry
ruling_for public own now Notice meeting =
    reply_only (reply.Notice (notice_of meeting public.polls public.closed now))
ruling_for public own now OwnThings meeting =
    reply_only (reply.Mine (mine_of public meeting own now))
ruling_for public own now (Appoint new) meeting = appoint_ruling public meeting own now new
ruling_for public own now (End number) meeting = end_ruling own now number
ruling_for public own now (Authorise person) meeting = authorise_ruling own now person
ruling_for public own now Attend meeting = attend_ruling meeting own now
ruling_for public own now (Demand resolution) meeting =
    demand_ruling public meeting own now resolution
ruling_for public own now (Cast new) meeting = cast_ruling public meeting own now new
ruling_for public own now (Instructed resolution) meeting =
    instructed_ruling public meeting own now resolution

-- what decides a party's request: that there is no meeting, and else what is ruled in it
abbrev pub party_ruling : PublicRecord → OwnView → Moment → PartyRequest → Ruling Entry
party_ruling public own now asked = in_found public.meeting (ruling_for public own now asked)

-- the answer to the request takes no memory: it is a refusal, or a reply and an entry without lists
abbrev pub party_needs_no_memory : PartyRequest → Bool
party_needs_no_memory Notice = false
party_needs_no_memory OwnThings = false
party_needs_no_memory (Appoint new) = false
party_needs_no_memory other = true
