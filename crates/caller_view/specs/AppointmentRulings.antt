-- Appointments that a party gives and ends, and the replies to it.
use Rattle.std.specs.Prelude.{suc, Bool, false, not, ◌==◌, nat_le, List, [], ◌∷◌, length, find, Option, Some, None, is_none, is_some, if◌then◌else◌}
use Rattle.desk_words.specs.Names.{same_name}
use Rattle.desk_words.specs.Places.{is_range}
use Rattle.desk_words.specs.Refusals.{Case}
use Rattle.desk_words.specs.Rulings.{Ruling}
use Rattle.desk_words.specs.ViewTypes.{Moment, Number}
use Rattle.desk_words.specs.Sessions.{last_number}
use Rattle.vocabulary.specs.declared.refusal.Refusal.TheVariants.{BadRange, SelfNamed, BadInstructions, TooMany, NoSuchNumber, AlreadyEnded}
use Rattle.desk_words.specs.declared.limits.TheConstants.{MOST_APPOINTMENTS}
use Rattle.desk_words.specs.declared.records.Appointment.{Appointment}
use Rattle.desk_words.specs.declared.records.Ending.{Ending}
use Rattle.desk_words.specs.declared.records.Meeting.{Meeting}
use Rattle.desk_words.specs.declared.change.Entry.{Entry}
use Rattle.desk_words.specs.declared.change.Entry.TheVariants as entry
use Rattle.desk_words.specs.declared.own_things.Given.{Given}
use Rattle.desk_words.specs.declared.reply.AppointmentReceipt.{AppointmentReceipt}
use Rattle.desk_words.specs.declared.reply.AppointmentUse.{AppointmentUse}
use Rattle.desk_words.specs.declared.reply.AppointmentUse.TheVariants.{Meeting as ForTheMeeting, LaterPolls}
use Rattle.desk_words.specs.declared.reply.GivenUse.{GivenUse}
use Rattle.desk_words.specs.declared.reply.Reply.TheVariants as reply
use Rattle.desk_words.specs.declared.request.NewAppointment.{NewAppointment}
use Rattle.proxy_rules.specs.Cutoffs.{cutoffs_of}
use Rattle.proxy_rules.specs.Uses.{Votes}
use Rattle.party_views.specs.declared.views.OwnView.{OwnView}
use Rattle.party_views.specs.Public.{PublicRecord}

-- the last moment at which an appointment counts for votes in the last session, by the closed days
-- as they stand (section 327)
abbrev pub cutoff_in : PublicRecord → Meeting → Moment → Moment
cutoff_in public meeting now =
    (cutoffs_of meeting (Votes (last_number meeting)) public.closed now).appointments

-- what an appointment of a moment counts for, where the last session has that cutoff (section 327)
abbrev pub use_by : Moment → Moment → AppointmentUse
use_by cutoff moment = if nat_le moment cutoff then ForTheMeeting else LaterPolls

-- an appointment that the party gave, and what it counts for
abbrev pub given_use : Moment → Given → GivenUse
given_use cutoff given = record { given = given; used = use_by cutoff given.appointment.moment }

-- when an appointment over a range of places is not recorded: it names the party itself, it has not
-- one instruction for each resolution (section 324A), or the party gave `MOST_APPOINTMENTS` already
abbrev pub appoint_range_cases : Meeting → OwnView → NewAppointment → List Case
appoint_range_cases meeting own new =
    record { refusal = SelfNamed; holds = same_name new.proxy own.party }
    ∷ record {
      refusal = BadInstructions;
      holds = not (length new.instructions == length meeting.resolutions);
    }
    ∷ record { refusal = TooMany; holds = nat_le MOST_APPOINTMENTS own.given_count } ∷ []

-- when an appointment is not recorded: its places are no range, or as above
abbrev pub appoint_cases : Meeting → OwnView → NewAppointment → List Case
appoint_cases meeting own new =
    record { refusal = BadRange; holds = not (is_range new.from new.to) }
    ∷ appoint_range_cases meeting own new

-- the appointment that is recorded, with the party's next number (section 324)
abbrev pub appointment_of : OwnView → Moment → NewAppointment → Appointment
appointment_of own now new = record {
  member = own.party;
  number = suc own.given_count;
  proxy = new.proxy;
  range = record { from = new.from; to = new.to };
  instructions = new.instructions;
  moment = now;
}

-- what is answered to it
abbrev pub receipt_of : Moment → OwnView → Moment → AppointmentReceipt
receipt_of cutoff own now = record { number = suc own.given_count; used = use_by cutoff now }

-- an appointment is recorded, or refused by the public record and the party's own things alone; the
-- register is not looked at (section 324)
abbrev pub appoint_ruling : PublicRecord → Meeting → OwnView → Moment → NewAppointment
    → Ruling Entry
appoint_ruling public meeting own now new = record {
  cases = appoint_cases meeting own new;
  accepted = record {
    reply = reply.Appointed (receipt_of (cutoff_in public meeting now) own now);
    change = Some (entry.Appointment (appointment_of own now new));
  };
}

-- the party's own appointment of a number
abbrev pub given_numbered : List Given → Number → Option Given
given_numbered given number = find (λ (g : Given). g.appointment.number == number) given

-- there is one, and it is ended
abbrev pub is_given_ended : Option Given → Bool
is_given_ended None = false
is_given_ended (Some given) = is_some given.ended

-- when an ending is not recorded: the party gave no appointment of that number, or ended it already
-- (section 330)
abbrev pub end_cases : OwnView → Number → List Case
end_cases own number =
    record { refusal = NoSuchNumber; holds = is_none (given_numbered own.given number) }
    ∷ record { refusal = AlreadyEnded; holds = is_given_ended (given_numbered own.given number) }
    ∷ []

-- the ending that is recorded (section 330)
abbrev pub ending_of : OwnView → Moment → Number → Ending
ending_of own now number = record { member = own.party; number = number; moment = now }

-- an ending is recorded, or refused by the party's own things (section 330)
abbrev pub end_ruling : OwnView → Moment → Number → Ruling Entry
end_ruling own now number =
    record {
      cases = end_cases own number;
      accepted = record {
        reply = reply.Ended number;
        change = Some (entry.Ending (ending_of own now number));
      };
    }
