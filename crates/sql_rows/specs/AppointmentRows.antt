-- What a row of appointments, endings and authorities means.
use Rattle.std.specs.Prelude.{ℕ, List, Option, Some}
use Rattle.sqlite.specs.Order.{Row}
use Rattle.vocabulary.specs.Names.{party_of, meeting_of}
use Rattle.vocabulary.specs.Places.{range_of}
use Rattle.desk_words.specs.declared.records.Appointment.{Appointment}
use Rattle.desk_words.specs.declared.records.Ending.{Ending}
use Rattle.desk_words.specs.declared.records.Authority.{Authority}
use Rattle.sql_rows.specs.declared.stored_records.InMeeting.{InMeeting}
use Rattle.vocabulary.specs.OptionSteps.{◌>>=◌}
use Rattle.sql_rows.specs.ColumnValues.{parsed_in, number_in, moment_in}
use Rattle.sql_rows.specs.Columns.{◌▸◌, in_meeting, moment_at, number_at, party_at}
use Rattle.sql_rows.specs.InstructionLetters.{instructions_of}

-- an appointment of a proxy: meeting, member, number, proxy, first and last place, instructions,
-- moment (section 324)
unfoldable pub appointment_in : Row → Option (InMeeting Appointment)
appointment_in cells = do
  meeting ← parsed_in meeting_of cells 0
  member ← parsed_in party_of cells 1
  number ← number_in cells 2
  proxy ← parsed_in party_of cells 3
  first ← number_in cells 4
  last ← number_in cells 5
  range ← range_of first last
  instructions ← parsed_in instructions_of cells 6
  moment ← moment_in cells 7
  Some
      (record {
        meeting = meeting;
        item = record {
          member = member;
          number = number;
          proxy = proxy;
          range = range;
          instructions = instructions;
          moment = moment;
        };
      })

-- an ending of an appointment: meeting, member, number, moment (section 330)
abbrev pub ending_of : List ℕ × (ℕ × ℕ) → Ending
ending_of p = record { member = p.0; number = p.1.0; moment = p.1.1 }

unfoldable pub ending_in : Row → Option (InMeeting Ending)
ending_in = in_meeting (party_at ▸ number_at ▸ moment_at) ending_of

-- an authority of a representative: meeting, corporation, person, moment (section 323)
abbrev pub authority_of : List ℕ × (List ℕ × ℕ) → Authority
authority_of p = record { corporation = p.0; person = p.1.0; moment = p.1.1 }

unfoldable pub authority_in : Row → Option (InMeeting Authority)
authority_in = in_meeting (party_at ▸ party_at ▸ moment_at) authority_of
