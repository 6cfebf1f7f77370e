-- What a row of meetings, their further sessions, resolutions and the register means.
use Rattle.std.specs.Prelude.{Option, Some}
use Rattle.sqlite.specs.Order.{Row}
use Rattle.vocabulary.specs.Kinds.{company_of, meeting_kind_of, resolution_kind_of, holder_kind_of}
use Rattle.vocabulary.specs.Names.{party_of, meeting_of}
use Rattle.desk_words.specs.declared.records.RegisterRow.{RegisterRow}
use Rattle.desk_words.specs.declared.records.Resolution.{Resolution}
use Rattle.desk_words.specs.declared.records.Session.{Session}
use Rattle.sql_rows.specs.declared.stored_records.InMeeting.{InMeeting}
use Rattle.sql_rows.specs.declared.stored_records.MeetingRow.{MeetingRow}
use Rattle.sql_rows.specs.declared.stored_records.Numbered.{Numbered}
use Rattle.vocabulary.specs.OptionSteps.{◌>>=◌}
use Rattle.sql_rows.specs.ColumnValues.{parsed_in, parsed_word_in, number_in, flag_in, day_in, moment_in, some_moment_in, plain_text_of}

-- a meeting with its first session: its name, company, kind, the day of the notice, the appointed
-- time, the moment as of which its register is taken, whether that is loaded, and when it opened
-- (section 307)
unfoldable pub meeting_in : Row → Option MeetingRow
meeting_in cells = do
  id ← parsed_in meeting_of cells 0
  company ← parsed_word_in company_of cells 1
  kind ← parsed_word_in meeting_kind_of cells 2
  given ← day_in cells 3
  appointed ← moment_in cells 4
  record_moment ← moment_in cells 5
  loaded ← flag_in cells 6
  opened ← some_moment_in cells 7
  Some
      (record {
        id = id;
        company = company;
        kind = kind;
        given = given;
        appointed = appointed;
        record_moment = record_moment;
        loaded = loaded;
        opened = opened;
      })

-- a further session: meeting, number, appointed time, and when it opened
unfoldable pub session_in : Row → Option (InMeeting (Numbered Session))
session_in cells = do
  meeting ← parsed_in meeting_of cells 0
  number ← number_in cells 1
  appointed ← moment_in cells 2
  opened ← some_moment_in cells 3
  Some
      (record {
        meeting = meeting;
        item = record { number = number; item = record { appointed = appointed; opened = opened } };
      })

-- a resolution: meeting, number, kind, text (section 283(6))
unfoldable pub resolution_in : Row → Option (InMeeting (Numbered Resolution))
resolution_in cells = do
  meeting ← parsed_in meeting_of cells 0
  number ← number_in cells 1
  kind ← parsed_word_in resolution_kind_of cells 2
  text ← parsed_word_in plain_text_of cells 3
  Some
      (record {
        meeting = meeting;
        item = record { number = number; item = record { kind = kind; text = text } };
      })

-- a holding: meeting, member, kind of holder, name, shares, pence paid up on each (section 113)
unfoldable pub holding_in : Row → Option (InMeeting RegisterRow)
holding_in cells = do
  meeting ← parsed_in meeting_of cells 0
  member ← parsed_in party_of cells 1
  kind ← parsed_word_in holder_kind_of cells 2
  name ← parsed_word_in plain_text_of cells 3
  shares ← number_in cells 4
  paid ← number_in cells 5
  Some
      (record {
        meeting = meeting;
        item = record { member = member; kind = kind; name = name; shares = shares; paid = paid };
      })
