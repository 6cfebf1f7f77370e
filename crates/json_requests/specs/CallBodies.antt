-- The calling of a meeting.
use Rattle.std.specs.Prelude.{ℕ, List, [], ◌∷◌, Option, Some, None, codes, if◌then◌else◌}
use Rattle.serde_json.specs.Data.{Data}
use Rattle.serde_json.specs.Find.{at}
use Rattle.calendar.specs.DateTexts.{day_of, moment_of}
use Rattle.vocabulary.specs.Kinds.{company_of, meeting_kind_of, resolution_kind_of}
use Rattle.desk_words.specs.SortedLists.{are_resolutions}
use Rattle.desk_words.specs.declared.records.Resolution.{Resolution}
use Rattle.desk_words.specs.ViewTypes.{MeetingName}
use Rattle.desk_words.specs.declared.request.NewMeeting.{NewMeeting}
use Rattle.vocabulary.specs.OptionSteps.{guard, ◌>>=◌}
use Rattle.vocabulary.specs.PlainTexts.{text_of}
use Rattle.json_requests.specs.JsonFields.{Fields, has_items, items_in, parsed_at, all_items}

-- a resolution is a pair of its kind and its text
unfoldable pub resolution_at : Data → Option Resolution
resolution_at d = do
  pair ← guard (has_items 2 d)
  kind ← parsed_at resolution_kind_of (at 0 d)
  text ← parsed_at text_of (at 1 d)
  Some (record { kind = kind; text = text })

-- 1 to `MOST_RESOLUTIONS` resolutions
abbrev pub checked_resolutions : List Resolution → Option (List Resolution)
checked_resolutions resolutions = if are_resolutions resolutions then Some resolutions else None

-- the resolutions at a place
unfoldable pub resolutions_in : Option Data → Option (List Resolution)
resolutions_in place = do
  items ← items_in place
  resolutions ← all_items resolution_at items
  checked_resolutions resolutions

-- the fields of the calling of a meeting
abbrev pub call_fields : List (List ℕ)
call_fields =
    codes "company" ∷ codes "kind" ∷ codes "given" ∷ codes "appointed" ∷ codes "record"
    ∷ codes "resolutions" ∷ []

-- the meeting of a name that six fields call (section 307), each of its form
unfoldable pub call_body : MeetingName → Fields → Option NewMeeting
call_body meeting
    (company_at ∷ kind_at ∷ given_at ∷ appointed_at ∷ record_at ∷ resolutions_at ∷ []) = do
      company ← parsed_at company_of company_at
      kind ← parsed_at meeting_kind_of kind_at
      given ← parsed_at day_of given_at
      appointed ← parsed_at moment_of appointed_at
      record_moment ← parsed_at moment_of record_at
      resolutions ← resolutions_in resolutions_at
      Some (record {
        meeting = meeting;
        company = company;
        kind = kind;
        given = given;
        appointed = appointed;
        record_moment = record_moment;
        resolutions = resolutions;
      })
call_body meeting other = None
