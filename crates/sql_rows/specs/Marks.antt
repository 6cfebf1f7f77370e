-- What a row of presences, demands, polls and casts means.
use Rattle.std.specs.Prelude.{ℕ, ◌+◌, ◌^◌, ◌≤◌, ◌⊎◌, Bool, ◌&&◌, List, Option, Some, None, bytes_eq, codes, if◌then◌else◌}
use Rattle.sqlite.specs.declared.types.Value.{Value}
use Rattle.sqlite.specs.Order.{Row, column}
use Rattle.vocabulary.specs.Kinds.{capacity_of, way_of}
use Rattle.vocabulary.specs.Names.{party_of, meeting_of}
use Rattle.vocabulary.specs.Places.{range_of}
use Rattle.desk_words.specs.declared.records.PresenceMark.{PresenceMark}
use Rattle.desk_words.specs.declared.records.DemandMark.{DemandMark}
use Rattle.desk_words.specs.declared.records.Poll.{Poll}
use Rattle.desk_words.specs.declared.records.Tally.{Tally}
use Rattle.desk_words.specs.declared.records.Block.{Block}
use Rattle.desk_words.specs.declared.records.CastKind.{CastKind}
use Rattle.desk_words.specs.declared.records.CastKind.TheVariants as kind
use Rattle.desk_words.specs.declared.records.CastMark.{CastMark}
use Rattle.sql_rows.specs.declared.stored_records.InMeeting.{InMeeting}
use Rattle.vocabulary.specs.OptionSteps.{◌>>=◌}
use Rattle.sql_rows.specs.Columns.{◌▸◌, in_meeting, moment_at, number_at, party_at}
use Rattle.sql_rows.specs.ColumnValues.{parsed_in, parsed_of, parsed_word_of, number_in, natural_value, flag_in, moment_in, some_moment_in, is_null}

-- a party that is present at a session: meeting, session, party, moment (section 318)
abbrev pub presence_of : ℕ × (List ℕ × ℕ) → PresenceMark
presence_of p = record { session = p.0; party = p.1.0; moment = p.1.1 }

unfoldable pub presence_in : Row → Option (InMeeting PresenceMark)
presence_in = in_meeting (number_at ▸ party_at ▸ moment_at) presence_of

-- a demand of a poll: meeting, session, resolution, party, moment (sections 321 and 329)
abbrev pub demand_mark_of : ℕ × (ℕ × (List ℕ × ℕ)) → DemandMark
demand_mark_of p =
    record { session = p.0; resolution = p.1.0; party = p.1.1.0; moment = p.1.1.1 }

unfoldable pub demand_mark_in : Row → Option (InMeeting DemandMark)
demand_mark_in = in_meeting (number_at ▸ number_at ▸ party_at ▸ moment_at) demand_mark_of

-- the count in four columns, of which none is NULL
abbrev pub tally_from : Value → Value → Value → Value → Option Tally
tally_from a b c d = do
  votes_for ← natural_value a
  votes_against ← natural_value b
  withheld ← natural_value c
  eligible ← natural_value d
  Some
      (record {
        votes_for = votes_for;
        votes_against = votes_against;
        withheld = withheld;
        eligible = eligible;
      })

-- a figure of the count is above 2^63 - 1, the highest number that is kept
abbrev pub HasTooHighFigure : Tally → Type 0
HasTooHighFigure tally =
    (2 ^ 63 ≤ tally.votes_for) ⊎ (2 ^ 63 ≤ tally.votes_against) ⊎ (2 ^ 63 ≤ tally.withheld)
    ⊎ (2 ^ 63 ≤ tally.eligible)

-- the count that is declared, or none where the four columns are all NULL
abbrev pub declared_of : Value → Value → Value → Value → Option (Option Tally)
declared_of a b c d =
    if is_null a && is_null b && is_null c && is_null d
    then Some None
    else tally_from a b c d >>= λ tally. Some (Some tally)

-- the count that is declared, in the four columns from a place on
unfoldable pub declared_in : Row → ℕ → Option (Option Tally)
declared_in cells at =
    declared_of (column cells at) (column cells (at + 1)) (column cells (at + 2))
    (column cells (at + 3))

-- a poll: meeting, session, resolution, when it was ordered, when it is to be taken, whether by the
-- chair, when it was started and closed, and the four figures of its count (section 321)
unfoldable pub poll_in : Row → Option (InMeeting Poll)
poll_in cells = do
  meeting ← parsed_in meeting_of cells 0
  session ← number_in cells 1
  resolution ← number_in cells 2
  ordered ← moment_in cells 3
  take ← moment_in cells 4
  chair ← flag_in cells 5
  started ← some_moment_in cells 6
  closed ← some_moment_in cells 7
  declared ← declared_in cells 8
  Some
      (record {
        meeting = meeting;
        item = record {
          session = session;
          resolution = resolution;
          ordered = ordered;
          take = take;
          chair = chair;
          started = started;
          closed = closed;
          declared = declared;
        };
      })

-- a vote on some shares (section 322): capacity, member, first and last place, way
abbrev pub block_from : Value → Value → Value → Value → Value → Option Block
block_from a b c d e = do
  capacity ← parsed_word_of capacity_of a
  member ← parsed_of party_of b
  first ← natural_value c
  last ← natural_value d
  range ← range_of first last
  way ← parsed_word_of way_of e
  Some (record { capacity = capacity; member = member; range = range; way = way })

-- the word in the column of capacities for a vote as the voter is instructed (section 324A)
abbrev pub instructed_word : List ℕ
instructed_word = codes "instructed"

-- whether the column has that word
abbrev pub is_instructed : Value → Option Bool
is_instructed value = parsed_word_of (λ word. Some (bytes_eq word instructed_word)) value

-- the vote as instructed, with the four other columns NULL
abbrev pub as_instructed_of : Value → Value → Value → Value → Option CastKind
as_instructed_of b c d e =
    if is_null b && is_null c && is_null d && is_null e then Some kind.AsInstructed else None

-- what is cast: as instructed, or a vote on some shares
abbrev pub cast_kind_of : Value → Value → Value → Value → Value → Option CastKind
cast_kind_of a b c d e =
    is_instructed a
    >>=
    λ instructed. if instructed
    then as_instructed_of b c d e
    else block_from a b c d e >>= λ block. Some (kind.Block block)

-- what is cast, in the five columns from a place on
unfoldable pub cast_kind_in : Row → ℕ → Option CastKind
cast_kind_in cells at =
    cast_kind_of (column cells at) (column cells (at + 1)) (column cells (at + 2))
    (column cells (at + 3)) (column cells (at + 4))

-- a vote that is cast: meeting, resolution, voter, what is cast, moment (sections 284 and 322)
unfoldable pub cast_in : Row → Option (InMeeting CastMark)
cast_in cells = do
  meeting ← parsed_in meeting_of cells 0
  resolution ← number_in cells 1
  voter ← parsed_in party_of cells 2
  what ← cast_kind_in cells 3
  moment ← moment_in cells 8
  Some
      (record {
        meeting = meeting;
        item = record { resolution = resolution; voter = voter; what = what; moment = moment };
      })

-- ---- rows of version 1, whose meetings have one session

-- a party that is present: meeting, party, moment
unfoldable pub presence_before_sessions_in : Row → Option (InMeeting PresenceMark)
presence_before_sessions_in cells = do
  meeting ← parsed_in meeting_of cells 0
  party ← parsed_in party_of cells 1
  moment ← moment_in cells 2
  Some (record { meeting = meeting; item = record { session = 1; party = party; moment = moment } })

-- a demand of a poll: meeting, resolution, party, moment
unfoldable pub demand_before_sessions_in : Row → Option (InMeeting DemandMark)
demand_before_sessions_in cells = do
  meeting ← parsed_in meeting_of cells 0
  resolution ← number_in cells 1
  party ← parsed_in party_of cells 2
  moment ← moment_in cells 3
  Some
      (record {
        meeting = meeting;
        item = record { session = 1; resolution = resolution; party = party; moment = moment };
      })

-- a poll: meeting, resolution, and the others as above
unfoldable pub poll_before_sessions_in : Row → Option (InMeeting Poll)
poll_before_sessions_in cells = do
  meeting ← parsed_in meeting_of cells 0
  resolution ← number_in cells 1
  ordered ← moment_in cells 2
  take ← moment_in cells 3
  chair ← flag_in cells 4
  started ← some_moment_in cells 5
  closed ← some_moment_in cells 6
  declared ← declared_in cells 7
  Some
      (record {
        meeting = meeting;
        item = record {
          session = 1;
          resolution = resolution;
          ordered = ordered;
          take = take;
          chair = chair;
          started = started;
          closed = closed;
          declared = declared;
        };
      })
