-- Replies about a meeting of one session, and about it once it was adjourned: values whose texts
-- are given letter for letter.
use Rattle.std.specs.Prelude.{ℕ, true, false, List, [], ◌∷◌, codes, Some, None}
use Rattle.serde_json.specs.Written.{compact_text}
use Rattle.vocabulary.specs.Names.{in_places}
use Rattle.vocabulary.specs.declared.kinds.Company.TheVariants.{Private}
use Rattle.vocabulary.specs.declared.kinds.Instr.TheVariants.{Free}
use Rattle.vocabulary.specs.declared.kinds.MeetingKind.TheVariants.{General}
use Rattle.vocabulary.specs.declared.kinds.ResKind.TheVariants.{Ordinary}
use Rattle.desk_words.specs.ViewTypes.{Day, Moment, SessionNumber}
use Rattle.desk_words.specs.declared.own_things.Received.{Received}
use Rattle.desk_words.specs.declared.own_things.SessionGoverned.{SessionGoverned}
use Rattle.desk_words.specs.declared.reply.Mine.{Mine}
use Rattle.desk_words.specs.declared.reply.Notice.{Notice}
use Rattle.desk_words.specs.declared.reply.NoticedPoll.{NoticedPoll}
use Rattle.desk_words.specs.declared.reply.NoticedResolution.{NoticedResolution}
use Rattle.desk_words.specs.declared.reply.NoticedSession.{NoticedSession}
use Rattle.json_replies.specs.Forms.{day_data, moment_data}

-- a moment, in its quotes
abbrev pub moment_json : Moment → List ℕ
moment_json moment = compact_text (moment_data moment)

-- a day, in its quotes
abbrev pub day_json : Day → List ℕ
day_json day = compact_text (day_data day)

-- a session appointed for a moment, with its cutoff, that is opened then
abbrev pub opened_as_appointed : Moment → Moment → NoticedSession
opened_as_appointed appointed cutoff = record {
  appointed = appointed;
  cutoff = cutoff;
  opened = Some appointed;
}

-- and one that is not opened
abbrev pub further_session : Moment → Moment → NoticedSession
further_session appointed cutoff = record { appointed = appointed; cutoff = cutoff; opened = None }

-- a poll of the first session, which is taken at once
abbrev pub first_poll : Moment → Moment → NoticedPoll
first_poll ordered cutoff = record {
  session = 1;
  ordered = ordered;
  take = ordered;
  chair = true;
  started = None;
  closed = None;
  late = false;
  cutoff = cutoff;
  result = None;
}

-- the resolution on which it is ordered
abbrev pub polled_resolution : NoticedPoll → NoticedResolution
polled_resolution poll = record {
  number = 1;
  kind = Ordinary;
  text = codes "Accounts";
  poll = Some poll;
}

-- the notice of a meeting with this first session, and these later ones
abbrev pub noticed_with : Day → Moment → Moment → List NoticedSession → Notice
noticed_with given appointed cutoff later = record {
  meeting = in_places 16 (codes "G1");
  company = Private;
  kind = General;
  given = given;
  first = opened_as_appointed appointed cutoff;
  later = later;
  record_moment = cutoff;
  loaded = true;
  resolutions = polled_resolution (first_poll appointed cutoff) ∷ [];
}

-- what governs in the first session
abbrev pub in_first : SessionGoverned
in_first = record {
  acts = record { from = 1; to = 40 } ∷ [];
  votes = record { from = 1; to = 40 } ∷ [];
}

-- and in the second: for its quorum and demands alone
abbrev pub in_second : SessionGoverned
in_second = record { acts = record { from = 21; to = 40 } ∷ []; votes = [] }

-- an appointment on which this governs in each session
abbrev pub received_in_sessions : Moment → List SessionGoverned → Received
received_in_sessions moment sessions = record {
  member = in_places 16 (codes "M1");
  range = record { from = 1; to = 40 };
  instructions = Free ∷ [];
  moment = moment;
  sessions = sessions;
  polls = [];
}

-- the own things of a party who was present in the first session, of which this is the last
abbrev pub own_with : Moment → SessionNumber → List SessionGoverned → Mine
own_with moment session sessions = record {
  meeting = in_places 16 (codes "G1");
  row = None;
  given = [];
  persons = [];
  received = received_in_sessions moment sessions ∷ [];
  authorised = [];
  session = session;
  presences = 1 ∷ [];
  demands = [];
  casts = [];
}
