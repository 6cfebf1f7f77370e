-- What the notice of a meeting shows.
use Rattle.std.specs.Prelude.{List, option_map}
use Rattle.vocabulary.specs.declared.kinds.ResKind.{ResKind}
use Rattle.desk_words.specs.Finding.{poll_on}
use Rattle.desk_words.specs.ViewTypes.{Day, Moment, Number, SessionNumber}
use Rattle.desk_words.specs.declared.records.Meeting.{Meeting}
use Rattle.desk_words.specs.declared.records.Poll.{Poll}
use Rattle.desk_words.specs.declared.records.Resolution.{Resolution}
use Rattle.desk_words.specs.declared.records.Session.{Session}
use Rattle.desk_words.specs.declared.reply.Notice.{Notice}
use Rattle.desk_words.specs.declared.reply.NoticedPoll.{NoticedPoll}
use Rattle.desk_words.specs.declared.reply.NoticedResolution.{NoticedResolution}
use Rattle.desk_words.specs.declared.reply.NoticedSession.{NoticedSession}
use Rattle.proxy_rules.specs.Cutoffs.{cutoffs_of, is_late_poll}
use Rattle.proxy_rules.specs.Uses.{Votes, Vote}
use Rattle.desk_words.specs.Majority.{result_of}
use Rattle.party_views.specs.SessionLists.{enumerate_from}

-- a poll, with its lateness and its cutoff by the closed days as they stand, and its result once it
-- is declared (section 327)
abbrev pub noticed_poll : Meeting → List Day → Moment → ResKind → Poll → NoticedPoll
noticed_poll meeting closed now kind poll = record {
  session = poll.session;
  ordered = poll.ordered;
  take = poll.take;
  chair = poll.chair;
  started = poll.started;
  closed = poll.closed;
  late = is_late_poll closed poll;
  cutoff = (cutoffs_of meeting (Vote poll) closed now).appointments;
  result = option_map (result_of kind) poll.declared;
}

-- a resolution, with the poll on it if one is ordered
abbrev pub noticed_resolution : Meeting → List Poll → List Day → Moment → Number → Resolution
    → NoticedResolution
noticed_resolution meeting polls closed now number resolution = record {
  number = number;
  kind = resolution.kind;
  text = resolution.text;
  poll = option_map (noticed_poll meeting closed now resolution.kind) (poll_on polls number);
}

-- a session of a number, with the last moment at which an appointment counts for votes in it, by
-- the closed days as they stand (section 327)
abbrev pub noticed_session : Meeting → List Day → Moment → SessionNumber → Session → NoticedSession
noticed_session meeting closed now number session = record {
  appointed = session.appointed;
  cutoff = (cutoffs_of meeting (Votes number) closed now).appointments;
  opened = session.opened;
}

-- the notice of a meeting, and what is public of it since (section 307)
abbrev pub notice_of : Meeting → List Poll → List Day → Moment → Notice
notice_of meeting polls closed now = record {
  meeting = meeting.id;
  company = meeting.company;
  kind = meeting.kind;
  given = meeting.given;
  first = noticed_session meeting closed now 1 meeting.first;
  later = enumerate_from (noticed_session meeting closed now) 2 meeting.later;
  record_moment = meeting.record_moment;
  loaded = meeting.loaded;
  resolutions = enumerate_from (noticed_resolution meeting polls closed now) 1 meeting.resolutions;
}
