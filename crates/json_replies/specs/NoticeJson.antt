-- The notice of a meeting as JSON. The members of an object stand in the order of the bytes of
-- their keys.
use Rattle.std.specs.Prelude.{ℕ, suc, Bool, [], ◌∷◌, length, codes}
use Rattle.serde_json.specs.Data.{Data, boolean, string}
use Rattle.vocabulary.specs.Kinds.{company_word, meeting_kind_word, resolution_kind_word}
use Rattle.desk_words.specs.declared.reply.Declaration.{Declaration}
use Rattle.desk_words.specs.declared.reply.NoticedPoll.{NoticedPoll}
use Rattle.desk_words.specs.declared.reply.NoticedResolution.{NoticedResolution}
use Rattle.desk_words.specs.declared.reply.NoticedSession.{NoticedSession}
use Rattle.desk_words.specs.declared.reply.Notice.{Notice}
use Rattle.json_replies.specs.Forms.{decimal_data, name_data, day_data, moment_data, or_null, array_of, numbered_array, only_if, is_adjourned, object_of}

-- the result of a poll: its count, and whether the resolution is carried (sections 282 and 283)
abbrev pub result_data : Declaration → Data
result_data d = object_of (
    (codes "against", decimal_data d.tally.votes_against)
    ∷ (codes "carried", boolean d.carried)
    ∷ (codes "eligible", decimal_data d.tally.eligible)
    ∷ (codes "for", decimal_data d.tally.votes_for)
    ∷ (codes "withheld", decimal_data d.tally.withheld)
    ∷ [])

-- a session, with its number; `cutoff` is the last moment at which an appointment for it counts
abbrev pub noticed_session_data : ℕ → NoticedSession → Data
noticed_session_data number s = object_of (
    (codes "appointed", moment_data s.appointed)
    ∷ (codes "cutoff", moment_data s.cutoff)
    ∷ (codes "number", decimal_data number)
    ∷ (codes "opened", or_null moment_data s.opened)
    ∷ [])

-- a poll; `cutoff` is the last moment at which an appointment for it counts, `take` when it is to
-- be taken, `result` null before its declaration, and `session` the number of its session
abbrev pub noticed_poll_data : Bool → NoticedPoll → Data
noticed_poll_data adjourned p = object_of (
    (codes "chair", boolean p.chair)
    ∷ (codes "closed", or_null moment_data p.closed)
    ∷ (codes "cutoff", moment_data p.cutoff)
    ∷ (codes "late", boolean p.late)
    ∷ (codes "ordered", moment_data p.ordered)
    ∷ (codes "result", or_null result_data p.result)
    ∷ only_if adjourned (codes "session", decimal_data p.session) (
    (codes "started", or_null moment_data p.started)
    ∷ (codes "take", moment_data p.take)
    ∷ []))

-- a resolution, and the poll on it if one is ordered
abbrev pub noticed_resolution_data : Bool → NoticedResolution → Data
noticed_resolution_data adjourned r = object_of (
    (codes "kind", string (resolution_kind_word r.kind))
    ∷ (codes "number", decimal_data r.number)
    ∷ (codes "poll", or_null (noticed_poll_data adjourned) r.poll)
    ∷ (codes "text", string r.text)
    ∷ [])

-- there is more than one session
abbrev pub has_later : Notice → Bool
has_later n = is_adjourned (suc (length n.later))

-- the notice of a meeting; `appointed`, `cutoff` and `opened` are those of its first session,
-- `record` is the moment as of which the register is taken, and `register` whether one is loaded
abbrev pub notice_data : Notice → Data
notice_data n =
    object_of
    ((codes "appointed", moment_data n.first.appointed)
    ∷ (codes "company", string (company_word n.company))
    ∷ (codes "cutoff", moment_data n.first.cutoff)
    ∷ (codes "given", day_data n.given)
    ∷ (codes "kind", string (meeting_kind_word n.kind))
    ∷ (codes "meeting", name_data n.meeting)
    ∷ (codes "ok", string (codes "notice"))
    ∷ (codes "opened", or_null moment_data n.first.opened)
    ∷ (codes "record", moment_data n.record_moment)
    ∷ (codes "register", boolean n.loaded)
    ∷ (codes "resolutions", array_of (noticed_resolution_data (has_later n)) n.resolutions)
    ∷ only_if (has_later n)
    (codes "sessions", numbered_array noticed_session_data (n.first ∷ n.later)) [])
