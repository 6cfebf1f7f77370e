-- Appointments of proxies as JSON. The members of an object stand in the order of the bytes of
-- their keys.
use Rattle.std.specs.Prelude.{ℕ, List, [], ◌∷◌, length, ◌-◌, slice_get, codes}
use Rattle.std.specs.Option.{option_map_or}
use Rattle.serde_json.specs.Data.{Data, string, array}
use Rattle.serde_json.specs.View.{items_of}
use Rattle.vocabulary.specs.Kinds.{instruction_word}
use Rattle.vocabulary.specs.Places.{Places}
use Rattle.vocabulary.specs.declared.kinds.Instr.{Instr}
use Rattle.desk_words.specs.declared.reply.AppointmentReceipt.{AppointmentReceipt}
use Rattle.desk_words.specs.declared.reply.AppointmentUse.{AppointmentUse}
use Rattle.desk_words.specs.declared.reply.AppointmentUse.TheVariants.{Meeting, LaterPolls}
use Rattle.desk_words.specs.declared.reply.GivenUse.{GivenUse}
use Rattle.desk_words.specs.declared.own_things.PollGoverned.{PollGoverned}
use Rattle.desk_words.specs.declared.own_things.Received.{Received}
use Rattle.desk_words.specs.declared.own_things.SessionGoverned.{SessionGoverned}
use Rattle.json_replies.specs.Forms.{decimal_data, name_data, moment_data, or_null, array_of, numbered_array, only_if, is_adjourned, object_of}

-- an instruction, as its word
abbrev pub instruction_data : Instr → Data
instruction_data instruction = string (instruction_word instruction)

-- the words for what an appointment counts for
abbrev pub use_word : AppointmentUse → List ℕ
use_word Meeting = codes "meeting"
use_word LaterPolls = codes "later polls only"

-- places in a run, as the first and the last of them
abbrev pub run_data : Places → Data
run_data run = array (items_of (decimal_data run.from ∷ decimal_data run.to ∷ []))

-- an appointment that the party gave; `received` is the moment of its receipt, and `use` what it
-- counts for
abbrev pub given_data : GivenUse → Data
given_data g = object_of (
    (codes "ended", or_null moment_data g.given.ended)
    ∷ (codes "from", decimal_data g.given.appointment.range.from)
    ∷ (codes "instructions", array_of instruction_data g.given.appointment.instructions)
    ∷ (codes "number", decimal_data g.given.appointment.number)
    ∷ (codes "proxy", name_data g.given.appointment.proxy)
    ∷ (codes "received", moment_data g.given.appointment.moment)
    ∷ (codes "to", decimal_data g.given.appointment.range.to)
    ∷ (codes "use", string (use_word g.used))
    ∷ [])

-- what an appointment governs for a late poll, in runs in order
abbrev pub poll_governed_data : PollGoverned → Data
poll_governed_data p = object_of (
    (codes "governs", array_of run_data p.governs)
    ∷ (codes "resolution", decimal_data p.resolution)
    ∷ [])

-- what an appointment governs in the session of a number, in runs in order: for the quorum and
-- demands, and for votes
abbrev pub session_governed_data : ℕ → SessionGoverned → Data
session_governed_data number s = object_of (
    (codes "acts", array_of run_data s.acts)
    ∷ (codes "governs", array_of run_data s.votes)
    ∷ (codes "session", decimal_data number)
    ∷ [])

-- what an appointment governs for votes in the last session
abbrev pub last_votes : List SessionGoverned → List Places
last_votes sessions =
    option_map_or (λ (s : SessionGoverned). s.votes) (slice_get sessions (length sessions - 1)) []

-- an appointment that names the party; `received` is the moment of its receipt, `governs` has the
-- places that it governs for votes in the last session, in runs in order, and `polls` those for
-- each late poll
abbrev pub received_data : Received → Data
received_data r = object_of (
    (codes "from", decimal_data r.range.from)
    ∷ (codes "governs", array_of run_data (last_votes r.sessions))
    ∷ (codes "instructions", array_of instruction_data r.instructions)
    ∷ (codes "member", name_data r.member)
    ∷ (codes "polls", array_of poll_governed_data r.polls)
    ∷ (codes "received", moment_data r.moment)
    ∷ only_if (is_adjourned (length r.sessions))
    (codes "sessions", numbered_array session_governed_data r.sessions)
    ((codes "to", decimal_data r.range.to) ∷ []))

-- the number of an appointment that is recorded, and what it counts for
abbrev pub appointed_data : AppointmentReceipt → Data
appointed_data r = object_of (
    (codes "number", decimal_data r.number)
    ∷ (codes "ok", string (codes "appointed"))
    ∷ (codes "use", string (use_word r.used))
    ∷ [])
