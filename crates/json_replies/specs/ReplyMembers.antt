-- Parts of replies, for private clauses.
use Rattle.std.specs.Prelude.{ℕ, Bool, List, [], ◌∷◌, length, codes}
use Rattle.serde_json.specs.Data.{Data, boolean, string}
use Rattle.vocabulary.specs.Kinds.{company_word, meeting_kind_word}
use Rattle.desk_words.specs.declared.own_things.Given.{Given}
use Rattle.desk_words.specs.declared.own_things.Received.{Received}
use Rattle.desk_words.specs.declared.own_things.SessionGoverned.{SessionGoverned}
use Rattle.desk_words.specs.declared.reply.Declaration.{Declaration}
use Rattle.desk_words.specs.declared.reply.Mine.{Mine}
use Rattle.desk_words.specs.declared.reply.Notice.{Notice}
use Rattle.desk_words.specs.declared.reply.NoticedPoll.{NoticedPoll}
use Rattle.json_replies.specs.AppointmentJson.{given_data, instruction_data, last_votes, poll_governed_data, received_data, run_data, session_governed_data}
use Rattle.json_replies.specs.Forms.{decimal_data, name_data, day_data, moment_data, or_null, array_of, numbered_array, only_if, is_adjourned}
use Rattle.json_replies.specs.NoticeJson.{has_later, noticed_resolution_data, noticed_session_data, result_data}
use Rattle.json_replies.specs.Replies.{authorised_data, cast_data, demand_data, is_present_in, row_data, sessions_present}

-- the members of a party's own things before the meeting's name
abbrev pub mine_head : Mine → List (List ℕ × Data)
mine_head m =
    (codes "authorised", array_of authorised_data m.authorised)
    ∷ (codes "casts", array_of cast_data m.casts)
    ∷ (codes "demands", array_of demand_data m.demands)
    ∷ (codes "given", array_of given_data m.given)
    ∷ []

-- the members of a party's own things after the persons whom it authorised
abbrev pub mine_rest : Mine → List (List ℕ × Data)
mine_rest m =
    only_if (is_adjourned m.session)
    (codes "presences", array_of decimal_data (sessions_present m)) (
    (codes "present", boolean (is_present_in m.presences m.session))
    ∷ (codes "received", array_of received_data m.received)
    ∷ (codes "row", or_null row_data m.row)
    ∷ [])

-- the members of a poll before the number of its session
abbrev pub poll_head : NoticedPoll → List (List ℕ × Data)
poll_head p =
    (codes "chair", boolean p.chair)
    ∷ (codes "closed", or_null moment_data p.closed)
    ∷ (codes "cutoff", moment_data p.cutoff)
    ∷ (codes "late", boolean p.late)
    ∷ (codes "ordered", moment_data p.ordered)
    ∷ (codes "result", or_null result_data p.result)
    ∷ []

-- the members of a notice before the meeting's name
abbrev pub notice_head : Notice → List (List ℕ × Data)
notice_head n =
    (codes "appointed", moment_data n.first.appointed)
    ∷ (codes "company", string (company_word n.company))
    ∷ (codes "cutoff", moment_data n.first.cutoff)
    ∷ (codes "given", day_data n.given)
    ∷ (codes "kind", string (meeting_kind_word n.kind))
    ∷ []

-- the member that is the list of the sessions, where the meeting was adjourned
abbrev pub sessions_list : Bool → Notice → List (List ℕ × Data)
sessions_list adjourned n =
    only_if adjourned (codes "sessions", numbered_array noticed_session_data (n.first ∷ n.later)) []

-- the members of a notice that are lists
abbrev pub notice_lists : Notice → List (List ℕ × Data)
notice_lists n =
    (codes "resolutions", array_of (noticed_resolution_data (has_later n)) n.resolutions)
    ∷ sessions_list (has_later n) n

-- the members of the result of a poll but the last, the shares whose vote was withheld
abbrev pub result_head : Declaration → List (List ℕ × Data)
result_head d =
    (codes "against", decimal_data d.tally.votes_against)
    ∷ (codes "carried", boolean d.carried)
    ∷ (codes "eligible", decimal_data d.tally.eligible)
    ∷ (codes "for", decimal_data d.tally.votes_for)
    ∷ []

-- the members of an appointment that the party gave, before its proxy's name
abbrev pub given_head : Given → List (List ℕ × Data)
given_head g =
    (codes "ended", or_null moment_data g.ended)
    ∷ (codes "from", decimal_data g.appointment.range.from)
    ∷ (codes "instructions", array_of instruction_data g.appointment.instructions)
    ∷ (codes "number", decimal_data g.appointment.number)
    ∷ []

-- the members of an appointment that names the party, before its sessions
abbrev pub received_head : Received → List (List ℕ × Data)
received_head r =
    (codes "from", decimal_data r.range.from)
    ∷ (codes "governs", array_of run_data (last_votes r.sessions))
    ∷ (codes "instructions", array_of instruction_data r.instructions)
    ∷ (codes "member", name_data r.member)
    ∷ (codes "polls", array_of poll_governed_data r.polls)
    ∷ (codes "received", moment_data r.moment)
    ∷ []

-- the member with what is governed in each session, where there is more than one
abbrev pub governed_list : List SessionGoverned → List (List ℕ × Data)
governed_list sessions =
    only_if (is_adjourned (length sessions))
    (codes "sessions", numbered_array session_governed_data sessions) []
