-- Replies as JSON, over the words of `serde_json`. The members of an object stand in the order of
-- the bytes of their keys.
use Rattle.std.specs.Prelude.{ℕ, zero, suc, Bool, ◌==◌, List, [], ◌∷◌, ◌++◌, codes, if◌then◌else◌}
use Rattle.std.specs.List.{list_any}
use Rattle.serde_json.specs.Data.{Data, boolean, string}
use Rattle.serde_json.specs.Written.{compact_text}
use Rattle.vocabulary.specs.Kinds.{holder_kind_word, capacity_word, way_word}
use Rattle.vocabulary.specs.Refusals.{number_of, name_of}
use Rattle.vocabulary.specs.declared.refusal.Refusal.{Refusal}
use Rattle.desk_words.specs.declared.records.RegisterRow.{RegisterRow}
use Rattle.desk_words.specs.declared.records.Authority.{Authority}
use Rattle.desk_words.specs.declared.records.DemandMark.{DemandMark}
use Rattle.desk_words.specs.declared.records.CastKind.{CastKind}
use Rattle.desk_words.specs.declared.records.CastKind.TheVariants as cast
use Rattle.desk_words.specs.declared.records.CastMark.{CastMark}
use Rattle.desk_words.specs.declared.reply.Declaration.{Declaration}
use Rattle.desk_words.specs.declared.own_things.Authorised.{Authorised}
use Rattle.desk_words.specs.declared.reply.Mine.{Mine}
use Rattle.desk_words.specs.declared.reply.Reply.{Reply}
use Rattle.desk_words.specs.declared.reply.Reply.TheVariants as reply
use Rattle.desk_words.specs.declared.reply.Failure.{Failure}
use Rattle.desk_words.specs.declared.reply.Failure.TheVariants as failure
use Rattle.json_replies.specs.AppointmentJson.{given_data, received_data, appointed_data}
use Rattle.json_replies.specs.Forms.{decimal_data, name_data, or_null, array_of, only_if, is_adjourned, object_of}
use Rattle.json_replies.specs.NoticeJson.{notice_data}

-- a word beside `ok`, and nothing else
abbrev pub ok_data : List ℕ → Data
ok_data word = object_of ((codes "ok", string word) ∷ [])

-- a word beside `ok`, and a number
abbrev pub numbered_ok_data : ℕ → List ℕ → Data
numbered_ok_data number word =
    object_of ((codes "number", decimal_data number) ∷ (codes "ok", string word) ∷ [])

-- a party's row in the register; `paid` is the pence paid up on each share
abbrev pub row_data : RegisterRow → Data
row_data row = object_of (
    (codes "kind", string (holder_kind_word row.kind))
    ∷ (codes "name", string row.name)
    ∷ (codes "paid", decimal_data row.paid)
    ∷ (codes "shares", decimal_data row.shares)
    ∷ [])

-- the person whom the party authorised
abbrev pub person_data : Authority → Data
person_data authority = name_data authority.person

-- a corporation that authorised the party, and its shares
abbrev pub authorised_data : Authorised → Data
authorised_data a =
    object_of
    ((codes "corporation", name_data a.corporation) ∷ (codes "shares", decimal_data a.shares) ∷ [])

-- the number of the resolution on which a poll was demanded
abbrev pub demand_data : DemandMark → Data
demand_data demand = decimal_data demand.resolution

-- what is cast on a resolution
abbrev pub cast_kind_data : ℕ → CastKind → Data
cast_kind_data resolution (cast.Block b) = object_of (
    (codes "as", string (capacity_word b.capacity))
    ∷ (codes "from", decimal_data b.range.from)
    ∷ (codes "member", name_data b.member)
    ∷ (codes "resolution", decimal_data resolution)
    ∷ (codes "to", decimal_data b.range.to)
    ∷ (codes "way", string (way_word b.way))
    ∷ [])
cast_kind_data resolution cast.AsInstructed =
    object_of
    ((codes "as", string (codes "instructed")) ∷ (codes "resolution", decimal_data resolution) ∷ [])

-- a vote cast on a poll
abbrev pub cast_data : CastMark → Data
cast_data mark = cast_kind_data mark.resolution mark.what

-- the party is present in the session of this number
abbrev pub is_present_in : List ℕ → ℕ → Bool
is_present_in presences number = list_any (λ session. session == number) presences

-- the sessions up to this one in which the party is present, in the order of their numbers
abbrev pub present_up_to : List ℕ → ℕ → List ℕ
present_up_to presences zero = []
present_up_to presences (suc before) =
    if is_present_in presences (suc before)
    then present_up_to presences before ++ (suc before ∷ [])
    else present_up_to presences before

-- the sessions in which the party is present, in the order of their numbers
abbrev pub sessions_present : Mine → List ℕ
sessions_present m = present_up_to m.presences m.session

-- a party's own things
abbrev pub mine_data : Mine → Data
mine_data m = object_of (
    (codes "authorised", array_of authorised_data m.authorised)
    ∷ (codes "casts", array_of cast_data m.casts)
    ∷ (codes "demands", array_of demand_data m.demands)
    ∷ (codes "given", array_of given_data m.given)
    ∷ (codes "meeting", name_data m.meeting)
    ∷ (codes "ok", string (codes "mine"))
    ∷ (codes "persons", array_of person_data m.persons)
    ∷ only_if (is_adjourned m.session)
    (codes "presences", array_of decimal_data (sessions_present m)) (
    (codes "present", boolean (is_present_in m.presences m.session))
    ∷ (codes "received", array_of received_data m.received)
    ∷ (codes "row", or_null row_data m.row)
    ∷ []))

-- what is declared of a poll: its count, and whether the resolution is carried (sections 282 and
-- 283)
abbrev pub declaration_data : Declaration → Data
declaration_data d = object_of (
    (codes "against", decimal_data d.tally.votes_against)
    ∷ (codes "carried", boolean d.carried)
    ∷ (codes "eligible", decimal_data d.tally.eligible)
    ∷ (codes "for", decimal_data d.tally.votes_for)
    ∷ (codes "ok", string (codes "declared"))
    ∷ (codes "withheld", decimal_data d.tally.withheld)
    ∷ [])

-- the refusal's number and its name
abbrev pub refusal_data : Refusal → Data
refusal_data r =
    object_of
    ((codes "code", decimal_data (number_of r)) ∷ (codes "refused", string (name_of r)) ∷ [])

-- what a reply says
abbrev pub reply_data : Reply → Data
reply_data reply.Called = ok_data (codes "called")
reply_data reply.Loaded = ok_data (codes "loaded")
reply_data reply.Same = ok_data (codes "same")
reply_data reply.MeetingOpened = ok_data (codes "opened")
reply_data (reply.Adjourned number) = numbered_ok_data number (codes "adjourned")
reply_data reply.Ordered = ok_data (codes "ordered")
reply_data reply.Started = ok_data (codes "started")
reply_data reply.VotingClosed = ok_data (codes "closed")
reply_data (reply.Declared d) = declaration_data d
reply_data (reply.Notice n) = notice_data n
reply_data (reply.Mine m) = mine_data m
reply_data (reply.Appointed r) = appointed_data r
reply_data (reply.Ended number) = numbered_ok_data number (codes "ended")
reply_data reply.Noted = ok_data (codes "noted")
reply_data reply.Recorded = ok_data (codes "recorded")
reply_data (reply.Refused r) = refusal_data r

-- the text of a reply, with no space between its tokens
abbrev pub reply_bytes : Reply → List ℕ
reply_bytes r = compact_text (reply_data r)

-- a failure's name
abbrev pub failure_word : Failure → List ℕ
failure_word failure.Store = codes "Store"
failure_word failure.Memory = codes "Memory"

-- the word beside `failed`, and nothing else
abbrev pub failure_data : Failure → Data
failure_data f = object_of ((codes "failed", string (failure_word f)) ∷ [])

-- the text of a failure, with no space between its tokens
abbrev pub failure_bytes : Failure → List ℕ
failure_bytes f = compact_text (failure_data f)
