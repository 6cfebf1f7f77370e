-- The votes of some voters on a resolution, and an office without them.
use Rattle.std.specs.Prelude.{◌≡◌, Bool, true, false, ◌&&◌, not, ◌==◌, List, map, filter, option_map, if◌then◌else◌}
use Rattle.std.specs.List.{list_any}
use Rattle.vocabulary.specs.Names.{same_name}
use Rattle.desk_words.specs.Changes.{change_meeting}
use Rattle.desk_words.specs.PollStates.{is_declared}
use Rattle.desk_words.specs.ViewTypes.{MeetingName, Number, Party}
use Rattle.desk_words.specs.declared.caller.Caller.{Caller}
use Rattle.desk_words.specs.declared.caller.Caller.TheVariants as caller
use Rattle.desk_words.specs.declared.office.MeetingLists.{MeetingLists}
use Rattle.desk_words.specs.declared.office.OfficeLists.{OfficeLists}
use Rattle.desk_words.specs.declared.records.CastMark.{CastMark}
use Rattle.desk_words.specs.declared.records.Poll.{Poll}
use Rattle.desk_words.specs.declared.records.Tally.{Tally}
use Rattle.desk_words.specs.declared.reply.Reply.{Reply}
use Rattle.desk_words.specs.declared.reply.Reply.TheVariants as reply
use Rattle.desk_words.specs.declared.request.Call.{Call}
use Rattle.desk_words.specs.declared.request.PartyRequest.{PartyRequest}
use Rattle.desk_words.specs.declared.request.PartyRequest.TheVariants.{Cast, Instructed}
use Rattle.desk_words.specs.declared.request.Request.{Request}
use Rattle.desk_words.specs.declared.request.Request.TheVariants as asked
use Rattle.party_views.specs.Views.{public_of}
use Rattle.laws_step.specs.Secrecy.{declares}

-- what is secret: the votes of some voters, by a test of their names, on a resolution of a meeting
pub record Secret : Type 0 where
  pub voters : Party → Bool
  pub meeting : MeetingName
  pub resolution : Number

-- everybody is among the voters
abbrev pub all_parties : Party → Bool
all_parties party = true

-- everybody but a party is
abbrev pub all_but : Party → Party → Bool
all_but party other = not (same_name other party)

-- ---- in an office

-- the vote is one of these
abbrev pub is_secret_cast : Secret → CastMark → Bool
is_secret_cast secret c = c.resolution == secret.resolution && secret.voters c.voter

-- a count of nothing
abbrev pub no_tally : Tally
no_tally = record { votes_for = 0; votes_against = 0; withheld = 0; eligible = 0 }

-- a poll without its count, where it is declared
abbrev pub without_count : Poll → Poll
without_count p = record p { declared = option_map (λ (tally : Tally). no_tally) p.declared }

-- a poll, and where it is on the resolution, without its count
abbrev pub uncounted : Number → Poll → Poll
uncounted resolution p = if p.resolution == resolution then without_count p else p

-- a meeting without the secret votes, and without what was counted on the resolution
abbrev pub hidden_in : Secret → MeetingLists → MeetingLists
hidden_in secret m = record m {
  polls = map (uncounted secret.resolution) m.polls;
  casts = filter (λ (c : CastMark). not (is_secret_cast secret c)) m.casts;
}

-- an office without them
abbrev pub office_without : Secret → OfficeLists → OfficeLists
office_without secret office = change_meeting (hidden_in secret) secret.meeting office

-- two offices are the same but for the secret votes and, where both have declared the resolution,
-- but for its count
abbrev pub AreSameBut : Secret → OfficeLists → OfficeLists → Type 0
AreSameBut secret one other = office_without secret one ≡ office_without secret other

-- the poll is on the resolution, and is declared
abbrev pub is_declared_on : Number → Poll → Bool
is_declared_on resolution p = p.resolution == resolution && is_declared p

-- the resolution is declared in an office
abbrev pub is_declared_in : Secret → OfficeLists → Bool
is_declared_in secret office =
    list_any (is_declared_on secret.resolution) (public_of office secret.meeting).polls

-- ---- in calls and replies

-- it is a vote on the resolution
abbrev pub is_vote_request : Number → PartyRequest → Bool
is_vote_request resolution (Cast new) = new.resolution == resolution
is_vote_request resolution (Instructed other) = other == resolution
is_vote_request resolution other = false

-- it is a vote on the resolution of the meeting
abbrev pub is_vote_in : MeetingName → Number → Request → Bool
is_vote_in meeting resolution (asked.Party at what) =
    same_name at meeting && is_vote_request resolution what
is_vote_in meeting resolution other = false

-- one of the voters calls
abbrev pub is_voter : (Party → Bool) → Caller → Bool
is_voter voters caller.Office = false
is_voter voters (caller.Party party) = voters party

-- a party that is none of them calls
abbrev pub is_other_party : (Party → Bool) → Caller → Bool
is_other_party voters caller.Office = false
is_other_party voters (caller.Party party) = not (voters party)

-- the office calls
abbrev pub is_the_office : Caller → Bool
is_the_office caller.Office = true
is_the_office (caller.Party party) = false

-- the call is one of the secret votes
abbrev pub is_secret_call : Secret → Call → Bool
is_secret_call secret call =
    is_voter secret.voters call.caller && is_vote_in secret.meeting secret.resolution call.request

-- the calls without those that pass a test
abbrev pub without : (Call → Bool) → List Call → List Call
without test calls = filter (λ (call : Call). not (test call)) calls

-- it asks for the declaration of the resolution of the meeting
abbrev pub declares_in : MeetingName → Number → Request → Bool
declares_in meeting resolution (asked.Office at what) =
    same_name at meeting && declares resolution what
declares_in meeting resolution other = false

-- a reply that declares a result, without the count and whether the resolution is carried
abbrev pub without_result : Reply → Reply
without_result (reply.Declared result) =
    reply.Declared (record { tally = no_tally; carried = false })
without_result other = other

-- what is replied to a request, but for the result where the resolution is declared by it
abbrev pub but_result : Secret → Request → Reply → Reply
but_result secret request returned =
    if declares_in secret.meeting secret.resolution request then without_result returned
    else returned
