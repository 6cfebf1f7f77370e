-- On which shares a party may vote on a poll, and how, by its own things (sections 284, 322, 323,
-- 324 and 324A).
use Rattle.std.specs.Prelude.{◌≡◌, ℕ, Bool, true, false, not, ◌&&◌, ◌==◌, nat_le, nat_lt, List, [], ◌∷◌, find, Option, Some, None, is_some, if◌then◌else◌}
use Rattle.std.specs.List.{list_any}
use Rattle.std.specs.Option.{option_map_or}
use Rattle.desk_words.specs.Names.{same_name}
use Rattle.desk_words.specs.Places.{Places, holds, places_that}
use Rattle.desk_words.specs.ViewTypes.{Day, Number, Party, Place, SessionNumber}
use Rattle.vocabulary.specs.declared.kinds.Capacity.{Capacity}
use Rattle.vocabulary.specs.declared.kinds.Capacity.TheVariants.{Member, Rep, Proxy}
use Rattle.desk_words.specs.declared.own_things.Authorised.{Authorised}
use Rattle.desk_words.specs.declared.own_things.PollGoverned.{PollGoverned}
use Rattle.desk_words.specs.declared.own_things.Received.{Received}
use Rattle.desk_words.specs.declared.own_things.SessionGoverned.{SessionGoverned}
use Rattle.desk_words.specs.declared.records.Poll.{Poll}
use Rattle.desk_words.specs.declared.records.RegisterRow.{RegisterRow}
use Rattle.desk_words.specs.declared.request.NewCast.{NewCast}
use Rattle.proxy_rules.specs.Cutoffs.{is_late_poll}
use Rattle.proxy_rules.specs.Instructions.{allows, instructed_on}
use Rattle.proxy_rules.specs.Uses.{Use, Acts, Votes, Vote}
use Rattle.party_views.specs.OwnViews.{holds_as_individual}
use Rattle.party_views.specs.SessionLists.{at_session}
use Rattle.party_views.specs.declared.views.OwnView.{OwnView}

-- there is no run
abbrev pub no_runs : List Places → Bool
no_runs [] = true
no_runs (run ∷ runs) = false

-- the shares for which the party may act of a corporation that authorised it, 0 where none of that
-- name did or it is no corporation of the register (section 323)
abbrev pub represented : List Authorised → Party → ℕ
represented authorised member =
    option_map_or (λ (a : Authorised). a.shares)
    (find (λ (a : Authorised). same_name a.corporation member) authorised) 0

-- the runs for the late poll on a resolution
abbrev pub governed_late : List PollGoverned → Number → List Places
governed_late polls resolution =
    option_map_or (λ (p : PollGoverned). p.governs)
    (find (λ (p : PollGoverned). p.resolution == resolution) polls) []

-- what each appointment governs for a use, as its proxy knows it
abbrev pub Governs : Type 0
Governs = Received → List Places

-- for the quorum and the demands of a session
abbrev pub governed_acts : SessionNumber → Governs
governed_acts session r =
    option_map_or (λ (s : SessionGoverned). s.acts) (at_session r.sessions session) []

-- for votes in a session, on its polls that are not late
abbrev pub governed_votes : SessionNumber → Governs
governed_votes session r =
    option_map_or (λ (s : SessionGoverned). s.votes) (at_session r.sessions session) []

-- for votes on a poll: where it is late, for that poll, and else for votes in its session (section
-- 327)
abbrev pub governed_at_poll : Bool → Poll → Governs
governed_at_poll late poll r =
    if late then governed_late r.polls poll.resolution else governed_votes poll.session r

-- for each use
abbrev pub governed_for : List Day → Use → Governs
governed_for closed (Acts session) = governed_acts session
governed_for closed (Votes session) = governed_votes session
governed_for closed (Vote poll) = governed_at_poll (is_late_poll closed poll) poll

-- the party may vote for the member in the capacity: as the member itself where it holds shares as
-- an individual, as a representative of a corporation of the register that authorised it; of a
-- proxy only the places are asked (sections 284, 323 and 324)
abbrev pub may_vote_for : OwnView → Party → Capacity → Bool
may_vote_for own member Member = same_name member own.party && holds_as_individual own.row
may_vote_for own member Rep = nat_lt 0 (represented own.authorised member)
may_vote_for own member Proxy = true

-- the appointment is the member's, and governs the place for the use (section 324)
abbrev pub governs_at : Governs → NewCast → Place → Received → Bool
governs_at governs new place r =
    same_name r.member new.member
    && list_any (λ (run : Places). holds run place) (governs r)

-- the party governs the place of the member's for the use (section 324)
abbrev pub is_governed : List Received → Governs → NewCast → Place → Bool
is_governed received governs new place =
    list_any (governs_at governs new place) received

-- some place from the first to the last fails a test
abbrev pub some_fail : (Place → Bool) → Place → Place → Bool
some_fail test from to = nat_lt 0 (places_that (λ place. nat_le from place && not (test place)) to)

-- a place is past the party's holding
abbrev pub is_past : Option RegisterRow → Place → Bool
is_past None place = false
is_past (Some row) place = nat_lt row.shares place

-- some place is not the party's to vote on in the capacity: it is past the holding, or, for a
-- proxy, the party does not govern it for the use (sections 284, 323 and 324)
abbrev pub is_not_own : OwnView → Governs → NewCast → Capacity → Bool
is_not_own own governs new Member = is_past own.row new.to
is_not_own own governs new Rep = nat_lt (represented own.authorised new.member) new.to
is_not_own own governs new Proxy =
    some_fail (is_governed own.received governs new) new.from new.to

-- a run has a place from the first to the last
abbrev pub meets : Place → Place → Places → Bool
meets from to run = nat_le run.from to && nat_le from run.to

-- the appointment is the member's, governs some of the places for the use, and instructs otherwise
-- (section 324A)
abbrev pub forbids : Governs → NewCast → Received → Bool
forbids governs new r =
    same_name r.member new.member
    && not (allows (instructed_on new.resolution r.instructions) new.way)
    && list_any (meets new.from new.to) (governs r)

-- cast as proxy, against an instruction of an appointment that governs some of the places (section
-- 324A)
abbrev pub is_against : OwnView → Governs → NewCast → Capacity → Bool
is_against own governs new Member = false
is_against own governs new Rep = false
is_against own governs new Proxy = list_any (forbids governs new) own.received

-- the appointment governs a share for the use, and instructs its proxy on the resolution (section
-- 324A)
abbrev pub instructs : Governs → Number → Received → Bool
instructs governs resolution r =
    is_some (instructed_on resolution r.instructions)
    && not (no_runs (governs r))

-- the party governs no share for the use on which it is instructed (section 324A)
abbrev pub is_uninstructed : OwnView → Governs → Number → Bool
is_uninstructed own governs resolution =
    not (list_any (instructs governs resolution) own.received)

-- a run that has the place, each place of which the party governs for the use
pub record IsRunAt (received : List Received) (governs : Governs) (new : NewCast) (place : Place)
    (run : Places) : Type 0 where
  pub there : holds run place ≡ true
  pub governed : (other : ℕ) → holds run other ≡ true
      → is_governed received governs new other ≡ true
