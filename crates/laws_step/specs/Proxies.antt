-- Which proxy a vote is ruled by: what own things show a proxy for a poll, late or not, is what the
-- rules give it.
use Rattle.std.specs.Prelude.{◌≡◌, Bool, true, false, not, ◌&&◌, nat_le, nat_lt, List, Option, Some, is_some}
use Rattle.std.specs.List.{list_any}
use Rattle.std.specs.Option.{option_map_or}
use Rattle.vocabulary.specs.Places.{is_range, places_that}
use Rattle.vocabulary.specs.declared.kinds.Capacity.TheVariants.{Proxy}
use Rattle.desk_words.specs.Finding.{poll_on}
use Rattle.desk_words.specs.Office.{is_meeting}
use Rattle.desk_words.specs.ViewTypes.{Day, Moment, Number, Party, Place}
use Rattle.desk_words.specs.Sessions.{last_number}
use Rattle.desk_words.specs.declared.office.MeetingLists.{MeetingLists}
use Rattle.desk_words.specs.declared.records.Appointment.{Appointment}
use Rattle.desk_words.specs.declared.records.RegisterRow.{RegisterRow}
use Rattle.desk_words.specs.declared.request.NewCast.{NewCast}
use Rattle.proxy_rules.specs.Cutoffs.{cutoffs_of}
use Rattle.proxy_rules.specs.Governing.{governing_in}
use Rattle.proxy_rules.specs.Holdings.{holding_by, holding_of}
use Rattle.proxy_rules.specs.Instructions.{allows, instructed_on}
use Rattle.proxy_rules.specs.Parties.{names}
use Rattle.proxy_rules.specs.Uses.{Use, vote_on}
use Rattle.proxy_rules.specs.declared.meeting_records.Cutoffs.{Cutoffs}
use Rattle.caller_view.specs.CastRulings.{use_on}
use Rattle.caller_view.specs.Rights.{governed_for, is_against, is_governed, is_uninstructed}
use Rattle.party_views.specs.Views.{own_in, public_in}

-- the use of appointments for votes on a resolution, as the public record of the meeting shows
-- (section 327)
abbrev pub use_in : MeetingLists → List Day → Number → Use
use_in m closed resolution = use_on (public_in (Some m) closed) m.meeting resolution

-- until when appointments and endings count for the poll on a resolution, late or not (sections 327
-- and 330)
abbrev pub cutoffs_on : MeetingLists → List Day → Moment → Number → Cutoffs
cutoffs_on m closed now resolution =
    cutoffs_of m.meeting (vote_on (last_number m.meeting) (poll_on m.polls resolution)) closed now

-- the appointment that governs a share of the member for the poll of a vote, by what the meeting
-- keeps of the member (section 324)
abbrev pub governing_for : MeetingLists → List Day → Moment → NewCast → Place → Option Appointment
governing_for m closed now new place =
    governing_in (cutoffs_on m closed now new.resolution)
    (holding_of m.register m.appointments m.endings new.member) place

-- the appointment names the party, and instructs it otherwise than it votes (section 324A)
abbrev pub binds_otherwise : Party → NewCast → Appointment → Bool
binds_otherwise party new a =
    names party a && not (allows (instructed_on new.resolution a.instructions) new.way)

-- some place from the first to the last passes a test
abbrev pub some_pass : (Place → Bool) → Place → Place → Bool
some_pass test from to = nat_lt 0 (places_that (λ place. nat_le from place && test place) to)

-- the party governs a member's share for the poll of a vote, as is read from its own things
abbrev pub governs_by_own_things : MeetingLists → List Day → Party → Moment → NewCast → Place → Bool
governs_by_own_things m closed party now new place =
    let governs = governed_for closed (use_in m closed new.resolution) in
    is_governed (own_in m closed party now).received governs new place

-- a party governs a member's share for the poll of a vote, as is read from its own things, exactly
-- where the appointment that governs the share by the rules names the party (sections 324 and 327)
abbrev pub ProxiesGovernByTheRules : Type 0
ProxiesGovernByTheRules =
    (m : MeetingLists) (closed : List Day) (party : Party) (now : Moment) (new : NewCast)
    (place : Place) → is_meeting m ≡ true
    → governs_by_own_things m closed party now new place
    ≡ option_map_or (names party) (governing_for m closed now new place) false

-- a vote as proxy on a range is against an instruction, as is read from the party's own things,
-- exactly where some share of the range is governed by the rules by an appointment that names the
-- party and instructs it otherwise (section 324A)
abbrev pub InstructionsBindByTheRules : Type 0
InstructionsBindByTheRules =
    (m : MeetingLists) (closed : List Day) (party : Party) (now : Moment) (new : NewCast)
    → is_meeting m ≡ true → is_range new.from new.to ≡ true
    → is_against (own_in m closed party now) (governed_for closed (use_in m closed new.resolution))
    new Proxy
    ≡ some_pass
    (λ place. option_map_or (binds_otherwise party new) (governing_for m closed now new place)
    false)
    new.from new.to

-- the appointment names the party, and instructs it on the resolution (section 324A)
abbrev pub instructs_it : Party → Number → Appointment → Bool
instructs_it party resolution a =
    names party a && is_some (instructed_on resolution a.instructions)

-- some share of a row is governed, for the poll on a resolution, by an appointment that names the
-- party and instructs it (sections 324 and 324A)
abbrev pub is_instructed_in : MeetingLists → List Day → Moment → Party → Number → RegisterRow → Bool
is_instructed_in m closed now party resolution row =
    let holding = holding_by m.appointments m.endings row in nat_lt 0
    (places_that
    (λ place. option_map_or (instructs_it party resolution)
    (governing_in (cutoffs_on m closed now resolution) holding place) false)
    holding.shares)

-- a party governs no share on which it is instructed, as is read from its own things, exactly where
-- no row of the register has such a share by the rules (section 324A)
abbrev pub InstructedByTheRules : Type 0
InstructedByTheRules =
    (m : MeetingLists) (closed : List Day) (party : Party) (now : Moment) (resolution : Number)
    → is_meeting m ≡ true
    → is_uninstructed (own_in m closed party now) (governed_for closed (use_in m closed resolution))
    resolution
    ≡ not (list_any (is_instructed_in m closed now party resolution) m.register)
