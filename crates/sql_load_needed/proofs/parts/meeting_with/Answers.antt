use Rattle.std.proofs.Common.{◌≡◌, List, Some, ap, length, sym, ◌∙◌}
use Rattle.std.specs.Prelude.{Option}
use Rattle.desk_words.specs.declared.records.Poll.{Poll}
use Rattle.sql_load.specs.MeetingRecords.{AreOnItsResolutions, are_on}
use Rattle.sql_load.proofs.StoredOfficeLemmas.{holds_so}
use Rattle.party_views.specs.Views.{meeting_at}
use Rattle.desk_words.specs.declared.office.MeetingLists.{MeetingLists}
use Rattle.sql_load_needed.proofs.LoadedMeetingPartLemmas.{with_these}
use Rattle.sql_load_needed.proofs.parts.meeting_with.Goals as goal

-- they are seen in the order in which they stand
seen : (polls slice : List Poll) → slice ≡ polls → (found : Option MeetingLists) → AreOnItsResolutions found polls → AreOnItsResolutions found slice
seen polls slice is found on m there = ap (are_on (length m.meeting.resolutions)) is ∙ on m there

pub returns-in_default-clause-holds : goal.returns-in_default-clause-holds
returns-in_default-clause-holds g c =
    holds_so g.S.Store _ _ _ _ c.in_ok-found.field-0 _ c.in_ok-found.ensures.holds
    (λ office preserved p on. with_these c.args.on c.args.polls (meeting_at office c.args.meeting) _ (sym c.in_default.is ∙ p (seen c.args.polls c.as_slice.result.now c.as_slice.ensures (meeting_at office c.args.meeting) on)))

pub returns-clause-holds : goal.returns-clause-holds
returns-clause-holds g c =
    holds_so g.S.Store _ _ _ _ c.in_ok-found.field-0 _ c.in_ok-found.ensures.holds
    (λ office preserved p on. ap (λ (m : MeetingLists). Some m) c.with_polls.ensures ∙ with_these c.args.on c.args.polls (meeting_at office c.args.meeting) _ (sym c.in-Some.is ∙ p (seen c.args.polls c.as_slice.result.now c.as_slice.ensures (meeting_at office c.args.meeting) on)))
