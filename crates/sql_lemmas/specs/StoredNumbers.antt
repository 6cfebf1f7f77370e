-- The numbers of an office are kept.
use Rattle.std.specs.Prelude.{ℕ, ◌^◌, Bool, true, ◌&&◌, nat_lt, length, Option, Some, None, IsTrue}
use Rattle.std.specs.List.{list_all}
use Rattle.desk_words.specs.declared.office.MeetingLists.{MeetingLists}
use Rattle.desk_words.specs.declared.records.RegisterRow.{RegisterRow}
use Rattle.desk_words.specs.declared.records.Appointment.{Appointment}
use Rattle.desk_words.specs.declared.records.Ending.{Ending}
use Rattle.desk_words.specs.declared.records.DemandMark.{DemandMark}
use Rattle.desk_words.specs.declared.records.PresenceMark.{PresenceMark}
use Rattle.desk_words.specs.declared.records.Poll.{Poll}
use Rattle.desk_words.specs.declared.records.Tally.{Tally}
use Rattle.desk_words.specs.declared.records.CastMark.{CastMark}
use Rattle.desk_words.specs.Office.{is_meeting}
use Rattle.desk_words.specs.Sessions.{last_number}

-- the number is at most 2^63 - 1, the highest that is kept
abbrev pub fits_row : ℕ → Bool
fits_row n = nat_lt n (2 ^ 63)

-- each figure of what is declared is kept
abbrev pub tally_fits : Option Tally → Bool
tally_fits None = true
tally_fits (Some t) =
    fits_row t.votes_for && fits_row t.votes_against && fits_row t.withheld && fits_row t.eligible

-- each number of the records of a meeting is kept
pub record NumbersFit (m : MeetingLists) : Type 0 where
  pub resolutions : IsTrue (fits_row (length m.meeting.resolutions))
  pub register : IsTrue
      (list_all (λ (row : RegisterRow). fits_row row.shares && fits_row row.paid) m.register)
  pub appointments : IsTrue (list_all (λ (a : Appointment). fits_row a.number) m.appointments)
  pub endings : IsTrue (list_all (λ (e : Ending). fits_row e.number) m.endings)
  pub sessions : IsTrue (fits_row (last_number m.meeting))
  pub presences : IsTrue (list_all (λ (p : PresenceMark). fits_row p.session) m.presences)
  pub demands : IsTrue
      (list_all (λ (d : DemandMark). fits_row d.session && fits_row d.resolution) m.demands)
  pub polls : IsTrue
      (list_all
      (λ (p : Poll). fits_row p.session && fits_row p.resolution && tally_fits p.declared)
      m.polls)
  pub casts : IsTrue (list_all (λ (c : CastMark). fits_row c.resolution) m.casts)

-- each number of the records of an office is kept
abbrev pub OfficesFit : Type 0
OfficesFit = (m : MeetingLists) → IsTrue (is_meeting m) → NumbersFit m
