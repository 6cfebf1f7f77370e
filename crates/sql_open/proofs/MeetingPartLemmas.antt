-- Where a part of a meeting is not right, the meeting is not.
use Rattle.std.proofs.Common.{◌≡◌, false, ◌&&◌, List, Some, sym, ap, subst, ◌∙◌, true≢false}
use Rattle.sqlite.specs.Tree.{Trees}
use Rattle.seq.specs.Ordered.{ascends_by}
use Rattle.vocabulary.specs.OptionSteps.{◌>>=◌}
use Rattle.desk_words.specs.Office.{are_rows, is_meeting, poll_before}
use Rattle.desk_words.specs.SortedLists.{are_resolutions}
use Rattle.desk_words.specs.declared.office.MeetingLists.{MeetingLists}
use Rattle.desk_words.specs.declared.records.DemandMark.{DemandMark}
use Rattle.desk_words.specs.declared.records.Poll.{Poll}
use Rattle.desk_words.specs.declared.records.PresenceMark.{PresenceMark}
use Rattle.desk_words.specs.declared.records.RegisterRow.{RegisterRow}
use Rattle.desk_words.specs.declared.records.Resolution.{Resolution}
use Rattle.desk_words.specs.declared.records.Session.{Session}
use Rattle.sql_rows.specs.declared.stored_records.MeetingRow.{MeetingRow}
use Rattle.sql_rows.proofs.RowMeaningLemmas.{bound}
use Rattle.sql_model.specs.OfficeRecords.{whole_meeting}
use Rattle.sql_model.proofs.FlatChanges.{some_is}
use Rattle.sql_open.specs.MeetingReading.{are_called, are_polled, given_in, lists_of_parts, polled_in, register_in, resolutions_in}
use Rattle.sql_load.specs.OwnLists.{are_few}
use Rattle.sql_open.specs.declared.meeting_lists.Called.{Called}
use Rattle.sql_open.specs.declared.meeting_lists.Given.{Given}
use Rattle.sql_open.specs.declared.meeting_lists.Polled.{Polled}
use Rattle.sql_load.proofs.AssembledListLemmas.{called_right, polls_right, second_false, wrong_meeting}

abbrev pub called_as : MeetingRow → List Session → List Resolution → List RegisterRow → Called
called_as row later resolutions rows = record { meeting = whole_meeting row later resolutions; register = rows }

abbrev pub polled_as : List PresenceMark → List DemandMark → List Poll → Polled
polled_as presences demands polls = record { presences = presences; demands = demands; polls = polls }

-- its further sessions
pub few_lead : (row : MeetingRow) (later : List Session) (trees : Trees) → are_few later ≡ false → (c : Called) → (resolutions_in row.id trees >>= λ resolutions. register_in row.id trees >>= λ rows. Some (called_as row later resolutions rows)) ≡ Some c → are_called c ≡ false
few_lead row later trees wrong c h =
    let resolutions = bound (resolutions_in row.id trees) _ c h in
    let rows = bound (register_in row.id trees) _ c resolutions.2 in
    subst (λ x. are_called x ≡ false) (some_is rows.2) (ap (λ b. b && are_resolutions resolutions.0 && are_rows rows.0) wrong)

-- its resolutions
pub resolutions_lead : (row : MeetingRow) (later : List Session) (resolutions : List Resolution) (trees : Trees) → are_resolutions resolutions ≡ false → (c : Called) → (register_in row.id trees >>= λ rows. Some (called_as row later resolutions rows)) ≡ Some c → are_called c ≡ false
resolutions_lead row later resolutions trees wrong c h =
    let rows = bound (register_in row.id trees) _ c h in
    subst (λ x. are_called x ≡ false) (some_is rows.2) (ap (λ b. b && are_rows rows.0) (second_false (are_few later) (are_resolutions resolutions) wrong))

-- its register
pub rows_lead : (row : MeetingRow) (later : List Session) (resolutions : List Resolution) (rows : List RegisterRow) (trees : Trees) → are_rows rows ≡ false → (c : Called) → Some (called_as row later resolutions rows) ≡ Some c → are_called c ≡ false
rows_lead row later resolutions rows trees wrong c h =
    subst (λ x. are_called x ≡ false) (some_is h) (second_false (are_few later && are_resolutions resolutions) (are_rows rows) wrong)

-- its polls
pub polls_lead : (presences : List PresenceMark) (demands : List DemandMark) (polls : List Poll) (trees : Trees) → ascends_by poll_before polls ≡ false → (p : Polled) → Some (polled_as presences demands polls) ≡ Some p → are_polled p ≡ false
polls_lead presences demands polls trees wrong p h = subst (λ x. are_polled x ≡ false) (some_is h) wrong

-- so what it is called with
pub called_lead : (row : MeetingRow) (c : Called) (trees : Trees) → are_called c ≡ false → (m : MeetingLists) → (given_in row.id trees >>= λ given. polled_in row.id trees >>= λ polled. Some (lists_of_parts c given polled)) ≡ Some m → is_meeting m ≡ false
called_lead row c trees wrong m h =
    let given = bound (given_in row.id trees) _ m h in
    let polled = bound (polled_in row.id trees) _ m given.2 in
    let lists = lists_of_parts c given.0 polled.0 in
    subst (λ x. is_meeting x ≡ false) (some_is polled.2) (wrong_meeting lists λ good. true≢false (sym (called_right lists good) ∙ wrong))

-- and what is polled in it
pub polled_lead : (c : Called) (given : Given) (polled : Polled) (trees : Trees) → are_polled polled ≡ false → (m : MeetingLists) → Some (lists_of_parts c given polled) ≡ Some m → is_meeting m ≡ false
polled_lead c given polled trees wrong m h =
    let lists = lists_of_parts c given polled in
    subst (λ x. is_meeting x ≡ false) (some_is h) (wrong_meeting lists λ good. true≢false (sym (polls_right lists good) ∙ wrong))
