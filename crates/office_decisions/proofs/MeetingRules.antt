-- What the rules of votes and proxies ask of the lists of a meeting.
use Rattle.std.proofs.Common.{◌≡◌, Bool, true, false, ◌||◌, cond, List, length, ap}
use Rattle.std.specs.Cmp.{first_so, second_so}
use Rattle.std.specs.List.{list_all}
use Rattle.std.proofs.lemmas.Bool.{or_right}
use Rattle.desk_words.specs.Registers.{is_register}
use Rattle.desk_words.specs.Sessions.{is_opened, is_session}
use Rattle.seq.specs.Ordered.{differ_by}
use Rattle.desk_words.specs.Office.{implies, no_rows, is_meeting, are_presences, are_rows, same_presence}
use Rattle.desk_words.specs.declared.office.MeetingLists.{MeetingLists}
use Rattle.desk_words.specs.declared.records.Meeting.{Meeting}
use Rattle.desk_words.specs.declared.records.PresenceMark.{PresenceMark}
use Rattle.desk_words.specs.declared.records.RegisterRow.{RegisterRow}
use Rattle.proxy_rules.proofs.TagLemmas.{are_tags-appointments}
use Rattle.proxy_rules.specs.Holdings.{are_tags}
use Rattle.desk_words.proofs.OfficeFacts.{meeting_facts}

register_or_none : (loaded : Bool) (rows : List RegisterRow) → cond loaded (is_register rows) (no_rows rows) ≡ true → are_rows rows ≡ true
register_or_none true rows h = or_right (no_rows rows) (is_register rows) h
register_or_none false rows h = ap (λ b. b || is_register rows) h

-- the rows of a meeting are a register, or none
pub meeting_rows : (m : MeetingLists) → is_meeting m ≡ true → are_rows m.register ≡ true
meeting_rows m h =
    register_or_none m.meeting.loaded m.register
    (first_so (cond m.meeting.loaded (is_register m.register) (no_rows m.register)) (implies (is_opened m.meeting.first) m.meeting.loaded) (meeting_facts m h).loaded)

-- and their numbers are tags
pub meeting_tags : (m : MeetingLists) → is_meeting m ≡ true → are_tags m.appointments ≡ true
meeting_tags m h = are_tags-appointments (length m.meeting.resolutions) m.appointments (meeting_facts m h).appointments

-- nobody is marked present twice in a session
pub present_once : (m : Meeting) (presences : List PresenceMark) → are_presences m presences ≡ true → differ_by same_presence presences ≡ true
present_once m presences h = second_so (list_all (λ (p : PresenceMark). is_session m p.session) presences) (differ_by same_presence presences) h
