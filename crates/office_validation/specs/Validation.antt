-- The office of some lists. A register is a set of rows, so that its rows may come in any order.
use Rattle.std.specs.Prelude.{Bool, List, map, Option, Some, None, if◌then◌else◌}
use Rattle.seq.specs.Sorting.{sort_by}
use Rattle.desk_words.specs.Office.{are_meetings, is_meeting, is_office, no_rows}
use Rattle.desk_words.specs.Registers.{is_register, member_before}
use Rattle.desk_words.specs.declared.office.MeetingLists.{MeetingLists}
use Rattle.desk_words.specs.declared.office.OfficeLists.{OfficeLists}
use Rattle.desk_words.specs.declared.records.RegisterRow.{RegisterRow}

-- the rows in the order of members (section 113), if they are a register where one is loaded, and
-- none where none is
abbrev pub rows_checked : Bool → List RegisterRow → Option (List RegisterRow)
rows_checked loaded rows =
    let sorted = sort_by member_before rows in
    if (if loaded then is_register sorted else no_rows sorted) then Some sorted else None

-- the lists of a meeting, with its register in the order of members (section 113)
abbrev pub in_order : MeetingLists → MeetingLists
in_order m = record m { register = sort_by member_before m.register }

-- the lists of a meeting, if they are such once the register is in order
abbrev pub meeting_checked : MeetingLists → Option MeetingLists
meeting_checked m = if is_meeting (in_order m) then Some (in_order m) else None

-- the lists of meetings, each register in order, if they are those of the meetings of an office
abbrev pub meetings_of : List MeetingLists → Option (List MeetingLists)
meetings_of ms = if are_meetings (map in_order ms) then Some (map in_order ms) else None

-- the lists, each register in order
abbrev pub office_in_order : OfficeLists → OfficeLists
office_in_order o = record o { meetings = map in_order o.meetings }

-- the office of some lists, if they are the lists of an office once each register is in order
abbrev pub office_checked : OfficeLists → Option OfficeLists
office_checked o = if is_office (office_in_order o) then Some (office_in_order o) else None
