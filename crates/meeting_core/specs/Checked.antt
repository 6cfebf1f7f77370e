-- What is read of a meeting, put in order. For private contracts.
use Rattle.std.specs.Prelude.{if◌then◌else◌}
use Rattle.desk_words.specs.declared.office.MeetingLists.{MeetingLists}
use Rattle.desk_words.specs.declared.request.OfficeRequest.{OfficeRequest}
use Rattle.office_decisions.specs.ListsRead.{reads_register}
use Rattle.office_validation.specs.Validation.{in_order}

-- the lists, with the register in the order of members where the request reads it
abbrev pub in_order_for : OfficeRequest → MeetingLists → MeetingLists
in_order_for what m = if reads_register what then in_order m else m
