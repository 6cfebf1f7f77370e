-- Public records of meetings that are cached.
use Rattle.std.specs.Prelude.{◌≡◌}
use Rattle.desk_words.specs.declared.office.OfficeLists.{OfficeLists}
use Rattle.party_views.specs.Views.{public_of}
use Rattle.desk_deciding.specs.declared.cached.CachedRecord.{CachedRecord}

-- the record is the public record of its meeting
abbrev pub IsRecordOf : OfficeLists → CachedRecord → Type 0
IsRecordOf office cached = cached.public ≡ public_of office cached.meeting
