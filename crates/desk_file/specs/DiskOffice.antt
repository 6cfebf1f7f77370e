-- A desk in a file, as an office.
use Rattle.std.specs.Prelude.{◌≡◌, ◌↔◌, IsTrue}
use Rattle.any_office.specs.declared.Office as office
use Rattle.desk_file.specs.declared.disk.DiskDesk.{DiskDesk}
use Rattle.desk_words.specs.declared.office.OfficeLists.{OfficeLists}
use Rattle.sql_model.specs.Standing.{Stands}
use Rattle.sqlite.specs.Held.{state}
use Rattle.sqlite.specs.State.{HasCleanDisk}
use Rattle.sqlite_trees.specs.declared.store.Store as store

-- it stores the office for which its tables stand; it is reliable while its disk returned what was
-- written, and open while its store is; and it counts the faults of its store
pub record IsItsTables {S : Type 0} (g : store.Ghosts S) (d : office.Ghosts (DiskDesk S))
    : Type 0 where
  pub stands : (disk : DiskDesk S) (office : OfficeLists)
      → d.stands disk office ↔ Stands (state g disk.desk) office
  pub is_reliable : (disk : DiskDesk S) → d.is_reliable disk ↔ HasCleanDisk (state g disk.desk)
  pub is_open : (disk : DiskDesk S) → d.is_open disk ↔ IsTrue (state g disk.desk).is_open
  pub faults : (disk : DiskDesk S) → d.faults disk ≡ (state g disk.desk).faults
