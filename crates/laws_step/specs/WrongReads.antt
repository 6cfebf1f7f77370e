-- A wrong reading of own things, and a vote that is answered otherwise by what it reads.
use Rattle.std.specs.Prelude.{◌≡◌, IsTrue, [], Some, None}
use Rattle.desk_words.specs.Office.{is_meeting}
use Rattle.desk_words.specs.ViewTypes.{Party}
use Rattle.desk_words.specs.declared.office.MeetingLists.{MeetingLists}
use Rattle.desk_words.specs.declared.request.PartyRequest.{PartyRequest}
use Rattle.party_views.specs.RowsRead.{own_read}
use Rattle.party_views.specs.Views.{own_in, public_in}
use Rattle.laws_step.specs.PartyReads.{Reading, answered}

-- the party's own holding is not read
abbrev pub reads_no_row : Reading
reads_no_row asked own = record (own_read asked own) { row = None }

-- a party is answered otherwise from what is read of its own things in a meeting than from all
pub record ReadsTooLittle (reading : Reading) (m : MeetingLists) (party : Party)
    (asked : PartyRequest) : Type 0 where
  pub is_one : IsTrue (is_meeting m)
  pub apart : answered (public_in (Some m) []) (reading asked (own_in m [] party 0)) 0 asked
      ≡ answered (public_in (Some m) []) (own_in m [] party 0) 0 asked → ⊥
