-- A meeting that is called.
use Rattle.std.proofs.Common.{◌≡◌, ℕ, suc, ◌==◌, Bool, true, false, ◌||◌, List, [], ◌∷◌, ◌++◌, map, Option, Some, None, refl, sym, ap, ◌∙◌, arith, nat_lt}
use Rattle.std.specs.List.{list_any}
use Rattle.std.proofs.lemmas.Bool.Decides.{nat_tests}
use Rattle.std.proofs.lemmas.List.{append-nil}
use Rattle.std.proofs.lemmas.List.Folds.{list_any-append}
use Rattle.seq.specs.Sorting.{insert_by, sort_by}
use Rattle.vocabulary.specs.Names.{same_name}
use Rattle.desk_words.specs.declared.office.MeetingLists.{MeetingLists}
use Rattle.desk_words.specs.declared.office.OfficeLists.{OfficeLists}
use Rattle.desk_words.specs.declared.records.Meeting.{Meeting}
use Rattle.desk_words.specs.declared.records.Resolution.{Resolution}
use Rattle.desk_words.proofs.WordRowLemmas.{same_name-refl}
use Rattle.sql_rows.specs.declared.stored_records.MeetingRow.{MeetingRow}
use Rattle.vocabulary.specs.OptionSteps.{◌>>=◌}
use Rattle.sql_schema.specs.Contents.{without_resolutions}
use Rattle.sql_model.specs.OfficeRecords.{FlatLists, have_meetings, lists_of, lists_of_all, number_before, numbered_from, of_meeting, office_of_records, resolutions_of, further_sessions}
use Rattle.sql_model.proofs.Names.{ListName, list_stored_as}
use Rattle.sql_model.proofs.Names.ListName.{Register, Appointments, Endings, Authorities, Presences, Demands, Polls, Casts}
use Rattle.sql_model.proofs.ModelOfficeLemmas.{AreOf, have_all, office_is, stands_there}
use Rattle.sql_model.proofs.ModelRecordLemmas.{in_meeting, name_turned, of_meeting-append, of_meeting-none, of_meeting-own, stand-append, stand-more, stand-none, stand-own, stands}
use Rattle.desk_words.specs.Changes.{new_lists}
use Rattle.sql_write.specs.Writes.{numbered_on}

-- ---- resolutions that are numbered

next_higher : (n : ℕ) → nat_lt n (suc n) ≡ true
next_higher n = grind (arith, nat_tests)

same_number : (n : ℕ) → (n == n) ≡ true
same_number n = grind (arith, nat_tests)

-- they stand in the order of their numbers
numbered-sorted : (n : ℕ) (rs : List Resolution) → sort_by number_before (numbered_on n rs) ≡ numbered_on n rs
numbered-sorted n [] = refl
numbered-sorted n (r ∷ rest) = rw (numbered-sorted (suc n) rest) (first rest)
  where
    first : (rest : List Resolution) → insert_by number_before (record { number = n; item = r }) (numbered_on (suc n) rest) ≡ record { number = n; item = r } ∷ numbered_on (suc n) rest
    first [] = refl
    first (s ∷ more) = rw (next_higher n) refl

-- and are read in that order
numbered-read : (n : ℕ) (rs : List Resolution) → numbered_from n (numbered_on n rs) ≡ Some rs
numbered-read n [] = refl
numbered-read n (r ∷ rest) = rw (same_number n, numbered-read (suc n) rest) refl

-- ---- the lists of the meetings

one_more : (o : Option MeetingLists) (r s : Option (List MeetingLists)) (lists : List MeetingLists) (x : MeetingLists) → (o >>= λ first. r >>= λ later. Some (first ∷ later)) ≡ Some lists
    → ((later : List MeetingLists) → r ≡ Some later → s ≡ Some (later ++ x ∷ [])) → (o >>= λ first. s >>= λ later. Some (first ∷ later)) ≡ Some (lists ++ x ∷ [])
one_more None r s lists x h next = absurd cc
one_more (Some y) None s lists x h next = absurd cc
one_more (Some y) (Some later) s lists x h next = let are : y ∷ later ≡ lists = cc in rw (next later refl, ← are) refl

all-append : (flat : FlatLists) (rows : List MeetingRow) (m : MeetingRow) (lists : List MeetingLists) (x : MeetingLists) → lists_of_all flat rows ≡ Some lists → lists_of flat m ≡ Some x
    → lists_of_all flat (rows ++ m ∷ []) ≡ Some (lists ++ x ∷ [])
all-append flat [] m lists x h e = let none : [] ≡ lists = cc in rw (e, ← none) refl
all-append flat (n ∷ rows) m lists x h e =
    one_more (lists_of flat n) (lists_of_all flat rows) (lists_of_all flat (rows ++ m ∷ [])) lists x h (λ later known. all-append flat rows m later x known e)

module _ (flat : FlatLists) (meeting : Meeting) where
  -- the records with a meeting more
  abbrev pub with_meeting : FlatLists
  with_meeting = record flat {
    meetings = flat.meetings ++ without_resolutions meeting ∷ [];
    resolutions = flat.resolutions ++ map (in_meeting meeting.id) (numbered_on 1 meeting.resolutions);
  }

  others_same : (rows : List MeetingRow) → stands meeting.id rows ≡ false → lists_of_all with_meeting rows ≡ lists_of_all flat rows
  others_same [] none = refl
  others_same (m ∷ rest) none =
      let apart = neither (same_name m.id meeting.id) (stands meeting.id rest) none in
      let own = of_meeting-append m.id flat.resolutions (map (in_meeting meeting.id) (numbered_on 1 meeting.resolutions))
      ∙ ap (λ l. of_meeting m.id flat.resolutions ++ l) (of_meeting-none meeting.id m.id (numbered_on 1 meeting.resolutions) (name_turned meeting.id m.id ∙ apart.0)) ∙ append-nil (of_meeting m.id flat.resolutions) in
      rw (own, others_same rest apart.1) refl
    where
      neither : (a b : Bool) → (a || b) ≡ false → (a ≡ false) × (b ≡ false)
      neither true b h = absurd cc
      neither false b h = (refl, h)

  module _ (office : OfficeLists) (of : AreOf flat office) (fresh : list_any (λ (x : MeetingLists). same_name x.meeting.id meeting.id) office.meetings ≡ false) (alone : meeting.later ≡ []) where
    none : stands meeting.id flat.meetings ≡ false
    none = sym (stands_there flat office meeting.id of) ∙ fresh

    its_sessions : further_sessions meeting.id flat.sessions ≡ Some []
    its_sessions = ap (λ l. numbered_from 2 (sort_by number_before l)) (stand-none flat.meetings meeting.id flat.sessions of.stand.sessions none)

    now_stands : stands meeting.id (flat.meetings ++ without_resolutions meeting ∷ []) ≡ true
    now_stands = list_any-append (λ (m : MeetingRow). same_name m.id meeting.id) flat.meetings (without_resolutions meeting ∷ []) ∙ rw (none, same_name-refl meeting.id) refl

    its_resolutions : resolutions_of meeting.id with_meeting.resolutions ≡ Some meeting.resolutions
    its_resolutions =
        rw (
          of_meeting-append meeting.id flat.resolutions (map (in_meeting meeting.id) (numbered_on 1 meeting.resolutions)),
          stand-none flat.meetings meeting.id flat.resolutions of.stand.resolutions none,
          of_meeting-own meeting.id (numbered_on 1 meeting.resolutions),
          numbered-sorted 1 meeting.resolutions,
        ) (numbered-read 1 meeting.resolutions)

    no_records : (n : ListName) → of_meeting meeting.id ((list_stored_as n).all flat) ≡ []
    no_records n = stand-none flat.meetings meeting.id ((list_stored_as n).all flat) (of.stand.lists n) none

    its_lists : lists_of with_meeting (without_resolutions meeting) ≡ Some (new_lists meeting)
    its_lists =
        rw (its_sessions, its_resolutions, no_records Register, no_records Appointments, no_records Endings, no_records Authorities, no_records Presences, no_records Demands, no_records Polls, no_records Casts) (ap (λ later. Some (new_lists (record meeting { later = later }))) (sym alone))

    all_stand : have_meetings with_meeting ≡ true
    all_stand =
        let more = without_resolutions meeting ∷ [] in
        have_all with_meeting (record {
          sessions = stand-more flat.meetings more flat.sessions of.stand.sessions;
          resolutions = stand-append with_meeting.meetings flat.resolutions (map (in_meeting meeting.id) (numbered_on 1 meeting.resolutions)) (stand-more flat.meetings more flat.resolutions of.stand.resolutions)
              (stand-own with_meeting.meetings meeting.id (numbered_on 1 meeting.resolutions) now_stands);
          lists = elim [
            | Register ↦ stand-more flat.meetings more ((list_stored_as Register).all flat) (of.stand.lists Register)
            | n ↦ stand-more flat.meetings more ((list_stored_as n).all flat) (of.stand.lists n)
          ];
        })

    -- a meeting of a new name is called, for one session, with its resolutions
    pub meeting_added : office_of_records with_meeting ≡ Some (record office { meetings = office.meetings ++ new_lists meeting ∷ [] })
    meeting_added =
        office_is with_meeting (record office { meetings = office.meetings ++ new_lists meeting ∷ [] }) all_stand
        (all-append with_meeting flat.meetings (without_resolutions meeting) office.meetings (new_lists meeting) (others_same flat.meetings none ∙ of.lists) its_lists)
        of.keys of.closed
