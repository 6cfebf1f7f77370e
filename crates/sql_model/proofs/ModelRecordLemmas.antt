-- The records of a meeting among those of all meetings, after a change of these.
use Rattle.std.proofs.Common.{◌≡◌, inl, inr, ℕ, Bool, true, false, not, ◌&&◌, if◌then◌else◌, List, [], ◌∷◌, ◌++◌, map, filter, refl, sym, ap, subst, ◌∙◌, true≢false}
use Rattle.std.specs.List.{list_any}
use Rattle.std.proofs.lemmas.Bool.{cases_Bool}
use Rattle.std.proofs.lemmas.List.{append-nil, map-append}
use Rattle.std.proofs.lemmas.List.Elements.{filter-append}
use Rattle.std.proofs.lemmas.List.Folds.{list_any-append}
use Rattle.vocabulary.specs.Names.{same_name}
use Rattle.desk_words.proofs.WordRowLemmas.{same_name-true, same_name-refl}
use Rattle.sql_rows.specs.declared.stored_records.InMeeting.{InMeeting}
use Rattle.sql_rows.specs.declared.stored_records.MeetingRow.{MeetingRow}
use Rattle.sql_model.specs.OfficeRecords.{of_meeting, name_meetings}
use Rattle.std.proofs.lemmas.Bool.{and_parts}
use Rattle.sql_model.proofs.ModelListLemmas.{any-map}

-- both names are the same, whichever comes first
pub name_turned : (a b : List ℕ) → same_name a b ≡ same_name b a
name_turned a b = elim (cases_Bool (same_name a b)) [
  | inl is ↦ is ∙ sym (subst (λ x. same_name x a ≡ true) (same_name-true a b is) (same_name-refl a))
  | inr other ↦ elim (cases_Bool (same_name b a)) [
    | inl is ↦ absurd (true≢false (sym (subst (λ x. same_name x b ≡ true) (same_name-true b a is) (same_name-refl b)) ∙ other))
    | inr none ↦ other ∙ sym none
  ]
]

-- a name that is the same as one of two that differ is not the same as the other
pub name_apart : (a b c : List ℕ) → same_name a b ≡ true → same_name b c ≡ false → same_name a c ≡ false
name_apart a b c is apart = ap (λ x. same_name x c) (same_name-true a b is) ∙ apart

-- ---- the records of a meeting

module _ {A : Type 0} where
  -- a record of a meeting
  abbrev pub in_meeting : List ℕ → A → InMeeting A
  in_meeting id item = record { meeting = id; item = item }

  -- the meeting of a record is not that of a name
  abbrev pub is_other : List ℕ → InMeeting A → Bool
  is_other id r = not (same_name r.meeting id)

  pub of_meeting-append : (id : List ℕ) (xs ys : List (InMeeting A)) → of_meeting id (xs ++ ys) ≡ of_meeting id xs ++ of_meeting id ys
  of_meeting-append id xs ys =
      ap (map (λ (r : InMeeting A). r.item)) (filter-append (λ (r : InMeeting A). same_name r.meeting id) xs ys)
      ∙ map-append (λ (r : InMeeting A). r.item) (filter (λ (r : InMeeting A). same_name r.meeting id) xs) (filter (λ (r : InMeeting A). same_name r.meeting id) ys)

  -- of records of one meeting its own are all
  pub of_meeting-own : (id : List ℕ) (items : List A) → of_meeting id (map (in_meeting id) items) ≡ items
  of_meeting-own id [] = refl
  of_meeting-own id (x ∷ items) = rw (same_name-refl id) (ap (λ l. x ∷ l) (of_meeting-own id items))

  -- and another's are none
  pub of_meeting-none : (id other : List ℕ) (items : List A) → same_name id other ≡ false → of_meeting other (map (in_meeting id) items) ≡ []
  of_meeting-none id other [] apart = refl
  of_meeting-none id other (x ∷ items) apart = rw apart (of_meeting-none id other items apart)

  -- where those of a meeting are taken out, none of its own is left
  pub of_meeting-emptied : (id : List ℕ) (records : List (InMeeting A)) → of_meeting id (filter (is_other id) records) ≡ []
  of_meeting-emptied id [] = refl
  of_meeting-emptied id (r ∷ records) =
      let later = of_meeting-emptied id records in
      elim (cases_Bool (same_name r.meeting id)) [
        | inl is ↦ rw is later
        | inr other ↦ rw (other, other) later
      ]

  -- and all of another
  pub of_meeting-left : (id other : List ℕ) (records : List (InMeeting A)) → same_name id other ≡ false → of_meeting other (filter (is_other id) records) ≡ of_meeting other records
  of_meeting-left id other [] apart = refl
  of_meeting-left id other (r ∷ records) apart =
      let later = of_meeting-left id other records apart in
      elim (cases_Bool (same_name r.meeting id)) [
        | inl is ↦ rw (is, name_apart r.meeting id other is apart) later
        | inr here ↦ rw here (elim (same_name r.meeting other) as (λ b. map (λ (r : InMeeting A). r.item) (if b then r ∷ filter (λ (r : InMeeting A). same_name r.meeting other) (filter (is_other id) records) else filter (λ (r : InMeeting A). same_name r.meeting other) (filter (is_other id) records))
            ≡ map (λ (r : InMeeting A). r.item) (if b then r ∷ filter (λ (r : InMeeting A). same_name r.meeting other) records else filter (λ (r : InMeeting A). same_name r.meeting other) records))
            [ true ↦ ap (λ l. r.item ∷ l) later | false ↦ later ])
      ]

  -- a record of the meeting behind the others is the last of its own
  pub of_meeting-last : (id name : List ℕ) (records : List (InMeeting A)) (item : A) → same_name name id ≡ true → of_meeting name (records ++ in_meeting id item ∷ []) ≡ of_meeting name records ++ item ∷ []
  of_meeting-last id name records item is =
      of_meeting-append name records (in_meeting id item ∷ [])
      ∙ ap (λ l. of_meeting name records ++ l) (rw (name_turned id name ∙ is) refl)

  -- and of another there is none more
  pub of_meeting-same : (id name : List ℕ) (records : List (InMeeting A)) (item : A) → same_name name id ≡ false → of_meeting name (records ++ in_meeting id item ∷ []) ≡ of_meeting name records
  of_meeting-same id name records item apart =
      of_meeting-append name records (in_meeting id item ∷ [])
      ∙ ap (λ l. of_meeting name records ++ l) (rw (name_turned id name ∙ apart) refl) ∙ append-nil (of_meeting name records)

-- a change of the items of one meeting that keeps their meeting
module _ {A : Type 0} (id : List ℕ) (test : A → Bool) (change : A → A) where
  -- the record of that meeting that passes the test changed, and the others as they are
  abbrev pub change_in : InMeeting A → InMeeting A
  change_in r = if same_name r.meeting id && test r.item then record r { item = change r.item } else r

  pub of_meeting-changed : (name : List ℕ) (records : List (InMeeting A)) → same_name name id ≡ true
      → of_meeting name (map change_in records) ≡ map (λ x. if test x then change x else x) (of_meeting name records)
  of_meeting-changed name [] is = refl
  of_meeting-changed name (r ∷ records) is =
      let later = of_meeting-changed name records is in
      elim (cases_Bool (same_name r.meeting name)) [
        | inl here ↦
            let mine : same_name r.meeting id ≡ true = ap (λ x. same_name x id) (same_name-true r.meeting name here) ∙ is in
            (elim (cases_Bool (test r.item)) [
              | inl passes ↦ rw (mine, passes, here) (rw passes (ap (λ l. change r.item ∷ l) later))
              | inr fails ↦ rw (mine, fails, here) (rw fails (ap (λ l. r.item ∷ l) later))
            ])
        | inr other ↦
            let none : same_name r.meeting id ≡ false = ap (λ x. same_name r.meeting x) (sym (same_name-true name id is)) ∙ other in
            rw (none, other) later
      ]

  pub of_meeting-unchanged : (name : List ℕ) (records : List (InMeeting A)) → same_name name id ≡ false → of_meeting name (map change_in records) ≡ of_meeting name records
  of_meeting-unchanged name [] apart = refl
  of_meeting-unchanged name (r ∷ records) apart =
      let later = of_meeting-unchanged name records apart in
      elim (cases_Bool (same_name r.meeting name)) [
        | inl here ↦
            let none : same_name r.meeting id ≡ false = name_apart r.meeting name id here apart in
            rw (none, here) (ap (λ l. r.item ∷ l) later)
        | inr other ↦ (elim (same_name r.meeting id && test r.item) as (λ b. of_meeting name ((if b then record r { item = change r.item } else r) ∷ map change_in records) ≡ of_meeting name (r ∷ records))
            [ true ↦ rw other later | false ↦ rw other later ])
      ]

-- ---- the meetings of records stand

-- a meeting of the name stands
abbrev pub stands : List ℕ → List MeetingRow → Bool
stands id meetings = list_any (λ (m : MeetingRow). same_name m.id id) meetings

module _ {A : Type 0} (meetings : List MeetingRow) where
  pub stand-append : (xs ys : List (InMeeting A)) → name_meetings meetings xs ≡ true → name_meetings meetings ys ≡ true → name_meetings meetings (xs ++ ys) ≡ true
  stand-append [] ys h k = k
  stand-append (r ∷ xs) ys h k = let parts = and_parts (stands r.meeting meetings) (name_meetings meetings xs) h in rw (parts.0, stand-append xs ys parts.1 k) refl

  pub stand-own : (id : List ℕ) (items : List A) → stands id meetings ≡ true → name_meetings meetings (map (in_meeting id) items) ≡ true
  stand-own id [] one = refl
  stand-own id (x ∷ items) one = rw (one, stand-own id items one) refl

  pub stand-filter : (test : InMeeting A → Bool) (records : List (InMeeting A)) → name_meetings meetings records ≡ true → name_meetings meetings (filter test records) ≡ true
  stand-filter test [] h = refl
  stand-filter test (r ∷ records) h =
      let parts = and_parts (stands r.meeting meetings) (name_meetings meetings records) h in
      let later = stand-filter test records parts.1 in
      elim (test r) as (λ b. name_meetings meetings (if b then r ∷ filter test records else filter test records) ≡ true)
      [ true ↦ rw (parts.0, later) refl | false ↦ later ]

  pub stand-map : (change : InMeeting A → InMeeting A) → ((r : InMeeting A) → (change r).meeting ≡ r.meeting) → (records : List (InMeeting A)) → name_meetings meetings (map change records) ≡ name_meetings meetings records
  stand-map change same [] = refl
  stand-map change same (r ∷ records) = rw (same r, stand-map change same records) refl

  -- where no record's meeting is the one of a name, that meeting has no records
  pub stand-none : (id : List ℕ) (records : List (InMeeting A)) → name_meetings meetings records ≡ true → stands id meetings ≡ false → of_meeting id records ≡ []
  stand-none id [] h none = refl
  stand-none id (r ∷ records) h none =
      let parts = and_parts (stands r.meeting meetings) (name_meetings meetings records) h in
      let later = stand-none id records parts.1 none in
      elim (cases_Bool (same_name r.meeting id)) [
        | inl is ↦ absurd (true≢false (sym (subst (λ n. stands n meetings ≡ true) (same_name-true r.meeting id is) parts.0) ∙ none))
        | inr other ↦ rw other later
      ]

-- more meetings may stand
pub stand-more : {A : Type 0} (meetings more : List MeetingRow) (records : List (InMeeting A)) → name_meetings meetings records ≡ true → name_meetings (meetings ++ more) records ≡ true
stand-more meetings more [] h = refl
stand-more meetings more (r ∷ records) h =
    let parts = and_parts (stands r.meeting meetings) (name_meetings meetings records) h in
    rw (list_any-append (λ (m : MeetingRow). same_name m.id r.meeting) meetings more, parts.0, stand-more meetings more records parts.1) refl

-- the meetings may change where they keep their names
pub stand-renewed : {A : Type 0} (change : MeetingRow → MeetingRow) (meetings : List MeetingRow) → ((m : MeetingRow) → (change m).id ≡ m.id) → (records : List (InMeeting A))
    → name_meetings (map change meetings) records ≡ name_meetings meetings records
stand-renewed change meetings same [] = refl
stand-renewed change meetings same (r ∷ records) =
    rw (any-map change (λ (m : MeetingRow). same_name m.id r.meeting) meetings ∙ ap (λ (name : MeetingRow → List ℕ). list_any (λ m. same_name (name m) r.meeting) meetings) (λ i m. same m i), stand-renewed change meetings same records) refl
