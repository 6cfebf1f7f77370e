-- What a call of the office leaves near a viewer.
use Rattle.std.proofs.Common.{◌≡◌, ℕ, Bool, true, false, ◌&&◌, ◌||◌, cond, List, [], ◌∷◌, ◌++◌, filter, map, refl, ap, sym, ◌∙◌, subst}
use Rattle.std.specs.Prelude.{◌==◌, Option, Some, None, option_map, is_some}
use Rattle.std.specs.List.{list_any}
use Rattle.vocabulary.specs.Names.{same_name}
use Rattle.vocabulary.specs.Refusals.{first_refusal}
use Rattle.desk_words.proofs.WordRowLemmas.{same_name-true, same_name-refl, same_rows-Decides}
use Rattle.desk_words.specs.Changes.{applied_if_any, changed, new_lists}
use Rattle.desk_words.specs.KeyRows.{same_keys}
use Rattle.desk_words.specs.SameRows.{same_rows}
use Rattle.desk_words.specs.Rulings.{Ruling, in_found, loaded, noted, map_ruling_change, ruled_answer, refused_or, map_change}
use Rattle.desk_words.specs.Sessions.{last_number}
use Rattle.desk_words.specs.declared.answer.Answer.{Answer}
use Rattle.desk_words.specs.declared.caller.Caller.TheVariants as caller
use Rattle.desk_words.specs.declared.change.Change.{Change}
use Rattle.desk_words.specs.declared.change.Change.TheVariants.{InMeeting, SetClosedDays, SetKeys}
use Rattle.desk_words.specs.declared.change.Entry.TheVariants as entry
use Rattle.desk_words.specs.declared.change.MeetingChange.{MeetingChange}
use Rattle.desk_words.specs.declared.change.MeetingChange.TheVariants.{AddPoll, AddSession, Enter, SetOpened, SetPoll, SetRegister}
use Rattle.desk_words.specs.declared.change.PollChange.TheVariants as poll
use Rattle.desk_words.specs.declared.office.MeetingLists.{MeetingLists}
use Rattle.desk_words.specs.declared.office.OfficeLists.{OfficeLists}
use Rattle.desk_words.specs.declared.records.Meeting.{Meeting}
use Rattle.desk_words.specs.declared.records.PresenceMark.{PresenceMark}
use Rattle.desk_words.specs.declared.records.RegisterRow.{RegisterRow}
use Rattle.desk_words.specs.declared.request.DeskRequest.{DeskRequest}
use Rattle.desk_words.specs.declared.request.DeskRequest.TheVariants as desk
use Rattle.desk_words.specs.declared.request.NewRegister.{NewRegister}
use Rattle.desk_words.specs.declared.request.OfficeRequest.{OfficeRequest}
use Rattle.desk_words.specs.declared.request.OfficeRequest.TheVariants.{LoadRegister, Presence, OpenMeeting, Adjourn, Order, Start, Close, Declare}
use Rattle.desk_words.specs.declared.request.Request.{Request}
use Rattle.desk_words.specs.declared.request.Request.TheVariants as asked
use Rattle.proxy_rules.specs.Parties.{is_presence_of}
use Rattle.party_views.specs.PartyRows.{presences_of}
use Rattle.party_views.specs.Views.{meeting_at, public_of}
use Rattle.office_decisions.specs.OfficeRulings.{desk_ruling, ruling_on}
use Rattle.office_decisions.specs.PresenceRulings.{is_marked}
use Rattle.office_decisions.specs.CallRulings.{call_ruling, load_cases, load_ruling, new_meeting_of}
use Rattle.office_decisions.specs.DeskRulings.{same_days}
use Rattle.office_decisions.specs.PollRulings.{declaration_of, poll_of}
use Rattle.meeting_core.specs.Step.{stepped}
use Rattle.meeting_core.proofs.RulingLemmas.{change_of}
use Rattle.laws_run.specs.NearParts.{IsSourced, Near, Viewer, is_sourced_in, near_in, rows_near}
use Rattle.laws_run.specs.Traces.{ShownRequest, Register, Present, Public, shown_request}
use Rattle.laws_run.proofs.RunsFoundLemmas.{changed-name, found-changed, public-entry, view-changed}
use Rattle.laws_run.proofs.RunsListLemmas.{added-unseen}
use Rattle.laws_run.proofs.RunsPartLemmas.{near-entry}
use Rattle.laws_run.proofs.PartyLemmas.{noted-either}

-- a call of the office
abbrev pub office_after : OfficeLists → ℕ → Request → OfficeLists
office_after o now request = stepped o (record { moment = now; caller = caller.Office; request = request })

-- ---- what is asked of the whole desk

pub loaded-either : {C : Type 0} (P : Option C → Type 0) (same : Bool) (change : C) → P None → P (Some change) → P (loaded same change).change
loaded-either P true change none some = none
loaded-either P false change none some = some

-- what is seen alike of a new meeting and of none is seen alike after what is asked of the whole desk
desk-view : {Y : Type 0} (view : Option MeetingLists → Y) (o : OfficeLists) (what : DeskRequest) (id : List ℕ) → ((meeting : Meeting) → view (Some (new_lists meeting)) ≡ view None)
    → view (meeting_at (applied_if_any o (ruled_answer (desk_ruling o.keys o.closed o.meetings what)).change) id) ≡ view (meeting_at o id)
desk-view view o (desk.CallMeeting new) id same =
    change_of (λ change. view (meeting_at (applied_if_any o change) id) ≡ view (meeting_at o id)) (call_ruling o.meetings new) refl
    (λ _. added-unseen view (λ (m : MeetingLists). same_name m.meeting.id id) (new_lists (new_meeting_of new)) o.meetings (same (new_meeting_of new)))
desk-view view o (desk.ClosedDays days) id same =
    loaded-either (λ change. view (meeting_at (applied_if_any o change) id) ≡ view (meeting_at o id)) (same_days o.closed days) (SetClosedDays days) refl refl
desk-view view o (desk.Keys rows) id same =
    loaded-either (λ change. view (meeting_at (applied_if_any o change) id) ≡ view (meeting_at o id)) (same_keys o.keys rows) (SetKeys rows) refl refl

-- ---- what is asked in a meeting

-- what holds of no change, and of the accepted one where the meeting is found, holds of the answer's
pub office-change : (P : Option Change → Type 0) (found : Option MeetingLists) (at : List ℕ) (f : MeetingLists → Ruling MeetingChange) → P None
    → ((m : MeetingLists) → P (option_map (InMeeting at) (f m).accepted.change))
    → P (ruled_answer (map_ruling_change (InMeeting at) (in_found found f))).change
office-change P None at f none some = none
office-change P (Some m) at f none some = change_of P (map_ruling_change (InMeeting at) (in_found (Some m) f)) none (λ _. some m)

-- the change that is made is seen alike
abbrev Unseen : {Y : Type 0} → (Option MeetingLists → Y) → OfficeLists → List ℕ → Option Change → Type 0
Unseen view o id change = view (meeting_at (applied_if_any o change) id) ≡ view (meeting_at o id)

-- so it is of a change of a meeting that is seen alike
unseen-change : {Y : Type 0} (view : Option MeetingLists → Y) (o : OfficeLists) (at id : List ℕ) (change : MeetingChange)
    → ((m : MeetingLists) → view (Some (changed change m)) ≡ view (Some m)) → Unseen view o id (Some (InMeeting at change))
unseen-change view o at id change same = view-changed view o (changed change) at id (changed-name change) same

-- who named and authorised the viewer is not changed by what the office asks
sourced-office : (viewer : Viewer) (o : OfficeLists) (now : ℕ) (at id : List ℕ) (what : OfficeRequest)
    → is_sourced_in viewer (meeting_at (office_after o now (asked.Office at what)) id) ≡ is_sourced_in viewer (meeting_at o id)
sourced-office viewer o now at id (LoadRegister new) =
    office-change (Unseen (is_sourced_in viewer) o id) (meeting_at o at) at (ruling_on o.closed now (LoadRegister new)) refl
    (λ m. loaded-either (λ change. Unseen (is_sourced_in viewer) o id (option_map (InMeeting at) change)) (same_rows m.register new.rows) (SetRegister new.rows) refl
    (unseen-change (is_sourced_in viewer) o at id (SetRegister new.rows) (λ x. refl)))
sourced-office viewer o now at id (Presence who) =
    office-change (Unseen (is_sourced_in viewer) o id) (meeting_at o at) at (ruling_on o.closed now (Presence who)) refl
    (λ m. noted-either (λ change. Unseen (is_sourced_in viewer) o id (option_map (InMeeting at) change)) (is_marked m.meeting m.presences who) (Enter (entry.Presence (record { session = last_number m.meeting; party = who; moment = now }))) refl
    (unseen-change (is_sourced_in viewer) o at id (Enter (entry.Presence (record { session = last_number m.meeting; party = who; moment = now }))) (λ x. refl)))
sourced-office viewer o now at id OpenMeeting =
    office-change (Unseen (is_sourced_in viewer) o id) (meeting_at o at) at (ruling_on o.closed now OpenMeeting) refl (λ m. unseen-change (is_sourced_in viewer) o at id (SetOpened now) (λ x. refl))
sourced-office viewer o now at id (Adjourn appointed) =
    office-change (Unseen (is_sourced_in viewer) o id) (meeting_at o at) at (ruling_on o.closed now (Adjourn appointed)) refl
    (λ m. unseen-change (is_sourced_in viewer) o at id (AddSession appointed) (λ x. refl))
sourced-office viewer o now at id (Order new) =
    office-change (Unseen (is_sourced_in viewer) o id) (meeting_at o at) at (ruling_on o.closed now (Order new)) refl
    (λ m. unseen-change (is_sourced_in viewer) o at id (AddPoll (poll_of m.meeting now new)) (λ x. refl))
sourced-office viewer o now at id (Start resolution) =
    office-change (Unseen (is_sourced_in viewer) o id) (meeting_at o at) at (ruling_on o.closed now (Start resolution)) refl
    (λ m. unseen-change (is_sourced_in viewer) o at id (SetPoll resolution (poll.Started now)) (λ x. refl))
sourced-office viewer o now at id (Close resolution) =
    office-change (Unseen (is_sourced_in viewer) o id) (meeting_at o at) at (ruling_on o.closed now (Close resolution)) refl
    (λ m. unseen-change (is_sourced_in viewer) o at id (SetPoll resolution (poll.Closed now)) (λ x. refl))
sourced-office viewer o now at id (Declare resolution) =
    office-change (Unseen (is_sourced_in viewer) o id) (meeting_at o at) at (ruling_on o.closed now (Declare resolution)) refl
    (λ m. unseen-change (is_sourced_in viewer) o at id (SetPoll resolution (poll.Declared (declaration_of m o.closed now resolution).tally)) (λ x. refl))

-- whoever named or authorised the viewer stays near it, whatever the office asks
pub office-preserved : (viewer : Viewer) (o : OfficeLists) (now : ℕ) (request : Request) → IsSourced viewer o → IsSourced viewer (office_after o now request)
office-preserved viewer o now (asked.Desk what) h = λ id. desk-view (is_sourced_in viewer) o what id (λ meeting. refl) ∙ h id
office-preserved viewer o now (asked.Office at what) h = λ id. sourced-office viewer o now at id what ∙ h id
office-preserved viewer o now (asked.Party at what) h = h

-- ---- a register

-- the register that is near is set, where it is not refused
abbrev pub near_loaded : Option Meeting → ℕ → ℕ → (List ℕ → Option RegisterRow) → Near → Near
near_loaded None now record_moment rows n = n
near_loaded (Some meeting) now record_moment rows n =
    cond (is_some (first_refusal (load_cases meeting now (record { record_moment = record_moment; rows = [] })))) n (record n { row = rows })

-- the answer to the load of a register, where its meeting is found or not
abbrev register_answer : Option MeetingLists → List ℕ → ℕ → NewRegister → Answer Change
register_answer found at now new = ruled_answer (map_ruling_change (InMeeting at) (in_found found (λ m. load_ruling m now new)))

-- in the meeting of its name
near-register : (viewer : Viewer) (o : OfficeLists) (at : List ℕ) (now : ℕ) (new : NewRegister)
    → near_in viewer (meeting_at (applied_if_any o (register_answer (meeting_at o at) at now new).change) at)
    ≡ near_loaded (public_of o at).meeting now new.record_moment (rows_near viewer new.rows) (near_in viewer (meeting_at o at))
near-register viewer o at now new =
    (elim (meeting_at o at) as (λ found. meeting_at o at ≡ found → near_in viewer (meeting_at (applied_if_any o (register_answer found at now new).change) at)
    ≡ near_loaded (option_map (λ (m : MeetingLists). m.meeting) found) now new.record_moment (rows_near viewer new.rows) (near_in viewer found)) [
      | None ↦ λ found. ap (near_in viewer) found
      | Some m ↦ λ found. by_refusal m found
    ]) refl
  where
    settle : Bool → Answer Change
    settle same = map_change (InMeeting at) (loaded same (SetRegister new.rows))

    by_rows : (m : MeetingLists) → meeting_at o at ≡ Some m
        → near_in viewer (meeting_at (applied_if_any o (settle (same_rows m.register new.rows)).change) at) ≡ record (near_in viewer (Some m)) { row = rows_near viewer new.rows }
    by_rows m found =
        (elim (same_rows m.register new.rows) as (λ b. same_rows m.register new.rows ≡ b
        → near_in viewer (meeting_at (applied_if_any o (settle b).change) at) ≡ record (near_in viewer (Some m)) { row = rows_near viewer new.rows }) [
          | true ↦ λ same. ap (near_in viewer) found ∙ ap (λ register. record (near_in viewer (Some m)) { row = rows_near viewer register }) ((same_rows-Decides m.register new.rows).0 same)
          | false ↦ λ other.
              ap (near_in viewer) (found-changed (changed (SetRegister new.rows)) at at o.meetings (λ x. refl))
              ∙ (ap (λ b. near_in viewer (cond b (option_map (changed (SetRegister new.rows)) (meeting_at o at)) (meeting_at o at))) (same_name-refl at)
              ∙ ap (λ x. near_in viewer (option_map (changed (SetRegister new.rows)) x)) found)
        ]) refl

    by_refusal : (m : MeetingLists) → meeting_at o at ≡ Some m → near_in viewer (meeting_at (applied_if_any o (register_answer (Some m) at now new).change) at)
        ≡ near_loaded (Some m.meeting) now new.record_moment (rows_near viewer new.rows) (near_in viewer (Some m))
    by_refusal m found =
        elim (first_refusal (load_cases m.meeting now new)) as (λ refusal. near_in viewer (meeting_at (applied_if_any o (refused_or refusal (settle (same_rows m.register new.rows))).change) at)
        ≡ cond (is_some refusal) (near_in viewer (Some m)) (record (near_in viewer (Some m)) { row = rows_near viewer new.rows })) [
          | Some refusal ↦ ap (near_in viewer) found
          | None ↦ by_rows m found
        ]

-- in a meeting of another name nothing is changed
near-elsewhere : (viewer : Viewer) (o : OfficeLists) (at id : List ℕ) (f : MeetingLists → Ruling MeetingChange) → same_name at id ≡ false
    → near_in viewer (meeting_at (applied_if_any o (ruled_answer (map_ruling_change (InMeeting at) (in_found (meeting_at o at) f))).change) id) ≡ near_in viewer (meeting_at o id)
near-elsewhere viewer o at id f other =
    office-change (Unseen (near_in viewer) o id) (meeting_at o at) at f refl (λ m. made (f m).accepted.change)
  where
    made : (change : Option MeetingChange) → Unseen (near_in viewer) o id (option_map (InMeeting at) change)
    made None = refl
    made (Some change) =
        ap (near_in viewer) (found-changed (changed change) at id o.meetings (changed-name change))
        ∙ ap (λ b. near_in viewer (cond b (option_map (changed change) (meeting_at o id)) (meeting_at o id))) other

-- ---- a presence

-- whether a party is marked in the last session, by the sessions in which it is
marked-last : (meeting : Meeting) (presences : List PresenceMark) (party : List ℕ)
    → list_any (λ session. session == last_number meeting) (presences_of party presences) ≡ is_marked meeting presences party
marked-last meeting [] party = refl
marked-last meeting (mark ∷ marks) party =
    let rest = marked-last meeting marks party in
    let last : ℕ → Bool = λ session. session == last_number meeting in
    elim (same_name mark.party party) as (λ b. list_any last (map (λ (p : PresenceMark). p.session) (cond b (mark ∷ filter (is_presence_of party) marks) (filter (is_presence_of party) marks)))
    ≡ ((b && last mark.session) || is_marked meeting marks party)) [
      | true ↦ ap (λ c. last mark.session || c) rest
      | false ↦ rest
    ]

-- the sessions in which a party is present, and the last among them
abbrev with_last : Meeting → List ℕ → List ℕ
with_last meeting sessions = cond (list_any (λ session. session == last_number meeting) sessions) sessions (sessions ++ last_number meeting ∷ [])

-- who is marked, or is marked now, is present in the last session
marked : (viewer : Viewer) (meeting : Meeting) (presences : List PresenceMark) (who : List ℕ) (stands : Bool) → is_marked meeting presences who ≡ stands
    → let own = presences_of viewer.party presences in
    cond (same_name who viewer.party) (cond stands own (own ++ last_number meeting ∷ [])) own ≡ cond (same_name who viewer.party) (with_last meeting own) own
marked viewer meeting presences who stands h =
    let own = presences_of viewer.party presences in
    (elim (same_name who viewer.party) as (λ b. same_name who viewer.party ≡ b
    → cond b (cond stands own (own ++ last_number meeting ∷ [])) own ≡ cond b (with_last meeting own) own) [
      | true ↦ λ same.
          ap (λ there. cond there own (own ++ last_number meeting ∷ []))
          (sym h ∙ ap (is_marked meeting presences) (same_name-true who viewer.party same) ∙ sym (marked-last meeting presences viewer.party))
      | false ↦ λ other. refl
    ]) refl

-- what is near after a presence
abbrev near_marked : Viewer → List ℕ → Meeting → Near → Near
near_marked viewer who meeting n = record n { presences = cond (same_name who viewer.party) (with_last meeting n.presences) n.presences }

-- where a meeting stands, what is near is changed by it
abbrev near_by : Option Meeting → (Meeting → Near → Near) → Near → Near
near_by None g n = n
near_by (Some meeting) g n = g meeting n

near-presence : (viewer : Viewer) (o : OfficeLists) (at : List ℕ) (now : ℕ) (who : List ℕ)
    → near_in viewer (meeting_at (office_after o now (asked.Office at (Presence who))) at)
    ≡ near_by (public_of o at).meeting (near_marked viewer who) (near_in viewer (meeting_at o at))
near-presence viewer o at now who =
    (elim (meeting_at o at) as (λ found. meeting_at o at ≡ found
    → near_in viewer (meeting_at (applied_if_any o (ruled_answer (map_ruling_change (InMeeting at) (in_found found (ruling_on o.closed now (Presence who))))).change) at)
    ≡ near_by (option_map (λ (m : MeetingLists). m.meeting) found) (near_marked viewer who) (near_in viewer found)) [
      | None ↦ λ found. ap (near_in viewer) found
      | Some m ↦ λ found. by_mark m found
    ]) refl
  where
    mark : Meeting → MeetingChange
    mark meeting = Enter (entry.Presence (record { session = last_number meeting; party = who; moment = now }))

    both : (b : Bool) (sessions : List ℕ) → sessions ≡ cond b sessions sessions
    both true sessions = refl
    both false sessions = refl

    by_mark : (m : MeetingLists) → meeting_at o at ≡ Some m
        → near_in viewer (meeting_at (applied_if_any o (option_map (InMeeting at) (noted (is_marked m.meeting m.presences who) (mark m.meeting)).change)) at)
        ≡ near_marked viewer who m.meeting (near_in viewer (Some m))
    by_mark m found =
        let near = near_in viewer (Some m) in
        let last = last_number m.meeting in
        (elim (is_marked m.meeting m.presences who) as (λ b. is_marked m.meeting m.presences who ≡ b
        → near_in viewer (meeting_at (applied_if_any o (option_map (InMeeting at) (noted b (mark m.meeting)).change)) at) ≡ near_marked viewer who m.meeting near) [
          | true ↦ λ stands.
              ap (near_in viewer) found
              ∙ (λ i. record near { presences = both (same_name who viewer.party) near.presences i })
              ∙ (λ i. record near { presences = marked viewer m.meeting m.presences who true stands i })
          | false ↦ λ fresh.
              ap (near_in viewer) (found-changed (changed (mark m.meeting)) at at o.meetings (changed-name (mark m.meeting)))
              ∙ (ap (λ b. near_in viewer (cond b (option_map (changed (mark m.meeting)) (meeting_at o at)) (meeting_at o at))) (same_name-refl at)
              ∙ (ap (λ x. near_in viewer (option_map (changed (mark m.meeting)) x)) found
              ∙ near-entry viewer (entry.Presence (record { session = last; party = who; moment = now })) m
              ∙ (λ i. record near { presences = marked viewer m.meeting m.presences who false fresh i })))
        ]) refl

-- ---- what is shown

-- what is near after a call of the office, by what is shown of it
abbrev pub near_shown : Option ShownRequest → List ℕ → Option Meeting → Near → Near
near_shown None id meeting n = n
near_shown (Some Public) id meeting n = n
near_shown (Some (Register at now record_moment rows)) id meeting n = cond (same_name at id) (near_loaded meeting now record_moment rows n) n
near_shown (Some (Present at)) id meeting n = cond (same_name at id) (near_by meeting (λ m n. record n { presences = with_last m n.presences }) n) n

-- the meeting of the name, or another
by-name : (viewer : Viewer) (o : OfficeLists) (at id : List ℕ) (f : MeetingLists → Ruling MeetingChange) (g : Option Meeting → Near → Near)
    → near_in viewer (meeting_at (applied_if_any o (ruled_answer (map_ruling_change (InMeeting at) (in_found (meeting_at o at) f))).change) at) ≡ g (public_of o at).meeting (near_in viewer (meeting_at o at))
    → near_in viewer (meeting_at (applied_if_any o (ruled_answer (map_ruling_change (InMeeting at) (in_found (meeting_at o at) f))).change) id)
    ≡ cond (same_name at id) (g (public_of o id).meeting (near_in viewer (meeting_at o id))) (near_in viewer (meeting_at o id))
by-name viewer o at id f g here =
    (elim (same_name at id) as (λ b. same_name at id ≡ b → near_in viewer (meeting_at (applied_if_any o (ruled_answer (map_ruling_change (InMeeting at) (in_found (meeting_at o at) f))).change) id)
    ≡ cond b (g (public_of o id).meeting (near_in viewer (meeting_at o id))) (near_in viewer (meeting_at o id))) [
      | true ↦ λ same. subst (λ name. near_in viewer (meeting_at (applied_if_any o (ruled_answer (map_ruling_change (InMeeting at) (in_found (meeting_at o at) f))).change) name)
          ≡ g (public_of o name).meeting (near_in viewer (meeting_at o name))) (same_name-true at id same) here
      | false ↦ λ other. near-elsewhere viewer o at id f other
    ]) refl

-- a presence is shown where it is the viewer's
viewed-presence : (viewer : Viewer) (at id : List ℕ) (meeting : Option Meeting) (who : List ℕ) (n : Near)
    → cond (same_name at id) (near_by meeting (near_marked viewer who) n) n ≡ near_shown (cond (same_name who viewer.party) (Some (Present at)) None) id meeting n
viewed-presence viewer at id meeting who n =
    elim (same_name who viewer.party) as (λ b. cond (same_name at id) (near_by meeting (λ m x. record x { presences = cond b (with_last m x.presences) x.presences }) n) n
    ≡ near_shown (cond b (Some (Present at)) None) id meeting n) [
      | true ↦ refl
      | false ↦ elim (same_name at id) as (λ b. cond b (near_by meeting (λ m x. x) n) n ≡ n) [
        | true ↦ elim (meeting) as (λ found. near_by found (λ m x. x) n ≡ n) [ None ↦ refl | Some x ↦ refl ]
        | false ↦ refl
      ]
    ]

pub near-office : (viewer : Viewer) (o : OfficeLists) (now : ℕ) (request : Request) (id : List ℕ)
    → near_in viewer (meeting_at (office_after o now request) id) ≡ near_shown (shown_request viewer now request) id (public_of o id).meeting (near_in viewer (meeting_at o id))
near-office viewer o now (asked.Desk (desk.CallMeeting new)) id = desk-view (near_in viewer) o (desk.CallMeeting new) id (λ meeting. refl)
near-office viewer o now (asked.Desk (desk.ClosedDays days)) id = desk-view (near_in viewer) o (desk.ClosedDays days) id (λ meeting. refl)
near-office viewer o now (asked.Desk (desk.Keys rows)) id = desk-view (near_in viewer) o (desk.Keys rows) id (λ meeting. refl)
near-office viewer o now (asked.Office at (LoadRegister new)) id =
    by-name viewer o at id (λ m. load_ruling m now new) (λ meeting n. near_loaded meeting now new.record_moment (rows_near viewer new.rows) n) (near-register viewer o at now new)
near-office viewer o now (asked.Office at (Presence who)) id =
    by-name viewer o at id (ruling_on o.closed now (Presence who)) (λ meeting n. near_by meeting (near_marked viewer who) n) (near-presence viewer o at now who)
    ∙ viewed-presence viewer at id (public_of o id).meeting who (near_in viewer (meeting_at o id))
near-office viewer o now (asked.Office at OpenMeeting) id =
    office-change (Unseen (near_in viewer) o id) (meeting_at o at) at (ruling_on o.closed now OpenMeeting) refl (λ m. unseen-change (near_in viewer) o at id (SetOpened now) (λ x. refl))
near-office viewer o now (asked.Office at (Adjourn appointed)) id =
    office-change (Unseen (near_in viewer) o id) (meeting_at o at) at (ruling_on o.closed now (Adjourn appointed)) refl
    (λ m. unseen-change (near_in viewer) o at id (AddSession appointed) (λ x. refl))
near-office viewer o now (asked.Office at (Order new)) id =
    office-change (Unseen (near_in viewer) o id) (meeting_at o at) at (ruling_on o.closed now (Order new)) refl (λ m. unseen-change (near_in viewer) o at id (AddPoll (poll_of m.meeting now new)) (λ x. refl))
near-office viewer o now (asked.Office at (Start resolution)) id =
    office-change (Unseen (near_in viewer) o id) (meeting_at o at) at (ruling_on o.closed now (Start resolution)) refl
    (λ m. unseen-change (near_in viewer) o at id (SetPoll resolution (poll.Started now)) (λ x. refl))
near-office viewer o now (asked.Office at (Close resolution)) id =
    office-change (Unseen (near_in viewer) o id) (meeting_at o at) at (ruling_on o.closed now (Close resolution)) refl
    (λ m. unseen-change (near_in viewer) o at id (SetPoll resolution (poll.Closed now)) (λ x. refl))
near-office viewer o now (asked.Office at (Declare resolution)) id =
    office-change (Unseen (near_in viewer) o id) (meeting_at o at) at (ruling_on o.closed now (Declare resolution)) refl
    (λ m. unseen-change (near_in viewer) o at id (SetPoll resolution (poll.Declared (declaration_of m o.closed now resolution).tally)) (λ x. refl))
near-office viewer o now (asked.Party at what) id = refl

-- ---- what is not shown

-- is not public
pub public-office : (viewer : Viewer) (o : OfficeLists) (now : ℕ) (request : Request) (id : List ℕ) → shown_request viewer now request ≡ None
    → public_of (office_after o now request) id ≡ public_of o id
public-office viewer o now (asked.Desk (desk.Keys rows)) id h =
    loaded-either (λ change. public_of (applied_if_any o change) id ≡ public_of o id) (same_keys o.keys rows) (SetKeys rows) refl refl
public-office viewer o now (asked.Office at (Presence who)) id h =
    office-change (λ change. public_of (applied_if_any o change) id ≡ public_of o id) (meeting_at o at) at (ruling_on o.closed now (Presence who)) refl
    (λ m. noted-either (λ change. public_of (applied_if_any o (option_map (InMeeting at) change)) id ≡ public_of o id) (is_marked m.meeting m.presences who) (Enter (entry.Presence (record { session = last_number m.meeting; party = who; moment = now }))) refl
    (public-entry o at (Some (entry.Presence (record { session = last_number m.meeting; party = who; moment = now }))) id))
public-office viewer o now (asked.Desk other) id h = absurd (cc)
public-office viewer o now (asked.Office at other) id h = absurd (cc)
public-office viewer o now (asked.Party at what) id h = absurd (cc)
