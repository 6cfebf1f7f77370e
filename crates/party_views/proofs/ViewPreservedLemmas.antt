-- The rows that are looked up by member are the last of that name.
use Rattle.std.proofs.Common.{◌≡◌, ℕ, ◌+◌, ◌<◌, Bool, true, false, cond, List, [], ◌∷◌, ◌++◌, length, get_or, take, map, refl, sym, ap, ◌∙◌}
use Rattle.std.proofs.lemmas.Bool.{eqb-true}
use Rattle.std.proofs.lemmas.Option.{slice_get-get_or}
use Rattle.std.specs.Prelude.{◌==◌, Option, Some, filter, find, option_and_then, reverse}
use Rattle.std.specs.List.{slice_get}
use Rattle.std.specs.Cmp.{first_so, second_so}
use Rattle.std.specs.Cmp.Lexicographic.{texts_ties}
use Rattle.std.specs.Ordering.{is_eq}
use Rattle.std.proofs.lemmas.List.{reverse-append, take_more}
use Rattle.vocabulary.specs.Names.{same_name, name_cmp}
use Rattle.desk_words.specs.declared.records.Appointment.{Appointment}
use Rattle.desk_words.specs.declared.records.Meeting.{Meeting}
use Rattle.desk_words.specs.declared.records.Poll.{Poll}
use Rattle.desk_words.specs.declared.records.Session.{Session}
use Rattle.desk_words.specs.Sessions.{sessions_of}
use Rattle.proxy_rules.specs.Cutoffs.{is_late_poll}
use Rattle.proxy_rules.specs.declared.meeting_records.Cutoffs.{Cutoffs}
use Rattle.party_views.specs.ViewsByMember.{late_in_rows, late_of, received_with, same_cutoffs, cutoffs_in_session, session_in_rows}
use Rattle.party_views.specs.OwnViews.{known_to_proxy, poll_governed, received_by, rows_by, session_governed}
use Rattle.party_views.specs.SessionLists.{each_session}
use Rattle.party_views.specs.declared.governed.LatePoll.{LatePoll}
use Rattle.party_views.specs.declared.governed.SessionCutoffs.{SessionCutoffs}
use Rattle.party_views.proofs.Numbering.{map-numbered}
use Rattle.party_views.specs.declared.own_rows.MemberRows.{MemberRows}

-- one member's rows more, which are the last of its name
rows_by-more : (members : List MemberRows) (i : ℕ) (rows : MemberRows) (member : List ℕ) → i < length members → rows ≡ get_or members i rows
    → rows_by (take (i + 1) members) member ≡ cond (same_name rows.member member) (Some rows) (rows_by (take i members) member)
rows_by-more members i rows member h is =
    let own : MemberRows → Bool = λ (r : MemberRows). same_name r.member member in
    ap (λ l. find own (reverse l)) (take_more members i rows h ∙ ap (λ y. take i members ++ y ∷ []) (sym is))
    ∙ ap (find own) (reverse-append (take i members) (rows ∷ []))

-- where its place is put for that member, its rows are found there
pub place-put : (members : List MemberRows) (i : ℕ) (rows : MemberRows) (member : List ℕ) (before after : Option ℕ)
    → i < length members → rows ≡ get_or members i rows
    → after ≡ cond (is_eq (name_cmp rows.member member)) (Some i) before
    → option_and_then (slice_get members) before ≡ rows_by (take i members) member → option_and_then (slice_get members) after ≡ rows_by (take (i + 1) members) member
place-put members i rows member before after h is put preserved =
    let now = put ∙ ap (λ b. cond b (Some i) before) (sym (texts_ties rows.member member)) in
    let there : slice_get members i ≡ Some rows = slice_get-get_or members i rows h ∙ ap Some (sym is) in
    let both : (b : Bool) → option_and_then (slice_get members) (cond b (Some i) before) ≡ cond b (Some rows) (rows_by (take i members) member) = elim [ true ↦ there | false ↦ preserved ] in
    ap (option_and_then (slice_get members)) now
    ∙ both (same_name rows.member member)
    ∙ sym (rows_by-more members i rows member h is)

-- what is governed for late polls, by the cutoffs for votes on them
pub late-governed : (members : List MemberRows) (closed : List ℕ) (meeting : Meeting) (now : ℕ) (member : List ℕ) (number : ℕ) (polls : List Poll)
    → map (late_in_rows members member number) (map (late_of meeting closed now) polls) ≡ map (poll_governed members closed meeting now member number) polls
late-governed members closed meeting now member number [] = refl
late-governed members closed meeting now member number (poll ∷ polls) =
    ap (λ l. poll_governed members closed meeting now member number poll ∷ l) (late-governed members closed meeting now member number polls)

-- cutoffs that pass the test are the same
pub same_cutoffs-true : (a b : Cutoffs) → same_cutoffs a b ≡ true → a ≡ b
same_cutoffs-true a b h =
    let appointments = eqb-true a.appointments b.appointments (first_so (a.appointments == b.appointments) (a.endings == b.endings) h) in
    let endings = eqb-true a.endings b.endings (second_so (a.appointments == b.appointments) (a.endings == b.endings) h) in
    λ i. record { appointments = appointments i; endings = endings i }

-- what is governed in each session, by its cutoffs
pub sessions-governed : (members : List MemberRows) (closed : List ℕ) (meeting : Meeting) (now : ℕ) (member : List ℕ) (number : ℕ)
    → map (session_in_rows members member number) (each_session (cutoffs_in_session meeting closed now) meeting) ≡ each_session (session_governed members closed meeting now member number) meeting
sessions-governed members closed meeting now member number =
    map-numbered (session_in_rows members member number) (λ at (s : Session). cutoffs_in_session meeting closed now at) 1 (sessions_of meeting)

-- what is known of appointments is what their members' rows give
pub received-alike : (members : List MemberRows) (closed : List ℕ) (meeting : Meeting) (polls : List Poll) (now : ℕ) (sessions : List SessionCutoffs) (late : List LatePoll) (received : List Appointment)
    → sessions ≡ each_session (cutoffs_in_session meeting closed now) meeting → late ≡ map (late_of meeting closed now) (filter (is_late_poll closed) polls)
    → map (received_with members sessions late) received ≡ map (received_by members closed meeting polls now) received
received-alike members closed meeting polls now sessions late [] by_cutoffs are_late = refl
received-alike members closed meeting polls now sessions late (a ∷ received) by_cutoffs are_late =
    let sessions_too = ap (map (session_in_rows members a.member a.number)) by_cutoffs ∙ sessions-governed members closed meeting now a.member a.number in
    let polls_too = ap (map (late_in_rows members a.member a.number)) are_late ∙ late-governed members closed meeting now a.member a.number (filter (is_late_poll closed) polls) in
    ap (λ first. first ∷ map (received_with members sessions late) received) (λ i. known_to_proxy a (sessions_too i) (polls_too i))
    ∙ ap (λ rest. received_by members closed meeting polls now a ∷ rest) (received-alike members closed meeting polls now sessions late received by_cutoffs are_late)
