-- The parties that are named in an answer to a party.
use Rattle.std.proofs.Common.{◌≡◌, ℕ, ◌+◌, List, [], ◌∷◌, ◌++◌, get_or, refl, ap, sym, subst, ◌∙◌, arith, add-one}
use Rattle.std.specs.Prelude.{Option, Some, None, All, Contains, map}
use Rattle.std.specs.List.{flat_map}
use Rattle.std.proofs.lemmas.List.{append-nil}
use Rattle.std.proofs.lemmas.List.Folds.{flat_map-map}
use Rattle.std.proofs.lemmas.List.Elements.{Contains-append_left, All-contains_itself}
use Rattle.desk_words.specs.Refusals.{first_refusal}
use Rattle.desk_words.specs.Rulings.{ruled_answer, refused_or}
use Rattle.desk_words.specs.declared.answer.Answer.{Answer}
use Rattle.desk_words.specs.declared.change.Change.{Change}
use Rattle.desk_words.specs.declared.office.MeetingLists.{MeetingLists}
use Rattle.desk_words.specs.declared.own_things.Authorised.{Authorised}
use Rattle.desk_words.specs.declared.own_things.Given.{Given}
use Rattle.desk_words.specs.declared.own_things.Received.{Received}
use Rattle.desk_words.specs.declared.records.DemandMark.{DemandMark}
use Rattle.desk_words.specs.declared.records.Meeting.{Meeting}
use Rattle.desk_words.specs.declared.reply.GivenUse.{GivenUse}
use Rattle.desk_words.specs.declared.request.PartyRequest.{PartyRequest}
use Rattle.desk_words.specs.declared.request.PartyRequest.TheVariants.{Mine}
use Rattle.desk_words.specs.declared.request.Request.TheVariants as asked
use Rattle.vocabulary.specs.declared.refusal.Refusal.{Refusal}
use Rattle.caller_view.specs.PartyRulings.{mine_of}
use Rattle.caller_view.specs.AppointmentRulings.{cutoff_in, given_use}
use Rattle.party_views.specs.Views.{meeting_at, own_in, own_in_some, public_in}
use Rattle.party_views.specs.declared.views.OwnView.{OwnView}
use Rattle.party_views.specs.Public.{PublicRecord}
use Rattle.meeting_core.proofs.OfficePreserved.{party_found}
use Rattle.laws_step.specs.NamedParties.{Names, NamesOwn, in_appointment, in_authority, in_cast, in_mine, in_reply, in_row, in_view}
use Rattle.party_views.specs.OwnCasts.{all_casts}
use Rattle.laws_step.specs.Worlds.{party_answer}

contains_front : {X : Type 0} (x : X) (xs ys : List X) → All (Contains (x ∷ (xs ++ ys))) xs
contains_front x xs ys = λ k d h.
    let here = Contains-append_left xs ys (get_or xs k d) (All-contains_itself xs k d h) in
    (here.0 + 1, omega (arith, here.1), rw add-one here.2)

-- what an appointment counts for names nobody
names_of_uses : (cutoff : ℕ) (given : List Given) → flat_map (λ (g : GivenUse). in_appointment g.given.appointment) (map (given_use cutoff) given) ≡ flat_map (λ (g : Given). in_appointment g.appointment) given
names_of_uses cutoff given = flat_map-map (λ (g : GivenUse). in_appointment g.given.appointment) (given_use cutoff) given

-- what a party is told of its own things names those that stand in them
mine_named : (public : PublicRecord) (meeting : Meeting) (own : OwnView) (now : ℕ) → in_view own ≡ own.party ∷ in_mine (mine_of public meeting own now)
mine_named public meeting own now =
    λ i. own.party ∷ (in_row own.row ++ sym (names_of_uses (cutoff_in public meeting now) own.given) i ++ flat_map in_authority own.persons
    ++ map (λ (a : Authorised). a.corporation) own.authorised ++ map (λ (d : DemandMark). d.party) own.demands ++ flat_map in_cast (all_casts own.casts)
    ++ map (λ (r : Received). r.member) own.received)

names_shown : (public : PublicRecord) (meeting : Meeting) (own : OwnView) (now : ℕ) → All (Contains (in_view own)) (in_mine (mine_of public meeting own now))
names_shown public meeting own now =
    let names = in_mine (mine_of public meeting own now) in
    let same : own.party ∷ (names ++ []) ≡ in_view own = ap (λ xs. own.party ∷ xs) (append-nil names) ∙ sym (mine_named public meeting own now) in
    subst (λ (view : Names). All (Contains view) names) same (contains_front own.party names [])

none_named : (view names : Names) → names ≡ [] → All (Contains view) names
none_named view [] h = λ k d h. absurd (omega arith)
none_named view (x ∷ xs) h = absurd (cc)

-- a refusal names nobody
nobody_by : (refusal : Option Refusal) (accepted : Answer Change) → in_reply accepted.reply ≡ [] → in_reply (refused_or refusal accepted).reply ≡ []
nobody_by None accepted h = h
nobody_by (Some r) accepted h = refl

-- all other replies name nobody
names_in : (m : MeetingLists) (closed party : List ℕ) (now : ℕ) (id : List ℕ) (what : PartyRequest)
    → All (Contains (in_view (own_in m closed party now))) (in_reply (ruled_answer (party_found (Some m) closed party now id what)).reply)
names_in m closed party now id Mine = names_shown (public_in (Some m) closed) m.meeting (own_in m closed party now) now
names_in m closed party now id what =
    let decision = party_found (Some m) closed party now id what in
    none_named (in_view (own_in m closed party now)) (in_reply (ruled_answer decision).reply) (nobody_by (first_refusal decision.cases) decision.accepted refl)

names_found : (found : Option MeetingLists) (closed party : List ℕ) (now : ℕ) (id : List ℕ) (what : PartyRequest)
    → All (Contains (in_view (own_in_some found closed party now))) (in_reply (ruled_answer (party_found found closed party now id what)).reply)
names_found None closed party now id what = λ k d h. absurd (omega arith)
names_found (Some m) closed party now id what = names_in m closed party now id what

pub names_own : NamesOwn party_answer
names_own o party now (asked.Party meeting what) = names_found (meeting_at o meeting) o.closed party now meeting what
names_own o party now request = λ k d h. absurd (omega arith)
