-- An authority more, a presence more, and a demand more keep the lists of a meeting.
use Rattle.std.proofs.Common.{◌≡◌, ℕ, ◌+◌, Bool, true, false, not, ◌&&◌, ◌||◌, ◌==◌, cond, List, [], ◌∷◌, ◌++◌, length, refl, ap, sym, ◌∙◌, arith, add-zero}
use Rattle.std.specs.Prelude.{filter, map, nat_le, count_by}
use Rattle.std.specs.List.{list_all, list_any}
use Rattle.std.specs.Cmp.{first_so, second_so}
use Rattle.std.specs.Cmp.Derive.{both_true}
use Rattle.std.proofs.lemmas.Bool.Decides.{nat_tests}
use Rattle.std.proofs.lemmas.List.Sums.{length-filter}
use Rattle.std.proofs.lemmas.List.Folds.{list_all-append}
use Rattle.seq.proofs.Filtered.{any-filter}
use Rattle.std.proofs.Math.Bool.{and_comm}
use Rattle.seq.proofs.Differing.{all_weaker, count_snoc, differ_snoc}
use Rattle.seq.specs.Ordered.{differ_by}
use Rattle.desk_words.proofs.WordRowLemmas.{same_name-true}
use Rattle.desk_words.specs.Names.{same_name}
use Rattle.desk_words.specs.Office.{are_authorities, are_demands, are_presences, is_demand, is_meeting, same_authority, same_demand, same_presence}
use Rattle.desk_words.specs.Sessions.{is_session}
use Rattle.desk_words.specs.declared.change.Entry.TheVariants as entry
use Rattle.desk_words.specs.declared.office.MeetingLists.{MeetingLists}
use Rattle.desk_words.specs.declared.records.Authority.{Authority}
use Rattle.desk_words.specs.declared.records.DemandMark.{DemandMark}
use Rattle.desk_words.specs.declared.records.PresenceMark.{PresenceMark}
use Rattle.desk_words.proofs.OfficeFacts.{meeting_facts, meeting_from_facts}
use Rattle.desk_words.specs.Changes.{entered}

-- ---- an authority more

-- how many authorities are of the same corporation
abbrev given_like : Authority → List Authority → ℕ
given_like a given = count_by (λ (b : Authority). same_name b.corporation a.corporation) given

-- there is room for one authority more of that corporation, and so of every one
authority_fits : (a d : Authority) (given : List Authority) → nat_le 64 (given_like a given) ≡ false → nat_le (given_like d given) 64 ≡ true
    → nat_le (given_like d (given ++ a ∷ [])) 64 ≡ true
authority_fits a d given room fits =
    ap (λ n. nat_le n 64) (count_snoc (λ (e : Authority). same_name e.corporation d.corporation) given a)
    ∙ (elim (same_name a.corporation d.corporation) as (λ b. same_name a.corporation d.corporation ≡ b → nat_le (given_like d given + cond b 1 0) 64 ≡ true) [
      | true ↦ λ e. (
          let one : a.corporation ≡ d.corporation = same_name-true a.corporation d.corporation e in
          let alike : given_like a given ≡ given_like d given = λ i. count_by (λ (x : Authority). same_name x.corporation (one i)) given in
          let less : nat_le 64 (given_like d given) ≡ false = ap (nat_le 64) (sym alike) ∙ room in
          grind (arith, nat_tests))
      | false ↦ λ e. ap (λ n. nat_le n 64) (add-zero (given_like d given)) ∙ fits
    ]) refl

-- an authority may be added that is not given yet, where its corporation gave fewer than 64
pub authority_preserved : (a : Authority) (m : MeetingLists) → is_meeting m ≡ true → nat_le 64 (given_like a m.authorities) ≡ false
    → list_any (λ b. same_authority b a) m.authorities ≡ false → is_meeting (entered (entry.Authority a) m) ≡ true
authority_preserved a m h room fresh =
    let f = meeting_facts m h in
    let given = m.authorities in
    let fits = λ (d : Authority). nat_le (given_like d given) 64 in
    let more = λ (d : Authority). nat_le (given_like d (given ++ a ∷ [])) 64 in
    let apart = differ_by same_authority given in
    let own : nat_le (given_like a given) 64 ≡ true = grind (arith, nat_tests) in
    let good : are_authorities (given ++ a ∷ []) ≡ true = both_true
    (list_all-append more given (a ∷ [])
    ∙ both_true (all_weaker fits more given (λ d. authority_fits a d given room) (first_so (list_all fits given) apart f.authorities)) (both_true (authority_fits a a given room own) refl))
    (differ_snoc same_authority given a (second_so (list_all fits given) apart f.authorities) fresh) in
    meeting_from_facts (entered (entry.Authority a) m) (assumption (good, f))

-- there is room where the authority is not given yet, and not too many are
has_room : (gave many : Bool) → gave ≡ false → (not gave && many) ≡ false → many ≡ false
has_room true many g h = absurd (cc)
has_room false many g h = h

-- so there is among a party's own
pub room_left : (party : List ℕ) (gave : Bool) (given : List Authority) → gave ≡ false
    → (not gave && nat_le 64 (length (filter (λ (b : Authority). same_name b.corporation party) given))) ≡ false
    → nat_le 64 (count_by (λ (b : Authority). same_name b.corporation party) given) ≡ false
room_left party gave given fresh h =
    let own = λ (b : Authority). same_name b.corporation party in
    ap (nat_le 64) (sym (length-filter own given)) ∙ has_room gave (nat_le 64 (length (filter own given))) fresh h

-- what is not among a party's own authorities is not among all
pub not_given : (party person : List ℕ) (given : List Authority)
    → list_any (λ (b : Authority). same_name b.person person) (filter (λ (b : Authority). same_name b.corporation party) given) ≡ false
    → list_any (λ (b : Authority). same_name b.corporation party && same_name b.person person) given ≡ false
not_given party person given h =
    sym (any-filter (λ (b : Authority). same_name b.person person) (λ (b : Authority). same_name b.corporation party) given) ∙ h

-- ---- a presence more

-- a party may be marked that is not marked yet in that session of the meeting
pub presence_preserved : (p : PresenceMark) (m : MeetingLists) → is_meeting m ≡ true → is_session m.meeting p.session ≡ true → list_any (λ q. same_presence q p) m.presences ≡ false
    → is_meeting (entered (entry.Presence p) m) ≡ true
presence_preserved p m h there fresh =
    let f = meeting_facts m h in
    let on = λ (q : PresenceMark). is_session m.meeting q.session in
    let apart = differ_by same_presence m.presences in
    let good : are_presences m.meeting (m.presences ++ p ∷ []) ≡ true = both_true
    (list_all-append on m.presences (p ∷ []) ∙ both_true (first_so (list_all on m.presences) apart f.presences) (both_true there refl))
    (differ_snoc same_presence m.presences p (second_so (list_all on m.presences) apart f.presences) fresh) in
    meeting_from_facts (entered (entry.Presence p) m) (assumption (good, f))

-- who is not marked by name and session is not marked
pub not_marked : (session : ℕ) (party : List ℕ) (presences : List PresenceMark)
    → list_any (λ (q : PresenceMark). same_name q.party party && q.session == session) presences ≡ false
    → list_any (λ (q : PresenceMark). q.session == session && same_name q.party party) presences ≡ false
not_marked session party presences h =
    ap (λ test. list_any test presences) (λ i (q : PresenceMark). and_comm (q.session == session) (same_name q.party party) i) ∙ h

-- some of what is made of values pass where the values pass so
any_made : {X Y : Type 0} (passes : Y → Bool) (make : X → Y) (xs : List X) → list_any passes (map make xs) ≡ list_any (λ x. passes (make x)) xs
any_made passes make [] = refl
any_made passes make (x ∷ xs) = ap (λ b. passes (make x) || b) (any_made passes make xs)

-- nor is who has no such session among its own
pub not_present : (session : ℕ) (party : List ℕ) (presences : List PresenceMark)
    → list_any (λ (s : ℕ). s == session) (map (λ (q : PresenceMark). q.session) (filter (λ (q : PresenceMark). same_name q.party party) presences)) ≡ false
    → list_any (λ (q : PresenceMark). q.session == session && same_name q.party party) presences ≡ false
not_present session party presences h =
    not_marked session party presences
    (sym (any-filter (λ (q : PresenceMark). q.session == session) (λ (q : PresenceMark). same_name q.party party) presences)
    ∙ sym (any_made (λ (s : ℕ). s == session) (λ (q : PresenceMark). q.session) (filter (λ (q : PresenceMark). same_name q.party party) presences))
    ∙ h)

-- ---- a demand more

-- a demand in a session of the meeting, of one of its resolutions, may be added that does not stand
-- yet
pub demand_preserved : (d : DemandMark) (m : MeetingLists) → is_meeting m ≡ true → is_demand m.meeting d ≡ true
    → list_any (λ e. same_demand e d) m.demands ≡ false → is_meeting (entered (entry.Demand d) m) ≡ true
demand_preserved d m h right fresh =
    let f = meeting_facts m h in
    let on = is_demand m.meeting in
    let apart = differ_by same_demand m.demands in
    let good : are_demands m.meeting (m.demands ++ d ∷ []) ≡ true = both_true
    (list_all-append on m.demands (d ∷ []) ∙ both_true (first_so (list_all on m.demands) apart f.demands) (both_true right refl))
    (differ_snoc same_demand m.demands d (second_so (list_all on m.demands) apart f.demands) fresh) in
    meeting_from_facts (entered (entry.Demand d) m) (assumption (good, f))

-- what is not among a party's own demands is not among all
pub not_demanded : (party : List ℕ) (session resolution : ℕ) (demands : List DemandMark)
    → list_any (λ (e : DemandMark). e.session == session && e.resolution == resolution) (filter (λ (e : DemandMark). same_name e.party party) demands) ≡ false
    → list_any (λ (e : DemandMark). (e.session == session && e.resolution == resolution) && same_name e.party party) demands ≡ false
not_demanded party session resolution demands h =
    ap (λ test. list_any test demands) (λ i (e : DemandMark). and_comm (e.session == session && e.resolution == resolution) (same_name e.party party) i)
    ∙ sym (any-filter (λ (e : DemandMark). e.session == session && e.resolution == resolution) (λ (e : DemandMark). same_name e.party party) demands) ∙ h
