-- What an ending between two sessions takes, and what it leaves.
use Rattle.std.proofs.Common.{◌≡◌, ℕ, zero, suc, ◌<◌, Bool, true, false, not, ◌&&◌, ◌||◌, cond, List, [], ◌∷◌, ◌++◌, filter, map, refl, sym, ap, ◌∙◌, arith, inl, inr, true≢false}
use Rattle.std.specs.Prelude.{◌==◌, nat_le, nat_lt, Option, Some, None, option_and_then}
use Rattle.std.specs.Cmp.{first_so, second_so}
use Rattle.std.specs.List.{flat_map, list_all, list_any}
use Rattle.std.specs.Option.{option_map_or, unwrap_or}
use Rattle.std.proofs.lemmas.Bool.{and_from, eqb-true}
use Rattle.std.proofs.lemmas.Bool.Decides.{nat_tests}
use Rattle.seq.proofs.Filtered.{any-filter}
use Rattle.seq.specs.Ordered.{differ_by}
use Rattle.vocabulary.specs.Names.{same_name}
use Rattle.vocabulary.specs.Places.{places_that}
use Rattle.vocabulary.specs.declared.kinds.Capacity.TheVariants.{Member, Rep, Proxy}
use Rattle.desk_words.proofs.OfficeFacts.{meeting_facts}
use Rattle.desk_words.proofs.WordRowLemmas.{same_name-true, same_name-refl}
use Rattle.desk_words.specs.Office.{is_ending_of, is_meeting, same_ending}
use Rattle.desk_words.specs.Sessions.{last_number, session_of}
use Rattle.desk_words.specs.declared.office.MeetingLists.{MeetingLists}
use Rattle.desk_words.specs.declared.records.Appointment.{Appointment}
use Rattle.desk_words.specs.declared.records.Ending.{Ending}
use Rattle.desk_words.specs.declared.records.PresenceMark.{PresenceMark}
use Rattle.desk_words.specs.declared.records.RegisterRow.{RegisterRow}
use Rattle.proxy_rules.specs.Cutoffs.{cutoffs_of}
use Rattle.proxy_rules.specs.Governing.{ends, governed_in, governing_in, governs, has_share, is_ended, last_over, unended}
use Rattle.proxy_rules.specs.Holdings.{holding_by, holding_of, holding_with, is_ended_of}
use Rattle.proxy_rules.specs.PlaceRuns.{runs_that}
use Rattle.proxy_rules.specs.Shares.{is_corporation, is_individual, shares_of}
use Rattle.proxy_rules.specs.Uses.{Acts, Votes}
use Rattle.proxy_rules.specs.declared.holdings.Holding.{Holding}
use Rattle.proxy_rules.specs.declared.meeting_records.Cutoffs.{Cutoffs}
use Rattle.poll_rules.specs.Demands.{by_a_representative, demand_by, has_demanded, holder_demanded, names_one, shares_demanding}
use Rattle.poll_rules.specs.Quorum.{is_counted, is_quorum, present_in}
use Rattle.poll_rules.specs.Roles.{has_authority, role_if, roles_of}
use Rattle.laws_step.specs.Adjourned.{LaterEndingsAreNotCounted, LaterEndingsTakeNoRole, LaterEndingsTakeTheVote, acts_cutoffs, ended_before, ends_between}
use Rattle.laws_step.proofs.AnyLemmas.{any-In, In-any}
use Rattle.laws_step.proofs.StepNumberLemmas.{In, In-filter}

-- ---- endings after the opening

-- an ending that counts is before the opening
before-again : (before own number : Bool) → (own && (number && before)) ≡ (before && (own && (number && before)))
before-again true own number = refl
before-again false true true = refl
before-again false true false = refl
before-again false false number = refl

module _ (cutoffs : Cutoffs) (given : List Appointment) (ended : List Ending) where
  -- where endings count up to a moment, those after it count for no appointment
  ended-before : (member : List ℕ) (number : ℕ)
      → list_any (ends cutoffs number) (filter (is_ended_of member) ended) ≡ list_any (ends cutoffs number) (filter (is_ended_of member) (ended_before cutoffs.endings ended))
  ended-before member number =
      let counts : Ending → Bool = λ e. is_ended_of member e && ends cutoffs number e in
      any-filter (ends cutoffs number) (is_ended_of member) ended
      ∙ ap (λ test. list_any test ended) (λ i (e : Ending). before-again (nat_lt e.moment cutoffs.endings) (is_ended_of member e) (e.number == number) i)
      ∙ sym (any-filter counts (λ (e : Ending). nat_lt e.moment cutoffs.endings) ended)
      ∙ sym (any-filter (ends cutoffs number) (is_ended_of member) (ended_before cutoffs.endings ended))

  -- and govern alike
  governing-before : (shares : ℕ) (member : List ℕ) (place : ℕ)
      → governing_in cutoffs (holding_with shares given ended member) place ≡ governing_in cutoffs (holding_with shares given (ended_before cutoffs.endings ended) member) place
  governing-before shares member place =
      let holding = holding_with shares given ended member in
      λ i. cond (has_share holding place)
      (option_and_then (λ (a : Appointment). cond (ended-before member a.number i) None (Some a)) (last_over cutoffs holding place))
      None

module _ (m : MeetingLists) (opened : ℕ) (closed : List ℕ) (now : ℕ) (is : m.meeting.first.opened ≡ Some opened) where
  -- the cutoffs for acts in a session
  abbrev acts_in : ℕ → Cutoffs
  acts_in session = cutoffs_of m.meeting (Acts session) closed now

  -- a share of a row is governed alike without what was ended after the opening
  governing-alike : (session : ℕ) (row : RegisterRow) (place : ℕ)
      → governing_in (acts_in session) (holding_by m.appointments m.endings row) place
      ≡ governing_in (acts_in session) (holding_by m.appointments (ended_before opened m.endings) row) place
  governing-alike session row place =
      governing-before (acts_in session) m.appointments m.endings (shares_of row) row.member place
      ∙ ap (λ o. governing_in (acts_in session) (holding_by m.appointments (ended_before (unwrap_or o now) m.endings) row) place) is

  roles-alike : (session : ℕ) (person : List ℕ)
      → roles_of (acts_in session) m.register m.appointments m.endings m.authorities person
      ≡ roles_of (acts_in session) m.register m.appointments (ended_before opened m.endings) m.authorities person
  roles-alike session person =
      λ i. flat_map
      (λ (row : RegisterRow).
      role_if (is_individual row.kind && same_name row.member person) Member row.member
      ++ role_if (is_corporation row.kind && has_authority m.authorities row.member person) Rep row.member
      ++ role_if
      (nat_lt 0 (places_that (λ place. option_map_or (λ (a : Appointment). same_name a.proxy person) (governing-alike session row place i) false) (shares_of row)))
      Proxy row.member)
      m.register

  demanding-alike : (session resolution : ℕ) (row : RegisterRow)
      → shares_demanding (has_demanded m.demands session resolution) (acts_in session) m.appointments m.endings m.authorities row
      ≡ shares_demanding (has_demanded m.demands session resolution) (acts_in session) m.appointments (ended_before opened m.endings) m.authorities row
  demanding-alike session resolution row =
      let demanded = has_demanded m.demands session resolution in
      λ i. places_that (λ place. (holder_demanded demanded row || by_a_representative demanded m.authorities row) || names_one demanded (governing-alike session row place i)) (shares_of row)

pub no_role : LaterEndingsTakeNoRole acts_cutoffs
no_role m opened closed now session person is = roles-alike m opened closed now is session person

pub not_counted : LaterEndingsAreNotCounted
not_counted m opened closed now is =
    let last = last_number m.meeting in
    record {
      quorum = λ i. is_quorum (filter is_counted m.register) (λ person. roles-alike m opened closed now is last person i) (map (λ (mark : PresenceMark). mark.party) (present_in last m.presences));
      demand = λ resolution i. demand_by (λ row. demanding-alike m opened closed now is last resolution row i) m.register;
    }

-- ---- endings of one appointment

-- where a test answers no at each place there is no run
runs-none : (n : ℕ) → runs_that (λ place. false) n ≡ []
runs-none zero = refl
runs-none (suc n) = runs-none n

module _ (cutoffs : Cutoffs) (holding : Holding) (number : ℕ) where
  -- the appointment found has the number, and is not ended
  abbrev counts_of : Option Appointment → Bool
  counts_of found = option_map_or (λ (b : Appointment). b.number == number) (option_and_then (unended cutoffs holding) found) false

  -- it is ended, and governs nothing
  found-ended : list_any (ends cutoffs number) holding.ended ≡ true → (found : Option Appointment) → counts_of found ≡ false
  found-ended ended None = refl
  found-ended ended (Some b) =
      let left : Bool → Bool = λ gone. option_map_or (λ (c : Appointment). c.number == number) (cond gone None (Some b)) false in
      (elim (b.number == number) as (λ t. (b.number == number) ≡ t → left (is_ended cutoffs holding b) ≡ false) [
        | true ↦ λ same. ap left (ap (λ n. list_any (ends cutoffs n) holding.ended) (eqb-true b.number number same) ∙ ended)
        | false ↦ λ other. (elim (is_ended cutoffs holding b) as (λ gone. left gone ≡ false) [ true ↦ refl | false ↦ other ])
      ]) refl

  governs-ended : list_any (ends cutoffs number) holding.ended ≡ true → (place : ℕ) → governs cutoffs holding number place ≡ false
  governs-ended ended place =
      elim (has_share holding place) as (λ b. option_map_or (λ (a : Appointment). a.number == number) (cond b (option_and_then (unended cutoffs holding) (last_over cutoffs holding place)) None) false ≡ false) [
        | true ↦ found-ended ended (last_over cutoffs holding place)
        | false ↦ refl
      ]

  -- so no share is governed by it
  governed-ended : list_any (ends cutoffs number) holding.ended ≡ true → governed_in cutoffs holding number ≡ []
  governed-ended ended = (λ i. runs_that (λ place. governs-ended ended place i) holding.shares) ∙ runs-none holding.shares

  -- it is not ended, and governs as though nothing were
  abbrev never_ended : Holding
  never_ended = record holding { ended = [] }

  found-unended : list_any (ends cutoffs number) holding.ended ≡ false → (found : Option Appointment)
      → counts_of found ≡ option_map_or (λ (b : Appointment). b.number == number) found false
  found-unended stands None = refl
  found-unended stands (Some b) =
      let left : Bool → Bool = λ gone. option_map_or (λ (c : Appointment). c.number == number) (cond gone None (Some b)) false in
      (elim (b.number == number) as (λ t. (b.number == number) ≡ t → left (is_ended cutoffs holding b) ≡ (b.number == number)) [
        | true ↦ λ same. ap left (ap (λ n. list_any (ends cutoffs n) holding.ended) (eqb-true b.number number same) ∙ stands)
        | false ↦ λ other. (elim (is_ended cutoffs holding b) as (λ gone. left gone ≡ (b.number == number)) [ true ↦ sym other | false ↦ refl ])
      ]) refl

  governs-unended : list_any (ends cutoffs number) holding.ended ≡ false → (place : ℕ) → governs cutoffs holding number place ≡ governs cutoffs never_ended number place
  governs-unended stands place =
      elim (has_share holding place) as (λ b. option_map_or (λ (a : Appointment). a.number == number) (cond b (option_and_then (unended cutoffs holding) (last_over cutoffs holding place)) None) false
      ≡ option_map_or (λ (a : Appointment). a.number == number) (cond b (option_and_then (λ (c : Appointment). Some c) (last_over cutoffs holding place)) None) false) [
        | true ↦ found-unended stands (last_over cutoffs holding place) ∙ sym (preserved (last_over cutoffs holding place))
        | false ↦ refl
      ]
    where
      preserved : (found : Option Appointment) → option_map_or (λ (b : Appointment). b.number == number) (option_and_then (λ (c : Appointment). Some c) found) false ≡ option_map_or (λ (b : Appointment). b.number == number) found false
      preserved None = refl
      preserved (Some b) = refl

  governed-unended : list_any (ends cutoffs number) holding.ended ≡ false → governed_in cutoffs holding number ≡ governed_in cutoffs never_ended number
  governed-unended stands = λ i. runs_that (λ place. governs-unended stands place i) holding.shares

-- ---- between the openings

-- of values that differ, two that are alike are one
one-of : {X : Type 0} (alike : X → X → Bool) (xs : List X) (x y : X) → differ_by alike xs ≡ true → In x xs → In y xs → alike x y ≡ true → alike y x ≡ true → x ≡ y
one-of alike [] x y apart here there like turned = absurd here
one-of alike (z ∷ zs) x y apart here there like turned =
    let none = first_so (not (list_any (alike z) zs)) (differ_by alike zs) apart in
    let rest = second_so (not (list_any (alike z) zs)) (differ_by alike zs) apart in
    elim here [
      | inl is_x ↦ (elim there [
        | inl is_y ↦ sym is_x ∙ is_y
        | inr later ↦ absurd (clash (any-In (alike z) zs y later (ap (λ w. alike w y) is_x ∙ like)) none)
      ])
      | inr later_x ↦ (elim there [
        | inl is_y ↦ absurd (clash (any-In (alike z) zs x later_x (ap (λ w. alike w x) is_y ∙ turned)) none)
        | inr later_y ↦ one-of alike zs x y rest later_x later_y like turned
      ])
    ]
  where
    clash : {b : Bool} → b ≡ true → not b ≡ true → ⊥
    clash some none = true≢false (sym none ∙ ap not some)

-- what is before the opening is before what is not
sooner : (opened : Option ℕ) (now before after : ℕ) → option_map_or (λ moment. nat_le moment after) opened false ≡ true → nat_lt before (unwrap_or opened now) ≡ true → before < after
sooner None now before after late early = absurd (true≢false (sym late))
sooner (Some moment) now before after late early = grind (arith, nat_tests, late, early)

-- a name that is another's is the other's
same_name-turned : (a b : List ℕ) → same_name a b ≡ true → same_name b a ≡ true
same_name-turned a b same = ap (λ c. same_name c a) (sym (same_name-true a b same)) ∙ same_name-refl a

number-turned : (a b : ℕ) → (a == b) ≡ true → (b == a) ≡ true
number-turned a b same = grind (arith, nat_tests, same)

module _ (m : MeetingLists) (session : ℕ) (closed : List ℕ) (now : ℕ) (a : Appointment) (e : Ending) (between : ends_between m session now a e ≡ true) where
  abbrev after : Bool
  after = option_map_or (λ opened. nat_le opened e.moment) m.meeting.first.opened false

  abbrev before : Bool
  before = nat_lt e.moment (unwrap_or (session_of m.meeting session).opened now)

  -- the ending is the member's, of that number
  names_it : is_ending_of e a ≡ true
  names_it = first_so (is_ending_of e a) after (first_so (is_ending_of e a && after) before between)

  own : same_name e.member a.member ≡ true
  own = same_name-turned a.member e.member (first_so (same_name a.member e.member) (a.number == e.number) names_it)

  numbered : (e.number == a.number) ≡ true
  numbered = number-turned a.number e.number (second_so (same_name a.member e.member) (a.number == e.number) names_it)

  -- it counts for votes in the session
  counts : In e m.endings → list_any (ends (cutoffs_of m.meeting (Votes session) closed now) a.number) (filter (is_ended_of a.member) m.endings) ≡ true
  counts here =
      let cutoffs = cutoffs_of m.meeting (Votes session) closed now in
      any-filter (ends cutoffs a.number) (is_ended_of a.member) m.endings
      ∙ any-In (λ d. is_ended_of a.member d && ends cutoffs a.number d) m.endings e here
      (and_from (is_ended_of a.member e) (ends cutoffs a.number e) own
      (and_from (e.number == a.number) (nat_lt e.moment cutoffs.endings) numbered (second_so (is_ending_of e a && after) before between)))

  -- no ending of the appointment counts for acts, since it has this one alone
  no-other : is_meeting m ≡ true → In e m.endings → list_any (ends (cutoffs_of m.meeting (Acts session) closed now) a.number) (filter (is_ended_of a.member) m.endings) ≡ false
  no-other h here =
      let cutoffs = cutoffs_of m.meeting (Acts session) closed now in
      let listed = filter (is_ended_of a.member) m.endings in
      let each = list_all (λ (d : Ending). list_any (is_ending_of d) m.appointments) m.endings in
      let apart = second_so each (differ_by same_ending m.endings) (meeting_facts m h).endings in
      (elim (list_any (ends cutoffs a.number) listed) as (λ b. list_any (ends cutoffs a.number) listed ≡ b → b ≡ false) [
        | false ↦ λ none. refl
        | true ↦ λ some.
            let found = In-any (ends cutoffs a.number) listed some in
            let d = found.0 in
            let preserved = In-filter (is_ended_of a.member) m.endings d found.1.0 in
            let number = first_so (d.number == a.number) (nat_lt d.moment cutoffs.endings) found.1.1 in
            let early = second_so (d.number == a.number) (nat_lt d.moment cutoffs.endings) found.1.1 in
            let name : d.member ≡ e.member = same_name-true d.member a.member preserved.passes ∙ sym (same_name-true e.member a.member own) in
            let same : d.number ≡ e.number = eqb-true d.number a.number number ∙ sym (eqb-true e.number a.number numbered) in
            let like = alike d.member e.member d.number e.number name same in
            let turned = alike e.member d.member e.number d.number (sym name) (sym same) in
            let one = one-of same_ending m.endings d e apart preserved.here here like turned in
            let less = sooner m.meeting.first.opened now d.moment e.moment (second_so (is_ending_of e a) after (first_so (is_ending_of e a && after) before between)) early in
            absurd (omega (arith, less, ap (λ (x : Ending). x.moment) one))
      ]) refl
    where
      alike : (n k : List ℕ) (x y : ℕ) → n ≡ k → x ≡ y → (same_name n k && (x == y)) ≡ true
      alike n k x y name number = and_from (same_name n k) (x == y) (ap (λ l. same_name l k) name ∙ same_name-refl k) (grind (arith, nat_tests, number))

pub vote_taken : LaterEndingsTakeTheVote
vote_taken m session closed now a h some =
    let found = In-any (ends_between m session now a) m.endings some in
    let e = found.0 in
    let holding = holding_of m.register m.appointments m.endings a.member in
    record {
      acts = governed-unended (cutoffs_of m.meeting (Acts session) closed now) holding a.number (no-other m session closed now a e found.1.1 h found.1.0);
      votes = governed-ended (cutoffs_of m.meeting (Votes session) closed now) holding a.number (counts m session closed now a e found.1.1 found.1.0);
    }
