-- An appointment more, and an ending more, keep the lists of a meeting.
use Rattle.std.proofs.Common.{◌≡◌, ℕ, suc, Bool, true, false, ◌&&◌, ◌||◌, ◌==◌, cond, List, [], ◌∷◌, ◌++◌, length, refl, ap, sym, ◌∙◌, arith}
use Rattle.std.specs.Prelude.{Option, Some, None, option_map, find, filter, map, reverse, is_some, is_none, nat_le, count_by}
use Rattle.std.specs.List.{list_all, list_any}
use Rattle.std.specs.Cmp.{first_so, second_so}
use Rattle.std.specs.Cmp.Derive.{both_true}
use Rattle.std.proofs.lemmas.Bool.{eqb-true, or_from}
use Rattle.std.proofs.lemmas.Bool.Decides.{nat_tests}
use Rattle.std.proofs.lemmas.List.{append-nil, reverse-append}
use Rattle.std.proofs.lemmas.List.Sums.{length-filter}
use Rattle.std.proofs.lemmas.List.Folds.{list_all-append, list_any-append}
use Rattle.seq.proofs.Booleans.{neither_first, neither_second}
use Rattle.seq.proofs.Filtered.{any-filter, none-found}
use Rattle.std.proofs.Math.Bool.{or-false}
use Rattle.seq.proofs.Differing.{all_weaker, differ_snoc}
use Rattle.seq.specs.Ordered.{differ_by}
use Rattle.desk_words.specs.Names.{same_name}
use Rattle.desk_words.specs.Office.{are_appointments, are_endings, are_numbered_after, is_appointment, is_ending_of, is_meeting, same_ending}
use Rattle.desk_words.specs.declared.change.Entry.TheVariants as entry
use Rattle.desk_words.specs.declared.office.MeetingLists.{MeetingLists}
use Rattle.desk_words.specs.declared.records.Appointment.{Appointment}
use Rattle.desk_words.specs.declared.records.Ending.{Ending}
use Rattle.caller_view.specs.AppointmentRulings.{given_numbered, is_given_ended}
use Rattle.party_views.specs.OwnViews.{ended_at, given_in}
use Rattle.proxy_rules.specs.Holdings.{is_ended_of}
use Rattle.desk_words.proofs.OfficeFacts.{meeting_facts, meeting_from_facts}
use Rattle.desk_words.specs.Changes.{entered}

-- ---- an appointment more

-- the appointment is a party's
abbrev pub is_of : List ℕ → Appointment → Bool
is_of party a = same_name a.member party

append_one : {X : Type 0} (xs : List X) (x : X) (ys : List X) → xs ++ x ∷ ys ≡ (xs ++ x ∷ []) ++ ys
append_one [] x ys = refl
append_one (z ∷ zs) x ys = ap (λ l. z ∷ l) (append_one zs x ys)

-- the next of a member's numbers keeps the numbers
numbered_snoc : (earlier given : List Appointment) (a : Appointment) → are_numbered_after earlier given ≡ true
    → a.number ≡ suc (count_by (is_of a.member) (earlier ++ given)) → are_numbered_after earlier (given ++ a ∷ []) ≡ true
numbered_snoc earlier [] a h number =
    let next : a.number ≡ suc (count_by (is_of a.member) earlier) = number ∙ ap (λ xs. suc (count_by (is_of a.member) xs)) (append-nil earlier) in
    both_true (grind (arith, nat_tests)) refl
numbered_snoc earlier (x ∷ xs) a h number =
    let here = x.number == suc (count_by (λ (b : Appointment). same_name b.member x.member) earlier) in
    let rest = are_numbered_after (earlier ++ x ∷ []) xs in
    both_true (first_so here rest h)
    (numbered_snoc (earlier ++ x ∷ []) xs a (second_so here rest h) (number ∙ ap (λ ys. suc (count_by (is_of a.member) ys)) (append_one earlier x xs)))

any_front : {X : Type 0} (p : X → Bool) (xs ys : List X) → list_any p xs ≡ true → list_any p (xs ++ ys) ≡ true
any_front p xs ys h = list_any-append p xs ys ∙ ap (λ b. b || list_any p ys) h

-- a member may be given its next appointment
pub appointment_preserved : (a : Appointment) (m : MeetingLists) → is_meeting m ≡ true → a.number ≡ suc (count_by (is_of a.member) m.appointments)
    → nat_le 256 (count_by (is_of a.member) m.appointments) ≡ false → (length a.instructions == length m.meeting.resolutions) ≡ true
    → is_meeting (entered (entry.Appointment a) m) ≡ true
appointment_preserved a m h number few instructions =
    let f = meeting_facts m h in
    let n = length m.meeting.resolutions in
    let given = m.appointments in
    let numbered = are_numbered_after [] given in
    let fits = list_all (is_appointment n) given in
    let small : nat_le a.number 256 ≡ true = ap (λ k. nat_le k 256) number ∙ (let count = count_by (is_of a.member) given in grind (arith, nat_tests)) in
    let ends = λ (e : Ending). list_any (is_ending_of e) given in
    let ends_more = λ (e : Ending). list_any (is_ending_of e) (given ++ a ∷ []) in
    let apart = differ_by same_ending m.endings in
    let numbers : are_appointments n (given ++ a ∷ []) ≡ true = both_true
    (numbered_snoc [] given a (first_so numbered fits f.appointments) number)
    (list_all-append (is_appointment n) given (a ∷ []) ∙ both_true (second_so numbered fits f.appointments) (both_true (both_true small instructions) refl)) in
    let ended : are_endings (given ++ a ∷ []) m.endings ≡ true = both_true
    (all_weaker ends ends_more m.endings (λ e. any_front (is_ending_of e) given (a ∷ [])) (first_so (list_all ends m.endings) apart f.endings))
    (second_so (list_all ends m.endings) apart f.endings) in
    meeting_from_facts (entered (entry.Appointment a) m) (assumption (numbers, ended, f))

-- so many appointments are a party's
pub given_by_party : (party : List ℕ) (given : List Appointment) → length (filter (is_of party) given) ≡ count_by (is_of party) given
given_by_party party given = length-filter (is_of party) given

-- ---- an ending more

-- an appointment that is not ended may be ended
pub ending_preserved : (e : Ending) (m : MeetingLists) → is_meeting m ≡ true → list_any (is_ending_of e) m.appointments ≡ true
    → list_any (λ d. same_ending d e) m.endings ≡ false → is_meeting (entered (entry.Ending e) m) ≡ true
ending_preserved e m h given fresh =
    let f = meeting_facts m h in
    let ends = λ (d : Ending). list_any (is_ending_of d) m.appointments in
    let apart = differ_by same_ending m.endings in
    let ended : are_endings m.appointments (m.endings ++ e ∷ []) ≡ true = both_true
    (list_all-append ends m.endings (e ∷ []) ∙ both_true (first_so (list_all ends m.endings) apart f.endings) (both_true given refl))
    (differ_snoc same_ending m.endings e (second_so (list_all ends m.endings) apart f.endings) fresh) in
    meeting_from_facts (entered (entry.Ending e) m) (assumption (ended, f))

-- the appointment of a number that a party is told of is among those of the meeting
pub numbered_given : (endings : List Ending) (party : List ℕ) (number : ℕ) (given : List Appointment)
    → is_none (given_numbered (map (given_in endings) (filter (is_of party) given)) number) ≡ false
    → list_any (λ (a : Appointment). same_name a.member party && a.number == number) given ≡ true
numbered_given endings party number [] = λ h. absurd (cc)
numbered_given endings party number (a ∷ rest) =
    elim (is_of party a) as (λ b. is_none (given_numbered (map (given_in endings) (cond b (a ∷ filter (is_of party) rest) (filter (is_of party) rest))) number) ≡ false
    → ((b && a.number == number) || list_any (λ (x : Appointment). same_name x.member party && x.number == number) rest) ≡ true) [
      | true ↦ elim (a.number == number) as (λ c. is_none (cond c (Some (given_in endings a)) (given_numbered (map (given_in endings) (filter (is_of party) rest)) number)) ≡ false
          → (c || list_any (λ (x : Appointment). same_name x.member party && x.number == number) rest) ≡ true) [
            | true ↦ λ _. refl
            | false ↦ numbered_given endings party number rest
          ]
      | false ↦ numbered_given endings party number rest
    ]

any_reverse : {X : Type 0} (p : X → Bool) (xs : List X) → list_any p (reverse xs) ≡ false → list_any p xs ≡ false
any_reverse p [] h = refl
any_reverse p (x ∷ xs) h =
    let parts : (list_any p (reverse xs) || p x) ≡ false =
    ap (λ b. list_any p (reverse xs) || b) (sym (or-false (p x))) ∙ sym (list_any-append p (reverse xs) (x ∷ [])) ∙ ap (list_any p) (sym (reverse-append (x ∷ []) xs)) ∙ h in
    or_from (p x) (list_any p xs) (neither_second (list_any p (reverse xs)) (p x) parts) (any_reverse p xs (neither_first (list_any p (reverse xs)) (p x) parts))

-- where an appointment has no moment of an ending, none is found
no_moment : (o : Option Ending) → is_some (option_map (λ (e : Ending). e.moment) o) ≡ false → o ≡ None
no_moment None h = refl
no_moment (Some e) h = absurd (cc)

-- the ending names that number
abbrev ends_number : ℕ → Ending → Bool
ends_number number e = e.number == number

-- the ending is of the party's appointment of that number
abbrev is_ending : List ℕ → ℕ → Ending → Bool
is_ending party number e = is_ended_of party e && ends_number number e

-- where a party's appointment is not ended, no ending names it
pub unended_none : (endings : List Ending) (party : List ℕ) (number : ℕ) (given : List Appointment)
    → is_none (given_numbered (map (given_in (filter (is_ended_of party) endings)) (filter (is_of party) given)) number) ≡ false
    → is_given_ended (given_numbered (map (given_in (filter (is_ended_of party) endings)) (filter (is_of party) given)) number) ≡ false
    → list_any (is_ending party number) endings ≡ false
unended_none endings party number [] = λ h. absurd (cc)
unended_none endings party number (a ∷ rest) =
    let own = filter (is_ended_of party) endings in
    elim (is_of party a) as (λ b.
    is_none (given_numbered (map (given_in own) (cond b (a ∷ filter (is_of party) rest) (filter (is_of party) rest))) number) ≡ false
    → is_given_ended (given_numbered (map (given_in own) (cond b (a ∷ filter (is_of party) rest) (filter (is_of party) rest))) number) ≡ false
    → list_any (is_ending party number) endings ≡ false) [
      | true ↦ (elim (a.number == number) as (λ c. (a.number == number) ≡ c
          → is_none (cond c (Some (given_in own a)) (given_numbered (map (given_in own) (filter (is_of party) rest)) number)) ≡ false
          → is_given_ended (cond c (Some (given_in own a)) (given_numbered (map (given_in own) (filter (is_of party) rest)) number)) ≡ false
          → list_any (is_ending party number) endings ≡ false) [
            | true ↦ λ same _ live.
                let none : find (ends_number number) (reverse own) ≡ None =
                no_moment (find (ends_number number) (reverse own)) ((λ i. is_some (ended_at own (sym (eqb-true a.number number same) i))) ∙ live) in
                sym (any-filter (ends_number number) (is_ended_of party) endings) ∙ any_reverse (ends_number number) own (none-found (ends_number number) (reverse own) none)
            | false ↦ λ _. unended_none endings party number rest
          ]) refl
      | false ↦ unended_none endings party number rest
    ]
