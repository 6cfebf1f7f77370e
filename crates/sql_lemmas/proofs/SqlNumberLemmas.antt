-- The numbers of an office are below 2^63.
use Rattle.std.proofs.Common.{◌≡◌, ℕ, zero, suc, ◌+◌, ◌^◌, ◌<◌, ◌==◌, ◌&&◌, ◌||◌, Bool, true, false, cond, List, [], ◌∷◌, length, slice_get, Option, Some, None, is_some, inl, inr, refl, sym, subst, arith, nat_le, true≢false}
use Rattle.std.specs.Cmp.{first_so, second_so}
use Rattle.std.specs.List.{list_all, list_any}
use Rattle.std.proofs.lemmas.Bool.{cases_Bool}
use Rattle.std.proofs.lemmas.Bool.Decides.{nat_tests}
use Rattle.vocabulary.specs.Names.{same_name}
use Rattle.vocabulary.specs.declared.range.TheConstants.{MOST_PLACES}
use Rattle.seq.specs.Ordered.{differ_by, ascends_by}
use Rattle.desk_words.specs.declared.limits.TheConstants.{MOST_APPOINTMENTS, MOST_PENCE, MOST_RESOLUTIONS, MOST_ROWS, MOST_SESSIONS, MOST_SHARES}
use Rattle.desk_words.specs.declared.records.RegisterRow.{RegisterRow}
use Rattle.desk_words.specs.declared.records.Appointment.{Appointment}
use Rattle.desk_words.specs.declared.records.Ending.{Ending}
use Rattle.desk_words.specs.declared.records.DemandMark.{DemandMark}
use Rattle.desk_words.specs.declared.records.PresenceMark.{PresenceMark}
use Rattle.desk_words.specs.declared.records.Session.{Session}
use Rattle.desk_words.specs.declared.records.Meeting.{Meeting}
use Rattle.desk_words.specs.declared.records.Poll.{Poll}
use Rattle.desk_words.specs.declared.records.Tally.{Tally}
use Rattle.desk_words.specs.declared.records.CastMark.{CastMark}
use Rattle.desk_words.specs.Registers.{all_shares, is_holding, is_register, keep_limits, member_before}
use Rattle.desk_words.specs.Office.{are_numbered_after, are_polls, implies, is_appointment, is_cast_on, is_declared_right, is_demand, is_ending_of, is_poll, is_resolution, is_tally, no_rows, poll_before, same_demand, same_ending, same_presence}
use Rattle.desk_words.specs.Sessions.{is_opened, is_opened_session, is_session, is_there, last_number, sessions_of}
use Rattle.desk_words.proofs.OfficeFacts.{meeting_facts}
use Rattle.sql_lemmas.specs.StoredNumbers.{OfficesFit, fits_row, tally_fits}

both_true : (a b : Bool) → a ≡ true → b ≡ true → (a && b) ≡ true
both_true a b h k = rw (h, k) refl

-- what passes one test passes another
all_so : {X : Type 0} (p q : X → Bool) (xs : List X) → ((x : X) → p x ≡ true → q x ≡ true) → list_all p xs ≡ true → list_all q xs ≡ true
all_so p q [] next h = refl
all_so p q (x ∷ xs) next h = both_true (q x) (list_all q xs) (next x (first_so (p x) (list_all p xs) h)) (all_so p q xs next (second_so (p x) (list_all p xs) h))

-- what some element tells
from_any : {X : Type 0} (p q : X → Bool) (r : Bool) (xs : List X) → ((x : X) → p x ≡ true → q x ≡ true → r ≡ true) → list_any p xs ≡ true → list_all q xs ≡ true → r ≡ true
from_any p q r [] next some all = absurd (true≢false (sym some))
from_any p q r (x ∷ xs) next some all = elim (cases_Bool (p x)) [
  | inl is ↦ next x is (first_so (q x) (list_all q xs) all)
  | inr fails ↦ from_any p q r xs next (subst (λ b. (b || list_any p xs) ≡ true) fails some) (second_so (q x) (list_all q xs) all)
]

fits_below : (n k : ℕ) → nat_le n k ≡ true → k < 2 ^ 63 → fits_row n ≡ true
fits_below n k h small = grind (arith, nat_tests)

same_number : (m n : ℕ) → (m == n) ≡ true → fits_row m ≡ true → fits_row n ≡ true
same_number m n h k = let same : m ≡ n = grind (arith, nat_tests) in subst (λ l. fits_row l ≡ true) same k

few_places : MOST_PLACES < 2 ^ 63
few_places = omega arith

few_pence : MOST_PENCE < 2 ^ 63
few_pence = omega arith

few_resolutions : MOST_RESOLUTIONS < 2 ^ 63
few_resolutions = omega arith

few_appointments : MOST_APPOINTMENTS < 2 ^ 63
few_appointments = omega arith

few_sessions : MOST_SESSIONS < 2 ^ 63
few_sessions = omega arith

holding : (row : RegisterRow) → is_holding row ≡ true → (fits_row row.shares && fits_row row.paid) ≡ true
holding row h =
    let shares = first_so (nat_le 1 row.shares && nat_le row.shares MOST_PLACES) (nat_le row.paid MOST_PENCE) h in
    both_true (fits_row row.shares) (fits_row row.paid) (fits_below row.shares MOST_PLACES (second_so (nat_le 1 row.shares) (nat_le row.shares MOST_PLACES) shares) few_places)
    (fits_below row.paid MOST_PENCE (second_so (nat_le 1 row.shares && nat_le row.shares MOST_PLACES) (nat_le row.paid MOST_PENCE) h) few_pence)

rows_of : (loaded : Bool) (rows : List RegisterRow) → cond loaded (is_register rows) (no_rows rows) ≡ true → list_all (λ (row : RegisterRow). fits_row row.shares && fits_row row.paid) rows ≡ true
rows_of true rows h =
    let limits = first_so (keep_limits rows) (ascends_by member_before rows) h in
    let each = first_so (nat_le 1 (length rows) && nat_le (length rows) MOST_ROWS && list_all is_holding rows) (nat_le (all_shares rows) MOST_SHARES) limits in
    all_so is_holding (λ (row : RegisterRow). fits_row row.shares && fits_row row.paid) rows holding (second_so (nat_le 1 (length rows) && nat_le (length rows) MOST_ROWS) (list_all is_holding rows) each)
rows_of false [] h = refl
rows_of false (row ∷ rows) h = absurd (true≢false (sym h))

resolution : (resolutions n : ℕ) → nat_le resolutions MOST_RESOLUTIONS ≡ true → is_resolution resolutions n ≡ true → fits_row n ≡ true
resolution resolutions n few h =
    let up : nat_le n resolutions ≡ true = second_so (nat_le 1 n) (nat_le n resolutions) h in
    let both : nat_le n MOST_RESOLUTIONS ≡ true = grind (arith, nat_tests) in
    fits_below n MOST_RESOLUTIONS both few_resolutions

below_few : (n most : ℕ) → nat_le n most ≡ true → nat_le most MOST_SESSIONS ≡ true → fits_row n ≡ true
below_few n most h few = let both : nat_le n MOST_SESSIONS ≡ true = grind (arith, nat_tests) in fits_below n MOST_SESSIONS both few_sessions

session : (m : Meeting) (s : ℕ) → nat_le (last_number m) MOST_SESSIONS ≡ true → is_session m s ≡ true → fits_row s ≡ true
session m s few h = below_few s (last_number m) (second_so (nat_le 1 s) (nat_le s (last_number m)) h) few

one_or_more : (n : ℕ) → nat_le 1 (suc n) ≡ true
one_or_more n = grind (arith, nat_tests)

one_further : (m n : ℕ) → nat_le m n ≡ true → nat_le (suc m) (suc n) ≡ true
one_further m n h = grind (arith, nat_tests)

-- a session that is opened is one of those that are there
there_below : (xs : List Session) (at : ℕ) → is_there is_opened (slice_get xs at) ≡ true → nat_le (suc at) (length xs) ≡ true
there_below [] at h = absurd (true≢false (sym h))
there_below (x ∷ xs) zero h = one_or_more (length xs)
there_below (x ∷ xs) (suc at) h = one_further (suc at) (length xs) (there_below xs at h)

opened_session : (m : Meeting) (s : ℕ) → nat_le (last_number m) MOST_SESSIONS ≡ true → is_opened_session m s ≡ true → fits_row s ≡ true
opened_session m zero few h = absurd (true≢false (sym h))
opened_session m (suc at) few h = below_few (suc at) (last_number m) (there_below (sessions_of m) at h) few

figures : (t : Tally) → is_tally t ≡ true → tally_fits (Some t) ≡ true
figures t h =
    let votes : nat_le (t.votes_for + t.votes_against + t.withheld) t.eligible ≡ true = first_so (nat_le (t.votes_for + t.votes_against + t.withheld) t.eligible) (nat_le t.eligible MOST_PLACES) h in
    let shares : nat_le t.eligible MOST_PLACES ≡ true = second_so (nat_le (t.votes_for + t.votes_against + t.withheld) t.eligible) (nat_le t.eligible MOST_PLACES) h in
    let a : nat_le t.votes_for MOST_PLACES ≡ true = grind (arith, nat_tests) in
    let b : nat_le t.votes_against MOST_PLACES ≡ true = grind (arith, nat_tests) in
    let c : nat_le t.withheld MOST_PLACES ≡ true = grind (arith, nat_tests) in
    let p = fits_below t.votes_for MOST_PLACES a few_places in
    let q = fits_below t.votes_against MOST_PLACES b few_places in
    let r = fits_below t.withheld MOST_PLACES c few_places in
    let s = fits_below t.eligible MOST_PLACES shares few_places in
    rw (p, q, r, s) refl

declared : (t : Option Tally) → is_declared_right t ≡ true → tally_fits t ≡ true
declared None h = refl
declared (Some t) h = figures t h

poll : (m : Meeting) → nat_le (length m.resolutions) MOST_RESOLUTIONS ≡ true → nat_le (last_number m) MOST_SESSIONS ≡ true → (p : Poll) → is_poll m p ≡ true → (fits_row p.session && fits_row p.resolution && tally_fits p.declared) ≡ true
poll m few some p h =
    let s = is_opened_session m p.session in
    let a = is_resolution (length m.resolutions) p.resolution in
    let b = implies (is_some p.closed) (is_some p.started) in
    let c = implies (is_some p.declared) (is_some p.closed) in
    let d = is_declared_right p.declared in
    let front = first_so (s && a) b (first_so (s && a && b) c (first_so (s && a && b && c) d h)) in
    both_true (fits_row p.session && fits_row p.resolution) (tally_fits p.declared)
    (both_true (fits_row p.session) (fits_row p.resolution) (opened_session m p.session some (first_so s a front)) (resolution (length m.resolutions) p.resolution few (second_so s a front)))
    (declared p.declared (second_so (s && a && b && c) d h))

polls_are : (m : Meeting) (ps : List Poll) → nat_le (length m.resolutions) MOST_RESOLUTIONS ≡ true → nat_le (last_number m) MOST_SESSIONS ≡ true → are_polls m ps ≡ true → list_all (λ (p : Poll). fits_row p.session && fits_row p.resolution && tally_fits p.declared) ps ≡ true
polls_are m ps few some h =
    all_so (is_poll m) (λ (p : Poll). fits_row p.session && fits_row p.resolution && tally_fits p.declared) ps (poll m few some) (first_so (list_all (is_poll m) ps) (ascends_by poll_before ps) h)

pub offices_fit : OfficesFit
offices_fit m h =
    let f = meeting_facts m h in
    let n = length m.meeting.resolutions in
    let few : nat_le n MOST_RESOLUTIONS ≡ true = second_so (nat_le 1 n) (nat_le n MOST_RESOLUTIONS) f.resolutions in
    let given = all_so (is_appointment n) (λ (a : Appointment). fits_row a.number) m.appointments (λ a is. fits_below a.number MOST_APPOINTMENTS (first_so (nat_le a.number MOST_APPOINTMENTS) (length a.instructions == n) is) few_appointments)
    (second_so (are_numbered_after [] m.appointments) (list_all (is_appointment n) m.appointments) f.appointments) in
    let some : nat_le (last_number m.meeting) MOST_SESSIONS ≡ true = first_so (nat_le (last_number m.meeting) MOST_SESSIONS) _ f.sessions in
    let held = polls_are m.meeting m.polls few some f.polls in
    let ended = first_so (list_all (λ e. list_any (is_ending_of e) m.appointments) m.endings) (differ_by same_ending m.endings) f.endings in
    let cast_each = first_so (list_all (λ c. list_any (is_cast_on c) m.polls) m.casts) _ f.casts in
    record {
      resolutions = fits_below n MOST_RESOLUTIONS few few_resolutions;
      register = rows_of m.meeting.loaded m.register (first_so (cond m.meeting.loaded (is_register m.register) (no_rows m.register)) (implies (is_opened m.meeting.first) m.meeting.loaded) f.loaded);
      appointments = given;
      endings = all_so (λ e. list_any (is_ending_of e) m.appointments) (λ (e : Ending). fits_row e.number) m.endings
          (λ e on. from_any (is_ending_of e) (λ (a : Appointment). fits_row a.number) (fits_row e.number) m.appointments (λ a is preserved. same_number a.number e.number (second_so (same_name a.member e.member) (a.number == e.number) is) preserved) on given)
          ended;
      sessions = fits_below (last_number m.meeting) MOST_SESSIONS some few_sessions;
      presences = all_so (λ (p : PresenceMark). is_session m.meeting p.session) (λ (p : PresenceMark). fits_row p.session) m.presences (λ p is. session m.meeting p.session some is)
          (first_so (list_all (λ (p : PresenceMark). is_session m.meeting p.session) m.presences) (differ_by same_presence m.presences) f.presences);
      demands = all_so (is_demand m.meeting) (λ (d : DemandMark). fits_row d.session && fits_row d.resolution) m.demands
          (λ d on. both_true (fits_row d.session) (fits_row d.resolution) (session m.meeting d.session some (first_so (is_session m.meeting d.session) (is_resolution n d.resolution) on)) (resolution n d.resolution few (second_so (is_session m.meeting d.session) (is_resolution n d.resolution) on)))
          (first_so (list_all (is_demand m.meeting) m.demands) (differ_by same_demand m.demands) f.demands);
      polls = held;
      casts = all_so (λ c. list_any (is_cast_on c) m.polls) (λ (c : CastMark). fits_row c.resolution) m.casts
          (λ c on. from_any (is_cast_on c) (λ (p : Poll). fits_row p.session && fits_row p.resolution && tally_fits p.declared) (fits_row c.resolution) m.polls
          (λ p is preserved. same_number p.resolution c.resolution (first_so (p.resolution == c.resolution) (is_some p.started) is) (second_so (fits_row p.session) (fits_row p.resolution) (first_so (fits_row p.session && fits_row p.resolution) (tally_fits p.declared) preserved))) on held)
          cast_each;
    }
