-- Each change of a meeting keeps the lists of a meeting.
use Rattle.std.proofs.Common.{◌≡◌, ℕ, zero, suc, ◌+◌, ◌-◌, Bool, true, false, ◌&&◌, ◌||◌, ◌==◌, cond, List, [], ◌∷◌, ◌++◌, length, slice_set, take, refl, ap, sym, ◌∙◌, arith, add-zero, length-append}
use Rattle.std.specs.Prelude.{Option, Some, None, filter, is_some, unwrap_or, nat_le, nat_lt, count_by}
use Rattle.std.specs.List.{list_all, list_any, slice_get}
use Rattle.std.specs.Cmp.{first_so, second_so}
use Rattle.std.specs.Cmp.Derive.{both_true}
use Rattle.std.proofs.lemmas.Bool.{eqb-true}
use Rattle.std.proofs.lemmas.Bool.Decides.{nat_tests}
use Rattle.std.proofs.lemmas.List.{length-set}
use Rattle.std.proofs.lemmas.List.Folds.{list_all-append}
use Rattle.std.proofs.lemmas.Option.{slice_get-get_or}
use Rattle.seq.proofs.Filtered.{found-any, found-passes}
use Rattle.seq.proofs.Ascending.{ascends_by-change_first}
use Rattle.seq.proofs.Differing.{all_changed_found, all_weaker, any_preserved, count_filter, count_snoc}
use Rattle.seq.proofs.Inserting.{all-insert, any-insert, ascends-insert}
use Rattle.desk_words.proofs.WordRowLemmas.{same_name-true}
use Rattle.desk_words.specs.Names.{same_name}
use Rattle.desk_words.specs.Ordered.{ascends_by, differ_by}
use Rattle.desk_words.specs.Registers.{is_register}
use Rattle.desk_words.specs.Office.{implies, is_loaded_right, no_rows, is_resolution, is_declared_right, is_poll, is_tally, poll_before, are_demands, are_polls, are_presences, is_cast_on, same_ballot, same_demand, same_presence, are_casts, is_meeting}
use Rattle.desk_words.specs.Sessions.{adjourned_to, are_sessions, is_opened, is_opened_session, is_session, is_there, last_later, last_number, last_session, open_there, opened_at, session_on, sessions_of}
use Rattle.desk_words.specs.declared.limits.TheConstants.{MOST_SESSIONS}
use Rattle.desk_words.specs.declared.change.Entry.TheVariants as entry
use Rattle.desk_words.specs.declared.office.MeetingLists.{MeetingLists}
use Rattle.desk_words.specs.declared.records.RegisterRow.{RegisterRow}
use Rattle.desk_words.specs.declared.records.CastMark.{CastMark}
use Rattle.desk_words.specs.declared.records.DemandMark.{DemandMark}
use Rattle.desk_words.specs.declared.records.Meeting.{Meeting}
use Rattle.desk_words.specs.declared.records.PresenceMark.{PresenceMark}
use Rattle.desk_words.specs.declared.records.Session.{Session}
use Rattle.desk_words.specs.declared.records.Poll.{Poll}
use Rattle.desk_words.specs.declared.records.Tally.{Tally}
use Rattle.desk_words.specs.Finding.{poll_on}
use Rattle.party_views.specs.OwnCasts.{cast_count}
use Rattle.desk_words.proofs.OfficeFacts.{meeting_facts, meeting_from_facts, find-passes}
use Rattle.desk_words.specs.declared.change.MeetingChange.TheVariants.{SetRegister, SetOpened, AddSession, AddPoll, SetPoll}
use Rattle.desk_words.specs.declared.change.PollChange.TheVariants.{Started, Closed, Declared}
use Rattle.desk_words.specs.Changes.{changed, change_poll, entered, advanced}

pub implies_true : (b : Bool) → implies b true ≡ true
implies_true true = refl
implies_true false = refl

-- ---- a register, and the opening

-- a meeting may be given a register
pub register_preserved : (rows : List RegisterRow) (m : MeetingLists) → is_register rows ≡ true → is_meeting m ≡ true → is_meeting (changed (SetRegister rows) m) ≡ true
register_preserved rows m good h =
    let f = meeting_facts m h in
    let loaded : is_loaded_right (changed (SetRegister rows) m) ≡ true = both_true good (implies_true (is_opened m.meeting.first)) in
    meeting_from_facts (changed (SetRegister rows) m) (assumption (loaded, f))

-- what a poll is, taken apart
record PollFacts (m : Meeting) (p : Poll) : Type 0 where
  session : is_opened_session m p.session ≡ true
  number : is_resolution (length m.resolutions) p.resolution ≡ true
  closed : implies (is_some p.closed) (is_some p.started) ≡ true
  declared : implies (is_some p.declared) (is_some p.closed) ≡ true
  tally : is_declared_right p.declared ≡ true

poll_facts : (m : Meeting) (p : Poll) → is_poll m p ≡ true → PollFacts m p
poll_facts m p h =
    let s = is_opened_session m p.session in
    let a = is_resolution (length m.resolutions) p.resolution in
    let b = implies (is_some p.closed) (is_some p.started) in
    let c = implies (is_some p.declared) (is_some p.closed) in
    let d = is_declared_right p.declared in
    let four = first_so (s && a && b && c) d h in
    let three = first_so (s && a && b) c four in
    let two = first_so (s && a) b three in
    record {
      session = first_so s a two;
      number = second_so s a two;
      closed = second_so (s && a) b three;
      declared = second_so (s && a && b) c four;
      tally = second_so (s && a && b && c) d h;
    }

-- ---- sessions

-- the session of the last number is the last session
last_at : (first : Session) (later : List Session) → slice_get (first ∷ later) (length later) ≡ Some (unwrap_or (slice_get later (length later - 1)) first)
last_at first [] = refl
last_at first (s ∷ later) =
    let there = slice_get-get_or (s ∷ later) (length later) s (omega arith) in
    let last : length later ≡ suc (length later) - 1 = omega arith in
    there ∙ ap (λ found. Some (unwrap_or found first)) (sym there ∙ ap (slice_get (s ∷ later)) last)

-- where the last session is opened, its number is that of a session that is
pub last_opened : (m : Meeting) → is_opened (last_session m) ≡ true → is_opened_session m (last_number m) ≡ true
last_opened m opened = ap (is_there is_opened) (last_at m.first m.later) ∙ opened

-- the last number is that of a session
pub last_there : (m : Meeting) → is_session m (last_number m) ≡ true
last_there m = grind (arith, nat_tests)

-- one more session opened, each that is opened stays so
opened_all : (sessions : List Session) (k : ℕ) (s : Session) (n : ℕ) → is_opened s ≡ true → list_all is_opened (take n sessions) ≡ true → list_all is_opened (take n (slice_set sessions k s)) ≡ true
opened_all [] k s n o h = h
opened_all (x ∷ xs) zero s zero o h = refl
opened_all (x ∷ xs) zero s (suc n) o h = both_true o (second_so (is_opened x) (list_all is_opened (take n xs)) h)
opened_all (x ∷ xs) (suc k) s zero o h = refl
opened_all (x ∷ xs) (suc k) s (suc n) o h =
    both_true (first_so (is_opened x) (list_all is_opened (take n xs)) h) (opened_all xs k s n o (second_so (is_opened x) (list_all is_opened (take n xs)) h))

opened_there : (sessions : List Session) (k : ℕ) (s : Session) (at : ℕ) → is_opened s ≡ true → is_there is_opened (slice_get sessions at) ≡ true
    → is_there is_opened (slice_get (slice_set sessions k s) at) ≡ true
opened_there [] k s at o h = h
opened_there (x ∷ xs) zero s zero o h = o
opened_there (x ∷ xs) zero s (suc at) o h = h
opened_there (x ∷ xs) (suc k) s zero o h = h
opened_there (x ∷ xs) (suc k) s (suc at) o h = opened_there xs k s at o h

-- so a poll's session stays opened
stays_opened : (one other : Meeting) (k : ℕ) (s : Session) → sessions_of other ≡ slice_set (sessions_of one) k s → is_opened s ≡ true → (number : ℕ) → is_opened_session one number ≡ true
    → is_opened_session other number ≡ true
stays_opened one other k s is o zero h = h
stays_opened one other k s is o (suc at) h = ap (λ sessions. is_there is_opened (slice_get sessions at)) is ∙ opened_there (sessions_of one) k s at o h

-- and the polls stay polls of the meeting
polls_stay : (one other : Meeting) (polls : List Poll) → length one.resolutions ≡ length other.resolutions → ((number : ℕ) → is_opened_session one number ≡ true → is_opened_session other number ≡ true)
    → are_polls one polls ≡ true → are_polls other polls ≡ true
polls_stay one other polls same opened h =
    both_true
    (all_weaker (is_poll one) (is_poll other) polls (λ p good.
    let f = poll_facts one p good in
    both_true (both_true (both_true (both_true (opened p.session f.session) (ap (λ n. is_resolution n p.resolution) (sym same) ∙ f.number)) f.closed) f.declared) f.tally)
    (first_so (list_all (is_poll one) polls) (ascends_by poll_before polls) h))
    (second_so (list_all (is_poll one) polls) (ascends_by poll_before polls) h)

-- a loaded meeting whose first session is opened, or another
open_there_preserved : (moment : ℕ) (m : MeetingLists) (found : Option Session) → is_meeting m ≡ true → m.meeting.loaded ≡ true → is_meeting (record m { meeting = open_there moment m.meeting found }) ≡ true
open_there_preserved moment m None h loaded =
    let f = meeting_facts m h in
    let one = m.meeting in
    let other = open_there moment one None in
    let s = opened_at moment one.first in
    let few = nat_le (last_number one) MOST_SESSIONS in
    let before = list_all is_opened (take (length one.later) (sessions_of one)) in
    let sessions : are_sessions other ≡ true = both_true (first_so few before f.sessions) (opened_all (sessions_of one) 0 s (length one.later) refl (second_so few before f.sessions)) in
    let right : is_loaded_right (record m { meeting = other }) ≡ true =
    both_true (first_so (cond one.loaded (is_register m.register) (no_rows m.register)) (implies (is_opened one.first) one.loaded) f.loaded) loaded in
    let polls : are_polls other m.polls ≡ true = polls_stay one other m.polls refl (stays_opened one other 0 s refl refl) f.polls in
    meeting_from_facts (record m { meeting = other }) (assumption (sessions, right, polls, f))
open_there_preserved moment m (Some session) h loaded =
    let f = meeting_facts m h in
    let one = m.meeting in
    let other = open_there moment one (Some session) in
    let s = opened_at moment session in
    let at = length one.later - 1 in
    let count : length other.later ≡ length one.later = length-set one.later at s in
    let number : last_number other ≡ last_number one = ap suc count in
    let few = nat_le (last_number one) MOST_SESSIONS in
    let before = list_all is_opened (take (length one.later) (sessions_of one)) in
    let sessions : are_sessions other ≡ true = both_true
    (ap (λ n. nat_le n MOST_SESSIONS) number ∙ first_so few before f.sessions)
    (ap (λ n. list_all is_opened (take n (sessions_of other))) count ∙ opened_all (sessions_of one) (suc at) s (length one.later) refl (second_so few before f.sessions)) in
    let presences : are_presences other m.presences ≡ true =
    ap (λ n. list_all (λ (p : PresenceMark). nat_le 1 p.session && nat_le p.session n) m.presences && differ_by same_presence m.presences) number ∙ f.presences in
    let demands : are_demands other m.demands ≡ true =
    ap (λ n. list_all (λ (d : DemandMark). (nat_le 1 d.session && nat_le d.session n) && is_resolution (length one.resolutions) d.resolution) m.demands && differ_by same_demand m.demands) number ∙ f.demands in
    let polls : are_polls other m.polls ≡ true = polls_stay one other m.polls refl (stays_opened one other (suc at) s refl refl) f.polls in
    meeting_from_facts (record m { meeting = other }) (assumption (sessions, presences, demands, polls, f))

-- the last session of a loaded meeting may be opened
pub opening_preserved : (moment : ℕ) (m : MeetingLists) → is_meeting m ≡ true → m.meeting.loaded ≡ true → is_meeting (changed (SetOpened moment) m) ≡ true
opening_preserved moment m h loaded = open_there_preserved moment m (last_later m.meeting) h loaded

-- ---- the adjournment

-- where the last session is opened, and those before it are, all are
all_opened : (first : Session) (later : List Session) → list_all is_opened (take (length later) (first ∷ later)) ≡ true
    → is_there is_opened (slice_get (first ∷ later) (length later)) ≡ true → list_all is_opened (first ∷ later) ≡ true
all_opened first [] before last = both_true last refl
all_opened first (s ∷ later) before last =
    both_true (first_so (is_opened first) (list_all is_opened (take (length later) (s ∷ later))) before)
    (all_opened s later (second_so (is_opened first) (list_all is_opened (take (length later) (s ∷ later))) before) last)

-- as many as there were, of those with one more behind them, are those
take_behind : (sessions : List Session) (s : Session) → take (length sessions) (sessions ++ s ∷ []) ≡ sessions
take_behind [] s = refl
take_behind (x ∷ xs) s = ap (λ rest. x ∷ rest) (take_behind xs s)

-- a session that is there stays there
there_behind : (sessions : List Session) (s : Session) (at : ℕ) → is_there is_opened (slice_get sessions at) ≡ true
    → is_there is_opened (slice_get (sessions ++ s ∷ []) at) ≡ true
there_behind [] s at h = absurd (cc)
there_behind (x ∷ xs) s zero h = h
there_behind (x ∷ xs) s (suc at) h = there_behind xs s at h

stays_behind : (one : Meeting) (moment number : ℕ) → is_opened_session one number ≡ true → is_opened_session (adjourned_to moment one) number ≡ true
stays_behind one moment zero h = h
stays_behind one moment (suc at) h = there_behind (sessions_of one) (session_on moment) at h

-- a number of a session is one where there is a session more
more_numbers : (number last : ℕ) → (nat_le 1 number && nat_le number last) ≡ true → (nat_le 1 number && nat_le number (suc last)) ≡ true
more_numbers number last h =
    let high : nat_le number last ≡ true = second_so (nat_le 1 number) (nat_le number last) h in
    both_true (first_so (nat_le 1 number) (nat_le number last) h) (grind (arith, nat_tests))

-- a meeting whose last session is opened may have one session more, where it has fewer than 10
pub adjournment_preserved : (moment : ℕ) (m : MeetingLists) → is_meeting m ≡ true → nat_le MOST_SESSIONS (last_number m.meeting) ≡ false
    → is_opened (last_session m.meeting) ≡ true → is_meeting (changed (AddSession moment) m) ≡ true
adjournment_preserved moment m h room opened =
    let f = meeting_facts m h in
    let one = m.meeting in
    let other = adjourned_to moment one in
    let count : length other.later ≡ suc (length one.later) = length-append one.later (session_on moment ∷ []) ∙ omega arith in
    let number : last_number other ≡ suc (last_number one) = ap suc count in
    let few = nat_le (last_number one) MOST_SESSIONS in
    let before = list_all is_opened (take (length one.later) (sessions_of one)) in
    let all : list_all is_opened (sessions_of one) ≡ true = all_opened one.first one.later (second_so few before f.sessions) (last_opened one opened) in
    let short : nat_le (suc (last_number one)) MOST_SESSIONS ≡ true = grind (arith, nat_tests) in
    let sessions : are_sessions other ≡ true = both_true
    (ap (λ n. nat_le n MOST_SESSIONS) number ∙ short)
    (ap (λ n. list_all is_opened (take n (sessions_of other))) count ∙ ap (list_all is_opened) (take_behind (sessions_of one) (session_on moment)) ∙ all) in
    let in_one = λ (n : ℕ). nat_le 1 n && nat_le n (last_number one) in
    let in_more = λ (n : ℕ). nat_le 1 n && nat_le n (suc (last_number one)) in
    let of_one = length one.resolutions in
    let presences : are_presences other m.presences ≡ true =
    ap (λ n. list_all (λ (p : PresenceMark). nat_le 1 p.session && nat_le p.session n) m.presences && differ_by same_presence m.presences) number
    ∙ both_true
    (all_weaker (λ (p : PresenceMark). in_one p.session) (λ (p : PresenceMark). in_more p.session) m.presences (λ p. more_numbers p.session (last_number one))
    (first_so (list_all (λ (p : PresenceMark). in_one p.session) m.presences) (differ_by same_presence m.presences) f.presences))
    (second_so (list_all (λ (p : PresenceMark). in_one p.session) m.presences) (differ_by same_presence m.presences) f.presences) in
    let demand_one = λ (d : DemandMark). in_one d.session && is_resolution of_one d.resolution in
    let demand_more = λ (d : DemandMark). in_more d.session && is_resolution of_one d.resolution in
    let demands : are_demands other m.demands ≡ true =
    ap (λ n. list_all (λ (d : DemandMark). (nat_le 1 d.session && nat_le d.session n) && is_resolution of_one d.resolution) m.demands && differ_by same_demand m.demands) number
    ∙ both_true
    (all_weaker demand_one demand_more m.demands
    (λ d good. both_true (more_numbers d.session (last_number one) (first_so (in_one d.session) (is_resolution of_one d.resolution) good))
    (second_so (in_one d.session) (is_resolution of_one d.resolution) good))
    (first_so (list_all demand_one m.demands) (differ_by same_demand m.demands) f.demands))
    (second_so (list_all demand_one m.demands) (differ_by same_demand m.demands) f.demands) in
    let polls : are_polls other m.polls ≡ true = polls_stay one other m.polls refl (stays_behind one moment) f.polls in
    meeting_from_facts (changed (AddSession moment) m) (assumption (sessions, presences, demands, polls, f))

-- ---- polls

-- votes stay on started polls where each that is started stays so
casts_stay : (polls others : List Poll) (casts : List CastMark) → ((c : CastMark) → list_any (is_cast_on c) polls ≡ true → list_any (is_cast_on c) others ≡ true)
    → are_casts polls casts ≡ true → are_casts others casts ≡ true
casts_stay polls others casts stay h =
    let few = list_all (λ (c : CastMark). nat_le (count_by (λ d. same_ballot d c) casts) 1024) casts in
    both_true
    (all_weaker (λ c. list_any (is_cast_on c) polls) (λ c. list_any (is_cast_on c) others) casts stay (first_so (list_all (λ c. list_any (is_cast_on c) polls) casts) few h))
    (second_so (list_all (λ c. list_any (is_cast_on c) polls) casts) few h)

-- a meeting with other polls, on which the votes stand
polls_preserved : (polls : List Poll) (m : MeetingLists) → is_meeting m ≡ true → are_polls m.meeting polls ≡ true
    → are_casts polls m.casts ≡ true → is_meeting (record m { polls = polls }) ≡ true
polls_preserved polls m h good stand =
    meeting_from_facts (record m { polls = polls }) (assumption (good, stand, meeting_facts m h))

nat_apart : (a b : ℕ) → (a == b) ≡ false → (nat_lt b a || nat_lt a b) ≡ true
nat_apart a b h = grind (arith, nat_tests)

-- where no poll is on the resolution, each is before or behind it
apart : (polls : List Poll) (poll : Poll) → poll_on polls poll.resolution ≡ None → list_all (λ q. poll_before poll q || poll_before q poll) polls ≡ true
apart [] poll = λ h. refl
apart (q ∷ qs) poll =
    (elim (q.resolution == poll.resolution) as (λ b. (q.resolution == poll.resolution) ≡ b → cond b (Some q) (poll_on qs poll.resolution) ≡ None
    → list_all (λ x. poll_before poll x || poll_before x poll) (q ∷ qs) ≡ true) [
      | true ↦ λ e h. absurd (cc)
      | false ↦ λ e h. both_true (nat_apart q.resolution poll.resolution e) (apart qs poll h)
    ]) refl

-- a meeting may be given a poll in a session that is opened, on another resolution
pub poll_preserved : (poll : Poll) (m : MeetingLists) → is_meeting m ≡ true → is_poll m.meeting poll ≡ true
    → poll_on m.polls poll.resolution ≡ None → is_meeting (changed (AddPoll poll) m) ≡ true
poll_preserved poll m h good none =
    let f = meeting_facts m h in
    let each = list_all (is_poll m.meeting) m.polls in
    let ascend = ascends_by poll_before m.polls in
    let all = all-insert (is_poll m.meeting) poll_before poll m.polls good (first_so each ascend f.polls) in
    let up = ascends-insert poll_before poll m.polls (apart m.polls poll none) (second_so each ascend f.polls) in
    polls_preserved (changed (AddPoll poll) m).polls m h (both_true all up)
    (casts_stay m.polls (changed (AddPoll poll) m).polls m.casts (λ c. any-insert (is_cast_on c) poll_before poll m.polls) f.casts)

started_stays : (f : Poll → Poll) → ((q : Poll) → (f q).resolution ≡ q.resolution) → ((q : Poll) → is_some q.started ≡ true → is_some (f q).started ≡ true)
    → (c : CastMark) (q : Poll) → is_cast_on c q ≡ true → is_cast_on c (f q) ≡ true
started_stays f same stays c q h =
    both_true (ap (λ r. r == c.resolution) (same q) ∙ first_so (q.resolution == c.resolution) (is_some q.started) h) (stays q (second_so (q.resolution == c.resolution) (is_some q.started) h))

-- a poll may be changed to one on the same resolution that stays started
pub changed_preserved : (f : Poll → Poll) (r : ℕ) (m : MeetingLists) (p : Poll) → ((q : Poll) → (f q).resolution ≡ q.resolution)
    → ((q : Poll) → is_some q.started ≡ true → is_some (f q).started ≡ true) → is_meeting m ≡ true → poll_on m.polls r ≡ Some p
    → is_poll m.meeting (f p) ≡ true → is_meeting (change_poll f r m) ≡ true
changed_preserved f r m p same stays h found good =
    let facts = meeting_facts m h in
    let each = list_all (is_poll m.meeting) m.polls in
    let ascend = ascends_by poll_before m.polls in
    let test = λ (q : Poll). q.resolution == r in
    let all = all_changed_found (is_poll m.meeting) test f m.polls p (first_so each ascend facts.polls) found good in
    let up = ascends_by-change_first poll_before test f (λ a b. ap (λ x. nat_lt x b.resolution) (same a)) (λ a b. ap (λ x. nat_lt a.resolution x) (same b)) m.polls ∙ second_so each ascend facts.polls in
    polls_preserved (change_poll f r m).polls m h (both_true all up)
    (casts_stay m.polls (change_poll f r m).polls m.casts (λ c. any_preserved (is_cast_on c) test f m.polls (started_stays f same stays c)) facts.casts)

-- a poll that is found is one of the meeting
poll_found : (m : MeetingLists) (r : ℕ) (p : Poll) → is_meeting m ≡ true → poll_on m.polls r ≡ Some p → is_poll m.meeting p ≡ true
poll_found m r p h found =
    find-passes (λ (q : Poll). q.resolution == r) (is_poll m.meeting) m.polls p
    (first_so (list_all (is_poll m.meeting) m.polls) (ascends_by poll_before m.polls) (meeting_facts m h).polls) found

-- a poll may be started
pub start_preserved : (moment r : ℕ) (m : MeetingLists) (p : Poll) → is_meeting m ≡ true → poll_on m.polls r ≡ Some p → is_meeting (changed (SetPoll r (Started moment)) m) ≡ true
start_preserved moment r m p h found =
    let f = poll_facts m.meeting p (poll_found m r p h found) in
    changed_preserved (advanced (Started moment)) r m p (λ q. refl) (λ q k. refl) h found (both_true (both_true (both_true (both_true f.session f.number) (implies_true (is_some p.closed))) f.declared) f.tally)

-- a started poll may be closed
pub close_preserved : (moment r : ℕ) (m : MeetingLists) (p : Poll) → is_meeting m ≡ true → poll_on m.polls r ≡ Some p → is_some p.started ≡ true
    → is_meeting (changed (SetPoll r (Closed moment)) m) ≡ true
close_preserved moment r m p h found started =
    let f = poll_facts m.meeting p (poll_found m r p h found) in
    changed_preserved (advanced (Closed moment)) r m p (λ q. refl) (λ q k. k) h found (both_true (both_true (both_true (both_true f.session f.number) started) (implies_true (is_some p.declared))) f.tally)

-- of a closed poll a count may be declared
pub declare_preserved : (tally : Tally) (r : ℕ) (m : MeetingLists) (p : Poll) → is_meeting m ≡ true → poll_on m.polls r ≡ Some p → is_some p.closed ≡ true
    → is_tally tally ≡ true → is_meeting (changed (SetPoll r (Declared tally)) m) ≡ true
declare_preserved tally r m p h found closed good =
    let f = poll_facts m.meeting p (poll_found m r p h found) in
    changed_preserved (advanced (Declared tally)) r m p (λ q. refl) (λ q k. k) h found (both_true (both_true (both_true (both_true f.session f.number) f.closed) closed) good)

-- ---- votes

-- how many votes are of one voter on one resolution
abbrev votes_like : CastMark → List CastMark → ℕ
votes_like c casts = count_by (λ (d : CastMark). same_ballot d c) casts

add_none : (n : ℕ) → n + 0 ≡ n
add_none n = add-zero n

-- there is room for one vote more of that voter on that resolution, and so on every ballot
ballot_fits : (c d : CastMark) (casts : List CastMark) → nat_le 1024 (votes_like c casts) ≡ false → nat_le (votes_like d casts) 1024 ≡ true
    → nat_le (votes_like d (casts ++ c ∷ [])) 1024 ≡ true
ballot_fits c d casts room fits =
    ap (λ n. nat_le n 1024) (count_snoc (λ (e : CastMark). same_ballot e d) casts c)
    ∙ (elim (same_ballot c d) as (λ b. same_ballot c d ≡ b → nat_le (votes_like d casts + cond b 1 0) 1024 ≡ true) [
      | true ↦ λ e. (
          let number : c.resolution ≡ d.resolution = eqb-true c.resolution d.resolution (first_so (c.resolution == d.resolution) (same_name c.voter d.voter) e) in
          let voter : c.voter ≡ d.voter = same_name-true c.voter d.voter (second_so (c.resolution == d.resolution) (same_name c.voter d.voter) e) in
          let alike : votes_like c casts ≡ votes_like d casts = λ i. count_by (λ (x : CastMark). (x.resolution == number i) && same_name x.voter (voter i)) casts in
          let less : nat_le 1024 (votes_like d casts) ≡ false = ap (nat_le 1024) (sym alike) ∙ room in
          grind (arith, nat_tests))
      | false ↦ λ e. ap (λ n. nat_le n 1024) (add_none (votes_like d casts)) ∙ fits
    ]) refl

-- a vote may be added on a started poll, where its voter has cast fewer than 1,024 on the resolution
pub vote_preserved : (c : CastMark) (m : MeetingLists) (p : Poll) → is_meeting m ≡ true → poll_on m.polls c.resolution ≡ Some p → is_some p.started ≡ true
    → nat_le 1024 (cast_count (filter (λ (d : CastMark). same_name d.voter c.voter) m.casts) c.resolution) ≡ false → is_meeting (entered (entry.Cast c) m) ≡ true
vote_preserved c m p h found started few =
    let f = meeting_facts m h in
    let casts = m.casts in
    let on = λ (d : CastMark). list_any (is_cast_on d) m.polls in
    let fits = λ (d : CastMark). nat_le (votes_like d casts) 1024 in
    let room : nat_le 1024 (votes_like c casts) ≡ false =
    ap (nat_le 1024) (sym (count_filter (λ (d : CastMark). d.resolution == c.resolution) (λ (d : CastMark). same_name d.voter c.voter) casts)) ∙ few in
    let standing = first_so (list_all on casts) (list_all fits casts) f.casts in
    let within = second_so (list_all on casts) (list_all fits casts) f.casts in
    let test = λ (q : Poll). q.resolution == c.resolution in
    let here : on c ≡ true = found-any test (is_cast_on c) m.polls p found (both_true (found-passes test m.polls p found) started) in
    let own : nat_le (votes_like c casts) 1024 ≡ true = grind (arith, nat_tests) in
    let more = λ (d : CastMark). nat_le (votes_like d (casts ++ c ∷ [])) 1024 in
    let good : are_casts m.polls (casts ++ c ∷ []) ≡ true = both_true
    (list_all-append on casts (c ∷ []) ∙ both_true standing (both_true here refl))
    (list_all-append more casts (c ∷ [])
    ∙ both_true (all_weaker fits more casts (λ d. ballot_fits c d casts room) within) (both_true (ballot_fits c c casts room own) refl)) in
    meeting_from_facts (entered (entry.Cast c) m) (assumption (good, f))
