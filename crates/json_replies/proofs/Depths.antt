-- No reply nests deep, so its text reads back.
use Rattle.std.proofs.Common.{ℕ, suc, ◌≤◌, max, Bool, true, false, List, [], ◌∷◌, length, map, codes, Option, Some, None, arith}
use Rattle.serde_json.specs.Data.{Data, depth, items_depth, members_depth}
use Rattle.serde_json.specs.View.{items_of}
use Rattle.desk_words.specs.declared.records.CastMark.{CastMark}
use Rattle.desk_words.specs.declared.records.CastKind.{CastKind}
use Rattle.desk_words.specs.declared.records.CastKind.TheVariants as cast
use Rattle.desk_words.specs.declared.reply.GivenUse.{GivenUse}
use Rattle.desk_words.specs.declared.reply.Mine.{Mine}
use Rattle.desk_words.specs.declared.own_things.PollGoverned.{PollGoverned}
use Rattle.desk_words.specs.declared.own_things.Received.{Received}
use Rattle.desk_words.specs.declared.own_things.SessionGoverned.{SessionGoverned}
use Rattle.desk_words.specs.declared.reply.NoticedPoll.{NoticedPoll}
use Rattle.desk_words.specs.declared.reply.NoticedResolution.{NoticedResolution}
use Rattle.desk_words.specs.declared.reply.NoticedSession.{NoticedSession}
use Rattle.desk_words.specs.declared.reply.Notice.{Notice}
use Rattle.desk_words.specs.declared.reply.Reply.{Reply}
use Rattle.desk_words.specs.declared.reply.Reply.TheVariants as reply
use Rattle.json_replies.specs.AppointmentJson.{instruction_data, run_data, given_data, last_votes, poll_governed_data, received_data, session_governed_data}
use Rattle.json_replies.specs.Forms.{numbered_array, is_adjourned, array_of, members, moment_data, numbered_values, only_if, or_null, decimal_data}
use Rattle.json_replies.specs.NoticeJson.{result_data, has_later, noticed_poll_data, noticed_resolution_data, noticed_session_data, notice_data}
use Rattle.json_replies.specs.Replies.{row_data, person_data, authorised_data, demand_data, cast_kind_data, cast_data, mine_data, reply_data, sessions_present}
use Rattle.json_replies.specs.ReplyMembers.{mine_rest}

max_below : (a b k : ℕ) → a ≤ k → b ≤ k → max a b ≤ k
max_below a b k h i = omega arith

items_below : {A : Type 0} (f : A → Data) (k : ℕ) → ((x : A) → depth (f x) ≤ k) → (xs : List A) → items_depth (items_of (map f xs)) ≤ k
items_below f k each [] = omega arith
items_below f k each (x ∷ xs) = max_below (depth (f x)) (items_depth (items_of (map f xs))) k (each x) (items_below f k each xs)

or_null_below : {A : Type 0} (f : A → Data) (k : ℕ) → ((x : A) → depth (f x) ≤ k) → (o : Option A) → depth (or_null f o) ≤ k
or_null_below f k each None = omega arith
or_null_below f k each (Some x) = each x

numbered_below : {A : Type 0} (f : ℕ → A → Data) (k : ℕ) → ((n : ℕ) (x : A) → depth (f n x) ≤ k) → (n : ℕ) (xs : List A) → items_depth (items_of (numbered_values f n xs)) ≤ k
numbered_below f k each n [] = omega arith
numbered_below f k each n (x ∷ xs) = max_below (depth (f n x)) (items_depth (items_of (numbered_values f (suc n) xs))) k (each n x) (numbered_below f k each (suc n) xs)

only_if_below : (holds : Bool) (m : List ℕ × Data) (ms : List (List ℕ × Data)) (k : ℕ) → depth m.1 ≤ k → members_depth (members ms) ≤ k → members_depth (members (only_if holds m ms)) ≤ k
only_if_below true m ms k one rest = max_below (depth m.1) (members_depth (members ms)) k one rest
only_if_below false m ms k one rest = rest

cast_kind_below : (n : ℕ) (what : CastKind) → depth (cast_kind_data n what) ≤ 1
cast_kind_below n (cast.Block b) = omega arith
cast_kind_below n cast.AsInstructed = omega arith

cast_below : (c : CastMark) → depth (cast_data c) ≤ 1
cast_below c = cast_kind_below c.resolution c.what

given_below : (g : GivenUse) → depth (given_data g) ≤ 2
given_below g =
    let ended : depth (or_null moment_data g.given.ended) ≤ 0 = or_null_below moment_data 0 (λ _. omega arith) g.given.ended in
    let instructions : items_depth (items_of (map instruction_data g.given.appointment.instructions)) ≤ 0 = items_below instruction_data 0 (λ _. omega arith) g.given.appointment.instructions in
    omega arith

poll_governed_below : (p : PollGoverned) → depth (poll_governed_data p) ≤ 3
poll_governed_below p =
    let governs : items_depth (items_of (map run_data p.governs)) ≤ 1 = items_below run_data 1 (λ _. omega arith) p.governs in
    omega arith

session_governed_below : (number : ℕ) (s : SessionGoverned) → depth (session_governed_data number s) ≤ 3
session_governed_below number s =
    let acts : items_depth (items_of (map run_data s.acts)) ≤ 1 = items_below run_data 1 (λ _. omega arith) s.acts in
    let votes : items_depth (items_of (map run_data s.votes)) ≤ 1 = items_below run_data 1 (λ _. omega arith) s.votes in
    omega arith

received_below : (r : Received) → depth (received_data r) ≤ 5
received_below r =
    let governs : items_depth (items_of (map run_data (last_votes r.sessions))) ≤ 1 = items_below run_data 1 (λ _. omega arith) (last_votes r.sessions) in
    let instructions : items_depth (items_of (map instruction_data r.instructions)) ≤ 0 = items_below instruction_data 0 (λ _. omega arith) r.instructions in
    let polls : items_depth (items_of (map poll_governed_data r.polls)) ≤ 3 = items_below poll_governed_data 3 poll_governed_below r.polls in
    let sessions : items_depth (items_of (numbered_values session_governed_data 1 r.sessions)) ≤ 3 = numbered_below session_governed_data 3 session_governed_below 1 r.sessions in
    let further = only_if_below (is_adjourned (length r.sessions)) (codes "sessions", numbered_array session_governed_data r.sessions) ((codes "to", decimal_data r.range.to) ∷ []) 4 (omega arith) (omega arith) in
    omega arith

mine_below : (m : Mine) → depth (mine_data m) ≤ 7
mine_below m =
    let authorised : items_depth (items_of (map authorised_data m.authorised)) ≤ 1 = items_below authorised_data 1 (λ _. omega arith) m.authorised in
    let casts : items_depth (items_of (map cast_data m.casts)) ≤ 1 = items_below cast_data 1 cast_below m.casts in
    let demands : items_depth (items_of (map demand_data m.demands)) ≤ 0 = items_below demand_data 0 (λ _. omega arith) m.demands in
    let given : items_depth (items_of (map given_data m.given)) ≤ 2 = items_below given_data 2 given_below m.given in
    let persons : items_depth (items_of (map person_data m.persons)) ≤ 0 = items_below person_data 0 (λ _. omega arith) m.persons in
    let received : items_depth (items_of (map received_data m.received)) ≤ 5 = items_below received_data 5 received_below m.received in
    let row : depth (or_null row_data m.row) ≤ 1 = or_null_below row_data 1 (λ _. omega arith) m.row in
    let presences : items_depth (items_of (map decimal_data (sessions_present m))) ≤ 0 = items_below decimal_data 0 (λ _. omega arith) (sessions_present m) in
    let rest : members_depth (members (mine_rest m)) ≤ 6 =
    only_if_below (is_adjourned m.session) (codes "presences", array_of decimal_data (sessions_present m)) _ 6 (omega arith) (omega arith) in
    omega arith

noticed_session_below : (number : ℕ) (s : NoticedSession) → depth (noticed_session_data number s) ≤ 1
noticed_session_below number s =
    let opened : depth (or_null moment_data s.opened) ≤ 0 = or_null_below moment_data 0 (λ _. omega arith) s.opened in
    omega arith

noticed_poll_below : (adjourned : Bool) (p : NoticedPoll) → depth (noticed_poll_data adjourned p) ≤ 2
noticed_poll_below adjourned p =
    let closed : depth (or_null moment_data p.closed) ≤ 0 = or_null_below moment_data 0 (λ _. omega arith) p.closed in
    let result : depth (or_null result_data p.result) ≤ 1 = or_null_below result_data 1 (λ _. omega arith) p.result in
    let started : depth (or_null moment_data p.started) ≤ 0 = or_null_below moment_data 0 (λ _. omega arith) p.started in
    let session = only_if_below adjourned (codes "session", decimal_data p.session) ((codes "started", or_null moment_data p.started) ∷ (codes "take", moment_data p.take) ∷ []) 0 (omega arith) (omega arith) in
    omega arith

noticed_resolution_below : (adjourned : Bool) (r : NoticedResolution) → depth (noticed_resolution_data adjourned r) ≤ 3
noticed_resolution_below adjourned r =
    let poll : depth (or_null (noticed_poll_data adjourned) r.poll) ≤ 2 = or_null_below (noticed_poll_data adjourned) 2 (noticed_poll_below adjourned) r.poll in
    omega arith

notice_below : (n : Notice) → depth (notice_data n) ≤ 5
notice_below n =
    let opened : depth (or_null moment_data n.first.opened) ≤ 0 = or_null_below moment_data 0 (λ _. omega arith) n.first.opened in
    let resolutions : items_depth (items_of (map (noticed_resolution_data (has_later n)) n.resolutions)) ≤ 3 = items_below (noticed_resolution_data (has_later n)) 3 (noticed_resolution_below (has_later n)) n.resolutions in
    let listed : items_depth (items_of (numbered_values noticed_session_data 1 (n.first ∷ n.later))) ≤ 1 = numbered_below noticed_session_data 1 noticed_session_below 1 (n.first ∷ n.later) in
    let sessions = only_if_below (has_later n) (codes "sessions", numbered_array noticed_session_data (n.first ∷ n.later)) [] 2 (omega arith) (omega arith) in
    omega arith

pub reply_below : (r : Reply) → depth (reply_data r) ≤ 127
reply_below (reply.Notice n) = omega (arith, notice_below n)
reply_below (reply.Mine m) = omega (arith, mine_below m)
reply_below other = omega arith
