use Rattle.std.proofs.Common.{rules, ◌≡◌, ℕ, List, Some, true, false, ap, ◌∙◌}
use Rattle.vocabulary.specs.Refusals.{first_refusal}
use Rattle.desk_words.specs.Finding.{poll_on}
use Rattle.desk_words.specs.PollStates.{is_closed, is_waiting}
use Rattle.proxy_rules.specs.Cutoffs.{is_late_poll}
use Rattle.caller_view.specs.CastRulings.{has_cast_enough, right_cases}
use Rattle.caller_view.specs.Rights.{governed_at_poll, may_vote_for}
use Rattle.caller_view.proofs.PartyCastLemmas.{refused_on}
use Rattle.caller_view.proofs.casts.range_refusal.Goals as goal

pub returns : goal.returns
returns c =
    let a = c.args in
    let poll = c.in-Some.poll in
    let found : poll_on a.public.now.polls a.new.now.resolution ≡ Some poll = search rules in
    let enough : has_cast_enough a.own.now a.new.now.resolution ≡ false = search rules in
    let loaded : a.meeting.now.loaded ≡ true = search rules in
    let may : may_vote_for a.own.now a.new.now.member a.new.now.capacity ≡ true = search rules in
    let waiting : is_waiting poll ≡ false = search rules in
    let closed : is_closed poll ≡ false = search rules in
    let days : c.closed.result.now ≡ a.public.now.closed = c.closed.ensures in
    c.right_refusal.ensures
    ∙ ap (λ late. first_refusal (right_cases a.own.now (governed_at_poll late poll) a.new.now)) (c.is_late_poll-late.ensures ∙ ap (λ (days : List ℕ). is_late_poll days poll) days)
    ∙ refused_on a.public.now a.meeting.now a.own.now a.new.now poll found enough loaded may waiting closed
