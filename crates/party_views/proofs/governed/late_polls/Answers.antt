use Rattle.std.proofs.Common.{◌≡◌, Option, Some, None, List, ℕ, filter, map, refl, ap, ◌∙◌}
use Rattle.std.specs.Prelude.{◌==◌}
use Rattle.std.proofs.lemmas.List.{take_all}
use Rattle.desk_words.specs.declared.records.Poll.{Poll}
use Rattle.proxy_rules.specs.Cutoffs.{is_late_poll}
use Rattle.party_views.specs.RowsRead.{polls_if_on}
use Rattle.party_views.specs.ViewsByMember.{is_asked_late, late_of}
use Rattle.party_views.proofs.FindLemmas.{filter-both}
use Rattle.party_views.proofs.governed.late_polls.Goals as goal

late_asked : (on : Option ℕ) (closed : List ℕ) (polls : List Poll) → filter (is_asked_late on closed) polls ≡ filter (is_late_poll closed) (polls_if_on on polls)
late_asked None closed polls = refl
late_asked (Some resolution) closed polls = filter-both (λ (poll : Poll). poll.resolution == resolution) (is_late_poll closed) polls

pub returns : goal.returns
returns c =
    let polls = c.args.polls.now in
    let make = map (late_of c.args.meeting.now c.args.closed.now c.args.now) in
    c.loop-poll.invariant
    ∙ ap (λ taken. make (filter (is_asked_late polls.on c.args.closed.now) taken)) (take_all c.loop-poll.poll-index polls.all.now c.loop-poll-test.false)
    ∙ ap make (late_asked polls.on c.args.closed.now polls.all.now)
