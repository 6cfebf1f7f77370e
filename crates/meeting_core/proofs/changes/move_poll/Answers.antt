use Rattle.std.proofs.Common.{◌==◌, sym, ◌∙◌, ap, slice_set}
use Rattle.std.specs.List.{position_from}
use Rattle.std.specs.Prelude.{slice_index_or}
use Rattle.seq.proofs.ChangeFirst.{change_first-some, change_first-none}
use Rattle.desk_words.specs.Changes.{advanced}
use Rattle.desk_words.specs.declared.records.Poll.{Poll}
use Rattle.meeting_core.proofs.changes.move_poll.Goals as goal

pub returns-in-Some : goal.returns-in-Some
returns-in-Some c =
    let m = c.args.lists.now in
    let test = λ (p : Poll). p.resolution == c.args.resolution in
    let poll = c.index-polls-i.result in
    let place = ap (position_from test 0) (sym c.as_slice-polls.ensures) ∙ sym c.place_of_poll.ensures.first ∙ c.in-Some.is in
    let there = c.index-polls-i.is ∙ ap (λ polls. slice_index_or polls c.in-Some.i poll) c.as_slice-polls.ensures in
    ap (λ polls. record m { polls = polls })
    (c.set.ensures ∙ ap (slice_set m.polls c.in-Some.i) (c.moved.ensures ∙ ap (advanced c.args.change) there)
    ∙ sym (change_first-some test poll (advanced c.args.change) m.polls c.in-Some.i place))

pub returns-in_default : goal.returns-in_default
returns-in_default c =
    let m = c.args.lists.now in
    let test = λ (p : Poll). p.resolution == c.args.resolution in
    let none = ap (position_from test 0) (sym c.as_slice-polls.ensures) ∙ sym c.place_of_poll.ensures.first ∙ c.in_default.is in
    ap (λ polls. record m { polls = polls }) (sym (change_first-none test (advanced c.args.change) 0 m.polls none))
