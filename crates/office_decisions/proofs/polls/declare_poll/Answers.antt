use Rattle.std.proofs.Common.{◌≡◌, ◌-◌, true, ap, sym, ◌∙◌, rules}
use Rattle.std.specs.Prelude.{None}
use Rattle.std.specs.List.{slice_get}
use Rattle.desk_words.specs.Office.{is_tally}
use Rattle.desk_words.specs.Refusals.{first_refusal}
use Rattle.desk_words.specs.Rulings.{refused_or}
use Rattle.desk_words.specs.declared.answer.Answer.{Answer}
use Rattle.desk_words.specs.declared.change.MeetingChange.{MeetingChange}
use Rattle.office_decisions.specs.RequestLimits.{if_any, is_within_limits}
use Rattle.office_decisions.specs.PollRulings.{declare_cases, declared_answer, declaration_of, result_on}
use Rattle.office_decisions.proofs.DecidedCountLemmas.{handed_on, preserved_count}
use Rattle.office_decisions.proofs.polls.declare_poll.Goals as goal

-- nothing refuses it, so that the count is declared
pub returns-clause-answer : goal.returns-clause-answer
returns-clause-answer c =
    let m = c.args.lists.now in
    let number = c.args.resolution in
    let found = slice_get m.meeting.resolutions (number - 1) in
    let none : first_refusal (declare_cases m number) ≡ None = search rules in
    handed_on c.tally_in-count.result c.declare.result _ (λ tally. declared_answer number (result_on found tally)) (λ (a : Answer MeetingChange). a ≡ _)
    (λ tally is. ap (λ t. declared_answer number (result_on found t)) is ∙ ap (λ refusal. refused_or refusal (declared_answer number (declaration_of m c.args.closed.now c.args.now number))) (sym none))
    c.declare.ensures c.tally_in-count.ensures.value

pub returns-clause-limits : goal.returns-clause-limits
returns-clause-limits c =
    let m = c.args.lists.now in
    let number = c.args.resolution in
    let found = slice_get m.meeting.resolutions (number - 1) in
    handed_on c.tally_in-count.result c.declare.result _ (λ tally. declared_answer number (result_on found tally)) (λ (a : Answer MeetingChange). if_any is_within_limits a.change ≡ true)
    (λ tally is. ap is_tally (preserved_count found tally) ∙ is) c.declare.ensures c.tally_in-count.ensures.limits
