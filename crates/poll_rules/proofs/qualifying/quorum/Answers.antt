use Rattle.std.proofs.Common.{◌≡◌, true, List, map, take, ap, sym, ◌∙◌}
use Rattle.std.specs.Prelude.{filter}
use Rattle.desk_words.specs.declared.records.PresenceMark.{PresenceMark}
use Rattle.poll_rules.specs.Quorum.{is_counted, is_quorum, present_in}
use Rattle.poll_rules.specs.Roles.{roles_of}
use Rattle.poll_rules.proofs.PollPairLemmas.{quorum-of_first}
use Rattle.poll_rules.proofs.qualifying.quorum.Goals as goal

-- the first who are present make one, and so do all
pub returns-then-make_one : goal.returns-then-make_one
returns-then-make_one c =
    let papers = c.args.papers.now in
    let rows = filter is_counted papers.register.now in
    let roles = roles_of c.args.cutoffs.now papers.register.now papers.appointments.now papers.endings.now papers.authorities.now in
    let all = present_in c.args.session papers.presences.now in
    let make_one = λ (marks : List PresenceMark). is_quorum rows roles (map (λ (mark : PresenceMark). mark.party) marks) in
    let present = c.as_slice-2.ensures.value ∙ c.in_ok-present.ensures ∙ ap (present_in c.args.session) c.as_slice.ensures in
    let of_first : make_one (take 8 all) ≡ true = ap make_one (sym (c.first_of-first.ensures ∙ ap (take 8) present)) ∙ sym c.in_ok-make_one.ensures ∙ c.if-make_one.true in
    sym (quorum-of_first rows roles 8 all of_first)
