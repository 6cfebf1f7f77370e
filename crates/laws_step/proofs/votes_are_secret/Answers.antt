use Rattle.std.proofs.Common.{◌-◌, Some, refl, ap, sym, ◌∙◌}
use Rattle.std.specs.List.{slice_get}
use Rattle.desk_words.specs.Finding.{poll_on}
use Rattle.desk_words.specs.Sessions.{last_number}
use Rattle.desk_words.specs.declared.change.MeetingChange.TheVariants.{SetPoll}
use Rattle.desk_words.specs.declared.change.PollChange.TheVariants as poll
use Rattle.desk_words.specs.declared.records.Tally.{Tally}
use Rattle.desk_words.specs.declared.reply.Reply.TheVariants as reply
use Rattle.desk_words.specs.declared.request.OfficeRequest.TheVariants.{LoadRegister, Declare}
use Rattle.proxy_rules.specs.Cutoffs.{cutoffs_of}
use Rattle.proxy_rules.specs.Uses.{vote_on}
use Rattle.vote_rules.specs.TallyLaws.{casts_on}
use Rattle.office_decisions.specs.PollRulings.{declare_cases, result_on}
use Rattle.laws_step.proofs.SecrecyLemmas.{on-off}
use Rattle.laws_step.specs.Secrecy.{TheOfficeLearnsNoVotes}
use Rattle.vote_rules.specs.TallyLaws.{TalliesReadTheirOwnCasts}
use Rattle.laws_step.proofs.votes_are_secret.Goals as goal

alike : TalliesReadTheirOwnCasts → TheOfficeLearnsNoVotes
alike law m casts resolution closed now (LoadRegister new) same other = refl
alike law m casts resolution closed now (Declare asked) same other =
    let on = sym (on-off asked resolution casts other) ∙ ap (casts_on asked) same ∙ on-off asked resolution m.casts other in
    let counted = law (cutoffs_of m.meeting (vote_on (last_number m.meeting) (poll_on m.polls asked)) closed now) m.register m.appointments m.endings m.authorities casts m.casts asked on in
    let declared = λ (tally : Tally). result_on (slice_get m.meeting.resolutions (asked - 1)) tally in
    ap (λ (tally : Tally). record {
      cases = declare_cases m asked;
      accepted = record { reply = reply.Declared (declared tally); change = Some (SetPoll asked (poll.Declared (declared tally).tally)) };
    }) counted
alike law m casts resolution closed now asked same other = refl

pub returns-clause-office : goal.returns-clause-office
returns-clause-office c = alike c.tallies_read_their_own_casts.ensures
