use Rattle.std.proofs.Common.{ap, ◌∙◌}
use Rattle.std.specs.Prelude.{count_by, nat_le}
use Rattle.desk_words.specs.declared.limits.TheConstants.{MOST_CASTS}
use Rattle.desk_words.specs.declared.records.CastMark.{CastMark}
use Rattle.office_validation.proofs.TieLemmas.{number_and_name}
use Rattle.office_validation.proofs.polls.cast_few_on.Goals as goal

pub returns : goal.returns
returns c =
    ap (λ n. nat_le n MOST_CASTS)
    (c.times.ensures ∙ ap (λ test. count_by test c.args.casts.now) (λ i d. number_and_name d.resolution c.args.resolution d.voter c.args.voter i))
