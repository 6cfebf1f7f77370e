-- How the printing ends where the public record was not read.
use Rattle.std.proofs.Common.{◌≡◌, inl, inr}
use Rattle.party_views.specs.Public.{PublicRecord}
use Rattle.cli_exit.specs.Endings.{Ending, ended_by_failure}
use Rattle.desk_papers.specs.ResultPrinting.{Prints, Writer}
use Rattle.desk_words.specs.declared.reply.Failure.{Failure}
use Rattle.desk_words.specs.declared.reply.Failure.TheVariants.{Store, Memory}

-- nothing was written
pub not_begun : (failure : Failure) (public : PublicRecord) (before after : Writer) (end : Ending)
    → end ≡ ended_by_failure failure → after ≡ before → Prints public before after end
not_begun Store public before after end is same = inr (record { ended = is; untouched = same })
not_begun Memory public before after end is same =
    inl (inr (inr (record { ended = is; untouched = same })))
