-- How the command that prints results ends, and what it has written.
use Rattle.std.specs.Prelude.{◌≡◌, ◌⊎◌, ℕ, List, Option, Some, None}
use Rattle.std.specs.Io.KnownBytes.{Appends}
use Rattle.party_views.specs.Public.{PublicRecord}
use Rattle.byte_io.specs.Counts.{one_more}
use Rattle.byte_io.specs.Written.{AppendsPrefix}
use Rattle.desk_papers.specs.PrintedResults.{results_of}
use Rattle.vocabulary.specs.declared.refusal.Refusal.TheVariants.{NoMeeting}
use Rattle.desk_words.specs.declared.records.Meeting.{Meeting}
use Rattle.cli_exit.specs.Endings.{Ending, success, ended_by, ended_by_refusal}
use Rattle.cli_exit.specs.declared.ended.ExitError.{ExitError}
use Rattle.cli_exit.specs.declared.ended.ExitError.TheVariants as fault

-- how a writer stands: the bytes that it holds, where they are known, and how many of its writes
-- failed
pub record Writer : Type 0 where
  pub contents : Option (List ℕ)
  pub failures : ℕ

-- the printing for a meeting ends well, and is refused where there is none
abbrev pub ended_for : Option Meeting → Ending
ended_for (Some meeting) = success
ended_for None = ended_by_refusal NoMeeting

-- the results of a public record were written whole, where it has a meeting; they have no text
-- where it has none
pub record HasPrinted (public : PublicRecord) (before after : Writer) (end : Ending) : Type 0 where
  pub ended : end ≡ ended_for public.meeting
  pub written : Appends before.contents after.contents (results_of public)
  pub none_failed : after.failures ≡ before.failures

-- one write failed, before all of the results were written
pub record HasFailedPrinting (public : PublicRecord) (before after : Writer) (end : Ending)
    : Type 0 where
  pub ended : end ≡ ended_by fault.WriteFault
  pub written : AppendsPrefix before.contents after.contents (results_of public)
  pub failed : after.failures ≡ one_more before.failures

-- nothing was written, and the program ends by this fault
pub record HasNotBegun (why : ExitError) (before after : Writer) (end : Ending) : Type 0 where
  pub ended : end ≡ ended_by why
  pub untouched : after ≡ before

-- what comes of the printing of a public record that is at hand: all of it, a part where a write
-- failed, or nothing for want of memory
abbrev pub PrintsRecord : PublicRecord → Writer → Writer → Ending → Type 0
PrintsRecord public before after end =
    HasPrinted public before after end
    ⊎ (HasFailedPrinting public before after end ⊎ HasNotBegun fault.Memory before after end)

-- of one that is read from the tables first, nothing comes also where the store failed
abbrev pub Prints : PublicRecord → Writer → Writer → Ending → Type 0
Prints public before after end =
    PrintsRecord public before after end ⊎ HasNotBegun fault.Store before after end
