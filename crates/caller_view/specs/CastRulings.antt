-- Votes that a party casts.
use Rattle.std.specs.Prelude.{Bool, not, nat_le, List, [], ◌∷◌, Some, is_none}
use Rattle.desk_words.specs.Finding.{poll_on}
use Rattle.desk_words.specs.Places.{is_range}
use Rattle.desk_words.specs.PollStates.{is_closed, is_waiting, there_is}
use Rattle.desk_words.specs.Refusals.{Case}
use Rattle.desk_words.specs.Rulings.{Ruling, no_resolution}
use Rattle.desk_words.specs.ViewTypes.{Moment, Number}
use Rattle.desk_words.specs.Sessions.{last_number}
use Rattle.vocabulary.specs.declared.refusal.Refusal.TheVariants.{BadRange, TooMany, NoRegister, NoRight, NoPoll, PollNotOpen, PollClosed, NotYours, AgainstInstruction}
use Rattle.desk_words.specs.declared.limits.TheConstants.{MOST_CASTS}
use Rattle.desk_words.specs.declared.change.Entry.{Entry}
use Rattle.desk_words.specs.declared.change.Entry.TheVariants as entry
use Rattle.desk_words.specs.declared.records.CastKind.{CastKind}
use Rattle.desk_words.specs.declared.records.CastKind.TheVariants.{AsInstructed, Block}
use Rattle.desk_words.specs.declared.records.CastMark.{CastMark}
use Rattle.desk_words.specs.declared.records.Meeting.{Meeting}
use Rattle.desk_words.specs.declared.reply.Reply.TheVariants as reply
use Rattle.desk_words.specs.declared.request.NewCast.{NewCast}
use Rattle.proxy_rules.specs.Uses.{Use, vote_on}
use Rattle.caller_view.specs.Rights.{Governs, governed_for, is_against, is_not_own, is_uninstructed, may_vote_for}
use Rattle.party_views.specs.OwnCasts.{count_on}
use Rattle.party_views.specs.declared.views.OwnView.{OwnView}
use Rattle.party_views.specs.Public.{PublicRecord}

-- the party cast `MOST_CASTS` votes on the resolution, in all capacities together
abbrev pub has_cast_enough : OwnView → Number → Bool
has_cast_enough own resolution = nat_le MOST_CASTS (count_on own.casts resolution)

-- the use of appointments for votes on a resolution: for those on its poll, or, where there is
-- none, for those in the last session (section 327)
abbrev pub use_on : PublicRecord → Meeting → Number → Use
use_on public meeting resolution =
    vote_on (last_number meeting) (poll_on public.polls resolution)

-- what each appointment governs for votes on a resolution
abbrev pub governed_on : PublicRecord → Meeting → Number → Governs
governed_on public meeting resolution =
    governed_for public.closed (use_on public meeting resolution)

-- when a vote on places is not the party's to cast, by what each appointment governs (sections 284,
-- 323, 324 and 324A)
abbrev pub right_cases : OwnView → Governs → NewCast → List Case
right_cases own governs new =
    record { refusal = NotYours; holds = is_not_own own governs new new.capacity }
    ∷ record { refusal = AgainstInstruction; holds = is_against own governs new new.capacity } ∷ []

-- when a vote on a range of places is not recorded (sections 284, 323, 324 and 324A)
abbrev pub cast_range_cases : PublicRecord → Meeting → OwnView → NewCast → List Case
cast_range_cases public meeting own new =
    let poll = poll_on public.polls new.resolution in
    record { refusal = TooMany; holds = has_cast_enough own new.resolution }
    ∷ record { refusal = NoRegister; holds = not meeting.loaded }
    ∷ record { refusal = NoRight; holds = not (may_vote_for own new.member new.capacity) }
    ∷ record { refusal = NoPoll; holds = is_none poll }
    ∷ record { refusal = PollNotOpen; holds = there_is is_waiting poll }
    ∷ record { refusal = PollClosed; holds = there_is is_closed poll }
    ∷ right_cases own (governed_on public meeting new.resolution) new

-- when a vote is not recorded: on no resolution of the meeting, on no range, or as above
abbrev pub cast_cases : PublicRecord → Meeting → OwnView → NewCast → List Case
cast_cases public meeting own new =
    no_resolution meeting new.resolution
    ∷ record { refusal = BadRange; holds = not (is_range new.from new.to) }
    ∷ cast_range_cases public meeting own new

-- what is cast as instructed is not recorded (section 324A)
abbrev pub instructed_cases : PublicRecord → Meeting → OwnView → Number → List Case
instructed_cases public meeting own resolution =
    let poll = poll_on public.polls resolution in no_resolution meeting resolution
    ∷ record { refusal = TooMany; holds = has_cast_enough own resolution }
    ∷ record { refusal = NoRegister; holds = not meeting.loaded }
    ∷ record { refusal = NoPoll; holds = is_none poll }
    ∷ record { refusal = PollNotOpen; holds = there_is is_waiting poll }
    ∷ record { refusal = PollClosed; holds = there_is is_closed poll }
    ∷ record {
      refusal = NotYours;
      holds = is_uninstructed own (governed_on public meeting resolution) resolution;
    }
    ∷ []

-- the vote that is recorded
abbrev pub cast_of : OwnView → Moment → Number → CastKind → CastMark
cast_of own now resolution what = record {
  resolution = resolution;
  voter = own.party;
  what = what;
  moment = now;
}

-- what is cast on some of a member's shares (section 322)
abbrev pub block_of : NewCast → CastKind
block_of new =
    Block
    (record {
      capacity = new.capacity;
      member = new.member;
      range = record { from = new.from; to = new.to };
      way = new.way;
    })

-- a vote is recorded, of which nothing more is said, or refused by the public record and the
-- party's own things alone (sections 284, 323 and 324)
abbrev pub cast_ruling : PublicRecord → Meeting → OwnView → Moment → NewCast → Ruling Entry
cast_ruling public meeting own now new =
    record {
      cases = cast_cases public meeting own new;
      accepted = record {
        reply = reply.Recorded;
        change = Some (entry.Cast (cast_of own now new.resolution (block_of new)));
      };
    }

-- what is cast as instructed is recorded, and nothing more is said of it, or refused likewise
-- (section 324A)
abbrev pub instructed_ruling : PublicRecord → Meeting → OwnView → Moment → Number → Ruling Entry
instructed_ruling public meeting own now resolution =
    record {
      cases = instructed_cases public meeting own resolution;
      accepted = record {
        reply = reply.Recorded;
        change = Some (entry.Cast (cast_of own now resolution AsInstructed));
      };
    }
