-- Two offices that agree on what a party may know answer it alike.
use Rattle.std.proofs.Common.{ℕ, List, refl, ap, ◌∙◌}
use Rattle.desk_words.specs.Rulings.{map_ruling_change, ruled_answer}
use Rattle.desk_words.specs.declared.answer.Answer.{Answer}
use Rattle.desk_words.specs.declared.change.Change.{Change}
use Rattle.desk_words.specs.declared.change.Change.TheVariants.{InMeeting}
use Rattle.desk_words.specs.declared.change.MeetingChange.TheVariants.{Enter}
use Rattle.desk_words.specs.declared.office.OfficeLists.{OfficeLists}
use Rattle.desk_words.specs.declared.request.Request.TheVariants as asked
use Rattle.caller_view.specs.PartyRulings.{party_ruling}
use Rattle.party_views.specs.Views.{meeting_at, own_in_some, public_of}
use Rattle.party_views.specs.declared.views.OwnView.{OwnView}
use Rattle.desk_words.specs.Changes.{applied_if_any}
use Rattle.meeting_core.proofs.UnseenEntries.{entry_unseen}
use Rattle.meeting_core.proofs.RulingLemmas.{settled_within}
use Rattle.laws_step.specs.Worlds.{LeavesThePublicRecord, ReadsTheViews, party_answer}

pub replies_own : ReadsTheViews party_answer
replies_own o p party now (asked.Party meeting what) agree =
    λ i. ruled_answer (map_ruling_change (λ entry. InMeeting meeting (Enter entry)) (party_ruling (agree.public i) (agree.own i) now what))
replies_own o p party now request agree = refl

pub public_stays : LeavesThePublicRecord party_answer
public_stays o party now (asked.Party meeting what) id =
    let found = party_ruling (public_of o meeting) (party_own o party meeting now) now what in
    ap (λ (a : Answer Change). public_of (applied_if_any o a.change) id) (settled_within (λ entry. InMeeting meeting (Enter entry)) found)
    ∙ entry_unseen o meeting (ruled_answer found).change id
  where
    party_own : OfficeLists → List ℕ → List ℕ → ℕ → OwnView
    party_own office who id now = own_in_some (meeting_at office id) office.closed who now
public_stays o party now request id = refl
