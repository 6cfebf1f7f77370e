-- What is wrong with a wrong answer is caught.
use Rattle.std.proofs.Common.{◌≡◌, ℕ, List, [], ◌∷◌, refl, ap, subst, sym, arith}
use Rattle.std.specs.Prelude.{Option, Some, None, All, Contains}
use Rattle.desk_words.specs.declared.office.MeetingLists.{MeetingLists}
use Rattle.desk_words.specs.declared.reply.Reply.{Reply}
use Rattle.desk_words.specs.declared.reply.Reply.TheVariants as reply
use Rattle.desk_words.specs.declared.change.Change.{Change}
use Rattle.desk_words.specs.declared.request.PartyRequest.TheVariants.{Cast}
use Rattle.desk_words.specs.declared.request.Request.TheVariants as asked
use Rattle.desk_words.specs.declared.answer.Answer.{Answer}
use Rattle.party_views.specs.Views.{meeting_at, own_of}
use Rattle.laws_step.specs.Worlds.{ReadsTheViews, Distinguishes, party_answer}
use Rattle.laws_step.specs.NamedParties.{Names, NamesOwn, in_reply, in_view}
use Rattle.laws_step.specs.WrongAnswers.{a_member, office_with, running_total, shown_the_count, vote_of_another, vote_wanted}
use Rattle.laws_step.proofs.NamedLemmas.{names_own}

-- the count names nobody
shown_names : (found : Option MeetingLists) (closed : List ℕ) (now resolution : ℕ) (r : Reply) → in_reply (shown_the_count found closed now resolution r) ≡ in_reply r
shown_names (Some m) closed now resolution reply.Recorded = refl
shown_names None closed now resolution reply.Recorded = refl
shown_names found closed now resolution r = refl

pub running_names : NamesOwn running_total
running_names o party now (asked.Party meeting (Cast new)) =
    let request = asked.Party meeting (Cast new) in
    subst (λ (names : Names). All (Contains (in_view (own_of o party meeting now))) names)
    (sym (shown_names (meeting_at o meeting) o.closed now new.resolution (party_answer o party now request).reply)) (names_own o party now request)
running_names o party now request = names_own o party now request

-- how many votes for the resolution a reply tells
abbrev votes_shown : Reply → ℕ
votes_shown (reply.Declared declared) = declared.tally.votes_for
votes_shown other = 0

pub distinguished : Distinguishes running_total (office_with []) (office_with (vote_of_another ∷ [])) a_member 0 vote_wanted
distinguished = record {
  first = refl;
  second = refl;
  agree = record { public = refl; own = refl };
  apart = λ h. (let votes : 0 ≡ 1 = ap (λ (a : Answer Change). votes_shown a.reply) h in absurd (omega arith));
}

pub caught : ReadsTheViews running_total → ⊥
caught law = distinguished.apart (law (office_with []) (office_with (vote_of_another ∷ [])) a_member 0 vote_wanted distinguished.agree)
