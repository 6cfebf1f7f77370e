-- Authorities that a party gives, its presence, and polls that it demands.
use Rattle.std.specs.Prelude.{Bool, not, ◌&&◌, ◌||◌, ◌==◌, nat_le, nat_lt, List, [], ◌∷◌, length, is_some}
use Rattle.std.specs.List.{list_any}
use Rattle.desk_words.specs.Finding.{poll_on}
use Rattle.desk_words.specs.Names.{same_name}
use Rattle.desk_words.specs.Refusals.{Case}
use Rattle.desk_words.specs.Rulings.{Ruling, no_resolution, noted}
use Rattle.desk_words.specs.ViewTypes.{Moment, Number, Party, SessionNumber}
use Rattle.desk_words.specs.Sessions.{is_opened, last_number, last_session}
use Rattle.vocabulary.specs.declared.refusal.Refusal.TheVariants.{SelfNamed, TooMany, NoRegister, NotOpened, NotPresent, NoRight, PollOrdered}
use Rattle.desk_words.specs.declared.limits.TheConstants.{MOST_AUTHORITIES}
use Rattle.desk_words.specs.declared.records.Authority.{Authority}
use Rattle.desk_words.specs.declared.records.DemandMark.{DemandMark}
use Rattle.desk_words.specs.declared.records.Meeting.{Meeting}
use Rattle.desk_words.specs.declared.records.PresenceMark.{PresenceMark}
use Rattle.desk_words.specs.declared.change.Entry.{Entry}
use Rattle.desk_words.specs.declared.change.Entry.TheVariants as entry
use Rattle.desk_words.specs.declared.own_things.Authorised.{Authorised}
use Rattle.desk_words.specs.declared.own_things.Received.{Received}
use Rattle.caller_view.specs.Rights.{governed_acts, no_runs}
use Rattle.party_views.specs.OwnViews.{holds_as_individual}
use Rattle.party_views.specs.Public.{PublicRecord}
use Rattle.party_views.specs.declared.views.OwnView.{OwnView}

-- the party gave the person its authority already (section 323)
abbrev pub gave_authority : OwnView → Party → Bool
gave_authority own person = list_any (λ (a : Authority). same_name a.person person) own.persons

-- when an authority is not noted: the party names itself, or it gave `MOST_AUTHORITIES` already and
-- this is none of them
abbrev pub authorise_cases : OwnView → Party → List Case
authorise_cases own person =
    record { refusal = SelfNamed; holds = same_name person own.party }
    ∷ record {
      refusal = TooMany;
      holds = not (gave_authority own person) && nat_le MOST_AUTHORITIES (length own.persons);
    }
    ∷ []

-- the authority that is noted (section 323)
abbrev pub authority_of : OwnView → Moment → Party → Authority
authority_of own now person = record { corporation = own.party; person = person; moment = now }

-- an authority is noted, or refused by the party's own things; the register is not looked at
-- (section 323)
abbrev pub authorise_ruling : OwnView → Moment → Party → Ruling Entry
authorise_ruling own now person = record {
  cases = authorise_cases own person;
  accepted = noted (gave_authority own person) (entry.Authority (authority_of own now person));
}

-- the party is marked present in the last session (section 318)
abbrev pub is_present : Meeting → OwnView → Bool
is_present meeting own =
    list_any (λ (session : SessionNumber). session == last_number meeting) own.presences

-- the mark of the party's presence in the last session (section 318)
abbrev pub presence_of : Meeting → OwnView → Moment → PresenceMark
presence_of meeting own now = record {
  session = last_number meeting;
  party = own.party;
  moment = now;
}

-- a presence in the last session is noted (section 318)
abbrev pub attend_ruling : Meeting → OwnView → Moment → Ruling Entry
attend_ruling meeting own now = record {
  cases = [];
  accepted = noted (is_present meeting own) (entry.Presence (presence_of meeting own now));
}

-- the party may act for a corporation of the register (section 323)
abbrev pub represents : OwnView → Bool
represents own = list_any (λ (a : Authorised). nat_lt 0 a.shares) own.authorised

-- the party governs at least one share for acts in the last session (section 324)
abbrev pub governs_any : Meeting → OwnView → Bool
governs_any meeting own =
    list_any (λ (r : Received). not (no_runs (governed_acts (last_number meeting) r))) own.received

-- the party is a member, a representative or a proxy in the last session (sections 321, 323 and
-- 329)
abbrev pub may_demand : Meeting → OwnView → Bool
may_demand meeting own =
    holds_as_individual own.row || represents own || governs_any meeting own

-- the demand was made in the last session, of a poll on the resolution
abbrev pub is_demand_now : Meeting → Number → DemandMark → Bool
is_demand_now meeting resolution d =
    d.session == last_number meeting && d.resolution == resolution

-- the party has demanded a poll on the resolution already, in the last session
abbrev pub own_demanded : Meeting → OwnView → Number → Bool
own_demanded meeting own resolution = list_any (is_demand_now meeting resolution) own.demands

-- when a demand is not noted: each but the poll is asked of the last session (section 321)
abbrev pub demand_cases : PublicRecord → Meeting → OwnView → Number → List Case
demand_cases public meeting own resolution =
    no_resolution meeting resolution
    ∷ record { refusal = NoRegister; holds = not meeting.loaded }
    ∷ record { refusal = NotOpened; holds = not (is_opened (last_session meeting)) }
    ∷ record { refusal = NotPresent; holds = not (is_present meeting own) }
    ∷ record { refusal = NoRight; holds = not (may_demand meeting own) }
    ∷ record { refusal = PollOrdered; holds = is_some (poll_on public.polls resolution) }
    ∷ []

-- the demand that is noted, in the last session (section 321)
abbrev pub demand_mark : Meeting → OwnView → Moment → Number → DemandMark
demand_mark meeting own now resolution = record {
  session = last_number meeting;
  resolution = resolution;
  party = own.party;
  moment = now;
}

-- a demand is noted, or refused by the public record and the party's own things; whether the
-- demands are enough is not said (section 321)
abbrev pub demand_ruling : PublicRecord → Meeting → OwnView → Moment → Number → Ruling Entry
demand_ruling public meeting own now resolution = record {
  cases = demand_cases public meeting own resolution;
  accepted =
      noted (own_demanded meeting own resolution)
      (entry.Demand (demand_mark meeting own now resolution));
}
