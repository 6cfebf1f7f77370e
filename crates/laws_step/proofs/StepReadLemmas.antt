-- What is read of the rows gives what is read of the own things.
use Rattle.std.proofs.Common.{◌≡◌, ℕ, Bool, true, false, cond, List, [], filter, refl, ap, sym, ◌∙◌, true≢false}
use Rattle.std.specs.Prelude.{Option, Some, None}
use Rattle.std.specs.Option.{option_map_or}
use Rattle.std.proofs.lemmas.Bool.{eq-eqb}
use Rattle.vocabulary.specs.Names.{same_name}
use Rattle.vocabulary.specs.declared.kinds.Capacity.{Capacity}
use Rattle.vocabulary.specs.declared.kinds.Capacity.TheVariants.{Member, Rep, Proxy}
use Rattle.desk_words.specs.Rulings.{is_refused, ruled_answer}
use Rattle.desk_words.specs.declared.answer.Answer.{Answer}
use Rattle.desk_words.specs.declared.change.Entry.{Entry}
use Rattle.desk_words.specs.declared.records.Appointment.{Appointment}
use Rattle.desk_words.specs.declared.records.RegisterRow.{RegisterRow}
use Rattle.desk_words.specs.declared.request.NewCast.{NewCast}
use Rattle.desk_words.specs.declared.request.PartyRequest.{PartyRequest}
use Rattle.desk_words.specs.declared.request.PartyRequest.TheVariants.{Mine, Demand, Cast, Instructed}
use Rattle.proxy_rules.specs.Holdings.{is_given_by}
use Rattle.caller_view.specs.PartyRulings.{party_ruling}
use Rattle.party_views.specs.OwnViews.{holds_as_individual, nothing_of, own_by, own_from}
use Rattle.party_views.specs.Public.{PublicRecord}
use Rattle.party_views.specs.OwnCasts.{count_on, counted_on}
use Rattle.party_views.specs.declared.own_rows.OwnCasts.{OwnCasts}
use Rattle.party_views.specs.declared.own_rows.OwnCasts.TheVariants.{Counted}
use Rattle.party_views.specs.RowsRead.{appointments_read, authorities_read, gave_one_of, is_instructing, members_read, own_read, polls_read, row_read, own_rows_read}
use Rattle.party_views.specs.PartyRows.{no_own_rows, own_rows_in}
use Rattle.party_views.specs.Views.{own_in, public_in, meeting_at}
use Rattle.party_views.specs.declared.own_rows.AuthorityRows.{AuthorityRows}
use Rattle.party_views.specs.declared.own_rows.MemberRows.{MemberRows}
use Rattle.party_views.specs.declared.own_rows.OwnRows.{OwnRows}
use Rattle.party_views.proofs.OwnLemmas.{own-read}
use Rattle.caller_view.proofs.PartyReadLemmas.{filter-again, ruling-own_read}
use Rattle.laws_step.specs.WrongAnswers.{a_member, own_vote}
use Rattle.laws_step.specs.WrongOwnThings.{quiet_meeting}
use Rattle.laws_step.specs.WrongReads.{ReadsTooLittle, reads_no_row}
use Rattle.laws_step.specs.PartyReads.{ReadsEnough, RowsGiveOwnThings, RowsReadAreEnough}

appointments-again : (new : NewCast) (given : List Appointment) (capacity : Capacity)
    → appointments_read new (appointments_read new given capacity) capacity ≡ appointments_read new given capacity
appointments-again new given Proxy = filter-again (is_given_by new.member) given
appointments-again new given other = refl

members-again : (new : NewCast) (members : List MemberRows) (capacity : Capacity) → members_read new (members_read new members capacity) capacity ≡ members_read new members capacity
members-again new members Proxy = filter-again (λ (rows : MemberRows). same_name rows.member new.member) members
members-again new members other = refl

authorities-again : (new : NewCast) (authorised : List AuthorityRows) (capacity : Capacity)
    → authorities_read new (authorities_read new authorised capacity) capacity ≡ authorities_read new authorised capacity
authorities-again new authorised Rep = filter-again (λ (rows : AuthorityRows). same_name rows.authority.corporation new.member) authorised
authorities-again new authorised other = refl

casts-again : (resolution : ℕ) (casts : OwnCasts) → counted_on resolution (counted_on resolution casts) ≡ counted_on resolution casts
casts-again resolution casts = ap (λ b. Counted resolution (cond b (count_on casts resolution) 0)) (eq-eqb resolution resolution refl)

row-again : (row : Option RegisterRow) (capacity : Capacity) → row_read (row_read row capacity) capacity ≡ row_read row capacity
row-again row Member = refl
row-again row other = refl

unless-again : {X : Type 0} (individual : Bool) (xs : List X) → cond individual [] (cond individual [] xs) ≡ cond individual [] xs
unless-again true xs = refl
unless-again false xs = refl

-- of the rows that are read the same are read
rows-again : (asked : PartyRequest) (rows : OwnRows) → own_rows_read asked (own_rows_read asked rows) ≡ own_rows_read asked rows
rows-again Mine rows = refl
rows-again (Demand resolution) rows =
    let individual = holds_as_individual rows.row in
    λ i. record (own_rows_read (Demand resolution) rows) {
      received = unless-again individual rows.received i;
      members = unless-again individual rows.members i;
      authorised = unless-again individual rows.authorised i;
    }
rows-again (Cast new) rows =
    let row = row-again rows.row new.capacity in
    let received = appointments-again new rows.received new.capacity in
    let members = members-again new rows.members new.capacity in
    let authorised = authorities-again new rows.authorised new.capacity in
    let casts = casts-again new.resolution rows.casts in
    λ i. record (no_own_rows rows.party) {
      row = row i;
      received = received i;
      members = members i;
      authorised = authorised i;
      casts = casts i;
    }
rows-again (Instructed resolution) rows =
    let received = filter-again (is_instructing resolution) rows.received in
    let given = filter (is_instructing resolution) rows.received in
    let members : filter (gave_one_of (filter (is_instructing resolution) given)) (filter (gave_one_of given) rows.members) ≡ filter (gave_one_of given) rows.members =
    ap (λ those. filter (gave_one_of those) (filter (gave_one_of given) rows.members)) received ∙ filter-again (gave_one_of given) rows.members in
    λ i. record (own_rows_read (Instructed resolution) rows) {
      received = received i;
      members = members i;
      casts = casts-again resolution rows.casts i;
    }
rows-again other rows = refl

-- and they are the same party's
party-read : (asked : PartyRequest) (rows : OwnRows) → (own_rows_read asked rows).party ≡ rows.party
party-read Mine rows = refl
party-read other rows = refl

-- what is read of own things that are made of the rows that are read
read-alike : (rows : OwnRows) (public : PublicRecord) (now : ℕ) (asked : PartyRequest)
    → own_read asked (own_from (own_rows_read asked rows) public now) ≡ own_read asked (own_from rows public now)
read-alike rows public now asked =
    elim (public.meeting) as (λ found. own_read asked (option_map_or (λ meeting. own_by (own_rows_read asked rows) public.closed meeting public.polls now) found (nothing_of (own_rows_read asked rows).party))
    ≡ own_read asked (option_map_or (λ meeting. own_by rows public.closed meeting public.polls now) found (nothing_of rows.party))) [
      | None ↦ ap (λ party. own_read asked (nothing_of party)) (party-read asked rows)
      | Some meeting ↦
          sym (own-read asked (own_rows_read asked rows) public.closed meeting public.polls now)
          ∙ ap (λ read. own_by read public.closed meeting (polls_read asked public.polls) now) (rows-again asked rows)
          ∙ own-read asked rows public.closed meeting public.polls now
    ]

pub own_enough : ReadsEnough own_read
own_enough public own now asked = ap ruled_answer (ruling-own_read public own now asked)

pub rows_enough : RowsReadAreEnough
rows_enough rows public now asked =
    sym (own_enough public (own_from (own_rows_read asked rows) public now) now asked)
    ∙ ap (λ own. ruled_answer (party_ruling public own now asked)) (read-alike rows public now asked)
    ∙ own_enough public (own_from rows public now) now asked

pub own_of_rows : RowsGiveOwnThings
own_of_rows office meeting rows public now same known =
    ap (λ made. own_from made public now) same
    ∙ ap (λ record_of. own_from (own_rows_in (meeting_at office meeting) rows.party) record_of now) known

-- ---- a wrong reading

pub row_missed : ReadsTooLittle reads_no_row quiet_meeting a_member own_vote
row_missed = record {
  is_one = refl;
  apart = λ h. absurd (true≢false (ap (λ (a : Answer Entry). is_refused a) h));
}

pub row_missed_caught : ReadsEnough reads_no_row → ⊥
row_missed_caught law = row_missed.apart (law (public_in (Some quiet_meeting) []) (own_in quiet_meeting [] a_member 0) 0 own_vote)
