use Rattle.std.proofs.Common.{◌≡◌, Err, List, [], ◌∷◌, ◌++◌, length, nat_eq, ap, rules, ◌∙◌}
use Rattle.desk_words.specs.declared.records.Appointment.{Appointment}
use Rattle.party_views.specs.declared.own_rows.MemberRows.{MemberRows}
use Rattle.row_source.specs.LookUps.{member_with, naming_in}
use Rattle.row_source.specs.declared.source.GivenTo.{GivenTo}
use Rattle.row_source.proofs.MemberLemmas.{one_named}
use Rattle.row_source.proofs.SourceLookUpLemmas.{holds_after, holds_both, holds_refused, holds_so}
use Rattle.row_source.proofs.members.named_by.Goals as goal

pub returns-in_err-member_with : goal.returns-in_err-member_with
returns-in_err-member_with g c =
    let w = g.met.R.RowSource in
    let is : c.from_residual-in_err-member_with.result ≡ Err c.in_err-member_with.field-0.0 = search rules in
    holds_after _ _ _ _ _ w.still_shows w.was_trusted w.keeps_then w.leaves_then _ _ _ c.in_ok-given.given c.in_err-member_with.field-0.0 _ _ _ _ is
    c.in_ok-given.ensures c.in_err-member_with.ensures

pub returns-in_err-push : goal.returns-in_err-push
returns-in_err-push g c =
    let w = g.met.R.RowSource in
    holds_refused _ _ _ _ _ _ _ c.in_ok-member_with.field-0 _ _ _ _ w.memory_may_fail c.from_residual-in_err-push.ensures.1
    (holds_both _ _ _ _ _ w.still_shows w.was_trusted w.keeps_then w.leaves_then _ _ _ c.in_ok-given.given c.in_ok-member_with.field-0 _ _ c.in_ok-given.ensures c.in_ok-member_with.ensures)

pub returns : goal.returns
returns g c =
    let w = g.met.R.RowSource in
    holds_so _ _ _ _ _ _ _ c.in_ok-member_with.field-0 _ _ _ (holds_both _ _ _ _ _ w.still_shows w.was_trusted w.keeps_then w.leaves_then _ _ _ c.in_ok-given.given c.in_ok-member_with.field-0 _ _ c.in_ok-given.ensures c.in_ok-member_with.ensures)
    (λ found p.
    let received = ap (λ (given : GivenTo). given.received) p.0 in
    let rows = p.1 ∙ ap (λ (given : GivenTo). member_with found c.args.member given.claims) p.0 in
    let put = c.in_ok-push.ensures.ok ∙ ap (λ (l : List MemberRows). l ++ c.in_ok-member_with.field-0 ∷ []) c.new-members.ensures in
    let one = one_named found c.args.member (naming_in found c.args.party) c.is_empty.result c.if-is_empty.false (c.is_empty.ensures ∙ ap (λ (l : List Appointment). nat_eq (length l) 0) received) in
    let members = put ∙ ap (λ r. r ∷ []) rows ∙ one in
    λ i. record { received = received i; members = members i })
