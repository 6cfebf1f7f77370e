use Rattle.std.proofs.Common.{◌≡◌, Err, ap, length, rules, ◌∙◌}
use Rattle.party_views.specs.PartyRows.{no_own_rows}
use Rattle.party_views.specs.declared.own_rows.OwnCasts.TheVariants.{All}
use Rattle.row_source.proofs.SourceRowLemmas.{rows_are}
use Rattle.row_source.proofs.SourceLookUpLemmas.{handed_on, holds_after, holds_both, holds_so}
use Rattle.row_source.proofs.needed_rows.read_all.Goals as goal

pub returns-in_err-ended : goal.returns-in_err-ended
returns-in_err-ended g c =
    let w = g.met.R.RowSource in
    let is : c.from_residual-in_err-ended.result ≡ Err c.in_err-ended.field-0.0 = search rules in
    holds_after _ _ _ _ _ w.still_shows w.was_trusted w.keeps_then w.leaves_then _ _ _ c.in_ok-given.given c.in_err-ended.field-0.0 _ _ _ _ is
    c.in_ok-given.ensures c.in_err-ended.ensures

pub returns-in_err-persons : goal.returns-in_err-persons
returns-in_err-persons g c =
    let w = g.met.R.RowSource in
    let is : c.from_residual-in_err-persons.result ≡ Err c.in_err-persons.field-0.0 = search rules in
    holds_after _ _ _ _ _ w.still_shows w.was_trusted w.keeps_then w.leaves_then _ _ _ c.in_ok-ended.ended c.in_err-persons.field-0.0 _ _ _ _ is
    (holds_both _ _ _ _ _ w.still_shows w.was_trusted w.keeps_then w.leaves_then _ _ _ c.in_ok-given.given c.in_ok-ended.ended _ _ c.in_ok-given.ensures c.in_ok-ended.ensures) c.in_err-persons.ensures

pub returns-in_err-casts : goal.returns-in_err-casts
returns-in_err-casts g c =
    let w = g.met.R.RowSource in
    let is : c.from_residual-in_err-casts.result ≡ Err c.in_err-casts.field-0.0 = search rules in
    holds_after _ _ _ _ _ w.still_shows w.was_trusted w.keeps_then w.leaves_then _ _ _ c.in_ok-persons.persons c.in_err-casts.field-0.0 _ _ _ _ is
    (holds_both _ _ _ _ _ w.still_shows w.was_trusted w.keeps_then w.leaves_then _ _ _ c.in_ok-ended.ended c.in_ok-persons.persons _ _ (holds_both _ _ _ _ _ w.still_shows w.was_trusted w.keeps_then w.leaves_then _ _ _ c.in_ok-given.given c.in_ok-ended.ended _ _ c.in_ok-given.ensures c.in_ok-ended.ensures) c.in_ok-persons.ensures) c.in_err-casts.ensures

pub returns-in_err-received : goal.returns-in_err-received
returns-in_err-received g c =
    let w = g.met.R.RowSource in
    let is : c.from_residual-in_err-received.result ≡ Err c.in_err-received.field-0.0 = search rules in
    holds_after _ _ _ _ _ w.still_shows w.was_trusted w.keeps_then w.leaves_then _ _ _ c.in_ok-casts.casts c.in_err-received.field-0.0 _ _ _ _ is
    (holds_both _ _ _ _ _ w.still_shows w.was_trusted w.keeps_then w.leaves_then _ _ _ c.in_ok-persons.persons c.in_ok-casts.casts _ _ (holds_both _ _ _ _ _ w.still_shows w.was_trusted w.keeps_then w.leaves_then _ _ _ c.in_ok-ended.ended c.in_ok-persons.persons _ _ (holds_both _ _ _ _ _ w.still_shows w.was_trusted w.keeps_then w.leaves_then _ _ _ c.in_ok-given.given c.in_ok-ended.ended _ _ c.in_ok-given.ensures c.in_ok-ended.ensures) c.in_ok-persons.ensures) c.in_ok-casts.ensures) c.in_err-received.ensures

pub returns-in_err-row : goal.returns-in_err-row
returns-in_err-row g c =
    let w = g.met.R.RowSource in
    let is : c.from_residual-in_err-row.result ≡ Err c.in_err-row.field-0.0 = handed_on c.from_residual-in_err-row.result c.in_err-row.field-0.0 c.from_residual-in_err-row.ensures.1 in
    holds_after _ _ _ _ _ w.still_shows w.was_trusted w.keeps_then w.leaves_then _ _ _ c.in_ok-received.field-0 c.in_err-row.field-0.0 _ _ _ _ is
    (holds_both _ _ _ _ _ w.still_shows w.was_trusted w.keeps_then w.leaves_then _ _ _ c.in_ok-casts.casts c.in_ok-received.field-0 _ _ (holds_both _ _ _ _ _ w.still_shows w.was_trusted w.keeps_then w.leaves_then _ _ _ c.in_ok-persons.persons c.in_ok-casts.casts _ _ (holds_both _ _ _ _ _ w.still_shows w.was_trusted w.keeps_then w.leaves_then _ _ _ c.in_ok-ended.ended c.in_ok-persons.persons _ _ (holds_both _ _ _ _ _ w.still_shows w.was_trusted w.keeps_then w.leaves_then _ _ _ c.in_ok-given.given c.in_ok-ended.ended _ _ c.in_ok-given.ensures c.in_ok-ended.ensures) c.in_ok-persons.ensures) c.in_ok-casts.ensures) c.in_ok-received.ensures) c.in_err-row.ensures

pub returns : goal.returns
returns g c =
    let w = g.met.R.RowSource in
    holds_so _ _ _ _ _ _ _ c.in_ok-row.field-0 _ _ _ (holds_both _ _ _ _ _ w.still_shows w.was_trusted w.keeps_then w.leaves_then _ _ _ c.in_ok-received.field-0 c.in_ok-row.field-0 _ _ (holds_both _ _ _ _ _ w.still_shows w.was_trusted w.keeps_then w.leaves_then _ _ _ c.in_ok-casts.casts c.in_ok-received.field-0 _ _ (holds_both _ _ _ _ _ w.still_shows w.was_trusted w.keeps_then w.leaves_then _ _ _ c.in_ok-persons.persons c.in_ok-casts.casts _ _ (holds_both _ _ _ _ _ w.still_shows w.was_trusted w.keeps_then w.leaves_then _ _ _ c.in_ok-ended.ended c.in_ok-persons.persons _ _ (holds_both _ _ _ _ _ w.still_shows w.was_trusted w.keeps_then w.leaves_then _ _ _ c.in_ok-given.given c.in_ok-ended.ended _ _ c.in_ok-given.ensures c.in_ok-ended.ensures) c.in_ok-persons.ensures) c.in_ok-casts.ensures) c.in_ok-received.ensures) c.in_ok-row.ensures)
    (λ found p. (λ i. record (no_own_rows c.args.party) {
      received = (p.0.1 i).received;
      members = (p.0.1 i).members;
      authorised = (p.0.1 i).authorised;
      row = (p.1 i).row;
      presences = (p.1 i).presences;
      demands = (p.1 i).demands;
      given = p.0.0.0.0.0 i;
      given_count = (c.len.ensures ∙ ap length p.0.0.0.0.0) i;
      ended = p.0.0.0.0.1 i;
      persons = p.0.0.0.1 i;
      casts = All (p.0.0.1 i);
    }) ∙ rows_are found c.args.party)
