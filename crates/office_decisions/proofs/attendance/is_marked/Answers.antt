use Rattle.std.proofs.Common.{Bool, List, ap, ◌∙◌}
use Rattle.std.specs.List.{filter_map, list_any, slice_get}
use Rattle.std.specs.Prelude.{ℕ, ◌==◌}
use Rattle.seq.proofs.Filtered.{any-filter}
use Rattle.desk_words.specs.Names.{same_name}
use Rattle.desk_words.specs.Sessions.{last_number}
use Rattle.desk_words.specs.declared.records.PresenceMark.{PresenceMark}
use Rattle.proxy_rules.proofs.ProxyNameLemmas.{filter-named}
use Rattle.office_decisions.proofs.attendance.is_marked.Goals as goal

pub returns : goal.returns
returns c =
    let all = c.args.presences.now in
    let last = last_number c.args.meeting.now in
    let at : ℕ → PresenceMark → Bool = λ session mark. mark.session == session in
    c.any_in.ensures
    ∙ ap (λ session. list_any (at session) (filter_map (slice_get c.as_slice.result.now) c.places_by_first-places.result.now)) c.last_number.ensures
    ∙ ap (λ (marks : List PresenceMark). list_any (at last) (filter_map (slice_get marks) c.places_by_first-places.result.now)) c.as_slice.ensures
    ∙ ap (list_any (at last)) (c.places_by_first-places.ensures.picked ∙ filter-named (λ (x : PresenceMark). x.party) c.args.party all)
    ∙ any-filter (at last) (λ (mark : PresenceMark). same_name mark.party c.args.party) all
