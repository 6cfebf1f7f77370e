-- The valid vote of a share.
use Rattle.std.specs.Prelude.{List, [], ◌∷◌, Option, Some, None, option_map, option_and_then, if◌then◌else◌}
use Rattle.std.specs.List.{filter_map, list_all, slice_get}
use Rattle.vocabulary.specs.declared.kinds.Capacity.{Capacity}
use Rattle.vocabulary.specs.declared.kinds.Capacity.TheVariants.{Member, Rep, Proxy}
use Rattle.vocabulary.specs.declared.kinds.Way.{Way}
use Rattle.desk_words.specs.ViewTypes.{Number, Party}
use Rattle.desk_words.specs.declared.records.Appointment.{Appointment}
use Rattle.desk_words.specs.declared.records.Authority.{Authority}
use Rattle.desk_words.specs.declared.records.RegisterRow.{RegisterRow}
use Rattle.proxy_rules.specs.Parties.{authorised_by}
use Rattle.proxy_rules.specs.Shares.{is_corporation, is_individual}
use Rattle.proxy_rules.specs.Instructions.{allows, instructed_on, same_way}

-- what each voter cast on a share in a capacity, where it cast anything
abbrev pub Casts : Type 0
Casts = Capacity → Party → Option Way

-- the vote by the first rule that applies, and none where none does; a rule that applies may also
-- say that there is none
abbrev pub first_that_applies : List (Option (Option Way)) → Option Way
first_that_applies [] = None
first_that_applies (None ∷ rules) = first_that_applies rules
first_that_applies (Some vote ∷ rules) = vote

-- the individual holder's own cast, where there is one
abbrev pub by_the_holder : Casts → RegisterRow → Option (Option Way)
by_the_holder cast row =
    if is_individual row.kind then option_map (λ way. Some way) (cast Member row.member) else None

-- the common way of casts, where there are any: that of the first, if all are cast that way; casts
-- that differ are no vote (own, after section 323)
abbrev pub common_way : List Way → Option (Option Way)
common_way ways =
    option_map (λ way. if list_all (same_way way) ways then Some way else None) (slice_get ways 0)

-- for a corporation's share on which any person with its authority has a cast as representative:
-- their common way (section 323)
abbrev pub by_the_representatives : Casts → List Authority → RegisterRow → Option (Option Way)
by_the_representatives cast authorities row =
    if is_corporation row.kind
    then common_way (filter_map (cast Rep) (authorised_by authorities row.member))
    else None

-- the cast of the proxy who governs the share, where there is one; against the instruction it is no
-- vote (sections 324 and 324A)
abbrev pub by_the_proxy : Casts → Number → Option Appointment → Option (Option Way)
by_the_proxy cast resolution governing =
    option_and_then
    (λ (a : Appointment). option_map
    (λ way. if allows (instructed_on resolution a.instructions) way then Some way else None)
    (cast Proxy a.proxy))
    governing

-- the valid vote of a share of a row (section 284), by what is cast on it and by the appointment
-- that governs it: the rules in their order
abbrev pub valid_vote : Casts → List Authority → Number → RegisterRow → Option Appointment
    → Option Way
valid_vote cast authorities resolution row governing =
    first_that_applies
    (by_the_holder cast row ∷ by_the_representatives cast authorities row
    ∷ by_the_proxy cast resolution governing ∷ [])
