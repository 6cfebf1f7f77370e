use Rattle.std.proofs.Common.{◌≡◌, ℕ, true, List, refl, ap, sym, ◌∙◌}
use Rattle.std.specs.List.{list_any, slice_get}
use Rattle.std.specs.Prelude.{Some}
use Rattle.std.proofs.lemmas.Option.{slice_get-get_or}
use Rattle.std.proofs.lemmas.Result.{IfOk-weaker}
use Rattle.desk_words.specs.declared.records.Appointment.{Appointment}
use Rattle.desk_words.specs.declared.records.Ending.{Ending}
use Rattle.proxy_rules.specs.Alone.{holding_from}
use Rattle.proxy_rules.specs.Governing.{governed_in}
use Rattle.proxy_rules.specs.Holdings.{are_numbered_from}
use Rattle.proxy_rules.specs.GoverningLaws.{has_number}
use Rattle.proxy_rules.proofs.AloneLemmas.{governed_among, governed_none, none_numbered, rest_is, stands}
use Rattle.proxy_rules.proofs.claims.Claims.governed_by.Goals as goal

pub runs_of-requires : goal.runs_of-requires
runs_of-requires c =
    let xs = c.appointed-appointed.result.now in
    let place = c.in-Some.place in
    let a = c.index-appointed-place.result in
    let numbered : are_numbered_from 0 xs ≡ true = ap (are_numbered_from 0) c.appointed-appointed.ensures ∙ c.requires.numbered in
    let there : slice_get xs place ≡ Some a = slice_get-get_or xs place a c.in-Some.ensures.some.1 ∙ ap Some (sym c.index-appointed-place.is) in
    ap (list_any (has_number a.number)) (rest_is place xs) ∙ (stands 0 xs place a numbered there).after

pub returns-in-Some : goal.returns-in-Some
returns-in-Some c =
    let xs = c.appointed-appointed.result.now in
    let place = c.in-Some.place in
    let a = c.index-appointed-place.result in
    let cutoffs = c.args.cutoffs.now in
    let holding = c.args.self.now in
    let numbered : are_numbered_from 0 xs ≡ true = ap (are_numbered_from 0) c.appointed-appointed.ensures ∙ c.requires.numbered in
    let there : slice_get xs place ≡ Some a = slice_get-get_or xs place a c.in-Some.ensures.some.1 ∙ ap Some (sym c.index-appointed-place.is) in
    let all =
    ap (λ (later : List Appointment). governed_in cutoffs (holding_from c.shares.result a later c.ended-ended.result.now) a.number) (rest_is place xs)
    ∙ governed_among cutoffs c.shares.result xs c.ended-ended.result.now place a c.args.number numbered there c.in-Some.ensures.some.0
    ∙ ap (λ (given : List Appointment). governed_in cutoffs (record { shares = c.shares.result; appointed = given; ended = c.ended-ended.result.now }) c.args.number) c.appointed-appointed.ensures
    ∙ ap (λ (ended : List Ending). governed_in cutoffs (record { shares = c.shares.result; appointed = holding.appointed; ended = ended }) c.args.number) c.ended-ended.ensures
    ∙ ap (λ (shares : ℕ). governed_in cutoffs (record { shares = shares; appointed = holding.appointed; ended = holding.ended }) c.args.number) c.shares.ensures in
    IfOk-weaker c.runs_of.result _ (λ runs. runs.items ≡ governed_in cutoffs holding c.args.number) (λ runs same. same ∙ all) c.runs_of.ensures

pub returns-in-None : goal.returns-in-None
returns-in-None c =
    let holding = c.args.self.now in
    let cutoffs = c.args.cutoffs.now in
    let past = c.in-None.ensures.none refl in
    let xs = c.appointed-appointed.result.now in
    let numbered : are_numbered_from 0 xs ≡ true = ap (are_numbered_from 0) c.appointed-appointed.ensures ∙ c.requires.numbered in
    c.new.ensures.items
    ∙ sym (governed_none cutoffs holding.shares xs holding.ended c.args.number (none_numbered xs c.args.number numbered past))
    ∙ ap (λ (given : List Appointment). governed_in cutoffs (record { shares = holding.shares; appointed = given; ended = holding.ended }) c.args.number) c.appointed-appointed.ensures
