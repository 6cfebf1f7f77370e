use Rattle.std.proofs.Common.{◌≡◌, ◌<◌, ℕ, min, ap, sym, ◌∙◌, arith}
use Rattle.std.specs.List.{list_any}
use Rattle.std.specs.Prelude.{nat_le}
use Rattle.std.proofs.lemmas.Bool.Decides.{nat_tests}
use Rattle.std.proofs.lemmas.Result.{IfOk-weaker}
use Rattle.vocabulary.specs.Places.{Places, holds}
use Rattle.proxy_rules.specs.Alone.{holding_from, is_left}
use Rattle.proxy_rules.specs.Governing.{ends, governed_in, is_over}
use Rattle.proxy_rules.specs.PlaceRuns.{runs_that}
use Rattle.proxy_rules.proofs.AloneLemmas.{begins_past, counts_not, governs_left, governs_nothing, is_over_ended}
use Rattle.proxy_rules.proofs.alone.runs_of.Goals as goal
use Rattle.proxy_rules.proofs.alone.runs_of.Goals.{then-last-from-via-then-last-from, then-last-from-via-else-last-from+then-ended, then-last-from-via-else-last-from+else-ended+then-not-counts}

pub returns-then-last-from : goal.returns-then-last-from
returns-then-last-from c =
    let cutoffs = c.args.cutoffs.now in
    let a = c.args.appointment.now in
    let is_ended = list_any (ends cutoffs a.number) c.args.ended.now in
    let nothing = governs_nothing cutoffs c.args.shares a c.args.later.now c.args.ended.now c.requires in
    let last : c.min-last.result ≡ min c.args.shares a.range.to = c.min-last.ensures ∙ ap (min c.args.shares) (c.to.ensures.value ∙ ap (λ (r : Places). r.to) c.range-2.ensures) in
    c.new.ensures.items ∙ sym (elim c.then-last-from.branch [
      | then-last-from-via-then-last-from w ↦
          let past : c.min-last.result < a.range.from = grind (arith, nat_tests, w.if-last-from.true, c.from-from.ensures.value, c.range.ensures) in
          nothing (λ place low high. begins_past cutoffs a c.args.shares c.min-last.result place is_ended last past high)
      | then-last-from-via-else-last-from+then-ended w ↦
          nothing (λ place low high. is_over_ended (is_over cutoffs place a) is_ended (ap (λ (n : ℕ). list_any (ends cutoffs n) c.args.ended.now) (sym c.number.ensures) ∙ sym c.is_ended-ended.ensures ∙ w.if-ended.true))
      | then-last-from-via-else-last-from+else-ended+then-not-counts w ↦
          nothing (λ place low high. counts_not (nat_le a.moment cutoffs.appointments) (holds a.range place) is_ended (sym w.counts.ensures ∙ w.if-not-counts.true))
    ])

pub returns : goal.returns
returns c =
    let cutoffs = c.args.cutoffs.now in
    let a = c.args.appointment.now in
    let later = c.args.later.now in
    let all = governed_in cutoffs (holding_from c.args.shares a later c.args.ended.now) a.number in
    let last : c.min-last.result ≡ min c.args.shares a.range.to = c.min-last.ensures ∙ ap (min c.args.shares) (c.to.ensures.value ∙ ap (λ (r : Places). r.to) c.range-2.ensures) in
    let held : c.with_ends.result ≡ record { from = a.range.from; to = c.min-last.result } =
    c.with_ends.ensures ∙ ap (λ (n : ℕ). record { from = n; to = c.min-last.result }) (c.from-from.ensures.value ∙ ap (λ (r : Places). r.from) c.range.ensures) in
    IfOk-weaker c.runs_left.result
    (λ runs. runs.items ≡ runs_that (is_left cutoffs later c.with_ends.result) c.with_ends.result.to)
    (λ runs. runs.items ≡ all)
    (λ runs same.
    same
    ∙ ap (λ (r : Places). runs_that (is_left cutoffs later r) r.to) held
    ∙ governs_left cutoffs c.args.shares a later c.args.ended.now c.requires c.min-last.result last (sym c.counts.ensures ∙ c.if-not-counts.false) (ap (λ (n : ℕ). list_any (ends cutoffs n) c.args.ended.now) (sym c.number.ensures) ∙ sym c.is_ended-ended.ensures ∙ c.if-ended.false))
    c.runs_left.ensures
