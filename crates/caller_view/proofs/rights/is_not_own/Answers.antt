use Rattle.std.proofs.Common.{List, ap, sym, ◌∙◌}
use Rattle.desk_words.specs.declared.own_things.Received.{Received}
use Rattle.caller_view.specs.Rights.{governed_at_poll, is_governed, is_not_own, some_fail}
use Rattle.caller_view.proofs.rights.is_not_own.Goals as goal

pub returns-in-Proxy : goal.returns-in-Proxy
returns-in-Proxy c =
    let a = c.args in
    let governs = governed_at_poll a.late a.poll.now in
    c.some_ungoverned.ensures
    ∙ ap (λ (received : List Received). some_fail (is_governed received governs a.new.now) a.new.now.from a.new.now.to) c.as_slice-in-Proxy.ensures
    ∙ ap (is_not_own a.own.now governs a.new.now) (sym c.in-Proxy.is)
