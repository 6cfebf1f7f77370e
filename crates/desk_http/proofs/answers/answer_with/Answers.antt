use Rattle.std.proofs.Common.{Some, sym, ◌∙◌}
use Rattle.meeting_core.specs.KeyHolders.{caller_with}
use Rattle.desk_http.specs.HttpAnswers.{call_of}
use Rattle.http_requests.specs.declared.received.ReceivedRequest.TheVariants.{With}
use Rattle.desk_http.proofs.AnswerLemmas.{found_cut, makes_found, makes_reading, nobody_done, unmade_behind}
use Rattle.desk_http.proofs.answers.answer_with.Goals as goal

pub returns-in-Some-clause-makes : goal.returns-in-Some-clause-makes
returns-in-Some-clause-makes g c =
    makes_found g.O.Office c.answer_to.result (Some c.in-Some.caller) c.args.moment c.args.key c.args.content
    c.args.office.now c.caller_of.new.self c.answer_to.new.office
    (λ reliable office stands. sym c.in-Some.is ∙ c.in_ok-caller.ensures.found reliable office stands) c.in_ok-caller.ensures.leaves c.in_ok-caller.ensures.crash
    c.answer_to.ensures.leaves c.answer_to.ensures.leads

pub returns-in-None-clause-makes : goal.returns-in-None-clause-makes
returns-in-None-clause-makes g c =
    makes_reading g.O.Office c.args.moment (With c.args.key c.args.content) c.args.office.now c.caller_of.new.self c.in_ok-caller.ensures.leaves c.in_ok-caller.ensures.crash

pub returns-in-None-clause-done : goal.returns-in-None-clause-done
returns-in-None-clause-done g c = λ reliable office stands.
    let returned = c.in_ok-caller.ensures in
    let there = returned.leaves.stands reliable (returned.stays_open reliable) office stands in
    nobody_done (g.O.Office.stands c.caller_of.new.self) office c.args.moment there (caller_with office.keys c.args.key) c.args.content c.refused.result
    (sym (returned.found reliable office stands) ∙ c.in-None.is) c.refused.ensures.shown

pub returns-in-Some-clause-unmade : goal.returns-in-Some-clause-unmade
returns-in-Some-clause-unmade g c =
    unmade_behind g.O.Office c.answer_to.result (call_of c.args.moment (Some c.in-Some.caller) c.args.content) c.args.office.now c.caller_of.new.self c.answer_to.new.office c.in_ok-caller.ensures.leaves c.answer_to.ensures.leaves

pub returns-in-Some-clause-cause : goal.returns-in-Some-clause-cause
returns-in-Some-clause-cause g c =
    found_cut g.O.Office c.answer_to.result c.args.key c.args.content c.in-Some.caller c.args.office.now c.caller_of.new.self c.answer_to.new.office
    (λ reliable office stands. sym c.in-Some.is ∙ c.in_ok-caller.ensures.found reliable office stands) c.answer_to.ensures.leaves.was_reliable c.answer_to.ensures.cause

pub returns-in_err-caller-clause-makes : goal.returns-in_err-caller-clause-makes
returns-in_err-caller-clause-makes g c =
    makes_reading g.O.Office c.args.moment (With c.args.key c.args.content) c.args.office.now c.caller_of.new.self c.in_err-caller.ensures.leaves c.in_err-caller.ensures.crash
