use Rattle.std.proofs.Common.{◌≡◌, ◌+◌, ◌*◌, ◌/◌, ◌%◌, Some, ap, ◌∙◌, arith}
use Rattle.calendar.proofs.Digits.{moment_of-day_text}
use Rattle.calendar.specs.DateTexts.{day_text}
use Rattle.calendar.proofs.CalendarParts.{moment_text-day_text}
use Rattle.calendar.proofs.text.write_moment.Goals as goal

pub returns-clause-reads_back : goal.returns-clause-reads_back
returns-clause-reads_back c =
    let text = c.write_day.result in
    let day = c.day.result in
    let second = c.second_of_day-second.result in
    let whole : 86400 * day + (3600 * (second / 3600) + 60 * (second / 60 % 60) + second % 60) ≡ c.args.moment = omega arith in
    rw (c.digits-k.ensures.tens, c.digits-k.ensures.ones, c.digits-m.ensures.tens, c.digits-m.ensures.ones, c.digits-o.ensures.tens, c.digits-o.ensures.ones)
    (moment_of-day_text text (second / 3600) (second / 60 % 60) (second % 60) day c.write_day.ensures.reads_back (omega arith) (omega arith) (omega arith) ∙ ap Some whole)

pub returns-clause-text : goal.returns-clause-text
returns-clause-text c =
    let text = c.write_day.result in
    let second = c.second_of_day-second.result in
    rw (c.digits-k.ensures.tens, c.digits-k.ensures.ones, c.digits-m.ensures.tens, c.digits-m.ensures.ones, c.digits-o.ensures.tens, c.digits-o.ensures.ones, c.second_of_day-second.ensures.value)
    (moment_text-day_text text c.args.moment (c.write_day.ensures.text ∙ ap day_text c.day.ensures) (c.write_day.ensures.reads_back ∙ ap Some c.day.ensures))
