use Rattle.calendar.proofs.Digits.{day_of-bytes}
use Rattle.calendar.proofs.CalendarParts.{day_text-bytes}
use Rattle.calendar.proofs.text.write_day.Goals as goal

pub returns-clause-reads_back : goal.returns-clause-reads_back
returns-clause-reads_back c =
    let date = c.date_of_day-year.result in
    rw (c.digits-a.ensures.tens, c.digits-a.ensures.ones, c.digits-c.ensures.tens, c.digits-c.ensures.ones, c.digits-e.ensures.tens, c.digits-e.ensures.ones, c.digits-g.ensures.tens, c.digits-g.ensures.ones) (day_of-bytes date.0 date.1 date.2 c.args.day c.date_of_day-year.ensures)

pub returns-clause-text : goal.returns-clause-text
returns-clause-text c =
    let date = c.date_of_day-year.result in
    rw (c.digits-a.ensures.tens, c.digits-a.ensures.ones, c.digits-c.ensures.tens, c.digits-c.ensures.ones, c.digits-e.ensures.tens, c.digits-e.ensures.ones, c.digits-g.ensures.tens, c.digits-g.ensures.ones) (day_text-bytes date.0 date.1 date.2 c.args.day c.date_of_day-year.ensures)
