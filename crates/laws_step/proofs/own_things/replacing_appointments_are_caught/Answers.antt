use Rattle.laws_step.specs.WrongReplaced.{number_shown, places_shown, proxy_shown, replaced_by_one_else, replaced_once, replaced_over_more, replaced_twice, replaced_under_another_name, row_shown, shown_with}
use Rattle.laws_step.proofs.WrongReplaced.{caught_by, name_caught, number_more, places_more, proxy_more, row_more}
use Rattle.laws_step.proofs.own_things.replacing_appointments_are_caught.Goals as goal

pub returns-clause-number : goal.returns-clause-number
returns-clause-number c = number_more

pub returns-clause-proxy : goal.returns-clause-proxy
returns-clause-proxy c = proxy_more

pub returns-clause-places : goal.returns-clause-places
returns-clause-places c = places_more

pub returns-clause-row : goal.returns-clause-row
returns-clause-row c = row_more

pub returns-clause-number_caught : goal.returns-clause-number_caught
returns-clause-number_caught c = caught_by (shown_with number_shown) replaced_once replaced_twice number_more

pub returns-clause-proxy_caught : goal.returns-clause-proxy_caught
returns-clause-proxy_caught c = caught_by (shown_with proxy_shown) replaced_once replaced_by_one_else proxy_more

pub returns-clause-places_caught : goal.returns-clause-places_caught
returns-clause-places_caught c = caught_by (shown_with places_shown) replaced_once replaced_over_more places_more

pub returns-clause-row_caught : goal.returns-clause-row_caught
returns-clause-row_caught c = caught_by row_shown replaced_once replaced_under_another_name row_more

pub returns-clause-name_caught : goal.returns-clause-name_caught
returns-clause-name_caught c = name_caught
